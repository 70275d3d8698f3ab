-- Runs of calls: what a call is, what it makes of a market and answers, and which markets are reached.
use Rattle.std.specs.Prelude.{◌≡◌, Bool, true, false, List, [], ◌∷◌, ℕ, ltb, eqb, length, None, Option, Some}
use Rattle.units.specs.declared.Cents.{Cents}
use Rattle.units.specs.Tests.{pick}
use Rattle.rows.specs.Rows.{rows}
use Rattle.entry.specs.declared.Entry.{Entry}
use Rattle.entry.specs.declared.Settings.{Settings}
use Rattle.lanes.specs.Ring.{waiting_at}
use Rattle.session.specs.TurnAnswer.{TurnAnswer}
use Rattle.session.specs.TurnAnswer as turn_answer
use Rattle.session.specs.OpenAnswer.{OpenAnswer}
use Rattle.session.specs.OpenAnswer as open_answer
use Rattle.session.specs.Market.{Market, Called}
use Rattle.session.specs.Settings.{new_session, settings_of, away_of}
use Rattle.session.specs.Submit.{submit_of}
use Rattle.session.specs.Turn.{TurnDone, turn_of}
use Rattle.session.specs.Open.{OpenDone, open_of}

-- Calls: settings, away, submit, turn, open, with any numbers.
pub data Call : Type 0 where
  settings : Settings → Call
  -- bid and offer
  away : Cents → Cents → Call
  -- tenant, count, and the numbers lent, six for each entry
  submit : ℕ → ℕ → List ℕ → Call
  -- how many fill records are lent, and their numbers as found, four to a record
  turn : ℕ → List ℕ → Call
  opening : ℕ → List ℕ → Call

-- Settings, away and submit answer 0 or the number of the refusal; a turn and an opening have answers of their own.
pub data Answer : Type 0 where
  coded : ℕ → Answer
  turned : TurnAnswer → Answer
  opened : OpenAnswer → Answer

-- what a call leaves: the market, its answer, and the fill records lent to it
pub record Done : Type 0 where
  pub market : Market
  pub answer : Answer
  pub records : List ℕ

-- the fill records as lent; settings, away and submit are lent none
abbrev pub lent_to : Call → List ℕ
lent_to (settings given) = []
lent_to (away bid offer) = []
lent_to (submit tenant count ns) = []
lent_to (turn lent was) = was
lent_to (opening lent was) = was

abbrev called : Called → Done
called r = record { market = r.market; answer = coded r.code; records = [] }

abbrev taken : TurnDone → Done
taken r = record { market = r.market; answer = turned r.answer; records = r.records }

abbrev begun : OpenDone → Done
begun r = record { market = r.market; answer = opened r.answer; records = r.records }

-- One call: the definitions that the functions' promises are equations with.
abbrev pub step : Market → Call → Done
step m (settings given) = called (settings_of m given)
step m (away bid offer) = called (away_of m bid offer)
step m (submit tenant count ns) = called (submit_of m tenant count ns)
step m (turn lent was) = taken (turn_of m lent was)
step m (opening lent was) = begun (open_of m lent was)

-- A run is a list of calls, each on the market that the one before it left.
abbrev pub after : Market → List Call → Market
after m [] = m
after m (c ∷ cs) = after (step m c).market cs

-- what the calls of a run answer, in their order
abbrev pub answers : Market → List Call → List Answer
answers m [] = []
answers m (c ∷ cs) = (step m c).answer ∷ answers (step m c).market cs

-- the answer is a refusal: a number above 0 alone
abbrev pub is_refused : Answer → Bool
is_refused (coded code) = ltb 0 code
is_refused (turned (turn_answer.Refused code)) = true
is_refused (turned (turn_answer.TurnedDown tenant code)) = false
is_refused (turned (turn_answer.Cancelled tenant number)) = false
is_refused (turned (turn_answer.Accepted tenant number filled disposition fills)) = false
is_refused (opened (open_answer.Refused code)) = true
is_refused (opened (open_answer.AtPrice price volume fills)) = false

-- whose turn the answer says was taken, turned down or not
abbrev pub lane_in : Answer → (Option ℕ)
lane_in (coded code) = None
lane_in (turned (turn_answer.Refused code)) = None
lane_in (turned (turn_answer.TurnedDown tenant code)) = Some tenant
lane_in (turned (turn_answer.Cancelled tenant number)) = Some tenant
lane_in (turned (turn_answer.Accepted tenant number filled disposition fills)) = Some tenant
lane_in (opened a) = None

-- the entry at the head of tenant t's lane
abbrev pub head_entry : Market → ℕ → Entry
head_entry m t = waiting_at m.session.lanes m.entries t 0

-- the call is settings and it is accepted: the session starts anew
abbrev pub resets : Call → Answer → Bool
resets (settings given) (coded code) = eqb code 0
resets (settings given) (turned a) = false
resets (settings given) (opened a) = false
resets (away bid offer) a = false
resets (submit tenant count ns) a = false
resets (turn lent was) a = false
resets (opening lent was) a = false

-- What a run makes of x: f at each call, with the market before it; from none again at each accepted settings.
abbrev pub since : {A : Type 0} → (Market → Call → A → A) → A → A → Market → List Call → A
since f none x m [] = x
since f none x m (c ∷ cs) = since f none (pick (resets c (step m c).answer) none (f m c x)) (step m c).market cs

-- A new session beside any columns of 216 rows and any numbers in the lanes' entries.
pub record Start (m : Market) : Type 0 where
  pub new : m.session ≡ new_session
  pub places : m.book.places ≡ rows
  pub sides_long : length m.book.sides ≡ rows
  pub prices_long : length m.book.prices ≡ rows
  pub sizes_long : length m.book.sizes ≡ rows
  pub owners_long : length m.book.owners ≡ rows
  pub numbers_long : length m.book.numbers ≡ rows

-- A market is reached if some calls lead to it from a start.
pub record Reached (m : Market) : Type 0 where
  pub start : Market
  pub starts : Start start
  pub calls : List Call
  pub leads : after start calls ≡ m
