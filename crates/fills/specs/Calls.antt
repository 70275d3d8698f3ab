-- The calls turn and open with a row of fills lent.
use Rattle.std.specs.Prelude.{ℕ, ◌*◌, List, length, replicate, Result}
use Rattle.units.specs.Units.{tenants, cents, contracts}
use Rattle.rows.specs.Rows.{rows}
use Rattle.book.specs.declared.Fill.{Fill}
use Rattle.book.specs.Book.{Book}
use Rattle.book.specs.Records.{fields}
use Rattle.book.specs.Fills.{stored}
use Rattle.entry.specs.declared.refusal.Refusal.{Refusal}
use Rattle.session.specs.declared.Opening.{Opening}
use Rattle.session.specs.declared.Session.{Session}
use Rattle.session.specs.declared.Taken.{Taken}
use Rattle.session.specs.Left.{Turned}
use Rattle.session.specs.TurnAnswer.{TurnAnswer, turn_answer_of}
use Rattle.session.specs.Left.{Opened}
use Rattle.session.specs.OpenAnswer.{OpenAnswer, open_answer_of}
use Rattle.session.specs.Market.{Market, Done, market_of}
use Rattle.session.specs.Turn.{turn_of, fills_in}
use Rattle.session.specs.Open.{open_of, fills_in as fills_opened}

-- what a call makes of a market and of the row of fills lent to it, and what it answers
pub record Stored (A : Type 0) : Type 0 where
  pub market : Market
  pub answer : A
  pub fills : List Fill

-- what a turn answered, beside the book, the entries and the row that it left
abbrev pub turn_stored : Turned → Book → List ℕ → List Fill → Stored TurnAnswer
turn_stored r book entries fills = record { market = market_of r.session book entries; answer = turn_answer_of r.answer; fills = fills }

abbrev pub open_stored : Opened → Book → List ℕ → List Fill → Stored OpenAnswer
open_stored r book entries fills = record { market = market_of r.session book entries; answer = open_answer_of r.answer; fills = fills }

-- the same of the session that it left and its answer
abbrev pub turn_kept : Session → Result Taken Refusal → Book → List ℕ → List Fill → Stored TurnAnswer
turn_kept s answer book entries fills = turn_stored (record { session = s; answer = answer }) book entries fills

abbrev pub open_kept : Session → Result Opening Refusal → Book → List ℕ → List Fill → Stored OpenAnswer
open_kept s answer book entries fills = open_stored (record { session = s; answer = answer }) book entries fills

-- the records that a call wrote, as fills at the start of the row; the answer tells how many
abbrev pub in_row : {A : Type 0} → (A → ℕ) → Done A → List Fill → Stored A
in_row count d row = record { market = d.market; answer = d.answer; fills = stored d.records (count d.answer) row }

-- what a number of the flat records holds before a record is written there; `turn-over` and `open-over` of FlatLaws say
-- that any other makes no difference
abbrev pub unwritten : ℕ
unwritten = 1

-- flat records with nothing written
abbrev pub blank : List ℕ
blank = replicate (fields * rows) unwritten

-- the turn of the rules, with as many fill records lent as the row has
abbrev pub turn_with : Market → List Fill → Stored TurnAnswer
turn_with m row = in_row fills_in (turn_of m (length row) blank) row

abbrev pub open_with : Market → List Fill → Stored OpenAnswer
open_with m row = in_row fills_opened (open_of m (length row) blank) row

-- a fill of no tenant, as tenants are 0 to 8
abbrev pub empty_fill : Fill
empty_fill = record { number = 0; tenant = tenants; quantity = contracts 0; price = cents 0 }

-- a row of such fills, one for each row of the book
abbrev pub empty_row : List Fill
empty_row = replicate rows empty_fill
