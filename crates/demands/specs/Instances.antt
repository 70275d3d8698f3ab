-- The demands are about something: for each theorem a market that calls lead to from a fresh one of 216 rows, what is
-- answered there, and what the theorem says of it. One record with a field for each, and one value of it.
use Rattle.std.specs.Prelude.{◌≡◌, refl, ◌⊎◌, true, List, [], ◌∷◌, ◌++◌, ℕ, ◌≤◌, ◌<◌, Some}
use Rattle.std.proofs.Common.{sym, ap, ◌∙◌, subst, arith}
use Rattle.units.specs.Units.{tenants}
use Rattle.units.specs.Sums.{sum_to}
use Rattle.units.specs.Places.{at}
use Rattle.rows.specs.Rows.{rows}
use Rattle.book.specs.Book.{price_at}
use Rattle.lanes.specs.Ring.{len_of}
use Rattle.lanes.specs.Waiting.{given_in}
use Rattle.session.specs.TurnAnswer.{TurnAnswer}
use Rattle.tally.specs.declared.Tally.{Tally}
use Rattle.tally.specs.Tallies.{tally_at, bought_in_all, sold_in_all}
use Rattle.session.specs.Market.{Market}
use Rattle.session.specs.Sound.{Held}
use Rattle.session.specs.Submit.{submit_of}
use Rattle.session.specs.Turn as turn
use Rattle.session.specs.Turn.{turn_of}
use Rattle.session.specs.Open as opening
use Rattle.session.specs.Open.{open_of}
use Rattle.fills.specs.Calls.{blank}
use Rattle.demands.specs.Markets.{fresh}
use Rattle.demands.specs.Runs.{submit, turned, step, after, answers, is_refused, lane_in, Reached}
use Rattle.demands.specs.Runs.{opening as open_call}
use Rattle.demands.specs.RunLaws.{start_reached, reached_on}
use Rattle.demands.specs.Values.{turn_line, open_line}
use Rattle.demands.specs.Worked as example
use Rattle.demands.specs.Worked.{takes, calls, crossing, idle, fresh_starts, crossing_reached, sell_accepted, one_record}
use Rattle.demands.specs.Reaching as reaching
use Rattle.demands.specs.Reaching.{ordering, unopened, for_now, early, leaving, asked, asking, once_open, row_in, filling, busy, ten_turns}
use Rattle.demands.specs.InOrder.{rule_at}
use Rattle.demands.specs.SoundnessProof.{reached_sound}
use Rattle.demands.specs.Accepted.{always_one_class}
use Rattle.demands.specs.TurnCases.{named}
use Rattle.demands.specs.Demand1.{NothingChanged, OnlyTurnTaken}
use Rattle.demands.specs.Demand1Proof.{demand_1}
use Rattle.demands.specs.Demand2.{waiting_in, TakenBy, turn_down_rules, RestsAs, FilledRight, RecordedRight, LeftRight, OpenedAt}
use Rattle.demands.specs.Demand2Turn.{taken_by}
use Rattle.demands.specs.Demand2Proof.{demand2}
use Rattle.demands.specs.Demand3.{turns_taken, turns_of, Fair}
use Rattle.demands.specs.Demand3Proof.{demand_3}
use Rattle.demands.specs.Tallies.{turns_by, bought_by, sold_by, sum_since}
use Rattle.demands.specs.TalliesProof.{tallies_told}
use Rattle.demands.specs.Numbers.{numbers_since, GivenIn}
use Rattle.demands.specs.NumbersProof.{numbers_given}
use Rattle.demands.specs.OpenBookProof.{never_locked_or_crossed}

pub record Instances : Type 0 where
  -- Demand 1, refused calls. In the worked example nobody waits before the third turn.
  pub refused : (turn.printed (turn_of idle rows blank).answer ≡ turn.refused 5) × NothingChanged idle takes
  -- Demand 1, entries turned down. Before the opening tenant 4's order for now is turned down by 10.
  pub turned_down :
      (turn.printed (turn_of early rows blank).answer ≡ turn_line 4 10 0 0 0)
      × OnlyTurnTaken early 4 (step early takes).market
      × ((step early takes).records ≡ blank)
  -- Demand 2, refusals. 5 is given since no lane has an entry.
  pub refused_why : (t : ℕ) → t < tenants → len_of idle.session.lanes t ≡ 0
  -- Demand 2, what is accepted is stored. Tenant 4's order waits behind those waiting in its lane.
  pub stored : ((submit_of unopened 4 1 for_now).code ≡ 0) × (waiting_in early 4 ≡ waiting_in unopened 4 ++ given_in for_now 1)
  -- Demand 2, orders turned down. 10 is given since its own case, the first of all, applies.
  pub turned_down_why : (rule_at (turn_down_rules early 4) 0).case
  -- Demand 2, cancels. Tenant 0's cancel of number 1 is accepted since number 1 rests and is tenant 0's.
  pub cancelled :
      (turn.printed (turn_of leaving rows blank).answer ≡ turn_line 0 0 1 0 5) × ((i : ℕ) × RestsAs leaving.book 0 1 i)
  -- Demand 2, cancels turned down. Tenant 4's cancel of number 1, which rests as tenant 0's, is 18 since number 1 was
  -- given; that of number 5 is 22 since no turn gave it: the four orders have 1 to 4.
  pub given_out : (turn.printed (turn_of (asking 1) rows blank).answer ≡ turn_line 4 18 0 0 0) × GivenIn 1 fresh (asked 1)
  pub never_given : (turn.printed (turn_of (asking 5) rows blank).answer ≡ turn_line 4 22 0 0 0) × (GivenIn 5 fresh (asked 5) → ⊥)
  pub numbers : numbers_since fresh ordering ≡ 1 ∷ 2 ∷ 3 ∷ 4 ∷ []
  -- Demand 2, fills. In the worked example tenant 7's sell of 3 trades with tenant 2's buy, of which 2 are left.
  pub filled :
      (turn.printed (turn_of crossing rows blank).answer ≡ turn_line 7 0 2 3 0)
      × FilledRight crossing 7 3
      × RecordedRight crossing 7 blank 1 (turn_of crossing rows blank).records
      × LeftRight crossing 7 2 3 0 idle.book
  -- Demand 2, the opening. The book of E11 opens at 105 with a volume of 4.
  pub opens :
      (opening.printed (open_of unopened rows blank).answer ≡ open_line 0 105 4)
      × OpenedAt unopened blank 105 4 (opening.fills_in (open_of unopened rows blank).answer) (open_of unopened rows blank).records once_open.book
  -- An open book is never locked or crossed. Number 2, a buy in row 1, is then below number 4, a sell in row 3.
  pub apart :
      (row_in once_open.book 1 ≡ 1 ∷ 105 ∷ 5 ∷ [])
      × (row_in once_open.book 3 ≡ 2 ∷ 108 ∷ 3 ∷ [])
      × (price_at once_open.book 1 < price_at once_open.book 3)
  -- Demand 3. Entries wait in all nine lanes, and of ten turns tenant 4, which always has one waiting, gets one at
  -- least.
  pub fair : (turns_taken (answers busy ten_turns) ≡ 10) × (1 ≤ turns_of 4 (answers busy ten_turns)) × Fair 4 (answers busy ten_turns)
  -- Tallies. By the history of the worked example tenant 2 took one turn and bought 3, and tenant 7 sold 3;
  pub tallies :
      (sum_since (turns_by 2) 0 fresh calls ≡ 1)
      × (sum_since (bought_by 2) 0 fresh calls ≡ 3)
      × (sum_since (sold_by 7) 0 fresh calls ≡ 3)
  -- its second turn and its tallies have as much bought as sold.
  pub each_call : sum_to (λ u. bought_by u crossing takes) tenants ≡ sum_to (λ u. sold_by u crossing takes) tenants
  pub in_all : bought_in_all idle.session.tallies ≡ sold_in_all idle.session.tallies
  -- Soundness and the class: the market of its second turn has all that a sound market has, and allocation 1 or 2.
  pub held : Held crossing
  pub class : (crossing.session.terms.allocation ≡ 1) ⊎ (crossing.session.terms.allocation ≡ 2)

-- ---- the markets are reached

idle_reached : Reached idle
idle_reached = reached_on crossing crossing_reached (takes ∷ [])

unopened_reached : Reached unopened
unopened_reached = reached_on fresh (start_reached fresh fresh_starts) ordering

early_reached : Reached early
early_reached = reached_on unopened unopened_reached (submit 4 1 for_now ∷ [])

open_reached : Reached once_open
open_reached = reached_on unopened unopened_reached (open_call rows blank ∷ [])

busy_reached : Reached busy
busy_reached = reached_on fresh (start_reached fresh fresh_starts) filling

-- ---- what is computed of them, as the theorems ask for it

-- the turn is that of the tenant named in its answer
taken : (m : Market) (t : ℕ) {a : TurnAnswer} → (turn_of m rows blank).answer ≡ a → lane_in (turned a) ≡ Some t → TakenBy m rows t
taken m t e lane = taken_by m rows t (named m rows blank t (ap (λ a. lane_in (turned a)) e ∙ lane))

nothing_changes : NothingChanged idle takes
nothing_changes = demand_1.refused idle takes (ap (λ a. is_refused (turned a)) (example.computed).refused)

-- the worked example leads to its last market, and the tallies there are those of its history
leads : after fresh calls ≡ idle
leads = ap (λ (m : Market). after m (takes ∷ takes ∷ [])) (example.computed).leads ∙ nothing_changes.market

tally_of : (t : ℕ) {x : Tally} → tally_at idle.session.tallies t ≡ x → tally_at (after fresh calls).session.tallies t ≡ x
tally_of t is = ap (λ (m : Market). tally_at m.session.tallies t) leads ∙ is

down_early : OnlyTurnTaken early 4 (step early takes).market × ((step early takes).records ≡ blank)
down_early = demand_1.turned_down early early_reached takes 4 10 (ap turned (reaching.computed).turned_down)

number_rests : (i : ℕ) × RestsAs leaving.book 0 1 i
number_rests =
    let e = (reaching.computed).cancels_first in
    let why = demand2.turn_downs.cancel_accepted leaving rows 0 blank (taken leaving 0 (reaching.computed).cancelled refl) (reaching.computed).cancel in
    rw e at (why.0 (rw e (ap turn.printed (reaching.computed).cancelled)))

one_given : GivenIn 1 fresh (asked 1)
one_given =
    let e = (reaching.computed).asks_for.0 in
    let is = (reaching.computed).given_out in
    let why = numbers_given.cancel_given_out fresh fresh_starts (asked 1) rows 4 blank (taken (asking 1) 4 is refl) (reaching.computed).asks.0 in
    rw e at (why.0 (ap turn.printed is)).0

five_not : GivenIn 5 fresh (asked 5) → ⊥
five_not =
    let e = (reaching.computed).asks_for.1 in
    let is = (reaching.computed).never_given in
    let why = numbers_given.cancel_never_given fresh fresh_starts (asked 5) rows 4 blank (taken (asking 5) 4 is refl) (reaching.computed).asks.1 in
    rw e at (why.0 (ap turn.printed is))

fills_right :
    FilledRight crossing 7 3
    × RecordedRight crossing 7 blank 1 (turn_of crossing rows blank).records
    × LeftRight crossing 7 2 3 0 idle.book
fills_right =
    let (_, right, recorded, left) = demand2.fills.filled crossing rows blank 7 2 3 0 (reached_sound crossing crossing_reached) refl sell_accepted in
    (right, subst (λ fills. RecordedRight crossing 7 blank fills (turn_of crossing rows blank).records) one_record recorded, left)

opens_right : OpenedAt unopened blank 105 4 (opening.fills_in (open_of unopened rows blank).answer) (open_of unopened rows blank).records once_open.book
opens_right =
    demand2.opening.at_price_lem unopened rows blank 105 4 (reached_sound unopened unopened_reached) (reaching.computed).crossed (reaching.computed).opened

is_open : once_open.session.opened ≡ true
is_open = (demand2.opening.opens unopened rows blank 105 4 (reached_sound unopened unopened_reached) (reaching.computed).opened).0

-- a number of a row
of_row : (k : ℕ) {l r : List ℕ} → l ≡ r → at l k ≡ at r k
of_row k = ap (λ (l : List ℕ). at l k)

rows_apart : price_at once_open.book 1 < price_at once_open.book 3
rows_apart =
    let buy = (reaching.computed).buy_row in
    let sell = (reaching.computed).sell_row in
    never_locked_or_crossed once_open open_reached is_open 1 3 (omega arith) (omega arith)
    (omega (arith, of_row 2 buy)) (omega (arith, of_row 2 sell)) (of_row 0 buy) (of_row 0 sell)

shares_fairly : Fair 4 (answers busy ten_turns)
shares_fairly = demand_3 busy busy_reached ten_turns (reaching.computed).no_reset 4 (omega arith) (reaching.computed).waits

pub instances : Instances
instances = record {
  refused = (ap turn.printed (example.computed).refused, nothing_changes);
  turned_down = (ap turn.printed (reaching.computed).turned_down, down_early.0, down_early.1);
  refused_why = (((demand2.refusals.turn idle rows blank).each 1 (omega arith)).0 (ap turn.printed (example.computed).refused)).1;
  stored = (
    (reaching.computed).taken_in,
    demand2.stores.submit unopened 4 1 for_now (reached_sound unopened unopened_reached) (reaching.computed).taken_in,
  );
  turned_down_why =
      (((demand2.turn_downs.order early rows 4 blank (taken early 4 (reaching.computed).turned_down refl) (reaching.computed).new_order_lem
      ).each 0 (omega arith)).0 (ap turn.printed (reaching.computed).turned_down)).1;
  cancelled = (ap turn.printed (reaching.computed).cancelled, number_rests);
  given_out = (ap turn.printed (reaching.computed).given_out, one_given);
  never_given = (ap turn.printed (reaching.computed).never_given, five_not);
  numbers = (reaching.computed).numbers;
  filled = (ap turn.printed (example.computed).trades, fills_right.0, fills_right.1, fills_right.2);
  opens = ((reaching.computed).opened, opens_right);
  apart = ((reaching.computed).buy_row, (reaching.computed).sell_row, rows_apart);
  fair = ((reaching.computed).all_turns, rw (reaching.computed).all_turns at shares_fairly.ninth, shares_fairly);
  tallies = (
    sym (tallies_told.turns fresh fresh_starts calls 2 (omega arith)) ∙ ap (λ (x : Tally). x.turns) (tally_of 2 (example.computed).buyer),
    sym (tallies_told.bought fresh fresh_starts calls 2 (omega arith)) ∙ ap (λ (x : Tally). x.bought) (tally_of 2 (example.computed).buyer),
    sym (tallies_told.sold fresh fresh_starts calls 7 (omega arith)) ∙ ap (λ (x : Tally). x.sold) (tally_of 7 (example.computed).seller),
  );
  each_call = tallies_told.each_call crossing crossing_reached takes;
  in_all = tallies_told.in_all idle idle_reached;
  held = reached_sound crossing crossing_reached refl;
  class = always_one_class crossing crossing_reached refl;
}
