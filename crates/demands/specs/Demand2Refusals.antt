-- Demand 2's refusals: each call's list of tests reads as its rules.
use mathlib.Core.Logic.Iff
use Rattle.std.specs.Prelude.{◌≡◌, ◌↔◌, ◌⊎◌, Bool, true, false, cond, List, ℕ, ◌*◌, ◌%◌, ◌≤◌, ◌<◌, eqb, length, None, Option, Some}
use Rattle.std.proofs.Math.Path.{refl, sym, ap}
use Rattle.std.proofs.Common.{◌∙◌, inl, inr, true≢false}
use Rattle.std.proofs.Math.Logic.{⊎_map}
use native.Mathlib.Omega.{arith}
use Rattle.std.proofs.Math.Dec.{leb}
use borrow.Author.Tests.{lt-ltb, le-ltb, ltb-true, ltb-false, le-leb, leb-true, eq-eqb, eqb-true, eqb-false}
use Rattle.units.specs.Units.{tenants}
use Rattle.units.specs.declared.Cents.{Cents}
use Rattle.units.specs.declared.grid.Grid.{Grid}
use Rattle.units.specs.Grid.{grid_of, stepping}
use Rattle.units.specs.Says.{not_says, same_says, less_says, most_says, and_says, or_says}
use Rattle.units.specs.Tests.{◌and◌, is_not, and_true, and_holds, or_true, not_holds, not_fails, fails, holds_not_fails, order, less, equal, more}
use Rattle.units.specs.Firsts.{first_to, first_holds, first_least, first_before}
use Rattle.rows.specs.Rows.{highest}
use Rattle.book.specs.Book.{Book, best_bid, best_sell, crosses}
use Rattle.book.specs.SoundLaws.{row_of}
use Rattle.book.specs.Sound.{SoundBook}
use Rattle.book.specs.BookLaws.{buy_most, sell_least}
use Rattle.book.specs.BestLaws.{bid_found, lowest_found, bid_most}
use Rattle.price.specs.Price.{none_valid}
use Rattle.price.specs.PriceLaws.{none_valid_lem}
use Rattle.price.specs.Words.{NoPrice, none_says}
use Rattle.entry.specs.Numbers.{entry_numbers, bulk, one_or_two, from1to}
use Rattle.entry.specs.declared.Settings.{Settings}
use Rattle.entry.specs.Settings.{series_in_range, protections_in_range, prints_in_range, in_range}
use Rattle.entry.specs.Entry.{malformed}
use Rattle.entry.specs.Words.{WellFormed, malformed_says}
use Rattle.lanes.specs.declared.Lanes.{Lanes}
use Rattle.lanes.specs.Ring.{entry_at, len_of}
use Rattle.lanes.specs.Rotation.{on, waits, distance, served}
use Rattle.lanes.specs.Runs.{ahead}
use Rattle.lanes.specs.RotationLaws.{ahead_less, served_lane, served_nobody}
use Rattle.session.specs.Market.{Market, Called}
use Rattle.session.specs.Settings.{too_high, away_cases, away_refusal, away_of}
use Rattle.lanes.specs.Bulk.{well_counted, some_malformed}
use Rattle.session.specs.Submit.{submit_cases, submit_refusal, submit_of}
use Rattle.session.specs.TurnAnswer.{TurnAnswer}
use Rattle.session.specs.Turn.{TurnDone, refused as refused_by, printed, nobody, turn_cases, turn_refusal}
use Rattle.dealing.specs.Open.{choice_in, way_refusal}
use Rattle.session.specs.Open.{OpenDone, Line, refused_by as open_refused_by, printed as printed_open, sources_of, choice_of, open_cases, open_refusal, open_quiet, open_at}
use Rattle.demands.specs.InOrder.{NoneOf, GivenInOrder}
use Rattle.demands.specs.InOrderLaws.{Reads, none_ruled, number_in_order, Comes, by_none, by_number, comes_in_order}
use Rattle.demands.specs.Runs.{turned, lane_in}
use Rattle.demands.specs.Outcomes as outcomes
use Rattle.demands.specs.Outcomes.{SetCame, set_came, call_code, away_came, submit_came}
use Rattle.demands.specs.TurnCases as TurnCases
use Rattle.demands.specs.TurnCases.{values_of, lane_told, lane_told_lem, leaves}
use Rattle.demands.specs.OpenCases as OpenCases
use Rattle.demands.specs.Demand2.{turn_printed, open_printed, InList, away_rules, submit_rules, turn_rules, open_rules, Crossing, RefusedInOrder}

-- ---- away

away_in_order : (m : Market) (bid offer : Cents) → GivenInOrder (away_rules m bid offer) (λ n. (away_of m bid offer).code ≡ n) ((away_of m bid offer).code ≡ 0)
unfolding away_refusal too_high
away_in_order m bid offer =
    number_in_order 0 (away_cases m.session bid offer) (away_rules m bid offer) refl
    (refl, not_says _, (refl, or_says (less_says _ _) (less_says _ _), tt))
    (call_code m _ _ (away_came m bid offer))

-- ---- submit

counted_says : (count : ℕ) (ns : List ℕ)
    → (is_not (well_counted count ns) ≡ true) ↔ ((1 ≤ count) × (count ≤ bulk) × (length ns ≡ entry_numbers * count) → ⊥)
unfolding well_counted from1to
counted_says count ns = (
  λ h p. holds_not_fails
      (and_holds _ _ (and_holds _ _ (le-leb _ _ p.0) (le-leb _ _ p.1)) (eq-eqb _ _ p.2))
      (not_holds _ h),
  λ f. not_fails _ (fails _ (λ h.
      let (two, long) = and_true (leb 1 count and leb count bulk) _ h in
      let (least, most) = and_true (leb 1 count) _ two in
      f (leb-true _ _ least, leb-true _ _ most, eqb-true _ _ long))),
)

some_malformed_says : (count : ℕ) (ns : List ℕ) → (some_malformed count ns ≡ true) ↔ ((j : ℕ) × (j < count) × (WellFormed (entry_at ns j) → ⊥))
unfolding some_malformed
some_malformed_says count ns =
    let bad : ℕ → Bool = λ j. malformed (entry_at ns j) in (
      λ h. (let l = ltb-true (first_to bad count) count h in (first_to bad count, l, (malformed_says (entry_at ns (first_to bad count))).0 (first_holds bad count l))),
      λ (j, l, ill). lt-ltb (first_to bad count) count (omega (arith, first_least bad count j l ((malformed_says (entry_at ns j)).1 ill))),
    )

submit_in_order : (m : Market) (tenant count : ℕ) (ns : List ℕ)
    → GivenInOrder (submit_rules m tenant count ns) (λ n. (submit_of m tenant count ns).code ≡ n) ((submit_of m tenant count ns).code ≡ 0)
unfolding submit_refusal
submit_in_order m tenant count ns =
    number_in_order 0 (submit_cases m.session tenant count ns) (submit_rules m tenant count ns) refl
    (refl, not_says _, (refl, most_says _ _, (refl, counted_says count ns, (refl, some_malformed_says count ns, (refl, less_says _ _, tt)))))
    (call_code m _ _ (submit_came m tenant count ns))

-- ---- turn

-- every lane is some places on from any place
lane_on : (p t : ℕ) → t < tenants → on p (ahead (p % tenants) t) ≡ t
unfolding ahead
lane_on p t h = omega arith

module _ (busy : ℕ → Bool) (p : ℕ) where
  before_lane : (d : ℕ) → d < distance busy p → busy (on p d) ≡ false
  unfolding distance
  before_lane d h = first_before (λ k. busy (on p k)) tenants d h

  found_lane : distance busy p < tenants → busy (on p (distance busy p)) ≡ true
  unfolding distance
  found_lane h = first_holds (λ k. busy (on p k)) tenants h

nobody_says : (l : Lanes) → (nobody (served l) ≡ true) ↔ ((t : ℕ) → t < tenants → len_of l t ≡ 0)
unfolding served
nobody_says l = (idle, quiet)
  where
    d : ℕ
    d = distance (waits l) l.place

    empty_at : tenants ≤ d → (t : ℕ) → t < tenants → len_of l t ≡ 0
    empty_at h t lane =
        let there = rw (lane_on l.place t lane) at (before_lane (waits l) l.place (ahead (l.place % tenants) t) (omega (arith, ahead_less (l.place % tenants) t))) in
        omega (arith, ltb-false 0 (len_of l t) there)

    idle : nobody (served l) ≡ true → (t : ℕ) → t < tenants → len_of l t ≡ 0
    idle e = elim (order d tenants) [
      | less h ↦ absurd (holds_not_fails e (rw (served_lane (waits l) l.place h)))
      | equal h ↦ empty_at (omega arith)
      | more h ↦ empty_at (omega arith)
    ]

    quiet : ((t : ℕ) → t < tenants → len_of l t ≡ 0) → nobody (served l) ≡ true
    quiet f = elim (order d tenants) [
      | less h ↦ absurd (holds_not_fails (found_lane (waits l) l.place h) (le-ltb 0 (len_of l (on l.place d)) (omega (arith, f (on l.place d) (omega arith)))))
      | equal h ↦ rw (served_nobody (waits l) l.place (omega arith))
      | more h ↦ rw (served_nobody (waits l) l.place (omega arith))
    ]

module _ (m : Market) (lent : ℕ) where
  turn_reads : Reads (turn_cases m.session lent) (turn_rules m lent)
  turn_reads = (refl, not_says _, (refl, nobody_says m.session.lanes, (refl, less_says _ _, (refl, most_says _ _, tt))))

  pub turn_taken : (turn_refusal m.session lent ≡ 0) ↔ NoneOf (turn_rules m lent)
  unfolding turn_refusal
  turn_taken = none_ruled 0 (turn_cases m.session lent) (turn_rules m lent) refl turn_reads

module _ (m : Market) (lent : ℕ) (was : List ℕ) where
  turn_stands : (a : TurnAnswer) (t : ℕ) → lane_in (turned a) ≡ Some t → (n : ℕ) → printed a ≡ refused_by n → ⊥
  turn_stands a t h n x = true≢false (ap nobody (sym (ap lane_told x) ∙ (sym (lane_told_lem a) ∙ h)))

  turn_comes : {d : TurnDone} → TurnCases.Outcome m lent was d
      → Comes (turn_refusal m.session lent) (λ n. printed d.answer ≡ refused_by n) ((n : ℕ) → printed d.answer ≡ refused_by n → ⊥)
  turn_comes (TurnCases.refused h) = by_number h refl (λ k x. ap (λ p. (values_of p).code) x) (λ f. f _ refl)
  turn_comes {d} (TurnCases.taken t s o) =
      let never = turn_stands d.answer t (leaves m was t o).names in
      by_none s.not_refused never (λ n x. absurd (never n x))

  turn_in_order : GivenInOrder (turn_rules m lent) (λ n. turn_printed m lent was ≡ refused_by n) ((n : ℕ) → turn_printed m lent was ≡ refused_by n → ⊥)
  unfolding turn_refusal
  turn_in_order = comes_in_order (turn_cases m.session lent) (turn_rules m lent) refl (turn_reads m lent) (turn_comes (TurnCases.outcome m lent was))

-- ---- open

module _ (m : Market) (lent : ℕ) (was : List ℕ) where
  open_comes : {d : OpenDone} → OpenCases.Outcome m lent was d
      → Comes (open_refusal m lent) (λ n. printed_open d.answer ≡ open_refused_by n) ((printed_open d.answer).code ≡ 0)
  unfolding open_at open_quiet
  open_comes (OpenCases.refused h) = by_number h refl (λ k x. ap (λ (l : Line). l.code) x) (λ e. omega arith)
  open_comes (OpenCases.quiet e c) = by_none e refl (λ k x. sym (ap (λ (l : Line). l.code) x))
  open_comes (OpenCases.opens p e c f) = by_none e refl (λ k x. sym (ap (λ (l : Line). l.code) x))

  no_price_says : (none_valid (choice_of m.session) ≡ true) ↔ NoPrice (sources_of m.session)
  unfolding choice_in
  no_price_says = Iff.trans (none_valid_lem (sources_of m.session)) (none_says (sources_of m.session))

  -- however it is said that the book crosses
  module _ {crossing : Type 0} (says : (crosses m.book ≡ true) ↔ crossing) where
    open_reads : Reads (open_cases m lent) (open_rules m lent crossing)
    open_reads = (refl, not_says _, (refl, Iff.rfl, (refl, less_says _ _, (refl, and_says says no_price_says, tt))))

    open_in_order : GivenInOrder (open_rules m lent crossing) (λ n. open_printed m lent was ≡ open_refused_by n) ((open_printed m lent was).code ≡ 0)
    unfolding way_refusal
    open_in_order = comes_in_order (open_cases m lent) (open_rules m lent crossing) refl open_reads (open_comes (OpenCases.outcome m lent was))

-- ---- settings

-- the ranges, value by value
module _ (s : Settings) where
  in_list : in_range s ≡ true → 1 ≤ s.grid → s.grid ≤ 3 → InList s
  unfolding in_range series_in_range protections_in_range prints_in_range from1to one_or_two
  in_list h low high =
      let (front, prints) = and_true (series_in_range s and protections_in_range s) _ h in
      let (series, protections) = and_true (series_in_range s) _ front in
      let (kinds, strike) = and_true (one_or_two s.allocation and one_or_two s.option) _ series in
      let (allocation, option) = and_true (one_or_two s.allocation) _ kinds in
      let (strike_least, strike_most) = and_true (leb 1 s.strike.0) _ strike in
      let (buffers, widths) = and_true (leb s.drill.0 highest and leb s.far.0 highest) _ protections in
      let (drill, far) = and_true (leb s.drill.0 highest) _ buffers in
      let (percent, both) = and_true (leb s.percent 1000) _ widths in
      let (least, greatest) = and_true (leb s.least.0 s.greatest.0) _ both in
      let (print, close) = and_true (leb s.print.0 highest) _ prints in
      record {
        allocation = ⊎_map (eqb-true _ _) (eqb-true _ _) (or_true _ _ allocation);
        grid_least = low;
        grid_most = high;
        option = ⊎_map (eqb-true _ _) (eqb-true _ _) (or_true _ _ option);
        strike_least = leb-true _ _ strike_least;
        strike_most = leb-true _ _ strike_most;
        drill = leb-true _ _ drill;
        far = leb-true _ _ far;
        percent = leb-true _ _ percent;
        least = leb-true _ _ least;
        greatest = leb-true _ _ greatest;
        print = leb-true _ _ print;
        close = leb-true _ _ close;
      }

  one_or_two_lem : (n : ℕ) → (n ≡ 1) ⊎ (n ≡ 2) → one_or_two n ≡ true
  unfolding one_or_two
  one_or_two_lem n = (or_says (same_says n 1) (same_says n 2)).1

  list_in : InList s → in_range s ≡ true
  unfolding in_range series_in_range protections_in_range prints_in_range from1to
  list_in l =
      and_holds _ _
      (and_holds _ _
      (and_holds _ _ (and_holds _ _ (one_or_two_lem _ l.allocation) (one_or_two_lem _ l.option)) (and_holds _ _ (le-leb _ _ l.strike_least) (le-leb _ _ l.strike_most)))
      (and_holds _ _ (and_holds _ _ (le-leb _ _ l.drill) (le-leb _ _ l.far))
      (and_holds _ _ (le-leb _ _ l.percent) (and_holds _ _ (le-leb _ _ l.least) (le-leb _ _ l.greatest)))))
      (and_holds _ _ (le-leb _ _ l.print) (le-leb _ _ l.close))

  -- settings are accepted with all values in the list, or refused by 7 with one outside
  no_grid : (n : ℕ) → (n ≡ 1 → ⊥) → (n ≡ 2 → ⊥) → (n ≡ 3 → ⊥) → 1 ≤ n → n ≤ 3 → ⊥
  no_grid n x y z low high = omega arith

  data Answer (code : ℕ) : Type 0 where
    within_list : code ≡ 0 → InList s → Answer code
    outside : code ≡ 7 → (InList s → ⊥) → Answer code

  -- a number from 1 to 3 is that of a grid
  grid_says : (n : ℕ) → ((g : Grid) × (grid_of n ≡ Some g)) ↔ ((1 ≤ n) × (n ≤ 3))
  grid_says n = go (eqb n 1) (eqb n 2) (eqb n 3) refl refl refl
    where
      some : (Option Grid) → ℕ
      some (Some g) = 1
      some None = 0

      go : (a b c : Bool) → eqb n 1 ≡ a → eqb n 2 ≡ b → eqb n 3 ≡ c
          → ((g : Grid) × (cond a (Some (stepping 1 1)) (cond b (Some (stepping 1 5)) (cond c (Some (stepping 5 10)) None)) ≡ Some g)) ↔ ((1 ≤ n) × (n ≤ 3))
      go true b c x y z = (λ _. (omega (arith, eqb-true n 1 x), omega (arith, eqb-true n 1 x)), λ _. (stepping 1 1, refl))
      go false true c x y z = (λ _. (omega (arith, eqb-true n 2 y), omega (arith, eqb-true n 2 y)), λ _. (stepping 1 5, refl))
      go false false true x y z = (λ _. (omega (arith, eqb-true n 3 z), omega (arith, eqb-true n 3 z)), λ _. (stepping 5 10, refl))
      go false false false x y z = (λ (g, e). absurd (omega (arith, ap some e)), λ (low, high). absurd (no_grid n (eqb-false n 1 x) (eqb-false n 2 y) (eqb-false n 3 z) low high))

  settings_answer : {m : Market} {d : Called} → SetCame m s d → Answer d.code
  settings_answer (outcomes.refused none) = outside refl (λ l. let (g, e) = (grid_says s.grid).1 (l.grid_least, l.grid_most) in none g e (list_in l))
  settings_answer (outcomes.accepted g e h) = let (low, high) = (grid_says s.grid).0 (g, e) in within_list refl (in_list h low high)

  answer_refused : {code : ℕ} → Answer code → (code ≡ 7) ↔ (InList s → ⊥)
  answer_refused (within_list e l) = (λ h. absurd (omega arith), λ f. absurd (f l))
  answer_refused (outside e f) = (λ h. f, λ g. e)

  answer_accepted : {code : ℕ} → Answer code → (code ≡ 0) ↔ InList s
  answer_accepted (within_list e l) = (λ h. l, λ g. e)
  answer_accepted (outside e f) = (λ h. absurd (omega arith), λ l. absurd (f l))

  answer_only : {code : ℕ} → Answer code → (code ≡ 0) ⊎ (code ≡ 7)
  answer_only (within_list e l) = inl e
  answer_only (outside e f) = inr e

-- ---- a sound book that crosses

module _ (b : Book) (next : ℕ) (sound : SoundBook b next) where
  -- the rows of the lowest sell and of the best bid
  crossing_found : best_sell b ≤ best_bid b → Crossing b
  crossing_found h =
      let (j, s, sells) = lowest_found b (omega (arith, bid_most b next sound)) in
      let (i, r, buys) = bid_found b (omega (arith, (row_of sound j s.row s.rests).price_least)) in
      record {
        buy = i;
        sell = j;
        buy_row = r.row;
        sell_row = s.row;
        buy_rests = r.rests;
        sell_rests = s.rests;
        buys = r.on;
        sells = s.on;
        at_or_above = omega arith;
      }

  pub book_crosses : (crosses b ≡ true) ↔ Crossing b
  unfolding crosses
  book_crosses = (
    λ h. crossing_found (leb-true _ _ h),
    λ c. le-leb (best_sell b) (best_bid b) (omega (
      arith,
      sell_least b c.sell c.sell_row c.sell_rests c.sells,
      buy_most b c.buy c.buy_row c.buy_rests c.buys,
      c.at_or_above,
    )),
  )

-- Demand 2: each refusal is given exactly in its case.
pub refused_in_order : RefusedInOrder
refused_in_order = record {
  settings_refused = λ m s. answer_refused s (settings_answer s (set_came m s));
  settings_accepted = λ m s. answer_accepted s (settings_answer s (set_came m s));
  settings_only = λ m s. answer_only s (settings_answer s (set_came m s));
  away = away_in_order;
  submit = submit_in_order;
  turn = turn_in_order;
  open_call = λ m lent was. open_in_order m lent was Iff.rfl;
  open_sound = λ m lent was sound set. open_in_order m lent was (book_crosses m.book m.session.next (sound set).ready.book);
  crossing = λ m sound set. (let ready = (sound set).ready in book_crosses m.book m.session.next ready.book);
}
