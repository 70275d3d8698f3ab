-- Demand 2's rows: the laws of resting, trading and cancelling, told row by row of every turn.
use Rattle.std.specs.Prelude.{◌≡◌, Bool, true, false, List, ℕ, ◌-◌, ◌*◌, ◌/◌, ◌<◌, length}
use Rattle.std.proofs.Math.Path.{refl, sym}
use Rattle.std.proofs.Common.{◌∙◌, ap, subst, le-ltb, eq-eqb, ne_eqb}
use native.Mathlib.Omega.{arith}
use Rattle.std.proofs.Math.Seq.{get_or-set_same, get_or-set_other}
use Rattle.units.specs.Units.{contracts, tenants}
use Rattle.units.specs.Tests.{pick_yes, pick_no}
use Rattle.units.specs.Places.{table_at, table_is}
use Rattle.units.specs.Sums.{sum_to, sum_add, sum_none, sum_has}
use Rattle.rows.specs.Rows.{rows, rows_a_tenant}
use Rattle.book.specs.Book.{Book, side_at, price_at, size_at, owner_at, number_at, resting_of, first_free, rested, freed}
use Rattle.book.specs.Allocation.{Resting}
use Rattle.book.specs.LookupLaws.{found_says}
use Rattle.book.specs.Records.{records, written, fields}
use Rattle.book.specs.RecordLaws.{traded_out}
use Rattle.book.specs.RestLaws.{free_is, room_found}
use Rattle.book.specs.Sound.{SoundBook}
use Rattle.book.specs.SoundLaws.{sound_apart, trade_sound, trade_resting, live_apart}
use Rattle.book.specs.Trading.{after_trade, traded_rows, trade_written}
use Rattle.book.specs.TradingLaws.{all_traded}
use Rattle.opening.specs.Opening.{volume, bought, sold, matched, matched_rows, opening_written}
use Rattle.opening.specs.OpeningLaws.{all_bought, all_sold}
use Rattle.checks.specs.TurnDown.{might_rest}
use Rattle.checks.specs.TurnDownLaws.{room_left, unchanged}
use Rattle.judge.specs.BoundLaws.{judged_rests}
use Rattle.judge.specs.VerdictLaws.{rests_as_given, simply_rests}
use Rattle.dealing.specs.Settle.{opposite}
use Rattle.session.specs.Market.{Market}
use Rattle.session.specs.Sound.{Held, Sound}
use Rattle.session.specs.Turn.{TurnDone, turned_down_by, cancelled_as, printed, quotes_in, standing_of, turn_of}
use Rattle.session.specs.Open.{OpenDone, Line, opened_at, printed as printed_open, open_quiet, open_at}
use Rattle.demands.specs.Runs.{head_entry}
use Rattle.demands.specs.TurnCases.{down_by, disposed_less, cancels, no_such, turned_down, rests, trades, of_cancel, of_order, Outcome, refused, taken, outcome}
use Rattle.demands.specs.TurnCases as TurnCases
use Rattle.demands.specs.OpenCases as OpenCases
use Rattle.demands.specs.Demand2.{turn_printed, OrderAccepted, TakenBy, RestsAs, judged, bound_in, once_traded}
use Rattle.demands.specs.Demand2Turn.{taken_by, set_in, serves_first, code_of, tenant_of, number_of, disposed_of, accepted_served, accepted_rested, accepted_traded, accepted_numbered}
use Rattle.demands.specs.Demand2Fills.{new_in}
use Rattle.demands.specs.Demand2Rows.{RowIs, RowsKept, ComesToRest, RowFreed, untraded, book_then, WellLent, RowsRight}

-- ---- a book's rows

module _ {b : Book} {next : ℕ} (sound : SoundBook b next) where
  -- an order comes to rest in the first free row
  rest_comes : first_free b < rows → (side price size tenant number : ℕ)
      → ComesToRest b (size_at b) side price size tenant number (rested b side price size tenant number)
  unfolding rested
  rest_comes found side price size tenant number =
      let row = first_free b in
      record {
        row = row;
        place = omega (arith, sound.places);
        free = free_is b (omega (arith, sound.places));
        holds = record {
          side_is = get_or-set_same b.sides row side 0 (omega (arith, sound.sides_long));
          price_is = get_or-set_same b.prices row price 0 (omega (arith, sound.prices_long));
          size_is = get_or-set_same b.sizes row size 0 (omega (arith, sound.sizes_long));
          tenant_is = get_or-set_same b.owners row tenant 0 (omega (arith, sound.owners_long));
          number_is = get_or-set_same b.numbers row number 0 (omega (arith, sound.numbers_long));
        };
        others = λ i _ other. record {
          side_is = get_or-set_other b.sides row i side 0 other;
          price_is = get_or-set_other b.prices row i price 0 other;
          size_is = get_or-set_other b.sizes row i size 0 other;
          tenant_is = get_or-set_other b.owners row i tenant 0 other;
          number_is = get_or-set_other b.numbers row i number 0 other;
        };
      }

  -- a cancel frees one row
  row_freed : (tenant number row : ℕ) → RestsAs b tenant number row → RowFreed b tenant number (freed b row)
  unfolding freed
  row_freed tenant number row there = record {
    row = row;
    rested = there;
    free = sized row 0 (get_or-set_same b.sizes row 0 0 (omega (arith, there.row, sound.places, sound.sizes_long)));
    others = λ i _ other. sized i (size_at b i) (get_or-set_other b.sizes row i 0 0 other);
  }
    where
      sized : (i size : ℕ) → size_at (freed b row) i ≡ size → RowIs (freed b row) i (side_at b i) (price_at b i) size (owner_at b i) (number_at b i)
      sized i size is = record { side_is = refl; price_is = refl; size_is = is; tenant_is = refl; number_is = refl }

module _ (m : Market) (t : ℕ) where
  -- what the rows traded is taken off
  taken_off : RowsKept m.book (untraded m t) (once_traded m t)
  unfolding after_trade
  taken_off i p = record { side_is = refl; price_is = refl; size_is = table_at _ m.book.places i p; tenant_is = refl; number_is = refl }

  -- and what comes to rest then does so beside rows that have traded
  traded_comes : {side price size tenant number : ℕ} {after : Book}
      → ComesToRest (once_traded m t) (size_at (once_traded m t)) side price size tenant number after
      → ComesToRest m.book (untraded m t) side price size tenant number after
  unfolding after_trade
  traded_comes c = record {
    row = c.row;
    place = c.place;
    free = sym (taken_off c.row c.place).size_is ∙ c.free;
    holds = c.holds;
    others = λ i p other. let o = c.others i p other in record {
      side_is = o.side_is;
      price_is = o.price_is;
      size_is = o.size_is ∙ (taken_off i p).size_is;
      tenant_is = o.tenant_is;
      number_is = o.number_is;
    };
  }

-- where no row traded, no record is written
no_record : (r : Resting) → sum_to r.size r.places ≡ 0 → records r ≡ 0
unfolding records
no_record r none = sum_none r.places (λ i p. traded_out r (λ _. 1) i (omega (arith, sum_has r.size r.places i p)))

-- and the fill records are as found
as_found : (r : Resting) (owner price : ℕ → ℕ) (was : List ℕ) → length was ≡ fields * r.places → sum_to r.size r.places ≡ 0
    → written r owner price was ≡ was
unfolding written
as_found r owner price was long none = sym (table_is _ was (fields * r.places) long (λ k p. sym (rw (le-ltb (k / fields) (records r) (omega (arith, no_record r none))) refl)))

-- ---- an accepted order

module _ (m : Market) (lent : ℕ) (was : List ℕ) (t number filled disposition : ℕ) (is : OrderAccepted (turn_printed m lent was) t number filled disposition) where
  rested_not : m.session.opened ≡ true → (disposition ≡ 1 → ⊥) → RowsKept m.book (untraded m t) (book_then m lent was)
  rested_not opened other =
      let d = accepted_traded m lent was t number filled disposition is opened in
      subst (RowsKept m.book (untraded m t)) (sym (d.book_is ∙ pick_no _ _ (ne_eqb disposition 1 other))) (taken_off m t)

  module _ (sound : Sound m) where
    lane : TakenBy m lent t
    lane = taken_by m lent t (accepted_served m lent was t number filled disposition is)

    held : Held m
    held = sound (set_in m lent t lane)

    tenant : t < tenants
    tenant = (serves_first m lent t sound lane).lane

    -- one that might rest has a row of its tenant's left
    room : down_by m t ≡ 0 → might_rest (judged m t) ≡ true → resting_of m.book t < rows_a_tenant
    room = room_left (head_entry m t) (quotes_in m) m.session.terms (standing_of m t)

    rested_shut : m.session.opened ≡ false
        → ComesToRest m.book (size_at m.book) (judged m t).side (judged m t).price.0 (judged m t).size.0 t number (book_then m lent was)
    rested_shut shut =
        let d = accepted_rested m lent was t number filled disposition is shut in
        let e = head_entry m t in
        let q = quotes_in m in
        let terms = m.session.terms in
        let s = standing_of m t in
        let given = simply_rests e q terms s shut d.not_turned_down in
        let might : might_rest (judged m t) ≡ true = rw (unchanged e q terms s d.not_turned_down shut) (rests_as_given e q terms s (new_in m lent t sound lane d.new) e given).1 in
        let found = room_found held.ready.book t tenant (room d.not_turned_down might) in
        rw d.book_is (rest_comes held.ready.book found (judged m t).side (judged m t).price.0 (judged m t).size.0 t number)

    rested_open : m.session.opened ≡ true → disposition ≡ 1
        → ComesToRest m.book (untraded m t) (judged m t).side (judged m t).price.0 ((judged m t).size.0 - filled) t number (book_then m lent was)
    rested_open opened one =
        let d = accepted_traded m lent was t number filled disposition is opened in
        let low = held.ready.terms in
        let e = judged m t in
        let left = contracts (e.size.0 - filled) in
        let (might, _) = judged_rests (head_entry m t) (quotes_in m) m.session.terms left (new_in m lent t sound lane d.new) low.low_least low.low_most (sym d.disposition_is ∙ one) in
        let traded = trade_sound held.ready.book (opposite e) (bound_in m t) e.size.0 m.session.terms.allocation in
        let fewer = trade_resting held.ready.book (opposite e) (bound_in m t) e.size.0 m.session.terms.allocation t in
        let found = room_found traded t tenant (omega (arith, fewer, room d.not_turned_down might)) in
        rw (d.book_is ∙ pick_yes _ _ (eq-eqb disposition 1 one)) (traded_comes m t (rest_comes traded found e.side e.price.0 (e.size.0 - filled) t number))

    -- nothing is filled, so no row traded
    found_records : filled ≡ 0 → WellLent m was → (turn_of m lent was).records ≡ was
    unfolding trade_written
    found_records none long = go m.session.opened refl
      where
        b : Book
        b = m.book

        go : (o : Bool) → m.session.opened ≡ o → (turn_of m lent was).records ≡ was
        go false shut = (accepted_rested m lent was t number filled disposition is shut).records_are
        go true opened =
            let d = accepted_traded m lent was t number filled disposition is opened in
            let e = judged m t in
            let allocation = m.session.terms.allocation in
            d.records_are
            ∙ as_found (traded_rows b (opposite e) (bound_in m t) e.size.0 allocation) (owner_at b) (price_at b) was long
            (all_traded b (opposite e) (bound_in m t) e.size.0 allocation (sound_apart held.ready.book (opposite e) (bound_in m t)) ∙ (sym d.filled_is ∙ none))

-- ---- any turn

module _ (m : Market) (lent : ℕ) (was : List ℕ) where
  cancel_freed : (t number : ℕ) → Sound m → {d : TurnDone} → Outcome m lent was d → printed d.answer ≡ cancelled_as t number
      → RowFreed m.book t number d.market.book
  cancel_freed t number sound (refused h) x = absurd (omega (arith, ap disposed_of x))
  cancel_freed t number sound (taken u s o) x = by u s o x
    where
      by : (u : ℕ) → TurnCases.ServedAs m lent u → {d : TurnDone} → TurnCases.OutcomeOf m was u d → printed d.answer ≡ cancelled_as t number
          → RowFreed m.book t number d.market.book
      by u s (of_cancel c (cancels row h)) x =
          rw (← ap tenant_of x, ← ap number_of x) (row_freed (sound (TurnCases.served_set m lent u s)).ready.book u (head_entry m u).number _ ((found_says m.book u (head_entry m u).number m.session.next).there row h))
      by u s (of_cancel c (no_such is above)) x = absurd (omega (arith, ap disposed_of x))
      by u s (of_order c (turned_down h)) x = absurd (omega (arith, ap disposed_of x))
      by u s (of_order c (rests n o)) x = absurd (omega (arith, ap disposed_of x))
      by u s (of_order c (trades n o)) x = absurd (omega (arith, ap disposed_of x, disposed_less m u))

  down_leaves : (t code : ℕ) → 0 < code → {d : TurnDone} → Outcome m lent was d → printed d.answer ≡ turned_down_by t code → d.market.book ≡ m.book
  down_leaves t code some (refused h) x = refl
  down_leaves t code some (taken u s o) x = by u o x
    where
      by : (u : ℕ) {d : TurnDone} → TurnCases.OutcomeOf m was u d → printed d.answer ≡ turned_down_by t code → d.market.book ≡ m.book
      by u (of_cancel c (cancels row h)) x = absurd (omega (arith, ap code_of x))
      by u (of_cancel c (no_such is above)) x = refl
      by u (of_order c (turned_down h)) x = refl
      by u (of_order c (rests n o)) x = absurd (omega (arith, ap code_of x))
      by u (of_order c (trades n o)) x = absurd (omega (arith, ap code_of x))

  -- a turn that accepts no order
  unless_order : {d : TurnDone} → Outcome m lent was d
      → ((t number filled disposition : ℕ) → OrderAccepted (printed d.answer) t number filled disposition → ⊥)
      → (d.market.session.next ≡ m.session.next) × (d.records ≡ was)
  unless_order (refused h) f = (refl, refl)
  unless_order (taken u s o) f = by u o f
    where
      by : (u : ℕ) {d : TurnDone} → TurnCases.OutcomeOf m was u d
          → ((t number filled disposition : ℕ) → OrderAccepted (printed d.answer) t number filled disposition → ⊥)
          → (d.market.session.next ≡ m.session.next) × (d.records ≡ was)
      by u (of_cancel c (cancels row h)) f = (refl, refl)
      by u (of_cancel c (no_such is above)) f = (refl, refl)
      by u (of_order c (turned_down h)) f = (refl, refl)
      by u (of_order c (rests n o)) f = absurd (f _ _ _ _ (record { values = refl; no_cancel = omega arith }))
      by u (of_order c (trades n o)) f = absurd (f _ _ _ _ (record { values = refl; no_cancel = disposed_less m u }))

  -- ---- an opening with volume 0
  matched_none : (p : ℕ) → SoundBook m.book m.session.next → volume m.book p ≡ 0 → WellLent m was → opening_written m.book p was ≡ was
  unfolding opening_written matched
  matched_none p sound none long =
      let b = m.book in
      as_found (matched_rows b p) (owner_at b) (λ _. p) was long (omega (
        arith,
        sum_add (bought b p) (sold b p) {s = matched b p} b.places (λ i _. refl),
        all_bought b p (live_apart sound),
        all_sold b p (live_apart sound),
      ))

  opens_none : (price : ℕ) → Sound m → WellLent m was → {d : OpenDone} → OpenCases.Outcome m lent was d → printed_open d.answer ≡ opened_at price 0
      → d.records ≡ was
  unfolding open_quiet open_at
  opens_none price sound long (OpenCases.refused n) x = refl
  opens_none price sound long (OpenCases.quiet e c) x = refl
  opens_none price sound long (OpenCases.opens p e c f) x =
      matched_none p.0 (sound (OpenCases.open_set m lent e)).ready.book (ap (λ (l : Line). l.volume) x) long

pub rows_right : RowsRight
rows_right = record {
  rests_shut = λ m lent was t number filled disposition sound shut is. rested_shut m lent was t number filled disposition is sound shut;
  rests_open = λ m lent was t number filled sound opened is. rested_open m lent was t number filled 1 is sound opened refl;
  rests_not = λ m lent was t number filled disposition opened is. rested_not m lent was t number filled disposition is opened;
  frees = λ m lent was t number sound. cancel_freed m lent was t number sound (outcome m lent was);
  leaves = λ m lent was t code some. down_leaves m lent was t code some (outcome m lent was);
  numbered = accepted_numbered;
  not_numbered = λ m lent was none. (unless_order m lent was (outcome m lent was) none).0;
  no_records = λ m lent was none. (unless_order m lent was (outcome m lent was) none).1;
  none_filled = λ m lent was t number disposition sound long is. found_records m lent was t number 0 disposition is sound refl long;
  none_matched = λ m lent was price sound long. opens_none m lent was price sound long (OpenCases.outcome m lent was);
}
