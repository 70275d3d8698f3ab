-- An entry keeps what a floor has: what is left of an order rests only where it has traded with all that was within its
-- limit.
use Rattle.std.specs.Prelude.{◌≡◌, true, false, List, ℕ, ◌+◌, ◌-◌, ◌≤◌, ◌<◌, eqb, Result, Ok, Err}
use Rattle.std.proofs.Math.Path.{refl}
use Rattle.std.proofs.Common.{subst}
use native.Mathlib.Omega.{arith}
use borrow.Author.Tests.{eq-eqb, ne_eqb, eqb-true, eqb-false}
use Rattle.units.specs.declared.Cents.{Cents}
use Rattle.units.specs.declared.Contracts.{Contracts}
use Rattle.units.specs.Units.{contracts, tenants}
use Rattle.units.specs.Tests.{pick_yes, pick_no, picked, and_true, holds_not_fails}
use Rattle.units.specs.CaseLaws.{all_fail}
use Rattle.rows.specs.Rows.{rows, rows_a_tenant, no_number, last_number}
use Rattle.book.specs.declared.lookup.Lost.{Lost}
use Rattle.book.specs.declared.lookup.Lost.TheVariants.{GivenOut, NeverGiven}
use Rattle.book.specs.Book.{Book, side_at, price_at, size_at, resting_of, first_free, rested, freed}
use Rattle.book.specs.Lookup.{found}
use Rattle.book.specs.AllocationLaws.{Distinct}
use Rattle.book.specs.Sound.{SoundBook, Uncrossed, resting}
use Rattle.book.specs.SoundLaws.{sound_apart, trade_sound, trade_uncrossed, trade_resting, later_sound, free_sound, free_uncrossed}
use Rattle.book.specs.SweptLaws.{bids_left, offers_left}
use Rattle.book.specs.RestLaws.{SoundOrder, room_found, rest_sound, rest_uncrossed}
use Rattle.book.specs.RestingLaws.{rest_adds, free_takes}
use Rattle.book.specs.Trading.{reach, filled, after_trade}
use Rattle.entry.specs.declared.Entry.{Entry}
use Rattle.entry.specs.declared.Quotes.{Quotes}
use Rattle.entry.specs.declared.Terms.{Terms}
use Rattle.entry.specs.Entry.{is_cancel, is_limit, new_order, malformed}
use Rattle.entry.specs.EntryLaws.{Proper, side_bounds, new_unless_cancel}
use Rattle.checks.specs.declared.Standing.{Standing}
use Rattle.checks.specs.TurnDown.{might_rest}
use Rattle.judge.specs.Judged.{Judged, TurnedDown, Rests, Trades}
use Rattle.judge.specs.Disposition.{disposition_of}
use Rattle.judge.specs.DispositionLaws.{disposed_by}
use Rattle.judge.specs.Verdict.{verdict}
use Rattle.judge.specs.VerdictLaws.{Taken, Ruled, ruled, taken_proper, rests_as_given, trades_then_rests}
use Rattle.tally.specs.declared.Tally.{Tally}
use Rattle.dealing.specs.Floor.{Floor, Made, floor_of, floor_after}
use Rattle.dealing.specs.Settle.{opposite, tallies_after}
use Rattle.dealing.specs.Deal.{quotes_on, standing_on, cancelled, by_found, cancels, rests, filled_of, disposition_in, book_after, trades, by_verdict, ordered, dealt}
use Rattle.dealing.specs.Sound.{SoundTallies, Kept}
use Rattle.dealing.specs.SumLaws.{moved}

-- what is left of an order that might rest may rest
sound_order : (e : Entry) → Proper e → might_rest e ≡ true → (left t number : ℕ) → 1 ≤ left → left ≤ e.size.0 → t < tenants → 1 ≤ number
    → SoundOrder e.side e.price.0 left t number
unfolding might_rest
sound_order e p might left t number some most tenant numbered =
    let limit = (and_true (is_limit e) _ might).0 in
    record {
      side_least = (side_bounds e p).0;
      side_most = (side_bounds e p).1;
      price_least = p.price_least limit;
      price_most = p.price_most limit;
      size_least = some;
      size_most = omega (arith, p.size_most);
      owner_most = tenant;
      number_least = numbered;
    }

module _ (f : Floor) (kept : Kept f) where
  -- another book, number and tallies
  kept_with :
      (b : Book) (n : ℕ) (tallies : List Tally) → SoundBook b n → 1 ≤ n → n ≤ no_number → SoundTallies tallies n b
      → (f.series.opened ≡ true → Uncrossed b) → Kept (floor_of f.series tallies n b)
  kept_with b n tallies book least most sums uncrossed = record {
    ready = record { book = book; terms = kept.ready.terms; next_least = least; next_most = most; tallies = sums };
    uncrossed = uncrossed;
  }

  -- a cancel takes a row from the book, and nothing comes to rest
  row_freed : (was : List ℕ) (e : Entry) (row : ℕ) → Kept (floor_after f (cancelled f was e row))
  row_freed was e row =
      let r = kept.ready in
      let falls = free_takes r.book row in
      kept_with (freed f.book row) f.number f.tallies (free_sound r.book row) r.next_least r.next_most
      (record {
        long = r.tallies.long;
        turns = r.tallies.turns;
        bought = omega (arith, r.tallies.bought, falls);
        sold = omega (arith, r.tallies.sold, falls);
      })
      (λ o. free_uncrossed r.book row (kept.uncrossed o))

  found_kept : (was : List ℕ) (e : Entry) (x : Result ℕ Lost) → Kept (floor_after f (by_found f was e x))
  found_kept was e (Ok row) = row_freed was e row
  found_kept was e (Err GivenOut) = kept
  found_kept was e (Err NeverGiven) = kept

  cancel_kept : (t : ℕ) (was : List ℕ) (e : Entry) → Kept (floor_after f (cancels f t was e))
  unfolding cancels
  cancel_kept t was e = found_kept was e (found f.book f.number t e.number)

  module _ (t : ℕ) (tenant : t < tenants) (e : Entry) (proper : Proper e) (number_left : f.number ≤ last_number) where
    abbrev n : ℕ
    n = f.number

    -- before the opening an order rests as it is given
    rest_kept : (was : List ℕ) → might_rest e ≡ true → f.series.opened ≡ false → resting_of f.book t < rows_a_tenant → Kept (floor_after f (rests f t was e))
    unfolding rests
    rest_kept was might shut room =
        let r = kept.ready in
        let free = room_found r.book t tenant room in
        let is = sound_order e proper might e.size.0 t n proper.size_least (omega arith) tenant r.next_least in
        let grows = rest_adds r.book free e.side e.price.0 e.size.0 t n in
        kept_with (rested f.book e.side e.price.0 e.size.0 t n) (n + 1) f.tallies
        (rest_sound r.book free e.side e.price.0 e.size.0 t n is (n + 1) (omega arith) (omega arith) room)
        (omega arith)
        (omega arith)
        (record {
          long = r.tallies.long;
          turns = r.tallies.turns;
          bought = omega (arith, r.tallies.bought, r.next_least, proper.size_most, grows);
          sold = omega (arith, r.tallies.sold, r.next_least, proper.size_most, grows);
        })
        (λ o. absurd (holds_not_fails o shut))

    module _ (bound : Cents) where
      abbrev filling : ℕ
      filling = filled f.book (opposite e) bound.0 e.size.0

      abbrev b₁ : Book
      b₁ = after_trade f.book (opposite e) bound.0 e.size.0 f.series.terms.allocation

      abbrev after : List Tally
      after = tallies_after f.tallies t e f.book bound.0 f.series.terms.allocation

      sound : SoundBook b₁ n
      sound = trade_sound kept.ready.book (opposite e) bound.0 e.size.0 f.series.terms.allocation

      uncrossed : f.series.opened ≡ true → Uncrossed b₁
      uncrossed o = trade_uncrossed kept.ready.book (opposite e) bound.0 e.size.0 f.series.terms.allocation (kept.uncrossed o)

      -- whatever rests of what is left, the number given makes up for it
      left_kept : (b₂ : Book) → SoundBook b₂ (n + 1) → resting b₂ ≤ resting b₁ + (e.size.0 - filling)
          → (f.series.opened ≡ true → Uncrossed b₂) → Kept (floor_of f.series after (n + 1) b₂)
      left_kept b₂ sound₂ few uncrossed₂ =
          let r = kept.ready in
          let g = moved f.tallies r.tallies.long t tenant e f.book n r.book bound.0 f.series.terms.allocation in
          kept_with b₂ (n + 1) after sound₂ (omega arith) (omega arith)
          (record {
            long = g.long;
            turns = omega (arith, g.turns, r.tallies.turns);
            bought = omega (arith, g.bought, few, r.tallies.bought, r.next_least, proper.size_most);
            sold = omega (arith, g.sold, few, r.tallies.sold, r.next_least, proper.size_most);
          })
          uncrossed₂

      -- nothing of it rests
      gone_kept : Kept (floor_of f.series after (n + 1) b₁)
      gone_kept = left_kept b₁ (later_sound sound (n + 1) (omega arith)) (omega arith) uncrossed

      module _ (might : might_rest e ≡ true) (at_limit : bound.0 ≡ e.price.0) (room : resting_of f.book t < rows_a_tenant) (short : filling < e.size.0) where
        abbrev left : ℕ
        left = e.size.0 - filling

        abbrev b₂ : Book
        b₂ = rested b₁ e.side e.price.0 left t n

        apart : Distinct (reach f.book (opposite e) bound.0)
        apart = sound_apart kept.ready.book (opposite e) bound.0

        -- every row left of the other side is beyond the limit
        offers_beyond : (i : ℕ) → i < rows → 0 < size_at b₁ i → e.side ≡ 1 → side_at b₁ i ≡ 2 → e.price.0 < price_at b₁ i
        unfolding after_trade
        offers_beyond i p x h s = omega (
          arith,
          offers_left f.book (opposite e) bound.0 e.size.0 f.series.terms.allocation apart short
              (pick_yes 2 1 (eq-eqb e.side 1 h)) i (omega (arith, kept.ready.book.places)) x s,
        )

        bids_beyond : (i : ℕ) → i < rows → 0 < size_at b₁ i → e.side ≡ 2 → side_at b₁ i ≡ 1 → price_at b₁ i < e.price.0
        unfolding after_trade
        bids_beyond i p x h s = omega (
          arith,
          bids_left f.book (opposite e) bound.0 e.size.0 f.series.terms.allocation apart short
              (pick_no 2 1 (ne_eqb e.side 1 (omega arith))) i (omega (arith, kept.ready.book.places)) x s,
        )

        room_still : resting_of b₁ t < rows_a_tenant
        room_still = omega (arith, trade_resting kept.ready.book (opposite e) bound.0 e.size.0 f.series.terms.allocation t)

        free : first_free b₁ < rows
        free = room_found sound t tenant room_still

        -- what is left of it rests at its limit
        rests_kept : Kept (floor_of f.series after (n + 1) b₂)
        rests_kept =
            let is = sound_order e proper might left t n (omega arith) (omega arith) tenant kept.ready.next_least in
            left_kept b₂
            (rest_sound sound free e.side e.price.0 left t n is (n + 1) (omega arith) (omega arith) room_still)
            (omega (arith, rest_adds sound free e.side e.price.0 left t n))
            (λ o. rest_uncrossed sound free e.side e.price.0 left t n (uncrossed o) offers_beyond bids_beyond)

      -- something is left of an order that rests
      some_left : (left : ℕ) → disposition_of e (quotes_on f) f.series.terms (contracts left) ≡ 1 → 0 < left
      some_left left d =
          let q = quotes_on f in
          let not_zero = eqb-false left 0 (all_fail (disposed_by e q f.series.terms (contracts left)) d 0) in
          omega (arith, not_zero)

      trade_kept : (was : List ℕ)
          → ((left : Contracts) → disposition_of e (quotes_on f) f.series.terms left ≡ 1 → (might_rest e ≡ true) × (bound.0 ≡ e.price.0))
          → (might_rest e ≡ true → resting_of f.book t < rows_a_tenant)
          → Kept (floor_after f (trades f t e bound was))
      unfolding trades book_after disposition_in filled_of
      trade_kept was resting room =
          let left = e.size.0 - filling in
          let d = disposition_of e (quotes_on f) f.series.terms (contracts left) in
          picked (λ b. Kept (floor_of f.series after (n + 1) b)) (eqb d 1) (rested b₁ e.side e.price.0 left t n) b₁
          (λ h.
          let is = eqb-true d 1 h in
          let (might, at_limit) = resting (contracts left) is in
          rests_kept might at_limit (room might) (omega (arith, some_left left is)))
          (λ _. gone_kept)

  module _ (t : ℕ) (tenant : t < tenants) (was : List ℕ) (e : Entry) where
    module _ (new : new_order e ≡ true) where
      abbrev q : Quotes
      q = quotes_on f

      abbrev terms : Terms
      terms = f.series.terms

      abbrev s : Standing
      s = standing_on f t

      proper_as : (j : Entry) → Taken e q terms s j → Proper j
      proper_as j k = taken_proper e q terms s new j kept.ready.terms.low_least kept.ready.terms.low_most k

      by_verdict_kept : (v : Judged) → verdict e q terms s ≡ v → Kept (floor_after f (by_verdict f t was v))
      by_verdict_kept (TurnedDown code) is = kept
      by_verdict_kept (Rests j) is =
          let (shut, k) = subst (Ruled e q terms s) is (ruled e q terms s) in
          let might = (rests_as_given e q terms s new j is).1 in
          rest_kept t tenant j (proper_as j k) k.number_left was might shut (k.room_left might)
      by_verdict_kept (Trades j bound) is =
          let (_, k, _) = subst (Ruled e q terms s) is (ruled e q terms s) in
          trade_kept t tenant j (proper_as j k) k.number_left bound was
          (λ left d. trades_then_rests e q terms s new j bound left kept.ready.terms.low_least kept.ready.terms.low_most is d)
          k.room_left

      order_kept : Kept (floor_after f (ordered f t was e))
      unfolding ordered
      order_kept = by_verdict_kept (verdict e q terms s) refl

    -- a well-formed entry keeps what a floor has
    pub dealt_kept : malformed e ≡ false → Kept (floor_after f (dealt f t was e))
    unfolding dealt
    dealt_kept formed =
        picked (λ (d : Made). Kept (floor_after f d)) (is_cancel e) (cancels f t was e) (ordered f t was e)
        (λ _. cancel_kept t was e)
        (λ g. order_kept (new_unless_cancel e formed g))
