-- What is told from the book before and after an opening: the orders that it cancelled, and no others.
use Rattle.std.specs.Prelude.{◌≡◌, Bool, ◌&&◌, ◌||◌, ◌≢◌, List, ℕ, ◌+◌, ◌-◌, ◌*◌, ◌≤◌, ◌<◌, ltb}
use Rattle.std.proofs.Math.Path.{refl, ap}
use Rattle.std.proofs.Common.{sym, ◌∙◌}
use Rattle.std.proofs.Math.Bool.{true, false, cond}
use Rattle.std.proofs.Math.Nat.{min-eq_left}
use Rattle.std.proofs.Math.Decide.{ℕ_discrete}
use native.Mathlib.Omega.{arith}
use borrow.Author.Tests.{lt-ltb, le-ltb}
use Rattle.units.specs.Tests.{order, less, equal, more}
use Rattle.units.specs.Sums.{sum_to, sum_same, sum_only}
use Rattle.units.specs.Picked.{keep, same, same_in, same_out, same_most}
use Rattle.units.specs.Places.{at, table_at}
use Rattle.rows.specs.Rows.{rows}
use Rattle.book.specs.Book.{Book, size_at, owner_at, number_at}
use Rattle.book.specs.Sound.{SoundBook}
use Rattle.book.specs.SoundLaws.{live_apart}
use Rattle.book.specs.Allocation.{Resting}
use Rattle.book.specs.AllocationLaws.{Distinct}
use Rattle.book.specs.Records.{records, recorded, field_of, written, fields}
use Rattle.book.specs.RecordLaws.{traded_in, traded_out, pos_onto, records_most, recorded_at, sum_recorded}
use Rattle.book.specs.RecordSums.{written_at}
use Rattle.book.specs.declared.Fill.{Fill}
use Rattle.book.specs.Fills.{no_fill, stored}
use Rattle.book.specs.FillsLaws.{stored_at_lem}
use Rattle.opening.specs.Opening.{matched, matched_rows, after_fills, buy_goes, sell_goes, after_opening, opening_records, opening_written, gone as cancelled}
use Rattle.opening.specs.OpeningLaws.{matched_most, left_is, matched_apart}
use Rattle.lines.specs.Gone.{order_in, contracts_in, filled_of, gone_order, gone_of}
use Rattle.lines.specs.GoneLaws.{gone_free, gone_cancelled, gone_filled, gone_rests}

-- the fills of an order have in all what its row traded
module _ (r : Resting) (owner price : ℕ → ℕ) (was : List ℕ) (d : Distinct r) (row : List Fill) where
  open r use {places, size, number}

  abbrev lent : List ℕ
  lent = written r owner price was

  abbrev left : List Fill
  left = stored lent (records r) row

  number_at_lem : (q : ℕ) → q < records r → order_in left q ≡ recorded r number q
  unfolding field_of
  number_at_lem q h =
      let e : fields * q ≡ fields * q + 0 = omega arith in
      ap (λ (f : Fill). f.number) (stored_at_lem lent (records r) q row no_fill h) ∙ rw e (written_at r owner price was q 0 h (omega arith))

  quantity_at : (q : ℕ) → q < records r → contracts_in left q ≡ recorded r size q
  unfolding field_of
  quantity_at q h = ap (λ (f : Fill). f.quantity.0) (stored_at_lem lent (records r) q row no_fill h) ∙ written_at r owner price was q 2 h (omega arith)

  one_fill : (n q : ℕ) → q < records r → same (order_in left) n (contracts_in left) q ≡ recorded r (same number n size) q
  unfolding same
  one_fill n q h =
      let (i, p, x, e) = pos_onto r d q h in
      let numbered : recorded r number q ≡ number i = rw e at (recorded_at r d number i p x) in
      let had : recorded r size q ≡ size i = rw e at (recorded_at r d size i p x) in
      rw (number_at_lem q h, quantity_at q h, numbered, had) (sym (rw e at (recorded_at r d (same number n size) i p x)))

  order_fills : (n : ℕ) → sum_to (same (order_in left) n (contracts_in left)) (records r) ≡ sum_to (same number n size) places
  order_fills n = sum_same (records r) (one_fill n) ∙ (sum_recorded r (same number n size) ∙ sum_same places λ i q. elim (order 0 (size i)) [
    | less x ↦ traded_in r (same number n size) i x
    | equal x ↦ omega (arith, traded_out r (same number n size) i (sym x), same_most number n size i)
    | more x ↦ omega arith
  ])

module _ (b : Book) (next p : ℕ) (sound : SoundBook b next) (was : List ℕ) (row : List Fill) where
  -- the row of fills that the opening leaves
  abbrev filled_row : List Fill
  filled_row = stored (opening_written b p was) (opening_records b p) row

  -- the contracts of a resting order in the opening's fills are what it traded
  pub filled_is : (i : ℕ) → i < rows → 0 < size_at b i → filled_of filled_row (opening_records b p) (number_at b i) ≡ matched b p i
  unfolding filled_of opening_written opening_records
  filled_is i h x =
      let few : records (matched_rows b p) ≤ rows = omega (arith, records_most (matched_rows b p), sound.places) in
      let inside : i < b.places = rw sound.places h in
      rw (min-eq_left few)
      (order_fills (matched_rows b p) (owner_at b) (λ _. p) was (matched_apart b p (live_apart sound)) row (number_at b i)
      ∙ (sum_only (same (number_at b) (number_at b i) (matched b p)) b.places i inside others
      ∙ same_in (number_at b) (number_at b i) (matched b p) i refl))
    where
      others : (j : ℕ) → j < b.places → j ≢ i → same (number_at b) (number_at b i) (matched b p) j ≡ 0
      others j k n = elim (ℕ_discrete (number_at b j) (number_at b i)) [
        | yes e ↦ elim (order 0 (size_at b j)) [
          | less y ↦ absurd (n (live_apart sound j i k (rw sound.places h) y x e))
          | equal y ↦ omega (arith, same_most (number_at b) (number_at b i) (matched b p) j, matched_most b p j)
          | more y ↦ omega arith
        ]
        | no e ↦ same_out (number_at b) (number_at b i) (matched b p) j e
      ]

  goes : ℕ → Bool
  goes i = buy_goes b p i || sell_goes b p i

  after_is : (i : ℕ) → i < rows → size_at (after_opening b p) i ≡ cond (goes i) 0 (size_at b i - matched b p i)
  unfolding after_opening goes
  after_is i h =
      let inside : i < b.places = rw sound.places h in
      table_at (λ j. cond (buy_goes b p j || sell_goes b p j) 0 (size_at (after_fills b p) j)) b.places i inside ∙ rw (left_is b p i inside)

  cut : (i : ℕ) → i < rows → goes i ≡ true → size_at (after_opening b p) i ≡ 0
  cut i h e = rw (after_is i h, e) refl

  stays : (i : ℕ) → i < rows → goes i ≡ false → size_at (after_opening b p) i ≡ size_at b i - matched b p i
  stays i h e = rw (after_is i h, e) refl

  cancelled_is : (i : ℕ) → i < rows → cancelled b p i ≡ (ltb 0 (size_at b i - matched b p i) && goes i)
  unfolding cancelled goes
  cancelled_is i h = rw (left_is b p i (rw sound.places h)) refl

  -- the number of row i is told exactly if the row is cancelled: something was left of it, and it goes
  pub gone_is_cancelled : (i : ℕ) → i < rows
      → at (gone_of b.sizes (after_opening b p).sizes b.numbers filled_row (opening_records b p)) i ≡ keep (cancelled b p i) (number_at b i)
  unfolding gone_of
  gone_is_cancelled i h = table_at _ rows i h ∙ elim (order 0 (size_at b i)) [
    | less x ↦ rests x (goes i) refl
    | equal x ↦ gone_free _ _ _ _ _ (sym x) ∙ rw (cancelled_is i h, le-ltb 0 (size_at b i - matched b p i) (omega arith)) refl
    | more x ↦ absurd (omega arith)
  ]
    where
      rests : 0 < size_at b i → (t : Bool) → goes i ≡ t
          → gone_order filled_row (opening_records b p) (size_at b i) (size_at (after_opening b p) i) (number_at b i) ≡ keep (cancelled b p i) (number_at b i)
      rests x true e = elim (order (matched b p i) (size_at b i)) [
        | less l ↦
            gone_cancelled _ _ _ _ _ x (cut i h e) (omega (arith, filled_is i h x))
            ∙ rw (cancelled_is i h, e, lt-ltb 0 (size_at b i - matched b p i) (omega arith)) refl
        | equal l ↦
            gone_filled _ _ _ _ _ x (cut i h e) (omega (arith, filled_is i h x))
            ∙ rw (cancelled_is i h, e, le-ltb 0 (size_at b i - matched b p i) (omega arith)) refl
        | more l ↦ absurd (omega (arith, matched_most b p i))
      ]
      rests x false e = elim (order (matched b p i) (size_at b i)) [
        | less l ↦
            gone_rests _ _ _ _ _ x (omega (arith, stays i h e))
            ∙ rw (cancelled_is i h, e, lt-ltb 0 (size_at b i - matched b p i) (omega arith)) refl
        | equal l ↦
            gone_filled _ _ _ _ _ x (omega (arith, stays i h e)) (omega (arith, filled_is i h x))
            ∙ rw (cancelled_is i h, e, le-ltb 0 (size_at b i - matched b p i) (omega arith)) refl
        | more l ↦ absurd (omega (arith, matched_most b p i))
      ]
