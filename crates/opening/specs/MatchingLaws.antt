-- The columns of a match are those of the opening's definitions.
use Rattle.std.specs.Prelude.{◌≡◌, refl, List, [], ℕ, ◌-◌, ◌≤◌, ◌<◌, min, max, length, replicate}
use Rattle.std.proofs.Math.Path.{ap}
use Rattle.std.proofs.Common.{◌∙◌, arith}
use Rattle.std.proofs.Math.Decide.{ℕ_discrete}
use Rattle.std.proofs.Math.ListN.{get_or-replicate}
use Rattle.units.specs.Sums.{sum_le}
use Rattle.units.specs.Units.{contracts, most32}
use Rattle.units.specs.Places.{at, table, table_is, table_at, table_length, table_same}
use Rattle.rows.specs.Rows.{rows, largest, open_size}
use Rattle.rows.specs.Passes.{resting_within}
use Rattle.allocation.specs.Ranges.{Small}
use Rattle.allocation.specs.RangeLaws.{open_most}
use Rattle.book.specs.Book.{Book, book_of, side_at}
use Rattle.book.specs.Allocation.{time, fill}
use Rattle.book.specs.AllocationLaws.{Distinct}
use Rattle.book.specs.Records.{records, written}
use Rattle.book.specs.Trading.{reach}
use Rattle.book.specs.Recording.{sort_keys, took}
use Rattle.book.specs.SameRecords.{records_same, written_same}
use Rattle.book.specs.Fit.{Fit}
use Rattle.opening.specs.Opening.{volume, fills_on, bought, sold, matched, after_fills, buy_goes, sell_goes, after_opening, opening_records, opening_written, both_fill, buy_cut, sell_cut, kept_by, kept_of}
use Rattle.opening.specs.OpeningLaws.{fills_other, matched_most}
use Rattle.opening.specs.Answers.{matched_of}
use Rattle.opening.specs.declared.matching.Matched.{Matched}

-- what may trade of rows that hold no more than orders may
within_small : (s p : ℕ) (sides prices sizes : List ℕ) → Small sizes → resting_within rows (at sides) (at prices) (at sizes) s p ≤ 215999784
unfolding resting_within
within_small s p sides prices sizes small =
    sum_le (λ i. open_size s p (at sides i) (at prices i) (at sizes i)) largest rows (λ i h. omega (arith, open_most s p (at sides i) (at prices i) (at sizes i), small i h))

pub volume_fits : (p : ℕ) (sides prices sizes : List ℕ) (buys sells : ℕ) → Small sizes
    → buys ≡ resting_within rows (at sides) (at prices) (at sizes) 1 p → min buys sells ≤ most32
volume_fits p sides prices sizes buys sells small e = omega (arith, within_small 1 p sides prices sizes small)

pub table_long : (f : ℕ → ℕ) (l : List ℕ) → l ≡ table f rows → length l ≡ rows
table_long f l e = rw e (table_length f rows)

module _ (sides prices sizes owners numbers : List ℕ) (fit : Fit prices sizes numbers) (p : ℕ) where
  abbrev b : Book
  b = book_of sides prices sizes owners numbers

  module _ (q buys sells : ℕ) (least : q ≡ min buys sells) (may_buy : buys ≡ resting_within rows (at sides) (at prices) (at sizes) 1 p)
      (may_sell : sells ≡ resting_within rows (at sides) (at prices) (at sizes) 2 p) where
    volume_is : q ≡ volume b p
    unfolding volume
    volume_is = rw (may_buy, may_sell) at least

    fills_are : (side i : ℕ) → fill (reach b side p) q time i ≡ fills_on b p side i
    fills_are side i = ap (λ v. fill (reach b side p) v time i) volume_is

    module _ (qs : List ℕ) (are : qs ≡ table (both_fill (book_of sides prices sizes [] numbers) p q) rows) where
      -- a row trades on one side only
      quantity_is : (i : ℕ) → i < rows → at qs i ≡ matched b p i
      unfolding matched bought sold
      quantity_is i h =
          let here : at qs i ≡ both_fill b p q i = rw are (table_at (both_fill b p q) rows i h) in
          elim (ℕ_discrete (side_at b i) 1) [
            | yes e ↦ omega (arith, fills_are 1 i, fills_are 2 i, fills_other b p 2 i (omega arith))
            | no e ↦ omega (arith, fills_are 1 i, fills_are 2 i, fills_other b p 1 i e)
          ]

      pub opening_apart : Distinct (took sides prices qs numbers)
      opening_apart i j h h' x y e = fit.apart i j h h'
          (omega (arith, quantity_is i h, matched_most b p i))
          (omega (arith, quantity_is j h', matched_most b p j))
          e

      pub opening_counts : (n : ℕ) → n ≡ records (took sides prices qs numbers) → n ≡ opening_records b p
      unfolding opening_records
      opening_counts n e = e
          ∙ records_same rows (sort_keys (at sides) (at prices)) (sort_keys (at sides) (at prices)) (at qs) (matched b p) (at numbers) quantity_is (λ i j _ _ _ _ a c. refl)

      pub opening_writes : (l was : List ℕ) → l ≡ written (took sides prices qs numbers) (at owners) (at (replicate rows p)) was → l ≡ opening_written b p was
      unfolding opening_written
      opening_writes l was e = e
          ∙ written_same rows (sort_keys (at sides) (at prices)) (sort_keys (at sides) (at prices)) (at qs) (matched b p) (at numbers) quantity_is (λ i j _ _ _ _ a c. refl)
          (at owners) (at (replicate rows p)) (λ _. p) (λ i h. get_or-replicate {A = ℕ} rows i p 0 h) was

      -- the sizes after the fills, and after the cancels
      pub opening_shares : qs ≡ table (matched b p) rows
      opening_shares = table_is (matched b p) qs rows (table_long _ qs are) quantity_is

      module _ (l : List ℕ) (left : l ≡ table (λ i. at sizes i - at qs i) rows) where
        fills_leave : l ≡ table (λ i. at sizes i - matched b p i) rows
        fills_leave = left ∙ table_same rows (λ i h. ap (λ x. at sizes i - x) (quantity_is i h))

        pub opening_leaves : (m : List ℕ) → m ≡ table (kept_of rows (at sides) (at prices) (at l) p) rows
            → book_of sides prices m owners numbers ≡ after_opening b p
        unfolding after_opening after_fills buy_goes sell_goes kept_by buy_cut sell_cut
        opening_leaves m e = ap (λ z. book_of sides prices z owners numbers) (rw fills_leave at e)

      pub opening_answers : (n : ℕ) → n ≡ records (took sides prices qs numbers)
          → ◌≡◌ {A = Matched} (record { volume = contracts q; fills = n }) (matched_of b p)
      unfolding matched_of
      opening_answers n e =
          let counts = opening_counts n e in
          λ j. record { volume = contracts (volume_is j); fills = counts j }

pub joined : (f g : ℕ → ℕ) (x y : List ℕ) → x ≡ table f rows → y ≡ table g rows → table (λ i. max (at x i) (at y i)) rows ≡ table (λ i. max (f i) (g i)) rows
joined f g x y e e' = rw (e, e') (table_same rows (λ i h. rw (table_at f rows i h, table_at g rows i h)))

-- an opening leaves whose rows they are, and on which side
pub unopened : (b c : Book) (price : ℕ) → c ≡ after_opening b price → (c.sides ≡ b.sides) × (c.owners ≡ b.owners)
unfolding after_opening
unopened b c price e = (ap (λ (d : Book). d.sides) e, ap (λ (d : Book). d.owners) e)
