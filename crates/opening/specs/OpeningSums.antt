-- The records of an opening: those of buys first, then those of sells; what a tenant's records have is what the tenant
-- bought and sold.
use Rattle.std.specs.Prelude.{◌≡◌, true, false, List, ℕ, ◌+◌, ◌≤◌, ◌<◌, ltb}
use Rattle.std.proofs.Math.Path.{refl, sym}
use Rattle.std.proofs.Common.{ap, ◌∙◌, lt-ltb, le-ltb}
use native.Mathlib.Omega.{arith}
use Rattle.units.specs.Tests.{order, less, equal, more}
use Rattle.units.specs.Precedence.{at_better, not_after, not_itself}
use Rattle.units.specs.Sums.{sum_to, sum_same, sum_most, sum_less, sum_add, sum_stops}
use Rattle.units.specs.Picked.{keep, keep_most, same, same_add, same_most}
use Rattle.rows.specs.Rows.{selling}
use Rattle.book.specs.Book.{Book, side_at, price_at, size_at, owner_at, number_at}
use Rattle.book.specs.Allocation.{Resting}
use Rattle.book.specs.AllocationLaws.{Distinct}
use Rattle.book.specs.Records.{sort_key, sooner_than, pos, records, recorded}
use Rattle.book.specs.RecordLaws.{sooner_free, sooner_one, sooner_not, sooner_most, traded_in, traded_out, pos_onto, recorded_at, sum_recorded}
use Rattle.book.specs.Trading.{of_tenant}
use Rattle.opening.specs.Opening.{bought, sold, matched, matched_rows, opening_records, opening_written}
use Rattle.opening.specs.OpeningLaws.{fills_side, fills_other, matched_apart}
use Rattle.book.specs.RecordSums.{tenant_in, quantity_in, one_record, tenant_records}

-- the record of a row that buys stands before that of one that sells
pub buy_first : (a b x y : ℕ) → selling a ≡ false → selling b ≡ true → sort_key a x < sort_key b y
unfolding sort_key
buy_first a b x y e e' = rw (e, e') (omega arith)

-- how many buys traded
unfoldable pub buy_records : Book → ℕ → ℕ
buy_records b p = sum_to (λ i. keep (ltb 0 (bought b p i)) 1) b.places

module _ (b : Book) (p : ℕ) where
  abbrev r : Resting
  r = matched_rows b p

  first : (i j : ℕ) → 0 < bought b p i → 0 < sold b p j → r.key i < r.key j
  unfolding bought sold
  first i j x z = buy_first (side_at b i) (side_at b j) (price_at b i) (price_at b j) (ap selling (fills_side b p 1 i x)) (ap selling (fills_side b p 2 j z))

  not_sold : (i : ℕ) → 0 < bought b p i → sold b p i ≡ 0
  unfolding bought sold
  not_sold i x = fills_other b p 2 i (omega (arith, fills_side b p 1 i x))

  matched_is : (i : ℕ) → matched b p i ≡ bought b p i + sold b p i
  unfolding matched
  matched_is i = refl

  -- the record of a buy stands below their number,
  pos_buy : (i : ℕ) → i < b.places → 0 < bought b p i → pos r i < buy_records b p
  unfolding pos buy_records
  pos_buy i h x = sum_less b.places i each h
      (rw (lt-ltb 0 (bought b p i) x) (omega (arith, sooner_not r (r.key i) (r.number i) i (not_itself (r.key i) (r.number i)))))
    where
      each : (j : ℕ) → j < b.places → sooner_than r.key r.size r.number (r.key i) (r.number i) j ≤ keep (ltb 0 (bought b p j)) 1
      each j _ = elim (order 0 (bought b p j)) [
        | less y ↦ rw (lt-ltb 0 (bought b p j) y) (sooner_most r (r.key i) (r.number i) j)
        | equal y ↦ elim (order 0 (sold b p j)) [
          | less z ↦ omega (arith, sooner_not r (r.key i) (r.number i) j (not_after (at_better (first i j x z))))
          | equal z ↦ omega (arith, sooner_free r (r.key i) (r.number i) j (omega (arith, matched_is j)))
          | more z ↦ omega arith
        ]
        | more y ↦ omega arith
      ]

  -- that of a sell does not
  pos_sell : (j : ℕ) → 0 < sold b p j → buy_records b p ≤ pos r j
  unfolding pos buy_records
  pos_sell j z = sum_most b.places λ i h. elim (order 0 (bought b p i)) [
    | less x ↦ rw (lt-ltb 0 (bought b p i) x)
        (omega (arith, sooner_one r (r.key j) (r.number j) i (omega (arith, matched_is i)) (at_better (first i j x z))))
    | equal x ↦ rw (le-ltb 0 (bought b p i) (omega arith)) (omega arith)
    | more x ↦ omega arith
  ]

  pub buy_records_most : buy_records b p ≤ opening_records b p
  unfolding buy_records opening_records records
  buy_records_most = sum_most b.places λ i h. elim (order 0 (bought b p i)) [
    | less x ↦ omega (arith, keep_most (ltb 0 (bought b p i)) 1, traded_in r (λ _. 1) i (omega (arith, matched_is i)))
    | equal x ↦ rw (le-ltb 0 (bought b p i) (omega arith)) (omega arith)
    | more x ↦ omega arith
  ]

  module _ (apart : (i j : ℕ) → i < b.places → j < b.places → 0 < size_at b i → 0 < size_at b j → number_at b i ≡ number_at b j → i ≡ j) (was : List ℕ) (t : ℕ) where
    abbrev lent : List ℕ
    lent = opening_written b p was

    -- what a tenant's rows bought, by row
    abbrev x : ℕ → ℕ
    x = same (owner_at b) t (bought b p)

    bought_recorded : (q : ℕ) → q < records r → recorded r x q ≡ keep (ltb q (buy_records b p)) (recorded r (same (owner_at b) t (matched b p)) q)
    unfolding same
    bought_recorded q h =
        let (i, l, y, e) = pos_onto r (matched_apart b p apart) q h in
        let mine : recorded r x q ≡ x i = rw e at (recorded_at r (matched_apart b p apart) x i l y) in
        let all : recorded r (same (owner_at b) t (matched b p)) q ≡ same (owner_at b) t (matched b p) i = rw e at (recorded_at r (matched_apart b p apart) (same (owner_at b) t (matched b p)) i l y) in
        elim (order 0 (bought b p i)) [
          | less z ↦
              let whole : matched b p i ≡ bought b p i = omega (arith, matched_is i, not_sold i z) in
              rw (lt-ltb q (buy_records b p) (omega (arith, pos_buy i l z))) (mine ∙ sym (rw whole at all))
          | equal z ↦
              let late : buy_records b p ≤ q = omega (arith, pos_sell i (omega (arith, matched_is i))) in
              rw (le-ltb q (buy_records b p) late) (omega (arith, mine, same_most (owner_at b) t (bought b p) i))
          | more z ↦ omega arith
        ]

    d : Distinct r
    d = matched_apart b p apart

    below : {q : ℕ} → q < buy_records b p → q < records r
    below {q} h = unfold opening_records in omega (arith, buy_records_most)

    -- the records below the number of buys have what the tenant bought,
    pub tenant_bought : sum_to (same (tenant_in lent) t (quantity_in lent)) (buy_records b p) ≡ of_tenant b t (bought b p)
    unfolding opening_written of_tenant
    tenant_bought =
        let here : (q : ℕ) → q < buy_records b p → same (tenant_in lent) t (quantity_in lent) q ≡ recorded r x q =
        λ q h. one_record r (owner_at b) (λ _. p) was d t q (below h) ∙ sym (rw (lt-ltb q (buy_records b p) h) at (bought_recorded q (below h))) in
        let none : (q : ℕ) → buy_records b p ≤ q → q < records r → recorded r x q ≡ 0 =
        λ q h l. rw (le-ltb q (buy_records b p) h) at (bought_recorded q l) in
        let few : buy_records b p ≤ records r = unfold opening_records in buy_records_most in
        sum_same (buy_records b p) here
        ∙ (sym (sum_stops (recorded r x) (buy_records b p) (records r) few none)
        ∙ (sum_recorded r x ∙ sum_same b.places λ i h. elim (order 0 (matched b p i)) [
          | less y ↦ traded_in r x i y
          | equal y ↦ omega (arith, traded_out r x i (sym y), same_most (owner_at b) t (bought b p) i, matched_is i)
          | more y ↦ omega arith
        ]))

    -- and all of them together what the tenant bought and sold
    pub tenant_matched : sum_to (same (tenant_in lent) t (quantity_in lent)) (opening_records b p) ≡ of_tenant b t (bought b p) + of_tenant b t (sold b p)
    unfolding opening_written opening_records of_tenant
    tenant_matched = tenant_records r (owner_at b) (λ _. p) was d t
        ∙ sum_add x (same (owner_at b) t (sold b p)) b.places (λ i _. same_add (owner_at b) t (bought b p) (sold b p) (matched b p) i (λ _. matched_is i))
