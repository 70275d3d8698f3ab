-- What a tenant's records have in all is what the tenant's rows traded.
use Rattle.std.specs.Prelude.{◌≡◌, List, ℕ, ◌+◌, ◌*◌, ◌/◌, ◌%◌, ◌<◌, ltb}
use Rattle.std.proofs.Math.Path.{refl}
use Rattle.std.proofs.Common.{sym, ap, ◌∙◌, mod-eq_of_lt, add-zero, arith}
use Rattle.std.proofs.Math.Bool.{cond}
use Rattle.std.proofs.Math.Nat.{mul-add-div, div-eq_of_lt, mul-add-mod_self_left}
use borrow.Author.Tests.{lt-ltb}
use Rattle.units.specs.Tests.{order, less, equal, more}
use Rattle.units.specs.Sums.{sum_to, sum_same}
use Rattle.units.specs.Picked.{same, same_most}
use Rattle.units.specs.Places.{at, table_at}
use Rattle.book.specs.Book.{Book, price_at, owner_at}
use Rattle.book.specs.Allocation.{Resting}
use Rattle.book.specs.AllocationLaws.{Distinct}
use Rattle.book.specs.Records.{records, recorded, field_of, written, fields}
use Rattle.book.specs.RecordLaws.{traded_in, traded_out, pos_onto, records_most, recorded_at, sum_recorded}
use Rattle.book.specs.Trading.{of_tenant, traded, traded_rows, trade_records, trade_written}

-- field f of place p, in numbers four to a record
field_place : (p f : ℕ) → f < fields → ((fields * p + f) / fields ≡ p) × ((fields * p + f) % fields ≡ f)
field_place p f h =
    (mul-add-div (omega arith) p f ∙ (ap (λ z. p + z) (div-eq_of_lt h) ∙ add-zero p), mul-add-mod_self_left fields p f ∙ mod-eq_of_lt h)

-- whose the record at p is, and its quantity, in the lent numbers
abbrev pub tenant_in : List ℕ → ℕ → ℕ
tenant_in l p = at l (fields * p + 1)

abbrev pub quantity_in : List ℕ → ℕ → ℕ
quantity_in l p = at l (fields * p + 2)

module _ (r : Resting) (owner price : ℕ → ℕ) (was : List ℕ) where
  open r use {places, size}

  -- a record's numbers stand where they are looked for
  pub written_at : (p f : ℕ) → p < records r → f < fields → at (written r owner price was) (fields * p + f) ≡ recorded r (field_of r owner price f) p
  unfolding written
  written_at p f h k =
      let (e, e') = field_place p f k in
      let here = table_at (λ j. cond (ltb (j / fields) (records r)) (recorded r (field_of r owner price (j % fields)) (j / fields)) (at was j)) (fields * places) (fields * p + f)
      (omega (arith, records_most r)) in
      here ∙ rw (e, e', lt-ltb p (records r) h) refl

  module _ (d : Distinct r) (t : ℕ) where
    abbrev tenant_at : ℕ → ℕ
    tenant_at = tenant_in (written r owner price was)

    abbrev quantity_at : ℕ → ℕ
    quantity_at = quantity_in (written r owner price was)

    pub one_record : (p : ℕ) → p < records r → same tenant_at t quantity_at p ≡ recorded r (same owner t size) p
    unfolding same field_of
    one_record p h =
        let (i, q, x, e) = pos_onto r d p h in
        let owned : recorded r owner p ≡ owner i = rw e at (recorded_at r d owner i q x) in
        let had : recorded r size p ≡ size i = rw e at (recorded_at r d size i q x) in
        rw (written_at p 1 h (omega arith), written_at p 2 h (omega arith), owned, had) (sym (rw e at (recorded_at r d (same owner t size) i q x)))

    pub tenant_records : sum_to (same tenant_at t quantity_at) (records r) ≡ sum_to (same owner t size) places
    tenant_records = sum_same (records r) one_record ∙ (sum_recorded r (same owner t size) ∙ sum_same places λ i q. elim (order 0 (size i)) [
      | less x ↦ traded_in r (same owner t size) i x
      | equal x ↦ omega (arith, traded_out r (same owner t size) i (sym x), same_most owner t size i)
      | more x ↦ omega arith
    ])

-- the records of a trade
pub trade_tenant : (b : Book) (side bound q allocation : ℕ) (was : List ℕ) → Distinct (traded_rows b side bound q allocation) → (t : ℕ)
    → sum_to (same (tenant_in (trade_written b side bound q allocation was)) t (quantity_in (trade_written b side bound q allocation was))) (trade_records b side bound q allocation)
    ≡ of_tenant b t (traded b side bound q allocation)
unfolding trade_records trade_written of_tenant
trade_tenant b side bound q allocation was d t = tenant_records (traded_rows b side bound q allocation) (owner_at b) (price_at b) was d t
