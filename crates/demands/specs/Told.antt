-- What the fill records of a trade and of an opening tell of each tenant, and of all tenants together.
use Rattle.std.specs.Prelude.{◌≡◌, List, ℕ, ◌+◌, ◌≤◌, ◌<◌, eqb}
use Rattle.std.proofs.Common.{sym, ◌∙◌, arith, lt-ltb, le-ltb, le-leb}
use Rattle.std.proofs.Math.Path.{ap}
use Rattle.std.proofs.lemmas.Bool.{lt-leb}
use Rattle.units.specs.Units.{tenants}
use Rattle.units.specs.Tests.{order, less, equal, more}
use Rattle.units.specs.Sums.{sum_to, sum_same, sum_add, sum_next, sum_grows, sum_stops}
use Rattle.units.specs.Picked.{keep, same, same_most, same_add, sum_by_key}
use Rattle.book.specs.Book.{Book, size_at, owner_at}
use Rattle.book.specs.Allocation.{Resting}
use Rattle.book.specs.AllocationLaws.{Distinct}
use Rattle.book.specs.Sound.{SoundBook}
use Rattle.book.specs.SoundLaws.{sound_apart, row_of, live_apart}
use Rattle.book.specs.Records.{records, field_of, written}
use Rattle.book.specs.RecordLaws.{pos_onto, recorded_at}
use Rattle.book.specs.RecordSums.{tenant_in, quantity_in, written_at, trade_tenant}
use Rattle.book.specs.Trading.{of_tenant, filled, traded, trade_records, trade_written}
use Rattle.book.specs.TradingLaws.{traded_most, all_traded}
use Rattle.opening.specs.Opening.{volume, bought, sold, matched, matched_rows, opening_records, opening_written}
use Rattle.opening.specs.OpeningLaws.{matched_most, all_bought, all_sold, matched_apart}
use Rattle.opening.specs.OpeningSums.{buy_records, buy_records_most, tenant_bought, tenant_matched}
use Rattle.demands.specs.Tallies.{in_records, of_buys, of_sells}

-- a record is that of a row that traded
pub record RecordOf (r : Resting) (owner : ℕ → ℕ) (l : List ℕ) (q : ℕ) : Type 0 where
  pub row : ℕ
  pub place : row < r.places
  pub some : 0 < r.size row
  pub tenant : tenant_in l q ≡ owner row
  pub quantity : quantity_in l q ≡ r.size row

record_of : (r : Resting) (owner price : ℕ → ℕ) (was : List ℕ) → Distinct r → (q : ℕ) → q < records r → RecordOf r owner (written r owner price was) q
unfolding field_of
record_of r owner price was d q h =
    let (i, p, x, e) = pos_onto r d q h in
    record {
      row = i;
      place = p;
      some = x;
      tenant = written_at r owner price was q 1 h (omega arith) ∙ (rw e at (recorded_at r d owner i p x));
      quantity = written_at r owner price was q 2 h (omega arith) ∙ (rw e at (recorded_at r d r.size i p x));
    }

module _ (b : Book) (next : ℕ) (sound : SoundBook b next) where
  -- what all tenants' rows have of f is all of it, where only rows that rest have any
  by_tenant : (f : ℕ → ℕ) → ((i : ℕ) → f i ≤ size_at b i) → sum_to (λ u. of_tenant b u f) tenants ≡ sum_to f b.places
  unfolding of_tenant
  by_tenant f most = sum_by_key (owner_at b) f tenants b.places (λ i h x. (row_of sound i h (omega (arith, most i))).owner)

  -- a trade
  module _ (side bound q allocation : ℕ) (was : List ℕ) where
    pub trade_told :
        (u : ℕ) → in_records (trade_written b side bound q allocation was) (quantity_in (trade_written b side bound q allocation was)) (trade_records b side bound q allocation) u
        ≡ of_tenant b u (traded b side bound q allocation)
    trade_told = trade_tenant b side bound q allocation was
        (λ i j h h' x y e. live_apart sound i j h h' (omega (arith, traded_most b side bound q allocation i)) (omega (arith, traded_most b side bound q allocation j)) e)

    -- all that rested and traded is what was filled
    pub trade_all : sum_to (λ u. of_tenant b u (traded b side bound q allocation)) tenants ≡ filled b side bound q
    trade_all = by_tenant (traded b side bound q allocation) (traded_most b side bound q allocation) ∙ all_traded b side bound q allocation (sound_apart sound side bound)

  -- an opening at p
  module _ (p : ℕ) (was : List ℕ) where
    abbrev lent : List ℕ
    lent = opening_written b p was

    abbrev quantity : ℕ → ℕ
    quantity = quantity_in lent

    opening_record : (q : ℕ) → q < opening_records b p → RecordOf (matched_rows b p) (owner_at b) lent q
    unfolding opening_records opening_written
    opening_record = record_of (matched_rows b p) (owner_at b) (λ i. p) was (matched_apart b p (live_apart sound))

    tenant_less : (q : ℕ) → q < opening_records b p → tenant_in lent q < tenants
    tenant_less q h =
        let r = opening_record q h in
        rw r.tenant (row_of sound r.row r.place (omega (arith, r.some, matched_most b p r.row))).owner

    bought_most : (i : ℕ) → bought b p i ≤ size_at b i
    bought_most i = unfold matched in omega (arith, matched_most b p i)

    sold_most : (i : ℕ) → sold b p i ≤ size_at b i
    sold_most i = unfold matched in omega (arith, matched_most b p i)

    pub bought_all : sum_to (λ u. of_tenant b u (bought b p)) tenants ≡ volume b p
    bought_all = by_tenant (bought b p) bought_most ∙ all_bought b p (live_apart sound)

    pub sold_all : sum_to (λ u. of_tenant b u (sold b p)) tenants ≡ volume b p
    sold_all = by_tenant (sold b p) sold_most ∙ all_sold b p (live_apart sound)

    -- the buys' records make up the volume
    buys_volume : sum_to quantity (buy_records b p) ≡ volume b p
    buys_volume =
        sym (sum_by_key (tenant_in lent) quantity tenants (buy_records b p) (λ q h x. tenant_less q (omega (arith, buy_records_most b p))))
        ∙ (sum_same tenants (λ u _. tenant_bought b p (live_apart sound) was u) ∙ bought_all)

    buys_are : (q : ℕ) → q < buy_records b p → of_buys lent (volume b p) q ≡ quantity q
    buys_are q h =
        let r = opening_record q (omega (arith, buy_records_most b p)) in
        rw (lt-ltb (sum_to quantity q) (volume b p)
        (omega (arith, r.some, r.quantity, sum_next quantity q, sum_grows quantity (q + 1) (buy_records b p) (omega arith), buys_volume)))

    buys_end : (q : ℕ) → buy_records b p ≤ q → of_buys lent (volume b p) q ≡ 0
    buys_end q h = rw (le-ltb (sum_to quantity q) (volume b p) (omega (arith, sum_grows quantity (buy_records b p) q h, buys_volume)))

    pub bought_told : (u : ℕ) → in_records lent (of_buys lent (volume b p)) (opening_records b p) u ≡ of_tenant b u (bought b p)
    unfolding same
    bought_told u =
        sum_stops (same (tenant_in lent) u (of_buys lent (volume b p))) (buy_records b p) (opening_records b p) (buy_records_most b p)
        (λ q h _. omega (arith, same_most (tenant_in lent) u (of_buys lent (volume b p)) q, buys_end q h))
        ∙ (sum_same (buy_records b p) (λ q h. ap (keep (eqb (tenant_in lent q) u)) (buys_are q h)) ∙ tenant_bought b p (live_apart sound) was u)

    -- each record is a buy's or a sell's
    divided : (q : ℕ) → quantity q ≡ of_buys lent (volume b p) q + of_sells lent (volume b p) q
    divided q = elim (order (sum_to quantity q) (volume b p)) [
      | less h ↦ rw (lt-ltb _ _ h, lt-leb _ _ h) (omega arith)
      | equal h ↦ rw (le-ltb (sum_to quantity q) (volume b p) (omega arith), le-leb (volume b p) (sum_to quantity q) (omega arith)) (omega arith)
      | more h ↦ rw (le-ltb (sum_to quantity q) (volume b p) (omega arith), le-leb (volume b p) (sum_to quantity q) (omega arith)) (omega arith)
    ]

    pub sold_told : (u : ℕ) → in_records lent (of_sells lent (volume b p)) (opening_records b p) u ≡ of_tenant b u (sold b p)
    sold_told u = omega (
      arith,
      tenant_matched b p (live_apart sound) was u,
      bought_told u,
      sum_add (same (tenant_in lent) u (of_buys lent (volume b p))) (same (tenant_in lent) u (of_sells lent (volume b p))) {s = same (tenant_in lent) u quantity} (opening_records b p)
          (λ q _. same_add (tenant_in lent) u (of_buys lent (volume b p)) (of_sells lent (volume b p)) quantity q (λ _. divided q)),
    )
