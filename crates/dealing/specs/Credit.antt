-- What rows that traded add to the tallies: bought for buys, sold for sells.
use Rattle.std.specs.Prelude.{◌≡◌, List, ℕ, ◌+◌, ◌≤◌, ◌<◌, ◌^◌, eqb, length}
use Rattle.units.specs.Sums.{sum_to}
use Rattle.units.specs.Picked.{keep, same}
use Rattle.units.specs.Units.{tenants}
use Rattle.rows.specs.Rows.{rows}
use Rattle.tally.specs.declared.Tally.{Tally}
use Rattle.tally.specs.Tallies.{plus, fits, added, only_for, turns_in_all, bought_in_all, sold_in_all}

-- a row's contracts in its owner's tally: bought on side 1, else sold
abbrev pub owner_credit : Tally → ℕ → ℕ → Tally
owner_credit t side quantity = plus t 0 (keep (eqb side 1) quantity) (keep (eqb side 2) quantity)

-- what that rests on: a side, and sums that fit
pub record CanCreditOwner (t : Tally) (side quantity : ℕ) : Type 0 where
  pub sided : (1 ≤ side) × (side ≤ 2)
  pub sums : fits t 0 (keep (eqb side 1) quantity) (keep (eqb side 2) quantity)

-- one row's contracts for its owner: bought on side 1, else sold
abbrev pub row_credit : List Tally → ℕ → ℕ → ℕ → List Tally
row_credit tallies side owner quantity =
    added (λ u. 0) (only_for owner (keep (eqb side 1) quantity)) (only_for owner (keep (eqb side 2) quantity)) tallies

-- what one row's credit rests on
pub record CanCredit (tallies : List Tally) (side owner quantity : ℕ) : Type 0 where
  pub long : length tallies ≡ tenants
  pub sided : 0 < quantity → (1 ≤ side) × (side ≤ 2)
  pub tenant : 0 < quantity → owner < tenants
  pub turns : turns_in_all tallies < 2 ^ 64
  pub bought : bought_in_all tallies + keep (eqb side 1) quantity < 2 ^ 64
  pub sold : sold_in_all tallies + keep (eqb side 2) quantity < 2 ^ 64

module _ (side owner quantity : ℕ → ℕ) where
  -- contracts of tenant u's rows on a side, of the first n rows
  abbrev pub share_to : ℕ → ℕ → ℕ → ℕ
  share_to n s u = sum_to (same owner u (same side s quantity)) n

  -- the first n rows' contracts, for their owners
  abbrev pub credited_to : ℕ → List Tally → List Tally
  credited_to n = added (λ u. 0) (share_to n 1) (share_to n 2)

abbrev pub credited : List Tally → (ℕ → ℕ) → (ℕ → ℕ) → (ℕ → ℕ) → List Tally
credited tallies side owner quantity = credited_to side owner quantity rows tallies

-- what all rows' credit rests on: rows that traded are a tenant's, and the sums fit
pub record Creditable (tallies : List Tally) (side owner quantity : ℕ → ℕ) : Type 0 where
  pub long : length tallies ≡ tenants
  pub sided : (i : ℕ) → i < rows → 0 < quantity i → (1 ≤ side i) × (side i ≤ 2)
  pub tenant : (i : ℕ) → i < rows → 0 < quantity i → owner i < tenants
  pub turns : turns_in_all tallies < 2 ^ 64
  pub bought : bought_in_all tallies + sum_to (same side 1 quantity) rows < 2 ^ 64
  pub sold : sold_in_all tallies + sum_to (same side 2 quantity) rows < 2 ^ 64
