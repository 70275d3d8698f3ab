-- Laws of one row: how it stands to a bound, what rests of it for a bid, an offer or a tenant.
use Rattle.std.specs.Prelude.{◌≡◌, refl, ◌↔◌, Bool, true, false, ◌&&◌, cond, ℕ, ◌≤◌, ◌<◌, ltb, eqb}
use Rattle.std.specs.Int.{from_bool}
use Rattle.std.proofs.Common.{arith, le-leb, ltb-true, eqb-true}
use Rattle.units.specs.Picked.{keep}
use Rattle.units.specs.Says.{same_says, less_says, &&-says}
use Rattle.rows.specs.Rows.{no_price, selling, within, buy_price, sell_price, rests_for}

-- the number of a test is the 1 that it keeps
pub from_keeps : (t : Bool) → from_bool t ≡ keep t 1
from_keeps true = refl
from_keeps false = refl

module _ (side price bound : ℕ) where
  -- an offer that is not above the bound is within it,
  pub within_offer : selling side ≡ true → price ≤ bound → within side price bound ≡ true
  unfolding within
  within_offer e h = rw e (le-leb price bound h)

  -- and a bid that is not below it
  pub within_bid : selling side ≡ false → bound ≤ price → within side price bound ≡ true
  unfolding within
  within_bid e h = rw e (le-leb bound price h)

-- a buy's price that is not 0 is that of a resting buy,
pub buy_found : (side price size : ℕ) → 0 < buy_price side price size → (side ≡ 1) × (0 < size) × (buy_price side price size ≡ price)
unfolding buy_price
buy_found side price size = go (eqb side 1) (ltb 0 size) refl refl
  where
    go : (a b : Bool) → eqb side 1 ≡ a → ltb 0 size ≡ b → 0 < keep (a && b) price → (side ≡ 1) × (0 < size) × (keep (a && b) price ≡ price)
    go true true x y h = (eqb-true side 1 x, ltb-true 0 size y, refl)
    go true false x y h = absurd (omega arith)
    go false b x y h = absurd (omega arith)

-- and a sell's that is not above every price that of a resting sell
pub sell_found : (side price size : ℕ) → sell_price side price size < no_price → (side ≡ 2) × (0 < size) × (sell_price side price size ≡ price)
unfolding sell_price
sell_found side price size = go (eqb side 2) (ltb 0 size) refl refl
  where
    go : (a b : Bool) → eqb side 2 ≡ a → ltb 0 size ≡ b → cond (a && b) price no_price < no_price → (side ≡ 2) × (0 < size) × (cond (a && b) price no_price ≡ price)
    go true true x y h = (eqb-true side 2 x, ltb-true 0 size y, refl)
    go true false x y h = absurd (omega arith)
    go false b x y h = absurd (omega arith)

-- a row rests for a tenant exactly where something rests of it and the tenant owns it
pub rests_says : (tenant owner size : ℕ) → (rests_for tenant owner size ≡ true) ↔ ((0 < size) × (owner ≡ tenant))
unfolding rests_for
rests_says tenant owner size = &&-says (less_says 0 size) (same_says owner tenant)
