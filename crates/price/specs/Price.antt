-- The opening price. NBB and NBO here are the away quote alone, 0 where absent.
use Rattle.std.specs.Prelude.{Option, Some, None, Bool, true, false, cond, ◌&&◌, ◌||◌, ℕ, ◌+◌, ◌/◌, leb, ltb}
use Rattle.units.specs.declared.Cents.{Cents}
use Rattle.units.specs.Units.{cents}
use Rattle.units.specs.Grid.{highest_on}
use Rattle.units.specs.declared.grid.Grid.{Grid}
use Rattle.price.specs.Amounts.{minimum_amount}
use Rattle.price.specs.declared.Sources.{Sources}

module _ (bid offer : ℕ) where
  -- at most the minimum amount above NBB or at most that below NBO
  unfoldable pub near_either : ℕ → Bool
  near_either price = leb price (bid + minimum_amount bid) || leb offer (price + minimum_amount bid)

  -- Both quotes present: valid if within NBB to NBO and near either. One present: valid at or above the bid, or at or
  -- below the offer. None present: valid.
  unfoldable pub valid : ℕ → Bool
  valid price =
      cond (ltb 0 bid)
      (cond (ltb 0 offer) (leb bid price && leb price offer && near_either price) (leb bid price))
      (cond (ltb 0 offer) (leb price offer) true)

  -- midpoint, the highest grid price at or below (NBB + NBO)/2, if both exist; else 0, and 0 where there is none of at
  -- least 1
  unfoldable pub midpoint : Grid → ℕ
  midpoint grid = cond (ltb 0 bid && ltb 0 offer) (highest_on grid ((bid + offer) / 2)) 0

  -- a price of 0 is none
  unfoldable pub usable : ℕ → Bool
  usable price = ltb 0 price && valid price

  -- the first valid of: midpoint if there is one; last print if not 0; previous close if not 0
  unfoldable pub first_valid : Grid → ℕ → ℕ → Option Cents
  first_valid grid print close =
      cond (usable (midpoint grid)) (Some (cents (midpoint grid)))
      (cond (usable print) (Some (cents print))
      (cond (usable close) (Some (cents close)) None))

unfoldable pub price_of : Sources → Option Cents
price_of s = first_valid s.bid.0 s.offer.0 s.grid s.print.0 s.close.0

-- the price chosen, 0 where none is valid
abbrev pub chosen : Option Cents → ℕ
chosen (Some p) = p.0
chosen None = 0

abbrev pub none_valid : Option Cents → Bool
none_valid (Some p) = false
none_valid None = true
