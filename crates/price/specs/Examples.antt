-- The marked example of the opening price, computed, and that of the nickel classes.
use Rattle.std.specs.Prelude.{◌≡◌, refl, Some, None, true, false, ℕ}
use Rattle.units.specs.Units.{cents}
use Rattle.units.specs.Grid.{stepping, grid_of, highest_on}
use Rattle.units.specs.declared.grid.Grid.{Grid}
use Rattle.price.specs.Amounts.{minimum_amount}
use Rattle.price.specs.Price.{near_either, valid, midpoint, usable, first_valid, price_of}
use Rattle.price.specs.declared.Sources.{Sources}

abbrev sources : Grid → ℕ → ℕ → ℕ → ℕ → Sources
sources grid bid offer print close =
    record { grid = grid; bid = cents bid; offer = cents offer; print = cents print; close = cents close }

-- E6 grid 1, away 100/151: midpoint 125 valid. 100/153: 126 isn't; last print 120 is; so is close 128.
abbrev pub E6 : Type 0
E6 =
    (g : Grid)
    × (grid_of 1 ≡ Some g)
    × (midpoint 100 151 g ≡ 125)
    × (valid 100 151 125 ≡ true)
    × (price_of (sources g 100 151 0 0) ≡ Some (cents 125))
    × (midpoint 100 153 g ≡ 126)
    × (valid 100 153 126 ≡ false)
    × (price_of (sources g 100 153 0 0) ≡ None)
    × (valid 100 153 120 ≡ true)
    × (price_of (sources g 100 153 120 128) ≡ Some (cents 120))
    × (valid 100 153 128 ≡ true)
    × (price_of (sources g 100 153 0 128) ≡ Some (cents 128))

pub e6 : E6
unfolding price_of first_valid usable midpoint highest_on valid near_either minimum_amount
e6 = (stepping 1 1, refl, refl, refl, refl, refl, refl, refl, refl, refl, refl, refl)

-- The nickel classes, grid 2: away 298/306 opens at 300. At the turn: 299.5 gives 299, 304.5 gives 300, 305 itself. A
-- midpoint below the bid is not valid: 301/304, and the last print is tried.
abbrev pub InGridTwo : Type 0
InGridTwo =
    (g : Grid)
    × (grid_of 2 ≡ Some g)
    × (price_of (sources g 298 306 0 0) ≡ Some (cents 300))
    × (midpoint 299 300 g ≡ 299)
    × (midpoint 304 305 g ≡ 300)
    × (midpoint 304 306 g ≡ 305)
    × (midpoint 301 304 g ≡ 300)
    × (price_of (sources g 301 304 0 0) ≡ None)
    × (price_of (sources g 301 304 302 0) ≡ Some (cents 302))

-- Grid 3: 299.5 gives 295, 309 gives 300, 310 itself. 100/153: 126 isn't valid, 125 is. Below 5 there is none, and the
-- last print is tried.
abbrev pub InGridThree : Type 0
InGridThree =
    (g : Grid)
    × (grid_of 3 ≡ Some g)
    × (midpoint 299 300 g ≡ 295)
    × (midpoint 308 310 g ≡ 300)
    × (midpoint 309 311 g ≡ 310)
    × (price_of (sources g 100 153 0 0) ≡ Some (cents 125))
    × (midpoint 4 5 g ≡ 0)
    × (price_of (sources g 4 5 0 0) ≡ None)
    × (price_of (sources g 4 5 4 0) ≡ Some (cents 4))
    × (price_of (sources g 4 6 0 0) ≡ Some (cents 5))

pub nickels : InGridTwo × InGridThree
unfolding price_of first_valid usable midpoint highest_on valid near_either minimum_amount
nickels = (
  (stepping 1 5, refl, refl, refl, refl, refl, refl, refl, refl),
  (stepping 5 10, refl, refl, refl, refl, refl, refl, refl, refl, refl),
)
