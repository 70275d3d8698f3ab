-- The product of the width test stays small where it is made, and where it is not made the width is within it.
use Rattle.std.specs.Prelude.{◌≡◌, false, ℕ, ◌+◌, ◌-◌, ◌*◌, ◌≤◌, ◌<◌}
use Rattle.std.proofs.Common.{sym, mul-le-mul_right, arith, le-ltb}
use Rattle.units.specs.declared.Cents.{Cents}
use Rattle.checks.specs.TurnDown.{above_percent}

pub product_small : (x s : ℕ) → x < 200 → x * s ≤ 200 * s
product_small x s h = mul-le-mul_right s (omega arith)

-- a width is at most 200 percent of the mean of its two quotes
pub never_above : (nbb nbo : Cents) (x : ℕ) → 200 ≤ x → false ≡ above_percent nbb nbo x
unfolding above_percent
never_above nbb nbo x h =
    let m : 200 * (nbb.0 + nbo.0) ≤ x * (nbb.0 + nbo.0) = mul-le-mul_right (nbb.0 + nbo.0) h in
    sym (le-ltb (x * (nbb.0 + nbo.0)) (200 * (nbo.0 - nbb.0)) (omega arith))
