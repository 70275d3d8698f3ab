-- What a step of a sheet's reader gives: the place where the next part goes on, all bytes of this one being used; or
-- an order, with the place of the next byte in the part and that in the sheet; or the number by which the sheet is
-- refused, with its line.
use Rattle.std.specs.Prelude.{ℕ}
use Rattle.sheet.specs.declared.Order as order
use Rattle.sheet.specs.declared.Place.{Place}

pub data Stepped : Type 0 where
  More : Place → Stepped
  Order : order.Order → ℕ → Place → Stepped
  Refused : ℕ → ℕ → Stepped
