-- The submits of orders, as a tape has them.
use Rattle.std.specs.Prelude.{List, [], ◌∷◌, ℕ}
use Rattle.sheet.specs.declared.Order.{Order}

-- the six numbers of an order's entry: kind, side, life, price, size, order number
abbrev pub six_numbers : Order → List ℕ
six_numbers o =
    o.entry.kind ∷ o.entry.side ∷ o.entry.life ∷ o.entry.price.0 ∷ o.entry.size.0 ∷ o.entry.number ∷ []

-- event 3: the tenant, and one entry
abbrev pub submit_of : Order → List ℕ
submit_of o = 3 ∷ o.tenant ∷ 1 ∷ six_numbers o

abbrev pub submits_of : List Order → List (List ℕ)
submits_of [] = []
submits_of (o ∷ os) = submit_of o ∷ submits_of os
