-- What is looked for and counted over the columns that a function is lent, as what it ensures names them.
use Rattle.std.specs.Prelude.{ℕ}
use Rattle.units.specs.Picked.{same}
use Rattle.units.specs.Lent.{Lent, found}
use Rattle.levels.specs.Levels.{keys_on, opens_on}

-- the rows' keys on side s
abbrev pub keys_in : ℕ → Lent → ℕ → ℕ
keys_in s prices = keys_on s (found prices)

-- what of each row may be traded by an order that trades with side s within a bound
abbrev pub opens_in : ℕ → ℕ → Lent → Lent → Lent → ℕ → ℕ
opens_in s bound sides prices sizes = opens_on s bound (found sides) (found prices) (found sizes)

-- what of it at key c
abbrev pub level_in : ℕ → ℕ → ℕ → Lent → Lent → Lent → ℕ → ℕ
level_in s bound c sides prices sizes = same (keys_in s prices) c (opens_in s bound sides prices sizes)
