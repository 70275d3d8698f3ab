-- In every reached market with accepted settings allocation is 1 time or 2 proportional, so that every order that
-- trades does so by the one rule or the other.
use Rattle.std.specs.Prelude.{◌≡◌, ◌⊎◌, true}
use Rattle.session.specs.Market.{Market}
use Rattle.demands.specs.Runs.{Reached}

abbrev pub HasClass : Market → Type 0
HasClass m = m.session.accepted ≡ true → (m.session.terms.allocation ≡ 1) ⊎ (m.session.terms.allocation ≡ 2)

abbrev pub AlwaysOneClass : Type 0
AlwaysOneClass = (m : Market) → Reached m → HasClass m
