-- The tallies of the nine tenants.
use Rattle.std.specs.Prelude.{◌≡◌, List, [], ◌∷◌, ℕ, suc, ◌+◌, ◌<◌, ◌^◌, eqb, length, get_or, replicate}
use Rattle.units.specs.Units.{tenants}
use Rattle.units.specs.Sums.{sum_to}
use Rattle.units.specs.Picked.{keep}
use Rattle.tally.specs.declared.Tally.{Tally}

-- a tally with turns taken, contracts bought and contracts sold added
abbrev pub plus : Tally → ℕ → ℕ → ℕ → Tally
plus t turns bought sold = record { turns = t.turns + turns; bought = t.bought + bought; sold = t.sold + sold }

-- each sum fits 64 bits
abbrev pub fits : Tally → ℕ → ℕ → ℕ → Type 0
fits t turns bought sold = (t.turns + turns < 2 ^ 64) × (t.bought + bought < 2 ^ 64) × (t.sold + sold < 2 ^ 64)

abbrev pub zero : Tally
zero = record { turns = 0; bought = 0; sold = 0 }

-- the tally of tenant t
abbrev pub tally_at : List Tally → ℕ → Tally
tally_at tallies t = get_or tallies t zero

abbrev pub no_tallies : List Tally
no_tallies = replicate tenants zero

-- the tallies from tenant t on, each with that tenant's turns, contracts bought and contracts sold added
unfoldable pub added_from : ℕ → (ℕ → ℕ) → (ℕ → ℕ) → (ℕ → ℕ) → List Tally → List Tally
added_from t turns bought sold [] = []
added_from t turns bought sold (x ∷ xs) = plus x (turns t) (bought t) (sold t) ∷ added_from (suc t) turns bought sold xs

-- Each tenant's tally is added to where it stands: turns taken, contracts bought, contracts sold.
abbrev pub added : (ℕ → ℕ) → (ℕ → ℕ) → (ℕ → ℕ) → List Tally → List Tally
added = added_from 0

-- n for one tenant, and 0 for the others
abbrev pub only_for : ℕ → ℕ → ℕ → ℕ
only_for who n u = keep (eqb u who) n

-- one tenant's tally is added to
abbrev pub counted : List Tally → ℕ → ℕ → ℕ → ℕ → List Tally
counted tallies who turns bought sold = added (only_for who turns) (only_for who bought) (only_for who sold) tallies

-- there is such a tenant, and the sums fit
pub record Countable (tallies : List Tally) (who turns bought sold : ℕ) : Type 0 where
  pub long : length tallies ≡ tenants
  pub tenant : who < tenants
  pub sums : fits (tally_at tallies who) turns bought sold

-- what all tenants have done together
abbrev pub in_all : (Tally → ℕ) → List Tally → ℕ
in_all f tallies = sum_to (λ t. f (tally_at tallies t)) tenants

abbrev pub turns_in_all : List Tally → ℕ
turns_in_all = in_all (λ x. x.turns)

-- 1,000,000,000,000,000,000 turns in all: from there on none is taken
abbrev pub most_turns : ℕ
most_turns = 1000000000000000000

abbrev pub bought_in_all : List Tally → ℕ
bought_in_all = in_all (λ x. x.bought)

abbrev pub sold_in_all : List Tally → ℕ
sold_in_all = in_all (λ x. x.sold)

-- there are nine, and the turns of all fit 64 bits
pub record Fitting (tallies : List Tally) : Type 0 where
  pub long : length tallies ≡ tenants
  pub sum : turns_in_all tallies < 2 ^ 64
