-- The numbers of the dispositions: 0 filled, 1 rests, 2 to 4 why what is left does not.
use Rattle.std.specs.Prelude.{◌≡◌, ℕ, eqb}
use Rattle.std.proofs.Math.Path.{refl, ap}
use Rattle.std.proofs.Common.{sym, ◌∙◌}
use Rattle.units.specs.Tests.{pick}
use Rattle.judge.specs.declared.outcome.Disposition.{Disposition}
use Rattle.judge.specs.declared.outcome.Disposition.TheVariants.{Filled, Rests, Unfilled, BeyondDrill, AtAway}

abbrev pub disposition_number : Disposition → ℕ
disposition_number Filled = 0
disposition_number Rests = 1
disposition_number Unfilled = 2
disposition_number BeyondDrill = 3
disposition_number AtAway = 4

-- no two dispositions have one number: from the number back
unfoldable disposition_from : ℕ → Disposition
disposition_from n = pick (eqb n 0) Filled (pick (eqb n 1) Rests (pick (eqb n 2) Unfilled (pick (eqb n 3) BeyondDrill AtAway)))

from_number : (d : Disposition) → disposition_from (disposition_number d) ≡ d
unfolding disposition_from pick
from_number Filled = refl
from_number Rests = refl
from_number Unfilled = refl
from_number BeyondDrill = refl
from_number AtAway = refl

pub disposition_one : (a b : Disposition) → disposition_number a ≡ disposition_number b → a ≡ b
disposition_one a b h = sym (from_number a) ∙ (ap disposition_from h ∙ from_number b)
