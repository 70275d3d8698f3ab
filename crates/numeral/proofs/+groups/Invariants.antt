-- Each call of itself has one group fewer allowed.
use Rattle.numeral.proofs.+groups.Given as goal

abbrev pub decreases-groups : goal.decreases-groups
decreases-groups l = l.allowed
