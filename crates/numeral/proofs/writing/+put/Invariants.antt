-- Each call of itself has one group fewer allowed.
use Rattle.numeral.proofs.writing.+put.Given as goal

abbrev pub decreases-put : goal.decreases-put
decreases-put l = l.allowed
