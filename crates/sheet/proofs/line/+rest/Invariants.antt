-- The measure of `sheet::line::rest`: the number of spaces, which each call lowers by one.
use Rattle.sheet.proofs.line.+rest.Given as goal

abbrev pub decreases-rest : goal.decreases-rest
decreases-rest l = l.spaces
