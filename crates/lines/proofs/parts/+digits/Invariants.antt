-- The measure is the number, which each call divides by ten thousand.
use Rattle.lines.proofs.parts.+digits.Given as goal

abbrev pub decreases-digits : goal.decreases-digits
decreases-digits l = l.n
