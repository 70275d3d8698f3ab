-- The number, which each call divides by ten, is the measure of `window::refusal::digits`.
use Rattle.window.proofs.refusal.+digits.Given as goal

abbrev pub decreases-digits : goal.decreases-digits
decreases-digits l = l.n
