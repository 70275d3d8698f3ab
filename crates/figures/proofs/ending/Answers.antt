-- `figures::ending` meets its contract, by its tests.
use Rattle.std.proofs.Common.{⊎_elim, lt-ltb, le-ltb}
use Rattle.units.specs.Tests.{◌or◌, pick}
use Rattle.figures.specs.Whole.{in_line, last_code}
use Rattle.figures.proofs.ending.Goals as goal

pub returns-then-place-gt0 : goal.returns-then-place-gt0
unfolding in_line last_code ◌or◌ pick
returns-then-place-gt0 c = ⊎_elim (λ e. rw e) (λ (e, h). rw (e, lt-ltb _ _ h)) c.if-place-gt0.either

pub returns-else-place-gt0 : goal.returns-else-place-gt0
unfolding in_line last_code ◌or◌ pick
returns-else-place-gt0 c = let h = c.if-place-gt0.false in rw (h.0, le-ltb _ _ h.1)
