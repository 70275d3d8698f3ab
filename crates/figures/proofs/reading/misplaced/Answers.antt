-- `figures::reading::misplaced` meets its contract, by its tests.
use Rattle.std.proofs.Common.{ap, not, ⊎_elim, arith, lt-ltb, le-ltb}
use Rattle.units.specs.Tests.{◌and◌, ◌or◌}
use Rattle.figures.specs.Reading.{misplaced}
use Rattle.figures.proofs.reading.misplaced.Goals as goal

pub returns-then-not-is_ascii_digit : goal.returns-then-not-is_ascii_digit
unfolding misplaced ◌and◌ ◌or◌
returns-then-not-is_ascii_digit c =
    let other = ap not c.if-not-is_ascii_digit.true in
    ⊎_elim
    (λ low. rw (lt-ltb c.args.b 48 low) other)
    (λ high. rw (le-ltb c.args.b 48 (omega arith), lt-ltb 57 c.args.b high) other)
    (rw c.if-not-is_ascii_digit.true at c.is_ascii_digit.ensures.cases)

pub returns-then-place : goal.returns-then-place
unfolding misplaced ◌and◌ ◌or◌
returns-then-place c =
    let range = rw c.if-not-is_ascii_digit.false at c.is_ascii_digit.ensures.cases in
    rw (le-ltb _ _ range.0, le-ltb _ _ range.1, c.if-place.true)

pub returns-else-place : goal.returns-else-place
unfolding misplaced ◌and◌ ◌or◌
returns-else-place c =
    let range = rw c.if-not-is_ascii_digit.false at c.is_ascii_digit.ensures.cases in
    rw (le-ltb _ _ range.0, le-ltb _ _ range.1, c.if-place.false)
