-- `figures::reading::end_number` meets its contract, by its tests.
use Rattle.std.proofs.Common.{⊎_elim, lt-ltb, le-ltb}
use Rattle.units.specs.Tests.{◌and◌, pick}
use Rattle.figures.specs.Reading.{can_end, end_of, numbers_after}
use Rattle.figures.proofs.reading.end_number.Goals as goal

pub returns-then-count-numbers : goal.returns-then-count-numbers
unfolding can_end end_of numbers_after ◌and◌ pick
returns-then-count-numbers c =
    let room = lt-ltb _ _ c.if-count-numbers.true in
    record { answer = rw (c.if-place.true, room); kept = rw (c.if-place.true, room) }

pub returns-else-place : goal.returns-else-place
unfolding can_end end_of numbers_after ◌and◌ pick
returns-else-place c =
    ⊎_elim
    (λ (e, h). let full = le-ltb _ _ h in record { answer = rw (e, full); kept = rw (e, full) })
    (λ e. record { answer = rw e; kept = rw e })
    c.else-place.either
