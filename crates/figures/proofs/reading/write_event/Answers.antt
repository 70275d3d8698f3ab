-- `figures::reading::write_event` meets its contract, by what the writer answers.
use Rattle.std.proofs.Common.{arith}
use Rattle.figures.specs.TakingLaws.{event_fits, event_written, event_refused}
use Rattle.figures.proofs.reading.write_event.Goals as goal

pub overflow_add-result-in-Ok : goal.overflow_add-result-in-Ok
overflow_add-result-in-Ok c =
    omega (arith, event_fits c.args.place c.args.numbers.now c.args.out.now c.args.at c.requires.can_take c.write-written.ensures.answer c.write-written.ensures.bytes c.in-Ok.is)

pub returns-in-Ok : goal.returns-in-Ok
returns-in-Ok c = event_written c.args.place c.args.numbers.now c.args.out.now c.args.at c.requires.can_take c.write-written.ensures.answer c.write-written.ensures.bytes c.in-Ok.is

pub returns-in-Err : goal.returns-in-Err
returns-in-Err c = event_refused c.args.place c.args.numbers.now c.args.out.now c.args.at c.requires.can_take c.write-written.ensures.answer c.write-written.ensures.bytes c.in-Err.is
