-- `figures::reading::end_line` meets its contract: the last number cannot end, or the numbers are written.
use Rattle.std.proofs.Common.{arith}
use Rattle.figures.specs.TakingLaws.{line_refused, line_asks, line_written}
use Rattle.figures.proofs.reading.end_line.Goals as goal

pub returns-in_default : goal.returns-in_default
returns-in_default c =
    line_refused c.args.place c.args.numbers.now c.args.out.now c.args.at (rw c.in_default.is at c.end_number.ensures.answer) c.end_number.ensures.kept _ (omega arith) c.silent.ensures

pub write_event-requires : goal.write_event-requires
write_event-requires c =
    let e = line_asks c.args.place c.args.numbers.now c.args.out.now c.args.at c.in-Some.ensures.answer c.in-Some.ensures.kept (omega arith) c.requires in
    record { can_take = e.0; count_in_bounds = e.1 }

pub returns : goal.returns
returns c = line_written c.args.place c.args.numbers.now c.args.out.now c.args.at c.in-Some.ensures.answer c.in-Some.ensures.kept (omega arith) _ c.write_event.ensures
