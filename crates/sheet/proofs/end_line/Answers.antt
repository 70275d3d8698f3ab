-- `sheet::end_line` meets its contract: the bytes in front are the line.
use Rattle.std.proofs.Common.{sym, length-take-le}
use Rattle.sheet.proofs.end_line.Goals as goal

pub slice_bounds-read_line-end : goal.slice_bounds-read_line-end
slice_bounds-read_line-end c = sym (length-take-le _ _ c.requires.count_in_bounds)

pub returns-in-Ok : goal.returns-in-Ok
returns-in-Ok c = rw (← c.in-Ok.ensures)

pub returns-in-Err : goal.returns-in-Err
returns-in-Err c = rw (← c.in-Err.ensures)
