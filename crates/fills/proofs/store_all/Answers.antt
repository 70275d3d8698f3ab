-- `fills::store_all` meets its contract: each turn of the loop stores one fill more.
use Rattle.std.proofs.Common.{arith}
use Rattle.book.specs.FillsLaws.{next_row}
use Rattle.fills.proofs.store_all.Goals as goal

pub loop-i-preserved : goal.loop-i-preserved
loop-i-preserved c =
    let i = c.loop-i.i in
    let rs = c.args.records.now in
    record {
      within = omega arith;
      filled = rw (c.record_at.ensures, c.loop-i.invariant.filled) (next_row rs i c.args.fills.now (omega (arith, c.requires.1)));
    }
