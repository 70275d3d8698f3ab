-- `window::program::tell_line` is safe: the line lies in its memory.
use Rattle.std.proofs.Common.{sym, ℕ, arith, length-take-le}
use Rattle.std.proofs.Math.ListN.{length-replicate}
use Rattle.window.specs.RefusalLaws.{lays_long, refusal_within}
use Rattle.window.proofs.program.tell_line.Goals as goal

pub slice_bounds-told-end : goal.slice_bounds-told-end
slice_bounds-told-end c =
    omega (arith, c.refusal_line-end.ensures.after, lays_long c.refusal_line-end.ensures, refusal_within c.args.what.now c.args.code c.args.line (omega arith) (omega arith), length-replicate {A = ℕ} 38 0, c.requires)

pub slice_bounds-write_out-end : goal.slice_bounds-write_out-end
slice_bounds-write_out-end c =
    sym (length-take-le c.refusal_line-end.result c.refusal_line-end.new.out
    (omega (arith, c.refusal_line-end.ensures.after, lays_long c.refusal_line-end.ensures, refusal_within c.args.what.now c.args.code c.args.line (omega arith) (omega arith), length-replicate {A = ℕ} 38 0, c.requires)))
