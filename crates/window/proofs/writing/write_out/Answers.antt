-- `window::writing::write_out` meets its contract: each write goes on where the one before it left off.
use Rattle.std.proofs.Common.{◌≡◌, sym, subst, ℕ, ◌+◌, ◌-◌, take, arith}
use Rattle.std.proofs.Math.Seq.{take-add}
use Rattle.std.specs.Io.KnownBytes.{Appends}
use Rattle.std.proofs.KnownBytes.{Appends-trans}
use Rattle.window.proofs.writing.write_out.Goals as goal

pub loop-at-preserved : goal.loop-at-preserved
loop-at-preserved g c =
    let at = c.loop-at.at in
    let w = c.in-Some in
    let bytes = c.args.bytes.now in
    let was = g.W.Write.contents c.args.writer.now in
    let is = g.W.Write.contents c.write_some.new.writer in
    let e : w.written.to ≡ at + (w.written.to - at) = omega (arith, w.ensures.wrote.onward) in (
      w.ensures.wrote.within,
      subst (λ (n : ℕ). Appends was is (take n bytes)) (sym e)
          (subst (Appends was is) (sym (take-add at (w.written.to - at) bytes))
          (Appends-trans was (g.W.Write.contents c.loop-at.writer) is _ _ c.loop-at.invariant.1 w.ensures.bytes)),
    )
