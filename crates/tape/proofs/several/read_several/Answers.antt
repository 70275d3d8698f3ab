-- `read_several` meets its contract. The invariant: what is to be found is what i numbers and a reading on at `next`
-- give.
use Rattle.std.proofs.Common.{sym, ap, ◌∙◌, length-set, arith, Err}
use Rattle.std.proofs.lemmas.Result.{IfErr-at_err}
use Rattle.tape.specs.Several.{refused, read, several_more, several_refused, several_end, stored_more, stored_past, stored_refused, stored_end}
use Rattle.tape.proofs.several.read_several.Goals.{then-i-out, else-i-out}
use Rattle.tape.proofs.several.read_several.Goals as goal

pub returns-in_default : goal.returns-in_default
returns-in_default c =
    let l = c.loop-i in
    let a = c.args in
    let no = refused a.s.now l.next c.read-one.ensures c.in_default.is in
    record {
      answer = ap Err (IfErr-at_err _ c.in_default.is c.refused.ensures) ∙ sym (l.invariant.1 ∙ several_refused a.n l.i a.s.now l.next (omega arith) no);
      kept = sym (l.invariant.2 ∙ stored_refused a.n l.i a.s.now l.next l.out (omega arith) no);
    }

pub loop-i-preserved : goal.loop-i-preserved
loop-i-preserved c =
    let l = c.loop-i in
    let a = c.args in
    let yes' = read a.s.now l.next c.read-one.ensures c.in-Ok.is in
    let rest = l.invariant.1 ∙ several_more a.n l.i a.s.now l.next (omega arith) yes' in
    elim c.if-i-out.branch [
      | then-i-out w ↦ (
        rw w.out-is (simp length-set l.invariant.0),
        rest,
        rw w.out-is (l.invariant.2 ∙ stored_more a.n l.i a.s.now l.next l.out (omega arith) w.if-i-out.true yes'),
      )
      | else-i-out w ↦ (
        rw w.out-is l.invariant.0,
        rest,
        rw w.out-is (l.invariant.2 ∙ stored_past a.n l.i a.s.now l.next l.out _ w.if-i-out.false),
      )
    ]

pub returns : goal.returns
returns c =
    let l = c.loop-i in
    let a = c.args in
    record {
      answer = sym (l.invariant.1 ∙ several_end a.n l.i a.s.now l.next (omega arith));
      kept = sym (l.invariant.2 ∙ stored_end a.n l.i a.s.now l.next l.out (omega arith));
    }
