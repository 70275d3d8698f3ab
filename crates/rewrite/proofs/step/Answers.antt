-- `rewrite::step` meets its contract: what is written ends on the tape, and lies in the room that is lent.
use Rattle.std.proofs.Common.{ℕ, sym, ap, ◌∙◌, ◌+◌, ◌-◌, ◌≤◌, Some, Ok, length, drop, arith, length-take, length-drop, rules}
use Rattle.writer.specs.Write.{Written}
use Rattle.writer.specs.Rewriting.{Answer, written_to}
use Rattle.writer.specs.RewritingLaws.{rewritten_within}
use Rattle.rewrite.proofs.step.Goals as goal

-- what is answered where an event is written
abbrev answer : ℕ → Written → Answer
answer end w = Ok (Some (written_to w end))

-- where the event ends, and the bytes that it takes of the room
fits : (c : goal.In-Ok) → (c.in-Ok-Some.rewritten.end ≤ length c.args.bytes.now) × (c.args.at + c.in-Ok.used ≤ length c.args.out.now)
fits c =
    let a = c.args in
    let end = c.in-Ok-Some.rewritten.end in
    let w = rewritten_within a.bytes.now a.from _ _ end (sym (rw c.in-Ok-Some.field-0-is at c.in-Ok-Some.ensures.answer) ∙ ap (answer end) (rw c.in-Ok-Some.field-0-is at c.in-Ok.is)) in
    (w.0, omega (arith, w.1, length-take (length a.out.now - a.at) (drop a.at a.out.now), length-drop a.at a.out.now, c.requires.at_in_bounds))

pub overflow_add-result : goal.overflow_add-result
overflow_add-result c = omega (arith, (fits c).1)

pub returns-in-Ok : goal.returns-in-Ok
returns-in-Ok c = rw c.in-Ok-Some.field-0-is record { on_tape = (fits c).0; within = (fits c).1; long = search rules }
