-- `window::refusal::refusal_line` meets its contract: each part of the line stands behind those before it.
use Rattle.std.proofs.Common.{arith}
use Rattle.window.specs.RefusalLaws.{code_room, space_room, line_room, newline_room, lays_refusal}
use Rattle.window.proofs.refusal.refusal_line.Goals as goal

pub digits-c-requires : goal.digits-c-requires
digits-c-requires c = code_room c.args.code c.args.line (omega arith) (omega arith) c.requires c.word-w.ensures

pub put-s-requires : goal.put-s-requires
put-s-requires c = space_room c.args.code c.args.line (omega arith) (omega arith) c.requires c.word-w.ensures c.digits-c.ensures

pub digits-l-requires : goal.digits-l-requires
digits-l-requires c =
    line_room c.args.code c.args.line (omega arith) (omega arith) c.requires c.word-w.ensures c.digits-c.ensures c.put-s.ensures

pub put-requires : goal.put-requires
put-requires c =
    newline_room c.args.code c.args.line (omega arith) (omega arith) c.requires c.word-w.ensures c.digits-c.ensures c.put-s.ensures c.digits-l.ensures

pub returns : goal.returns
returns c =
    lays_refusal c.args.code c.args.line (omega arith) (omega arith) c.requires c.word-w.ensures c.digits-c.ensures c.put-s.ensures c.digits-l.ensures c.put.ensures
