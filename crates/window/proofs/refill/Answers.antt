-- `window::refill` meets its contract: behind the bytes that are not used yet stands what the read gave.
use Rattle.std.proofs.Common.{sym, subst, ◌-◌, ◌≤◌, length, rules}
use Rattle.std.specs.Io.KnownBytes.{Consumes}
use Rattle.window.specs.WindowLaws.{read_next}
use Rattle.window.proofs.refill.Goals as goal

pub returns-in-Ok-clause-bytes : goal.returns-in-Ok-clause-bytes
returns-in-Ok-clause-bytes g c =
    let left = c.args.to - c.args.from in
    let mid = c.copy_within.new.self in
    let read = c.read.new.buf in
    let few : c.in-Ok.n ≤ length read = search rules in
    let fits : left ≤ length mid = search rules in
    subst (Consumes _ _) (sym (read_next mid read left (length mid - left) c.in-Ok.n fits few)) c.in-Ok.ensures.bytes.0
