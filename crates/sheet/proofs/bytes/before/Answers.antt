-- `sheet::bytes::before` meets its contract: the bytes before the first mark stand in front.
use Rattle.std.proofs.Common.{sym, ap, length}
use Rattle.sheet.specs.BytesLaws.{up_front}
use Rattle.sheet.proofs.bytes.before.Goals as goal

pub slice_bounds-result-end : goal.slice_bounds-result-end
slice_bounds-result-end c = sym (rw c.until-n.ensures (ap length (up_front _ _)))

pub returns : goal.returns
returns c = rw c.until-n.ensures (up_front _ _)
