-- `sheet::bytes::behind` meets its contract: where there is a mark, the bytes behind it follow.
use Rattle.std.proofs.Common.{arith}
use Rattle.sheet.specs.BytesLaws.{up_within, behind_there, behind_none}
use Rattle.sheet.proofs.bytes.behind.Goals as goal

pub slice_bounds-result-count-else-n-s : goal.slice_bounds-result-count-else-n-s
slice_bounds-result-count-else-n-s c = omega (arith, c.until-n.ensures, up_within c.args.mark c.args.s.now)

pub slice_bounds-result-start-else-n-s : goal.slice_bounds-result-start-else-n-s
slice_bounds-result-start-else-n-s c = omega (arith, c.until-n.ensures, up_within c.args.mark c.args.s.now)

pub returns-then-n-s : goal.returns-then-n-s
returns-then-n-s c = behind_there _ _ _ c.until-n.ensures c.if-n-s.true

pub returns-else-n-s : goal.returns-else-n-s
returns-else-n-s c = behind_none _ _ _ c.until-n.ensures c.if-n-s.false
