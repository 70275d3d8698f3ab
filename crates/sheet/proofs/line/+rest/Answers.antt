-- `sheet::line::rest` meets its contract: behind no space stands the line, and behind one more what stands there behind
-- the first.
use Rattle.std.proofs.Common.{◌∙◌}
use Rattle.sheet.specs.LineLaws.{rest_none, rest_more}
use Rattle.sheet.proofs.line.+rest.Goals as goal

pub returns-then-spaces-eq0 : goal.returns-then-spaces-eq0
returns-then-spaces-eq0 t c = rest_none _ _ c.if-spaces-eq0.true

pub returns-else-spaces-eq0 : goal.returns-else-spaces-eq0
returns-else-spaces-eq0 t c = c.rest.ensures ∙ rw c.behind.ensures (rest_more _ _ c.if-spaces-eq0.false)
