-- `sheet::finish` meets its contract: by the bytes of the last line that have come.
use Rattle.sheet.specs.ReadingLaws.{finish_ended, finish_refused}
use Rattle.sheet.proofs.finish.Goals as goal

pub returns-then-place-eq0 : goal.returns-then-place-eq0
returns-then-place-eq0 c = finish_ended _ c.if-place-eq0.true

pub returns-else-place-eq0 : goal.returns-else-place-eq0
returns-else-place-eq0 c = finish_refused _ c.if-place-eq0.false
