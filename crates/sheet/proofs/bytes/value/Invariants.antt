-- What the loop of `sheet::bytes::value` keeps.
use Rattle.sheet.specs.BytesLaws.{Read}
use Rattle.sheet.proofs.bytes.value.Given as goal

abbrev pub invariant-loop-b : goal.invariant-loop-b
invariant-loop-b l = Read l.s l.b-index l.v
