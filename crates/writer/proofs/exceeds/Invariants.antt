-- What the loop of `writer::exceeds` keeps.
use Rattle.writer.specs.WriteLaws.{Counting}
use Rattle.writer.proofs.exceeds.Given as goal

abbrev pub invariant-loop-v : goal.invariant-loop-v
invariant-loop-v l = Counting l.numbers l.room l.v-index l.left
