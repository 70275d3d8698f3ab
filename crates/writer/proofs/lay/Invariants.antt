-- What the loop of `writer::lay` keeps.
use Rattle.writer.specs.WriteLaws.{Laying}
use Rattle.writer.proofs.lay.Given as goal

abbrev pub invariant-loop-v : goal.invariant-loop-v
invariant-loop-v l = Laying l.numbers l.initial.buffer l.v-index l.buffer l.at
