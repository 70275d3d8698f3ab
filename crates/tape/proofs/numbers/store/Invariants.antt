-- What the loop of `tape::numbers::store` keeps: the numbers passed are stored.
use Rattle.tape.specs.Storing.{Storing}
use Rattle.tape.proofs.numbers.store.Given as goal

abbrev pub invariant-loop-v : goal.invariant-loop-v
invariant-loop-v l = Storing l.numbers l.initial.out l.at l.v-index l.to l.out
