-- What the loop of `dealing::credit::credit` keeps.
use Rattle.units.specs.Places.{at}
use Rattle.dealing.specs.CreditLaws.{Crediting}
use Rattle.dealing.proofs.credit.credit.Given as goal

abbrev pub invariant-loop-i : goal.invariant-loop-i
invariant-loop-i l = Crediting (at l.sides) (at l.owners) (at l.traded) l.initial.after l.i l.after
