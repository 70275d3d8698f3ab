-- What the loop of `figures::inscribe` keeps.
use Rattle.std.proofs.Common.{◌-◌, length}
use Rattle.figures.specs.Reading.{reader_of}
use Rattle.figures.specs.Inscribing.{inscribe_of}
use Rattle.figures.specs.InscribingLaws.{Passing}
use Rattle.figures.proofs.inscribe.Given as goal

abbrev pub invariant-loop-i : goal.invariant-loop-i
invariant-loop-i l = Passing l.bytes l.more (inscribe_of l.bytes l.more l.from (length l.initial.out - l.fn.at) (reader_of l.initial.place l.initial.numbers)) l.initial.out l.fn.at l.initial.numbers l.place l.numbers l.out l.i l.at
