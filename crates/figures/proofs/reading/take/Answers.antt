-- `figures::reading::take` meets its contract, by what the byte is.
use Rattle.figures.specs.TakingLaws.{takes_newline, takes_space, takes_digit}
use Rattle.figures.proofs.reading.take.Goals as goal

pub returns-then-b-eq-NEWLINE : goal.returns-then-b-eq-NEWLINE
returns-then-b-eq-NEWLINE c = takes_newline c.args.b _ c.args.place c.args.numbers.now c.args.out.now c.args.at c.if-b-eq-NEWLINE.true c.end_line.ensures

pub returns-then-b-eq-SPACE : goal.returns-then-b-eq-SPACE
returns-then-b-eq-SPACE c =
    takes_space c.args.b _ c.args.place c.args.numbers.now c.args.out.now c.args.at
    c.if-b-eq-NEWLINE.false c.if-b-eq-SPACE.true c.end_number.ensures.answer c.end_number.ensures.kept c.silent.ensures

pub returns : goal.returns
returns c =
    takes_digit c.args.b _ c.args.place c.args.numbers.now c.args.out.now c.args.at
    c.if-b-eq-NEWLINE.false c.if-b-eq-SPACE.false c.digit.ensures c.silent-2.ensures
