-- `lines::parts::few_digits` meets its contract: each branch has as many digits as its test says.
use Rattle.std.proofs.Common.{ap, arith, length, rules}
use Rattle.units.specs.DecimalLaws.{decimal_some, decimal_two, decimal_three, decimal_four}
use Rattle.lines.specs.Laying.{laid_then, one_laid, room_after}
use Rattle.lines.specs.Numbered.{digit_alone}
use Rattle.lines.proofs.parts.few_digits.Goals as goal

pub bounds-out-at : goal.bounds-out-at
bounds-out-at c = let some = decimal_some c.args.n in search rules

pub returns-then-n-lt10 : goal.returns-then-n-lt10
returns-then-n-lt10 c = digit_alone _ _ _ c.if-n-lt10.true c.requires.room.long

pub two_digits-requires : goal.two_digits-requires
two_digits-requires c = let e = ap length (decimal_two _ c.if-n-lt10.false c.if-n-lt100.true) in search rules

pub returns-then-n-lt100 : goal.returns-then-n-lt100
returns-then-n-lt100 c = rw (decimal_two _ c.if-n-lt10.false c.if-n-lt100.true) c.two_digits.ensures

pub bounds-out-at-then-n-lt1000 : goal.bounds-out-at-then-n-lt1000
bounds-out-at-then-n-lt1000 c = let e = ap length (decimal_three _ c.if-n-lt100.false c.if-n-lt1000.true) in search rules

pub two_digits-requires-then-n-lt1000 : goal.two_digits-requires-then-n-lt1000
two_digits-requires-then-n-lt1000 c =
    let e = ap length (decimal_three _ c.if-n-lt100.false c.if-n-lt1000.true) in
    record { room = room_after _ _ _ 2 (rw e at c.requires.room); n_bound = omega arith }

pub returns-then-n-lt1000 : goal.returns-then-n-lt1000
returns-then-n-lt1000 c =
    rw (decimal_three _ c.if-n-lt100.false c.if-n-lt1000.true)
    (laid_then _ _ (one_laid _ _ _ c.requires.room.long) c.two_digits-then-n-lt1000.ensures)

pub four_digits-requires : goal.four_digits-requires
four_digits-requires c = let e = ap length (decimal_four _ c.if-n-lt1000.false c.requires.n_bound) in search rules

pub returns : goal.returns
returns c = rw (decimal_four _ c.if-n-lt1000.false c.requires.n_bound) c.four_digits.ensures
