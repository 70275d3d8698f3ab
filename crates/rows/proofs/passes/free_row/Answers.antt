-- `rows::passes::free_row` meets its contract: no row passed is free.
use Rattle.std.proofs.Common.{◌≡◌, ◌∙◌, eq-eqb, arith}
use Rattle.rows.specs.Passes.{free_row}
use Rattle.units.specs.Loops.{seek_finds, seek_ends}
use Rattle.rows.proofs.passes.free_row.Goals as goal

pub returns-then-sizes-i-eq0 : goal.returns-then-sizes-i-eq0
unfolding free_row
returns-then-sizes-i-eq0 c = seek_finds _ _ _ c.loop-i.invariant c.loop-i-test.true (eq-eqb _ _ c.if-sizes-i-eq0.true)

pub returns : goal.returns
unfolding free_row
returns c =
    let last : 216 ≡ c.loop-i.i = omega (arith, c.loop-i.invariant.0, c.loop-i-test.false) in
    last ∙ seek_ends _ _ _ c.loop-i.invariant c.loop-i-test.false
