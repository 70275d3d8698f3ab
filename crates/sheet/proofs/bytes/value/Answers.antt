-- `sheet::bytes::value` meets its contract: the digits passed spell the number at hand.
use Rattle.std.proofs.Common.{arith}
use Rattle.sheet.specs.BytesLaws.{read_digit, read_fits, read_goes_on, read_ends}
use Rattle.sheet.proofs.bytes.value.Goals as goal

pub overflow_mul-v : goal.overflow_mul-v
overflow_mul-v c = omega (arith, read_fits _ _ _ c.loop-b.invariant c.loop-b-test.true c.requires.s_len_bound)

pub overflow_sub-b : goal.overflow_sub-b
overflow_sub-b c = omega (arith, read_digit _ _ _ c.loop-b.invariant c.loop-b-test.true)

pub overflow_add-v : goal.overflow_add-v
overflow_add-v c = omega (arith, read_fits _ _ _ c.loop-b.invariant c.loop-b-test.true c.requires.s_len_bound, read_digit _ _ _ c.loop-b.invariant c.loop-b-test.true, c.from.ensures)

pub loop-b-preserved : goal.loop-b-preserved
loop-b-preserved c = rw c.from.ensures (read_goes_on _ _ _ c.loop-b.invariant c.loop-b-test.true)

pub returns : goal.returns
returns c = read_ends _ _ _ c.loop-b.invariant c.loop-b-test.false
