-- Each return is a case of `encode_in`.
use Rattle.std.proofs.Common.{arith}
use Rattle.numeral.specs.Writing.{laid_none, laid_past, laid_last, laid_more}
use Rattle.numeral.proofs.writing.+put.Goals as goal

pub returns-then-allowed-eq0 : goal.returns-then-allowed-eq0
returns-then-allowed-eq0 t c = laid_none _ _ _ _ c.if-allowed-eq0.true

pub returns-then-out-at : goal.returns-then-out-at
returns-then-out-at t c = laid_past _ _ _ _ (omega arith)

pub returns-then-n-lt128 : goal.returns-then-n-lt128
returns-then-n-lt128 t c = laid_last _ _ _ _ c.if-allowed-eq0.false c.if-n-lt128.true

pub returns : goal.returns
returns t c = laid_more c.args.allowed c.args.n c.args.out.now c.args.at c.if-allowed-eq0.false (omega arith) c.put.ensures
