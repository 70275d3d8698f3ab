-- `length` meets its contract: each return by the bytes that hold the number.
use Rattle.std.proofs.Common.{arith, sym}
use Rattle.numeral.specs.Writing.{bytes_by}
use Rattle.numeral.proofs.writing.length.Goals as goal

pub returns-then-n-lt-ONE : goal.returns-then-n-lt-ONE
returns-then-n-lt-ONE c = sym (bytes_by 0 4 _ (omega arith) (λ p. omega arith) (omega arith))

pub returns-then-n-lt-TWO : goal.returns-then-n-lt-TWO
returns-then-n-lt-TWO c = sym (bytes_by 1 4 _ (omega arith) (λ p. omega arith) (omega arith))

pub returns-then-n-lt-THREE : goal.returns-then-n-lt-THREE
returns-then-n-lt-THREE c = sym (bytes_by 2 4 _ (omega arith) (λ p. omega arith) (omega arith))

pub returns-then-n-lt-FOUR : goal.returns-then-n-lt-FOUR
returns-then-n-lt-FOUR c = sym (bytes_by 3 4 _ (omega arith) (λ p. omega arith) (omega arith))

pub returns : goal.returns
returns c = sym (bytes_by 4 4 _ (omega arith) (λ p. omega arith) (omega arith))
