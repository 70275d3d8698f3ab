-- `dealing::credit::credit_row` meets its contract, by whether the row traded.
use native.Mathlib.Omega.{arith}
use Rattle.dealing.specs.CreditLaws.{row_none, row_traded, can_credit_owner}
use Rattle.dealing.proofs.credit.credit_row.Goals as goal

pub credit_owner-requires : goal.credit_owner-requires
credit_owner-requires c = can_credit_owner _ _ _ _ c.requires c.if-quantity-gt0.true

pub returns-then-quantity-gt0 : goal.returns-then-quantity-gt0
returns-then-quantity-gt0 c = row_traded _ _ _ _ c.requires c.if-quantity-gt0.true _ c.credit_owner.ensures

pub returns-else-quantity-gt0 : goal.returns-else-quantity-gt0
returns-else-quantity-gt0 c = let a = c.args in row_none _ a.side a.owner a.quantity (omega arith)
