-- `dealing::credit::credit` meets its contract: the rows passed are credited.
use mathlib.Core.Path.{◌∙◌}
use native.Mathlib.Omega.{arith}
use Rattle.units.specs.Places.{at}
use Rattle.dealing.specs.CreditLaws.{row_none, row_traded, can_credit_owner, credit_starts, credit_goes_on, can_credit}
use Rattle.dealing.proofs.credit.credit.Goals as goal
use Rattle.dealing.proofs.credit.credit.Goals.{then-quantity-gt0, else-quantity-gt0}

pub loop-i-init : goal.loop-i-init
loop-i-init c = credit_starts _ _ _ _

pub credit_owner-requires : goal.credit_owner-requires
credit_owner-requires c = can_credit_owner _ _ _ _ (can_credit _ _ _ _ _ _ c.requires c.loop-i.invariant c.loop-i-test.true) c.if-quantity-gt0.true

pub loop-i-preserved : goal.loop-i-preserved
loop-i-preserved c =
    let w = c.loop-i.invariant in
    let h = c.loop-i-test.true in
    let a = c.args in
    let i = c.loop-i.i in
    credit_goes_on _ _ _ _ _ _ _ w h
    (elim c.if-quantity-gt0.branch [
      | then-quantity-gt0 took ↦
          took.after-is
          ∙ row_traded _ _ _ _ (can_credit _ _ _ _ _ _ c.requires w h) took.if-quantity-gt0.true _ took.credit_owner.ensures
      | else-quantity-gt0 past ↦ past.after-is ∙ row_none _ (at a.sides.now i) (at a.owners.now i) _ (omega (arith, past.if-quantity-gt0.false))
    ])
