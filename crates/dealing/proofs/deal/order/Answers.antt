-- `dealing::deal::order` meets its contract, by the three verdicts.
use mathlib.Core.Path.{◌≡◌, ◌∙◌, ap}
use native.Mathlib.Omega.{arith}
use Rattle.std.specs.Prelude.{Result, Ok}
use Rattle.entry.specs.declared.refusal.TurnDown.{TurnDown}
use Rattle.judge.specs.declared.Judged.{Judged}
use Rattle.judge.specs.declared.Judged.TheVariants as passed
use Rattle.judge.specs.JudgedOf.{judged_of}
use Rattle.dealing.specs.Floor.{met}
use Rattle.dealing.specs.OrderLaws.{Told, told_of}
use Rattle.dealing.proofs.deal.order.Goals as goal
use Rattle.dealing.proofs.deal.order.Goals.{After-judge}

-- what an order that is not turned down is judged
passes : (r : Result Judged TurnDown) (x y : Judged) → r ≡ Ok x → x ≡ y → judged_of r ≡ judged_of (Ok y)
passes r x y e f = ap judged_of (rw f at e)

-- what the quotes, the standing and the verdict give
told : (c : After-judge) → Told (met c.args.series c.args.tallies c.args.number c.args.book.now) c.args.t c.args.e c.args.records.now c.quotes_of-quotes.result (judged_of c.judge.result)
told c =
    let a = c.args in
    told_of _ _ _ _ c.requires _ _ _ _ _ c.best_bid-bid.ensures c.best_offer-offer.ensures
    c.quotes_of-quotes.ensures c.resting_rows-resting.ensures c.judge.ensures

pub overflow_cast-number : goal.overflow_cast-number
overflow_cast-number c =
    let rests = passes _ _ (passed.Rests c.in-Ok-Rests.o) c.in-Ok-Rests.is c.in-Ok-Rests.field-0-is in
    omega (arith, (told (goal.at.overflow_cast-number c).After-judge).left _ rests)

pub overflow_cast-number-in-Ok-Trades : goal.overflow_cast-number-in-Ok-Trades
overflow_cast-number-in-Ok-Trades c =
    let trades = passes _ _ (passed.Trades c.in-Ok-Trades.o c.in-Ok-Trades.bound) c.in-Ok-Trades.is c.in-Ok-Trades.field-0-is in
    omega (arith, ((told (goal.at.overflow_cast-number-in-Ok-Trades c).After-judge).ready _ _ trades).numbered)

pub trade_order-requires : goal.trade_order-requires
trade_order-requires c =
    (told (goal.at.trade_order-requires c).After-judge).ready _ _
    (passes _ _ (passed.Trades c.in-Ok-Trades.o c.in-Ok-Trades.bound) c.in-Ok-Trades.is c.in-Ok-Trades.field-0-is)

pub returns-in-Err : goal.returns-in-Err
returns-in-Err c = c.turned_down.ensures c.args.series c.args.number _ _ ∙ (told (goal.at.returns-in-Err c).After-judge).makes _ (ap judged_of c.in-Err.is)

pub returns-in-Ok-Rests : goal.returns-in-Ok-Rests
returns-in-Ok-Rests c =
    c.rest_order.ensures _ _
    ∙ (told (goal.at.returns-in-Ok-Rests c).After-judge).makes _ (passes _ _ (passed.Rests c.in-Ok-Rests.o) c.in-Ok-Rests.is c.in-Ok-Rests.field-0-is)

pub returns-in-Ok-Trades : goal.returns-in-Ok-Trades
returns-in-Ok-Trades c =
    c.trade_order.ensures
    ∙ (told (goal.at.returns-in-Ok-Trades c).After-judge).makes _
    (passes _ _ (passed.Trades c.in-Ok-Trades.o c.in-Ok-Trades.bound) c.in-Ok-Trades.is c.in-Ok-Trades.field-0-is)
