-- `dealing::deal::trade_order` meets its contract: what settling, the disposition and the rest's disposal ensure is the
-- definition.
use mathlib.Core.Path.{refl}
use Rattle.dealing.specs.ReachLaws.{floor_quoted}
use Rattle.dealing.specs.TradeLaws.{settled_most, traded_is}
use Rattle.dealing.proofs.deal.trade_order.Goals as goal

pub settle_in_reach-done-requires-clause-quoted : goal.settle_in_reach-done-requires-clause-quoted
settle_in_reach-done-requires-clause-quoted c = floor_quoted _ _ c.requires.quoted

pub overflow_sub-left : goal.overflow_sub-left
overflow_sub-left c = settled_most _ _ _ _ _ _ _ c.settle_in_reach-done.ensures.value

pub returns : goal.returns
returns c =
    traded_is _ _ _ _ _ _ _ _ _ _ _ _ c.settle_in_reach-done.ensures.numbers_value c.settle_in_reach-done.ensures.records_after c.settle_in_reach-done.ensures.value
    refl c.requires.quoted c.disposition-d.ensures c.dispose.ensures
