-- `allocation::reach::in_line` meets its contract: the edge among the orders gathered is the edge among all.
use native.Mathlib.Omega.{arith}
use Rattle.allocation.specs.GatheringLaws.{gathered_below, gathered_edge}
use Rattle.allocation.specs.RangeLaws.{numbers_below}
use Rattle.allocation.proofs.reach.in_line.Goals as goal

pub edge_among-requires : goal.edge_among-requires
edge_among-requires c = let w = c.at_key-count.ensures in let a = c.args in record { count_le_rows = omega (arith, w.few); top_le_no_number = omega arith; keys_below = gathered_below _ _ _ _ _ w _ (numbers_below a.side a.bound.0 a.sides.now a.prices.now a.sizes.now a.numbers.now a.m.key c.requires) }

pub returns : goal.returns
returns c = gathered_edge _ _ _ _ _ c.at_key-count.ensures _ _ _ _ c.edge_among.ensures
