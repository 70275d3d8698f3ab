-- Demand 2, whole.
use Rattle.demands.specs.Demand2.{RefusedInOrder, AcceptedStores, TurnedDownInOrder, OrdersFilled, OpenedRight}
use Rattle.demands.specs.Rules.{JudgedRight}
use Rattle.demands.specs.Demand2Rows.{RowsRight}

pub record Demand2 : Type 0 where
  pub refusals : RefusedInOrder
  pub stores : AcceptedStores
  pub judging : JudgedRight
  pub turn_downs : TurnedDownInOrder
  pub fills : OrdersFilled
  pub rows : RowsRight
  pub opening : OpenedRight
