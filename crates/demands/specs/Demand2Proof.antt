-- Demand 2 holds.
use Rattle.demands.specs.Demand2Whole.{Demand2}
use Rattle.demands.specs.Demand2Refusals.{refused_in_order}
use Rattle.demands.specs.Demand2Stores.{accepted_stores}
use Rattle.demands.specs.RulesProof.{judged_right}
use Rattle.demands.specs.Demand2Turn.{turned_down_in_order}
use Rattle.demands.specs.Demand2Fills.{orders_filled}
use Rattle.demands.specs.Demand2RowsProof.{rows_right}
use Rattle.demands.specs.Demand2Opening.{opened_right}

pub demand2 : Demand2
demand2 = record {
  refusals = refused_in_order;
  stores = accepted_stores;
  judging = judged_right;
  turn_downs = turned_down_in_order;
  fills = orders_filled;
  rows = rows_right;
  opening = opened_right;
}
