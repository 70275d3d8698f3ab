-- `fills::turn` meets its contract: what the turn wrote fits the row.
use Rattle.std.proofs.Common.{refl}
use Rattle.session.specs.Turn.{fills_in}
use Rattle.fills.specs.CallsLaws.{turn_few, turn_within, all_told}
use Rattle.fills.proofs.turn.Goals as goal

pub store_all-requires : goal.store_all-requires
store_all-requires c =
    let row = c.args.fills.now in
    (all_told fills_in row _ _ _ (turn_few _ _ _) (turn_within _ _ _ refl) c.turn_core-answer.ensures.exact c.turn_fills.ensures).0
