-- `fills::open` meets its contract: what the opening wrote fits the row, and stored there it is the opening with that
-- row, whatever the lanes' entries.
use Rattle.std.proofs.Common.{refl, []}
use Rattle.session.specs.Open.{fills_in}
use Rattle.fills.specs.CallsLaws.{open_few, open_within, all_told}
use Rattle.fills.proofs.open.Goals as goal

pub store_all-requires : goal.store_all-requires
store_all-requires c =
    let row = c.args.fills.now in
    (all_told fills_in row _ _ _ (open_few _ _ _) (open_within _ _ _ refl) (c.open_core-answer.ensures.exact []) c.open_fills.ensures).0

pub returns-clause-exact : goal.returns-clause-exact
returns-clause-exact c =
    λ entries.
    let row = c.args.fills.now in
    rw c.store_all.ensures
    (all_told fills_in row _ _ _ (open_few _ _ _) (open_within _ _ _ refl) (c.open_core-answer.ensures.exact entries) c.open_fills.ensures).1
