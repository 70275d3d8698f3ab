-- `of_settings` meets its contract: the numbers are stored from the front.
use Rattle.std.proofs.Common.{◌∙◌}
use Rattle.tape.specs.Several.{stored_sets}
use Rattle.tape.proofs.numbers.of_settings.Goals as goal

pub returns-clause-numbers : goal.returns-clause-numbers
returns-clause-numbers c = c.store.ensures ∙ stored_sets _ _
