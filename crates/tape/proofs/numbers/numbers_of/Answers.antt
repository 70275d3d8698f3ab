-- `numbers_of` meets its contract: each event by what it is made of.
use Rattle.std.proofs.Common.{ℕ, List, refl, ap, ◌∙◌}
use Rattle.std.proofs.lemmas.List.Edits.{sets}
use Rattle.tape.specs.Storing.{event_stored}
use Rattle.tape.proofs.numbers.numbers_of.Goals as goal

pub returns-in-Away-clause-numbers : goal.returns-in-Away-clause-numbers
returns-in-Away-clause-numbers c = (event_stored _ _ _ c.in-Away.is c.store.ensures refl).0

pub returns-in-Submit-clause-numbers : goal.returns-in-Submit-clause-numbers
returns-in-Submit-clause-numbers c =
    (event_stored _ c.args.entries.now _ c.in-Submit.is (c.store-in-Submit-2.ensures ∙ ap (λ (l : List ℕ). sets l 3 c.args.entries.now) c.store-in-Submit.ensures) refl).0

pub returns-in-Turn-clause-numbers : goal.returns-in-Turn-clause-numbers
returns-in-Turn-clause-numbers c = (event_stored _ _ _ c.in-Turn.is c.store-in-Turn.ensures refl).0

pub returns-in-Open-clause-numbers : goal.returns-in-Open-clause-numbers
returns-in-Open-clause-numbers c = (event_stored _ _ _ c.in-Open.is c.store-in-Open.ensures refl).0
