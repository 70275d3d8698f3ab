-- `opening::matching::fills_at` meets its contract: each side by time.
use mathlib.Core.Path.{◌∙◌}
use Rattle.book.specs.Allocation.{class_of}
use Rattle.opening.specs.MatchingLaws.{joined}
use Rattle.opening.proofs.matching.fills_at.Goals as goal

pub returns : goal.returns
unfolding class_of
returns c = c.join.ensures ∙ joined _ _ _ _ c.shares-bought.ensures c.shares-sold.ensures
