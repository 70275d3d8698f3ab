-- `dealing::deal::cancel` meets its contract, by what the lookup of its number says.
use mathlib.Core.Path.{◌∙◌}
use Rattle.std.specs.Prelude.{Err}
use Rattle.book.specs.declared.lookup.Lost.TheVariants.{GivenOut, NeverGiven}
use Rattle.dealing.specs.Floor.{floor_of}
use Rattle.dealing.specs.DealLaws.{by_found_lem, cancelled_is}
use Rattle.dealing.proofs.deal.cancel.Goals as goal

pub returns-in-Ok : goal.returns-in-Ok
returns-in-Ok c =
    λ s was.
    cancelled_is (floor_of s _ _ _) _ was _ _ _ _ c.find.ensures c.in-Ok.is
    c.free.ensures

pub returns-in-Err-GivenOut : goal.returns-in-Err-GivenOut
returns-in-Err-GivenOut c =
    λ s was.
    c.turned_down.ensures s 0 _ was
    ∙ by_found_lem (floor_of s _ _ _) _ was _ _ (Err GivenOut) c.find.ensures
    (rw c.in-Err-GivenOut.field-0-is at c.in-Err-GivenOut.is)

pub returns-in-Err-NeverGiven : goal.returns-in-Err-NeverGiven
returns-in-Err-NeverGiven c =
    λ s was.
    c.turned_down-in-Err-NeverGiven.ensures s 0 _ was
    ∙ by_found_lem (floor_of s _ _ _) _ was _ _ (Err NeverGiven) c.find.ensures
    (rw c.in-Err-NeverGiven.field-0-is at c.in-Err-NeverGiven.is)
