-- `dealing::deal::rest_order` meets its contract: the book is what `rest` ensures.
use Rattle.dealing.specs.Floor.{floor_of}
use Rattle.dealing.specs.DealLaws.{rested_is}
use Rattle.dealing.proofs.deal.rest_order.Goals as goal

pub returns : goal.returns
returns c = λ s was. rested_is (floor_of s _ _ _) _ was _ _ c.rest.ensures
