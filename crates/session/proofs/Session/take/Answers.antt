-- `Session::take` meets its contract: the lanes and the tallies are what `taken` and `count` ensure.
use Rattle.session.specs.TurnLaws.{taking_is}
use Rattle.session.proofs.Session.take.Goals as goal

pub returns : goal.returns
returns c = taking_is _ _ _ _ c.taken-self.ensures c.count-self.ensures
