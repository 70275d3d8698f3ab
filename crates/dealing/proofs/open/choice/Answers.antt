-- `dealing::open::choice` meets its contract: the sources are the away quote's and the terms'.
use borrow.Author.Rules.{rules}
use Rattle.dealing.specs.Open.{choice_in}
use Rattle.dealing.proofs.open.choice.Goals as goal

pub returns : goal.returns
unfolding choice_in
returns c = search rules
