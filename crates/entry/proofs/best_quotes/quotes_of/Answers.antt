-- `entry::best_quotes::quotes_of` meets its contract: the calls are the words of the rule.
use Rattle.entry.specs.Quotes.{quotes_of}
use Rattle.entry.proofs.best_quotes.quotes_of.Goals as goal

pub returns : goal.returns
unfolding quotes_of
returns c = cc
