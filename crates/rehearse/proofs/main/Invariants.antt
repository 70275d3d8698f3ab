-- What the loop of `rehearse::main` keeps: the market is sound, what is printed and what is at hand lie in their memory,
-- and a run of the program on a file has come there. The measure is the number of turns that are left.
use Rattle.session.specs.Market.{market_in}
use Rattle.window.specs.Program.{status_byte}
use Rattle.rehearse.specs.Rehearsing.{Rehearsing}
use Rattle.rehearse.proofs.main.Given as goal

abbrev pub invariant-loop-turns : goal.invariant-loop-turns
invariant-loop-turns l =
    Rehearsing (market_in l.s l.book l.entries) l.given l.window l.out l.at l.from l.to l.base l.more (status_byte l.status) l.turns

abbrev pub decreases-loop-turns : goal.decreases-loop-turns
decreases-loop-turns l = l.turns
