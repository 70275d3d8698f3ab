-- What the loop of `playing::play` keeps.
use Prim.Native.Nat.{◌-◌}
use lib.ListN.{length}
use Rattle.session.specs.Market.{market_in}
use Rattle.playing.specs.Playing.{play_of}
use Rattle.playing.specs.PlayingLaws.{Playing}
use Rattle.playing.proofs.play.Given as goal

abbrev pub invariant-loop-more : goal.invariant-loop-more
invariant-loop-more l = Playing l.bytes l.more l.base (play_of l.bytes l.more l.base (market_in l.initial.s l.initial.book l.initial.entries) l.initial.given l.from-2 l.at-2) l.initial.out l.initial.given l.at-2
    (market_in l.s l.book l.entries) l.given l.from l.out l.at

abbrev pub decreases-loop-more : goal.decreases-loop-more
decreases-loop-more l = length l.bytes - l.from
