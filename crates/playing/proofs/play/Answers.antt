-- `playing::play` meets its contract: what the loop has printed stands in the output, and what is left is a play of its
-- own. The measure is what is left of the bytes at hand.
use native.Mathlib.Omega.{arith}
use Rattle.playing.specs.PlayingLaws.{playing_starts, playing_reads, playing_writes, playing_stops, playing_less, playing_goes_on}
use Rattle.playing.proofs.play.Goals as goal

pub loop-more-init : goal.loop-more-init
loop-more-init c = playing_starts _ _ _ _ _ _ _ _ c.requires

pub returns-then-is_short : goal.returns-then-is_short
returns-then-is_short c = rw c.leave.ensures (playing_reads _ _ _ c.loop-more.invariant c.is_short.ensures c.if-is_short.true)

pub returns-then-at-lt-LONGEST_EVENT : goal.returns-then-at-lt-LONGEST_EVENT
returns-then-at-lt-LONGEST_EVENT c =
    rw c.leave-then-at-lt-LONGEST_EVENT.ensures
    (playing_writes _ _ _ c.loop-more.invariant c.is_short.ensures c.if-is_short.false c.if-at-lt-LONGEST_EVENT.true)

pub returns-in-Some : goal.returns-in-Some
returns-in-Some c =
    rw c.leave-in-Some.ensures
    (playing_stops _ _ _ c.loop-more.invariant c.is_short.ensures c.if-is_short.false c.if-at-lt-LONGEST_EVENT.false _ _ _ _
    c.step-done.ensures _ c.in-Some.is)

pub loop-more-smaller : goal.loop-more-smaller
loop-more-smaller c =
    playing_less _ _ _ c.loop-more.invariant c.is_short.ensures c.if-is_short.false c.if-at-lt-LONGEST_EVENT.false _ _ _ _
    c.step-done.ensures c.in_default.is

pub loop-more-preserved : goal.loop-more-preserved
loop-more-preserved c =
    playing_goes_on _ _ _ c.loop-more.invariant c.is_short.ensures c.if-is_short.false c.if-at-lt-LONGEST_EVENT.false _ _ _ _
    c.step-done.ensures c.in_default.is (omega arith)
