-- An open book is never locked or crossed: a sound market's is not, and no market is open without accepted settings.
use Rattle.demands.specs.Accepted.{open_if_set}
use Rattle.demands.specs.SoundnessProof.{reached_sound}
use Rattle.demands.specs.OpenBook.{NeverLockedOrCrossed}

pub never_locked_or_crossed : NeverLockedOrCrossed
never_locked_or_crossed m r o = (reached_sound m r (open_if_set m r o)).uncrossed o
