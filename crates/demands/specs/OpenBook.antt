-- An open book is never locked or crossed, in any reached market: each resting buy is below each resting sell.
use Rattle.std.specs.Prelude.{◌≡◌, true}
use Rattle.book.specs.Sound.{Uncrossed}
use Rattle.session.specs.Market.{Market}
use Rattle.demands.specs.Runs.{Reached}

abbrev pub NeverLockedOrCrossed : Type 0
NeverLockedOrCrossed = (m : Market) → Reached m → m.session.opened ≡ true → Uncrossed m.book
