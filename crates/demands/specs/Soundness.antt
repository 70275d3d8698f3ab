-- Every reached market is sound: the one thing that the calls' promises ask for is there before each call of each run.
use Rattle.session.specs.Market.{Market}
use Rattle.session.specs.Sound.{Sound}
use Rattle.demands.specs.Runs.{Reached}

abbrev pub ReachedSound : Type 0
ReachedSound = (m : Market) → Reached m → Sound m
