-- How a sheet finishes: behind its last line, or refused by a number at a line.
use Rattle.std.specs.Prelude.{ℕ}

pub data Finished : Type 0 where
  Ended : Finished
  Refused : ℕ → ℕ → Finished
