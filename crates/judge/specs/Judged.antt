-- What a new order comes to, with the number that turns it down: the words of the verdict.
use Rattle.std.specs.Prelude.{ℕ}
use Rattle.units.specs.declared.Cents.{Cents}
use Rattle.entry.specs.declared.Entry.{Entry}

-- turned down by a number; or it rests before the opening, and trades within a bound after it, as judged
pub data Judged : Type 0 where
  TurnedDown : (number : ℕ) → Judged
  Rests : (order : Entry) → Judged
  Trades : (order : Entry) → (bound : Cents) → Judged
