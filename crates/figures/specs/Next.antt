-- What comes next: more of the text is read, what is written is written out, or nothing, since the text ended between
-- two lines (0), or its line at the place is refused by a number.
use Rattle.std.specs.Prelude.{ℕ}

pub data Next : Type 0 where
  Read : Next
  Write : Next
  Stop : ℕ → Next
