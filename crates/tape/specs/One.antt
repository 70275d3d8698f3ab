-- Numbers that are exactly one event.
use Rattle.std.specs.Prelude.{Bool, true, false, List, [], ◌∷◌, ℕ}
use Rattle.tape.specs.Tape.{Form, whole, bad, more}

-- numbers are just what a form asks: its walk over them comes to a whole event where they end
unfoldable pub one_event : Form → List ℕ → Bool
one_event (whole e) [] = true
one_event (whole e) (v ∷ vs) = false
one_event (bad why) vs = false
one_event (more f) [] = false
one_event (more f) (v ∷ vs) = one_event (f v) vs
