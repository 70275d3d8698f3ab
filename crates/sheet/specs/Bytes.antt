-- Bytes of a line: those before and behind the first of a kind, digits, and words.
use Rattle.std.specs.Prelude.{Bool, true, false, List, [], ◌∷◌, ℕ, leb, eqb}
use Rattle.units.specs.Tests.{◌and◌, pick}

-- the bytes before the first mark, all of them where there is none
unfoldable pub up_to : ℕ → List ℕ → List ℕ
up_to mark [] = []
up_to mark (b ∷ s) = pick (eqb b mark) [] (b ∷ up_to mark s)

-- the bytes behind the first mark, none where there is none
unfoldable pub behind : ℕ → List ℕ → List ℕ
behind mark [] = []
behind mark (b ∷ s) = pick (eqb b mark) s (behind mark s)

-- `0` is 48, `9` is 57
unfoldable pub is_digit : ℕ → Bool
is_digit b = leb 48 b and leb b 57

unfoldable pub all_digits : List ℕ → Bool
all_digits [] = true
all_digits (b ∷ s) = is_digit b and all_digits s

-- the same bytes
unfoldable pub same : List ℕ → List ℕ → Bool
same [] [] = true
same [] (b ∷ t) = false
same (a ∷ s) [] = false
same (a ∷ s) (b ∷ t) = eqb a b and same s t
