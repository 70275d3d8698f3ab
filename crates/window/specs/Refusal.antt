-- The line that tells which line of a text is refused, and by which number: a word, as `write`, the number, the line.
use Rattle.std.specs.Prelude.{◌≡◌, List, [], ◌∷◌, ◌++◌, ℕ, ◌+◌, length}
use Rattle.std.proofs.lemmas.List.Edits.{sets}
use Rattle.units.specs.Decimal.{decimal}

abbrev pub space : ℕ
space = 32

abbrev pub newline : ℕ
newline = 10

-- the word has a space behind it
unfoldable pub refusal_line : List ℕ → ℕ → ℕ → List ℕ
refusal_line word code line = word ++ decimal code ++ (space ∷ []) ++ decimal line ++ (newline ∷ [])

-- no such line has more bytes behind that
abbrev pub longest_behind : ℕ
longest_behind = 32

-- bytes stand from a place on, and the answer is the place after them
pub record Lays (was : List ℕ) (at : ℕ) (bytes : List ℕ) (end : ℕ) (out : List ℕ) : Type 0 where
  pub laid : out ≡ sets was at bytes
  pub after : end ≡ at + length bytes
