-- Text as the bytes that print it.
use Rattle.std.specs.Prelude.{List, [] as []ᴸ, ◌∷◌ as ◌∷ᴸ◌, ℕ}
use Prim.Native.Char.{code}
use Prim.Native.String.{String, [], ◌∷◌}

-- a byte for each character of a text in ASCII: its number there
abbrev pub letters : String → List ℕ
letters [] = []ᴸ
letters (c ∷ text) = code c ∷ᴸ letters text
