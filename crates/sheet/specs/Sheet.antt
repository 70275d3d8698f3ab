-- A whole sheet: the orders that it gives, and how it ends.
use Rattle.std.specs.Prelude.{List, [], ◌∷◌, ◌++◌, ℕ, ◌+◌, ltb, eqb, length}
use Rattle.units.specs.Tests.{pick}
use Rattle.sheet.specs.declared.Order.{Order}
use Rattle.sheet.specs.Line.{LineRead, Right, Wrong, line_of}

-- each line is ended by a newline, and has at most so many bytes before it
abbrev pub newline : ℕ
newline = 10

abbrev pub line_most : ℕ
line_most = 64

-- 42 over 64 bytes without a newline; 45 a last line without one
abbrev pub too_long : ℕ
too_long = 42

abbrev pub unended : ℕ
unended = 45

-- a sheet ends behind a line, or is refused by a number at a line, the first being line 1
pub data Ending : Type 0 where
  ended : Ending
  refused : ℕ → ℕ → Ending

-- what is told of a sheet: its orders, one behind the other, and its ending
pub record Told : Type 0 where
  pub orders : List Order
  pub ending : Ending

-- no order more
abbrev pub nothing_but : Ending → Told
nothing_but ending = record { orders = []; ending = ending }

-- an order before others
infixr 20 ◌before◌
abbrev pub ◌before◌ : Order → Told → Told
o before t = record { orders = o ∷ t.orders; ending = t.ending }

-- and many
abbrev pub all_before : List Order → Told → Told
all_before os t = record { orders = os ++ t.orders; ending = t.ending }

-- a line gives its order before what is told of the lines behind it; the first that is refused ends the sheet
abbrev pub by_line : LineRead → ℕ → Told → Told
by_line (Right o) line rest = o before rest
by_line (Wrong code) line rest = nothing_but (refused code line)

-- how a sheet ends at a line of which some bytes have come
unfoldable pub ending_at : ℕ → List ℕ → Ending
ending_at line begun = pick (eqb (length begun) 0) ended (refused unended line)

-- what is told from a line on of which some bytes have come, byte by byte of those to come
unfoldable pub told : ℕ → List ℕ → List ℕ → Told
told line begun [] = nothing_but (ending_at line begun)
told line begun (b ∷ s) =
    pick (eqb b newline) (by_line (line_of begun) line (told (line + 1) [] s))
    (pick (ltb (length begun) line_most) (told line (begun ++ (b ∷ [])) s) (nothing_but (refused too_long line)))

-- what is told of a whole sheet
unfoldable pub told_of : List ℕ → Told
told_of s = told 1 [] s
