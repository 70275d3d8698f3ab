-- What the program prints: a word, numbers each after a space, and a newline, in ASCII.
use Rattle.std.specs.Prelude.{List, ◌++◌, ℕ}
use Rattle.book.specs.declared.Fill.{Fill}
use Rattle.lines.specs.Letters.{letters}
use Rattle.units.specs.Decimal.{decimal}

-- Every line ends in it.
abbrev pub newline : List ℕ
newline = letters "\n"

-- a number in a line stands after a space
unfoldable pub spaced : ℕ → List ℕ
spaced n = letters " " ++ decimal n

-- What settings are answered is `set C`,
abbrev pub set_line : ℕ → List ℕ
set_line code = letters "set" ++ spaced code ++ newline

-- what an away quote is answered `away C`,
abbrev pub away_line : ℕ → List ℕ
away_line code = letters "away" ++ spaced code ++ newline

-- and what a submit is answered `submit C`.
abbrev pub submit_line : ℕ → List ℕ
submit_line code = letters "submit" ++ spaced code ++ newline

-- A turn line is tenant, code, number, filled, disposition: `turn T C N F D`.
abbrev pub turn_line : ℕ → ℕ → ℕ → ℕ → ℕ → List ℕ
turn_line tenant code number filled disposition =
    letters "turn" ++ spaced tenant ++ spaced code ++ spaced number ++ spaced filled ++ spaced disposition ++ newline

-- A refused turn is `refused C`.
abbrev pub refused_line : ℕ → List ℕ
refused_line code = letters "refused" ++ spaced code ++ newline

-- An open line is code, price, volume: `open C P V`. A refused open is `open C 0 0`.
abbrev pub open_line : ℕ → ℕ → ℕ → List ℕ
open_line code price volume = letters "open" ++ spaced code ++ spaced price ++ spaced volume ++ newline

-- `fill N T Q P`: a fill's order number, tenant, quantity and price
abbrev pub fill_line : ℕ → ℕ → ℕ → ℕ → List ℕ
fill_line number tenant quantity price =
    letters "fill" ++ spaced number ++ spaced tenant ++ spaced quantity ++ spaced price ++ newline

-- the line of a fill
abbrev pub fill_line_of : Fill → List ℕ
fill_line_of f = fill_line f.number f.tenant f.quantity.0 f.price.0

-- A line `gone N` for each order that an opening cancelled.
abbrev pub gone_line : ℕ → List ℕ
gone_line number = letters "gone" ++ spaced number ++ newline

-- A refused tape prints `tape C B`, B the place of the bad number's first byte.
abbrev pub tape_line : ℕ → ℕ → List ℕ
tape_line code place = letters "tape" ++ spaced code ++ spaced place ++ newline

-- A tape that ends between events prints `end`.
abbrev pub end_line : List ℕ
end_line = letters "end" ++ newline

-- `tally T TURNS BOUGHT SOLD`, where it is asked for: a tenant's turns taken, contracts bought and contracts sold
abbrev pub tally_line : ℕ → ℕ → ℕ → ℕ → List ℕ
tally_line tenant turns bought sold =
    letters "tally" ++ spaced tenant ++ spaced turns ++ spaced bought ++ spaced sold ++ newline
