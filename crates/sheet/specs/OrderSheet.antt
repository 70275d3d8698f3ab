-- What is promised of an order sheet: what is told of it, in words of its bytes; that its cuts do not matter; and that
-- orders spelt as lines are read as they are. The proofs stand in OrderSheetProof.
use Rattle.std.specs.Prelude.{◌≡◌, ℕ, ◌≤◌, ◌<◌, length}
use mathlib.Core.List.{List, [], ◌∷◌, flatten}
use Rattle.sheet.specs.declared.Order.{Order}
use Rattle.sheet.specs.Line.{order_of}
use Rattle.sheet.specs.Sheet.{line_most, ended, Told, told_of}
use Rattle.sheet.specs.Parts.{at_start, Feeds}
use Rattle.sheet.specs.Words.{FieldsOf, nth, RightLine, Says}
use Rattle.sheet.specs.Spelling.{CanSpell, spelt, sheet_of}

-- each of a list of orders can be spelt
abbrev pub AllSpell : List Order → Type 0
AllSpell [] = Unit {0}
AllSpell (o ∷ os) = CanSpell o × AllSpell os

pub record OrderSheet : Type 0 where
  -- every sheet is right lines, with nothing behind them or with a line that is refused: by 42, 43, 44 or 45, each
  -- exactly in its case, with the line from 1 and the orders of the lines before it
  pub says : (s : List ℕ) → Says s (told_of s)
  pub only : (s : List ℕ) (t : Told) → Says s t → t ≡ told_of s
  -- a line has its fields, and has them once
  pub has_fields : (line : List ℕ) → (fs : List (List ℕ)) × FieldsOf line fs
  pub fields_once : (line : List ℕ) (fs gs : List (List ℕ)) → FieldsOf line fs → FieldsOf line gs → (i : ℕ) → i < 6 → nth fs i ≡ nth gs i
  -- whatever the parts in which a sheet comes, empty ones too, its reader is told what is told of the parts joined:
  -- cutting it anywhere changes no order, no refusal and no line number
  pub cut_anywhere : (held : List ℕ) (parts : List (List ℕ)) (t : Told) → line_most ≤ length held → Feeds (at_start held) parts t → t ≡ told_of (flatten parts)
  -- and there is such a reading of any parts
  pub fed_whole : (held : List ℕ) (parts : List (List ℕ)) → line_most ≤ length held → Feeds (at_start held) parts (told_of (flatten parts))
  -- every order of a sheet is one that a line can spell: a tenant of one digit, a size of six, a price of seven
  pub spells_all : (s : List ℕ) → AllSpell (told_of s).orders
  -- a line spelt from an order is right, and says that order;
  pub reads_right : (o : Order) → CanSpell o → RightLine (spelt o) × (order_of (spelt o) ≡ o)
  -- so a sheet of such lines gives the orders, one behind the other
  pub sheet_reads : (os : List Order) → AllSpell os → told_of (sheet_of os) ≡ record { orders = os; ending = ended }
