-- A sheet in words of its bytes: the fields of a line, which of them are right, and what a sheet is that is told to end
-- so or so.
use Rattle.std.specs.Prelude.{◌≡◌, ◌⊎◌, List, [], ◌∷◌, ◌++◌, ℕ, zero, suc, ◌+◌, ◌≤◌, ◌<◌, eqb, length, get_or, take}
use Rattle.units.specs.Tests.{pick}
use Rattle.units.specs.Places.{at}
use Rattle.sheet.specs.declared.Order.{Order}
use Rattle.sheet.specs.Line.{space, point, buy_word, sell_word, limit_word, market_word, dash, day_word, now_word, order_of}
use Rattle.sheet.specs.Sheet.{newline, line_most, Told, ended, refused}

-- bytes of which none is the byte m
abbrev pub Without : ℕ → List ℕ → Type 0
Without m s = (i : ℕ) → i < length s → at s i ≡ m → ⊥

-- A line cut at its first n spaces. The field behind them is all the rest; where there are fewer, the line's end closes
-- the field that it is in, and the following are missing.
pub data Cut : ℕ → List ℕ → List (List ℕ) → Type 0 where
  all_rest : {s : List ℕ} → Cut 0 s (s ∷ [])
  to_end : {n : ℕ} {s : List ℕ} → Without space s → Cut (suc n) s (s ∷ [])
  to_space : {n : ℕ} {f s : List ℕ} {fs : List (List ℕ)} → Without space f → Cut n s fs → Cut (suc n) (f ++ (space ∷ s)) (f ∷ fs)

-- the fields of a line end at its first five spaces
abbrev pub FieldsOf : List ℕ → List (List ℕ) → Type 0
FieldsOf line fs = Cut 5 line fs

-- a field, counted from 0; one that is missing is empty
abbrev pub nth : List (List ℕ) → ℕ → List ℕ
nth fs i = get_or fs i []

-- digits alone: `0` is 48, `9` is 57
abbrev pub Digits : List ℕ → Type 0
Digits s = (i : ℕ) → i < length s → (48 ≤ at s i) × (at s i ≤ 57)

-- digits, as few as one and as many as k
pub record Number (k : ℕ) (f : List ℕ) : Type 0 where
  pub digits : Digits f
  pub some : 1 ≤ length f
  pub most : length f ≤ k

-- one to five digits, a point and two more
pub record Price (f : List ℕ) : Type 0 where
  pub dollars : List ℕ
  pub cents : List ℕ
  pub is : f ≡ dollars ++ (point ∷ cents)
  pub whole : Number 5 dollars
  pub part : Digits cents
  pub two : length cents ≡ 2

-- a right field: tenant, side, size, kind, price (of a limit; else a dash) and life
abbrev pub RightField : List (List ℕ) → ℕ → Type 0
RightField fs zero = Number 1 (nth fs 0)
RightField fs (suc zero) = (nth fs 1 ≡ buy_word) ⊎ (nth fs 1 ≡ sell_word)
RightField fs (suc (suc zero)) = Number 6 (nth fs 2)
RightField fs (suc (suc (suc zero))) = (nth fs 3 ≡ limit_word) ⊎ (nth fs 3 ≡ market_word)
RightField fs (suc (suc (suc (suc zero)))) = ((nth fs 3 ≡ limit_word) × Price (nth fs 4)) ⊎ ((nth fs 3 ≡ limit_word → ⊥) × (nth fs 4 ≡ dash))
RightField fs (suc (suc (suc (suc (suc i))))) = (nth fs 5 ≡ day_word) ⊎ (nth fs 5 ≡ now_word)

-- a field is the first wrong one from the left
abbrev pub FirstWrong : List (List ℕ) → ℕ → Type 0
FirstWrong fs i = (i < 6) × ((j : ℕ) → j < i → RightField fs j) × (RightField fs i → ⊥)

-- 43 for a word, that is side, kind and life; 44 for a number, price or dash
abbrev pub IsWord : ℕ → Type 0
IsWord i = (i ≡ 1) ⊎ ((i ≡ 3) ⊎ (i ≡ 5))

abbrev pub IsNumber : ℕ → Type 0
IsNumber i = (i ≡ 0) ⊎ ((i ≡ 2) ⊎ (i ≡ 4))

-- the bytes of a line
abbrev pub IsLine : List ℕ → Type 0
IsLine line = Without newline line × (length line ≤ line_most)

-- a line whose fields are all right
pub record RightLine (line : List ℕ) : Type 0 where
  pub is_line : IsLine line
  pub fields : List (List ℕ)
  pub cut : FieldsOf line fields
  pub right : (i : ℕ) → i < 6 → RightField fields i

abbrev pub RightLines : List (List ℕ) → Type 0
RightLines [] = Unit {0}
RightLines (line ∷ lines) = RightLine line × RightLines lines

-- lines, each ended by a newline
unfoldable pub text_of : List (List ℕ) → List ℕ
text_of [] = []
text_of (line ∷ lines) = line ++ (newline ∷ text_of lines)

-- the orders that they say
abbrev pub orders_of : List (List ℕ) → List Order
orders_of [] = []
orders_of (line ∷ lines) = order_of line ∷ orders_of lines

-- how many newlines stand among bytes
unfoldable pub newlines : List ℕ → ℕ
newlines [] = 0
newlines (b ∷ s) = pick (eqb b newline) 1 0 + newlines s

-- right lines give their orders, and the line behind them is refused by a number: the line named is one more than the
-- newlines before it
abbrev pub refused_behind : List (List ℕ) → ℕ → Told
refused_behind lines code = record { orders = orders_of lines; ending = refused code (1 + newlines (text_of lines)) }

-- what a sheet is of which so much is told
pub data Says (s : List ℕ) : Told → Type 0 where
  -- right lines, and nothing behind them
  right_lines : (lines : List (List ℕ)) → RightLines lines → s ≡ text_of lines → Says s (record { orders = orders_of lines; ending = ended })
  -- 42 over 64 bytes without a newline
  too_long :
      (lines : List (List ℕ)) (rest : List ℕ) → RightLines lines → s ≡ text_of lines ++ rest → line_most < length rest →
      Without newline (take (line_most + 1) rest) → Says s (refused_behind lines 42)
  -- 45 a last line without one
  unended :
      (lines : List (List ℕ)) (rest : List ℕ) → RightLines lines → s ≡ text_of lines ++ rest → 0 < length rest → IsLine rest →
      Says s (refused_behind lines 45)
  -- 43 a wrong or missing word
  wrong_word :
      (lines fs : List (List ℕ)) (line more : List ℕ) (i : ℕ) → RightLines lines → s ≡ text_of lines ++ (line ++ (newline ∷ more)) → IsLine line →
      FieldsOf line fs → FirstWrong fs i → IsWord i → Says s (refused_behind lines 43)
  -- 44 a wrong or missing number, price or dash
  wrong_number :
      (lines fs : List (List ℕ)) (line more : List ℕ) (i : ℕ) → RightLines lines → s ≡ text_of lines ++ (line ++ (newline ∷ more)) → IsLine line →
      FieldsOf line fs → FirstWrong fs i → IsNumber i → Says s (refused_behind lines 44)
