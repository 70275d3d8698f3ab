-- The promises of an order sheet hold.
use Rattle.std.specs.Prelude.{◌≡◌, refl, List, [], ◌∷◌, ◌++◌, ℕ, ◌<◌}
use Rattle.std.proofs.Common.{sym, ap, ◌∙◌, arith}
use Prim.{tt}
use Rattle.std.proofs.Math.Decide.{dec_lt}
use Rattle.sheet.specs.declared.Order.{Order}
use Rattle.sheet.specs.Sheet.{newline, ended, Told, told_of}
use Rattle.sheet.specs.Words.{FieldsOf, nth, RightLines, text_of, orders_of, Says, right_lines, too_long, unended, wrong_word, wrong_number}
use Rattle.sheet.specs.Spelling.{spelt, sheet_of}
use Rattle.sheet.specs.OrderSheet.{AllSpell, OrderSheet}
use Rattle.sheet.specs.PartsLaws.{cut_anywhere, fed_whole}
use Rattle.sheet.specs.FieldLaws.{cut_fields, cut_last, cuts}
use Rattle.sheet.specs.SaysLaws.{only, says}
use Rattle.sheet.specs.SpellingLaws.{spelt_right, spelt_says, right_can}

-- the lines of orders
abbrev lines_of : List Order → List (List ℕ)
lines_of [] = []
lines_of (o ∷ os) = spelt o ∷ lines_of os

lines_text : (os : List Order) → sheet_of os ≡ text_of (lines_of os)
unfolding sheet_of text_of
lines_text [] = refl
lines_text (o ∷ os) = ap (λ (l : List ℕ). spelt o ++ (newline ∷ l)) (lines_text os)

lines_right : (os : List Order) → AllSpell os → RightLines (lines_of os)
lines_right [] can = tt
lines_right (o ∷ os) can = (spelt_right o can.0, lines_right os can.1)

lines_say : (os : List Order) → AllSpell os → orders_of (lines_of os) ≡ os
lines_say [] can = refl
lines_say (o ∷ os) can = rw (spelt_says o can.0, lines_say os can.1)

same_field : (line : List ℕ) (fs gs : List (List ℕ)) → FieldsOf line fs → FieldsOf line gs → (i : ℕ) → i < 6 → nth fs i ≡ nth gs i
same_field line fs gs f g i h = elim (dec_lt i 5) [
  | yes l ↦ sym (cut_fields f i l) ∙ cut_fields g i l
  | no l ↦ let e : i ≡ 5 = omega arith in rw e (sym (cut_last f) ∙ cut_last g)
]

-- the orders of right lines can be spelt, and so those of any sheet
lines_can : (lines : List (List ℕ)) → RightLines lines → AllSpell (orders_of lines)
lines_can [] r = tt
lines_can (line ∷ lines) r = (right_can line r.0, lines_can lines r.1)

said_can : (s : List ℕ) (t : Told) → Says s t → AllSpell t.orders
said_can s t (right_lines lines r e) = lines_can lines r
said_can s t (too_long lines rest r e h w) = lines_can lines r
said_can s t (unended lines rest r e some is) = lines_can lines r
said_can s t (wrong_word lines fs line more i r e is cut w word) = lines_can lines r
said_can s t (wrong_number lines fs line more i r e is cut w number) = lines_can lines r

pub order_sheet : OrderSheet
order_sheet = record {
  says = says;
  only = only;
  has_fields = cuts 5;
  fields_once = same_field;
  cut_anywhere = cut_anywhere;
  fed_whole = fed_whole;
  spells_all = λ s. said_can s (told_of s) (says s);
  reads_right = λ o can. (spelt_right o can, spelt_says o can);
  sheet_reads = λ os can. sym (only (sheet_of os) _ (right_lines (lines_of os) (lines_right os can) (lines_text os))) ∙ ap (λ (l : List Order). record { orders = l; ending = ended }) (lines_say os can);
}
