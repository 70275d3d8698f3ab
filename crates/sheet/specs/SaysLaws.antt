-- What is told of a sheet, in words of its bytes: right lines, and behind them nothing, or a line that is refused.
use Rattle.std.specs.Prelude.{◌≡◌, refl, Bool, true, false, List, [], ◌∷◌, ◌++◌, ℕ, zero, suc, ◌+◌, ◌≤◌, ◌<◌, ltb, eqb, length, take, drop}
use Rattle.std.proofs.Common.{sym, ap, ◌∙◌, ⊎_elim, append_assoc, append-nil, arith, ltb-true, ltb-false, eqb-true, ne_eqb, length-append, length-take, take-append-drop, length-take-le, get_or-take}
use Prim.{tt}
use Rattle.std.proofs.lemmas.Bool.{eqb-false}
use Rattle.units.specs.Tests.{pick, pick_no}
use Rattle.sheet.specs.Bytes.{up_to, behind}
use Rattle.sheet.specs.Line.{wrong_field, fault_of, line_of}
use Rattle.sheet.specs.Sheet.{newline, line_most, Told, refused, nothing_but, all_before, by_line, ending_at, told, told_of}
use Rattle.sheet.specs.Words.{Without, FieldsOf, FirstWrong, IsLine, RightLine, RightLines, text_of, orders_of, newlines, refused_behind, Says, right_lines, too_long, unended, wrong_word, wrong_number}
use Rattle.sheet.specs.BytesLaws.{up_within}
use Rattle.sheet.specs.ReadingLaws.{front_of}
use Rattle.sheet.specs.ToldLaws.{told_goes_on, told_too_long, told_line, told_end, up_without, up_all, up_splits}
use Rattle.sheet.specs.FieldLaws.{cuts}
use Rattle.sheet.specs.RightLaws.{all_right_says, wrong_within, first_wrong_says, right_says, wrong_says, word_fault, number_fault, word_or_number}

-- bytes without newlines have none, and a line has one
newlines_line : (line s : List ℕ) → Without newline line → newlines (line ++ (newline ∷ s)) ≡ 1 + newlines s
unfolding newlines pick
newlines_line [] s w = refl
newlines_line (b ∷ line) s w = rw (ne_eqb b newline (w 0 (omega arith))) (omega (arith, newlines_line line s (λ i h. w (suc i) (omega arith))))

pub newlines_of : (lines : List (List ℕ)) → RightLines lines → newlines (text_of lines) ≡ length lines
unfolding text_of newlines
newlines_of [] r = refl
newlines_of (line ∷ lines) r = newlines_line line (text_of lines) r.0.is_line.0 ∙ omega (arith, newlines_of lines r.1)

-- a whole line, from its start on
line_told : (l : ℕ) (line rest : List ℕ) → IsLine line → told l [] (line ++ (newline ∷ rest)) ≡ by_line (line_of line) l (told (l + 1) [] rest)
line_told l line rest is = told_goes_on l [] line (newline ∷ rest) is.0 (omega (arith, is.1)) ∙ told_line l line rest

-- right lines give their orders, and what is told of what stands behind them
pub right_told :
    (l : ℕ) (lines : List (List ℕ)) (rest : List ℕ) → RightLines lines →
    told l [] (text_of lines ++ rest) ≡ all_before (orders_of lines) (told (l + length lines) [] rest)
unfolding text_of
right_told l [] rest r = let e : l + 0 ≡ l = omega arith in rw e
right_told l (line ∷ lines) rest r =
    let here = r.0 in
    let e : l + 1 + length lines ≡ l + suc (length lines) = omega arith in
    ap (told l []) (append_assoc line (newline ∷ text_of lines) rest)
    ∙ line_told l line (text_of lines ++ rest) here.is_line
    ∙ rw (right_says line ((all_right_says line here.fields here.cut).1 here.right), right_told (l + 1) lines rest r.1, e)

-- what is told behind right lines where the next one is refused by a number
refused_told :
    (lines : List (List ℕ)) (rest : List ℕ) (code : ℕ) → RightLines lines → told (1 + length lines) [] rest ≡ nothing_but (refused code (1 + length lines)) →
    refused_behind lines code ≡ told_of (text_of lines ++ rest)
unfolding told_of
refused_told lines rest code r e = sym (right_told 1 lines rest r ∙ rw (e, append-nil (orders_of lines), newlines_of lines r))

-- how the line at the start of bytes is refused
wrong_told : (l : ℕ) (line more : List ℕ) (fs : List (List ℕ)) (i code : ℕ) → IsLine line → FieldsOf line fs → FirstWrong fs i → fault_of (suc i) ≡ code →
    told l [] (line ++ (newline ∷ more)) ≡ nothing_but (refused code l)
wrong_told l line more fs i code is cut w e =
    line_told l line more is ∙ rw (wrong_says line i ((first_wrong_says line fs cut i w.0).1 w), e)

long_told : (l : ℕ) (rest : List ℕ) → line_most < length rest → Without newline (take (line_most + 1) rest) → told l [] rest ≡ nothing_but (refused 42 l)
long_told l rest h w =
    let front : List ℕ = take (line_most + 1) rest in
    let long : length front ≡ line_most + 1 = length-take-le (line_most + 1) rest (omega arith) in
    ap (told l []) (sym (take-append-drop (line_most + 1) rest)) ∙ told_too_long l [] front (drop (line_most + 1) rest) w (omega arith) (omega arith)

unended_told : (l : ℕ) (rest : List ℕ) → 0 < length rest → IsLine rest → told l [] rest ≡ nothing_but (refused 45 l)
unfolding ending_at
unended_told l rest some is =
    ap (told l []) (sym (append-nil rest)) ∙ told_goes_on l [] rest [] is.0 (omega (arith, is.1)) ∙ told_end l rest
    ∙ ap nothing_but (pick_no _ _ (ne_eqb (length rest) 0 (λ e. omega arith)))

-- Of a sheet that is so or so, just that is told.
pub only : (s : List ℕ) (t : Told) → Says s t → t ≡ told_of s
unfolding told_of ending_at pick
only s t (right_lines lines r e) =
    let none : text_of lines ++ [] ≡ s = append-nil (text_of lines) ∙ sym e in
    sym (ap (told 1 []) (sym none) ∙ right_told 1 lines [] r ∙ rw (told_end (1 + length lines) [], append-nil (orders_of lines)))
only s t (too_long lines rest r e h w) = rw e (refused_told lines rest 42 r (long_told (1 + length lines) rest h w))
only s t (unended lines rest r e some is) = rw e (refused_told lines rest 45 r (unended_told (1 + length lines) rest some is))
only s t (wrong_word lines fs line more i r e is cut w word) =
    rw e (refused_told lines (line ++ (newline ∷ more)) 43 r (wrong_told (1 + length lines) line more fs i 43 is cut w (word_fault i word)))
only s t (wrong_number lines fs line more i r e is cut w number) =
    rw e (refused_told lines (line ++ (newline ∷ more)) 44 r (wrong_told (1 + length lines) line more fs i 44 is cut w (number_fault i number)))

-- the start of a line is that of a right one, or stops the sheet
data Starts (s : List ℕ) : Type 0 where
  nothing : s ≡ [] → Starts s
  long : line_most < length s → Without newline (take (line_most + 1) s) → Starts s
  open_end : 0 < length s → IsLine s → Starts s
  right : (line more : List ℕ) → RightLine line → s ≡ line ++ (newline ∷ more) → Starts s
  wrong : (line more : List ℕ) (fs : List (List ℕ)) (i : ℕ) → IsLine line → FieldsOf line fs → FirstWrong fs i → s ≡ line ++ (newline ∷ more) → Starts s

-- a line that a newline ends
line_starts : (line more : List ℕ) → IsLine line → Starts (line ++ (newline ∷ more))
line_starts line more is = go (cuts 5 line) (wrong_field line) refl
  where
    go : ((fs : List (List ℕ)) × FieldsOf line fs) → (n : ℕ) → wrong_field line ≡ n → Starts (line ++ (newline ∷ more))
    go c zero e = right line more (record { is_line = is; fields = c.0; cut = c.1; right = (all_right_says line c.0 c.1).0 e }) refl
    go c (suc i) e = wrong line more c.0 i is c.1 ((first_wrong_says line c.0 c.1 i (wrong_within line c.0 c.1 i e)).0 e) refl

starts : (s : List ℕ) → Starts s
starts s = by_length (ltb line_most (length (up_to newline s))) refl
  where
    n : ℕ
    n = length (up_to newline s)

    by_end : (t : Bool) → eqb (length s) 0 ≡ t → IsLine s → Starts s
    by_end true e is = nothing (none s (eqb-true (length s) 0 e))
      where
        none : (s : List ℕ) → length s ≡ 0 → s ≡ []
        none [] e = refl
        none (b ∷ s) e = absurd (omega arith)
    by_end false e is = open_end (some (eqb-false (length s) 0 e)) is
      where
        some : (length s ≡ 0 → ⊥) → 0 < length s
        some f = omega arith

    by_newline : (t : Bool) → ltb n (length s) ≡ t → n ≤ line_most → Starts s
    by_newline true t few =
        let there = up_splits newline s (ltb-true n (length s) t) in
        rw there (line_starts (up_to newline s) (behind newline s) (up_without newline s, few))
    by_newline false t few =
        let all : up_to newline s ≡ s = up_all newline s (ltb-false n (length s) t) in
        by_end (eqb (length s) 0) refl (rw all at (up_without newline s), omega (arith, ap length all))

    by_length : (t : Bool) → ltb line_most n ≡ t → Starts s
    by_length true t =
        let h = ltb-true line_most n t in
        long (omega (arith, h, up_within newline s)) (rw (front_of newline (line_most + 1) s (omega (arith, h))) at (front_without (up_without newline s)))
      where
        front_without : Without newline (up_to newline s) → Without newline (take (line_most + 1) (up_to newline s))
        front_without w i h e = w i (omega (arith, length-take (line_most + 1) (up_to newline s))) (sym (get_or-take (line_most + 1) (up_to newline s) i 0 (omega (arith, length-take (line_most + 1) (up_to newline s)))) ∙ e)
    by_length false t = by_newline (ltb n (length s)) refl (ltb-false line_most n t)

-- something is said of a sheet
abbrev Said : List ℕ → Type 0
Said s = (t : Told) × Says s t

-- with a right line in front
module _ (line more s : List ℕ) (here : RightLine line) (e : s ≡ line ++ (newline ∷ more)) where
  text_behind : (lines : List (List ℕ)) (rest : List ℕ) → more ≡ text_of lines ++ rest → s ≡ text_of (line ∷ lines) ++ rest
  unfolding text_of
  text_behind lines rest is = e ∙ rw is (sym (append_assoc line (newline ∷ text_of lines) rest))

  said_behind : {t : Told} → Says more t → Said s
  unfolding text_of
  said_behind (right_lines lines r is) = (_, right_lines (line ∷ lines) (here, r) (e ∙ rw is))
  said_behind (too_long lines rest r is h w) = (_, too_long (line ∷ lines) rest (here, r) (text_behind lines rest is) h w)
  said_behind (unended lines rest r is some l) = (_, unended (line ∷ lines) rest (here, r) (text_behind lines rest is) some l)
  said_behind (wrong_word lines fs l m i r is il cut w word) = (_, wrong_word (line ∷ lines) fs l m i (here, r) (text_behind lines _ is) il cut w word)
  said_behind (wrong_number lines fs l m i r is il cut w number) = (_, wrong_number (line ∷ lines) fs l m i (here, r) (text_behind lines _ is) il cut w number)

by_start : (n : ℕ) (s : List ℕ) → length s < suc n → ((more : List ℕ) → length more < n → Said more) → Starts s → Said s
unfolding text_of
by_start n s h on (nothing e) = (_, right_lines [] tt e)
by_start n s h on (long l w) = (_, too_long [] s tt refl l w)
by_start n s h on (open_end some is) = (_, unended [] s tt refl some is)
by_start n s h on (right line more here e) = said_behind line more s here e (on more (omega (arith, ap length e, length-append line (newline ∷ more)))).1
by_start n s h on (wrong line more fs i is cut w e) =
    ⊎_elim (λ word. (_, wrong_word [] fs line more i tt e is cut w word)) (λ number. (_, wrong_number [] fs line more i tt e is cut w number)) (word_or_number i w.0)

said : (n : ℕ) (s : List ℕ) → length s < n → Said s
said zero s h = absurd (omega arith)
said (suc n) s h = by_start n s h (said n) (starts s)

-- Every sheet is one of these.
pub says : (s : List ℕ) → Says s (told_of s)
says s = let x = said (suc (length s)) s (omega arith) in rw (only s x.0 x.1) at x.1
