-- `sheet::bytes::until` meets its contract: the first mark stands behind the bytes before it, and where there is none
-- these are all.
use Rattle.std.proofs.Common.{◌≡◌, sym, ap, ◌∙◌, refl, Bool, true, false, cond, List, [], ◌∷◌, ℕ, ◌+◌, ◌≤◌, eqb, ltb, length, arith, rules, ltb-false}
use borrow.Author.Tests.{tests}
use Rattle.std.specs.List.{position_or_len}
use Rattle.std.specs.Option.{unwrap_or}
use Rattle.std.specs.Prelude.{Some, None, Option}
use Rattle.std.proofs.lemmas.Iterator.{YieldsList-from_slice}
use Rattle.std.proofs.lemmas.Iterator.Search.{position_from_yields_List}
use Rattle.std.proofs.lemmas.List.Recursion.{is_position_or_len}
use Rattle.units.specs.Tests.{pick}
use Rattle.sheet.specs.Bytes.{up_to}
use Rattle.sheet.specs.BytesLaws.{up_within}
use Rattle.sheet.proofs.bytes.until.Goals as goal

-- the bytes before the first mark are as many as stand before a byte that is one
up_long : (mark : ℕ) (s : List ℕ) → length (up_to mark s) ≡ position_or_len (λ b. eqb b mark) s
unfolding up_to pick
up_long mark s = is_position_or_len (λ (s : List ℕ). length (up_to mark s)) (λ b. eqb b mark) refl (λ b s. step (eqb b mark) b (up_to mark s)) s
  where
    step : (t : Bool) (b : ℕ) (s : List ℕ) → length (pick t [] (b ∷ s)) ≡ cond t 0 (1 + length s)
    step true b s = refl
    step false b s = omega arith

-- a place among m, or m where there is none
found : (n m : ℕ) → n ≤ m → unwrap_or (cond (ltb n m) (Some n) None) m ≡ n
found n m h = go (ltb n m) refl
  where
    go : (t : Bool) → ltb n m ≡ t → unwrap_or (cond t (Some n) None) m ≡ n
    go true e = refl
    go false e = omega (arith, ltb-false n m e)

pub returns : goal.returns
returns c =
    let mark = c.args.mark in
    let s = c.args.s.now in
    let place = position_from_yields_List (λ b. eqb b mark) _ _ c.position.result c.position.ensures.ran (YieldsList-from_slice s c.iter.ensures.rest) (λ x b q k. search (rules, tests)) in
    c.unwrap_or.ensures
    ∙ ap (λ (o : Option ℕ). unwrap_or o (length s)) place
    ∙ found (position_or_len (λ b. eqb b mark) s) (length s) (rw (up_long mark s) at (up_within mark s))
    ∙ sym (up_long mark s)
