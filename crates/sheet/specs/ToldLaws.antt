-- What is told of bytes: those of a line that goes on, of one that has too many, and of one that ends.
use Rattle.std.specs.Prelude.{◌≡◌, Bool, true, false, List, [], ◌∷◌, ◌++◌, ℕ, zero, suc, ◌+◌, ◌≤◌, ◌<◌, ltb, eqb, length}
use Rattle.std.proofs.Math.Path.{refl}
use Rattle.std.proofs.Common.{ap, ◌∙◌, append-nil, arith, length-append}
use borrow.Author.Tests.{ltb-true, ltb-false, lt-ltb, le-ltb, ne_eqb, eqb-true, eqb-false}
use Rattle.std.proofs.Math.Seq.{append_snoc}
use Rattle.units.specs.Tests.{pick, picked}
use Rattle.sheet.specs.Bytes.{up_to, behind}
use Rattle.sheet.specs.Line.{line_of}
use Rattle.sheet.specs.Sheet.{newline, line_most, too_long, refused, nothing_but, by_line, ending_at, told}
use Rattle.sheet.specs.Words.{Without}

module _ (line : ℕ) where
  -- a byte that is no newline
  byte_goes_on : (begun : List ℕ) (b : ℕ) (s : List ℕ) → (b ≡ newline → ⊥) → length begun < line_most → told line begun (b ∷ s) ≡ told line (begun ++ (b ∷ [])) s
  unfolding told pick
  byte_goes_on begun b s other h = rw (ne_eqb b newline other, lt-ltb (length begun) line_most h)

  byte_too_many : (begun : List ℕ) (b : ℕ) (s : List ℕ) → (b ≡ newline → ⊥) → line_most ≤ length begun → told line begun (b ∷ s) ≡ nothing_but (refused too_long line)
  unfolding told pick
  byte_too_many begun b s other h = rw (ne_eqb b newline other, le-ltb (length begun) line_most h)

  -- bytes that are none join those of the line, as far as it reaches
  pub told_goes_on : (begun xs rest : List ℕ) → Without newline xs → length begun + length xs ≤ line_most → told line begun (xs ++ rest) ≡ told line (begun ++ xs) rest
  told_goes_on begun [] rest w h = rw (append-nil begun)
  told_goes_on begun (b ∷ xs) rest w h =
      byte_goes_on begun b (xs ++ rest) (w 0 (omega arith)) (omega arith)
      ∙ told_goes_on (begun ++ (b ∷ [])) xs rest (λ i l. w (suc i) (omega arith)) (omega (arith, length-append begun (b ∷ [])))
      ∙ rw (append_snoc begun b xs)

  pub told_too_long :
      (begun xs rest : List ℕ) → Without newline xs → length begun ≤ line_most → line_most < length begun + length xs →
      told line begun (xs ++ rest) ≡ nothing_but (refused too_long line)
  told_too_long begun [] rest w few h = absurd (omega arith)
  told_too_long begun (b ∷ xs) rest w few h = go (ltb (length begun) line_most) refl (told_too_long (begun ++ (b ∷ [])) xs rest (λ i l. w (suc i) (omega arith)))
    where
      go :
          (t : Bool) → ltb (length begun) line_most ≡ t →
          (length (begun ++ (b ∷ [])) ≤ line_most → line_most < length (begun ++ (b ∷ [])) + length xs → told line (begun ++ (b ∷ [])) (xs ++ rest) ≡ nothing_but (refused too_long line)) →
          told line begun (b ∷ xs ++ rest) ≡ nothing_but (refused too_long line)
      go true t on =
          byte_goes_on begun b (xs ++ rest) (w 0 (omega arith)) (ltb-true (length begun) line_most t)
          ∙ on (omega (arith, length-append begun (b ∷ []), ltb-true (length begun) line_most t)) (omega (arith, length-append begun (b ∷ [])))
      go false t on = byte_too_many begun b (xs ++ rest) (w 0 (omega arith)) (ltb-false (length begun) line_most t)

  -- a newline ends the line
  pub told_line : (begun rest : List ℕ) → told line begun (newline ∷ rest) ≡ by_line (line_of begun) line (told (line + 1) [] rest)
  unfolding told pick
  told_line begun rest = refl

  -- and the end of the sheet it
  pub told_end : (begun : List ℕ) → told line begun [] ≡ nothing_but (ending_at line begun)
  unfolding told
  told_end begun = refl

-- the bytes before a mark have none, and what stands behind them is nothing, or the mark with the bytes behind it
pub up_without : (m : ℕ) (s : List ℕ) → Without m (up_to m s)
unfolding up_to
up_without m [] = λ i h e. absurd (omega arith)
up_without m (b ∷ s) =
    picked (Without m) (eqb b m) [] (b ∷ up_to m s) (λ _ i h e. absurd (omega arith)) (λ other. cons (eqb-false b m other) (up_without m s))
  where
    cons : (b ≡ m → ⊥) → Without m (up_to m s) → Without m (b ∷ up_to m s)
    cons other w zero h e = other e
    cons other w (suc i) h e = w i (omega arith) e

pub up_all : (m : ℕ) (s : List ℕ) → length s ≤ length (up_to m s) → up_to m s ≡ s
unfolding up_to pick
up_all m [] h = refl
up_all m (b ∷ s) h = go (eqb b m) (up_all m s) h
  where
    go : (t : Bool) → (length s ≤ length (up_to m s) → up_to m s ≡ s) → length (b ∷ s) ≤ length (pick t [] (b ∷ up_to m s)) → pick t [] (b ∷ up_to m s) ≡ b ∷ s
    go true rest h = absurd (omega arith)
    go false rest h = ap (λ (l : List ℕ). b ∷ l) (rest (omega arith))

pub up_splits : (m : ℕ) (s : List ℕ) → length (up_to m s) < length s → s ≡ up_to m s ++ (m ∷ behind m s)
unfolding up_to behind pick
up_splits m [] h = absurd (omega arith)
up_splits m (b ∷ s) h = go (eqb b m) refl (up_splits m s) h
  where
    go :
        (t : Bool) → eqb b m ≡ t → (length (up_to m s) < length s → s ≡ up_to m s ++ (m ∷ behind m s)) → length (pick t [] (b ∷ up_to m s)) < length (b ∷ s) →
        b ∷ s ≡ pick t [] (b ∷ up_to m s) ++ (m ∷ pick t s (behind m s))
    go true e rest h = ap (λ (x : ℕ). x ∷ s) (eqb-true b m e)
    go false e rest h = ap (λ (l : List ℕ). b ∷ l) (rest (omega arith))
