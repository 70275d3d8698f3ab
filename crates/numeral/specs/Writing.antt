-- The cases of an encoding, as the writer meets them: how many bytes there are, and those that are laid out.
use Rattle.std.specs.Prelude.{◌≡◌, refl, List, [], ◌∷◌, ℕ, zero, suc, ◌+◌, ◌-◌, ◌*◌, ◌/◌, ◌%◌, ◌^◌, ◌≤◌, ◌<◌, length, set}
use Rattle.std.proofs.Common.{sym, ap, ⊎_elim, pow-suc, add-one, arith}
use Rattle.std.proofs.Math.Nat.{one-le-pow}
use Rattle.std.proofs.lemmas.List.Edits.{sets}
use Rattle.std.proofs.Math.Seq.{set_out}
use Rattle.numeral.specs.Encode.{encode_in}
use Rattle.numeral.specs.Cases.{below}
use Rattle.numeral.specs.Laws.{encode_last, encode_more}

-- a number that a groups do not hold, and one more holds, takes one more, where so many are allowed
pub bytes_by : (a k n : ℕ) → a ≤ k → (0 < a → 128 ^ a ≤ n) → n < 128 ^ suc a → length (encode_in (suc k) n) ≡ suc a
bytes_by zero k n e l h = rw (encode_last k n (omega arith))
bytes_by (suc a) zero n e l h = absurd (omega arith)
bytes_by (suc a) (suc k) n e l h =
    let least : 128 ^ a * 128 ≤ n = rw pow-suc at (l (omega arith)) in
    let most : n < 128 ^ suc a * 128 = rw pow-suc at h in
    let some : 1 ≤ 128 ^ a = one-le-pow a 128 (omega arith) in
    rw (encode_more (suc k) n (omega arith)) (ap suc (bytes_by a k (n / 128) (omega arith) (λ p. omega arith) (omega arith)))

-- no number takes more bytes than groups are allowed
pub bytes_most : (k n : ℕ) → length (encode_in k n) ≤ k
unfolding encode_in
bytes_most zero n = omega arith
bytes_most (suc k) n = ⊎_elim
    (λ l. rw (encode_last k n l) (omega arith))
    (λ m. rw (encode_more k n m) (omega (arith, bytes_most k (n / 128))))
    (below n 128)

-- and each takes one
pub bytes_some : (k n : ℕ) → 0 < length (encode_in (suc k) n)
bytes_some k n = ⊎_elim
    (λ l. rw (encode_last k n l) (omega arith))
    (λ m. rw (encode_more k n m) (omega arith))
    (below n 128)

-- what the memory does not reach is not stored
pub sets_past : (vs l : List ℕ) (i : ℕ) → length l ≤ i → sets l i vs ≡ l
sets_past [] l i h = refl
sets_past (v ∷ vs) l i h = rw (set_out l i v h) (sets_past vs l (suc i) (omega arith))

-- laid out from a place on, in as many groups as are allowed
module _ (allowed n : ℕ) (out : List ℕ) (at : ℕ) where
  pub laid_none : allowed ≡ 0 → out ≡ sets out at (encode_in allowed n)
  unfolding encode_in
  laid_none h = rw h

  pub laid_past : length out ≤ at → out ≡ sets out at (encode_in allowed n)
  laid_past h = sym (sets_past (encode_in allowed n) out at h)

  module _ (some : allowed ≡ 0 → ⊥) where
    one_more : allowed ≡ suc (allowed - 1)
    one_more = omega arith

    pub laid_last : n < 128 → set out at n ≡ sets out at (encode_in allowed n)
    laid_last l = rw (one_more, encode_last (allowed - 1) n l)

    pub laid_more :
        {last : List ℕ} → 128 ≤ n → last ≡ sets (set out at (n % 128 + 128)) (at + 1) (encode_in (allowed - 1) (n / 128)) →
        last ≡ sets out at (encode_in allowed n)
    laid_more m e =
        let top : 128 + n % 128 ≡ n % 128 + 128 = omega arith in
        rw (one_more, encode_more (allowed - 1) n m, top) (rw add-one at e)
