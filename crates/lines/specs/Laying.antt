-- Bytes laid out in the output that the caller lends.
use Rattle.std.specs.Prelude.{◌≡◌, refl, List, [], ◌∷◌, ◌++◌, ℕ, ◌+◌, ◌-◌, ◌≤◌, ◌<◌, length, set, take}
use Rattle.std.proofs.Common.{ap, sym, ◌∙◌, add-one, arith, length-append, length-set, take-suc, take_all, length-take-le, drop-drop, append_assoc}
use Rattle.std.proofs.lemmas.List.Edits.{sets, sets-eq}
use borrow.Rule.Slice.PartMut.{put_mid}
use Rattle.std.proofs.Math.Seq.{length-sets}
use Rattle.units.specs.Places.{at, sets_append}

-- the bytes that the caller lends
abbrev pub output : ℕ
output = 65536

-- no line of an event or of a tape's end is longer: `turn`, five numbers of ten digits, each after a space, and the
-- newline
abbrev pub longest : ℕ
longest = 60

-- no word is longer than `refused`
abbrev pub longest_word : ℕ
longest_word = 7

-- a space and at most ten digits: a number of 32 bits
abbrev pub longest_number : ℕ
longest_number = 11

-- a space and at most twenty digits: a place in a tape of any length, or a count of a tally
abbrev pub longest_place : ℕ
longest_place = 21

-- no line of a tally is longer: `tally`, a number of ten digits and three of twenty, each after a space, and the
-- newline
abbrev pub longest_tally : ℕ
longest_tally = 80

-- there is room for k bytes from the place `start` on
pub record Room (lent : List ℕ) (start k : ℕ) : Type 0 where
  pub long : length lent ≡ output
  pub fits : start + k ≤ output

-- the bytes stand in the output from the place `start` on, everything else is as it was, and r is the place after them
pub record Laid (was : List ℕ) (start : ℕ) (bytes : List ℕ) (most : ℕ) (lent : List ℕ) (r : ℕ) : Type 0 where
  pub stored : lent ≡ sets was start bytes
  pub end : r ≡ start + length bytes
  -- both follow, and the next line asks for them
  pub long : length lent ≡ output
  pub near : r ≤ start + most

module _ (was : List ℕ) (start : ℕ) where
  pub laid_then : {xs ys one two : List ℕ} {m n r s : ℕ}
      → Laid was start xs m one r → Laid one r ys n two s → Laid was start (xs ++ ys) (m + n) two s
  laid_then {xs} {ys} a b = record {
    stored = b.stored ∙ (rw (a.stored, a.end) (sym (sets_append xs ys was start)));
    end = rw length-append (omega (arith, a.end, b.end));
    long = b.long;
    near = omega (arith, a.near, b.near);
  }

  pub laid_within : {bytes lent : List ℕ} {m n r : ℕ} → m ≤ n → Laid was start bytes m lent r → Laid was start bytes n lent r
  laid_within h a = record { stored = a.stored; end = a.end; long = a.long; near = omega (arith, a.near) }

  pub nothing_laid : {most : ℕ} → length was ≡ output → Laid was start [] most was start
  nothing_laid h = record { stored = refl; end = omega arith; long = h; near = omega arith }

  pub one_laid : (d : ℕ) → length was ≡ output → Laid was start (d ∷ []) 1 (set was start d) (start + 1)
  one_laid d h = record { stored = refl; end = refl; long = length-set was start d ∙ h; near = omega arith }

  pub two_laid : (d e : ℕ) → length was ≡ output → Laid was start (d ∷ e ∷ []) 2 (set (set was start d) (start + 1) e) (start + 2)
  two_laid d e h = record { stored = rw add-one; end = refl; long = simp length-set h; near = omega arith }

  -- room for one byte fewer after the first
  pub room_after : (d k : ℕ) → Room was start (k + 1) → Room (set was start d) (start + 1) k
  room_after d k h = record { long = length-set was start d ∙ h.long; fits = omega (arith, h.fits) }

  -- a part that is written over with w at once
  pub word_laid :
      (w mid : List ℕ) (end : ℕ) → Room was start (length w) → end ≡ start + length w → mid ≡ w →
      Laid was start w (length w) (put_mid start (end - start) was mid) end
  word_laid w mid end h is same =
      let k : end - start ≡ length w = omega arith in
      let stored : put_mid start (end - start) was mid ≡ sets was start w = rw (same, k, sets-eq w was start (omega (arith, h.fits, h.long)), drop-drop, append_assoc) in
      record { stored = stored; end = is; long = ap length stored ∙ (length-sets was start w ∙ h.long); near = omega arith }

  -- a loop that lays out w byte by byte: the first i of them stand
  pub record Laying (w : List ℕ) (i : ℕ) (lent : List ℕ) : Type 0 where
    pub passed : i ≤ length w
    pub fits : start + length w ≤ output
    pub long : length was ≡ output
    pub stored : lent ≡ sets was start (take i w)

  pub laying_starts : (w : List ℕ) → Room was start (length w) → Laying w 0 was
  laying_starts w h = record { passed = omega arith; fits = h.fits; long = h.long; stored = refl }

  pub laying_goes_on : (w : List ℕ) (i : ℕ) (lent : List ℕ) → Laying w i lent → i < length w → Laying w (i + 1) (set lent (start + i) (at w i))
  laying_goes_on w i lent a h = record {
    passed = omega arith;
    fits = a.fits;
    long = a.long;
    stored = rw (a.stored, add-one, take-suc w i 0 h, sets_append (take i w) (at w i ∷ []) was start, length-take-le i w a.passed) refl;
  }

  pub laying_ends : (w : List ℕ) (i : ℕ) (lent : List ℕ) → Laying w i lent → length w ≤ i → Laid was start w (length w) lent (start + i)
  laying_ends w i lent a h = record {
    stored = a.stored ∙ ap (sets was start) (take_all i w h);
    end = omega (arith, a.passed);
    long = rw a.stored (length-sets was start (take i w) ∙ a.long);
    near = omega (arith, a.passed);
  }
