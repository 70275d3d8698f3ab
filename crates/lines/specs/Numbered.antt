-- The laying out of a number: four digits by four, and after a space.
use Rattle.std.specs.Prelude.{◌≡◌, List, ℕ, ◌+◌, ◌/◌, ◌%◌, ◌≤◌, ◌<◌, set}
use Rattle.std.proofs.Common.{◌∙◌, length-append, length-set}
use native.Mathlib.Omega.{arith}
use Rattle.std.proofs.Math.ListN.{length}
use Rattle.units.specs.Units.{most32}
use Rattle.units.specs.Decimal.{digit, decimal, four_digits}
use Rattle.units.specs.DecimalLaws.{decimal_low, decimal_more, decimal_most}
use Rattle.lines.specs.Laying.{output, Room, Laid, laid_then, laid_within, one_laid, two_laid}
use Rattle.lines.specs.Lines.{spaced}

-- the last four digits come after those of a ten thousandth
pub digits_shorter : (n : ℕ) → 10000 ≤ n → length (decimal n) ≡ length (decimal (n / 10000)) + 4
digits_shorter n h = rw (decimal_more n h, length-append)

module _ (was : List ℕ) (start n : ℕ) where
  pub digit_alone : n < 10 → length was ≡ output → Laid was start (decimal n) (length (decimal n)) (set was start (digit n)) (start + 1)
  digit_alone h long = rw (decimal_low n h) (one_laid was start (digit n) long)

  pub digits_after : (one two : List ℕ) (r s : ℕ) → 10000 ≤ n → Laid was start (decimal (n / 10000)) (length (decimal (n / 10000))) one r
      → Laid one r (four_digits (n % 10000)) 4 two s
      → Laid was start (decimal n) (length (decimal n)) two s
  digits_after one two r s h a b = rw (digits_shorter n h, decimal_more n h) (laid_then was start a b)

  -- a number of at most k digits takes at most k + 1 bytes, its space with them
  pub number_fits : (k : ℕ) → length (decimal n) ≤ k → Room was start (k + 1) → Room (set was start 32) (start + 1) (length (decimal n))
  number_fits k few h = record { long = length-set was start 32 ∙ h.long; fits = omega (arith, h.fits) }

  pub number_laid : (k r : ℕ) (one : List ℕ) → length (decimal n) ≤ k → length was ≡ output
      → Laid (set was start 32) (start + 1) (decimal n) (length (decimal n)) one r
      → Laid was start (spaced n) (k + 1) one r
  unfolding spaced
  number_laid k r one few long a =
      let enough : 1 + length (decimal n) ≤ k + 1 = omega arith in
      laid_within was start enough (laid_then was start (one_laid was start 32 long) a)

  -- one digit is laid out with its space
  pub low_laid : n < 10 → length was ≡ output → Laid was start (spaced n) 2 (set (set was start 32) (start + 1) (digit n)) (start + 2)
  unfolding spaced
  low_laid h long = rw (decimal_low n h) (two_laid was start 32 (digit n) long)

-- a number of 32 bits has at most ten digits, and one of 64 bits at most twenty
pub digits_most_32 : (n : ℕ) → n ≤ most32 → length (decimal n) ≤ 10
digits_most_32 n h = decimal_most 9 n (omega arith)

pub digits_most_64 : (n : ℕ) → n < 18446744073709551616 → length (decimal n) ≤ 20
digits_most_64 n h = decimal_most 19 n (omega arith)
