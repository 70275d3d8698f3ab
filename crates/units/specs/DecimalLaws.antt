-- The digits of a number: one division gives one of them, or two, or four; read back they give the number; each is a
-- digit, and the first is 0 for 0 alone.
use Rattle.std.specs.Prelude.{◌≡◌, refl, List, [], ◌∷◌, ◌++◌, ℕ, zero, suc, ◌+◌, ◌-◌, ◌*◌, ◌/◌, ◌%◌, ◌^◌, ◌≤◌, ◌<◌, ltb, length}
use Rattle.std.proofs.Common.{sym, ap, append_assoc, arith, length-append, lt-ltb, le-ltb}
use Rattle.std.proofs.Math.Nat.{pow-succ'}
use Rattle.std.proofs.Math.Decide.{dec_lt}
use Rattle.std.proofs.Math.ListN.{get_or-append}
use Rattle.std.proofs.Math.Seq.{get_or-append_seam}
use Rattle.units.specs.Places.{at}
use Rattle.units.specs.Decimal.{digit, spelled, decimal, two_digits, four_digits, read_on, value_of}

low_digit : (k n : ℕ) → n < 10 → spelled k (ltb n 10) n ≡ digit n ∷ []
unfolding spelled
low_digit zero n h = refl
low_digit (suc k) n h = rw (lt-ltb n 10 h)

-- any two bounds that are no smaller than n spell the same
spelled_enough : (k j n : ℕ) → n ≤ k → n ≤ j → spelled k (ltb n 10) n ≡ spelled j (ltb n 10) n
unfolding spelled
spelled_enough zero j n h g = sym (low_digit j n (omega arith))
spelled_enough (suc k) zero n h g = low_digit (suc k) n (omega arith)
spelled_enough (suc k) (suc j) n h g = elim (dec_lt n 10) [
  | yes l ↦ rw (lt-ltb n 10 l)
  | no l ↦ rw (le-ltb n 10 (omega arith)) (ap (λ z. z ++ (digit (n % 10) ∷ [])) (spelled_enough k j (n / 10) (omega arith) (omega arith)))
]

-- a number below 10 is one digit;
pub decimal_low : (n : ℕ) → n < 10 → decimal n ≡ digit n ∷ []
unfolding decimal
decimal_low n h = low_digit n n h

-- any other is the digits of a tenth of it, and the digit that is left
pub decimal_high : (n : ℕ) → 10 ≤ n → decimal n ≡ decimal (n / 10) ++ (digit (n % 10) ∷ [])
unfolding decimal spelled
decimal_high zero h = absurd (omega arith)
decimal_high (suc n) h =
    rw (le-ltb (suc n) 10 h) (ap (λ z. z ++ (digit (suc n % 10) ∷ [])) (spelled_enough n (suc n / 10) (suc n / 10) (omega arith) (omega arith)))

-- so the last two are those of what a hundred leaves,
pub decimal_hundreds : (n : ℕ) → 100 ≤ n → decimal n ≡ decimal (n / 100) ++ two_digits (n % 100)
decimal_hundreds n h =
    let up : n / 10 / 10 ≡ n / 100 = omega arith in
    let ten : n / 10 % 10 ≡ n % 100 / 10 = omega arith in
    let one : n % 10 ≡ n % 100 % 10 = omega arith in
    rw (decimal_high n (omega arith), decimal_high (n / 10) (omega arith), append_assoc, up, ten, one)

-- and the last four those of what ten thousand leaves
pub decimal_more : (n : ℕ) → 10000 ≤ n → decimal n ≡ decimal (n / 10000) ++ four_digits (n % 10000)
decimal_more n h =
    let up : n / 100 / 100 ≡ n / 10000 = omega arith in
    let high : n / 100 % 100 ≡ n % 10000 / 100 = omega arith in
    let low : n % 100 ≡ n % 10000 % 100 = omega arith in
    rw (decimal_hundreds n (omega arith), decimal_hundreds (n / 100) (omega arith), append_assoc, up, high, low)

-- a number of two digits, of three and of four
pub decimal_two : (n : ℕ) → 10 ≤ n → n < 100 → decimal n ≡ two_digits n
decimal_two n h l = rw (decimal_high n h, decimal_low (n / 10) (omega arith))

pub decimal_three : (n : ℕ) → 100 ≤ n → n < 1000 → decimal n ≡ digit (n / 100) ∷ two_digits (n % 100)
decimal_three n h l = rw (decimal_hundreds n h, decimal_low (n / 100) (omega arith))

pub decimal_four : (n : ℕ) → 1000 ≤ n → n < 10000 → decimal n ≡ four_digits n
decimal_four n h l = rw (decimal_hundreds n (omega arith), decimal_two (n / 100) (omega arith) (omega arith))

-- what holds of one digit, and of a number wherever it holds of a tenth of it, holds of all
module _ (P : ℕ → Type 0) (low : (n : ℕ) → n < 10 → P n) (high : (n : ℕ) → 10 ≤ n → P (n / 10) → P n) where
  go : (k n : ℕ) → n ≤ k → P n
  go zero n h = low n (omega arith)
  go (suc k) n h = elim (dec_lt n 10) [
    | yes l ↦ low n l
    | no l ↦ high n (omega arith) (go k (n / 10) (omega arith))
  ]

  pub by_digits : (n : ℕ) → P n
  by_digits n = go n n (omega arith)

read_last : (v : ℕ) (bytes : List ℕ) (d : ℕ) → read_on v (bytes ++ (d ∷ [])) ≡ 10 * read_on v bytes + (d - 48)
unfolding read_on
read_last v [] d = refl
read_last v (b ∷ bytes) d = read_last (10 * v + (b - 48)) bytes d

-- the digits read back give the number
pub decimal_value : (n : ℕ) → value_of (decimal n) ≡ n
unfolding read_on
decimal_value = by_digits (λ n. value_of (decimal n) ≡ n)
    (λ n h. rw (decimal_low n h) (omega arith))
    (λ n h e. rw (decimal_high n h) (omega (arith, read_last 0 (decimal (n / 10)) (digit (n % 10)))))

-- there is a digit
pub decimal_some : (n : ℕ) → 0 < length (decimal n)
decimal_some n = elim (dec_lt n 10) [
  | yes l ↦ rw (decimal_low n l) (omega arith)
  | no l ↦ rw (decimal_high n (omega arith)) (simp length-append (omega arith))
]

-- a number below ten times a power of 10 has one digit more than one below the power
pub decimal_most : (k n : ℕ) → n < 10 ^ suc k → length (decimal n) ≤ suc k
decimal_most zero n h = rw (decimal_low n h) (omega arith)
decimal_most (suc k) n h = elim (dec_lt n 10) [
  | yes l ↦ rw (decimal_low n l) (omega arith)
  | no l ↦ rw (decimal_high n (omega arith)) (simp length-append (omega (arith, decimal_most k (n / 10) (omega (arith, pow-succ' 10 (suc k))))))
]

-- each is a digit
pub decimal_digits : (n i : ℕ) → i < length (decimal n) → (48 ≤ at (decimal n) i) × (at (decimal n) i ≤ 57)
decimal_digits = by_digits (λ n. (i : ℕ) → i < length (decimal n) → (48 ≤ at (decimal n) i) × (at (decimal n) i ≤ 57))
    (λ n h i p.
    let e : i ≡ 0 = omega (arith, ap length (decimal_low n h)) in
    rw (e, decimal_low n h) (omega arith))
    (λ n h each i p.
    let long : length (decimal n) ≡ length (decimal (n / 10)) + 1 = rw (decimal_high n h) (simp length-append) in
    elim (dec_lt i (length (decimal (n / 10)))) [
      | yes l ↦ rw (decimal_high n h, get_or-append (decimal (n / 10)) (digit (n % 10) ∷ []) 0 i l) (each i l)
      | no l ↦
          let e : i ≡ length (decimal (n / 10)) = omega arith in
          rw (e, decimal_high n h, get_or-append_seam (decimal (n / 10)) (digit (n % 10)) [] 0) (omega arith)
    ])

-- and the first is not 0 unless the number is
pub decimal_first : (n : ℕ) → 0 < n → 48 < at (decimal n) 0
decimal_first = by_digits (λ n. 0 < n → 48 < at (decimal n) 0)
    (λ n h p. rw (decimal_low n h) (omega arith))
    (λ n h first p. rw (decimal_high n h, get_or-append (decimal (n / 10)) (digit (n % 10) ∷ []) 0 0 (decimal_some (n / 10))) (first (omega arith)))
