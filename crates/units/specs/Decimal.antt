-- A number as it is printed: its decimal digits in ASCII.
use Rattle.std.specs.Prelude.{Bool, true, false, List, [], ◌∷◌, ◌++◌, ℕ, zero, suc, ◌+◌, ◌-◌, ◌*◌, ◌/◌, ◌%◌, ltb}

-- the digit d: `0` is 48, `9` is 57
abbrev pub digit : ℕ → ℕ
digit d = 48 + d

-- the digits of n, the first first; the test says whether n is below 10 and so one digit, and k bounds how many there
-- are
unfoldable pub spelled : ℕ → Bool → ℕ → List ℕ
spelled zero test n = digit n ∷ []
spelled (suc k) true n = digit n ∷ []
spelled (suc k) false n = spelled k (ltb (n / 10) 10) (n / 10) ++ (digit (n % 10) ∷ [])

-- the decimal digits of n, with no 0 in front; `0` for 0
unfoldable pub decimal : ℕ → List ℕ
decimal n = spelled n (ltb n 10) n

-- the digits of a number below 100 as two, and of one below 10,000 as four, zeros in front too
abbrev pub two_digits : ℕ → List ℕ
two_digits n = digit (n / 10) ∷ digit (n % 10) ∷ []

abbrev pub four_digits : ℕ → List ℕ
four_digits n = two_digits (n / 100) ++ two_digits (n % 100)

-- the number that digits spell, after the number v that those before them spell
unfoldable pub read_on : ℕ → List ℕ → ℕ
read_on v [] = v
read_on v (b ∷ bytes) = read_on (10 * v + (b - 48)) bytes

-- the number that digits spell
abbrev pub value_of : List ℕ → ℕ
value_of bytes = read_on 0 bytes
