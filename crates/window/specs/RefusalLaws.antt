-- Bytes laid out behind bytes, and the digits of a number so.
use Rattle.std.specs.Prelude.{◌≡◌, refl, List, [], ◌∷◌, ◌++◌, ℕ, ◌+◌, ◌/◌, ◌%◌, ◌^◌, ◌≤◌, ◌<◌, length, get_or, take, set}
use Rattle.std.proofs.Common.{sym, ap, ◌∙◌, add-one, arith, length-append, take-suc, take_all}
use Rattle.std.proofs.Math.Seq.{length-sets}
use Rattle.units.specs.Places.{sets_append}
use Rattle.units.specs.Decimal.{digit, decimal}
use Rattle.units.specs.DecimalLaws.{decimal_low, decimal_high, decimal_most}
use Rattle.window.specs.Refusal.{space, newline, refusal_line, longest_behind, Lays}

pub lays_long : {was bytes out : List ℕ} {at end : ℕ} → Lays was at bytes end out → length out ≡ length was
lays_long {was} {bytes} {out} {at} l = ap length l.laid ∙ length-sets was at bytes

-- one byte, and bytes behind bytes
pub lays_one : (out : List ℕ) (at b : ℕ) → Lays out at (b ∷ []) (at + 1) (set out at b)
lays_one out at b = record { laid = refl; after = refl }

pub lays_then :
    {was mid out xs ys : List ℕ} {at next end : ℕ} → Lays was at xs next mid → Lays mid next ys end out → Lays was at (xs ++ ys) end out
lays_then {was} {xs = xs} {ys = ys} {at = at} l k = record {
  laid = k.laid ∙ rw (l.laid, l.after) (sym (sets_append xs ys was at));
  after = omega (arith, l.after, k.after, length-append xs ys);
}

-- a number below 10 is one digit, and another has one digit more than a tenth of it
pub low_long : (n : ℕ) → n < 10 → length (decimal n) ≡ 1
low_long n h = rw (decimal_low n h)

pub high_long : (n : ℕ) → 10 ≤ n → length (decimal n) ≡ length (decimal (n / 10)) + 1
high_long n h = rw (decimal_high n h) (length-append (decimal (n / 10)) (digit (n % 10) ∷ []))

pub lays_low : (out : List ℕ) (at n : ℕ) → n < 10 → Lays out at (decimal n) (at + 1) (set out at (digit n))
lays_low out at n h = rw (decimal_low n h) (lays_one out at (digit n))

pub lays_high :
    {was out : List ℕ} {at last : ℕ} (n : ℕ) → 10 ≤ n → Lays was at (decimal (n / 10)) last out → Lays was at (decimal n) (last + 1) (set out last (digit (n % 10)))
lays_high {out = out} {last = last} n h l = rw (decimal_high n h) (lays_then l (lays_one out last (digit (n % 10))))

-- a loop that lays bytes out from the front: the first i stand
module _ (bytes was : List ℕ) where
  abbrev pub Copied : ℕ → List ℕ → Type 0
  Copied i out = (i ≤ length bytes) × Lays was 0 (take i bytes) i out

  pub copy_starts : Copied 0 was
  copy_starts = (omega arith, record { laid = refl; after = refl })

  pub copy_goes_on : (i : ℕ) (out : List ℕ) → Copied i out → i < length bytes → Copied (i + 1) (set out i (get_or bytes i 0))
  copy_goes_on i out c h = (omega arith, rw (add-one, take-suc bytes i 0 h) (rw add-one at (lays_then c.1 (lays_one out i (get_or bytes i 0)))))

  pub copy_ends : (i : ℕ) (out : List ℕ) → Copied i out → length bytes ≤ i → Lays was 0 bytes i out
  copy_ends i out c h = rw (take_all i bytes h) at c.1

-- the numbers that the line tells fit it
code_long : (n : ℕ) → n < 2 ^ 32 → length (decimal n) ≤ 10
code_long n h = decimal_most 9 n (omega arith)

line_long : (n : ℕ) → n < 2 ^ 64 → length (decimal n) ≤ 20
line_long n h = decimal_most 19 n (omega arith)

pub refusal_within : (word : List ℕ) (code line : ℕ) → code < 2 ^ 32 → line < 2 ^ 64 → length (refusal_line word code line) ≤ length word + longest_behind
unfolding refusal_line
refusal_within word code line c l = simp length-append (omega (arith, code_long code c, line_long line l))

-- the line, part by part: each has room behind those before it
module _ (code line : ℕ) (Code-fits : code < 2 ^ 32) (line_fits : line < 2 ^ 64) {was what first : List ℕ} {word : ℕ} (room : length what + longest_behind ≤ length was)
    (w : Lays was 0 what word first) where
  pub code_room : word + length (decimal code) ≤ length first
  code_room = omega (arith, lays_long w, w.after, code_long code Code-fits)

  module _ {next : ℕ} {second : List ℕ} (c : Lays first word (decimal code) next second) where
    pub space_room : next < length second
    space_room = omega (arith, lays_long w, lays_long c, w.after, c.after, code_long code Code-fits)

    module _ {behind : ℕ} {third : List ℕ} (s : Lays second next (space ∷ []) behind third) where
      pub line_room : behind + length (decimal line) ≤ length third
      line_room = omega (arith, lays_long w, lays_long c, lays_long s, w.after, c.after, s.after, code_long code Code-fits, line_long line line_fits)

      module _ {end : ℕ} {fourth : List ℕ} (l : Lays third behind (decimal line) end fourth) where
        pub newline_room : end < length fourth
        newline_room =
            omega (arith, lays_long w, lays_long c, lays_long s, lays_long l, w.after, c.after, s.after, l.after, code_long code Code-fits, line_long line line_fits)

        pub lays_refusal : {r : ℕ} {out : List ℕ} → Lays fourth end (newline ∷ []) r out → Lays was 0 (refusal_line what code line) r out
        unfolding refusal_line
        lays_refusal n = lays_then (lays_then (lays_then (lays_then w c) s) l) n
