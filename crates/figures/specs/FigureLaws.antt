-- Figures read byte by byte, forward: each digit, each space and each newline of a line goes on.
use Rattle.std.specs.Prelude.{◌≡◌, refl, Bool, ℕ, zero, suc, ◌+◌, ◌-◌, ◌*◌, ◌/◌, ◌%◌, ◌^◌, ◌≤◌, ◌<◌, eqb, length, take, set}
use Rattle.std.proofs.Common.{sym, ap, ◌∙◌, true≢false}
use Rattle.std.proofs.Math.Bool.{true, false}
use Rattle.std.proofs.lemmas.Bool.{false≢true}
use mathlib.Core.List.{List, [], ◌∷◌, ◌++◌, append_assoc, append-nil}
use native.Mathlib.Omega.{arith}
use borrow.Author.Tests.{eqb-true, lt-ltb, le-ltb, ne_eqb}
use Rattle.std.proofs.Math.ListN.{length-append}
use Rattle.std.proofs.Math.Seq.{append_snoc, get_or-append_seam}
use Rattle.units.specs.Tests.{◌and◌, ◌or◌, pick, fails, and_true}
use Rattle.units.specs.Units.{most32}
use Rattle.units.specs.Decimal.{digit, decimal}
use Rattle.units.specs.DecimalLaws.{decimal_low, decimal_high, by_digits}
use Rattle.tape.specs.Tape.{stored}
use Rattle.tape.specs.Leads.{encode_all, Fit}
use Rattle.tape.specs.Several.{stored_long}
use Rattle.tape.specs.Depth.{most_bytes}
use Rattle.writer.specs.Write.{write_refusal}
use Rattle.figures.specs.Figures.{space, newline, figures_of, line_of}
use Rattle.figures.specs.declared.Place.{Place}
use Rattle.figures.specs.Reading.{line_start, misplaced, digit_of, can_end, end_of, numbers_after, Reader, Step, writing, line_end, byte_of}
use Rattle.figures.specs.Whole.{◌before◌, inscribed_from}

-- one number behind others in memory
stored_behind : (vs mem : List ℕ) (v : ℕ) → length vs < length mem → set (stored vs mem) (length vs) v ≡ stored (vs ++ (v ∷ [])) mem
unfolding stored
stored_behind [] [] v h = absurd (omega arith)
stored_behind [] (x ∷ mem) v h = refl
stored_behind (w ∷ vs) [] v h = absurd (omega arith)
stored_behind (w ∷ vs) (x ∷ mem) v h = ap (λ (l : List ℕ). w ∷ l) (stored_behind vs mem v (omega arith))

stored_taken : (vs mem : List ℕ) → length vs ≤ length mem → take (length vs) (stored vs mem) ≡ vs
unfolding stored
stored_taken [] mem h = refl
stored_taken (v ∷ vs) [] h = absurd (omega arith)
stored_taken (v ∷ vs) (x ∷ mem) h = ap (λ (l : List ℕ). v ∷ l) (stored_taken vs mem (omega arith))

-- a digit can go on with a number that is not 0, and begin one
digit_placed : (d : ℕ) (p : Place) → d < 10 → (p.begun ≡ true → 0 < p.value) → misplaced (digit d) p ≡ false
unfolding misplaced ◌or◌
digit_placed d p h some =
    rw (le-ltb (digit d) 48 (omega arith), le-ltb 57 (digit d) (omega arith))
    (fails (p.begun and eqb p.value 0)
    (λ zero. let t = and_true p.begun (eqb p.value 0) zero in omega (arith, some t.0, eqb-true p.value 0 t.1)))

-- numbers with a space behind each
unfoldable pub spaced : List ℕ → List ℕ
spaced [] = []
spaced (v ∷ vs) = decimal v ++ (space ∷ spaced vs)

-- what of a line stands before the place where a reader stands in it
unfoldable pub so_far : List ℕ → Bool → ℕ → List ℕ
so_far vs true value = spaced vs ++ decimal value
so_far vs false value = spaced vs

-- the figures of numbers by the last of them
pub figures_end : (vs : List ℕ) (v : ℕ) → figures_of (vs ++ (v ∷ [])) ≡ so_far vs true v
unfolding figures_of spaced so_far
figures_end [] v = refl
figures_end (w ∷ []) v = sym (append_assoc (decimal w) (space ∷ []) (decimal v))
figures_end (w ∷ x ∷ vs) v =
    ap (λ (l : List ℕ). decimal w ++ (space ∷ l)) (figures_end (x ∷ vs) v)
    ∙ sym (append_assoc (decimal w) (space ∷ spaced (x ∷ vs)) (decimal v))

-- numbers by the last of them, where there are some
pub data Last : List ℕ → Type 0 where
  behind : (us : List ℕ) (v : ℕ) → Last (us ++ (v ∷ []))

pub last_of : (vs : List ℕ) → 0 < length vs → Last vs
last_of [] h = absurd (omega arith)
last_of (v ∷ []) h = behind [] v
last_of (v ∷ w ∷ vs) h = more (last_of (w ∷ vs) (omega arith))
  where
    more : {ws : List ℕ} → Last ws → Last (v ∷ ws)
    more (behind us x) = behind (v ∷ us) x

fit_front : (us vs : List ℕ) → Fit (us ++ vs) → Fit us
fit_front [] vs fit i = omega arith
fit_front (u ∷ us) vs fit zero = fit 0
fit_front (u ∷ us) vs fit (suc i) = fit_front us vs (λ i. fit (suc i)) i

-- a step that writes nothing
abbrev pub goes : Reader → Step
goes r = record { reader = r; bytes = []; code = 0 }

-- what is read behind a step of which the line is not refused
pub reads_on :
    (b : ℕ) (r : Reader) {next : Reader} {bytes : List ℕ} → byte_of b most_bytes r ≡ record { reader = next; bytes = bytes; code = 0 } →
    (s : List ℕ) → inscribed_from r (b ∷ s) ≡ bytes before inscribed_from next s
unfolding inscribed_from pick
reads_on b r e s = rw e

module _ (line : ℕ) (mem : List ℕ) where
  -- a reader in a line: the numbers that have ended, and the one that has begun
  abbrev pub state_of : List ℕ → Bool → ℕ → Reader
  state_of vs begun value = record { place = record { line = line; count = length vs; begun = begun; value = value }; numbers = stored vs mem }

  pub digit_goes :
      (room : ℕ) (vs : List ℕ) (begun : Bool) (value d : ℕ) {n : ℕ} → d < 10 → (begun ≡ true → 0 < value) → 10 * value + d ≡ n → n ≤ most32 →
      byte_of (digit d) room (state_of vs begun value) ≡ goes (state_of vs true n)
  unfolding byte_of digit_of pick
  digit_goes room vs begun value d {n} h some is small =
      let e : 10 * value + (digit d - 48) ≡ n = omega arith in
      rw (ne_eqb (digit d) newline (λ e. omega arith), ne_eqb (digit d) space (λ e. omega arith), digit_placed d (state_of vs begun value).place h some, e, le-ltb most32 n small)

  module _ (vs : List ℕ) (v : ℕ) (fits : length vs < length mem) where
    can_end_lem : can_end (state_of vs true v).place (length (stored vs mem)) ≡ true
    unfolding can_end ◌and◌
    can_end_lem = lt-ltb (length vs) (length (stored vs mem)) (omega (arith, stored_long vs mem))

    one_more : length (vs ++ (v ∷ [])) ≡ length vs + 1
    one_more = length-append vs (v ∷ [])

    pub space_goes : (room : ℕ) → byte_of space room (state_of vs true v) ≡ goes (state_of (vs ++ (v ∷ [])) false 0)
    unfolding byte_of end_of numbers_after pick
    space_goes room = rw (can_end_lem, stored_behind vs mem v fits, one_more)

    -- the numbers of the line when its last number ends
    pub all_ended : take (length vs + 1) (set (stored vs mem) (length vs) v) ≡ vs ++ (v ∷ [])
    all_ended = rw (stored_behind vs mem v fits, ← one_more) (stored_taken (vs ++ (v ∷ [])) mem (omega (arith, one_more)))

    pub newline_goes :
        (room : ℕ) → write_refusal (vs ++ (v ∷ [])) room ≡ 0 →
        byte_of newline room (state_of vs true v) ≡
        record { reader = record { place = line_start (line + 1); numbers = stored (vs ++ (v ∷ [])) mem }; bytes = encode_all (vs ++ (v ∷ [])); code = 0 }
    unfolding byte_of line_end writing pick
    newline_goes room e = rw (can_end_lem, all_ended, stored_behind vs mem v fits, e)

  -- the digits of a number
  pub number_read :
      (vs : List ℕ) (n : ℕ) → n ≤ most32 → (t : List ℕ) →
      inscribed_from (state_of vs false 0) (decimal n ++ t) ≡ inscribed_from (state_of vs true n) t
  number_read vs = by_digits (λ n. n ≤ most32 → (t : List ℕ) → inscribed_from (state_of vs false 0) (decimal n ++ t) ≡ inscribed_from (state_of vs true n) t)
      (λ n low small t.
      rw (decimal_low n low)
      (reads_on (digit n) (state_of vs false 0) (digit_goes most_bytes vs false 0 n low (λ e. absurd (false≢true e)) (omega arith) small) t))
      (λ n high tenth small t.
      rw (decimal_high n high, append_assoc (decimal (n / 10)) (digit (n % 10) ∷ []) t)
      (tenth (omega arith) (digit (n % 10) ∷ t)
      ∙ reads_on (digit (n % 10)) (state_of vs true (n / 10))
      (digit_goes most_bytes vs true (n / 10) (n % 10) (omega arith) (λ _. omega arith) (omega arith) small) t))

  -- numbers, a space behind each
  pub numbers_read :
      (us vs : List ℕ) → Fit vs → length us + length vs ≤ length mem → (t : List ℕ) →
      inscribed_from (state_of us false 0) (spaced vs ++ t) ≡ inscribed_from (state_of (us ++ vs) false 0) t
  unfolding spaced
  numbers_read us [] fit fits t = rw (append-nil us)
  numbers_read us (v ∷ vs) fit fits t =
      let long = length-append us (v ∷ []) in
      rw (append_assoc (decimal v) (space ∷ spaced vs) t, ← append_snoc us v vs)
      (number_read us v (omega (arith, fit 0)) (space ∷ (spaced vs ++ t))
      ∙ reads_on space (state_of us true v) (space_goes us v (omega arith) most_bytes) (spaced vs ++ t)
      ∙ numbers_read (us ++ (v ∷ [])) vs (λ i. fit (suc i)) (omega (arith, long)) t)

  -- what of a line is read where a reader stands in it
  pub so_far_read :
      (vs : List ℕ) (begun : Bool) (value : ℕ) → Fit vs → length vs ≤ length mem → value ≤ most32 → (begun ≡ false → value ≡ 0) → (t : List ℕ) →
      inscribed_from (state_of [] false 0) (so_far vs begun value ++ t) ≡ inscribed_from (state_of vs begun value) t
  unfolding so_far
  so_far_read vs true value fit fits small none t =
      rw (append_assoc (spaced vs) (decimal value) t)
      (numbers_read [] vs fit (omega arith) (decimal value ++ t) ∙ number_read vs value small t)
  so_far_read vs false value fit fits small none t = rw (none refl) (numbers_read [] vs fit (omega arith) t)

  -- a line
  pub line_read :
      (vs : List ℕ) (v : ℕ) → Fit (vs ++ (v ∷ [])) → length vs < length mem → write_refusal (vs ++ (v ∷ [])) most_bytes ≡ 0 → (t : List ℕ) →
      inscribed_from (state_of [] false 0) (line_of (vs ++ (v ∷ [])) ++ t) ≡
      encode_all (vs ++ (v ∷ [])) before inscribed_from (record { place = line_start (line + 1); numbers = stored (vs ++ (v ∷ [])) mem }) t
  unfolding line_of
  line_read vs v fit fits e t =
      let small : v < 2 ^ 32 = rw (get_or-append_seam vs v [] 0) at (fit (length vs)) in
      rw (figures_end vs v, append_assoc)
      (so_far_read vs true v (fit_front vs (v ∷ []) fit) (omega arith) (omega arith) (λ e. absurd (true≢false e)) (newline ∷ t)
      ∙ reads_on newline (state_of vs true v) (newline_goes vs v fits most_bytes e) t)
