-- What a byte makes of a reader that stands in a line, backward: its line is refused, or goes on, or is the line of an
-- event.
use Rattle.std.specs.Prelude.{◌≡◌, Bool, List, [], ◌∷◌, ◌++◌, ◌⊎◌, ℕ, zero, suc, ◌+◌, ◌-◌, ◌*◌, ◌/◌, ◌%◌, ◌≤◌, ◌<◌, eqb, length}
use Rattle.std.proofs.Math.Path.{refl}
use Rattle.std.proofs.Common.{sym, ap, ◌∙◌, true≢false, append_assoc, inl, inr, arith}
use Rattle.std.proofs.Math.Bool.{true, false}
use borrow.Author.Tests.{ltb-true, ltb-false, eqb-true}
use Rattle.std.proofs.Math.Dec.{ltb}
use Rattle.std.proofs.Math.ListN.{length-append}
use Rattle.units.specs.Tests.{pick, and_true}
use Rattle.units.specs.Units.{most32}
use Rattle.units.specs.Decimal.{digit, decimal}
use Rattle.units.specs.DecimalLaws.{decimal_low, decimal_high}
use Rattle.tape.specs.Tape.{event, stored}
use Rattle.tape.specs.Leads.{encode_all, Fit}
use Rattle.tape.specs.Several.{stored_long}
use Rattle.tape.specs.Depth.{most_numbers, most_bytes}
use Rattle.tape.specs.One.{one_event}
use Rattle.writer.specs.WriteLaws.{event_says, never_short}
use Rattle.figures.specs.Figures.{space, newline, line_of}
use Rattle.figures.specs.Reading.{not_one, line_start, misplaced, digit_of, can_end, end_of, Reader, writing, line_end, byte_of}
use Rattle.writer.specs.Tapes.{Writable}
use Rattle.figures.specs.ReadingLaws.{placed}
use Rattle.figures.specs.EventLaws.{other_refused}
use Rattle.figures.specs.FigureLaws.{goes, spaced, so_far, figures_end, state_of, all_ended, space_goes, newline_goes}

-- what is known of a reader in a line: the numbers that have ended fit and there is memory for them, and the value of
-- one that has begun fits
pub record InLine (mem vs : List ℕ) (begun : Bool) (value : ℕ) : Type 0 where
  pub long : length mem ≡ most_numbers
  pub few : length vs ≤ length mem
  pub fit : Fit vs
  pub small : value ≤ most32
  pub none : begun ≡ false → value ≡ 0

fit_behind : (vs : List ℕ) (v : ℕ) → Fit vs → v ≤ most32 → Fit (vs ++ (v ∷ []))
fit_behind [] v fit small zero = omega arith
fit_behind [] v fit small (suc i) = omega arith
fit_behind (w ∷ vs) v fit small zero = fit 0
fit_behind (w ∷ vs) v fit small (suc i) = fit_behind vs v (λ i. fit (suc i)) small i

module _ (line : ℕ) (mem vs : List ℕ) (begun : Bool) (value : ℕ) (b : ℕ) where
  abbrev here : Reader
  here = state_of line mem vs begun value

  -- the line up to the byte, and with it
  abbrev with_byte : List ℕ
  with_byte = so_far vs begun value ++ (b ∷ [])

  pub data Outcome : Type 0 where
    bad : (byte_of b most_bytes here).code ≡ not_one → (byte_of b most_bytes here).reader.place.line ≡ line → Outcome
    on : (ws : List ℕ) (next : Bool) (n : ℕ) → InLine mem ws next n → byte_of b most_bytes here ≡ goes (state_of line mem ws next n) →
        with_byte ≡ so_far ws next n → Outcome
    ends : (ws : List ℕ) → Writable ws → byte_of b most_bytes here ≡
        record { reader = record { place = line_start (line + 1); numbers = stored ws mem }; bytes = encode_all ws; code = 0 } →
        with_byte ≡ line_of ws → Outcome

-- a space ends a number
spaced_behind : (vs : List ℕ) (v : ℕ) → spaced (vs ++ (v ∷ [])) ≡ so_far vs true v ++ (space ∷ [])
unfolding spaced so_far
spaced_behind [] v = refl
spaced_behind (w ∷ vs) v = rw (spaced_behind vs v) (simp append_assoc)

module _ (line : ℕ) (mem vs : List ℕ) (value : ℕ) (l : InLine mem vs true value) (fewer : length vs < length mem) where
  ended_fit : Fit (vs ++ (value ∷ []))
  ended_fit = fit_behind vs value l.fit l.small

  at_space : Outcome line mem vs true value space
  unfolding so_far
  at_space =
      on (vs ++ (value ∷ [])) false 0
      (record { long = l.long; few = omega (arith, length-append vs (value ∷ [])); fit = ended_fit; small = omega arith; none = λ _. refl })
      (space_goes line mem vs value fewer most_bytes) (sym (spaced_behind vs value))

  -- and a newline the line of an event
  at_newline : one_event event (vs ++ (value ∷ [])) ≡ true → Outcome line mem vs true value newline
  unfolding line_of
  at_newline one =
      ends (vs ++ (value ∷ [])) (ended_fit, (event_says (vs ++ (value ∷ []))).0 one)
      (newline_goes line mem vs value fewer most_bytes (never_short (vs ++ (value ∷ [])) most_bytes (omega arith) one))
      (rw (figures_end vs value))

-- the digits of a number with one digit more
decimal_behind : (value b : ℕ) → 0 < value → 48 ≤ b → b ≤ 57 → decimal value ++ (b ∷ []) ≡ decimal (10 * value + (b - 48))
decimal_behind value b h low high =
    let n : ℕ = 10 * value + (b - 48) in
    let tenth : n / 10 ≡ value = omega arith in
    let last : digit (n % 10) ≡ b = omega arith in
    sym (decimal_high n (omega arith) ∙ rw (tenth, last))

decimal_first_digit : (b : ℕ) → 48 ≤ b → b ≤ 57 → b ∷ [] ≡ decimal (10 * 0 + (b - 48))
decimal_first_digit b low high =
    let e : 10 * 0 + (b - 48) ≡ b - 48 = omega arith in
    let f : digit (b - 48) ≡ b = omega arith in
    rw (e, decimal_low (b - 48) (omega arith), f)

far_behind : (vs : List ℕ) (begun : Bool) (value b : ℕ) → (begun ≡ false → value ≡ 0) → (begun ≡ true → 0 < value) → 48 ≤ b → b ≤ 57 →
    so_far vs begun value ++ (b ∷ []) ≡ so_far vs true (10 * value + (b - 48))
unfolding so_far
far_behind vs true value b none some low high = append_assoc (spaced vs) (decimal value) (b ∷ []) ∙ ap (λ (l : List ℕ). spaced vs ++ l) (decimal_behind value b (some refl) low high)
far_behind vs false value b none some low high = rw (none refl) (ap (λ (l : List ℕ). spaced vs ++ l) (decimal_first_digit b low high))

module _ (line : ℕ) (mem vs : List ℕ) (begun : Bool) (value : ℕ) (l : InLine mem vs begun value) (b : ℕ) where
  -- a byte that is neither a space nor a newline
  module _ (no_newline : eqb b newline ≡ false) (no_space : eqb b space ≡ false) where
    at_digit : Outcome line mem vs begun value b
    unfolding byte_of digit_of pick
    at_digit = by_place (misplaced b (here line mem vs begun value b).place) refl
      where
        by_value : misplaced b (here line mem vs begun value b).place ≡ false → (t : Bool) → ltb most32 (10 * value + (b - 48)) ≡ t → Outcome line mem vs begun value b
        by_value ok true large = bad (rw (no_newline, no_space, ok, large)) (rw (no_newline, no_space, ok, large))
        by_value ok false small =
            let p = placed b (here line mem vs begun value b).place ok in
            on vs true (10 * value + (b - 48))
            (record { long = l.long; few = l.few; fit = l.fit; small = ltb-false most32 (10 * value + (b - 48)) small; none = λ e. absurd (true≢false e) })
            (rw (no_newline, no_space, ok, small)) (far_behind vs begun value b l.none p.2 p.0 p.1)

        by_place : (t : Bool) → misplaced b (here line mem vs begun value b).place ≡ t → Outcome line mem vs begun value b
        by_place true no_place = bad (rw (no_newline, no_space, no_place)) (rw (no_newline, no_space, no_place))
        by_place false ok = by_value ok (ltb most32 (10 * value + (b - 48))) refl

  -- a number that can end has begun, and there is memory for it
  module _ (can : can_end (here line mem vs begun value b).place (length (stored vs mem)) ≡ true) where
    begins : begun ≡ true
    unfolding can_end
    begins = (and_true begun (ltb (length vs) (length (stored vs mem))) can).0

    fewer : length vs < length mem
    unfolding can_end
    fewer = omega (arith, ltb-true (length vs) (length (stored vs mem)) (and_true begun (ltb (length vs) (length (stored vs mem))) can).1, stored_long vs mem)

    line_ends : b ≡ newline → Outcome line mem vs begun value b
    unfolding byte_of line_end writing pick
    line_ends is = go (one_event event (vs ++ (value ∷ []))) refl
      where
        go : (t : Bool) → one_event event (vs ++ (value ∷ [])) ≡ t → Outcome line mem vs begun value b
        go true one = rw (is, begins) (at_newline line mem vs value (rw begins at l) fewer one)
        go false other =
            let no = other_refused (vs ++ (value ∷ [])) most_bytes other in
            bad (rw (is, can, all_ended line mem vs value fewer, no)) (rw (is, can, all_ended line mem vs value fewer, no))

    number_ends : b ≡ space → Outcome line mem vs begun value b
    number_ends is = rw (is, begins) (at_space line mem vs value (rw begins at l) fewer)

  pub outcome : Outcome line mem vs begun value b
  unfolding byte_of line_end end_of pick
  outcome = by_newline (eqb b newline) refl
    where
      by_end : (b ≡ newline) ⊎ (b ≡ space) → (t : Bool) → can_end (here line mem vs begun value b).place (length (stored vs mem)) ≡ t → Outcome line mem vs begun value b
      by_end (inl is) true can = line_ends can is
      by_end (inl is) false cannot = bad (rw (is, cannot)) (rw (is, cannot))
      by_end (inr is) true can = number_ends can is
      by_end (inr is) false cannot = bad (rw (is, cannot)) (rw (is, cannot))

      by_space : eqb b newline ≡ false → (t : Bool) → eqb b space ≡ t → Outcome line mem vs begun value b
      by_space no_newline true is = by_end (inr (eqb-true b space is)) (can_end (here line mem vs begun value b).place (length (stored vs mem))) refl
      by_space no_newline false no_space = at_digit no_newline no_space

      by_newline : (t : Bool) → eqb b newline ≡ t → Outcome line mem vs begun value b
      by_newline true is = by_end (inl (eqb-true b newline is)) (can_end (here line mem vs begun value b).place (length (stored vs mem))) refl
      by_newline false no_newline = by_space no_newline (eqb b space) refl
