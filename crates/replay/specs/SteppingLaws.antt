-- A step by what was read at its place.
use Rattle.std.specs.Prelude.{◌≡◌, refl, Option, Some, None, Ok, Err, ◌⊎◌, List, [], ◌++◌, ℕ, ◌+◌, ◌≤◌, ◌<◌, length}
use Rattle.std.proofs.Math.Path.{sym}
use Rattle.std.proofs.Common.{ap, ◌∙◌, ⊎_elim, arith}
use Rattle.lines.specs.Laying.{longest, Laid, laid_within}
use Rattle.lines.specs.Lines.{tape_line, end_line}
use Rattle.tape.specs.declared.Event.{Event}
use Rattle.tape.specs.declared.Refused.{Refused as Bad}
use Rattle.tape.specs.Refusal.{refusal_number}
use Rattle.tape.specs.Tape.{Reading, event_at, entries_after}
use Rattle.tape.specs.Depth.{most_bytes}
use Rattle.tape.specs.TapeLaws.{place, moved, buffered, refused_place}
use Rattle.session.specs.Market.{Market}
use Rattle.replay.specs.declared.stepping.Reached as code
use Rattle.replay.specs.Replay.{event_printed, CanReplay, Replayed}
use Rattle.replay.specs.declared.stepping.Ending.{Ending}
use Rattle.replay.specs.declared.stepping.Ending.TheVariants.{Ended, Refused}
use Rattle.replay.specs.Stepping.{status_of, step_by, step_of, StepsTo}

-- the place of a refusal is on the tape or at its end
pub refused_fits :
    (bytes : List ℕ) (from base : ℕ) (r : Bad) (x : Reading) → x ≡ event_at bytes from → x ≡ Err r →
    base + length bytes < 18446744073709551616 → base + r.place < 18446744073709551616
refused_fits bytes from base r x is told h =
    ⊎_elim (λ l. omega arith) (λ e. omega (arith, e.0)) (refused_place bytes from r.why r.place (sym is ∙ told)).1

module _ (m : Market) (bytes : List ℕ) (from base : ℕ) (given : List ℕ) (out : List ℕ) (start : ℕ) (x : Reading) (is : x ≡ event_at bytes from)
    (numbers : List ℕ) (kept : numbers ≡ entries_after bytes from given) where
  pub step_read :
      (e : Event) (end : ℕ) (r : code.Reached) (after : Market) (lent : List ℕ) → x ≡ Ok (Some (e, end)) →
      Replayed (event_printed m e numbers) out start after lent r.at → r.from ≡ end → r.ending ≡ None →
      StepsTo (step_of m bytes from base given) bytes from out start r after numbers lent
  unfolding step_of
  step_read e end r after lent told done next goes =
      let read : event_at bytes from ≡ Ok (Some (e, end)) = sym is ∙ told in
      rw (read, ← kept) record {
        market = done.market;
        given_is = refl;
        laid = done.laid;
        next = next;
        status = ap status_of goes;
        sound = done.sound;
        on_tape = λ h. omega (arith, (place bytes from e end read).1);
      }

  module _ (can : CanReplay m out start) (r : code.Reached) (lent : List ℕ) (stays : r.from ≡ from) where
    pub step_refused :
        (bad : Bad) → x ≡ Err bad → Laid out start (tape_line (refusal_number bad.why) (base + bad.place)) longest lent r.at →
        r.ending ≡ Some Refused →
        StepsTo (step_of m bytes from base given) bytes from out start r m numbers lent
    unfolding step_of
    step_refused bad told laid stops =
        let read : event_at bytes from ≡ Err bad = sym is ∙ told in
        rw (read, ← kept) record {
          market = refl;
          given_is = refl;
          laid = laid_within out start (omega arith) laid;
          next = stays;
          status = ap status_of stops;
          sound = can.sound;
          on_tape = λ h. omega arith;
        }

    pub step_end :
        x ≡ Ok None → Laid out start end_line longest lent r.at → r.ending ≡ Some Ended →
        StepsTo (step_of m bytes from base given) bytes from out start r m numbers lent
    unfolding step_of
    step_end told laid stops =
        let read : event_at bytes from ≡ Ok None = sym is ∙ told in
        rw (read, ← kept) record {
          market = refl;
          given_is = refl;
          laid = laid_within out start (omega arith) laid;
          next = stays;
          status = ap status_of stops;
          sound = can.sound;
          on_tape = λ h. omega arith;
        }

-- The step in a window is the tape's: with the bytes of the longest event at hand, or all that the tape has, it prints
-- and makes the same, and the place of the next event is the window's, counted from the tape's start.
pub buffered_step :
    (m : Market) (front buffer rest : List ℕ) (at : ℕ) (given : List ℕ) → (at + most_bytes ≤ length buffer) ⊎ (rest ≡ []) →
    ((step_of m (front ++ (buffer ++ rest)) (length front + at) 0 given).printed ≡ (step_of m buffer at (length front) given).printed) ×
    ((step_of m (front ++ (buffer ++ rest)) (length front + at) 0 given).given ≡ (step_of m buffer at (length front) given).given) ×
    ((step_of m (front ++ (buffer ++ rest)) (length front + at) 0 given).from ≡ length front + (step_of m buffer at (length front) given).from) ×
    ((step_of m (front ++ (buffer ++ rest)) (length front + at) 0 given).status ≡ (step_of m buffer at (length front) given).status)
unfolding step_of
buffered_step m front buffer rest at given enough =
    let same = buffered front buffer rest at enough in
    rw (same.0, same.1 given) (go (event_at buffer at))
  where
    numbers : List ℕ
    numbers = entries_after buffer at given

    go :
        (x : Reading) →
        ((step_by m (length front + at) 0 numbers (moved (length front) x)).printed ≡ (step_by m at (length front) numbers x).printed) ×
        ((step_by m (length front + at) 0 numbers (moved (length front) x)).given ≡ (step_by m at (length front) numbers x).given) ×
        ((step_by m (length front + at) 0 numbers (moved (length front) x)).from ≡ length front + (step_by m at (length front) numbers x).from) ×
        ((step_by m (length front + at) 0 numbers (moved (length front) x)).status ≡ (step_by m at (length front) numbers x).status)
    go (Ok (Some (e, end))) = (refl, refl, refl, refl)
    go (Err r) = let z : 0 + (length front + r.place) ≡ length front + r.place = omega arith in (rw z refl, refl, refl, refl)
    go (Ok None) = (refl, refl, refl, refl)

-- no two ends of a step have one number
pub status_one : (x y : Option Ending) → status_of x ≡ status_of y → x ≡ y
status_one None None h = refl
status_one None (Some Ended) h = absurd (omega arith)
status_one None (Some Refused) h = absurd (omega arith)
status_one (Some Ended) None h = absurd (omega arith)
status_one (Some Ended) (Some Ended) h = refl
status_one (Some Ended) (Some Refused) h = absurd (omega arith)
status_one (Some Refused) None h = absurd (omega arith)
status_one (Some Refused) (Some Ended) h = absurd (omega arith)
status_one (Some Refused) (Some Refused) h = refl
