-- The output of a tape step by step.
use Rattle.std.specs.Prelude.{◌≡◌, refl, Some, None, Ok, Err, cond, ◌⊎◌, List, [], ◌++◌, ℕ, ◌+◌, ◌*◌, ◌≤◌, eqb, length}
use Rattle.std.proofs.Common.{sym, ap, ◌∙◌, append_assoc, append-nil, arith, take_all}
use Rattle.entry.specs.Numbers.{entry_numbers, bulk_numbers}
use Rattle.lines.specs.Lines.{tape_line}
use Rattle.tape.specs.declared.Event.{Event}
use Rattle.tape.specs.declared.Event.TheVariants.{Settings, Away, Submit, Turn, Open}
use Rattle.tape.specs.Refusal.{refusal_number}
use Rattle.tape.specs.Tape.{Reading, event_at, entries_at, entries_after}
use Rattle.tape.specs.Depth.{most_bytes}
use Rattle.tape.specs.Spelling.{submitted}
use Rattle.tape.specs.Whole.{Sent, Whole, ◌before◌, read_by, read_from}
use Rattle.tape.specs.WholeLaws.{read_next}
use Rattle.session.specs.Market.{Market}
use Rattle.replay.specs.Replay.{submit_printed, event_printed}
use Rattle.replay.specs.Stepping.{going, Step, step_by, step_of}
use Rattle.replay.specs.SteppingLaws.{buffered_step}
use Rattle.replay.specs.Output.{lines_of, last_line, printed_on}

-- what lent memory held before is none of an event's numbers
lent_before :
    (m : Market) (s : List ℕ) (at : ℕ) (e : Event) (end : ℕ) (given : List ℕ) → event_at s at ≡ Ok (Some (e, end)) → bulk_numbers ≤ length given →
    event_printed m e (entries_after s at given) ≡ event_printed m e (entries_at s at)
unfolding event_printed submit_printed
lent_before m s at (Settings x) end given q h = refl
lent_before m s at (Away x) end given q h = refl
lent_before m s at (Submit tenant count) end given q h =
    let i = submitted s at tenant count end given q h in
    rw (i.3, take_all (entry_numbers * count) (entries_at s at) (omega (arith, i.2)))
lent_before m s at Turn end given q h = refl
lent_before m s at Open end given q h = refl

-- an event's lines come before what is printed on the market that it left
prints_before :
    (m : Market) (x : Sent) (w : Whole) →
    printed_on m (x before w) ≡ (event_printed m x.event x.numbers).bytes ++ printed_on (event_printed m x.event x.numbers).market w
unfolding printed_on lines_of
prints_before m x w =
    append_assoc (event_printed m x.event x.numbers).bytes (lines_of (event_printed m x.event x.numbers).market w.events) (last_line w.ending)

-- what a tape prints behind a step
abbrev pub after_step : List ℕ → Step → List ℕ
after_step s p = cond (eqb p.status going) (printed_on p.printed.market (read_from s p.from)) []

-- a tape prints what a step along it prints, and then what it prints from the next event on
pub output_step :
    (m : Market) (s : List ℕ) (at : ℕ) (given : List ℕ) → bulk_numbers ≤ length given →
    printed_on m (read_from s at) ≡ (step_of m s at 0 given).printed.bytes ++ after_step s (step_of m s at 0 given)
unfolding step_of printed_on lines_of
output_step m s at given h = ap (printed_on m) (read_next s at) ∙ go (event_at s at) refl
  where
    go :
        (x : Reading) → event_at s at ≡ x →
        printed_on m (read_by (entries_at s at) (read_from s) x)
        ≡ (step_by m at 0 (entries_after s at given) x).printed.bytes ++ after_step s (step_by m at 0 (entries_after s at given) x)
    go (Ok (Some (e, end))) q = rw (lent_before m s at e end given q h) (prints_before m (record { event = e; numbers = entries_at s at }) (read_from s end))
    go (Err r) q = let z : 0 + r.place ≡ r.place = omega arith in rw z (sym (append-nil (tape_line (refusal_number r.why) r.place)))
    go (Ok None) q = refl

-- through a window too: with the bytes of the longest event at hand, or all that the tape has
pub window_step :
    (m : Market) (front buffer rest : List ℕ) (at : ℕ) (given : List ℕ) → (at + most_bytes ≤ length buffer) ⊎ (rest ≡ []) → bulk_numbers ≤ length given →
    printed_on m (read_from (front ++ (buffer ++ rest)) (length front + at))
    ≡ (step_of m buffer at (length front) given).printed.bytes
    ++ cond (eqb (step_of m buffer at (length front) given).status going)
    (printed_on (step_of m buffer at (length front) given).printed.market
    (read_from (front ++ (buffer ++ rest)) (length front + (step_of m buffer at (length front) given).from))) []
window_step m front buffer rest at given enough h =
    let w = buffered_step m front buffer rest at given enough in
    rw (w.0, w.2, w.3) at (output_step m (front ++ (buffer ++ rest)) (length front + at) given h)
