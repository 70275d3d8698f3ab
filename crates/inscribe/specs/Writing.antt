-- The program's loop: each turn inscribes what is at hand, then reads the text, writes out what is written, or stops.
use Rattle.std.specs.Prelude.{◌≡◌, refl, Bool, true, false, eqb, Result, Ok, Err, is_ok, List, [], ◌∷◌, ◌++◌, ℕ, ◌+◌, ◌*◌, ◌-◌, ◌≤◌, ◌<◌, length, take, drop, replicate}
use Rattle.std.proofs.Common.{sym, ap, subst, ◌∙◌, true≢false, append_assoc, arith, length-take, length-drop, drop_of_length-le, length-take-le}
use Rattle.std.proofs.lemmas.List.{length-replicate}
use Rattle.std.proofs.Math.Seq.{length-sets}
use Rattle.units.specs.Places.{sets_behind}
use Rattle.tape.specs.Depth.{most_numbers}
use Rattle.writer.specs.declared.Refusal.{Refusal}
use Rattle.writer.specs.declared.Refusal.TheVariants.{NoRoom, NotOneEvent}
use Rattle.window.specs.declared.Filled.{Filled}
use Rattle.window.specs.Window.{window_long, Refilled}
use Rattle.window.specs.WindowLaws.{read_behind}
use Rattle.window.specs.Program.{going, failed, Stopped, status_of, stops_status}
use Rattle.figures.specs.declared.Place.{Place}
use Rattle.figures.specs.Next.{Read, Write, Stop}
use Rattle.figures.specs.declared.Inscribed.{Inscribed}
use Rattle.figures.specs.Reading.{line_start, reader_of}
use Rattle.figures.specs.Whole.{Inscription, ◌before◌, ending_of}
use Rattle.figures.specs.Inscribing.{code_of, next_of, Inscribing, inscribe_of, CanInscribe, InscribesTo}
use Rattle.figures.specs.Running.{output_long, Standing, at_start, made_from, made, filled, emptied, Run, reads, meets_end, writes, stops}
use Rattle.figures.specs.RunningLaws.{before_twice, leaves_from}

-- a line's number is at most this, whatever the turns that are left read
abbrev pub farthest : ℕ
farthest = 9223372036854775809

-- where the program stands, by its variables
abbrev pub standing : Place → List ℕ → List ℕ → List ℕ → ℕ → ℕ → ℕ → Bool → Standing
standing p numbers window out at from to more =
    record { reader = reader_of p numbers; bytes = take to window; from = from; more = more; written = take at out }

-- a run from the start has come to where the program stands: some parts are read and some bytes written out, and a run
-- from there on, over the parts that the file has left, goes on with it
pub record CameTo (st : Standing) : Type 0 where
  pub read : List (List ℕ)
  pub out : List ℕ
  pub goes_on : (parts : List (List ℕ)) (i : Inscription) → (st.more ≡ false → parts ≡ []) → Run st parts i → Run at_start (read ++ parts) (out before i)

-- a run from the start has stopped: what is written out and what stands in the output are its bytes, the number and the
-- line at hand its ending
pub record CameToStop (p : Place) (written : List ℕ) (code : ℕ) : Type 0 where
  pub read : List (List ℕ)
  pub out : List ℕ
  pub run : Run at_start read (record { bytes = out ++ written; ending = ending_of code p.line })

came_from_start : {p : Place} (window out : List ℕ) → p ≡ line_start 1 → CameTo (standing p (replicate most_numbers 0) window out 0 0 0 true)
came_from_start window out e = rw e record { read = []; out = []; goes_on = λ parts i all r. r }

module _ {st : Standing} (c : CameTo st) where
  came_reading : (part : List ℕ) → (made_from st).next ≡ Read → CameTo (filled part true (made st))
  came_reading part e = record {
    read = c.read ++ (part ∷ []);
    out = c.out;
    goes_on = λ parts i _ r.
        rw (append_assoc c.read (part ∷ []) parts)
        (c.goes_on (part ∷ parts) i (λ no. absurd (true≢false (sym ((leaves_from st).reading e) ∙ no))) (reads e r));
  }

  came_to_end : (made_from st).next ≡ Read → CameTo (filled [] false (made st))
  came_to_end e = record {
    read = c.read;
    out = c.out;
    goes_on = λ parts i all r. rw (all refl) (c.goes_on [] i (λ _. refl) (meets_end e (rw (all refl) at r)));
  }

  came_writing : (made_from st).next ≡ Write → CameTo (emptied (made st))
  came_writing e = record {
    read = c.read;
    out = c.out ++ (made st).written;
    goes_on = λ parts i all r. rw (← before_twice c.out (made st).written i) (c.goes_on parts ((made st).written before i) all (writes e r));
  }

  came_to_stop : {code : ℕ} → (made_from st).next ≡ Stop code → CameToStop (made_from st).reader.place (made st).written code
  came_to_stop e = record { read = c.read ++ []; out = c.out; run = c.goes_on [] _ (λ _. refl) (stops e) }

-- a text is told to have ended well exactly if no number is told of it
pub ends_well : (how : Result (Unit {0}) Refusal) → is_ok how ≡ eqb (code_of how) 0
ends_well (Ok _) = refl
ends_well (Err NoRoom) = refl
ends_well (Err NotOneEvent) = refl

-- how the program stands before each turn of its loop: the bytes written lie in the output, those at hand in the
-- window, lines cannot overflow in the turns that are left, and a run has come there, or has stopped with what is to be
-- told, by the byte that tells whether this is a refusal
pub record Writing (p : Place) (numbers window out : List ℕ) (at from to : ℕ) (more : Bool) (code status turns : ℕ) : Type 0 where
  pub numbers_long : length numbers ≡ most_numbers
  pub window_long_lem : length window ≡ window_long
  pub out_long : length out ≡ output_long
  pub written : at ≤ output_long
  pub begun : from ≤ to
  pub within : to ≤ window_long
  pub bounded : p.line + window_long * turns ≤ farthest
  pub came : status ≡ going → CameTo (standing p numbers window out at from to more)
  pub stopped : Stopped status → CameToStop p (take at out) code
  pub ended_by : Stopped status → status ≡ status_of (eqb code 0)

pub writing_starts :
    {p : Place} {window out : List ℕ} {code turns : ℕ} → p ≡ line_start 1 → length window ≡ window_long → length out ≡ output_long → 1 + window_long * turns ≤ farthest →
    Writing p (replicate most_numbers 0) window out 0 0 0 true code going turns
writing_starts {p} {window} {out} e long out_long few = record {
  numbers_long = length-replicate {A = ℕ} most_numbers 0;
  window_long_lem = long;
  out_long = out_long;
  written = omega arith;
  begun = omega arith;
  within = omega arith;
  bounded = omega (arith, ap (λ (p : Place). p.line) e);
  came = λ _. came_from_start window out e;
  stopped = λ stop. absurd (omega arith);
  ended_by = λ stop. absurd (omega arith);
}

module _ {p : Place} {numbers window out : List ℕ} {at from to : ℕ} {more : Bool} {code status turns : ℕ} (w : Writing p numbers window out at from to more code status turns) where
  -- the bytes at hand
  pub at_hand : length (take to window) ≡ to
  at_hand = length-take-le to window (omega (arith, w.within, w.window_long_lem))

  pub can_inscribe : CanInscribe (take to window) from p out at
  can_inscribe = record {
    begun = omega (arith, at_hand, w.begun);
    line_fits = omega (arith, at_hand, w.bounded, w.within);
    room = omega (arith, w.written, w.out_long);
  }

  module _ {d : Inscribed} {next_numbers lent : List ℕ} (is : InscribesTo (inscribe_of (take to window) more from (length out - at) (reader_of p numbers)) out at d next_numbers lent)
      (same : length next_numbers ≡ most_numbers) where
    -- where the program stands
    abbrev st : Standing
    st = standing p numbers window out at from to more

    is_made_from : made_from st ≡ inscribe_of (take to window) more from (length out - at) (reader_of p numbers)
    is_made_from =
        let room : output_long - length (take at out) ≡ length out - at = omega (arith, w.out_long, w.written, length-take at out) in
        rw room

    next_is : next_of d.next ≡ (made_from st).next
    next_is = rw is_made_from is.next

    -- what was made lies in its memory
    abbrev q : Inscribing
    q = made_from st

    end : d.at ≡ at + length q.bytes
    end = rw is_made_from is.end

    written_fits : d.at ≤ output_long
    written_fits = omega (arith, end, (leaves_from st).fits, w.written, w.out_long, length-take at out)

    on_hand : d.from ≤ to
    on_hand =
        let from_is : d.from ≡ q.from = rw is_made_from is.from in
        omega (arith, from_is, (leaves_from st).within, length-drop from (take to window), at_hand, w.begun)

    few_lines : d.place.line ≤ p.line + to
    few_lines =
        let place_is : d.place ≡ q.reader.place = rw is_made_from is.place in
        omega (arith, ap (λ (p : Place). p.line) place_is, (leaves_from st).few_lines, length-drop from (take to window), at_hand)

    pub lent_long : length lent ≡ output_long
    lent_long = rw (is.laid, length-sets) w.out_long

    -- after that its variables are where the program then stands
    is_made : made st ≡ standing d.place next_numbers window lent d.at d.from to more
    is_made =
        let fits : at + length q.bytes ≤ length out = omega (arith, end, written_fits, w.out_long) in
        let laid : take d.at lent ≡ take at out ++ q.bytes = rw (end, is.laid, ← is_made_from) (sets_behind q.bytes out at fits) in
        rw (laid, is.place, is.numbers_are, is.from, ← is_made_from)

    pub fits_window : (d.from ≤ to) × ((to ≤ length window) × (0 + d.from < 18446744073709551616))
    fits_window = (on_hand, (omega (arith, w.within, w.window_long_lem), omega (arith, w.within, on_hand)))

    pub fits_output : d.at ≤ length lent
    fits_output = omega (arith, written_fits, lent_long)

    -- a turn that reads the text
    module _ (goes : status ≡ going) (e : next_of d.next ≡ Read) {next : List ℕ} {f : Filled} (g : Refilled window d.from to 0 next f) where
      abbrev part : List ℕ
      part = drop (to - d.from) (take f.to next)

      came_on : (more : Bool) → f.more ≡ more → CameTo (standing d.place next_numbers next lent d.at 0 f.to f.more)
      came_on true on =
          rw (read_behind on_hand (omega (arith, w.within, w.window_long_lem)) g, on)
          (subst (λ (s : Standing). CameTo (filled part true s)) is_made (came_reading (w.came goes) part (sym next_is ∙ e)))
      came_on false none =
          let empty : part ≡ [] = drop_of_length-le (take f.to next) {i = to - d.from} (omega (arith, length-take f.to next, g.nothing none)) in
          rw (read_behind on_hand (omega (arith, w.within, w.window_long_lem)) g, empty, none)
          (subst (λ (s : Standing). CameTo (filled [] false s)) is_made (came_to_end (w.came goes) (sym next_is ∙ e)))

      pub turn_reads : 0 < turns → {told : ℕ} → (Stopped told → ⊥) → Writing d.place next_numbers next lent d.at 0 f.to f.more code told (turns - 1)
      turn_reads h on = record {
        numbers_long = same;
        window_long_lem = g.long ∙ w.window_long_lem;
        out_long = lent_long;
        written = written_fits;
        begun = omega arith;
        within = omega (arith, g.most, g.long, w.window_long_lem);
        bounded = omega (arith, w.bounded, few_lines, w.within);
        came = λ _. came_on f.more refl;
        stopped = λ stop. absurd (on stop);
        ended_by = λ stop. absurd (on stop);
      }

      -- or cannot read it
      pub turn_fails : 0 < turns → Writing d.place next_numbers next lent d.at d.from to more code failed (turns - 1)
      turn_fails h = record {
        numbers_long = same;
        window_long_lem = g.long ∙ w.window_long_lem;
        out_long = lent_long;
        written = written_fits;
        begun = on_hand;
        within = w.within;
        bounded = omega (arith, w.bounded, few_lines, w.within);
        came = λ on. absurd (omega arith);
        stopped = λ stop. absurd (omega arith);
        ended_by = λ stop. absurd (omega arith);
      }

    -- a turn that does not: the output is written out, or the text has stopped
    stays : {now how told : ℕ} → now ≤ output_long → (told ≡ going → CameTo (standing d.place next_numbers window lent now d.from to more)) →
        (Stopped told → CameToStop d.place (take now lent) how) → (Stopped told → told ≡ status_of (eqb how 0)) → 0 < turns →
        Writing d.place next_numbers window lent now d.from to more how told (turns - 1)
    stays fits came stopped ended_by h = record {
      numbers_long = same;
      window_long_lem = w.window_long_lem;
      out_long = lent_long;
      written = fits;
      begun = on_hand;
      within = w.within;
      bounded = omega (arith, w.bounded, few_lines, w.within);
      came = came;
      stopped = stopped;
      ended_by = ended_by;
    }

    module _ (h : 0 < turns) (goes : status ≡ going) where
      pub turn_writes : next_of d.next ≡ Write → {told : ℕ} → (Stopped told → ⊥) → Writing d.place next_numbers window lent 0 d.from to more code told (turns - 1)
      turn_writes e on =
          stays (omega arith) (λ _. subst (λ (s : Standing). CameTo (emptied s)) is_made (came_writing (w.came goes) (sym next_is ∙ e)))
          (λ stop. absurd (on stop)) (λ stop. absurd (on stop)) h

      pub turn_stops : {how told : ℕ} → next_of d.next ≡ Stop how → told ≡ status_of (eqb how 0) → Writing d.place next_numbers window lent d.at d.from to more how told (turns - 1)
      turn_stops {how} e is =
          stays written_fits (λ on. absurd (omega (arith, stops_status (eqb how 0))))
          (λ _. subst (λ (s : Standing). CameToStop s.reader.place s.written how) is_made (came_to_stop (w.came goes) (sym next_is ∙ e))) (λ _. is) h
