-- A run writes the tape of the whole text, whatever the parts that the file gives, and there is one for all parts.
use Rattle.std.specs.Prelude.{◌≡◌, Bool, ◌⊎◌, ℕ, zero, suc, ◌+◌, ◌-◌, ◌*◌, ◌≤◌, ◌<◌, ltb, eqb, take, set, drop}
use Rattle.std.proofs.Math.Path.{refl}
use Rattle.std.proofs.Common.{sym, ap, ◌∙◌, true≢false, inl, inr, ⊎_elim, arith, length-append, length-drop, drop-drop}
use Rattle.std.proofs.Math.Bool.{true, false}
use mathlib.Core.List.{List, [], ◌∷◌, ◌++◌, append_assoc, append-nil, flatten}
use borrow.Author.Tests.{ltb-true, ltb-false, lt-ltb}
use Rattle.std.proofs.Math.ListN.{length}
use Rattle.units.specs.Tests.{pick, picked}
use Rattle.tape.specs.Depth.{most_bytes}
use Rattle.figures.specs.Next.{Next}
use Rattle.figures.specs.Next.{Read, Write, Stop}
use Rattle.figures.specs.declared.Place.{Place}
use Rattle.figures.specs.Reading.{Reader, writing, line_end, byte_of}
use Rattle.figures.specs.Whole.{Ending, Inscription, nothing_but, ◌before◌, ending_of, inscribed_from, inscribed}
use Rattle.figures.specs.Inscribing.{Inscribing, first, used_up, wrote, inscribe_on, inscribe_of}
use Rattle.figures.specs.Running.{output_long, Standing, at_start, made_from, made, filled, emptied, Run, reads, meets_end, writes, stops}
use Rattle.figures.specs.ReadingLaws.{step_small}
use Rattle.figures.specs.EventLaws.{same_refusal}

-- where there is room for the longest event, more room makes no difference
same_step : (b room : ℕ) (r : Reader) → most_bytes ≤ room → byte_of b room r ≡ byte_of b most_bytes r
unfolding byte_of line_end writing
same_step b room r h = rw (same_refusal (take (r.place.count + 1) (set r.numbers r.place.count r.place.value)) room h)

-- What holds where no byte is read, where a line is refused, and of a byte before what it holds of, holds of all that
-- is made.
module _ (more : Bool) (P : List ℕ → ℕ → ℕ → Reader → Inscribing → Type 0)
    (none : (from room : ℕ) (r : Reader) → P [] from room r (first (used_up more r.place) r from))
    (full : (b : ℕ) (s : List ℕ) (from room : ℕ) (r : Reader) → room < most_bytes → P (b ∷ s) from room r (first Write r from))
    (refuses : (b : ℕ) (s : List ℕ) (from room : ℕ) (r : Reader) → most_bytes ≤ room → eqb (byte_of b room r).code 0 ≡ false →
    P (b ∷ s) from room r (first (Stop (byte_of b room r).code) (byte_of b room r).reader from))
    (goes : (b : ℕ) (s : List ℕ) (from room : ℕ) (r : Reader) (q : Inscribing) → most_bytes ≤ room → eqb (byte_of b room r).code 0 ≡ true →
    P s (from + 1) (room - length (byte_of b room r).bytes) (byte_of b room r).reader q → P (b ∷ s) from room r (wrote (byte_of b room r).bytes q)) where
  pub by_bytes : (s : List ℕ) (from room : ℕ) (r : Reader) → P s from room r (inscribe_on more s from room r)
  unfolding inscribe_on
  by_bytes [] from room r = none from room r
  by_bytes (b ∷ s) from room r =
      picked (P (b ∷ s) from room r) (ltb room most_bytes) _ _
      (λ h. full b s from room r (ltb-true room most_bytes h))
      (λ h. let enough = ltb-false room most_bytes h in
      picked (P (b ∷ s) from room r) (eqb (byte_of b room r).code 0) _ _
      (λ on. goes b s from room r _ enough on (by_bytes s (from + 1) _ _))
      (refuses b s from room r enough))

-- what is written behind what is made: nothing where the text has stopped
abbrev behind : Next → Reader → List ℕ → Inscription
behind Read r s = inscribed_from r s
behind Write r s = inscribed_from r s
behind (Stop code) r s = nothing_but (ending_of code r.place.line)

-- bytes before bytes
pub before_twice : (xs ys : List ℕ) (i : Inscription) → xs before (ys before i) ≡ (xs ++ ys) before i
before_twice xs ys i = rw (append_assoc xs ys i.bytes)

nothing_behind : (xs : List ℕ) (e : Ending) → record { bytes = xs; ending = e } ≡ xs before nothing_but e
nothing_behind xs e = rw (append-nil xs)

-- the byte at a place, and those behind it
drop_next : {b : ℕ} {s : List ℕ} (bytes : List ℕ) (from : ℕ) → drop from bytes ≡ b ∷ s → drop (from + 1) bytes ≡ s
drop_next bytes from e = sym (drop-drop 1 from bytes) ∙ ap (drop 1) e

-- what is made of the bytes at hand is what is written of the text, up to where it leaves off
module _ (bytes rest : List ℕ) (more : Bool) (all : more ≡ false → rest ≡ []) where
  abbrev Faithful : List ℕ → ℕ → ℕ → Reader → Inscribing → Type 0
  Faithful s from room r q = drop from bytes ≡ s → inscribed_from r (s ++ rest) ≡ q.bytes before behind q.next q.reader (drop q.from bytes ++ rest)

  faithful : (s : List ℕ) (from room : ℕ) (r : Reader) → Faithful s from room r (inscribe_on more s from room r)
  unfolding inscribed_from used_up pick
  faithful =
      by_bytes more Faithful
      (λ from room r e. rw e (ended more all r))
      (λ b s from room r short e. rw e)
      (λ b s from room r enough stop e. rw (← same_step b room r enough, stop))
      (λ b s from room r q enough on i e.
      rw (← same_step b room r enough, on)
      (ap (λ (i : Inscription). (byte_of b room r).bytes before i) (i (drop_next bytes from e)) ∙ before_twice (byte_of b room r).bytes q.bytes _))
    where
      ended : (more : Bool) → (more ≡ false → rest ≡ []) → (r : Reader) → inscribed_from r rest ≡ behind (used_up more r.place) r rest
      ended true all r = refl
      ended false all r = rw (all refl)

-- where it leaves off, and why
pub record Leaves (more : Bool) (s : List ℕ) (from room : ℕ) (r : Reader) (q : Inscribing) : Type 0 where
  pub onward : from ≤ q.from
  pub within : q.from ≤ from + length s
  pub fits : length q.bytes ≤ room
  pub few_lines : q.reader.place.line ≤ r.place.line + length s
  pub reading : q.next ≡ Read → more ≡ true
  pub writing : q.next ≡ Write → (from < q.from) ⊎ (room < most_bytes)

-- what comes next is one of three
read_write : Read ≡ Write → ⊥
read_write e = let z : ◌≡◌ {A = ℕ} 0 1 = cc in omega arith

read_stop : {code : ℕ} → Read ≡ Stop code → ⊥
read_stop {code} e = let z : ◌≡◌ {A = ℕ} 0 1 = cc in omega arith

write_stop : {code : ℕ} → Write ≡ Stop code → ⊥
write_stop {code} e = let z : ◌≡◌ {A = ℕ} 0 1 = cc in omega arith

reads_more : (more : Bool) (p : Place) → used_up more p ≡ Read → more ≡ true
unfolding used_up pick
reads_more true p e = refl
reads_more false p e = absurd (read_stop (sym e))

no_write : (more : Bool) (p : Place) → used_up more p ≡ Write → ⊥
unfolding used_up pick
no_write true p e = read_write e
no_write false p e = write_stop (sym e)

pub leaves : (more : Bool) (s : List ℕ) (from room : ℕ) (r : Reader) → Leaves more s from room r (inscribe_on more s from room r)
leaves more =
    by_bytes more (Leaves more)
    (λ from room r. record {
      onward = omega arith;
      within = omega arith;
      fits = omega arith;
      few_lines = omega arith;
      reading = reads_more more r.place;
      writing = λ e. absurd (no_write more r.place e);
    })
    (λ b s from room r full. record {
      onward = omega arith;
      within = omega arith;
      fits = omega arith;
      few_lines = omega arith;
      reading = λ e. absurd (read_write (sym e));
      writing = λ _. inr full;
    })
    (λ b s from room r enough stop. record {
      onward = omega arith;
      within = omega arith;
      fits = omega arith;
      few_lines = omega (arith, (step_small b room r).near);
      reading = λ e. absurd (read_stop (sym e));
      writing = λ e. absurd (write_stop (sym e));
    })
    (λ b s from room r q enough on i. record {
      onward = omega (arith, i.onward);
      within = omega (arith, i.within);
      fits = omega (arith, i.fits, (step_small b room r).fits, length-append (byte_of b room r).bytes q.bytes);
      few_lines = omega (arith, i.few_lines, (step_small b room r).near);
      reading = i.reading;
      writing = λ _. inl (omega (arith, i.onward));
    })

-- what is left to be written from where the program stands
abbrev left : Standing → List ℕ → Inscription
left st rest = inscribed_from st.reader (drop st.from st.bytes ++ rest)

module _ (st : Standing) where
  pub leaves_from : Leaves st.more (drop st.from st.bytes) st.from (output_long - length st.written) st.reader (made_from st)
  unfolding inscribe_of
  leaves_from = leaves st.more (drop st.from st.bytes) st.from (output_long - length st.written) st.reader

  module _ (rest : List ℕ) (all : st.more ≡ false → rest ≡ []) where
    faithful_from : left st rest ≡ (made_from st).bytes before behind (made_from st).next (made_from st).reader (drop (made_from st).from st.bytes ++ rest)
    unfolding inscribe_of
    faithful_from = faithful st.bytes rest st.more all (drop st.from st.bytes) st.from (output_long - length st.written) st.reader refl

    goes_behind :
        (i : Inscription) → behind (made_from st).next (made_from st).reader (drop (made_from st).from st.bytes ++ rest) ≡ i →
        (made st).written before i ≡ st.written before left st rest
    goes_behind i e =
        sym (before_twice st.written (made_from st).bytes i)
        ∙ ap (λ (i : Inscription). st.written before i) (ap (λ (i : Inscription). (made_from st).bytes before i) (sym e) ∙ sym faithful_from)

  -- a read puts a part in front of what is left
  filled_left : (part rest : List ℕ) (more : Bool) → left (filled part more (made st)) rest ≡ inscribed_from (made_from st).reader (drop (made_from st).from st.bytes ++ (part ++ rest))
  filled_left part rest more = ap (inscribed_from (made_from st).reader) (append_assoc (drop (made_from st).from st.bytes) part rest)

-- what a run writes is what was written before it and what is left to be written
run_writes :
    {st : Standing} {parts : List (List ℕ)} {i : Inscription} → (st.more ≡ false → flatten parts ≡ []) →
    Run st parts i → i ≡ st.written before left st (flatten parts)
unfolding flatten
run_writes {st} all (reads {part = part} {parts = parts} e r) =
    run_writes (λ f. absurd (true≢false f)) r
    ∙ ap (λ (i : Inscription). (made st).written before i) (filled_left st part (flatten parts) true)
    ∙ goes_behind st (part ++ flatten parts) all _ (rw e refl)
run_writes {st} all (meets_end e r) =
    run_writes (λ _. refl) r
    ∙ ap (λ (i : Inscription). (made st).written before i) (filled_left st [] [] false)
    ∙ goes_behind st [] (λ _. refl) _ (rw e refl)
run_writes {st} all (writes {parts = parts} e r) =
    ap (λ (i : Inscription). (made st).written before i) (run_writes all r)
    ∙ goes_behind st (flatten parts) all _ (rw e refl)
run_writes {st} all (stops {parts = parts} {code = code} e) =
    nothing_behind (made st).written (ending_of code (made_from st).reader.place.line)
    ∙ goes_behind st (flatten parts) all (nothing_but (ending_of code (made_from st).reader.place.line)) (rw e refl)

-- Whatever the parts, a run from the start writes the tape of the whole text, and tells its ending.
pub writes_whole : {parts : List (List ℕ)} {i : Inscription} → Run at_start parts i → i ≡ inscribed (flatten parts)
unfolding inscribed
writes_whole r = run_writes (λ f. absurd (true≢false f)) r

-- one where a test holds
abbrev one : Bool → ℕ
one true = 1
one false = 0

-- the output has no room for the longest event
abbrev tight : List ℕ → ℕ
tight written = one (ltb (output_long - length written) most_bytes)

tight_most : (written : List ℕ) → tight written ≤ 1
tight_most written = go (ltb (output_long - length written) most_bytes)
  where
    go : (t : Bool) → one t ≤ 1
    go true = omega arith
    go false = omega arith

tight_full : (written : List ℕ) → output_long - length written < most_bytes → tight written ≡ 1
tight_full written h = rw (lt-ltb (output_long - length written) most_bytes h)

-- what a run has before it: reads, bytes to read, and room to make
abbrev ahead : Standing → List (List ℕ) → ℕ
ahead st parts = 2 * (one st.more + length parts) + 2 * (length st.bytes - st.from + length (flatten parts)) + tight st.written

abbrev Runs : Standing → List (List ℕ) → Type 0
Runs st parts = (i : Inscription) × Run st parts i

-- the run goes on behind a call
then_reads : {st : Standing} {part : List ℕ} {parts : List (List ℕ)} → (made_from st).next ≡ Read → Runs (filled part true (made st)) parts → Runs st (part ∷ parts)
then_reads e r = (r.0, reads e r.1)

then_ends : {st : Standing} → (made_from st).next ≡ Read → Runs (filled [] false (made st)) [] → Runs st []
then_ends e r = (r.0, meets_end e r.1)

then_writes : {st : Standing} {parts : List (List ℕ)} → (made_from st).next ≡ Write → Runs (emptied (made st)) parts → Runs st parts
then_writes {st} e r = ((made st).written before r.0, writes e r.1)

-- each call leaves less ahead
by_next :
    (n : ℕ) (st : Standing) (parts : List (List ℕ)) → ahead st parts < suc n → st.from ≤ length st.bytes →
    ((next : Standing) (left : List (List ℕ)) → ahead next left < n → next.from ≤ length next.bytes → Runs next left) →
    (x : Next) → (made_from st).next ≡ x → Runs st parts
unfolding flatten
by_next n st [] h begun on Read e =
    let l = leaves_from st in
    then_ends e
    (on (filled [] false (made st)) []
    (omega (arith, length-append (drop (made_from st).from st.bytes) [], length-drop (made_from st).from st.bytes, tight_most (made st).written, ap one (l.reading e), l.onward))
    (omega arith))
by_next n st (part ∷ parts) h begun on Read e =
    let l = leaves_from st in
    then_reads e
    (on (filled part true (made st)) parts
    (omega (arith, length-append (drop (made_from st).from st.bytes) part, length-drop (made_from st).from st.bytes, length-append part (flatten parts), tight_most (made st).written, ap one (l.reading e), l.onward))
    (omega arith))
by_next n st parts h begun on Write e =
    let l = leaves_from st in
    let within : (made_from st).from ≤ length st.bytes = omega (arith, l.within, length-drop st.from st.bytes) in
    then_writes e
    (on (emptied (made st)) parts
    (⊎_elim (λ less. omega (arith, less, within)) (λ full. omega (arith, tight_full st.written full, l.onward)) (l.writing e))
    within)
by_next n st parts h begun on (Stop code) e = (_, stops e)

run_on : (n : ℕ) (st : Standing) (parts : List (List ℕ)) → ahead st parts < n → st.from ≤ length st.bytes → Runs st parts
run_on zero st parts h begun = absurd (omega arith)
run_on (suc n) st parts h begun = by_next n st parts h begun (run_on n) (made_from st).next refl

-- Whatever the parts, there is a run, and what it writes and tells is that of the whole text.
pub runs_whole : (parts : List (List ℕ)) → Run at_start parts (inscribed (flatten parts))
runs_whole parts =
    let r = run_on (suc (ahead at_start parts)) at_start parts (omega arith) (omega arith) in
    rw (writes_whole r.1) at r.1
