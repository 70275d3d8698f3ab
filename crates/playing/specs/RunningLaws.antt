-- A run prints the output of the whole tape, whatever the parts that the file gives, and there is one for all parts.
use Rattle.std.specs.Prelude.{◌≡◌, refl, Some, None, Ok, Err, Bool, true, false, ◌⊎◌, ℕ, zero, suc, ◌+◌, ◌-◌, ◌*◌, ◌≤◌, ◌<◌, ltb, length, take, drop}
use Rattle.std.proofs.Common.{sym, ap, ◌∙◌, true≢false, inl, inr, ⊎_elim, arith, eq-eqb, lt-ltb, length-append, length-drop, take-append-drop, length-take-le}
use mathlib.Core.List.{List, [], ◌∷◌, ◌++◌, append_assoc, append-nil, flatten}
use Rattle.std.proofs.lemmas.Bool.{eqb-false}
use Rattle.std.proofs.lemmas.List.{length-replicate}
use Rattle.lines.specs.Laying.{output}
use Rattle.entry.specs.Numbers.{bulk_numbers}
use Rattle.tape.specs.Tape.{Reading, event_at, entries_at, entries_after}
use Rattle.tape.specs.Several.{stored_long}
use Rattle.tape.specs.Depth.{most_bytes}
use Rattle.tape.specs.Whole.{read_from}
use Rattle.session.specs.Market.{Market}
use Rattle.replay.specs.Listing.{longest_event}
use Rattle.replay.specs.Stepping.{going, Step, step_by, step_of}
use Rattle.replay.specs.Output.{printed_on, output_of}
use Rattle.replay.specs.OutputLaws.{window_step}
use Rattle.window.specs.Window.{is_short}
use Rattle.window.specs.WindowLaws.{enough, short_goes_on}
use Rattle.playing.specs.Next.{Next}
use Rattle.playing.specs.Next.{Read, Write, Stop}
use Rattle.playing.specs.Playing.{Play, play_most, play_of}
use Rattle.playing.specs.PlayingLaws.{by_play, step_on, step_last}
use Rattle.playing.specs.Running.{Standing, at_start, play_from, played, filled, emptied, Run, reads, meets_end, writes, stops}

-- what is lent for the numbers of entries stays as long
given_long : (m : Market) (bytes : List ℕ) (from base : ℕ) (given : List ℕ) → length (step_of m bytes from base given).given ≡ length given
unfolding step_of entries_after
given_long m bytes from base given = go (event_at bytes from)
  where
    go : (x : Reading) → length (step_by m from base (entries_after bytes from given) x).given ≡ length given
    go (Ok (Some (e, end))) = stored_long (entries_at bytes from) given
    go (Err r) = stored_long (entries_at bytes from) given
    go (Ok None) = stored_long (entries_at bytes from) given

-- what comes behind a play: nothing where the tape has stopped
abbrev behind : Next → List ℕ → List ℕ
behind Read rest = rest
behind Write rest = rest
behind (Stop how) rest = []

-- the tape of which bytes are at hand
module _ (front bytes rest : List ℕ) (more : Bool) (all : more ≡ false → rest ≡ []) where
  abbrev tape : List ℕ
  tape = front ++ (bytes ++ rest)

  -- what the tape prints from a place among the bytes at hand on
  abbrev prints : Market → ℕ → List ℕ
  prints m from = printed_on m (read_from tape (length front + from))

  -- a play prints what the tape prints, up to where it leaves off
  abbrev Faithful : Market → List ℕ → ℕ → ℕ → Play → Type 0
  Faithful m given from at q = bulk_numbers ≤ length given → prints m from ≡ q.bytes ++ behind q.next (prints q.market q.from)

  at_hand : (from : ℕ) → is_short from (length bytes) more most_bytes ≡ false → (from + most_bytes ≤ length bytes) ⊎ (rest ≡ [])
  at_hand from h = ⊎_elim (λ k. inl (omega arith)) (λ e. inr (all e)) (enough from (length bytes) more most_bytes h)

  play_faithful : (n : ℕ) (m : Market) (given : List ℕ) (from at : ℕ) → length bytes - from < n → Faithful m given from at (play_most bytes more (length front) n m given from at)
  play_faithful =
      by_play bytes more (length front) Faithful
      (λ m given from at short long. refl)
      (λ m given from at full long. refl)
      (λ m given from at short stop long. rw stop at (window_step m front bytes rest from given (at_hand from short) long))
      (λ m given from at q short goes behind long.
      let p : Step = step_of m bytes from (length front) given in
      let on = rw (eq-eqb p.status going goes) at (window_step m front bytes rest from given (at_hand from short) long) in
      on ∙ ap (λ (l : List ℕ). p.printed.bytes ++ l) (behind (omega (arith, given_long m bytes from (length front) given)))
      ∙ sym (append_assoc p.printed.bytes q.bytes _))

-- where a play leaves off, and why
pub record Leaves (bytes : List ℕ) (more : Bool) (m : Market) (given : List ℕ) (from at : ℕ) (q : Play) : Type 0 where
  pub given_long : length q.given ≡ length given
  pub onward : from ≤ q.from
  pub on_tape : from ≤ length bytes → q.from ≤ length bytes
  pub reading : q.next ≡ Read → more ≡ true
  pub writing : q.next ≡ Write → (from < q.from) ⊎ (output - at < longest_event)
  pub stopping : (how : ℕ) → q.next ≡ Stop how → how ≡ going → ⊥

-- what comes next is one of three
read_write : Read ≡ Write → ⊥
read_write e = let z : ◌≡◌ {A = ℕ} 0 1 = cc in omega arith

read_stop : {how : ℕ} → Read ≡ Stop how → ⊥
read_stop {how} e = let z : ◌≡◌ {A = ℕ} 0 1 = cc in omega arith

write_stop : {how : ℕ} → Write ≡ Stop how → ⊥
write_stop {how} e = let z : ◌≡◌ {A = ℕ} 0 1 = cc in omega arith

play_leaves :
    (bytes : List ℕ) (more : Bool) (base n : ℕ) (m : Market) (given : List ℕ) (from at : ℕ) → length bytes - from < n →
    Leaves bytes more m given from at (play_most bytes more base n m given from at)
play_leaves bytes more base =
    by_play bytes more base (Leaves bytes more)
    (λ m given from at short. record {
      given_long = refl;
      onward = omega arith;
      on_tape = λ h. h;
      reading = λ _. short_goes_on from (length bytes) more most_bytes short;
      writing = λ e. absurd (read_write e);
      stopping = λ how e _. read_stop e;
    })
    (λ m given from at full. record {
      given_long = refl;
      onward = omega arith;
      on_tape = λ h. h;
      reading = λ e. absurd (read_write (sym e));
      writing = λ _. inr full;
      stopping = λ how e _. write_stop e;
    })
    (λ m given from at short stop.
    let stays = step_last m bytes from base given stop in
    record {
      given_long = given_long m bytes from base given;
      onward = omega arith;
      on_tape = λ h. omega arith;
      reading = λ e. absurd (read_stop (sym e));
      writing = λ e. absurd (write_stop (sym e));
      stopping = λ how e goes. let same : (step_of m bytes from base given).status ≡ how = cc in eqb-false _ _ stop (same ∙ goes);
    })
    (λ m given from at q short goes i.
    let o = step_on m bytes from base given goes in
    record {
      given_long = i.given_long ∙ given_long m bytes from base given;
      onward = omega (arith, i.onward, o.0);
      on_tape = λ _. i.on_tape o.1;
      reading = i.reading;
      writing = λ _. inl (omega (arith, i.onward, o.0));
      stopping = i.stopping;
    })

-- bytes that are not used yet move to the front of the window, and the tape is the same
refill_tape :
    (front bytes part rest : List ℕ) (from : ℕ) →
    (front ++ take from bytes) ++ ((drop from bytes ++ part) ++ rest) ≡ front ++ (bytes ++ (part ++ rest))
refill_tape front bytes part rest from =
    append_assoc front (take from bytes) _
    ∙ ap (λ (l : List ℕ). front ++ l)
    (ap (λ (l : List ℕ). take from bytes ++ l) (append_assoc (drop from bytes) part rest)
    ∙ sym (append_assoc (take from bytes) (drop from bytes) (part ++ rest))
    ∙ ap (λ (l : List ℕ). l ++ (part ++ rest)) (take-append-drop from bytes))

-- where the program stands in the tape: what came before the bytes at hand, and enough lent for a bulk
record Placed (st : Standing) (front : List ℕ) : Type 0 where
  base : st.base ≡ length front
  begun : st.from ≤ length st.bytes
  given_long : bulk_numbers ≤ length st.given

-- what the tape prints from where the program stands on
abbrev left : Standing → List ℕ → List ℕ → List ℕ
left st front rest = printed_on st.market (read_from (front ++ (st.bytes ++ rest)) (length front + st.from))

pub leaves_from : (st : Standing) → Leaves st.bytes st.more st.market st.given st.from (length st.printed) (play_from st)
unfolding play_of
leaves_from st = play_leaves st.bytes st.more st.base (suc (length st.bytes - st.from)) st.market st.given st.from (length st.printed) (omega arith)

module _ (st : Standing) (front : List ℕ) (at : Placed st front) where
  -- the play keeps the place
  played_placed : Placed (played st) front
  played_placed =
      let l = leaves_from st in
      record { base = at.base; begun = l.on_tape at.begun; given_long = omega (arith, l.given_long, at.given_long) }

  module _ (rest : List ℕ) (all : st.more ≡ false → rest ≡ []) where
    faithful_from : left st front rest ≡ (play_from st).bytes ++ behind (play_from st).next (left (played st) front rest)
    unfolding play_of
    faithful_from =
        rw at.base
        (play_faithful front st.bytes rest st.more all (suc (length st.bytes - st.from)) st.market st.given st.from (length st.printed) (omega arith) at.given_long)

    goes_behind :
        (w : List ℕ) → behind (play_from st).next (left (played st) front rest) ≡ w →
        (played st).printed ++ w ≡ st.printed ++ left st front rest
    goes_behind w e =
        append_assoc st.printed (play_from st).bytes w
        ∙ ap (λ (l : List ℕ). st.printed ++ l) (ap (λ (l : List ℕ). (play_from st).bytes ++ l) (sym e) ∙ sym faithful_from)

  -- a read moves the place of the window
  abbrev filled_front : List ℕ
  filled_front = front ++ take (play_from st).from st.bytes

  module _ (part : List ℕ) (more : Bool) where
    front_long : length filled_front ≡ length front + (play_from st).from
    front_long =
        length-append front (take (play_from st).from st.bytes)
        ∙ ap (λ (n : ℕ). length front + n) (length-take-le (play_from st).from st.bytes played_placed.begun)

    filled_placed : Placed (filled part more (played st)) filled_front
    filled_placed = record { base = omega (arith, at.base, front_long); begun = omega arith; given_long = played_placed.given_long }

    filled_left : (rest : List ℕ) → left (filled part more (played st)) filled_front rest ≡ left (played st) front (part ++ rest)
    filled_left rest =
        let place : length filled_front + 0 ≡ length front + (play_from st).from = omega (arith, front_long) in
        rw (place, refill_tape front st.bytes part rest (play_from st).from)

-- what a run writes is what was printed before it and what the tape prints from there on
run_prints :
    {st : Standing} {parts : List (List ℕ)} {w : List ℕ} (front : List ℕ) → Placed st front → (st.more ≡ false → flatten parts ≡ []) →
    Run st parts w → w ≡ st.printed ++ left st front (flatten parts)
unfolding flatten
run_prints {st} front at all (reads {part = part} {parts = parts} {written = w} e r) =
    let i = run_prints (filled_front st front at) (filled_placed st front at part true) (λ f. absurd (true≢false f)) r in
    i ∙ ap (λ (l : List ℕ). (played st).printed ++ l) (filled_left st front at part true (flatten parts))
    ∙ goes_behind st front at (part ++ flatten parts) all _ (rw e refl)
run_prints {st} front at all (meets_end {written = w} e r) =
    let i = run_prints (filled_front st front at) (filled_placed st front at [] false) (λ _. refl) r in
    i ∙ ap (λ (l : List ℕ). (played st).printed ++ l) (filled_left st front at [] false [])
    ∙ goes_behind st front at [] (λ _. refl) _ (rw e refl)
run_prints {st} front at all (writes {parts = parts} {written = w} e r) =
    let i = run_prints front (record { base = at.base; begun = (played_placed st front at).begun; given_long = (played_placed st front at).given_long }) all r in
    ap (λ (l : List ℕ). (played st).printed ++ l) i ∙ goes_behind st front at (flatten parts) all _ (rw e refl)
run_prints {st} front at all (stops {parts = parts} {how = how} e) =
    sym (append-nil (played st).printed) ∙ goes_behind st front at (flatten parts) all [] (rw e refl)

-- Whatever the parts, a run from the start writes the output of the whole tape.
pub prints_whole : {parts : List (List ℕ)} {written : List ℕ} → Run at_start parts written → written ≡ output_of (flatten parts)
unfolding output_of
prints_whole r =
    run_prints [] (record { base = refl; begun = omega arith; given_long = omega (arith, length-replicate {A = ℕ} bulk_numbers 0) }) (λ f. absurd (true≢false f)) r

-- one where a test holds
abbrev one : Bool → ℕ
one true = 1
one false = 0

-- the output has no room for the longest event
abbrev tight : List ℕ → ℕ
tight printed = one (ltb (output - length printed) longest_event)

tight_most : (printed : List ℕ) → tight printed ≤ 1
tight_most printed = go (ltb (output - length printed) longest_event)
  where
    go : (t : Bool) → one t ≤ 1
    go true = omega arith
    go false = omega arith

tight_full : (printed : List ℕ) → output - length printed < longest_event → tight printed ≡ 1
tight_full printed h = rw (lt-ltb (output - length printed) longest_event h)

-- what a run has before it: reads, bytes to play, and room to make
abbrev before : Standing → List (List ℕ) → ℕ
before st parts = 2 * (one st.more + length parts) + 2 * (length st.bytes - st.from + length (flatten parts)) + tight st.printed

abbrev Runs : Standing → List (List ℕ) → Type 0
Runs st parts = (written : List ℕ) × Run st parts written

-- the run goes on behind a call
then_reads : {st : Standing} {part : List ℕ} {parts : List (List ℕ)} → (play_from st).next ≡ Read → Runs (filled part true (played st)) parts → Runs st (part ∷ parts)
then_reads e r = (r.0, reads e r.1)

then_ends : {st : Standing} → (play_from st).next ≡ Read → Runs (filled [] false (played st)) [] → Runs st []
then_ends e r = (r.0, meets_end e r.1)

then_writes : {st : Standing} {parts : List (List ℕ)} → (play_from st).next ≡ Write → Runs (emptied (played st)) parts → Runs st parts
then_writes {st} e r = ((played st).printed ++ r.0, writes e r.1)

-- each call leaves less before it
by_next :
    (n : ℕ) (st : Standing) (parts : List (List ℕ)) → before st parts < suc n → st.from ≤ length st.bytes →
    ((next : Standing) (left : List (List ℕ)) → before next left < n → next.from ≤ length next.bytes → Runs next left) →
    (x : Next) → (play_from st).next ≡ x → Runs st parts
unfolding flatten
by_next n st [] h begun on Read e =
    let l = leaves_from st in
    then_ends e
    (on (filled [] false (played st)) []
    (omega (arith, length-append (drop (play_from st).from st.bytes) [], length-drop (play_from st).from st.bytes, tight_most (played st).printed, ap one (l.reading e), l.onward))
    (omega arith))
by_next n st (part ∷ parts) h begun on Read e =
    let l = leaves_from st in
    then_reads e
    (on (filled part true (played st)) parts
    (omega (arith, length-append (drop (play_from st).from st.bytes) part, length-drop (play_from st).from st.bytes, length-append part (flatten parts), tight_most (played st).printed, ap one (l.reading e), l.onward))
    (omega arith))
by_next n st parts h begun on Write e =
    let l = leaves_from st in
    then_writes e
    (on (emptied (played st)) parts
    (⊎_elim (λ less. omega (arith, less, l.on_tape begun)) (λ full. omega (arith, tight_full st.printed full, l.onward)) (l.writing e))
    (l.on_tape begun))
by_next n st parts h begun on (Stop how) e = ((played st).printed, stops e)

run_on : (n : ℕ) (st : Standing) (parts : List (List ℕ)) → before st parts < n → st.from ≤ length st.bytes → Runs st parts
run_on zero st parts h begun = absurd (omega arith)
run_on (suc n) st parts h begun = by_next n st parts h begun (run_on n) (play_from st).next refl

-- Whatever the parts, there is a run, and what it writes is the output of the whole tape.
pub runs_whole : (parts : List (List ℕ)) → Run at_start parts (output_of (flatten parts))
runs_whole parts =
    let r = run_on (suc (before at_start parts)) at_start parts (omega arith) (omega arith) in
    rw (prints_whole r.1) at r.1
