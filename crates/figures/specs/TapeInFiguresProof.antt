-- A text is the figures of the events that are written of it, up to its end or to its first other line.
use Rattle.std.specs.Prelude.{◌≡◌, refl, Bool, true, false, List, [], ◌∷◌, ◌++◌, ℕ, suc, ◌+◌, ◌<◌, length, replicate}
use Rattle.std.proofs.Common.{sym, ap, ◌∙◌, append_assoc, append-nil, arith, lt-ltb, length-append}
use Prim.{tt}
use Rattle.std.proofs.lemmas.List.{length-replicate}
use Rattle.std.proofs.Math.Seq.{append_snoc}
use Rattle.units.specs.Tests.{◌or◌, pick}
use Rattle.units.specs.Decimal.{decimal}
use Rattle.units.specs.DecimalLaws.{decimal_some}
use Rattle.tape.specs.Tape.{stored}
use Rattle.tape.specs.Leads.{encode_all}
use Rattle.tape.specs.Several.{stored_long}
use Rattle.tape.specs.Depth.{most_numbers, most_bytes}
use Rattle.tape.specs.OneLaws.{one_within}
use Rattle.writer.specs.WriteLaws.{never_short}
use Rattle.writer.specs.Tapes.{Writable, Events, tape_of}
use Rattle.figures.specs.Figures.{line_of, text_of}
use Rattle.figures.specs.Reading.{not_one, line_start, Reader, byte_of}
use Rattle.figures.specs.Whole.{Ending, ended, refused, Inscription, nothing_but, ◌before◌, in_line, last_code, inscribed_from, inscribed}
use Rattle.figures.specs.TapeInFigures.{NoLine, OnlyFigures, RefusedLine, TapeInFigures}
use Rattle.figures.specs.EventLaws.{one_of, one_some, event_bytes}
use Rattle.figures.specs.FigureLaws.{state_of, spaced, so_far, Last, behind, last_of, reads_on, so_far_read, line_read}
use Rattle.figures.specs.RunningLaws.{writes_whole, runs_whole}
use Rattle.figures.specs.Outcomes.{InLine, Outcome, bad, on, ends, outcome}

-- the start of a line
abbrev start : ℕ → List ℕ → Reader
start line mem = record { place = line_start line; numbers = mem }

-- the line of an event is read as the event
event_read :
    (line : ℕ) (mem vs : List ℕ) → length mem ≡ most_numbers → Writable vs → (t : List ℕ) →
    inscribed_from (start line mem) (line_of vs ++ t) ≡ encode_all vs before inscribed_from (start (line + 1) (stored vs mem)) t
unfolding stored
event_read line mem vs long is t = go (last_of vs (one_some vs (one_of vs is))) is
  where
    go : {vs : List ℕ} → Last vs → Writable vs → inscribed_from (start line mem) (line_of vs ++ t) ≡ encode_all vs before inscribed_from (start (line + 1) (stored vs mem)) t
    go (behind us v) is =
        line_read line mem us v is.0 (omega (arith, one_within (us ++ (v ∷ [])) (one_of (us ++ (v ∷ [])) is), length-append us (v ∷ []))) (never_short (us ++ (v ∷ [])) most_bytes (omega arith) (one_of (us ++ (v ∷ [])) is)) t

-- the lines of events, from the start of a line on
text_read :
    (line : ℕ) (mem : List ℕ) (all : List (List ℕ)) → length mem ≡ most_numbers → Events all →
    inscribed_from (start line mem) (text_of all) ≡ record { bytes = tape_of all; ending = ended }
unfolding text_of tape_of inscribed_from last_code in_line ◌or◌ pick
text_read line mem [] long is = refl
text_read line mem (vs ∷ all) long is =
    event_read line mem vs long is.0 (text_of all)
    ∙ ap (λ (i : Inscription). encode_all vs before i) (text_read (line + 1) (stored vs mem) all (stored_long vs mem ∙ long) is.1)

-- where nothing is written, no line of an event stands at the front
no_line : (line : ℕ) (mem s : List ℕ) → length mem ≡ most_numbers → (inscribed_from (start line mem) s).bytes ≡ [] → NoLine s
no_line line mem s long none vs more is e =
    let i : Inscription = inscribed_from (start (line + 1) (stored vs mem)) more in
    let bytes : (inscribed_from (start line mem) s).bytes ≡ encode_all vs ++ i.bytes
    = rw e (ap (λ (i : Inscription). i.bytes) (event_read line mem vs long is more)) in
    omega (arith, event_bytes vs (one_of vs is), length-append (encode_all vs) i.bytes, ap length (sym bytes ∙ none))

-- how a text ends behind the lines of events: there, or with a line that is not one, the line `line`
data Ends (ending : Ending) (line : ℕ) (rest : List ℕ) : Type 0 where
  whole : ending ≡ ended → rest ≡ [] → Ends ending line rest
  cut : ending ≡ refused not_one line → 0 < length rest → NoLine rest → Ends ending line rest

-- what a text is that gives `i`, its first line being the line `first`
record Tells (s : List ℕ) (i : Inscription) (first : ℕ) : Type 0 where
  all : List (List ℕ)
  rest : List ℕ
  events : Events all
  text : s ≡ text_of all ++ rest
  tape : i.bytes ≡ tape_of all
  ends : Ends i.ending (first + length all) rest

module _ (line : ℕ) (mem vs : List ℕ) (begun : Bool) (value : ℕ) (l : InLine mem vs begun value) where
  -- a line that is refused where its reader stands
  refused_here : (s : List ℕ) → 0 < length (so_far vs begun value ++ s) → inscribed_from (state_of line mem vs begun value) s ≡ nothing_but (refused not_one line) →
      Tells (so_far vs begun value ++ s) (inscribed_from (state_of line mem vs begun value) s) line
  unfolding text_of tape_of stored
  refused_here s some is = rw is record {
    all = [];
    rest = so_far vs begun value ++ s;
    events = tt;
    text = refl;
    tape = refl;
    ends = cut (ap (refused not_one) (omega arith)) some
        (no_line line mem (so_far vs begun value ++ s) l.long (rw (so_far_read line mem vs begun value l.fit l.few l.small l.none s, is)));
  }

-- a line that is refused inside a text
code_refused :
    (b : ℕ) (r : Reader) (line : ℕ) (s : List ℕ) → (byte_of b most_bytes r).code ≡ not_one → (byte_of b most_bytes r).reader.place.line ≡ line →
    inscribed_from r (b ∷ s) ≡ nothing_but (refused not_one line)
unfolding inscribed_from pick
code_refused b r line s code is = rw (code, is)

-- an event in front
told_behind :
    (ws : List ℕ) (line : ℕ) {s : List ℕ} {i : Inscription} → Writable ws → Tells s i (line + 1) → Tells (line_of ws ++ s) (encode_all ws before i) line
unfolding text_of tape_of
told_behind ws line is t =
    let e : line + 1 + length t.all ≡ line + suc (length t.all) = omega arith in
    record {
      all = ws ∷ t.all;
      rest = t.rest;
      events = (is, t.events);
      text = ap (λ (l : List ℕ). line_of ws ++ l) t.text ∙ sym (append_assoc (line_of ws) (text_of t.all) t.rest);
      tape = ap (λ (l : List ℕ). encode_all ws ++ l) t.tape;
      ends = rw e at t.ends;
    }

-- what is told of the bytes that are left, wherever their reader stands in a line
abbrev Told : List ℕ → Type 0
Told s =
    (line : ℕ) (mem vs : List ℕ) (begun : Bool) (value : ℕ) → InLine mem vs begun value →
    Tells (so_far vs begun value ++ s) (inscribed_from (state_of line mem vs begun value) s) line

none_left : Told []
unfolding inscribed_from last_code in_line pick ◌or◌ spaced so_far text_of tape_of
none_left line mem [] false value l = record { all = []; rest = []; events = tt; text = refl; tape = refl; ends = whole refl refl }
none_left line mem [] true value l = refused_here line mem [] true value l [] (rw (append-nil (decimal value)) (decimal_some value)) refl
none_left line mem (v ∷ vs) true value l = refused_here line mem (v ∷ vs) true value l [] (simp length-append (omega (arith, decimal_some v))) refl
none_left line mem (v ∷ vs) false value l =
    refused_here line mem (v ∷ vs) false value l [] (simp length-append (omega (arith, decimal_some v))) (rw (lt-ltb 0 (suc (length vs)) (omega arith)))

one_left : (b : ℕ) (s : List ℕ) → Told s → Told (b ∷ s)
unfolding stored spaced so_far
one_left b s rest line mem vs begun value l = go (outcome line mem vs begun value l b)
  where
    behind_byte : {text : List ℕ} → so_far vs begun value ++ (b ∷ []) ≡ text → so_far vs begun value ++ (b ∷ s) ≡ text ++ s
    behind_byte e = sym (append_snoc (so_far vs begun value) b s) ∙ ap (λ (l : List ℕ). l ++ s) e

    go : Outcome line mem vs begun value b → Tells (so_far vs begun value ++ (b ∷ s)) (inscribed_from (state_of line mem vs begun value) (b ∷ s)) line
    go (bad code is) =
        refused_here line mem vs begun value l (b ∷ s) (omega (arith, length-append (so_far vs begun value) (b ∷ s)))
        (code_refused b (state_of line mem vs begun value) line s code is)
    go (on ws next n k e text) =
        rw (behind_byte text, reads_on b (state_of line mem vs begun value) e s) (rest line mem ws next n k)
    go (ends ws is e text) =
        rw (behind_byte text, reads_on b (state_of line mem vs begun value) e s)
        (told_behind ws line is
        (rest (line + 1) (stored ws mem) [] false 0
        (record { long = stored_long ws mem ∙ l.long; few = omega arith; fit = λ i. omega arith; small = omega arith; none = λ _. refl })))

tells_from : (s : List ℕ) → Told s
tells_from [] = none_left
tells_from (b ∷ s) = one_left b s (tells_from s)

tells : (s : List ℕ) → Tells s (inscribed s) 1
unfolding inscribed spaced so_far stored
tells s =
    tells_from s 1 (replicate most_numbers 0) [] false 0
    (record { long = length-replicate {A = ℕ} most_numbers 0; few = omega arith; fit = λ i. omega arith; small = omega arith; none = λ _. refl })

-- a text ends in one way
ended_once : {e : Ending} {code line : ℕ} → e ≡ ended → e ≡ refused code line → ⊥
ended_once {e} {code} {line} h g = let z : ◌≡◌ {A = ℕ} 0 1 = cc in omega arith

pub tape_in_figures : TapeInFigures
unfolding inscribed
tape_in_figures = record {
  writes_figures = λ all is. text_read 1 (replicate most_numbers 0) all (length-replicate {A = ℕ} most_numbers 0) is;
  only_figures = λ s e. only s e (tells s);
  refused_line = λ s code l e. refuses s code l e (tells s);
  writes_whole = λ parts i r. writes_whole r;
  runs_whole = runs_whole;
}
  where
    only : (s : List ℕ) → (inscribed s).ending ≡ ended → Tells s (inscribed s) 1 → OnlyFigures s
    only s e t = go t.ends
      where
        go : Ends (inscribed s).ending (1 + length t.all) t.rest → OnlyFigures s
        go (whole h none) = record { all = t.all; events = t.events; text = t.text ∙ rw (none, append-nil (text_of t.all)); tape = t.tape }
        go (cut h some none) = absurd (ended_once e h)

    refuses : (s : List ℕ) (code l : ℕ) → (inscribed s).ending ≡ refused code l → Tells s (inscribed s) 1 → RefusedLine s code l
    refuses s code l e t = go t.ends
      where
        go : Ends (inscribed s).ending (1 + length t.all) t.rest → RefusedLine s code l
        go (whole h none) = absurd (ended_once h e)
        go (cut h some none) = record {
          all = t.all;
          rest = t.rest;
          events = t.events;
          text = t.text;
          tape = t.tape;
          by = cc;
          line = cc;
          some = some;
          none = none;
        }
