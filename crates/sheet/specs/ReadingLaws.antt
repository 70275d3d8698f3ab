-- The loop of a step: the bytes passed are no newlines, and stand in the memory behind those of the line that had come.
use Rattle.std.specs.Prelude.{◌≡◌, refl, Result, Ok, Err, ℕ, suc, ◌+◌, ◌-◌, ◌≤◌, ◌<◌, length, drop, set}
use Rattle.std.proofs.Math.Path.{sym, ap}
use Rattle.std.proofs.Common.{◌∙◌, arith, lt-ltb, le-ltb, eq-eqb, ne_eqb, length-append, length-drop, length-take-le, take-take, take-suc, get_or-drop}
use mathlib.Core.List.{List, [], ◌∷◌, ◌++◌}
use Rattle.std.proofs.Math.ListN.{take}
use Rattle.std.proofs.Math.Seq.{take_all, length-sets}
use Rattle.std.proofs.lemmas.List.Edits.{sets}
use Rattle.units.specs.Tests.{pick_yes, pick_no}
use Rattle.units.specs.Places.{at, sets_append, sets_behind}
use Rattle.sheet.specs.declared.Place.{Place}
use Rattle.sheet.specs.declared.Refusal.{Refusal}
use Rattle.sheet.specs.declared.Refusal.TheVariants.{TooLong, WrongWord, WrongNumber, Unended}
use Rattle.sheet.specs.declared.Refused.{Refused}
use Rattle.sheet.specs.declared.Given.{Given}
use Rattle.sheet.specs.declared.Given.TheVariants as given
use Rattle.sheet.specs.Stepped.{Stepped}
use Rattle.sheet.specs.Stepped as step
use Rattle.sheet.specs.Finished as finish
use Rattle.sheet.specs.Bytes.{up_to}
use Rattle.sheet.specs.Line.{refusal_number, line_of}
use Rattle.sheet.specs.Sheet.{newline, line_most, too_long, unended}
use Rattle.sheet.specs.Reading.{stepped_of, finished_of, line_step, line_here, begun_of, step_of, held_after, finish_of, CanStep}
use Rattle.sheet.specs.BytesLaws.{Sought, seek_starts, seek_finds, seek_goes_on, seek_ends, up_front}

-- the front of the bytes before a mark is that of all bytes
pub front_of : (mark k : ℕ) (s : List ℕ) → k ≤ length (up_to mark s) → take k (up_to mark s) ≡ take k s
front_of mark k s h = ap (take k) (sym (up_front mark s)) ∙ take-take k (length (up_to mark s)) s h

-- what a step makes: by the bytes of the line at hand
module _ (line : ℕ) (begun bytes : List ℕ) (from : ℕ) where
  pub step_long : line_most < length (line_here begun bytes) → step_of line begun bytes from ≡ step.Refused too_long line
  unfolding step_of
  step_long h = pick_yes _ _ (lt-ltb line_most (length (line_here begun bytes)) h)

  module _ (few : length (line_here begun bytes) ≤ line_most) where
    pub step_line : length (up_to newline bytes) < length bytes →
        step_of line begun bytes from ≡ line_step (line_of (line_here begun bytes)) line (from + length (up_to newline bytes) + 1)
    unfolding step_of
    step_line h = pick_no _ _ (le-ltb line_most (length (line_here begun bytes)) few) ∙ pick_yes _ _ (lt-ltb (length (up_to newline bytes)) (length bytes) h)

    pub step_more : length bytes ≤ length (up_to newline bytes) →
        step_of line begun bytes from ≡ step.More (record { line = line; held = length (line_here begun bytes) })
    unfolding step_of
    step_more h = pick_no _ _ (le-ltb line_most (length (line_here begun bytes)) few) ∙ pick_no _ _ (le-ltb (length (up_to newline bytes)) (length bytes) h)

module _ (part : List ℕ) (from : ℕ) (p : Place) (was : List ℕ) where
  abbrev bytes : List ℕ
  bytes = drop from part

  pub record Reading (held : List ℕ) (count i : ℕ) : Type 0 where
    pub can : CanStep p was
    pub onward : from ≤ i
    pub counted : count ≡ p.held + (i - from)
    pub few : count ≤ line_most
    pub laid : held ≡ sets was p.held (take (i - from) bytes)
    pub sought : Sought newline bytes (i - from)

  pub reading_starts : CanStep p was → Reading was p.held from
  reading_starts can =
      let none : from - from ≡ 0 = omega arith in
      record {
        can = can;
        onward = omega arith;
        counted = omega arith;
        few = can.few;
        laid = rw none;
        sought = rw none (seek_starts newline bytes);
      }

  module _ {held : List ℕ} {count i : ℕ} (g : Reading held count i) where
    pub reading_long : length held ≡ length was
    reading_long = ap length g.laid ∙ length-sets was p.held (take (i - from) bytes)

    pub reading_fits : (count ≤ length held) × (p.line + 1 < 18446744073709551616)
    reading_fits = (omega (arith, g.few, reading_long, g.can.room), g.can.line_fits)

    pub reading_room : (count ≡ line_most → ⊥) → count < length held
    reading_room short = omega (arith, g.few, short, reading_long, g.can.room)

    -- the bytes of the line stand in front
    bytes_long : length bytes ≡ length part - from
    bytes_long = length-drop from part

    passed : length (take (i - from) bytes) ≡ i - from
    passed = length-take-le (i - from) bytes g.sought.0

    front : take count held ≡ begun_of p was ++ take (i - from) bytes
    front =
        let fits : p.held + length (take (i - from) bytes) ≤ length was = omega (arith, passed, g.counted, g.few, g.can.room) in
        let end : count ≡ p.held + length (take (i - from) bytes) = omega (arith, passed, g.counted) in
        rw (end, g.laid) (sets_behind (take (i - from) bytes) was p.held fits)

    begun_long : length (begun_of p was) ≡ p.held
    begun_long = length-take-le p.held was (omega (arith, g.can.few, g.can.room))

    here_long : length (line_here (begun_of p was) bytes) ≡ p.held + length (up_to newline bytes)
    here_long = omega (arith, length-append (begun_of p was) (up_to newline bytes), begun_long)

    -- where the bytes passed are all of the line, they are kept
    all_passed : i - from ≡ length (up_to newline bytes) → (take count held ≡ line_here (begun_of p was) bytes) × (held ≡ held_after p was bytes)
    unfolding held_after
    all_passed e =
        let same : take (i - from) bytes ≡ up_to newline bytes = rw e (up_front newline bytes) in
        let all : take (line_most - p.held) (up_to newline bytes) ≡ up_to newline bytes = take_all (line_most - p.held) (up_to newline bytes) (omega (arith, g.counted, g.few)) in
        (front ∙ ap (λ (l : List ℕ). begun_of p was ++ l) same, g.laid ∙ rw (same, all))

    pub reading_ends : length part ≤ i →
        (step.More (record { line = p.line; held = count }) ≡ step_of p.line (begun_of p was) bytes from) × (held ≡ held_after p was bytes)
    reading_ends h =
        let all : i - from ≡ length (up_to newline bytes) = seek_ends newline bytes (i - from) g.sought (omega (arith, bytes_long)) in
        let count_is : count ≡ length (line_here (begun_of p was) bytes) = omega (arith, here_long, g.counted) in (
          rw count_is (sym (step_more p.line (begun_of p was) bytes from (omega (arith, g.few)) (omega (arith, bytes_long)))),
          (all_passed all).1,
        )

    module _ (h : i < length part) where
      byte_is : at bytes (i - from) ≡ at part i
      byte_is = let e : from + (i - from) ≡ i = omega (arith, g.onward) in rw (get_or-drop from part (i - from) 0, e)

      more_bytes : i - from < length bytes
      more_bytes = omega (arith, bytes_long, g.onward)

      -- a newline ends the line
      pub reading_line : at part i ≡ newline → {r : Stepped} → r ≡ line_step (line_of (take count held)) p.line (i + 1) →
          (r ≡ step_of p.line (begun_of p was) bytes from) × (held ≡ held_after p was bytes)
      reading_line is e =
          let all : i - from ≡ length (up_to newline bytes) = seek_finds newline bytes (i - from) g.sought more_bytes (byte_is ∙ is) in
          let end : i + 1 ≡ from + length (up_to newline bytes) + 1 = omega (arith, g.onward) in (
            e ∙ rw ((all_passed all).0, end) (sym (step_line p.line (begun_of p was) bytes from (omega (arith, here_long, g.counted, g.few)) (omega (arith, more_bytes)))),
            (all_passed all).1,
          )

      module _ (no : at part i ≡ newline → ⊥) where
        goes_on : Sought newline bytes (i - from + 1)
        goes_on = seek_goes_on newline bytes (i - from) g.sought more_bytes (λ e. no (sym byte_is ∙ e))

        -- the line has as many bytes as it may have, and this is one more
        pub reading_full : count ≡ line_most → (step.Refused too_long p.line ≡ step_of p.line (begun_of p was) bytes from) × (held ≡ held_after p was bytes)
        unfolding held_after
        reading_full full =
            let left : line_most - p.held ≡ i - from = omega (arith, g.counted) in (
              sym (step_long p.line (begun_of p was) bytes from (omega (arith, here_long, goes_on.1, g.counted))),
              g.laid ∙ rw (left, front_of newline (i - from) bytes (omega (arith, goes_on.1))),
            )

        pub reading_goes_on : (count ≡ line_most → ⊥) → Reading (set held count (at part i)) (count + 1) (i + 1)
        reading_goes_on short =
            let next : i + 1 - from ≡ suc (i - from) = omega (arith, g.onward) in
            let end : count ≡ p.held + length (take (i - from) bytes) = omega (arith, passed, g.counted) in
            let one : i - from + 1 ≡ suc (i - from) = omega arith in
            record {
              can = g.can;
              onward = omega (arith, g.onward);
              counted = omega (arith, g.counted, g.onward);
              few = omega (arith, g.few, short);
              laid = rw (next, take-suc bytes (i - from) 0 more_bytes, byte_is, sets_append (take (i - from) bytes) (at part i ∷ []) was p.held, ← end, ← g.laid);
              sought = rw next (rw one at goes_on);
            }

-- what a sheet comes to
pub finish_ended : (p : Place) → p.held ≡ 0 → finish.Ended ≡ finish_of p
unfolding finish_of
finish_ended p e = sym (pick_yes _ _ (eq-eqb p.held 0 e))

pub finish_refused : (p : Place) → (p.held ≡ 0 → ⊥) → finish.Refused unended p.line ≡ finish_of p
unfolding finish_of
finish_refused p n = sym (pick_no _ _ (ne_eqb p.held 0 n))

-- each refusal has a number of its own, so answers that are told alike are the same
pub numbers_differ : (a b : Refusal) → refusal_number a ≡ refusal_number b → a ≡ b
numbers_differ TooLong TooLong e = refl
numbers_differ TooLong WrongWord e = absurd (omega arith)
numbers_differ TooLong WrongNumber e = absurd (omega arith)
numbers_differ TooLong Unended e = absurd (omega arith)
numbers_differ WrongWord TooLong e = absurd (omega arith)
numbers_differ WrongWord WrongWord e = refl
numbers_differ WrongWord WrongNumber e = absurd (omega arith)
numbers_differ WrongWord Unended e = absurd (omega arith)
numbers_differ WrongNumber TooLong e = absurd (omega arith)
numbers_differ WrongNumber WrongWord e = absurd (omega arith)
numbers_differ WrongNumber WrongNumber e = refl
numbers_differ WrongNumber Unended e = absurd (omega arith)
numbers_differ Unended TooLong e = absurd (omega arith)
numbers_differ Unended WrongWord e = absurd (omega arith)
numbers_differ Unended WrongNumber e = absurd (omega arith)
numbers_differ Unended Unended e = refl

refused_differ : {T : Type 0} (r s : Refused) → refusal_number r.why ≡ refusal_number s.why → r.line ≡ s.line → ◌≡◌ {A = Result T Refused} (Err r) (Err s)
refused_differ {T} r s why line =
    ap (λ (x : Refusal). told (record { why = x; line = r.line })) (numbers_differ r.why s.why why) ∙ ap (λ (n : ℕ). told (record { why = s.why; line = n })) line
  where
    told : Refused → Result T Refused
    told r = Err r

pub steps_differ : (x y : Result Given Refused) → stepped_of x ≡ stepped_of y → x ≡ y
steps_differ (Ok (given.More p)) (Ok (given.More q)) e = cc
steps_differ (Ok (given.More p)) (Ok (given.Order o end q)) e = let z : ◌≡◌ {A = ℕ} 0 1 = cc in absurd (omega arith)
steps_differ (Ok (given.More p)) (Err r) e = let z : ◌≡◌ {A = ℕ} 0 1 = cc in absurd (omega arith)
steps_differ (Ok (given.Order o end p)) (Ok (given.More q)) e = let z : ◌≡◌ {A = ℕ} 0 1 = cc in absurd (omega arith)
steps_differ (Ok (given.Order o end p)) (Ok (given.Order o' end' q)) e = cc
steps_differ (Ok (given.Order o end p)) (Err r) e = let z : ◌≡◌ {A = ℕ} 0 1 = cc in absurd (omega arith)
steps_differ (Err r) (Ok (given.More q)) e = let z : ◌≡◌ {A = ℕ} 0 1 = cc in absurd (omega arith)
steps_differ (Err r) (Ok (given.Order o end q)) e = let z : ◌≡◌ {A = ℕ} 0 1 = cc in absurd (omega arith)
steps_differ (Err r) (Err s) e = refused_differ r s (cc) (cc)

pub finishes_differ : (x y : Result (Unit {0}) Refused) → finished_of x ≡ finished_of y → x ≡ y
finishes_differ (Ok _) (Ok _) e = refl
finishes_differ (Ok _) (Err r) e = let z : ◌≡◌ {A = ℕ} 0 1 = cc in absurd (omega arith)
finishes_differ (Err r) (Ok _) e = let z : ◌≡◌ {A = ℕ} 0 1 = cc in absurd (omega arith)
finishes_differ (Err r) (Err s) e = refused_differ r s (cc) (cc)
