-- What the tests of a byte say.
use Rattle.std.specs.Prelude.{◌≡◌, true, false, List, [], ℕ, ◌+◌, ◌≤◌, ◌<◌, ltb, eqb, length, take, set}
use Rattle.std.proofs.Math.Path.{refl}
use Rattle.std.proofs.Common.{arith, ltb-true, ltb-false, eqb-true}
use Rattle.std.proofs.lemmas.Bool.{eqb-false}
use Rattle.units.specs.Tests.{◌and◌, ◌or◌, picked, picked_of_both, and_true, and_false, or_false}
use Rattle.units.specs.Units.{most32}
use Rattle.writer.specs.Write.{write_refusal}
use Rattle.writer.specs.WriteLaws.{accepted}
use Rattle.figures.specs.declared.Place.{Place}
use Rattle.figures.specs.Figures.{space, newline}
use Rattle.figures.specs.Reading.{Moved, refused_at, with_digit, misplaced, digit_of, can_end, end_of, numbers_after, Reader, Step, silent, writing, line_end, byte_of}

-- a byte that is not misplaced
pub placed : (b : ℕ) (p : Place) → misplaced b p ≡ false → (48 ≤ b) × (b ≤ 57) × (p.begun ≡ true → 0 < p.value)
unfolding misplaced
placed b p h =
    let two = or_false (ltb b 48 or ltb 57 b) (p.begun and eqb p.value 0) h in
    let range = or_false (ltb b 48) (ltb 57 b) two.0 in
    (ltb-false b 48 range.0, ltb-false 57 b range.1, λ begun. omega (arith, eqb-false p.value 0 (and_false p.begun (eqb p.value 0) two.1 begun)))

-- where a number can end there is room for it
pub can_fits : (p : Place) (room : ℕ) → can_end p room ≡ true → p.count < room
unfolding can_end
can_fits p room h = ltb-true p.count room (and_true p.begun (ltb p.count room) h).1

-- what a byte writes fits the room, it ends one line at most, and where its line is refused it writes nothing
module _ (b room : ℕ) (r : Reader) where
  pub record Small (st : Step) : Type 0 where
    pub fits : length st.bytes ≤ room
    pub near : st.reader.place.line ≤ r.place.line + 1
    pub silent : eqb st.code 0 ≡ false → st.bytes ≡ []

  small : (numbers : List ℕ) (m : Moved) → m.place.line ≡ r.place.line → Small (silent numbers m)
  small numbers m e = record { fits = omega arith; near = omega arith; silent = λ _. refl }

  -- the numbers of the line, when its last number ends
  abbrev ended : List ℕ
  ended = take (r.place.count + 1) (set r.numbers r.place.count r.place.value)

  end_near : (room : ℕ) → (end_of r.place room).place.line ≡ r.place.line
  unfolding end_of
  end_near room = picked_of_both (λ (m : Moved). m.place.line ≡ r.place.line) (can_end r.place room) _ _ refl refl

  digit_near : (digit_of b r.place).place.line ≡ r.place.line
  unfolding digit_of
  digit_near =
      picked_of_both (λ (m : Moved). m.place.line ≡ r.place.line) (misplaced b r.place) _ _ refl
      (picked_of_both (λ (m : Moved). m.place.line ≡ r.place.line) (ltb most32 (with_digit b r.place)) _ _ refl refl)

  pub step_small : Small (byte_of b room r)
  unfolding byte_of line_end writing
  step_small =
      picked Small (eqb b newline) _ _
      (λ _. picked_of_both Small (can_end r.place (length r.numbers)) _ _
      (picked Small (eqb (write_refusal ended room) 0) _ _
      (λ e. record {
        fits = (accepted ended room (eqb-true (write_refusal ended room) 0 e)).1;
        near = omega arith;
        silent = λ no. absurd (eqb-false 0 0 no refl);
      })
      (λ _. record { fits = omega arith; near = omega arith; silent = λ _. refl }))
      (small r.numbers (refused_at r.place) refl))
      (λ _. picked_of_both Small (eqb b space) _ _
      (small (numbers_after r.place r.numbers) (end_of r.place (length r.numbers)) (end_near (length r.numbers)))
      (small r.numbers (digit_of b r.place) digit_near))
