-- `figures::reading::digit` meets its contract: a digit that is not misplaced makes a number that fits, or none.
use Rattle.std.proofs.Common.{◌≡◌, sym, ◌∙◌, true, false, ℕ, ◌≤◌, ◌<◌, arith, lt-ltb, le-ltb}
use Rattle.units.specs.Tests.{pick}
use Rattle.units.specs.Units.{most32}
use Rattle.figures.specs.declared.Place.{Place}
use Rattle.figures.specs.Reading.{goes_to, refused_at, with_digit, misplaced, digit_of}
use Rattle.figures.specs.ReadingLaws.{placed}
use Rattle.figures.proofs.reading.digit.Goals as goal

module _ (b : ℕ) (p : Place) (right : misplaced b p ≡ false) where
  large : most32 < with_digit b p → refused_at p ≡ digit_of b p
  unfolding digit_of pick
  large h = rw (right, lt-ltb _ _ h)

  small : (n : ℕ) → n ≡ with_digit b p → n ≤ most32 → goes_to record { line = p.line; count = p.count; begun = true; value = n } ≡ digit_of b p
  unfolding digit_of pick
  small n e h = rw (right, le-ltb most32 (with_digit b p) (omega arith), e)

pub returns-then-misplaced : goal.returns-then-misplaced
unfolding digit_of pick
returns-then-misplaced c = rw (sym c.misplaced.ensures ∙ c.if-misplaced.true)

pub overflow_sub-b : goal.overflow_sub-b
overflow_sub-b c = (placed c.args.b c.args.place (sym c.misplaced.ensures ∙ c.if-misplaced.false)).0

pub returns-in_err-tens : goal.returns-in_err-tens
returns-in_err-tens c = rw c.from_residual.ensures (large c.args.b c.args.place (sym c.misplaced.ensures ∙ c.if-misplaced.false) (omega (arith, c.in_err-tens.ensures)))

pub returns-in_err-value : goal.returns-in_err-value
returns-in_err-value c =
    rw c.from_residual-in_err-value.ensures
    (large c.args.b c.args.place (sym c.misplaced.ensures ∙ c.if-misplaced.false) (omega (arith, c.in_ok-tens.ensures, c.from.ensures, c.in_err-value.ensures)))

pub returns : goal.returns
returns c =
    small c.args.b c.args.place (sym c.misplaced.ensures ∙ c.if-misplaced.false) c.in_ok-value.value
    (omega (arith, c.in_ok-tens.ensures, c.from.ensures, c.in_ok-value.ensures)) (omega (arith, c.in_ok-value.ensures))
