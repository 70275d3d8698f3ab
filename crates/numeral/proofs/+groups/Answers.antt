-- Each return is a case of `number_in`, by the laws of `Steps`.
use Rattle.std.proofs.Common.{◌≡◌, ℕ, ◌+◌, ◌-◌, ◌%◌, ◌<◌, ◌≤◌, List, Result, length, get_or, drop, refl, sym, ap, ◌∙◌, arith}
use Rattle.std.proofs.lemmas.Result.{err_from_is_err_and}
use Rattle.numeral.specs.declared.Refusal.{Refusal}
use Rattle.numeral.specs.Number.{number_in, joined, placed}
use Rattle.numeral.specs.Steps.{at_none, at_end, at_last, at_more, joined_zero, joined_above, joined_read}
use Rattle.numeral.proofs.+groups.Goals as goal

-- what the call of itself says of the whole
more :
    (k : ℕ) (s : List ℕ) (at : ℕ) (n : Result (ℕ × ℕ) Refusal) → placed (at + 1) n ≡ number_in (k - 1) (drop (at + 1) s) (at + 1) → (k ≡ 0 → ⊥) →
    at < length s → 128 ≤ get_or s at 0 → (told : Result (ℕ × ℕ) Refusal) → n ≡ told →
    number_in k (drop at s) at ≡ joined (get_or s at 0 % 128) (placed (at + 1) told)
more k s at n e some h b told is = at_more k s at some h b ∙ ap (joined _) (sym e ∙ ap (placed (at + 1)) is)

pub returns-then-allowed-eq0-clause-answer : goal.returns-then-allowed-eq0-clause-answer
returns-then-allowed-eq0-clause-answer t c = sym (at_none _ _ _ c.if-allowed-eq0.true)

pub returns-then-s-at-clause-answer : goal.returns-then-s-at-clause-answer
returns-then-s-at-clause-answer t c = sym (at_end _ c.args.s.now _ c.if-allowed-eq0.false c.if-s-at.true)

pub returns-then-b-lt128-clause-answer : goal.returns-then-b-lt128-clause-answer
returns-then-b-lt128-clause-answer t c = sym (at_last c.args.allowed c.args.s.now c.args.at c.if-allowed-eq0.false c.if-s-at.false c.if-b-lt128.true)

pub returns-in_err-high-clause-answer : goal.returns-in_err-high-clause-answer
returns-in_err-high-clause-answer t c =
    let m = more c.args.allowed c.args.s.now c.args.at _ c.groups.ensures.answer c.if-allowed-eq0.false c.if-s-at.false c.if-b-lt128.false _ c.in_err-high.was in
    let told = err_from_is_err_and c.from_residual.result c.from_residual.ensures.1 in
    rw (told.1, told.2) (sym m)

pub returns-then-high-eq0-clause-answer : goal.returns-then-high-eq0-clause-answer
returns-then-high-eq0-clause-answer t c =
    let m = more c.args.allowed c.args.s.now c.args.at _ c.groups.ensures.answer c.if-allowed-eq0.false c.if-s-at.false c.if-b-lt128.false _ c.in_ok-high.was in
    sym (m ∙ joined_zero _ _ _ c.if-high-eq0.true)

pub returns-then-high-ge-PAST-clause-answer : goal.returns-then-high-ge-PAST-clause-answer
returns-then-high-ge-PAST-clause-answer t c =
    let m = more c.args.allowed c.args.s.now c.args.at _ c.groups.ensures.answer c.if-allowed-eq0.false c.if-s-at.false c.if-b-lt128.false _ c.in_ok-high.was in
    sym (m ∙ joined_above _ _ _ c.if-high-eq0.false (omega arith))

pub returns-clause-answer : goal.returns-clause-answer
returns-clause-answer t c =
    let m = more c.args.allowed c.args.s.now c.args.at _ c.groups.ensures.answer c.if-allowed-eq0.false c.if-s-at.false c.if-b-lt128.false _ c.in_ok-high.was in
    let end : c.args.at + 1 + c.in_ok-high.count ≡ c.args.at + (c.in_ok-high.count + 1) = omega arith in
    sym (m ∙ joined_read _ _ _ (omega arith) c.if-high-eq0.false (omega arith) ∙ rw end refl)
