-- `one_event` meets its contract: each arm is a row of the table, and the last is 33.
use Rattle.std.proofs.Common.{◌≡◌, ℕ, Bool, false, eqb, ◌<◌, get_or, refl, sym, ◌∙◌, arith, rules}
use Rattle.std.proofs.lemmas.Bool.{eqb-true, eqb-false}
use Rattle.tape.specs.Kinds.{Other}
use Rattle.tape.specs.declared.Event.TheVariants.{Settings, Away, Turn, Open}
use Rattle.tape.specs.Tape.{kinds, numbers, settings_numbers, settings_of, settings, away_of, away, form_in, form_of}
use Rattle.tape.specs.OneLaws.{one_none, one_by, one_by_count, one_other}
use Rattle.tape.proofs.one.one_event.Goals as goal

-- where they are not empty there are some
some : (n : ℕ) {none : Bool} → none ≡ eqb n 0 → none ≡ false → 0 < n
some n e f = let h = eqb-false n 0 (sym e ∙ f) in omega arith

pub returns-then-is_empty : goal.returns-then-is_empty
unfolding form_in form_of settings away numbers
returns-then-is_empty c = one_none _ (eqb-true _ 0 (sym c.is_empty.ensures ∙ c.if-is_empty.true))

pub returns-in-1 : goal.returns-in-1
unfolding form_in form_of settings away numbers
returns-in-1 c = one_by_count _ (some _ c.is_empty.ensures c.if-is_empty.false) 1 settings_numbers (λ v. Settings (settings_of v)) refl c.in-1.is

pub returns-in-2 : goal.returns-in-2
unfolding form_in form_of settings away numbers
returns-in-2 c = one_by_count _ (some _ c.is_empty.ensures c.if-is_empty.false) 2 2 (λ v. Away (away_of v)) refl c.in-2.is

pub returns-in-3 : goal.returns-in-3
unfolding form_in form_of settings away numbers
returns-in-3 c = one_by _ (some _ c.is_empty.ensures c.if-is_empty.false) 3 c.in-3.is c.one_submit.ensures

pub returns-in-4 : goal.returns-in-4
unfolding form_in form_of settings away numbers
returns-in-4 c = one_by_count _ (some _ c.is_empty.ensures c.if-is_empty.false) 4 0 (λ v. Turn) refl c.in-4.is

pub returns-in-5 : goal.returns-in-5
unfolding form_in form_of settings away numbers
returns-in-5 c = one_by_count _ (some _ c.is_empty.ensures c.if-is_empty.false) 5 0 (λ v. Open) refl c.in-5.is

pub returns-in_default : goal.returns-in_default
unfolding form_in form_of settings away numbers
returns-in_default c =
    let none : Other (Unit {0}) kinds (get_or c.args.numbers.now 0 0) = search rules in
    one_other _ (some _ c.is_empty.ensures c.if-is_empty.false) none
