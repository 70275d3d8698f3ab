-- Numbers are exactly one event where they lead to one, and the writer's way to ask: their count, by their kind.
use Rattle.std.specs.Prelude.{◌≡◌, Bool, true, false, ℕ, zero, suc, ◌+◌, ◌*◌, ◌≤◌, ◌<◌, eqb, get_or, drop}
use Rattle.std.proofs.Math.Path.{refl, ap}
use Rattle.std.proofs.Common.{sym, ◌∙◌, arith, length-drop, eq-eqb, ne_eqb}
use Rattle.std.proofs.lemmas.Bool.{false≢true}
use mathlib.Core.List.{List, [], ◌∷◌}
use Rattle.std.proofs.Math.Decide.{ℕ_discrete}
use Rattle.std.proofs.Math.ListN.{length}
use Rattle.entry.specs.Numbers.{entry_numbers, bulk, from1to}
use Rattle.tape.specs.declared.Event.{Event}
use Rattle.tape.specs.declared.Event.TheVariants.{Submit}
use Rattle.tape.specs.Tape.{Form, whole, bad, more, numbers, submit, kinds, form_of, event}
use Rattle.tape.specs.Kinds.{Other, form_33}
use Rattle.tape.specs.Depth.{Within, more_within, most_numbers, event_within}
use Rattle.tape.specs.Steps.{entries_bad, entries_several}
use Rattle.tape.specs.Leads.{Leads}
use Rattle.tape.specs.One.{one_event}

-- they lead to the event that they are
pub one_leads : (form : Form) (vs : List ℕ) → one_event form vs ≡ true → (e : Event) × Leads form vs e
unfolding one_event
one_leads (whole e) [] h = (e, refl)
one_leads (whole e) (v ∷ vs) h = absurd (false≢true h)
one_leads (bad why) vs h = absurd (false≢true h)
one_leads (more f) [] h = absurd (false≢true h)
one_leads (more f) (v ∷ vs) h = one_leads (f v) vs h

-- and no others lead to one
pub leads_one : (form : Form) (vs : List ℕ) (e : Event) → Leads form vs e → one_event form vs ≡ true
unfolding one_event
leads_one (whole e') [] e l = refl
leads_one (whole e') (v ∷ vs) e l = absurd l
leads_one (bad why) vs e l = absurd l
leads_one (more f) [] e l = absurd l
leads_one (more f) (v ∷ vs) e l = leads_one (f v) vs e l

-- they are no more than its form has
one_most : (n : ℕ) (form : Form) (vs : List ℕ) → Within n form → one_event form vs ≡ true → length vs ≤ n
unfolding one_event
one_most n (whole e) [] w h = omega arith
one_most n (whole e) (v ∷ vs) w h = absurd (false≢true h)
one_most n (bad why) vs w h = absurd (false≢true h)
one_most n (more f) [] w h = omega arith
one_most zero (more f) (v ∷ vs) w h = elim w [ ]
one_most (suc n) (more f) (v ∷ vs) (more_within w) h = let i = one_most n (f v) vs (w v) h in omega arith

pub one_within : (vs : List ℕ) → one_event event vs ≡ true → length vs ≤ most_numbers
one_within vs h = one_most most_numbers event vs event_within h

-- two tests of two numbers each are the same test
same_test : (a b c d : ℕ) → (a ≡ b → c ≡ d) → (c ≡ d → a ≡ b) → eqb a b ≡ eqb c d
same_test a b c d there back = elim (ℕ_discrete a b) [
  | yes e ↦ rw (eq-eqb a b e, eq-eqb c d (there e))
  | no n ↦ rw (ne_eqb a b n, ne_eqb c d (λ e. n (back e)))
]

-- an event of so many numbers is asked for their count alone
one_several : (n : ℕ) (g : List ℕ → Event) (vs : List ℕ) → eqb (length vs) n ≡ one_event (numbers n (λ v. whole (g v))) vs
unfolding one_event numbers
one_several zero g [] = refl
one_several zero g (v ∷ vs) = ne_eqb (length (v ∷ vs)) 0 (λ e. omega arith)
one_several (suc n) g [] = ne_eqb 0 (suc n) (λ e. omega arith)
one_several (suc n) g (v ∷ vs) =
    same_test (length (v ∷ vs)) (suc n) (length vs) n (λ e. omega arith) (λ e. omega arith) ∙ one_several n (λ ws. g (v ∷ ws)) vs

-- a submit is asked for its count, and by that for how many there are
pub submit_short : (vs : List ℕ) → length vs < 3 → false ≡ one_event submit (drop 1 vs)
unfolding one_event submit
submit_short [] h = refl
submit_short (kind ∷ []) h = refl
submit_short (kind ∷ tenant ∷ []) h = refl
submit_short (kind ∷ tenant ∷ count ∷ vs) h = absurd (omega arith)

pub submit_outside : (vs : List ℕ) → 3 ≤ length vs → from1to bulk (get_or vs 2 0) ≡ false → false ≡ one_event submit (drop 1 vs)
unfolding one_event submit
submit_outside [] h f = absurd (omega arith)
submit_outside (kind ∷ []) h f = absurd (omega arith)
submit_outside (kind ∷ tenant ∷ []) h f = absurd (omega arith)
submit_outside (kind ∷ tenant ∷ count ∷ vs) h f = ap (λ (form : Form). one_event form vs) (sym (entries_bad tenant count f))

pub submit_counted :
    (vs : List ℕ) → 3 ≤ length vs → from1to bulk (get_or vs 2 0) ≡ true →
    eqb (length vs) (3 + entry_numbers * get_or vs 2 0) ≡ one_event submit (drop 1 vs)
unfolding one_event submit
submit_counted [] h t = absurd (omega arith)
submit_counted (kind ∷ []) h t = absurd (omega arith)
submit_counted (kind ∷ tenant ∷ []) h t = absurd (omega arith)
submit_counted (kind ∷ tenant ∷ count ∷ vs) h t =
    same_test (length (kind ∷ tenant ∷ count ∷ vs)) (3 + entry_numbers * count) (length vs) (entry_numbers * count) (λ e. omega arith) (λ e. omega arith)
    ∙ (one_several (entry_numbers * count) (λ w. Submit tenant count) vs
    ∙ ap (λ (form : Form). one_event form vs) (sym (entries_several tenant count t)))

pub one_none : (vs : List ℕ) → length vs ≡ 0 → false ≡ one_event event vs
unfolding one_event event
one_none [] h = refl
one_none (v ∷ vs) h = absurd (omega arith)

-- any numbers are asked by their kind
module _ (vs : List ℕ) (some : 0 < length vs) where
  behind : one_event (form_of (get_or vs 0 0)) (drop 1 vs) ≡ one_event event vs
  unfolding one_event event
  behind = go vs some
    where
      go : (vs : List ℕ) → 0 < length vs → one_event (form_of (get_or vs 0 0)) (drop 1 vs) ≡ one_event event vs
      go [] h = absurd (omega arith)
      go (v ∷ vs) h = refl

  pub one_by : (kind : ℕ) {r : Bool} → get_or vs 0 0 ≡ kind → r ≡ one_event (form_of kind) (drop 1 vs) → r ≡ one_event event vs
  one_by kind e is = is ∙ (ap (λ (k : ℕ). one_event (form_of k) (drop 1 vs)) (sym e) ∙ behind)

  pub one_by_count :
      (kind n : ℕ) (g : List ℕ → Event) → form_of kind ≡ numbers n (λ v. whole (g v)) → get_or vs 0 0 ≡ kind →
      eqb (length vs) (1 + n) ≡ one_event event vs
  one_by_count kind n g is e =
      one_by kind e
      (same_test (length vs) (1 + n) (length (drop 1 vs)) n (λ q. omega (arith, length-drop 1 vs)) (λ q. omega (arith, length-drop 1 vs))
      ∙ (one_several n g (drop 1 vs) ∙ ap (λ (form : Form). one_event form (drop 1 vs)) (sym is)))

  pub one_other : {so : Type 0} → Other so kinds (get_or vs 0 0) → false ≡ one_event event vs
  unfolding form_of one_event
  one_other other = ap (λ (form : Form). one_event form (drop 1 vs)) (sym (form_33 kinds (get_or vs 0 0) other).0) ∙ behind
