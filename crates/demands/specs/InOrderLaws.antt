-- The first of a list of tests gives its rules' numbers in order.
use Rattle.std.specs.Prelude.{◌≡◌, refl, ◌↔◌, ◌⊎◌, Bool, true, false, not, ◌&&◌, List, [], ◌∷◌, ℕ, zero, suc, ◌<◌, eqb, length, take}
use Rattle.std.proofs.Common.{sym, ◌∙◌, subst, inl, inr, arith}
use Rattle.std.proofs.Math.Bool.{and-eq-true_iff}
use Rattle.std.proofs.Math.Decide.{ℕ_discrete}
use Rattle.std.proofs.lemmas.Bool.{eqb-false, not-true}
use Rattle.units.specs.Tests.{is_not, pick, and_true, and_holds, not_holds, not_fails, fails, holds_not_fails}
use Rattle.units.specs.Cases.{Case, first_of}
use Rattle.units.specs.CaseLaws.{case_at, none, foreign, apart, given, given_none, none_at}
use Rattle.demands.specs.InOrder.{Rule, rule_at, NoneOf, GivenInOrder}

-- the tests are those of the rules, one by one: the same numbers, and each test holds exactly in its rule's case
abbrev pub Reads : List Case → List Rule → Type 0
Reads [] [] = Unit
Reads [] (r ∷ rs) = ⊥
Reads (c ∷ cs) [] = ⊥
Reads (c ∷ cs) (r ∷ rs) = (c.number ≡ r.number) × ((c.test ≡ true) ↔ r.case) × Reads cs rs

reads_take : (cs : List Case) (rs : List Rule) (i : ℕ) → Reads cs rs → Reads (take i cs) (take i rs)
reads_take cs rs zero r = tt
reads_take [] [] (suc i) r = tt
reads_take [] (x ∷ rs) (suc i) r = absurd r
reads_take (c ∷ cs) [] (suc i) r = absurd r
reads_take (c ∷ cs) (x ∷ rs) (suc i) r = (r.0, r.1, reads_take cs rs i r.2)

reads_length : (cs : List Case) (rs : List Rule) → Reads cs rs → length cs ≡ length rs
reads_length [] [] r = refl
reads_length [] (x ∷ rs) r = absurd r
reads_length (c ∷ cs) [] r = absurd r
reads_length (c ∷ cs) (x ∷ rs) r = omega (arith, reads_length cs rs r.2)

reads_at : (cs : List Case) (rs : List Rule) (i : ℕ) → Reads cs rs → i < length rs
    → ((case_at cs i).number ≡ (rule_at rs i).number) × (((case_at cs i).test ≡ true) ↔ (rule_at rs i).case)
reads_at [] [] i r h = absurd (omega arith)
reads_at [] (x ∷ rs) i r h = absurd r
reads_at (c ∷ cs) [] i r h = absurd r
reads_at (c ∷ cs) (x ∷ rs) zero r h = (r.0, r.1)
reads_at (c ∷ cs) (x ∷ rs) (suc i) r h = reads_at cs rs i r.2 (omega arith)

reads_none : (cs : List Case) (rs : List Rule) → Reads cs rs → (none cs ≡ true) ↔ NoneOf rs
reads_none [] [] r = (λ _. tt, λ _. refl)
reads_none [] (x ∷ rs) r = absurd r
reads_none (c ∷ cs) [] r = absurd r
reads_none (c ∷ cs) (x ∷ rs) r =
    let rest = reads_none cs rs r.2 in (
      λ n.
          let two = and_true (is_not c.test) (none cs) n in
          (λ k. holds_not_fails (r.1.1 k) (not_holds c.test two.0), rest.0 two.1),
      λ p. and_holds (is_not c.test) (none cs) (not_fails c.test (fails c.test (λ h. p.0 (r.1.0 h)))) (rest.1 p.1),
    )

-- no number is given exactly where no rule applies
pub none_ruled : (d : ℕ) (cs : List Case) (rs : List Rule) → apart d cs ≡ true → Reads cs rs → (first_of d cs ≡ d) ↔ NoneOf rs
none_ruled d cs rs a r =
    let all = reads_none cs rs r in
    let by = given_none d cs a in
    (λ e. all.0 (by.0 e), λ p. by.1 (all.1 p))

-- where no number is given, the test of each place fails
pub fails_at : (d : ℕ) (cs : List Case) → apart d cs ≡ true → first_of d cs ≡ d → (i : ℕ) → (case_at cs i).test ≡ false
fails_at d cs a e i = none_at cs i ((given_none d cs a).0 e)

-- what is given is the number of some place, or d
data Found (d : ℕ) (cs : List Case) : Type 0 where
  nowhere : first_of d cs ≡ d → Found d cs
  at_place : (i : ℕ) → i < length cs → first_of d cs ≡ (case_at cs i).number → Found d cs

found_next : (d : ℕ) (c : Case) (cs : List Case) (t : Bool) → c.test ≡ t → Found d cs → Found d (c ∷ cs)
unfolding pick
found_next d c cs true h f = at_place 0 (omega arith) (rw h)
found_next d c cs false h (nowhere e) = nowhere (rw h e)
found_next d c cs false h (at_place i l e) = at_place (suc i) (omega arith) (rw h e)

found : (d : ℕ) (cs : List Case) → Found d cs
found d [] = nowhere refl
found d (c ∷ cs) = found_next d c cs c.test refl (found d cs)

-- no place has the number d
apart_at : (d : ℕ) (cs : List Case) (i : ℕ) → apart d cs ≡ true → i < length cs → (case_at cs i).number ≡ d → ⊥
apart_at d [] i a h e = omega arith
apart_at d (c ∷ cs) zero a h e = eqb-false c.number d (not-true (eqb c.number d) ((and-eq-true_iff (not (eqb c.number d)) _).0 a).0) e
apart_at d (c ∷ cs) (suc i) a h e =
    let rest = ((and-eq-true_iff (not (eqb c.number d)) (foreign c.number cs && apart d cs)).0 a).1 in
    apart_at d cs i ((and-eq-true_iff (foreign c.number cs) (apart d cs)).0 rest).1 (omega arith) e

-- what gives n is that the first of the tests is n, other than d, and what is otherwise that it is d
module _ (d : ℕ) (cs : List Case) (rs : List Rule) (gives : ℕ → Type 0) (otherwise : Type 0)
    (a : apart d cs ≡ true) (r : Reads cs rs) (g : (n : ℕ) → (n ≡ d → ⊥) → gives n ↔ (first_of d cs ≡ n)) (o : otherwise ↔ (first_of d cs ≡ d))
    (z : gives d → otherwise) where
  each_given : (i : ℕ) → i < length rs → gives (rule_at rs i).number ↔ (NoneOf (take i rs) × (rule_at rs i).case)
  each_given i h =
      let l : i < length cs = omega (arith, reads_length cs rs r) in
      let (same, case) = reads_at cs rs i r h in
      let before = reads_none (take i cs) (take i rs) (reads_take cs rs i r) in
      let by = given d cs i a l in
      let told = g (case_at cs i).number (apart_at d cs i a l) in
      rw (← same) (
        λ x. (let p = by.0 (told.0 x) in (before.0 p.0, case.0 p.1)),
        λ p. told.1 (by.1 (before.1 p.0, case.1 p.1)),
      )

  only_given : (n : ℕ) → gives n → otherwise ⊎ ((i : ℕ) × (i < length rs) × (n ≡ (rule_at rs i).number))
  only_given n x = elim (ℕ_discrete n d) [
    | yes e ↦ inl (z (subst gives e x))
    | no e ↦ elim (found d cs) [
      | nowhere f ↦ inl (o.1 f)
      | at_place i l f ↦
          (let k : i < length rs = omega (arith, reads_length cs rs r) in
          inr (i, k, sym ((g n e).0 x) ∙ (f ∙ (reads_at cs rs i r k).0)))
    ]
  ]

  in_order : GivenInOrder rs gives otherwise
  in_order = record {
    each = each_given;
    none = (let by = none_ruled d cs rs a r in (λ x. by.0 (o.0 x), λ p. o.1 (by.1 p)));
    only = only_given;
  }

-- a number that is the first of the tests
pub number_in_order : (d : ℕ) (cs : List Case) (rs : List Rule) → apart d cs ≡ true → Reads cs rs → {code : ℕ} → code ≡ first_of d cs
    → GivenInOrder rs (λ n. code ≡ n) (code ≡ d)
number_in_order d cs rs a r e = in_order d cs rs _ _ a r (λ n _. (λ x. sym e ∙ x, λ y. e ∙ y)) (λ x. sym e ∙ x, λ y. e ∙ y) (λ x. x)

-- what an answer comes to by its number n, which is 0 where no test holds: no number but 0 is given and it is
-- otherwise, or n is given and no other
pub data Comes (n : ℕ) (gives : ℕ → Type 0) (otherwise : Type 0) : Type 0 where
  by_none : n ≡ 0 → otherwise → ((k : ℕ) → gives k → k ≡ 0) → Comes n gives otherwise
  by_number : 0 < n → gives n → ((k : ℕ) → gives k → n ≡ k) → (otherwise → ⊥) → Comes n gives otherwise

pub comes_in_order : (cs : List Case) (rs : List Rule) → apart 0 cs ≡ true → Reads cs rs → {gives : ℕ → Type 0} {otherwise : Type 0} → Comes (first_of 0 cs) gives otherwise
    → GivenInOrder rs gives otherwise
comes_in_order cs rs a r (by_none e x never) =
    in_order 0 cs rs _ _ a r (λ k z. (λ y. absurd (z (never k y)), λ f. absurd (z (sym f ∙ e)))) (λ _. e, λ _. x) (λ _. x)
comes_in_order cs rs a r {gives} (by_number h y one not) =
    in_order 0 cs rs _ _ a r (λ k z. (one k, λ f. subst gives f y)) (λ x. absurd (not x), λ e. absurd (omega arith)) (λ w. absurd (omega (arith, one 0 w)))
