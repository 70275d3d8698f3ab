-- Laws of the tallies: what stands where after adding, adding twice, adding for one tenant, and the sums over all
-- tenants.
use Rattle.std.specs.Prelude.{◌≡◌, eqb, length, set}
use Rattle.std.proofs.Math.Path.{refl, ap}
use Rattle.std.proofs.Common.{sym, ◌∙◌, add_assoc, zero-add, eq-eqb, ne_eqb, length-set, get_or-set_same, get_or-set_other, ext_get_or}
use mathlib.Core.List.{List, [], ◌∷◌}
use Prim.Native.Nat.{ℕ, zero, suc, ◌+◌, ◌≤◌, ◌<◌}
use Rattle.std.proofs.Math.Nat.{add-zero}
use Rattle.std.proofs.Math.Decide.{ℕ_discrete}
use native.Mathlib.Omega.{arith}
use Rattle.std.proofs.lemmas.List.{get_or-replicate}
use Rattle.units.specs.Units.{tenants}
use Rattle.units.specs.Sums.{sum_to, sum_add, sum_has, sum_none, sum_only}
use Rattle.units.specs.Picked.{keep_none}
use Rattle.tally.specs.declared.Tally.{Tally}
use Rattle.tally.specs.Tallies as tallies
use Rattle.tally.specs.Tallies.{plus, tally_at, no_tallies, added_from, added, only_for, counted, in_all, turns_in_all, bought_in_all, sold_in_all}

module _ (turns bought sold : ℕ → ℕ) where
  pub added_length : (t : ℕ) (xs : List Tally) → length (added_from t turns bought sold xs) ≡ length xs
  unfolding added_from
  added_length t [] = refl
  added_length t (x ∷ xs) = ap suc (added_length (suc t) xs)

  added_from_lem : (t : ℕ) (xs : List Tally) (u : ℕ) → u < length xs →
      tally_at (added_from t turns bought sold xs) u ≡ plus (tally_at xs u) (turns (t + u)) (bought (t + u)) (sold (t + u))
  unfolding added_from
  added_from_lem t [] u h = absurd (omega arith)
  added_from_lem t (x ∷ xs) zero h = rw add-zero
  added_from_lem t (x ∷ xs) (suc u) h =
      let e : suc t + u ≡ t + suc u = omega arith in
      rw e at (added_from_lem (suc t) xs u (omega arith))

  -- a tenant's tally after adding
  pub added_at : (xs : List Tally) (u : ℕ) → u < length xs → tally_at (added turns bought sold xs) u ≡ plus (tally_at xs u) (turns u) (bought u) (sold u)
  added_at xs u h = rw zero-add at (added_from_lem 0 xs u h)

  -- a list of tallies that has been added to, tenant by tenant
  pub added_is :
      (xs ys : List Tally) → length ys ≡ length xs →
      ((u : ℕ) → u < length xs → tally_at ys u ≡ plus (tally_at xs u) (turns u) (bought u) (sold u)) → ys ≡ added turns bought sold xs
  added_is xs ys l h =
      ext_get_or tallies.zero ys (added turns bought sold xs) (l ∙ sym (added_length 0 xs)) (λ u p. h u (omega arith) ∙ sym (added_at xs u (omega arith)))

-- equal sums, equal tallies
pub plus_same : (x : Tally) {a a' b b' c c' : ℕ} → a ≡ a' → b ≡ b' → c ≡ c' → plus x a b c ≡ plus x a' b' c'
plus_same x p q r = rw (p, q, r)

-- adding nothing
pub plus_none : (x : Tally) → plus x 0 0 0 ≡ x
plus_none x = λ i. record { turns = add-zero x.turns i; bought = add-zero x.bought i; sold = add-zero x.sold i }

-- adding twice
pub plus_twice : (x : Tally) (a b c a' b' c' : ℕ) → plus (plus x a b c) a' b' c' ≡ plus x (a + a') (b + b') (c + c')
plus_twice x a b c a' b' c' = λ i. record {
  turns = add_assoc x.turns a a' i;
  bought = add_assoc x.bought b b' i;
  sold = add_assoc x.sold c c' i;
}

-- what is added may be written in any way
pub added_same :
    {f f' g g' h h' : ℕ → ℕ} (xs : List Tally) →
    ((u : ℕ) → u < length xs → f u ≡ f' u) → ((u : ℕ) → u < length xs → g u ≡ g' u) → ((u : ℕ) → u < length xs → h u ≡ h' u) →
    added f g h xs ≡ added f' g' h' xs
added_same {f} {f'} {g} {g'} {h} {h'} xs p q r =
    added_is f' g' h' xs (added f g h xs) (added_length f g h 0 xs)
    (λ u l. added_at f g h xs u l ∙ plus_same (tally_at xs u) (p u l) (q u l) (r u l))

pub added_none : (xs : List Tally) → added (λ u. 0) (λ u. 0) (λ u. 0) xs ≡ xs
added_none xs = sym (added_is (λ u. 0) (λ u. 0) (λ u. 0) xs xs refl (λ u l. sym (plus_none (tally_at xs u))))

pub added_twice :
    (f g h f' g' h' : ℕ → ℕ) (xs : List Tally) →
    added f' g' h' (added f g h xs) ≡ added (λ u. f u + f' u) (λ u. g u + g' u) (λ u. h u + h' u) xs
added_twice f g h f' g' h' xs =
    let long = added_length f g h 0 xs in
    added_is _ _ _ xs (added f' g' h' (added f g h xs)) (added_length f' g' h' 0 (added f g h xs) ∙ long)
    (λ u l.
    added_at f' g' h' (added f g h xs) u (omega arith)
    ∙ (ap (λ (x : Tally). plus x (f' u) (g' u) (h' u)) (added_at f g h xs u l)
    ∙ plus_twice (tally_at xs u) (f u) (g u) (h u) (f' u) (g' u) (h' u)))

-- what is for one tenant only
pub only_own : (who n : ℕ) → only_for who n who ≡ n
only_own who n = simp (eq-eqb who who refl)

pub only_other : (who n u : ℕ) → (u ≡ who → ⊥) → only_for who n u ≡ 0
only_other who n u h = simp (ne_eqb u who h)

-- one tally stored anew with its sums is what counting for that tenant gives
pub counted_is :
    (xs : List Tally) (who a b c : ℕ) → who < length xs → set xs who (plus (tally_at xs who) a b c) ≡ counted xs who a b c
counted_is xs who a b c h =
    added_is (only_for who a) (only_for who b) (only_for who c) xs _ (length-set xs who _)
    (λ u l. elim (ℕ_discrete u who) [
      | yes e ↦
          rw e
          (get_or-set_same xs who _ tallies.zero h
          ∙ plus_same (tally_at xs who) (sym (only_own who a)) (sym (only_own who b)) (sym (only_own who c)))
      | no n ↦
          get_or-set_other xs who u _ tallies.zero n
          ∙ (sym (plus_none (tally_at xs u))
          ∙ plus_same (tally_at xs u) (sym (only_other who a u n)) (sym (only_other who b u n)) (sym (only_other who c u n)))
    ])

-- what all have done, after adding
pub in_all_added :
    (field : Tally → ℕ) (turns bought sold d : ℕ → ℕ) (xs : List Tally) → length xs ≡ tenants →
    ((x : Tally) (u : ℕ) → field (plus x (turns u) (bought u) (sold u)) ≡ field x + d u) →
    in_all field (added turns bought sold xs) ≡ in_all field xs + sum_to d tenants
in_all_added field turns bought sold d xs l h =
    sum_add (λ t. field (tally_at xs t)) d tenants
    (λ t p. ap field (added_at turns bought sold xs t (omega arith)) ∙ h (tally_at xs t) t)

-- no tenant has done more than all
pub in_all_has : (field : Tally → ℕ) (xs : List Tally) (u : ℕ) → u < tenants → field (tally_at xs u) ≤ in_all field xs
in_all_has field xs u h = sum_has (λ t. field (tally_at xs t)) tenants u h

-- no tenant has done anything
pub in_all_none : (field : Tally → ℕ) → field tallies.zero ≡ 0 → in_all field no_tallies ≡ 0
in_all_none field h = sum_none tenants (λ t p. ap field (get_or-replicate tenants t tallies.zero tallies.zero p) ∙ h)

-- nothing for anybody
pub only_none : (who u : ℕ) → only_for who 0 u ≡ 0
only_none who u = keep_none (eqb u who)

-- all that is for one tenant
pub only_sum : (who n : ℕ) → who < tenants → sum_to (only_for who n) tenants ≡ n
only_sum who n h = sum_only (only_for who n) tenants who h (λ u _ d. only_other who n u d) ∙ only_own who n

-- a turn counts for one tenant, and nothing else is counted with it
module _ (tallies : List Tally) (t : ℕ) (long : length tallies ≡ tenants) where
  abbrev none : ℕ → ℕ
  none u = only_for t 0 u

  pub turn_counts : t < tenants → turns_in_all (counted tallies t 1 0 0) ≡ turns_in_all tallies + 1
  turn_counts h =
      in_all_added (λ x. x.turns) (only_for t 1) none none (only_for t 1) tallies long (λ x u. refl)
      ∙ ap (λ n. turns_in_all tallies + n) (only_sum t 1 h)

  pub turn_bought : bought_in_all (counted tallies t 1 0 0) ≡ bought_in_all tallies
  turn_bought = omega (
    arith,
    in_all_added (λ x. x.bought) (only_for t 1) none none none tallies long (λ x u. refl),
    sum_none {f = none} tenants (λ u _. only_none t u),
  )

  pub turn_sold : sold_in_all (counted tallies t 1 0 0) ≡ sold_in_all tallies
  turn_sold = omega (
    arith,
    in_all_added (λ x. x.sold) (only_for t 1) none none none tallies long (λ x u. refl),
    sum_none {f = none} tenants (λ u _. only_none t u),
  )
