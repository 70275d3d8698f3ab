-- Crediting row by row.
use Rattle.std.specs.Prelude.{◌≡◌, refl, List, ℕ, ◌+◌, ◌≤◌, ◌<◌, ◌^◌, eqb, length, set}
use Rattle.std.proofs.Common.{sym, ap, ◌∙◌, eq-eqb, ne_eqb}
use Rattle.std.proofs.Math.Decide.{ℕ_discrete}
use native.Mathlib.Omega.{arith}
use Rattle.units.specs.Sums.{sum_to, sum_zero, sum_next, sum_grows, sum_none}
use Rattle.units.specs.Picked.{keep, keep_none, same, sum_by_key_most}
use Rattle.units.specs.Units.{tenants}
use Rattle.rows.specs.Rows.{rows}
use Rattle.tally.specs.declared.Tally.{Tally}
use Rattle.tally.specs.Tallies.{tally_at, only_for, bought_in_all, sold_in_all}
use Rattle.tally.specs.TallyLaws.{added_length, added_same, added_none, added_twice, only_none, counted_is, in_all_added, in_all_has}
use Rattle.dealing.specs.Credit.{owner_credit, CanCreditOwner, row_credit, CanCredit, share_to, credited_to, credited, Creditable}

module _ (tallies : List Tally) (side owner quantity : ℕ) where
  -- a row that did not trade
  pub row_none : quantity ≡ 0 → tallies ≡ row_credit tallies side owner quantity
  row_none z =
      sym (added_none tallies)
      ∙ added_same tallies (λ u _. refl)
      (λ u _. rw (z, keep_none (eqb side 1)) (sym (only_none owner u)))
      (λ u _. rw (z, keep_none (eqb side 2)) (sym (only_none owner u)))

  -- a row that traded
  module _ (can : CanCredit tallies side owner quantity) (traded : 0 < quantity) where
    pub can_credit_owner : CanCreditOwner (tally_at tallies owner) side quantity
    can_credit_owner = record {
      sided = can.sided traded;
      sums = (
        omega (arith, can.turns, in_all_has (λ x. x.turns) tallies owner (can.tenant traded)),
        omega (arith, can.bought, in_all_has (λ x. x.bought) tallies owner (can.tenant traded)),
        omega (arith, can.sold, in_all_has (λ x. x.sold) tallies owner (can.tenant traded)),
      );
    }

    -- its owner's tally is stored anew
    pub row_traded : (t : Tally) → t ≡ owner_credit (tally_at tallies owner) side quantity → set tallies owner t ≡ row_credit tallies side owner quantity
    row_traded t e =
        ap (set tallies owner) e
        ∙ (counted_is tallies owner 0 _ _ (omega (arith, can.long, can.tenant traded))
        ∙ added_same tallies (λ u _. only_none owner u) (λ u _. refl) (λ u _. refl))

-- a row's part of a tenant's share, as its credit writes it
share_term : (side owner quantity : ℕ → ℕ) (s u i : ℕ) → same owner u (same side s quantity) i ≡ only_for (owner i) (keep (eqb (side i) s) (quantity i)) u
unfolding same
share_term side owner quantity s u i = elim (ℕ_discrete u (owner i)) [
  | yes e ↦ simp (eq-eqb u (owner i) e, eq-eqb (owner i) u (sym e))
  | no n ↦ simp (ne_eqb u (owner i) n, ne_eqb (owner i) u (λ e. n (sym e)))
]

module _ (side owner quantity : ℕ → ℕ) (tallies : List Tally) where
  -- the rows passed are credited
  pub record Crediting (i : ℕ) (after : List Tally) : Type 0 where
    pub passed : i ≤ rows
    pub is : after ≡ credited_to side owner quantity i tallies

  pub credit_starts : Crediting 0 tallies
  credit_starts = record {
    passed = omega arith;
    is =
        sym (added_none tallies)
        ∙ added_same tallies (λ u _. refl)
        (λ u _. sym (sum_zero (same owner u (same side 1 quantity))))
        (λ u _. sym (sum_zero (same owner u (same side 2 quantity))));
  }

  next_share : (s u i : ℕ) → share_to side owner quantity i s u + only_for (owner i) (keep (eqb (side i) s) (quantity i)) u ≡ share_to side owner quantity (i + 1) s u
  next_share s u i =
      omega (arith, sum_next (same owner u (same side s quantity)) i, share_term side owner quantity s u i)

  pub credit_goes_on :
      (i : ℕ) (after next : List Tally) → Crediting i after → i < rows → next ≡ row_credit after (side i) (owner i) (quantity i) →
      Crediting (i + 1) next
  credit_goes_on i after next w h e = record {
    passed = omega arith;
    is =
        e
        ∙ (ap (λ (x : List Tally). row_credit x (side i) (owner i) (quantity i)) w.is
        ∙ (added_twice _ _ _ _ _ _ tallies ∙ added_same tallies (λ u _. refl) (λ u _. next_share 1 u i) (λ u _. next_share 2 u i)));
  }

  pub credit_ends : (i : ℕ) (after : List Tally) → Crediting i after → rows ≤ i → after ≡ credited tallies side owner quantity
  credit_ends i after w h =
      let e : i ≡ rows = omega (arith, w.passed) in
      rw e at w.is

  -- each row's credit fits, where all of them together do
  pub can_credit :
      (i : ℕ) (after : List Tally) → Creditable tallies side owner quantity → Crediting i after → i < rows →
      CanCredit after (side i) (owner i) (quantity i)
  can_credit i after can w h =
      let Turns-then = in_all_added (λ x. x.turns) (λ u. 0) (share_to side owner quantity i 1) (share_to side owner quantity i 2) (λ u. 0) tallies can.long (λ x u. refl) in
      let bought_then =
      in_all_added (λ x. x.bought) (λ u. 0) (share_to side owner quantity i 1) (share_to side owner quantity i 2) (share_to side owner quantity i 1) tallies can.long (λ x u. refl) in
      let sold_then =
      in_all_added (λ x. x.sold) (λ u. 0) (share_to side owner quantity i 1) (share_to side owner quantity i 2) (share_to side owner quantity i 2) tallies can.long (λ x u. refl) in
      record {
        long = ap length w.is ∙ (added_length _ _ _ 0 tallies ∙ can.long);
        sided = can.sided i h;
        tenant = can.tenant i h;
        turns = rw w.is (omega (arith, Turns-then, sum_none {f = λ u. 0} tenants (λ u _. refl), can.turns));
        bought = rw w.is (fits_with 1 (bought_in_all tallies) _ bought_then can.bought);
        sold = rw w.is (fits_with 2 (sold_in_all tallies) _ sold_then can.sold);
      }
    where
      fits_with :
          (s all then : ℕ) → then ≡ all + sum_to (share_to side owner quantity i s) tenants → all + sum_to (same side s quantity) rows < 2 ^ 64 →
          then + keep (eqb (side i) s) (quantity i) < 2 ^ 64
      fits_with s all then e f =
          unfold same in
          omega (
            arith,
            sum_by_key_most owner (same side s quantity) tenants i,
            sum_next (same side s quantity) i,
            sum_grows (same side s quantity) (i + 1) rows (omega arith),
          )
