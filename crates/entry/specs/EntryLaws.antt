-- A well-formed entry is a cancel or a new order; and what a new order has.
use Rattle.std.specs.Prelude.{◌≡◌, ◌⊎◌, true, false, ◌≤◌, leb, eqb}
use Rattle.std.proofs.Common.{inl, inr, ⊎_elim, arith, eqb-true, leb-true}
use Rattle.units.specs.Tests.{◌and◌, and_true, or_true, or_first, not_false}
use Rattle.rows.specs.Rows.{highest, largest}
use Rattle.entry.specs.declared.Entry.{Entry}
use Rattle.entry.specs.Numbers.{one_or_two, from1to}
use Rattle.entry.specs.NumberLaws.{from1to_bounds}
use Rattle.entry.specs.Entry.{is_limit, is_market, is_cancel, is_buy, is_sell, is_day, is_now, priced, new_order, cancelling, malformed}

-- a well-formed entry is a new order or a cancel
pub well_formed : (e : Entry) → malformed e ≡ false → (new_order e ≡ true) ⊎ (cancelling e ≡ true)
unfolding malformed
well_formed e h = or_true _ _ (not_false _ h)

-- a well-formed entry that is no cancel is a new order
pub new_unless_cancel : (e : Entry) → malformed e ≡ false → is_cancel e ≡ false → new_order e ≡ true
unfolding cancelling ◌and◌
new_unless_cancel e h g = or_first (well_formed e h) (rw g)

-- what a new order has, as given and as judged
pub record Proper (e : Entry) : Type 0 where
  pub sided : (is_buy e ≡ true) ⊎ (is_sell e ≡ true)
  pub lived : (is_day e ≡ true) ⊎ (is_now e ≡ true)
  pub kinded : (is_limit e ≡ true) ⊎ (is_market e ≡ true)
  pub price_least : is_limit e ≡ true → 1 ≤ e.price.0
  pub price_most : is_limit e ≡ true → e.price.0 ≤ highest
  pub size_least : 1 ≤ e.size.0
  pub size_most : e.size.0 ≤ largest

-- a limit is no market order
not_both : (e : Entry) → is_limit e ≡ true → is_market e ≡ true → ⊥
not_both e l m = let a = eqb-true e.kind 1 l in let b = eqb-true e.kind 2 m in omega arith

-- it has a price in range, or is a market order
priced_as : (e : Entry) → priced e ≡ true → ((is_limit e ≡ true) × (from1to highest e.price.0 ≡ true)) ⊎ (is_market e ≡ true)
unfolding priced
priced_as e h = ⊎_elim
    (λ (p : (is_limit e and from1to highest e.price.0) ≡ true). inl (and_true (is_limit e) _ p))
    (λ (p : (is_market e and eqb e.price.0 0) ≡ true). inr (and_true (is_market e) _ p).0)
    (or_true _ _ h)

limit_bounds : (e : Entry) → priced e ≡ true → is_limit e ≡ true → (1 ≤ e.price.0) × (e.price.0 ≤ highest)
limit_bounds e h l = ⊎_elim (λ p. from1to_bounds highest e.price.0 p.1) (λ m. absurd (not_both e l m)) (priced_as e h)

-- a well-formed new order is proper
pub new_proper : (e : Entry) → new_order e ≡ true → Proper e
unfolding new_order one_or_two
new_proper e h =
    let (front, back) = and_true (priced e and (one_or_two e.side and one_or_two e.life)) _ h in
    let (price, marks) = and_true (priced e) _ front in
    let (side, life) = and_true (one_or_two e.side) _ marks in
    let size = from1to_bounds largest e.size.0 (and_true (from1to largest e.size.0) _ back).0 in
    record {
      sided = or_true _ _ side;
      lived = or_true _ _ life;
      kinded = ⊎_elim (λ p. inl p.0) inr (priced_as e price);
      price_least = λ l. (limit_bounds e price l).0;
      price_most = λ l. (limit_bounds e price l).1;
      size_least = size.0;
      size_most = size.1;
    }

-- its side is 1 or 2
pub side_bounds : (e : Entry) → Proper e → (1 ≤ e.side) × (e.side ≤ 2)
side_bounds e p = ⊎_elim
    (λ (b : is_buy e ≡ true). let k = eqb-true e.side 1 b in (omega arith, omega arith))
    (λ (s : is_sell e ≡ true). let k = eqb-true e.side 2 s in (omega arith, omega arith))
    p.sided

-- a well-formed cancel names a number of 1 or more
pub cancel_numbered : (e : Entry) → malformed e ≡ false → is_cancel e ≡ true → 1 ≤ e.number
unfolding cancelling
cancel_numbered e h c =
    let kind = eqb-true e.kind 3 c in
    ⊎_elim
    (λ new. ⊎_elim (λ l. absurd (omega (arith, eqb-true e.kind 1 l))) (λ m. absurd (omega (arith, eqb-true e.kind 2 m))) (new_proper e new).kinded)
    (λ k. leb-true 1 e.number (and_true (is_cancel e) _ (and_true (is_cancel e and leb 1 e.number) _ k).0).1)
    (well_formed e h)
