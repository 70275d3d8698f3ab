-- The form of an entry, in the words of document 01.
use mathlib.Core.Logic.Iff
use Rattle.std.specs.Prelude.{◌≡◌, ◌↔◌, ◌⊎◌, true, ℕ, ◌≤◌}
use Rattle.units.specs.Says.{same_says, most_says, and_says, or_says, denied_says}
use Rattle.rows.specs.Rows.{highest, largest}
use Rattle.entry.specs.declared.Entry.{Entry}
use Rattle.entry.specs.Numbers.{one_or_two, from1to}
use Rattle.entry.specs.Entry.{priced, new_order, cancelling, malformed}

-- a new order: a limit with its price or a market order without one, buy or sell, day or now, of size 1 to 999,999; its
-- number is 0
pub record IsNewOrder (e : Entry) : Type 0 where
  pub kind : ((e.kind ≡ 1) × ((1 ≤ e.price.0) × (e.price.0 ≤ 1000000))) ⊎ ((e.kind ≡ 2) × (e.price.0 ≡ 0))
  pub side : (e.side ≡ 1) ⊎ (e.side ≡ 2)
  pub life : (e.life ≡ 1) ⊎ (e.life ≡ 2)
  pub size : (1 ≤ e.size.0) × (e.size.0 ≤ 999999)
  pub number : e.number ≡ 0

-- a cancel: its number is 1 or more; side, life, price and size are 0
pub record IsCancel (e : Entry) : Type 0 where
  pub kind : e.kind ≡ 3
  pub number : 1 ≤ e.number
  pub side : e.side ≡ 0
  pub life : e.life ≡ 0
  pub price : e.price.0 ≡ 0
  pub size : e.size.0 ≡ 0

-- Anything else is malformed.
abbrev pub WellFormed : Entry → Type 0
WellFormed e = IsNewOrder e ⊎ IsCancel e

two_says : (n : ℕ) → (one_or_two n ≡ true) ↔ ((n ≡ 1) ⊎ (n ≡ 2))
unfolding one_or_two
two_says n = or_says (same_says n 1) (same_says n 2)

-- from 1 to the most
pub range_says : (most n : ℕ) → (from1to most n ≡ true) ↔ ((1 ≤ n) × (n ≤ most))
unfolding from1to
range_says most n = and_says (most_says 1 n) (most_says n most)

module _ (e : Entry) where
  priced_says : (priced e ≡ true) ↔ (((e.kind ≡ 1) × ((1 ≤ e.price.0) × (e.price.0 ≤ 1000000))) ⊎ ((e.kind ≡ 2) × (e.price.0 ≡ 0)))
  unfolding priced
  priced_says = or_says (and_says (same_says e.kind 1) (range_says highest e.price.0)) (and_says (same_says e.kind 2) (same_says e.price.0 0))

  new_says : (new_order e ≡ true) ↔ IsNewOrder e
  unfolding new_order
  new_says = Iff.trans
      (and_says (and_says priced_says (and_says (two_says e.side) (two_says e.life))) (and_says (range_says largest e.size.0) (same_says e.number 0))) (
        λ h. record { kind = h.0.0; side = h.0.1.0; life = h.0.1.1; size = h.1.0; number = h.1.1 },
        λ n. ((n.kind, (n.side, n.life)), (n.size, n.number)),
      )

  cancel_says : (cancelling e ≡ true) ↔ IsCancel e
  unfolding cancelling
  cancel_says = Iff.trans
      (and_says (and_says (same_says e.kind 3) (most_says 1 e.number))
      (and_says (and_says (same_says e.side 0) (same_says e.life 0)) (and_says (same_says e.price.0 0) (same_says e.size.0 0)))) (
        λ h. record { kind = h.0.0; number = h.0.1; side = h.1.0.0; life = h.1.0.1; price = h.1.1.0; size = h.1.1.1 },
        λ c. ((c.kind, c.number), ((c.side, c.life), (c.price, c.size))),
      )

  pub malformed_says : (malformed e ≡ true) ↔ (WellFormed e → ⊥)
  unfolding malformed
  malformed_says = denied_says (or_says new_says cancel_says)
