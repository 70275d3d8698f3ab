-- A line by its fields: what stands behind a space, and what a line has whose fields are right.
use Rattle.std.specs.Prelude.{◌≡◌, refl, Bool, true, false, List, ℕ, zero, suc, ◌-◌, ◌≤◌, ◌<◌, eqb, length}
use Rattle.std.proofs.Common.{sym, ◌∙◌, eq-eqb, ne_eqb, arith}
use borrow.Author.Tests.{eqb-true}
use Rattle.units.specs.Tests.{◌and◌, pick_yes, and_true, not_false}
use Rattle.units.specs.CaseLaws.{apart, GivenBy, first_given, all_fail}
use Rattle.units.specs.Decimal.{value_of}
use Rattle.entry.specs.Numbers.{from1to}
use Rattle.entry.specs.NumberLaws.{from1to_bounds}
use Rattle.sheet.specs.Bytes.{up_to, behind, all_digits, same}
use Rattle.sheet.specs.Line.{space, rest_at, tenant_field, size_field, kind_field, price_field, limit_word, point, is_tenant, is_size, is_dollars, is_price, wrong_fields, wrong_field}
use Rattle.sheet.specs.BytesLaws.{value_below}

-- behind no space stands the line; behind one more, what stands there behind the first
pub rest_none : (i : ℕ) (line : List ℕ) → i ≡ 0 → line ≡ rest_at i line
unfolding rest_at
rest_none i line e = rw e

pub rest_more : (i : ℕ) (line : List ℕ) → (i ≡ 0 → ⊥) → rest_at (i - 1) (behind space line) ≡ rest_at i line
unfolding rest_at
rest_more zero line n = absurd (n refl)
rest_more (suc i) line n = let e : suc i - 1 ≡ i = omega arith in rw e

-- a number as `value` asks for it
abbrev pub Spelt : List ℕ → Type 0
Spelt f = (all_digits f ≡ true) × (length f ≤ 9)

-- dollars and cents: their digits, and how large they are
pub record Dollars (f : List ℕ) : Type 0 where
  pub dollars : Spelt (up_to point f)
  pub few : value_of (up_to point f) < 100000
  pub cents : Spelt (behind point f)
  pub fewer : value_of (behind point f) < 100

pub dollars_has : (f : List ℕ) → is_dollars f ≡ true → Dollars f
unfolding is_dollars
dollars_has f h =
    let two = and_true (from1to 5 (length (up_to point f)) and all_digits (up_to point f)) _ h in
    let front = and_true (from1to 5 (length (up_to point f))) (all_digits (up_to point f)) two.0 in
    let back = and_true (eqb (length (behind point f)) 2) (all_digits (behind point f)) two.1 in
    let most = from1to_bounds 5 (length (up_to point f)) front.0 in
    let long = eqb-true (length (behind point f)) 2 back.0 in
    record {
      dollars = (front.1, omega arith);
      few = value_below 5 (up_to point f) front.1 (omega arith);
      cents = (back.1, omega arith);
      fewer = value_below 2 (behind point f) back.1 (omega arith);
    }

pub price_has : (kind f : List ℕ) → is_price kind f ≡ true → same kind limit_word ≡ true → Dollars f
unfolding is_price
price_has kind f h t = dollars_has f (sym (pick_yes _ _ t) ∙ h)

-- the wrong fields, each by its place
module _ (line : List ℕ) where
  fields_apart : apart 0 (wrong_fields line) ≡ true
  fields_apart = refl

  pub wrong_by : GivenBy (wrong_field line) 0 (wrong_fields line)
  unfolding wrong_field
  wrong_by = first_given 0 (wrong_fields line) fields_apart

  -- a line with none
  module _ (right : wrong_field line ≡ 0) where
    pub tenant_spelt : Spelt (tenant_field line)
    unfolding is_tenant
    tenant_spelt =
        let two = and_true (eqb (length (tenant_field line)) 1) _ (not_false _ (all_fail wrong_by right 0)) in
        (two.1, omega (arith, eqb-true (length (tenant_field line)) 1 two.0))

    pub size_spelt : Spelt (size_field line)
    unfolding is_size
    size_spelt =
        let two = and_true (from1to 6 (length (size_field line))) _ (not_false _ (all_fail wrong_by right 2)) in
        (two.1, omega (arith, from1to_bounds 6 (length (size_field line)) two.0))

    pub price_right : is_price (kind_field line) (price_field line) ≡ true
    price_right = not_false _ (all_fail wrong_by right 4)

-- whether a price is one: what stands before the point is a number, and two digits stand behind it
module _ (f : List ℕ) where
  abbrev front : Bool
  front = from1to 5 (length (up_to point f)) and all_digits (up_to point f)

  pub dollars_two : front ≡ true → length (behind point f) ≡ 2 → is_dollars f ≡ all_digits (behind point f)
  unfolding is_dollars ◌and◌
  dollars_two h two = rw (h, eq-eqb _ _ two) refl

  pub dollars_not_two : front ≡ true → (length (behind point f) ≡ 2 → ⊥) → is_dollars f ≡ false
  unfolding is_dollars ◌and◌
  dollars_not_two h not = rw (h, ne_eqb _ _ not) refl

  pub dollars_none : front ≡ false → is_dollars f ≡ false
  unfolding is_dollars ◌and◌
  dollars_none h = rw h refl
