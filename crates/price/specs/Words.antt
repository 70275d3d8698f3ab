-- The opening price in the words of the paper: the table of minimum amounts, when a price is valid, and which is the
-- first valid; and that the definitions say just that.
use Rattle.std.specs.Prelude.{◌≡◌, ◌↔◌, ◌⊎◌, Option, Bool, ◌&&◌, ℕ, ◌+◌, ◌≤◌, ◌<◌}
use Rattle.std.proofs.Math.Path.{refl}
use Rattle.std.proofs.Math.Bool.{true, false, cond}
use Rattle.std.proofs.Common.{arith}
use Rattle.std.proofs.Math.Dec.{leb, ltb}
use borrow.Author.Tests.{lt-ltb, le-ltb, le-leb, lt-leb, ltb-true, ltb-false, leb-true, leb-false}
use Rattle.units.specs.declared.Cents.{Cents}
use Rattle.units.specs.Tests.{fails, holds_not_fails}
use Rattle.units.specs.Says.{less_says, most_says, &&-says, ||-says}
use Rattle.price.specs.Amounts.{minimum_amount}
use Rattle.price.specs.Price.{near_either, valid, midpoint, usable, chosen, none_valid}
use Rattle.price.specs.Midpoint.{Midpoint, midpoint_highest}
use Rattle.price.specs.PriceLaws.{NoneUsable, First, at_midpoint, at_print, at_close, nowhere}
use Rattle.price.specs.declared.Sources.{Sources}

-- ---- the words

-- the minimum amount by the NBB, both in cents: the table's seven rows
pub data MinimumAmount (nbb : ℕ) : ℕ → Type 0 where
  below_200 : nbb < 200 → MinimumAmount nbb 25
  to_500 : 200 ≤ nbb → nbb ≤ 500 → MinimumAmount nbb 40
  to_1000 : 501 ≤ nbb → nbb ≤ 1000 → MinimumAmount nbb 50
  to_2000 : 1001 ≤ nbb → nbb ≤ 2000 → MinimumAmount nbb 80
  to_5000 : 2001 ≤ nbb → nbb ≤ 5000 → MinimumAmount nbb 100
  to_10000 : 5001 ≤ nbb → nbb ≤ 10000 → MinimumAmount nbb 150
  above_10000 : 10000 < nbb → MinimumAmount nbb 200

-- Both quotes present: valid if within NBB to NBO and at most the minimum amount above NBB or at most that below NBO.
-- One present: valid at or above the bid, or at or below the offer. None present: valid.
pub data Valid (nbb nbo price : ℕ) : Type 0 where
  both : (amount : ℕ) → MinimumAmount nbb amount → 0 < nbb → 0 < nbo → nbb ≤ price → price ≤ nbo
      → (price ≤ nbb + amount) ⊎ (nbo ≤ price + amount) → Valid nbb nbo price
  bid_alone : 0 < nbb → nbo ≡ 0 → nbb ≤ price → Valid nbb nbo price
  offer_alone : nbb ≡ 0 → 0 < nbo → price ≤ nbo → Valid nbb nbo price
  no_quote : nbb ≡ 0 → nbo ≡ 0 → Valid nbb nbo price

module _ (s : Sources) where
  abbrev nbb : ℕ
  nbb = s.bid.0

  abbrev nbo : ℕ
  nbo = s.offer.0

  -- midpoint if there is one; last print if not 0; previous close if not 0
  abbrev pub MidpointValid : Type 0
  MidpointValid = (price : ℕ) × Midpoint s.grid nbb nbo price × Valid nbb nbo price

  abbrev pub PrintValid : Type 0
  PrintValid = (0 < s.print.0) × Valid nbb nbo s.print.0

  abbrev pub CloseValid : Type 0
  CloseValid = (0 < s.close.0) × Valid nbb nbo s.close.0

  -- no valid opening price
  pub record NoPrice : Type 0 where
    pub no_midpoint : MidpointValid → ⊥
    pub no_print : PrintValid → ⊥
    pub no_close : CloseValid → ⊥

  -- the first valid of the three
  pub data FirstValid : ℕ → Type 0 where
    by_midpoint : (m : MidpointValid) → FirstValid m.0
    by_print : (MidpointValid → ⊥) → PrintValid → FirstValid s.print.0
    by_close : (MidpointValid → ⊥) → (PrintValid → ⊥) → CloseValid → FirstValid s.close.0

-- ---- the definitions say them

pub amount_found : (nbb : ℕ) → MinimumAmount nbb (minimum_amount nbb)
unfolding minimum_amount
amount_found nbb = go (ltb nbb 200) (leb nbb 500) (leb nbb 1000) (leb nbb 2000) (leb nbb 5000) (leb nbb 10000) refl refl refl refl refl refl
  where
    go : (a b c d e f : Bool) → ltb nbb 200 ≡ a → leb nbb 500 ≡ b → leb nbb 1000 ≡ c → leb nbb 2000 ≡ d → leb nbb 5000 ≡ e → leb nbb 10000 ≡ f
        → MinimumAmount nbb (cond a 25 (cond b 40 (cond c 50 (cond d 80 (cond e 100 (cond f 150 200))))))
    go true b c d e f u v w x y z = below_200 (ltb-true nbb 200 u)
    go false true c d e f u v w x y z = to_500 (ltb-false nbb 200 u) (leb-true nbb 500 v)
    go false false true d e f u v w x y z = to_1000 (leb-false nbb 500 v) (leb-true nbb 1000 w)
    go false false false true e f u v w x y z = to_2000 (leb-false nbb 1000 w) (leb-true nbb 2000 x)
    go false false false false true f u v w x y z = to_5000 (leb-false nbb 2000 x) (leb-true nbb 5000 y)
    go false false false false false true u v w x y z = to_10000 (leb-false nbb 5000 y) (leb-true nbb 10000 z)
    go false false false false false false u v w x y z = above_10000 (leb-false nbb 10000 z)

-- no NBB has two amounts
one_amount : (nbb a : ℕ) → MinimumAmount nbb a → minimum_amount nbb ≡ a
unfolding minimum_amount
one_amount nbb a (below_200 l) = rw (lt-ltb nbb 200 l) refl
one_amount nbb a (to_500 l h) = rw (le-ltb nbb 200 l, le-leb nbb 500 h) refl
one_amount nbb a (to_1000 l h) = rw (le-ltb nbb 200 (omega arith), lt-leb nbb 500 (omega arith), le-leb nbb 1000 h) refl
one_amount nbb a (to_2000 l h) = rw (le-ltb nbb 200 (omega arith), lt-leb nbb 500 (omega arith), lt-leb nbb 1000 (omega arith), le-leb nbb 2000 h) refl
one_amount nbb a (to_5000 l h) = rw (le-ltb nbb 200 (omega arith), lt-leb nbb 500 (omega arith), lt-leb nbb 1000 (omega arith), lt-leb nbb 2000 (omega arith), le-leb nbb 5000 h) refl
one_amount nbb a (to_10000 l h) = rw (le-ltb nbb 200 (omega arith), lt-leb nbb 500 (omega arith), lt-leb nbb 1000 (omega arith), lt-leb nbb 2000 (omega arith), lt-leb nbb 5000 (omega arith), le-leb nbb 10000 h) refl
one_amount nbb a (above_10000 l) = rw (le-ltb nbb 200 (omega arith), lt-leb nbb 500 (omega arith), lt-leb nbb 1000 (omega arith), lt-leb nbb 2000 (omega arith), lt-leb nbb 5000 (omega arith), lt-leb nbb 10000 (omega arith)) refl

module _ (nbb nbo price : ℕ) where
  -- within both quotes and near either
  between_says : ((leb nbb price && leb price nbo && near_either nbb nbo price) ≡ true)
      ↔ (((nbb ≤ price) × (price ≤ nbo)) × ((price ≤ nbb + minimum_amount nbb) ⊎ (nbo ≤ price + minimum_amount nbb)))
  unfolding near_either
  between_says = &&-says (&&-says (most_says _ _) (most_says _ _)) (||-says (most_says _ _) (most_says _ _))

  valid_is : valid nbb nbo price ≡ true → Valid nbb nbo price
  unfolding valid
  valid_is = go (ltb 0 nbb) (ltb 0 nbo) refl refl
    where
      go : (a b : Bool) → ltb 0 nbb ≡ a → ltb 0 nbo ≡ b
          → cond a (cond b (leb nbb price && leb price nbo && near_either nbb nbo price) (leb nbb price)) (cond b (leb price nbo) true) ≡ true → Valid nbb nbo price
      go true true x y h =
          let ((least, most), near) = between_says.0 h in
          both (minimum_amount nbb) (amount_found nbb) (ltb-true 0 nbb x) (ltb-true 0 nbo y) least most near
      go true false x y h = bid_alone (ltb-true 0 nbb x) (omega (arith, ltb-false 0 nbo y)) (leb-true nbb price h)
      go false true x y h = offer_alone (omega (arith, ltb-false 0 nbb x)) (ltb-true 0 nbo y) (leb-true price nbo h)
      go false false x y h = no_quote (omega (arith, ltb-false 0 nbb x)) (omega (arith, ltb-false 0 nbo y))

  is_valid : Valid nbb nbo price → valid nbb nbo price ≡ true
  unfolding valid
  is_valid (both amount is bid offer least most near) =
      rw (lt-ltb 0 nbb bid, lt-ltb 0 nbo offer) (between_says.1 ((least, most), rw (one_amount nbb amount is) near))
  is_valid (bid_alone bid none least) = rw (lt-ltb 0 nbb bid, le-ltb 0 nbo (omega arith)) (le-leb nbb price least)
  is_valid (offer_alone none offer most) = rw (le-ltb 0 nbb (omega arith), lt-ltb 0 nbo offer) (le-leb price nbo most)
  is_valid (no_quote none none') = rw (le-ltb 0 nbb (omega arith), le-ltb 0 nbo (omega arith)) refl

  pub valid_says : (valid nbb nbo price ≡ true) ↔ Valid nbb nbo price
  valid_says = (valid_is, is_valid)

  -- a price that is not 0 is usable exactly if valid
  usable_says : (usable nbb nbo price ≡ true) ↔ ((0 < price) × Valid nbb nbo price)
  unfolding usable
  usable_says = &&-says (less_says 0 price) valid_says

module _ (s : Sources) where
  abbrev may : ℕ → Bool
  may = usable s.bid.0 s.offer.0

  abbrev middle : ℕ
  middle = midpoint s.bid.0 s.offer.0 s.grid

  -- where the midpoint is usable, it is the one in words, and valid
  abbrev middle_valid : may middle ≡ true → MidpointValid s
  middle_valid h =
      let says = (usable_says s.bid.0 s.offer.0 middle).0 h in
      (middle, (midpoint_highest s.grid s.bid.0 s.offer.0 middle says.0).0 refl, says.1)

  midpoint_says : (may middle ≡ true) ↔ MidpointValid s
  midpoint_says = (
    middle_valid,
    λ (p, m, v). rw ((midpoint_highest s.grid s.bid.0 s.offer.0 p m.least).1 m) ((usable_says s.bid.0 s.offer.0 p).1 (m.least, v)),
  )

  print_says : (may s.print.0 ≡ true) ↔ PrintValid s
  print_says = usable_says s.bid.0 s.offer.0 s.print.0

  close_says : (may s.close.0 ≡ true) ↔ CloseValid s
  close_says = usable_says s.bid.0 s.offer.0 s.close.0

  -- none of the three is usable exactly if none is valid
  pub none_says : NoneUsable s ↔ NoPrice s
  none_says = (
    λ n. record {
      no_midpoint = λ v. holds_not_fails (midpoint_says.1 v) n.no_midpoint;
      no_print = λ v. holds_not_fails (print_says.1 v) n.no_print;
      no_close = λ v. holds_not_fails (close_says.1 v) n.no_close;
    },
    λ n. record {
      no_midpoint = fails _ (λ h. n.no_midpoint (midpoint_says.0 h));
      no_print = fails _ (λ h. n.no_print (print_says.0 h));
      no_close = fails _ (λ h. n.no_close (close_says.0 h));
    },
  )

  -- the price chosen is the first valid
  pub first_says : {c : Option Cents} → First s c → none_valid c ≡ false → FirstValid s (chosen c)
  first_says (at_midpoint i) e = by_midpoint (middle_valid i)
  first_says (at_print i j) e = by_print (λ v. holds_not_fails (midpoint_says.1 v) i) (print_says.0 j)
  first_says (at_close i j k) e =
      by_close (λ v. holds_not_fails (midpoint_says.1 v) i) (λ v. holds_not_fails (print_says.1 v) j) (close_says.0 k)
  first_says (nowhere n) e = absurd (holds_not_fails refl e)
