-- Which price is chosen: the first usable of the three; and none exactly where none of them is.
use Rattle.std.specs.Prelude.{◌≡◌, Option, Some, None, Bool, cond, ◌↔◌, ℕ, ◌<◌, ltb}
use Rattle.std.proofs.Math.Path.{refl}
use Rattle.std.proofs.Math.Bool.{true, false, and-eq-true_iff}
use Rattle.std.proofs.Common.{ltb-true}
use Rattle.units.specs.declared.Cents.{Cents}
use Rattle.units.specs.Units.{cents}
use Rattle.units.specs.Tests.{holds_not_fails}
use Rattle.price.specs.Price.{valid, midpoint, usable, first_valid, price_of, chosen, none_valid}
use Rattle.price.specs.declared.Sources.{Sources}

-- none of the three is usable
pub record NoneUsable (s : Sources) : Type 0 where
  pub no_midpoint : usable s.bid.0 s.offer.0 (midpoint s.bid.0 s.offer.0 s.grid) ≡ false
  pub no_print : usable s.bid.0 s.offer.0 s.print.0 ≡ false
  pub no_close : usable s.bid.0 s.offer.0 s.close.0 ≡ false

module _ (s : Sources) where
  abbrev middle : ℕ
  middle = midpoint s.bid.0 s.offer.0 s.grid

  abbrev may : ℕ → Bool
  may = usable s.bid.0 s.offer.0

  -- the choice is the first usable of midpoint, last print and previous close
  pub data First : Option Cents → Type 0 where
    at_midpoint : may middle ≡ true → First (Some (cents middle))
    at_print : may middle ≡ false → may s.print.0 ≡ true → First (Some s.print)
    at_close : may middle ≡ false → may s.print.0 ≡ false → may s.close.0 ≡ true → First (Some s.close)
    nowhere : NoneUsable s → First None

  pub chosen_first : First (price_of s)
  unfolding price_of first_valid
  chosen_first = go (may middle) (may s.print.0) (may s.close.0) refl refl refl
    where
      go : (a b c : Bool) → may middle ≡ a → may s.print.0 ≡ b → may s.close.0 ≡ c
          → First (cond a (Some (cents middle)) (cond b (Some s.print) (cond c (Some s.close) None)))
      go true b c i j k = at_midpoint i
      go false true c i j k = at_print i j
      go false false true i j k = at_close i j k
      go false false false i j k = nowhere (record { no_midpoint = i; no_print = j; no_close = k })

  -- and no other choice is
  pub first_chosen : {c : Option Cents} → First c → price_of s ≡ c
  unfolding price_of first_valid
  first_chosen (at_midpoint i) = rw i
  first_chosen (at_print i j) = rw (i, j)
  first_chosen (at_close i j k) = rw (i, j, k)
  first_chosen (nowhere n) = rw (n.no_midpoint, n.no_print, n.no_close)

  first_usable : {c : Option Cents} → First c → none_valid c ≡ false → may (chosen c) ≡ true
  first_usable (at_midpoint i) e = i
  first_usable (at_print i j) e = j
  first_usable (at_close i j k) e = k
  first_usable (nowhere n) e = absurd (holds_not_fails refl e)

  -- no price is chosen exactly where none of the three is usable
  pub none_valid_lem : (none_valid (price_of s) ≡ true) ↔ NoneUsable s
  none_valid_lem = (go chosen_first, λ n. rw (first_chosen (nowhere n)))
    where
      go : {c : Option Cents} → First c → none_valid c ≡ true → NoneUsable s
      go (at_midpoint i) e = absurd (holds_not_fails e refl)
      go (at_print i j) e = absurd (holds_not_fails e refl)
      go (at_close i j k) e = absurd (holds_not_fails e refl)
      go (nowhere n) e = n

  -- the price chosen is above 0 and valid
  pub chosen_valid : none_valid (price_of s) ≡ false → (0 < chosen (price_of s)) × (valid s.bid.0 s.offer.0 (chosen (price_of s)) ≡ true)
  unfolding usable
  chosen_valid e =
      let both = (and-eq-true_iff (ltb 0 (chosen (price_of s))) (valid s.bid.0 s.offer.0 (chosen (price_of s)))).0 (first_usable chosen_first e) in
      (ltb-true 0 _ both.0, both.1)
