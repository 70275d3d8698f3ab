-- The sums of the tallies and of what rests, once an order has traded: what is counted no longer rests.
use Rattle.std.specs.Prelude.{◌≡◌, refl, Bool, true, false, List}
use Rattle.std.proofs.Math.Path.{sym}
use Rattle.std.proofs.Common.{◌∙◌}
use Prim.Native.Nat.{ℕ, ◌+◌, ◌≤◌, ◌<◌}
use native.Mathlib.Omega.{arith}
use Rattle.std.proofs.Math.ListN.{length}
use Rattle.units.specs.Tests.{pick_yes, pick_no, picked_of_both}
use Rattle.units.specs.Sums.{sum_to, sum_none, sum_has}
use Rattle.units.specs.Picked.{sum_by_key_most}
use Rattle.units.specs.Units.{tenants}
use Rattle.book.specs.Book.{Book, owner_at}
use Rattle.book.specs.AllocationLaws.{Distinct}
use Rattle.book.specs.Sound.{SoundBook, resting}
use Rattle.book.specs.SoundLaws.{sound_apart}
use Rattle.book.specs.Trading.{of_tenant, reach, filled, traded, after_trade}
use Rattle.book.specs.TradingLaws.{all_traded}
use Rattle.book.specs.RestingLaws.{trade_takes}
use Rattle.entry.specs.declared.Entry.{Entry}
use Rattle.entry.specs.Entry.{is_buy}
use Rattle.tally.specs.declared.Tally.{Tally}
use Rattle.tally.specs.Tallies.{added, turns_in_all, bought_in_all, sold_in_all}
use Rattle.tally.specs.TallyLaws.{added_length, added_same, added_none, in_all_added, only_none, only_sum}
use Rattle.dealing.specs.Settle.{opposite, resting_share, incoming_share, tallies_after}

-- what tallies come to once one side's contracts and the other's are added
module _ (bought sold : ℕ → ℕ) (tallies : List Tally) (long : length tallies ≡ tenants) where
  abbrev none : ℕ → ℕ
  none u = 0

  added_turns : turns_in_all (added none bought sold tallies) ≡ turns_in_all tallies
  added_turns = omega (
    arith,
    in_all_added (λ x. x.turns) none bought sold none tallies long (λ x u. refl),
    sum_none {f = none} tenants (λ u _. refl),
  )

  added_bought : bought_in_all (added none bought sold tallies) ≡ bought_in_all tallies + sum_to bought tenants
  added_bought = in_all_added (λ x. x.bought) none bought sold bought tallies long (λ x u. refl)

  added_sold : sold_in_all (added none bought sold tallies) ≡ sold_in_all tallies + sum_to sold tenants
  added_sold = in_all_added (λ x. x.sold) none bought sold sold tallies long (λ x u. refl)

-- sums once an order has traded, against the sums before
pub record Moved (tallies after : List Tally) (b b₁ : Book) : Type 0 where
  pub long : length after ≡ tenants
  pub turns : turns_in_all after ≡ turns_in_all tallies
  pub bought : bought_in_all after + resting b₁ ≤ bought_in_all tallies + resting b
  pub sold : sold_in_all after + resting b₁ ≤ sold_in_all tallies + resting b

module _ (tallies : List Tally) (long : length tallies ≡ tenants) (t : ℕ) (tenant : t < tenants) (e : Entry)
    (b : Book) (next : ℕ) (sound : SoundBook b next) (bound allocation : ℕ) where
  abbrev f : ℕ
  f = filled b (opposite e) bound e.size.0

  abbrev b₁ : Book
  b₁ = after_trade b (opposite e) bound e.size.0 allocation

  abbrev own : ℕ → ℕ
  own = incoming_share tallies t e b bound allocation

  abbrev theirs : ℕ → ℕ
  theirs = resting_share tallies t e b bound allocation

  distinct : Distinct (reach b (opposite e) bound)
  distinct = sound_apart sound (opposite e) bound

  -- the incoming order's share is all that is filled, and the rows' shares together are no more
  own_sum : sum_to own tenants ≡ f
  own_sum = only_sum t f tenant

  theirs_sum : sum_to theirs tenants ≤ f
  unfolding resting_share of_tenant
  theirs_sum = omega (
    arith,
    sum_by_key_most (owner_at b) (traded b (opposite e) bound e.size.0 allocation) tenants b.places,
    all_traded b (opposite e) bound e.size.0 allocation distinct,
  )

  -- what is filled no longer rests
  falls : resting b₁ + f ≡ resting b
  falls = trade_takes b (opposite e) bound e.size.0 allocation distinct

  -- a buy adds to bought what it fills and to sold what the rows traded, a sell the other way round
  after_buy : is_buy e ≡ true → tallies_after tallies t e b bound allocation ≡ added (λ u. 0) own theirs tallies
  unfolding tallies_after
  after_buy h = pick_yes _ _ h

  after_sell : is_buy e ≡ false → tallies_after tallies t e b bound allocation ≡ added (λ u. 0) theirs own tallies
  unfolding tallies_after
  after_sell h = pick_no _ _ h

  -- where nothing is filled, nobody's tally moves
  module _ (none_filled : f ≡ 0) where
    own_none : (u : ℕ) → u < length tallies → own u ≡ 0
    own_none u _ = rw none_filled (only_none t u)

    theirs_none : (u : ℕ) → u < length tallies → theirs u ≡ 0
    theirs_none u p = omega (arith, sum_has theirs tenants u (omega arith), theirs_sum)

    pub nothing_moved : tallies ≡ tallies_after tallies t e b bound allocation
    unfolding tallies_after
    nothing_moved = picked_of_both (λ x. tallies ≡ x) (is_buy e) _ _ (stay own_none theirs_none) (stay theirs_none own_none)
      where
        stay : {g h : ℕ → ℕ} → ((u : ℕ) → u < length tallies → g u ≡ 0) → ((u : ℕ) → u < length tallies → h u ≡ 0) → tallies ≡ added (λ u. 0) g h tallies
        stay p q = sym (added_same tallies (λ u _. refl) p q ∙ added_none tallies)

  moved_buy : is_buy e ≡ true → Moved tallies (tallies_after tallies t e b bound allocation) b b₁
  moved_buy h = rw (after_buy h) (record {
    long = added_length (λ u. 0) own theirs 0 tallies ∙ long;
    turns = added_turns own theirs tallies long;
    bought = omega (arith, added_bought own theirs tallies long, own_sum, falls);
    sold = omega (arith, added_sold own theirs tallies long, theirs_sum, falls);
  })

  moved_sell : is_buy e ≡ false → Moved tallies (tallies_after tallies t e b bound allocation) b b₁
  moved_sell h = rw (after_sell h) (record {
    long = added_length (λ u. 0) theirs own 0 tallies ∙ long;
    turns = added_turns theirs own tallies long;
    bought = omega (arith, added_bought theirs own tallies long, theirs_sum, falls);
    sold = omega (arith, added_sold theirs own tallies long, own_sum, falls);
  })

  pub moved : Moved tallies (tallies_after tallies t e b bound allocation) b b₁
  moved = by (is_buy e) refl
    where
      by : (x : Bool) → is_buy e ≡ x → Moved tallies (tallies_after tallies t e b bound allocation) b b₁
      by true h = moved_buy h
      by false h = moved_sell h
