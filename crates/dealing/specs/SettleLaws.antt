-- Laws of settling.
use Rattle.std.specs.Prelude.{◌≡◌, ◌≢◌, true, false, List, ℕ, ◌≤◌, ◌<◌, eqb}
use Rattle.std.proofs.Math.Path.{refl}
use Rattle.std.proofs.Common.{sym, ap, ◌∙◌, ⊎_elim, add-zero, zero-add}
use native.Mathlib.Omega.{arith}
use borrow.Author.Tests.{ne_eqb, eqb-true}
use Rattle.units.specs.Units.{contracts, tenants}
use Rattle.units.specs.Tests.{pick, order, less, equal, more}
use Rattle.units.specs.Sums.{sum_to, sum_same, sum_most, sum_none}
use Rattle.units.specs.Picked.{keep, keep_none, keep_most, same, same_in, same_out, same_most}
use Rattle.units.specs.Places.{at, table, table_at}
use Rattle.rows.specs.Rows.{rows}
use Rattle.book.specs.Book.{Book, side_at, size_at, owner_at}
use Rattle.book.specs.Sound.{SoundRow, resting}
use Rattle.book.specs.Trading.{of_tenant, filled, traded, trade_records}
use Rattle.book.specs.Answers.{traded_of}
use Rattle.book.specs.declared.trading.Traded.{Traded}
use Rattle.book.specs.TradingLaws.{traded_side, traded_most}
use Rattle.entry.specs.declared.Entry.{Entry}
use Rattle.entry.specs.Entry.{is_buy, is_sell}
use Rattle.tally.specs.declared.Tally.{Tally}
use Rattle.tally.specs.Tallies.{only_for}
use Rattle.tally.specs.TallyLaws.{added_length, added_same, added_twice, in_all_added, only_none, only_sum}
use Rattle.dealing.specs.Credit.{row_credit, CanCredit, share_to, credited, Creditable}
use Rattle.dealing.specs.Settle.{opposite, Settles, resting_share, tallies_after, settled_of}
use Rattle.dealing.specs.SumLaws.{nothing_moved}
use Rattle.dealing.specs.declared.settle.Settled.{Settled}

-- where the rows of a side that traded have x, so has each tenant's share of them
pub share_is :
    (side owner quantity x : ℕ → ℕ) (n s u : ℕ) → ((i : ℕ) → i < n → same side s quantity i ≡ x i) →
    share_to side owner quantity n s u ≡ sum_to (same owner u x) n
unfolding same
share_is side owner quantity x n s u h = sum_same n (λ i p. ap (keep (eqb (owner i) u)) (h i p))

-- what one side's rows trade, where no row trades more than it holds, is no more than rests
pub side_most :
    (b : Book) → b.places ≡ rows → (quantity : ℕ → ℕ) → ((i : ℕ) → i < rows → quantity i ≤ size_at b i) → (s : ℕ) →
    sum_to (same (side_at b) s quantity) rows ≤ resting b
side_most b places quantity most s = rw places (sum_most rows (λ i p. omega (arith, same_most (side_at b) s quantity i, most i p)))

-- what traded of rows that are all on one side, by side
module _ (side quantity x : ℕ → ℕ) (n s : ℕ) (is : (i : ℕ) → i < n → quantity i ≡ x i) (sided : (i : ℕ) → i < n → 0 < x i → side i ≡ s) where
  pub picked_own : (i : ℕ) → i < n → same side s quantity i ≡ x i
  picked_own i p = elim (order 0 (x i)) [
    | less h ↦ same_in side s quantity i (sided i p h) ∙ is i p
    | equal h ↦ omega (arith, same_most side s quantity i, is i p)
    | more h ↦ omega arith
  ]

  pub picked_other : (other : ℕ) → other ≢ s → (i : ℕ) → i < n → same side other quantity i ≡ 0
  picked_other other ne i p = elim (order 0 (x i)) [
    | less h ↦ same_out side other quantity i (λ e. ne (sym e ∙ sided i p h))
    | equal h ↦ omega (arith, same_most side other quantity i, is i p)
    | more h ↦ omega arith
  ]

-- what traded of a book, and what settling adds to the tallies
module _ (tallies : List Tally) (t : ℕ) (e : Entry) (b : Book) (was : List ℕ) (can : Settles tallies t e b was) (bound allocation : ℕ)
    (shared : List ℕ) (are : shared ≡ table (traded b (opposite e) bound e.size.0 allocation) rows) where
  abbrev x : ℕ → ℕ
  x = traded b (opposite e) bound e.size.0 allocation

  abbrev f : ℕ
  f = filled b (opposite e) bound e.size.0

  shared_is : (i : ℕ) → i < rows → at shared i ≡ x i
  shared_is i p = rw are (table_at x rows i p)

  shared_side : (i : ℕ) → i < rows → 0 < x i → side_at b i ≡ opposite e
  shared_side i p h = traded_side b (opposite e) bound e.size.0 allocation i h

  filled_most : f ≤ e.size.0
  unfolding filled
  filled_most = omega arith

  resting_share_is : (u : ℕ) → sum_to (same (owner_at b) u x) rows ≡ resting_share tallies t e b bound allocation u
  unfolding resting_share of_tenant
  resting_share_is u = rw can.sound.places refl

  -- of the rows that traded, the shares by side
  own_share : (u : ℕ) → share_to (side_at b) (owner_at b) (at shared) rows (opposite e) u ≡ resting_share tallies t e b bound allocation u
  own_share u =
      share_is (side_at b) (owner_at b) (at shared) x rows (opposite e) u (picked_own (side_at b) (at shared) x rows (opposite e) shared_is shared_side)
      ∙ resting_share_is u

  other_share : (s u : ℕ) → s ≢ opposite e → share_to (side_at b) (owner_at b) (at shared) rows s u ≡ 0
  other_share s u ne =
      share_is (side_at b) (owner_at b) (at shared) (λ i. 0) rows s u (picked_other (side_at b) (at shared) x rows (opposite e) shared_is shared_side s ne)
      ∙ sum_none rows (λ i _. keep_none_same i)
    where
      keep_none_same : (i : ℕ) → same (owner_at b) u (λ i. 0) i ≡ 0
      keep_none_same i = unfold same in keep_none (eqb (owner_at b i) u)

  module _ (buys : is_buy e ≡ true) where
    to_sells : opposite e ≡ 2
    unfolding pick
    to_sells = rw buys

    pub settled_buy : credited (row_credit tallies e.side t f) (side_at b) (owner_at b) (at shared) ≡ tallies_after tallies t e b bound allocation
    unfolding tallies_after pick
    settled_buy =
        let one = eqb-true e.side 1 buys in
        let s2 : (u : ℕ) → share_to (side_at b) (owner_at b) (at shared) rows 2 u ≡ resting_share tallies t e b bound allocation u = λ u. rw to_sells at (own_share u) in
        let s1 : (u : ℕ) → share_to (side_at b) (owner_at b) (at shared) rows 1 u ≡ 0 = λ u. other_share 1 u (λ q. omega (arith, to_sells)) in
        rw buys
        (added_twice _ _ _ _ _ _ tallies
        ∙ added_same tallies (λ u _. refl)
        (λ u _. rw (s1 u) (add-zero _))
        (λ u _. rw (ne_eqb e.side 2 (omega arith), only_none, s2 u) (zero-add _)))

  module _ (sells : is_sell e ≡ true) where
    two : e.side ≡ 2
    two = eqb-true e.side 2 sells

    not_buy : is_buy e ≡ false
    not_buy = ne_eqb e.side 1 (λ q. omega (arith, two))

    to_buys : opposite e ≡ 1
    unfolding pick
    to_buys = rw not_buy

    pub settled_sell : credited (row_credit tallies e.side t f) (side_at b) (owner_at b) (at shared) ≡ tallies_after tallies t e b bound allocation
    unfolding tallies_after pick
    settled_sell =
        let s1 : (u : ℕ) → share_to (side_at b) (owner_at b) (at shared) rows 1 u ≡ resting_share tallies t e b bound allocation u = λ u. rw to_buys at (own_share u) in
        let s2 : (u : ℕ) → share_to (side_at b) (owner_at b) (at shared) rows 2 u ≡ 0 = λ u. other_share 2 u (λ q. omega (arith, to_buys)) in
        rw not_buy
        (added_twice _ _ _ _ _ _ tallies
        ∙ added_same tallies (λ u _. refl)
        (λ u _. rw (only_none, s1 u) (zero-add _))
        (λ u _. rw (sells, s2 u) (add-zero _)))

  pub settled_tallies : credited (row_credit tallies e.side t f) (side_at b) (owner_at b) (at shared) ≡ tallies_after tallies t e b bound allocation
  settled_tallies = ⊎_elim settled_buy settled_sell can.proper.sided

  shared_most : (i : ℕ) → i < rows → at shared i ≤ size_at b i
  shared_most i p = omega (arith, shared_is i p, traded_most b (opposite e) bound e.size.0 allocation i)

  -- no more trades on a side than rests in all
  traded_most_of : (s : ℕ) → sum_to (same (side_at b) s (at shared)) rows ≤ resting b
  traded_most_of = side_most b can.sound.places (at shared) shared_most

  sides_are : (1 ≤ e.side) × (e.side ≤ 2)
  sides_are = ⊎_elim (λ h. omega (arith, eqb-true e.side 1 h)) (λ h. omega (arith, eqb-true e.side 2 h)) can.proper.sided

  pub can_own : CanCredit tallies e.side t f
  can_own = record {
    long = can.long;
    sided = λ _. sides_are;
    tenant = λ _. can.tenant;
    turns = can.turns;
    bought = omega (arith, can.bought, filled_most, keep_most (eqb e.side 1) f);
    sold = omega (arith, can.sold, filled_most, keep_most (eqb e.side 2) f);
  }

  pub can_all : Creditable (row_credit tallies e.side t f) (side_at b) (owner_at b) (at shared)
  can_all =
      let z : ℕ → ℕ = λ u. 0 in
      let g1 = only_for t (keep (eqb e.side 1) f) in
      let g2 = only_for t (keep (eqb e.side 2) f) in
      let Turns-then = in_all_added (λ y. y.turns) z g1 g2 z tallies can.long (λ y u. refl) in
      let bought_then = in_all_added (λ y. y.bought) z g1 g2 g1 tallies can.long (λ y u. refl) in
      let sold_then = in_all_added (λ y. y.sold) z g1 g2 g2 tallies can.long (λ y u. refl) in
      record {
        long = added_length z g1 g2 0 tallies ∙ can.long;
        sided = λ i p h. ((rested i p h).side_least, (rested i p h).side_most);
        tenant = λ i p h. (rested i p h).owner;
        turns = omega (arith, Turns-then, sum_none {f = z} tenants (λ u _. refl), can.turns);
        bought = omega (arith, bought_then, only_sum t (keep (eqb e.side 1) f) can.tenant, keep_most (eqb e.side 1) f, filled_most, traded_most_of 1, can.bought);
        sold = omega (arith, sold_then, only_sum t (keep (eqb e.side 2) f) can.tenant, keep_most (eqb e.side 2) f, filled_most, traded_most_of 2, can.sold);
      }
    where
      rested : (i : ℕ) → i < rows → 0 < at shared i → SoundRow b can.next i
      rested i p h = can.sound.row i p (omega (arith, shared_most i p))

-- the same, as the code has it: the side, what the trade answered and what it shared
module _ (tallies : List Tally) (t : ℕ) (e : Entry) (b : Book) (was : List ℕ) (can : Settles tallies t e b was) (bound allocation : ℕ)
    (side : ℕ) (sided : side ≡ opposite e) (shared : List ℕ) (are : shared ≡ table (traded b side bound e.size.0 allocation) rows)
    (done : Traded) (is : done ≡ traded_of b side bound e.size.0 allocation) where
  fills_are : (done.filled.0 ≡ filled b (opposite e) bound e.size.0) × (done.fills ≡ trade_records b (opposite e) bound e.size.0 allocation)
  unfolding traded_of
  fills_are = rw (is, sided) (refl, refl)

  shares_are : shared ≡ table (traded b (opposite e) bound e.size.0 allocation) rows
  shares_are = rw sided at are

  -- what is answered, by its tallies
  settled_as :
      (all : List Tally) → all ≡ tallies_after tallies t e b bound allocation →
      ◌≡◌ {A = Settled} (record { tallies = all; filled = done.filled; fills = done.fills }) (settled_of tallies t e b bound allocation)
  unfolding settled_of
  settled_as all is = λ i. record { tallies = is i; filled = contracts (fills_are.0 i); fills = fills_are.1 i }

  -- nothing was filled
  pub settled_none : done.filled.0 ≡ 0 → ◌≡◌ {A = Settled} (record { tallies = tallies; filled = done.filled; fills = done.fills }) (settled_of tallies t e b bound allocation)
  settled_none z = settled_as tallies (nothing_moved tallies can.long t can.tenant e b can.next can.sound bound allocation (omega (arith, fills_are.0, z)))

  pub own_ready : CanCredit tallies e.side t done.filled.0
  own_ready = rw fills_are.0 (can_own tallies t e b was can bound allocation shared shares_are)

  module _ (own : List Tally) (own_is : own ≡ row_credit tallies e.side t done.filled.0) where
    pub all_ready : Creditable own (side_at b) (owner_at b) (at shared)
    all_ready = rw (own_is, fills_are.0) (can_all tallies t e b was can bound allocation shared shares_are)

    pub settled_is :
        (all : List Tally) → all ≡ credited own (side_at b) (owner_at b) (at shared) →
        ◌≡◌ {A = Settled} (record { tallies = all; filled = done.filled; fills = done.fills }) (settled_of tallies t e b bound allocation)
    settled_is all all_is =
        settled_as all (all_is ∙ (rw (own_is, fills_are.0) (settled_tallies tallies t e b was can bound allocation shared shares_are)))
