-- What an opening adds to the tallies: crediting each row what it matched is adding each tenant's contracts bought and
-- sold; the sums fit.
use Rattle.std.specs.Prelude.{◌≡◌, refl, List, ℕ, ◌+◌, ◌≤◌, ◌<◌}
use Rattle.std.proofs.Common.{◌∙◌, arith}
use Rattle.units.specs.Units.{tenants}
use Rattle.units.specs.Sums.{sum_to, sum_none}
use Rattle.units.specs.Picked.{same, same_both, sum_by_key_most}
use Rattle.units.specs.Places.{at, table, table_at}
use Rattle.rows.specs.Rows.{rows}
use Rattle.book.specs.Book.{Book, side_at, size_at, owner_at}
use Rattle.book.specs.Sound.{SoundRow, SoundBook, resting}
use Rattle.book.specs.SoundLaws.{live_apart}
use Rattle.book.specs.Trading.{of_tenant}
use Rattle.opening.specs.Opening.{bought, sold, matched, after_opening}
use Rattle.opening.specs.declared.matching.Matched.{Matched}
use Rattle.opening.specs.Answers.{matched_of}
use Rattle.opening.specs.OpeningLaws.{matched_buy, matched_sell, matched_most, all_bought, all_sold}
use Rattle.opening.specs.OpeningSoundLaws.{opening_takes}
use Rattle.tally.specs.declared.Tally.{Tally}
use Rattle.tally.specs.Tallies.{bought_in_all, sold_in_all}
use Rattle.tally.specs.TallyLaws.{added_same, added_length, in_all_added}
use Rattle.dealing.specs.Credit.{share_to, credited, Creditable}
use Rattle.dealing.specs.SettleLaws.{share_is, side_most}
use Rattle.dealing.specs.Sound.{SoundTallies}
use Rattle.dealing.specs.OrderLaws.{sums_fit}
use Rattle.dealing.specs.declared.open.Counted.{Counted}
use Rattle.dealing.specs.Open.{tallies_opened, counted_of, CanOpen}

module _ (tallies : List Tally) (b : Book) (was : List ℕ) (can : CanOpen tallies b was) (p : ℕ) (shared : List ℕ) (are : shared ≡ table (matched b p) rows) where
  shared_is : (i : ℕ) → i < rows → at shared i ≡ matched b p i
  shared_is i h = rw are (table_at (matched b p) rows i h)

  shared_most : (i : ℕ) → i < rows → at shared i ≤ size_at b i
  shared_most i h = omega (arith, shared_is i h, matched_most b p i)

  pub opening_ready : Creditable tallies (side_at b) (owner_at b) (at shared)
  opening_ready =
      let held = can.sums in
      record {
        long = held.long;
        sided = λ i h x. ((row i h x).side_least, (row i h x).side_most);
        tenant = λ i h x. (row i h x).owner;
        turns = omega (arith, held.turns);
        bought = omega (arith, side_most b can.sound.places (at shared) shared_most 1, sums_fit can.next (bought_in_all tallies + resting b) 0 can.next_most held.bought (omega arith));
        sold = omega (arith, side_most b can.sound.places (at shared) shared_most 2, sums_fit can.next (sold_in_all tallies + resting b) 0 can.next_most held.sold (omega arith));
      }
    where
      row : (i : ℕ) → i < rows → 0 < at shared i → SoundRow b can.next i
      row i h x = can.sound.row i h (omega (arith, shared_most i h))

  side_has : (side i : ℕ) → i < rows → same (side_at b) side (at shared) i ≡ same (side_at b) side (matched b p) i
  side_has side i h = same_both (λ x y. x ≡ y) (side_at b) side (at shared) (matched b p) i refl (λ _. shared_is i h)

  -- a tenant's share of what a side's rows matched
  share_of : (f : ℕ → ℕ) (side u : ℕ) → ((i : ℕ) → i < rows → same (side_at b) side (at shared) i ≡ f i) →
      share_to (side_at b) (owner_at b) (at shared) rows side u ≡ of_tenant b u f
  unfolding of_tenant
  share_of f side u h = rw can.sound.places (share_is (side_at b) (owner_at b) (at shared) f rows side u h)

  pub opening_credits : credited tallies (side_at b) (owner_at b) (at shared) ≡ tallies_opened b p tallies
  opening_credits =
      added_same tallies (λ u _. refl)
      (λ u _. share_of (bought b p) 1 u (λ i h. side_has 1 i h ∙ matched_buy b p i))
      (λ u _. share_of (sold b p) 2 u (λ i h. side_has 2 i h ∙ matched_sell b p i))

-- what an opening answers, as the code has it
pub counted_is : (tallies : List Tally) (b : Book) (p : ℕ) (all : List Tally) (done : Matched) → all ≡ tallies_opened b p tallies → done ≡ matched_of b p
    → ◌≡◌ {A = Counted} (record { tallies = all; volume = done.volume; fills = done.fills }) (counted_of tallies b p)
unfolding counted_of matched_of
counted_is tallies b p all done e f = rw (e, f)

-- Tallies grow by what the tenants' rows match, and at least as much less rests.
module _ (tallies : List Tally) (next : ℕ) (b : Book) (sound : SoundBook b next) (t : SoundTallies tallies next b) (p : ℕ) where
  shares_most : (f : ℕ → ℕ) → sum_to (λ u. of_tenant b u f) tenants ≤ sum_to f b.places
  unfolding of_tenant
  shares_most f = sum_by_key_most (owner_at b) f tenants b.places

  pub opened_sums : SoundTallies (tallies_opened b p tallies) next (after_opening b p)
  opened_sums =
      let apart = live_apart sound in
      let z : ℕ → ℕ = λ u. 0 in
      let buys : ℕ → ℕ = λ u. of_tenant b u (bought b p) in
      let sells : ℕ → ℕ = λ u. of_tenant b u (sold b p) in
      let Turns-then = in_all_added (λ x. x.turns) z buys sells z tallies t.long (λ x u. refl) in
      let bought_then = in_all_added (λ x. x.bought) z buys sells buys tallies t.long (λ x u. refl) in
      let sold_then = in_all_added (λ x. x.sold) z buys sells sells tallies t.long (λ x u. refl) in
      record {
        long = added_length z buys sells 0 tallies ∙ t.long;
        turns = omega (arith, Turns-then, sum_none {f = z} tenants (λ u _. refl), t.turns);
        bought = omega (arith, bought_then, shares_most (bought b p), all_bought b p apart, opening_takes b p apart, t.bought);
        sold = omega (arith, sold_then, shares_most (sold b p), all_sold b p apart, opening_takes b p apart, t.sold);
      }
