-- What an order that trades makes of the tallies.
use Rattle.std.specs.Prelude.{◌≡◌, List, ℕ, ◌+◌, ◌*◌, ◌≤◌, ◌<◌, ◌^◌, eqb, length}
use Rattle.units.specs.Units.{contracts, tenants}
use Rattle.units.specs.Tests.{pick}
use Rattle.rows.specs.Rows.{rows, no_number}
use Rattle.book.specs.Book.{Book}
use Rattle.book.specs.Sound.{SoundBook, resting}
use Rattle.book.specs.Trading.{of_tenant, filled, traded, trade_records}
use Rattle.book.specs.Records.{fields}
use Rattle.entry.specs.declared.Entry.{Entry}
use Rattle.entry.specs.Entry.{is_buy}
use Rattle.entry.specs.EntryLaws.{Proper}
use Rattle.tally.specs.declared.Tally.{Tally}
use Rattle.tally.specs.Tallies.{added, only_for, turns_in_all, bought_in_all, sold_in_all}
use Rattle.dealing.specs.declared.settle.Settled.{Settled}

-- the side that an order trades with
abbrev pub other_side : ℕ → ℕ
other_side side = pick (eqb side 1) 2 1

abbrev pub opposite : Entry → ℕ
opposite e = other_side e.side

-- what settling rests on: a sound book, a proper order of a tenant, records for every row, and sums that fit
pub record Settles (tallies : List Tally) (t : ℕ) (e : Entry) (b : Book) (was : List ℕ) : Type 0 where
  pub next : ℕ
  pub next_most : next ≤ no_number
  pub sound : SoundBook b next
  pub proper : Proper e
  pub tenant : t < tenants
  pub records_long : length was ≡ fields * rows
  pub long : length tallies ≡ tenants
  pub turns : turns_in_all tallies < 2 ^ 64
  pub bought : bought_in_all tallies + resting b + e.size.0 < 2 ^ 64
  pub sold : sold_in_all tallies + resting b + e.size.0 < 2 ^ 64

module _ (tallies : List Tally) (t : ℕ) (e : Entry) (b : Book) (bound allocation : ℕ) where
  -- contracts that tenant u's resting rows traded
  unfoldable pub resting_share : ℕ → ℕ
  resting_share u = of_tenant b u (traded b (opposite e) bound e.size.0 allocation)

  -- what the incoming order adds for its own tenant
  abbrev pub incoming_share : ℕ → ℕ
  incoming_share = only_for t (filled b (opposite e) bound e.size.0)

  -- contracts bought and sold, of resting and incoming orders
  unfoldable pub tallies_after : List Tally
  tallies_after =
      pick (is_buy e) (added (λ u. 0) incoming_share resting_share tallies) (added (λ u. 0) resting_share incoming_share tallies)

  unfoldable pub settled_of : Settled
  settled_of = record {
    tallies = tallies_after;
    filled = contracts (filled b (opposite e) bound e.size.0);
    fills = trade_records b (opposite e) bound e.size.0 allocation;
  }
