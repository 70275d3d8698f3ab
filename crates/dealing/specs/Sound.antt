-- What every reached floor has.
use Rattle.std.specs.Prelude.{◌≡◌, true, List, ℕ, ◌+◌, ◌*◌, ◌-◌, ◌≤◌, length}
use Rattle.units.specs.Units.{tenants}
use Rattle.rows.specs.Rows.{highest, no_number, largest}
use Rattle.book.specs.Book.{Book}
use Rattle.book.specs.Sound.{SoundBook, Uncrossed, resting}
use Rattle.entry.specs.declared.Terms.{Terms}
use Rattle.tally.specs.declared.Tally.{Tally}
use Rattle.tally.specs.Tallies.{turns_in_all, bought_in_all, sold_in_all, most_turns}
use Rattle.dealing.specs.Floor.{Floor}

-- accepted terms are in range
pub record SoundTerms (t : Terms) : Type 0 where
  pub low_least : 1 ≤ t.grid.low.0
  pub low_most : t.grid.low.0 ≤ highest
  pub strike : t.strike.0 ≤ highest
  pub drill : t.drill.0 ≤ highest
  pub far : t.far.0 ≤ highest

-- contracts bought and all contracts resting are together within 999,999 for each number given, and so are those sold
-- and all resting: no sum overflows, whatever trades with what rests
pub record SoundTallies (tallies : List Tally) (next : ℕ) (b : Book) : Type 0 where
  pub long : length tallies ≡ tenants
  pub turns : turns_in_all tallies ≤ most_turns
  pub bought : bought_in_all tallies + resting b ≤ largest * (next - 1)
  pub sold : sold_in_all tallies + resting b ≤ largest * (next - 1)

-- what judging and trading rest on
pub record Ready (f : Floor) : Type 0 where
  pub book : SoundBook f.book f.number
  pub terms : SoundTerms f.series.terms
  pub next_least : 1 ≤ f.number
  pub next_most : f.number ≤ no_number
  pub tallies : SoundTallies f.tallies f.number f.book

-- what an entry keeps: all that, and once open a book that is neither locked nor crossed
pub record Kept (f : Floor) : Type 0 where
  pub ready : Ready f
  pub uncrossed : f.series.opened ≡ true → Uncrossed f.book
