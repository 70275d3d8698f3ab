-- An open: which way it goes, what an opening at a price makes of the tallies, and what it asks.
use Rattle.std.specs.Prelude.{◌≡◌, Option, Bool, List, [], ◌∷◌, ℕ, ◌*◌, ◌≤◌, ltb, length}
use Rattle.units.specs.declared.Cents.{Cents}
use Rattle.units.specs.Units.{cents, contracts}
use Rattle.units.specs.Tests.{◌and◌, is_not, pick}
use Rattle.units.specs.Cases.{Case, ◌when◌, first_of}
use Rattle.rows.specs.Rows.{rows, no_number}
use Rattle.book.specs.Book.{Book, crosses}
use Rattle.book.specs.Records.{fields}
use Rattle.book.specs.Sound.{SoundBook}
use Rattle.book.specs.Trading.{of_tenant}
use Rattle.opening.specs.Opening.{volume, bought, sold, opening_records}
use Rattle.price.specs.declared.Sources.{Sources}
use Rattle.price.specs.Price.{price_of, chosen, none_valid}
use Rattle.tally.specs.declared.Tally.{Tally}
use Rattle.tally.specs.Tallies.{added}
use Rattle.dealing.specs.declared.Series.{Series}
use Rattle.dealing.specs.declared.open.Counted.{Counted}
use Rattle.dealing.specs.Way.{Way, Refused, Quiet, At}
use Rattle.dealing.specs.Sound.{SoundTallies}

-- contracts that each tenant's rows bought and sold at a price are added to the tallies
abbrev pub tallies_opened : Book → ℕ → List Tally → List Tally
tallies_opened b p = added (λ u. 0) (λ u. of_tenant b u (bought b p)) (λ u. of_tenant b u (sold b p))

unfoldable pub counted_of : List Tally → Book → ℕ → Counted
counted_of tallies b p =
    record { tallies = tallies_opened b p tallies; volume = contracts (volume b p); fills = opening_records b p }

-- a sound book, tallies that can be added to, and records for every row
pub record CanOpen (tallies : List Tally) (b : Book) (was : List ℕ) : Type 0 where
  pub next : ℕ
  pub next_most : next ≤ no_number
  pub sound : SoundBook b next
  pub sums : SoundTallies tallies next b
  pub records_long : length was ≡ fields * rows

-- NBB and NBO here are the away quote alone; the grid, the last print and the previous close are settings
abbrev pub sources_in : Series → Sources
sources_in s = record {
  grid = s.terms.grid;
  bid = s.away.bid;
  offer = s.away.offer;
  print = s.terms.print;
  close = s.terms.close;
}

unfoldable pub choice_in : Series → Option Cents
choice_in s = price_of (sources_in s)

-- 21 no accepted settings yet: the first refusal of every call but settings
abbrev pub unset : Bool → Case
unset accepted = 21 when is_not accepted

module _ (accepted : Bool) (s : Series) (b : Book) (lent : ℕ) where
  -- the numbers in the order of checking: 21 no accepted settings yet, 9 already open, 6 fewer than 216 fill records
  -- lent, 20 no valid opening price, given in no other case than that some resting buy is at or above a resting sell
  abbrev pub way_cases : List Case
  way_cases =
      unset accepted
      ∷ (9 when s.opened)
      ∷ (6 when ltb lent rows)
      ∷ (20 when crosses b and none_valid (choice_in s))
      ∷ []

  unfoldable pub way_refusal : ℕ
  way_refusal = first_of 0 way_cases

  -- refused by the first number that applies; else at the price chosen where some resting buy is at or above a resting
  -- sell, and else quiet
  unfoldable pub way_of : Way
  way_of =
      pick (ltb 0 way_refusal) (Refused way_refusal)
      (pick (crosses b) (At (cents (chosen (choice_in s)))) Quiet)
