-- The calls settings and away.
use Rattle.std.specs.Prelude.{Option, Some, None, Bool, true, false, List, [], ◌∷◌, ℕ, ltb, replicate}
use Rattle.units.specs.declared.Cents.{Cents}
use Rattle.units.specs.declared.grid.Grid.{Grid}
use Rattle.units.specs.Units.{cents}
use Rattle.units.specs.Grid.{grid_of, stepping}
use Rattle.units.specs.Tests.{◌or◌, pick}
use Rattle.units.specs.Cases.{Case, ◌when◌, first_of}
use Rattle.rows.specs.Rows.{highest}
use Rattle.book.specs.Book.{empty_book}
use Rattle.entry.specs.declared.Settings.{Settings}
use Rattle.entry.specs.declared.Terms.{Terms}
use Rattle.entry.specs.declared.Away.{Away}
use Rattle.entry.specs.Settings.{in_range, terms_of}
use Rattle.lanes.specs.Ring.{all_entries, empty}
use Rattle.tally.specs.Tallies.{no_tallies}
use Rattle.dealing.specs.Open.{unset}
use Rattle.session.specs.declared.Session.{Session}
use Rattle.session.specs.Market.{Market, Called, market_of, with_away}

abbrev pub no_quote : Away
no_quote = record { bid = cents 0; offer = cents 0 }

-- a session on new terms: lanes, tallies and away quote empty, the rotation at tenant 0, the next number at 1 and the
-- series unopened
abbrev pub started_on : Bool → Terms → Session
started_on accepted terms = record {
  accepted = accepted;
  terms = terms;
  away = no_quote;
  opened = false;
  lanes = empty;
  next = 1;
  tallies = no_tallies;
}

-- no terms: what a session has before settings are accepted
abbrev pub no_terms : Terms
no_terms = record {
  allocation = 0;
  grid = stepping 0 0;
  put = false;
  strike = cents 0;
  drill = cents 0;
  far = cents 0;
  percent = 0;
  least = cents 0;
  greatest = cents 0;
  print = cents 0;
  close = cents 0;
}

-- a new session: no accepted settings yet
abbrev pub new_session : Session
new_session = started_on false no_terms

-- Accepted settings empty book, lanes, tallies and away quote, put the rotation at tenant 0, the next number at 1 and
-- the series unopened.
abbrev pub reset_on : Market → Terms → Market
reset_on m terms = record { session = started_on true terms; book = empty_book m.book.places; entries = replicate all_entries 0 }

-- 7 value outside the list: the grid's number is none, or another value is out of its range
abbrev pub on_grid_of : Market → Settings → Option Grid → Called
on_grid_of m s None = record { market = m; code = 7 }
on_grid_of m s (Some g) = pick (in_range s) (record { market = reset_on m (terms_of s g); code = 0 }) (record { market = m; code = 7 })

unfoldable pub settings_of : Market → Settings → Called
settings_of m s = on_grid_of m s (grid_of s.grid)

-- 8 bid or offer above 1,000,000
unfoldable pub too_high : Cents → Cents → Bool
too_high bid offer = ltb highest bid.0 or ltb highest offer.0

abbrev pub away_cases : Session → Cents → Cents → List Case
away_cases s bid offer = unset s.accepted ∷ (8 when too_high bid offer) ∷ []

unfoldable pub away_refusal : Session → Cents → Cents → ℕ
away_refusal s bid offer = first_of 0 (away_cases s bid offer)

-- An accepted away replaces the present bid and offer, answers 0 and changes nothing else.
unfoldable pub away_of : Market → Cents → Cents → Called
away_of m bid offer =
    pick (ltb 0 (away_refusal m.session bid offer))
    (record { market = m; code = away_refusal m.session bid offer })
    (record { market = market_of (with_away m.session bid offer) m.book m.entries; code = 0 })
