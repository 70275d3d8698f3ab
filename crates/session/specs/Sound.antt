-- What every reached market has.
use Rattle.std.specs.Prelude.{◌≡◌, true, false, List, ℕ, ◌≤◌, ◌<◌, length}
use Rattle.units.specs.Units.{tenants}
use Rattle.rows.specs.Rows.{highest}
use Rattle.book.specs.Book.{Book}
use Rattle.book.specs.Sound.{Uncrossed}
use Rattle.entry.specs.Entry.{malformed}
use Rattle.lanes.specs.declared.Lanes.{Lanes}
use Rattle.lanes.specs.Ring.{all_entries, len_of, waiting_at}
use Rattle.lanes.specs.Marks.{Marked}
use Rattle.tally.specs.Tallies.{Fitting}
use Rattle.dealing.specs.Sound.{Ready}
use Rattle.session.specs.declared.Session.{Session}
use Rattle.session.specs.Market.{Market, floor_on}

-- the lanes' marks lie within their rings, and what waits is well-formed
pub record SoundLanes (l : Lanes) (entries : List ℕ) : Type 0 where
  pub entries_long : length entries ≡ all_entries
  pub marks : Marked l
  pub formed : (t i : ℕ) → t < tenants → i < len_of l t → malformed (waiting_at l entries t i) ≡ false

-- the lanes' part of what a market has: once settings are accepted, sound lanes
abbrev pub LanesSound : Session → List ℕ → Type 0
LanesSound s entries = s.accepted ≡ true → SoundLanes s.lanes entries

-- what counting the turns rests on
abbrev pub TurnsHeld : Session → Type 0
TurnsHeld s = s.accepted ≡ true → Fitting s.tallies

-- what an open rests on: every part of a sound market but the away quote, the lanes and the open book
abbrev pub BookSound : Session → Book → Type 0
BookSound s b = s.accepted ≡ true → Ready (floor_on s b)

-- what a market has once settings are accepted
pub record Held (m : Market) : Type 0 where
  pub ready : Ready (floor_on m.session m.book)
  pub bid : m.session.away.bid.0 ≤ highest
  pub offer : m.session.away.offer.0 ≤ highest
  pub lanes : SoundLanes m.session.lanes m.entries
  pub uncrossed : m.session.opened ≡ true → Uncrossed m.book

-- a session with no accepted settings is sound with any columns
abbrev pub Sound : Market → Type 0
Sound m = m.session.accepted ≡ true → Held m
