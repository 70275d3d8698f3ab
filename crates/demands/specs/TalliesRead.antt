-- Tallies can be read: after any run, the reading of a tenant's tally answers turns taken, contracts bought and
-- contracts sold as sums over the history since the last accepted settings, and the nine lines print them. It alters
-- nothing, and is refused, by 1, for a tenant above 8 alone.
use Rattle.std.specs.Prelude.{◌≡◌, ◌↔◌, List, ℕ, ◌≤◌, ◌<◌}
use Rattle.units.specs.Units.{tenants}
use Rattle.session.specs.declared.Session.{Session}
use Rattle.session.specs.Tallied.{Refused}
use Rattle.session.specs.Market.{Market}
use Rattle.session.specs.Reading.{Values, tallied_of}
use Rattle.replay.specs.Tallying.{tally_lines_to, reading_of, tally_lines}
use Rattle.demands.specs.Runs.{Call, after, Start}
use Rattle.demands.specs.Tallies.{turns_by, bought_by, sold_by, sum_since}

-- what tenant t has done by the history of a run, since the last accepted settings in it
abbrev pub history : Market → List Call → ℕ → Values
history m cs t = record {
  code = 0;
  turns = sum_since (turns_by t) 0 m cs;
  bought = sum_since (bought_by t) 0 m cs;
  sold = sum_since (sold_by t) 0 m cs;
}

pub record TalliesRead : Type 0 where
  -- for every run from a start
  pub values : (m : Market) → Start m → (cs : List Call) (t : ℕ) → t < tenants → reading_of (after m cs).session t ≡ history m cs t
  pub lines : (m : Market) → Start m → (cs : List Call) → tally_lines (after m cs).session ≡ tally_lines_to (history m cs) tenants
  -- for every session
  pub refused : (s : Session) (t n : ℕ) → (tallied_of s t ≡ Refused n) ↔ ((n ≡ 1) × (tenants ≤ t))
