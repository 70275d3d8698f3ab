-- Markets for the examples: a fresh one of 216 rows, and small ones with given terms and one entry that waits.
use Rattle.std.specs.Prelude.{Bool, true, false, ◌∷◌, ℕ, replicate}
use Rattle.units.specs.Units.{cents}
use Rattle.units.specs.Grid.{stepping}
use Rattle.units.specs.declared.grid.Grid.{Grid}
use Rattle.tally.specs.Tallies.{no_tallies}
use Rattle.entry.specs.declared.Away.{Away}
use Rattle.entry.specs.declared.Settings.{Settings}
use Rattle.entry.specs.declared.Terms.{Terms}
use Rattle.lanes.specs.Ring.{lane_of}
use Rattle.session.specs.declared.Session.{Session}
use Rattle.session.specs.Market.{Market}
use Rattle.replay.specs.Output.{new_market}

-- a new session beside an empty book of 216 rows, as the program starts
abbrev pub fresh : Market
fresh = new_market

-- time class, grid 1, call, strike 10000, D 10, F 20, x 10, least 25, greatest 500, and a last print
abbrev pub printing : ℕ → Settings
printing print = record {
  allocation = 1;
  grid = 1;
  option = 1;
  strike = cents 10000;
  drill = cents 10;
  far = cents 20;
  percent = 10;
  least = cents 25;
  greatest = cents 500;
  print = cents print;
  close = cents 0;
}

-- the settings of the worked example, with no prints
abbrev pub worked : Settings
worked = printing 0

-- the same with another grid, other buffers and another last print
abbrev pub terms_on : Grid → ℕ → ℕ → ℕ → Terms
terms_on grid d f print = record {
  allocation = 1;
  grid = grid;
  put = false;
  strike = cents 10000;
  drill = cents d;
  far = cents f;
  percent = 10;
  least = cents 25;
  greatest = cents 500;
  print = cents print;
  close = cents 0;
}

-- and on grid 1
abbrev pub terms : ℕ → ℕ → ℕ → Terms
terms = terms_on (stepping 1 1)

abbrev pub away_quote : ℕ → ℕ → Away
away_quote bid offer = record { bid = cents bid; offer = cents offer }

-- a session on some terms, with one entry waiting in lane 0, at the rotation place 0
abbrev pub session_on : Bool → Terms → Away → ℕ → Session
session_on opened t away next = record {
  accepted = true;
  terms = t;
  away = away;
  opened = opened;
  lanes = record { lanes = lane_of 0 1 ∷ replicate 8 (lane_of 0 0); place = 0 };
  next = next;
  tallies = no_tallies;
}
