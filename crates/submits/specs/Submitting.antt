-- The program's loop: each turn sends what is at hand, then reads the sheet, writes out what is written, or stops.
use Rattle.std.specs.Prelude.{◌≡◌, Bool, false, Result, is_ok, ℕ, ◌+◌, ◌*◌, ◌≤◌, length, take}
use mathlib.Core.List.{List, [], ◌++◌, flatten}
use Rattle.window.specs.Window.{window_long}
use Rattle.window.specs.Program.{going, Stopped, status_of}
use Rattle.sheet.specs.declared.Order.{Order}
use Rattle.sheet.specs.declared.Place.{Place}
use Rattle.sheet.specs.declared.Refused.{Refused}
use Rattle.sheet.specs.Sheet.{line_most, all_before, told_of}
use Rattle.sheet.specs.PartsLaws.{left}
use Rattle.submits.specs.Sending.{sent_of, reader_of, ending_of}

-- the bytes of the output
abbrev pub output_long : ℕ
output_long = 65536

-- the program has come to where it stands: the submits of the orders so far are written out or stand in the output, and
-- whatever comes behind the parts that were read, what is told of the sheet is these orders and then what is told from
-- there on
pub record CameTo (p : Place) (held window out : List ℕ) (at from to : ℕ) : Type 0 where
  pub read : List (List ℕ)
  pub written : List ℕ
  pub orders : List Order
  pub tape : written ++ take at out ≡ sent_of orders
  pub tells : (rest : List ℕ) → told_of (flatten read ++ rest) ≡ all_before orders (left (reader_of (take to window) from p held) rest)

-- it has stopped: these are the submits of the sheet's orders, and what is to be told is its ending, whatever comes
-- behind the parts that were read, unless the file has ended
pub record CameToStop (out : List ℕ) (at : ℕ) (more : Bool) (how : Result (Unit {0}) Refused) : Type 0 where
  pub read : List (List ℕ)
  pub written : List ℕ
  pub orders : List Order
  pub tape : written ++ take at out ≡ sent_of orders
  pub tells : (rest : List ℕ) → (more ≡ false → rest ≡ []) → told_of (flatten read ++ rest) ≡ record { orders = orders; ending = ending_of how }

-- a line's number is at most this, whatever the turns that are left read
abbrev pub farthest : ℕ
farthest = 9223372036854775809

-- how the program stands before each turn of its loop: the bytes written lie in the output, those at hand in the
-- window and those of a line in their memory, lines cannot overflow in the turns that are left, and it has come there,
-- or has stopped with what is to be told, by the byte that tells whether this is a refusal
pub record Submitting (p : Place) (held window out : List ℕ) (at from to : ℕ) (more : Bool) (how : Result (Unit {0}) Refused)
    (status turns : ℕ) : Type 0 where
  pub held_long : length held ≡ line_most
  pub few : p.held ≤ line_most
  pub window_long_lem : length window ≡ window_long
  pub out_long : length out ≡ output_long
  pub written : at ≤ output_long
  pub begun : from ≤ to
  pub within : to ≤ window_long
  pub bounded : p.line + window_long * turns ≤ farthest
  pub came : status ≡ going → CameTo p held window out at from to
  pub stopped : Stopped status → CameToStop out at more how
  pub ended_by : Stopped status → status ≡ status_of (is_ok how)
