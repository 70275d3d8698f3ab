-- What the functions of this crate ask.
use Rattle.std.specs.Prelude.{◌≡◌, true, false, List, ℕ, ◌*◌, ◌≤◌, ◌<◌, length}
use Rattle.book.specs.Records.{fields}
use Rattle.units.specs.Units.{tenants}
use Rattle.rows.specs.Rows.{rows, last_number}
use Rattle.entry.specs.declared.Entry.{Entry}
use Rattle.entry.specs.declared.Quotes.{Quotes}
use Rattle.entry.specs.Entry.{new_order, malformed}
use Rattle.dealing.specs.Floor.{Floor}
use Rattle.dealing.specs.Settle.{Settles}
use Rattle.dealing.specs.Deal.{quotes_on}
use Rattle.dealing.specs.Sound.{Ready}

-- an order that trades settles, is judged by the quotes before it trades, and there is a number for it
pub record CanTrade (f : Floor) (t : ℕ) (e : Entry) (q : Quotes) (was : List ℕ) : Type 0 where
  pub settles : Settles f.tallies t e f.book was
  pub quoted : q ≡ quotes_on f
  pub numbered : f.number ≤ last_number

-- a new order of a tenant, and records for every row
pub record CanOrder (f : Floor) (t : ℕ) (e : Entry) (was : List ℕ) : Type 0 where
  pub ready : Ready f
  pub new : new_order e ≡ true
  pub tenant : t < tenants
  pub records_long : length was ≡ fields * rows

-- a well-formed entry of a tenant, and records for every row
pub record CanDeal (f : Floor) (t : ℕ) (e : Entry) (was : List ℕ) : Type 0 where
  pub ready : Ready f
  pub formed : malformed e ≡ false
  pub tenant : t < tenants
  pub records_long : length was ≡ fields * rows
