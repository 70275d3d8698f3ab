-- What came of an entry, and how the code tells it.
use Rattle.std.specs.Prelude.{◌≡◌, ℕ}
use Rattle.std.proofs.Math.Path.{ap}
use Rattle.units.specs.declared.Contracts.{Contracts}
use Rattle.entry.specs.Refusals.{turn_down_number, turn_down_one}
use Rattle.judge.specs.Dispositions.{disposition_number, disposition_one}
use Rattle.dealing.specs.declared.Came.{Came as Told}
use Rattle.dealing.specs.declared.Came.TheVariants as told

-- it is turned down by a number; or cancels the order of that number; or is accepted as an order of that number, with
-- the contracts filled, its disposition, and how many fill records it wrote
pub data Came : Type 0 where
  TurnedDown : (code : ℕ) → Came
  Cancelled : (number : ℕ) → Came
  Accepted : (number : ℕ) (filled : Contracts) (disposition fills : ℕ) → Came

-- what came of it, of the reason and the disposition the numbers
abbrev pub came_of : Told → Came
came_of (told.TurnedDown why) = TurnedDown (turn_down_number why)
came_of (told.Cancelled number) = Cancelled number
came_of (told.Accepted number filled d fills) = Accepted number filled (disposition_number d) fills

-- no two come to one
pub came_one : (x y : Told) → came_of x ≡ came_of y → x ≡ y
came_one (told.TurnedDown a) (told.TurnedDown b) h = let e : turn_down_number a ≡ turn_down_number b = cc in ap told.TurnedDown (turn_down_one a b e)
came_one (told.TurnedDown a) (told.Cancelled n) h = cc
came_one (told.TurnedDown a) (told.Accepted n q d k) h = cc
came_one (told.Cancelled n) (told.TurnedDown b) h = cc
came_one (told.Cancelled n) (told.Cancelled m) h = let e : n ≡ m = cc in ap told.Cancelled e
came_one (told.Cancelled n) (told.Accepted m q d k) h = cc
came_one (told.Accepted n q d k) (told.TurnedDown b) h = cc
came_one (told.Accepted n q d k) (told.Cancelled m) h = cc
came_one (told.Accepted n q d k) (told.Accepted m r f l) h =
    let e : disposition_number d ≡ disposition_number f = cc in
    let same : d ≡ f = disposition_one d f e in
    cc
