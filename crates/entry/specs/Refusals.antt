-- The numbers of the reasons: 1 to 9, 20, 21 and 35 refuse a call, 10 to 19 and 22 turn an entry down.
use Rattle.std.specs.Prelude.{◌≡◌, ℕ, ◌<◌, Result, Ok, Err, eqb}
use Rattle.std.proofs.Math.Path.{refl, ap}
use Rattle.std.proofs.Common.{sym, ◌∙◌, arith}
use Rattle.units.specs.Tests.{pick}
use Rattle.entry.specs.declared.refusal.Refusal.{Refusal}
use Rattle.entry.specs.declared.refusal.Refusal.TheVariants as refusal
use Rattle.entry.specs.declared.refusal.TurnDown.{TurnDown}
use Rattle.entry.specs.declared.refusal.TurnDown.TheVariants as turn_down

abbrev pub refusal_number : Refusal → ℕ
refusal_number refusal.NoSuchTenant = 1
refusal_number refusal.Malformed = 2
refusal_number refusal.Miscounted = 3
refusal_number refusal.LaneFull = 4
refusal_number refusal.NothingWaits = 5
refusal_number refusal.FewRecords = 6
refusal_number refusal.OutOfRange = 7
refusal_number refusal.TooHigh = 8
refusal_number refusal.AlreadyOpen = 9
refusal_number refusal.NoValidPrice = 20
refusal_number refusal.NothingSet = 21
refusal_number refusal.TurnsUsedUp = 35

abbrev pub turn_down_number : TurnDown → ℕ
turn_down_number turn_down.NotYet = 10
turn_down_number turn_down.OffGrid = 11
turn_down_number turn_down.AtStrike = 12
turn_down_number turn_down.NoOffer = 13
turn_down_number turn_down.NoBid = 14
turn_down_number turn_down.TooWide = 15
turn_down_number turn_down.FarPrice = 16
turn_down_number turn_down.NoRoom = 17
turn_down_number turn_down.GivenOut = 18
turn_down_number turn_down.UsedUp = 19
turn_down_number turn_down.NeverGiven = 22

-- what a call comes to: 0 where it is taken, and else the number of its refusal
abbrev pub code_of : Result Unit Refusal → ℕ
code_of (Ok _) = 0
code_of (Err e) = refusal_number e

-- what an entry meets: 0 where it passes, and else the number that turns it down
abbrev pub turned_down_by : Result Unit TurnDown → ℕ
turned_down_by (Ok _) = 0
turned_down_by (Err e) = turn_down_number e

-- no two refusals have one number: from the number back
unfoldable refusal_of : ℕ → Refusal
refusal_of n =
    pick (eqb n 1) refusal.NoSuchTenant (
    pick (eqb n 2) refusal.Malformed (
    pick (eqb n 3) refusal.Miscounted (
    pick (eqb n 4) refusal.LaneFull (
    pick (eqb n 5) refusal.NothingWaits (
    pick (eqb n 6) refusal.FewRecords (
    pick (eqb n 7) refusal.OutOfRange (
    pick (eqb n 8) refusal.TooHigh (
    pick (eqb n 9) refusal.AlreadyOpen (
    pick (eqb n 20) refusal.NoValidPrice (
    pick (eqb n 21) refusal.NothingSet refusal.TurnsUsedUp))))))))))

refusal_of_number : (a : Refusal) → refusal_of (refusal_number a) ≡ a
unfolding refusal_of pick
refusal_of_number refusal.NoSuchTenant = refl
refusal_of_number refusal.Malformed = refl
refusal_of_number refusal.Miscounted = refl
refusal_of_number refusal.LaneFull = refl
refusal_of_number refusal.NothingWaits = refl
refusal_of_number refusal.FewRecords = refl
refusal_of_number refusal.OutOfRange = refl
refusal_of_number refusal.TooHigh = refl
refusal_of_number refusal.AlreadyOpen = refl
refusal_of_number refusal.NoValidPrice = refl
refusal_of_number refusal.NothingSet = refl
refusal_of_number refusal.TurnsUsedUp = refl

pub refusal_one : (a b : Refusal) → refusal_number a ≡ refusal_number b → a ≡ b
refusal_one a b h = sym (refusal_of_number a) ∙ (ap refusal_of h ∙ refusal_of_number b)

-- and none has 0
pub refusal_above_0 : (a : Refusal) → 0 < refusal_number a
refusal_above_0 refusal.NoSuchTenant = omega arith
refusal_above_0 refusal.Malformed = omega arith
refusal_above_0 refusal.Miscounted = omega arith
refusal_above_0 refusal.LaneFull = omega arith
refusal_above_0 refusal.NothingWaits = omega arith
refusal_above_0 refusal.FewRecords = omega arith
refusal_above_0 refusal.OutOfRange = omega arith
refusal_above_0 refusal.TooHigh = omega arith
refusal_above_0 refusal.AlreadyOpen = omega arith
refusal_above_0 refusal.NoValidPrice = omega arith
refusal_above_0 refusal.NothingSet = omega arith
refusal_above_0 refusal.TurnsUsedUp = omega arith

-- no two turn-downs have one number: from the number back
unfoldable turn_down_of : ℕ → TurnDown
turn_down_of n =
    pick (eqb n 10) turn_down.NotYet (
    pick (eqb n 11) turn_down.OffGrid (
    pick (eqb n 12) turn_down.AtStrike (
    pick (eqb n 13) turn_down.NoOffer (
    pick (eqb n 14) turn_down.NoBid (
    pick (eqb n 15) turn_down.TooWide (
    pick (eqb n 16) turn_down.FarPrice (
    pick (eqb n 17) turn_down.NoRoom (
    pick (eqb n 18) turn_down.GivenOut (
    pick (eqb n 19) turn_down.UsedUp turn_down.NeverGiven)))))))))

turn_down_of_number : (a : TurnDown) → turn_down_of (turn_down_number a) ≡ a
unfolding turn_down_of pick
turn_down_of_number turn_down.NotYet = refl
turn_down_of_number turn_down.OffGrid = refl
turn_down_of_number turn_down.AtStrike = refl
turn_down_of_number turn_down.NoOffer = refl
turn_down_of_number turn_down.NoBid = refl
turn_down_of_number turn_down.TooWide = refl
turn_down_of_number turn_down.FarPrice = refl
turn_down_of_number turn_down.NoRoom = refl
turn_down_of_number turn_down.GivenOut = refl
turn_down_of_number turn_down.UsedUp = refl
turn_down_of_number turn_down.NeverGiven = refl

pub turn_down_one : (a b : TurnDown) → turn_down_number a ≡ turn_down_number b → a ≡ b
turn_down_one a b h = sym (turn_down_of_number a) ∙ (ap turn_down_of h ∙ turn_down_of_number b)

-- and none has 0
pub turn_down_above_0 : (a : TurnDown) → 0 < turn_down_number a
turn_down_above_0 turn_down.NotYet = omega arith
turn_down_above_0 turn_down.OffGrid = omega arith
turn_down_above_0 turn_down.AtStrike = omega arith
turn_down_above_0 turn_down.NoOffer = omega arith
turn_down_above_0 turn_down.NoBid = omega arith
turn_down_above_0 turn_down.TooWide = omega arith
turn_down_above_0 turn_down.FarPrice = omega arith
turn_down_above_0 turn_down.NoRoom = omega arith
turn_down_above_0 turn_down.GivenOut = omega arith
turn_down_above_0 turn_down.UsedUp = omega arith
turn_down_above_0 turn_down.NeverGiven = omega arith

pub code_one : (r s : Result Unit Refusal) → code_of r ≡ code_of s → r ≡ s
code_one (Ok _) (Ok _) h = refl
code_one (Ok _) (Err b) h = absurd (omega (arith, refusal_above_0 b))
code_one (Err a) (Ok _) h = absurd (omega (arith, refusal_above_0 a))
code_one (Err a) (Err b) h = ap Err (refusal_one a b h)

pub turned_down_one : (r s : Result Unit TurnDown) → turned_down_by r ≡ turned_down_by s → r ≡ s
turned_down_one (Ok _) (Ok _) h = refl
turned_down_one (Ok _) (Err b) h = absurd (omega (arith, turn_down_above_0 b))
turned_down_one (Err a) (Ok _) h = absurd (omega (arith, turn_down_above_0 a))
turned_down_one (Err a) (Err b) h = ap Err (turn_down_one a b h)
