-- The submits of an order sheet: the tape that is written of it is these calls, and submit answers to each as it says.
-- The proofs stand in SheetsProof.
use Rattle.std.specs.Prelude.{◌≡◌, ◌↔◌, ◌⊎◌, true, List, [], ◌∷◌, ◌++◌, ℕ, ◌≤◌, ◌<◌}
use Rattle.tape.specs.Whole.{ended, read_all}
use Rattle.writer.specs.Tapes.{tape_of}
use Rattle.session.specs.Market.{Market}
use Rattle.session.specs.Sound.{Sound}
use Rattle.session.specs.Submit.{submit_of}
use Rattle.sheet.specs.declared.Order.{Order}
use Rattle.sheet.specs.Sheet.{told_of}
use Rattle.sheet.specs.Spelling.{CanSpell}
use Rattle.sheet.specs.Submits.{six_numbers, submits_of}
use Rattle.demands.specs.Runs.{Call, submit}
use Rattle.demands.specs.Demand2.{waiting_in}
use Rattle.demands.specs.Replay.{calls_of}

-- the submits of orders: one entry each
abbrev pub submit_calls : List Order → List Call
submit_calls [] = []
submit_calls (o ∷ os) = submit o.tenant 1 (six_numbers o) ∷ submit_calls os

-- what submit answers to an order
abbrev pub answer_to : Market → Order → ℕ
answer_to m o = (submit_of m o.tenant 1 (six_numbers o)).code

-- a value outside submit's ranges: size 0, and a limit's price of 0.00 or above 10000.00
abbrev pub OutOfRange : Order → Type 0
OutOfRange o = (o.entry.size.0 ≡ 0) ⊎ ((o.entry.kind ≡ 1) × ((o.entry.price.0 ≡ 0) ⊎ (1000000 < o.entry.price.0)))

pub record SheetSubmits : Type 0 where
  -- the tape of a sheet's submits is read to its end, and its events are calls: a submit of one entry for each order
  pub calls :
      (s : List ℕ) → (calls_of (read_all (tape_of (submits_of (told_of s).orders))).events ≡ submit_calls (told_of s).orders) ×
      ((read_all (tape_of (submits_of (told_of s).orders))).ending ≡ ended)
  -- 3 never comes
  pub one_counted : (m : Market) (o : Order) → answer_to m o ≡ 3 → ⊥
  -- 1 is given to tenant 9, and 2 to a value outside submit's ranges
  pub tenant_nine : (m : Market) (o : Order) → CanSpell o → m.session.accepted ≡ true → (answer_to m o ≡ 1) ↔ (o.tenant ≡ 9)
  pub out_of_range : (m : Market) (o : Order) → CanSpell o → m.session.accepted ≡ true → (answer_to m o ≡ 2) ↔ ((o.tenant ≤ 8) × OutOfRange o)
  -- an accepted submit puts the order's entry behind those waiting in its tenant's lane
  pub enters : (m : Market) (o : Order) → Sound m → answer_to m o ≡ 0 →
      waiting_in (submit_of m o.tenant 1 (six_numbers o)).market o.tenant ≡ waiting_in m o.tenant ++ (o.entry ∷ [])
