-- What it means that a number is given out, said of the calls and their answers: the numbers below the next one are
-- those that turns since the last accepted settings answered as accepted, and they are 1, 2, 3 and so on. So a cancel
-- is turned down by 22 exactly where no such turn gave its number.
use Rattle.std.specs.Prelude.{◌≡◌, ◌↔◌, ◌⊎◌, true, List, [], ◌∷◌, ◌++◌, ℕ, ◌+◌, ◌≤◌, ◌<◌, length}
use Rattle.units.specs.Places.{table}
use Rattle.entry.specs.Entry.{is_cancel}
use Rattle.session.specs.TurnAnswer as turn_answer
use Rattle.session.specs.Market.{Market}
use Rattle.session.specs.Turn.{turned_down_by}
use Rattle.demands.specs.Runs.{Call, Answer, coded, turned, opened, step, after, since, head_entry, Start}
use Rattle.demands.specs.Demand2.{turn_printed, TakenBy, RestsAs, NoRow}
use Rattle.demands.specs.Demand3.{NoReset}

-- the number that an answer gives: that of an accepted order
abbrev pub numbers_in : Answer → List ℕ
numbers_in (coded code) = []
numbers_in (turned (turn_answer.Refused code)) = []
numbers_in (turned (turn_answer.TurnedDown tenant code)) = []
numbers_in (turned (turn_answer.Cancelled tenant number)) = []
numbers_in (turned (turn_answer.Accepted tenant number filled disposition fills)) = number ∷ []
numbers_in (opened a) = []

-- the numbers given in a run since the last accepted settings in it, in the order of the calls
abbrev pub numbers_since : Market → List Call → List ℕ
numbers_since = since (λ m c given. given ++ numbers_in (step m c).answer) [] []

-- some turn of the run answered an order as accepted with the number n, and no settings were accepted after it
abbrev pub GivenIn : ℕ → Market → List Call → Type 0
GivenIn n m [] = ⊥
GivenIn n m (c ∷ cs) = ((numbers_in (step m c).answer ≡ n ∷ []) × NoReset (step m c).market cs) ⊎ GivenIn n (step m c).market cs

-- for every run from a start
pub record NumbersGiven : Type 0 where
  -- the numbers given are 1, 2, 3 and so on, and the next one comes after them
  pub in_order : (m : Market) → Start m → (cs : List Call) → numbers_since m cs ≡ table (λ i. i + 1) (length (numbers_since m cs))
  pub next : (m : Market) → Start m → (cs : List Call) → (after m cs).session.next ≡ length (numbers_since m cs) + 1
  -- a number is below the next one exactly if some turn since the last accepted settings answered it as accepted
  pub below_next : (m : Market) → Start m → (cs : List Call) (n : ℕ) → ((1 ≤ n) × (n < (after m cs).session.next)) ↔ GivenIn n m cs
  -- a cancel: 18 exactly where its number was given so and does not rest as that tenant's; 22 exactly where it was not
  pub cancel_given_out : (m : Market) → Start m → (cs : List Call) (lent t : ℕ) (was : List ℕ)
      → TakenBy (after m cs) lent t → is_cancel (head_entry (after m cs) t) ≡ true
      → (turn_printed (after m cs) lent was ≡ turned_down_by t 18)
      ↔ (GivenIn (head_entry (after m cs) t).number m cs × NoRow (RestsAs (after m cs).book t (head_entry (after m cs) t).number))
  pub cancel_never_given : (m : Market) → Start m → (cs : List Call) (lent t : ℕ) (was : List ℕ)
      → TakenBy (after m cs) lent t → is_cancel (head_entry (after m cs) t) ≡ true
      → (turn_printed (after m cs) lent was ≡ turned_down_by t 22) ↔ (GivenIn (head_entry (after m cs) t).number m cs → ⊥)
