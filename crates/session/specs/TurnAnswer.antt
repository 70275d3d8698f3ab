-- What a turn answers, in the paper's numbers.
use Rattle.std.specs.Prelude.{◌≡◌, ℕ, Result, Ok, Err}
use Rattle.std.proofs.Common.{sym, ap}
use Rattle.units.specs.declared.Contracts.{Contracts}
use Rattle.entry.specs.declared.refusal.Refusal.{Refusal}
use Rattle.entry.specs.Refusals.{refusal_number, refusal_one, turn_down_number, turn_down_one}
use Rattle.judge.specs.Dispositions.{disposition_number, disposition_one}
use Rattle.session.specs.declared.Taken.{Taken}
use Rattle.session.specs.declared.Taken.TheVariants as taken

-- refused by a number; or a taken turn of a tenant, whose entry is turned down by a number, or cancels an order, or is
-- accepted as an order, with the contracts filled, its disposition, and how many fill records it wrote
pub data TurnAnswer : Type 0 where
  Refused : (code : ℕ) → TurnAnswer
  TurnedDown : (tenant code : ℕ) → TurnAnswer
  Cancelled : (tenant number : ℕ) → TurnAnswer
  Accepted : (tenant number : ℕ) (filled : Contracts) (disposition fills : ℕ) → TurnAnswer

-- what a turn returned, in numbers
abbrev pub turn_answer_of : Result Taken Refusal → TurnAnswer
turn_answer_of (Err why) = Refused (refusal_number why)
turn_answer_of (Ok (taken.TurnedDown tenant why)) = TurnedDown tenant (turn_down_number why)
turn_answer_of (Ok (taken.Cancelled tenant number)) = Cancelled tenant number
turn_answer_of (Ok (taken.Accepted tenant number filled d fills)) = Accepted tenant number filled (disposition_number d) fills

-- no two returns of a turn are one answer in numbers
refused_not_taken : (why : Refusal) (x : Taken) → turn_answer_of (Err why) ≡ turn_answer_of (Ok x) → ⊥
refused_not_taken why (taken.TurnedDown t n) h = cc
refused_not_taken why (taken.Cancelled t n) h = cc
refused_not_taken why (taken.Accepted t n q d k) h = cc

taken_one : (x y : Taken) → turn_answer_of (Ok x) ≡ turn_answer_of (Ok y) → x ≡ y
taken_one (taken.TurnedDown t a) (taken.TurnedDown u b) h =
    let e : turn_down_number a ≡ turn_down_number b = cc in
    let same : a ≡ b = turn_down_one a b e in
    cc
taken_one (taken.TurnedDown t a) (taken.Cancelled u n) h = cc
taken_one (taken.TurnedDown t a) (taken.Accepted u n q d k) h = cc
taken_one (taken.Cancelled t n) (taken.TurnedDown u b) h = cc
taken_one (taken.Cancelled t n) (taken.Cancelled u m) h = cc
taken_one (taken.Cancelled t n) (taken.Accepted u m q d k) h = cc
taken_one (taken.Accepted t n q d k) (taken.TurnedDown u b) h = cc
taken_one (taken.Accepted t n q d k) (taken.Cancelled u m) h = cc
taken_one (taken.Accepted t n q d k) (taken.Accepted u m r f l) h =
    let e : disposition_number d ≡ disposition_number f = cc in
    let same : d ≡ f = disposition_one d f e in
    cc

pub turn_answer_one : (x y : Result Taken Refusal) → turn_answer_of x ≡ turn_answer_of y → x ≡ y
turn_answer_one (Err a) (Err b) h = let e : refusal_number a ≡ refusal_number b = cc in ap Err (refusal_one a b e)
turn_answer_one (Err a) (Ok y) h = absurd (refused_not_taken a y h)
turn_answer_one (Ok x) (Err b) h = absurd (refused_not_taken b x (sym h))
turn_answer_one (Ok x) (Ok y) h = ap Ok (taken_one x y h)
