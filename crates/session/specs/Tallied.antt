-- What the reading of a tally answers, in the paper's numbers.
use Rattle.std.specs.Prelude.{◌≡◌, ℕ, Result, Ok, Err}
use Rattle.std.proofs.Common.{ap}
use Rattle.entry.specs.declared.refusal.Refusal as entry
use Rattle.entry.specs.Refusals.{refusal_number, refusal_one}
use Rattle.tally.specs.declared.Tally.{Tally}

-- refused by a number; or the tally of the tenant
pub data Tallied : Type 0 where
  Refused : (code : ℕ) → Tallied
  Of : (tally : Tally) → Tallied

-- what a reading returned, in numbers
abbrev pub tallied_as : Result Tally entry.Refusal → Tallied
tallied_as (Err why) = Refused (refusal_number why)
tallied_as (Ok t) = Of t

-- no two returns of a reading are one answer in numbers
pub tallied_one : (x y : Result Tally entry.Refusal) → tallied_as x ≡ tallied_as y → x ≡ y
tallied_one (Err a) (Err b) e = let n : refusal_number a ≡ refusal_number b = cc in ap Err (refusal_one a b n)
tallied_one (Err a) (Ok y) e = cc
tallied_one (Ok x) (Err b) e = cc
tallied_one (Ok x) (Ok y) e = let same : x ≡ y = cc in ap Ok same
