-- What a judgement says in the words of the verdict: a reason is its number.
use Rattle.std.specs.Prelude.{◌≡◌, Result, Ok, Err}
use Rattle.std.proofs.Common.{ap}
use Rattle.entry.specs.Refusals.{turn_down_number, turn_down_one}
use Rattle.entry.specs.declared.refusal.TurnDown.{TurnDown}
use Rattle.judge.specs.declared.Judged as declared
use Rattle.judge.specs.declared.Judged.TheVariants as passed
use Rattle.judge.specs.Judged.{Judged, TurnedDown, Rests, Trades}

abbrev pub judged_of : Result declared.Judged TurnDown → Judged
judged_of (Err e) = TurnedDown (turn_down_number e)
judged_of (Ok (passed.Rests order)) = Rests order
judged_of (Ok (passed.Trades order bound)) = Trades order bound

-- no two judgements say the same
pub judged_one : (r s : Result declared.Judged TurnDown) → judged_of r ≡ judged_of s → r ≡ s
judged_one (Err a) (Err b) h = ap Err (turn_down_one a b (cc))
judged_one (Err a) (Ok (passed.Rests j)) h = cc
judged_one (Err a) (Ok (passed.Trades j b)) h = cc
judged_one (Ok (passed.Rests i)) (Err a) h = cc
judged_one (Ok (passed.Rests i)) (Ok (passed.Rests j)) h = cc
judged_one (Ok (passed.Rests i)) (Ok (passed.Trades j b)) h = cc
judged_one (Ok (passed.Trades i a)) (Err e) h = cc
judged_one (Ok (passed.Trades i a)) (Ok (passed.Rests j)) h = cc
judged_one (Ok (passed.Trades i a)) (Ok (passed.Trades j b)) h = cc
