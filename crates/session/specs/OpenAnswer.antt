-- What an open answers, in the paper's numbers.
use Rattle.std.specs.Prelude.{◌≡◌, ℕ, Result, Ok, Err}
use Rattle.std.proofs.Common.{ap}
use Rattle.units.specs.declared.Cents.{Cents}
use Rattle.units.specs.declared.Contracts.{Contracts}
use Rattle.entry.specs.declared.refusal.Refusal as entry
use Rattle.entry.specs.Refusals.{refusal_number, refusal_one}
use Rattle.session.specs.declared.Opening.{Opening}

-- refused by a number; or the price and the volume, and how many fill records it wrote
pub data OpenAnswer : Type 0 where
  Refused : (code : ℕ) → OpenAnswer
  AtPrice : (price : Cents) (volume : Contracts) (fills : ℕ) → OpenAnswer

-- what an open returned, in numbers
abbrev pub open_answer_of : Result Opening entry.Refusal → OpenAnswer
open_answer_of (Err why) = Refused (refusal_number why)
open_answer_of (Ok o) = AtPrice o.price o.volume o.fills

-- no two returns of an open are one answer in numbers
pub open_answer_one : (x y : Result Opening entry.Refusal) → open_answer_of x ≡ open_answer_of y → x ≡ y
open_answer_one (Err a) (Err b) e = let n : refusal_number a ≡ refusal_number b = cc in ap Err (refusal_one a b n)
open_answer_one (Err a) (Ok y) e = cc
open_answer_one (Ok x) (Err b) e = cc
open_answer_one (Ok x) (Ok y) e =
    let price : x.price ≡ y.price = cc in
    let volume : x.volume ≡ y.volume = cc in
    let fills : x.fills ≡ y.fills = cc in
    λ i. Ok (record { price = price i; volume = volume i; fills = fills i })
