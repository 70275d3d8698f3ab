-- Which way an open goes, and how the code tells it.
use Rattle.std.specs.Prelude.{◌≡◌, ℕ, Option, Some, None, Result, Ok, Err}
use Rattle.std.proofs.Math.Path.{refl, ap}
use Rattle.units.specs.declared.Cents.{Cents}
use Rattle.entry.specs.declared.refusal.Refusal.{Refusal}
use Rattle.entry.specs.Refusals.{refusal_number, refusal_one}

-- refused by a number; quiet, where no resting buy is at or above a resting sell; or at the price chosen
pub data Way : Type 0 where
  Refused : (code : ℕ) → Way
  Quiet : Way
  At : (price : Cents) → Way

-- the way that an answer tells: without a price an open is quiet
abbrev pub way_told : Result (Option Cents) Refusal → Way
way_told (Ok (Some price)) = At price
way_told (Ok None) = Quiet
way_told (Err e) = Refused (refusal_number e)

-- no two answers tell one way
pub way_one : (x y : Result (Option Cents) Refusal) → way_told x ≡ way_told y → x ≡ y
way_one (Ok (Some p)) (Ok (Some q)) h = let e : p ≡ q = cc in ap (λ (z : Cents). Ok (Some z)) e
way_one (Ok (Some p)) (Ok None) h = cc
way_one (Ok (Some p)) (Err b) h = cc
way_one (Ok None) (Ok (Some q)) h = cc
way_one (Ok None) (Ok None) h = refl
way_one (Ok None) (Err b) h = cc
way_one (Err a) (Ok (Some q)) h = cc
way_one (Err a) (Ok None) h = cc
way_one (Err a) (Err b) h = let e : refusal_number a ≡ refusal_number b = cc in ap Err (refusal_one a b e)
