-- Each event's parts put together.
use Rattle.std.specs.Prelude.{◌≡◌, refl, List, ℕ, min, length, take}
use Rattle.std.proofs.Common.{sym, ◌∙◌, arith, take_all}
use Rattle.std.proofs.Math.Path.{ap}
use Rattle.std.proofs.Math.Seq.{take-length}
use Rattle.units.specs.Tests.{order, less, equal, more}
use Rattle.lines.specs.Laying.{longest, Laid, laid_within}
use Rattle.tape.specs.declared.Event.{Event}
use Rattle.session.specs.Market.{Market, Called}
use Rattle.session.specs.Sound.{Sound}
use Rattle.session.specs.TurnAnswer.{TurnAnswer}
use Rattle.session.specs.OpenAnswer.{OpenAnswer}
use Rattle.fills.specs.Calls.{Stored, empty_row, turn_with, open_with}
use Rattle.replay.specs.Listing.{longest_event, turn_lines, open_lines}
use Rattle.replay.specs.Replay.{called, turn_printed, open_printed, event_printed, Replayed}

-- the first k numbers, as far as they are lent
pub take_lent : (k n : ℕ) (lent : List ℕ) → n ≡ min k (length lent) → take n lent ≡ take k lent
take_lent k n lent e = elim (order k (length lent)) [
  | less h ↦ (let x : n ≡ k = omega arith in rw x refl)
  | equal h ↦ (let x : n ≡ k = omega arith in rw x refl)
  | more h ↦ (let x : n ≡ length lent = omega arith in rw x (take-length lent ∙ sym (take_all k lent (omega arith))))
]

module _ (out : List ℕ) (start : ℕ) where
  -- settings, away and submit: what the call answered, and its line
  pub call_replayed :
      (line : ℕ → List ℕ) (c d : Called) (lent : List ℕ) (r : ℕ) → c ≡ d → Sound c.market → Laid out start (line c.code) longest lent r →
      Replayed (called line d) out start c.market lent r
  call_replayed line c d lent r e sound laid = record {
    market = ap (λ (x : Called). x.market) e;
    laid = laid_within out start (omega arith) (rw e at laid);
    sound = sound;
  }

  pub turn_replayed :
      (m : Market) (done : Stored TurnAnswer) (lent : List ℕ) (r : ℕ) → done ≡ turn_with m empty_row → Sound done.market →
      Laid out start (turn_lines done.answer done.fills) longest_event lent r →
      Replayed (turn_printed m) out start done.market lent r
  unfolding turn_printed
  turn_replayed m done lent r e sound laid = record {
    market = ap (λ (x : Stored TurnAnswer). x.market) e;
    laid = rw e at laid;
    sound = sound;
  }

  pub open_replayed :
      (m : Market) (done : Stored OpenAnswer) (lent : List ℕ) (r : ℕ) → done ≡ open_with m empty_row → Sound done.market →
      Laid out start (open_lines done.answer m.book.sizes done.market.book.sizes m.book.numbers done.fills) longest_event lent r →
      Replayed (open_printed m) out start done.market lent r
  unfolding open_printed
  open_replayed m done lent r e sound laid = record {
    market = ap (λ (x : Stored OpenAnswer). x.market) e;
    laid = rw e at laid;
    sound = sound;
  }

-- an event that is known
pub known :
    (m : Market) (e f : Event) (given out : List ℕ) (start : ℕ) {after : Market} {lent : List ℕ} {r : ℕ} → e ≡ f →
    Replayed (event_printed m f given) out start after lent r → Replayed (event_printed m e given) out start after lent r
known m e f given out start is done = rw is done
