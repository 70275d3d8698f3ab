-- Submit keeps a market sound.
use Rattle.std.specs.Prelude.{◌≡◌, refl, false, List, ℕ, ◌<◌}
use Rattle.std.proofs.Common.{sym, ◌∙◌, arith}
use Rattle.units.specs.Tests.{order, less, equal, more}
use Rattle.book.specs.Book.{Book}
use Rattle.entry.specs.Entry.{malformed}
use Rattle.lanes.specs.declared.Lanes.{Lanes}
use Rattle.lanes.specs.Ring.{entry_at, put_all, joined}
use Rattle.lanes.specs.RingLaws.{put_all_length}
use Rattle.lanes.specs.Asked.{CanJoin}
use Rattle.lanes.specs.Marks.{join_marked}
use Rattle.lanes.specs.Waiting.{put_each}
use Rattle.session.specs.Left.{Answered}
use Rattle.session.specs.declared.Session.{Session}
use Rattle.session.specs.Market.{Market, market_of, answered_of}
use Rattle.session.specs.Submit.{submit_refusal, with_entries, submit_of}
use Rattle.session.specs.SubmitLaws.{Joins, joins, submit_refused, submit_accepted}
use Rattle.session.specs.Sound.{SoundLanes, LanesSound, Held, Sound}
use Rattle.session.specs.SettingsSoundLaws.{answer_sound}

-- what submit asks is part of a sound market
pub lanes_sound : (m : Market) → Sound m → LanesSound m.session m.entries
lanes_sound m sound set = (sound set).lanes

-- well-formed entries that have room join sound lanes and leave them sound
join_sound :
    (l : Lanes) (entries : List ℕ) (t : ℕ) (ns : List ℕ) (n : ℕ) → SoundLanes l entries → CanJoin l t n →
    ((j : ℕ) → j < n → malformed (entry_at ns j) ≡ false) → SoundLanes (joined l t n) (put_all l entries t ns n)
join_sound l entries t ns n s can formed = record {
  entries_long = put_all_length l entries t ns n ∙ s.entries_long;
  marks = join_marked l t s.marks n can;
  formed =
      put_each l entries t ns n can.lane s.marks.lens_long s.entries_long can.room (λ e. malformed e ≡ false) s.formed formed;
}

module _ (m : Market) (tenant count : ℕ) (ns : List ℕ) (sound : Sound m) where
  joined_held : Joins m.session tenant count ns → Held (with_entries m tenant count ns)
  joined_held j =
      let held = sound j.set in
      let s = m.session in
      record {
        ready = held.ready;
        bid = held.bid;
        offer = held.offer;
        lanes = join_sound s.lanes m.entries tenant ns count held.lanes (record { lane = j.lane; room = j.room }) j.formed;
        uncrossed = held.uncrossed;
      }

  pub submit_sound : Sound (submit_of m tenant count ns).market
  submit_sound =
      let code = submit_refusal m.session tenant count ns in
      elim (order 0 code) [
        | less h ↦ answer_sound (sym (submit_refused m tenant count ns code refl h)) sound
        | equal h ↦
            answer_sound (sym (submit_accepted m tenant count ns code refl _ _ (omega arith) refl refl))
            (λ _. joined_held (joins m.session tenant count ns (sym h)))
        | more h ↦ absurd (omega arith)
      ]

-- so the equation is the whole promise
pub submit_kept :
    (s : Session) (tenant count : ℕ) (ns was now : List ℕ) (r : Answered) →
    ((b : Book) → answered_of r b now ≡ submit_of (market_of s b was) tenant count ns) →
    ((b : Book) → answered_of r b now ≡ submit_of (market_of s b was) tenant count ns)
    × ((b : Book) → Sound (market_of s b was) → Sound (market_of r.session b now))
submit_kept s tenant count ns was now r e = (e, λ b sound. answer_sound (e b) (submit_sound (market_of s b was) tenant count ns sound))
