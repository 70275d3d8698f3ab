-- An open keeps a market sound.
use Rattle.std.specs.Prelude.{◌≡◌, refl, Bool, true, false, List, ℕ, ltb}
use Rattle.std.proofs.Common.{sym, ap, subst}
use Rattle.units.specs.Tests.{pick}
use Rattle.book.specs.Book.{Book, crosses}
use Rattle.book.specs.Sound.{SoundBook, Uncrossed}
use Rattle.book.specs.SoundLaws.{quiet_uncrossed}
use Rattle.opening.specs.Opening.{after_opening}
use Rattle.opening.specs.OpeningSoundLaws.{opening_sound, opening_uncrossed}
use Rattle.price.specs.Price.{chosen}
use Rattle.tally.specs.declared.Tally.{Tally}
use Rattle.session.specs.OpenAnswer.{open_answer_of}
use Rattle.session.specs.OpenAnswer as answer
use Rattle.session.specs.Left.{Opened}
use Rattle.session.specs.declared.Session.{Session}
use Rattle.session.specs.Market.{Market, market_of}
use Rattle.dealing.specs.OpenLaws.{opened_sums}
use Rattle.dealing.specs.Sound.{SoundTallies}
use Rattle.session.specs.Sound.{Held, Sound}
use Rattle.session.specs.Open.{OpenDone, open_done, printed, open_refusal, choice_of, opened_to, open_quiet, open_at, open_of}

-- an open market, with a sound and uncrossed book and tallies within their bounds
module _ (m : Market) (held : Held m) where
  opened_held :
      (b : Book) (tallies : List Tally) → SoundBook b m.session.next → Uncrossed b → SoundTallies tallies m.session.next b →
      Held (opened_to m b tallies)
  opened_held b tallies book uncrossed counted = record {
    ready = record {
      book = book;
      terms = held.ready.terms;
      next_least = held.ready.next_least;
      next_most = held.ready.next_most;
      tallies = counted;
    };
    bid = held.bid;
    offer = held.offer;
    lanes = held.lanes;
    uncrossed = λ _. uncrossed;
  }

  quiet_held : crosses m.book ≡ false → (was : List ℕ) → Held (open_quiet m was).market
  unfolding open_quiet
  quiet_held h was =
      opened_held m.book m.session.tallies held.ready.book (quiet_uncrossed held.ready.book h)
      held.ready.tallies

  at_held : (p : ℕ) (was : List ℕ) → Held (open_at m was p).market
  unfolding open_at
  at_held p was =
      let book = held.ready.book in
      opened_held (after_opening m.book p) _ (opening_sound book p) (opening_uncrossed book p) (opened_sums m.session.tallies m.session.next m.book book held.ready.tallies p)

pub open_sound : (m : Market) (lent : ℕ) (was : List ℕ) → Sound m → Sound (open_of m lent was).market
unfolding open_of pick open_quiet open_at
open_sound m lent was sound = go (ltb 0 (open_refusal m lent)) (crosses m.book) refl
  where
    go : (refused crossed : Bool) → crosses m.book ≡ crossed →
        Sound (pick {A = OpenDone} refused (record { market = m; answer = answer.Refused (open_refusal m lent); records = was }) (pick crossed (open_at m was (chosen (choice_of m.session))) (open_quiet m was))).market
    go true crossed h = sound
    go false true h = λ set. at_held m (sound set) (chosen (choice_of m.session)) was
    go false false h = λ set. quiet_held m (sound set) h was

-- where an open does what its definition says, a sound market stays sound, and the answer has its values in the paper's
-- numbers
module _ (s : Session) (b after : Book) (lent : ℕ) (was records : List ℕ) (r : Opened) where
  abbrev Exact : Type 0
  Exact = (entries : List ℕ) → open_done r after entries records ≡ open_of (market_of s b entries) lent was

  abbrev StaysSound : Type 0
  StaysSound = (entries : List ℕ) → Sound (market_of s b entries) → Sound (market_of r.session after entries)

  abbrev Values : Type 0
  Values = (entries : List ℕ) → printed (open_answer_of r.answer) ≡ printed (open_of (market_of s b entries) lent was).answer

  pub as_defined : Exact → Exact × (StaysSound × Values)
  as_defined exact = (
    exact,
    (
      λ entries sound. subst (λ (d : OpenDone). Sound d.market) (sym (exact entries)) (open_sound (market_of s b entries) lent was sound),
      λ entries. ap (λ (d : OpenDone). printed d.answer) (exact entries),
    ),
  )
