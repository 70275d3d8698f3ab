-- A new session is sound beside anything, and settings and away keep a market sound.
use Rattle.std.specs.Prelude.{Option, Some, None, ◌≡◌, Bool, List, ℕ, ◌≤◌, ltb, replicate}
use Rattle.std.proofs.Math.Path.{refl}
use Rattle.std.proofs.Common.{sym, subst, arith}
use Rattle.std.proofs.Math.Bool.{true, false}
use Rattle.std.proofs.lemmas.Bool.{false≢true}
use Rattle.std.proofs.lemmas.List.{length-replicate}
use borrow.Author.Tests.{ltb-false}
use Rattle.units.specs.Units.{tenants}
use Rattle.units.specs.declared.Cents.{Cents}
use Rattle.units.specs.declared.grid.Grid.{Grid}
use Rattle.units.specs.Grid.{grid_of}
use Rattle.units.specs.GridLaws.{lowest_bounds}
use Rattle.units.specs.Tests.{is_not, pick, and_true, or_false, not_holds, order, less, equal, more}
use Rattle.units.specs.CaseLaws.{given_none}
use Rattle.units.specs.Sums.{sum_none}
use Rattle.rows.specs.Rows.{rows, highest}
use Rattle.book.specs.Book.{Book, empty_book}
use Rattle.book.specs.Sound.{resting}
use Rattle.book.specs.SoundLaws.{empty_size, empty_sound}
use Rattle.entry.specs.declared.Settings.{Settings}
use Rattle.entry.specs.declared.Terms.{Terms}
use Rattle.entry.specs.Settings.{in_range, terms_of}
use Rattle.entry.specs.SettingsLaws.{strike_bounds, buffers_most}
use Rattle.lanes.specs.Ring.{all_entries, empty}
use Rattle.lanes.specs.Marks.{empty_len, empty_marked}
use Rattle.tally.specs.Tallies as tallies
use Rattle.tally.specs.TallyLaws.{in_all_none}
use Rattle.session.specs.Left.{Answered}
use Rattle.session.specs.declared.Session.{Session}
use Rattle.session.specs.Market.{Market, Called, market_of, answered_of, with_away, floor_on}
use Rattle.session.specs.Settings.{started_on, no_terms, new_session, reset_on, on_grid_of, settings_of, too_high, away_cases, away_refusal, away_of}
use Rattle.session.specs.SettingsLaws.{away_refused, away_accepted}
use Rattle.session.specs.Sound.{SoundLanes, Held, Sound}
use Rattle.dealing.specs.Sound.{SoundTerms, SoundTallies, Ready}

pub new_sound : (b : Book) (entries : List ℕ) → Sound (market_of new_session b entries)
new_sound b entries h = absurd (false≢true h)

pub new_kept :
    (t : Terms) (s : Session) → t ≡ no_terms → s ≡ started_on false t → (s ≡ new_session) × ((b : Book) (entries : List ℕ) → Sound (market_of s b entries))
new_kept t s p q =
    let e : s ≡ new_session = rw (q, p) in
    (e, λ b entries. rw e (new_sound b entries))

-- what a call left is sound where what the rules say is
pub answer_sound : {left said : Called} → left ≡ said → Sound said.market → Sound left.market
answer_sound e sound = subst (λ (c : Called). Sound c.market) (sym e) sound

-- ---- settings

terms_sound : (s : Settings) (g : Grid) → grid_of s.grid ≡ Some g → in_range s ≡ true → SoundTerms (terms_of s g)
terms_sound s g h ok =
    let low = lowest_bounds s.grid g h in
    let buffers = buffers_most s ok in
    record {
      low_least = low.0;
      low_most = omega (arith, low.1);
      strike = (strike_bounds s ok).1;
      drill = buffers.0;
      far = buffers.1;
    }

empty_resting : (n : ℕ) → resting (empty_book n) ≡ 0
empty_resting n = sum_none n (λ i p. empty_size n i p)

-- no entry waits in empty lanes
empty_lanes : SoundLanes empty (replicate all_entries 0)
empty_lanes =
    record {
      entries_long = length-replicate {A = ℕ} all_entries 0;
      marks = empty_marked;
      formed = λ t i p h. absurd (omega (arith, empty_len t p));
    }

module _ (m : Market) (all : m.book.places ≡ rows) where
  reset_tallies : (t : Terms) → SoundTallies (reset_on m t).session.tallies (reset_on m t).session.next (reset_on m t).book
  reset_tallies t = record {
    long = length-replicate tenants tallies.zero;
    turns = omega (arith, in_all_none (λ x. x.turns) refl);
    bought = omega (arith, in_all_none (λ x. x.bought) refl, empty_resting m.book.places);
    sold = omega (arith, in_all_none (λ x. x.sold) refl, empty_resting m.book.places);
  }

  -- a market reset on terms in range
  reset_held : (t : Terms) → SoundTerms t → Held (reset_on m t)
  reset_held t sound = record {
    ready = record {
      book = empty_sound m.book.places 1 all;
      terms = sound;
      next_least = omega arith;
      next_most = omega arith;
      tallies = reset_tallies t;
    };
    bid = omega arith;
    offer = omega arith;
    lanes = empty_lanes;
    uncrossed = λ h. absurd (false≢true h);
  }

  module _ (s : Settings) (sound : Sound m) where
    is_on_grid : (c : Option Grid) → grid_of s.grid ≡ c → Sound (on_grid_of m s c).market
    unfolding pick
    is_on_grid None h = sound
    is_on_grid (Some g) h = is_in_range (in_range s) refl
      where
        is_in_range : (ok : Bool) → in_range s ≡ ok →
            Sound (pick {A = Called} ok (record { market = reset_on m (terms_of s g); code = 0 }) (record { market = m; code = 7 })).market
        is_in_range true ok = λ _. reset_held (terms_of s g) (terms_sound s g h ok)
        is_in_range false ok = sound

    pub settings_sound : Sound (settings_of m s).market
    unfolding settings_of
    settings_sound = is_on_grid (grid_of s.grid) refl

-- so the equation is the whole promise
pub settings_kept :
    (m : Market) (s : Settings) (left : Called) → m.book.places ≡ rows → left ≡ settings_of m s →
    (left ≡ settings_of m s) × (Sound m → Sound left.market)
settings_kept m s left all e = (e, λ sound. answer_sound e (settings_sound m all s sound))

-- ---- away

-- what judging and trading rest on does not speak of the away quote
quoted_ready : (s : Session) (b : Book) (bid offer : Cents) → Ready (floor_on s b) → Ready (floor_on (with_away s bid offer) b)
quoted_ready s b bid offer r =
    record { book = r.book; terms = r.terms; next_least = r.next_least; next_most = r.next_most; tallies = r.tallies }

module _ (s : Session) (bid offer : Cents) where
  -- the quotes of an away that is not refused
  quotes_most : away_refusal s bid offer ≡ 0 → (bid.0 ≤ highest) × (offer.0 ≤ highest)
  unfolding away_refusal too_high
  quotes_most e =
      let n0 = and_true (is_not (is_not s.accepted)) _ ((given_none 0 (away_cases s bid offer) refl).0 e) in
      let n1 = and_true (is_not (too_high bid offer)) _ n0.1 in
      let two = or_false (ltb highest bid.0) (ltb highest offer.0) (not_holds _ n1.0) in
      (ltb-false highest bid.0 two.0, ltb-false highest offer.0 two.1)

module _ (m : Market) (bid offer : Cents) (sound : Sound m) where
  quoted_sound : away_refusal m.session bid offer ≡ 0 → Sound (market_of (with_away m.session bid offer) m.book m.entries)
  quoted_sound e set =
      let held = sound set in
      let most = quotes_most m.session bid offer e in
      record {
        ready = quoted_ready m.session m.book bid offer held.ready;
        bid = most.0;
        offer = most.1;
        lanes = held.lanes;
        uncrossed = held.uncrossed;
      }

  pub away_sound : Sound (away_of m bid offer).market
  away_sound =
      let code = away_refusal m.session bid offer in
      elim (order 0 code) [
        | less h ↦ answer_sound (sym (away_refused m bid offer code refl h)) sound
        | equal h ↦ answer_sound (sym (away_accepted m bid offer code refl (omega arith))) (quoted_sound (sym h))
        | more h ↦ absurd (omega arith)
      ]

pub away_kept :
    (s : Session) (bid offer : Cents) (r : Answered) →
    ((b : Book) (entries : List ℕ) → answered_of r b entries ≡ away_of (market_of s b entries) bid offer) →
    ((b : Book) (entries : List ℕ) → answered_of r b entries ≡ away_of (market_of s b entries) bid offer)
    × ((b : Book) (entries : List ℕ) → Sound (market_of s b entries) → Sound (market_of r.session b entries))
away_kept s bid offer r e = (e, λ b entries sound. answer_sound (e b entries) (away_sound (market_of s b entries) bid offer sound))
