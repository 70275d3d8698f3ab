-- Demand 2's opening: the laws of the match at one price, told of an accepted open.
use mathlib.Core.Logic.Iff
use Rattle.std.specs.Prelude.{◌≡◌, ◌↔◌, Bool, true, false, ◌&&◌, ◌||◌, List, ℕ, ◌+◌, ◌-◌, ◌≤◌, ◌<◌, leb, ltb, eqb}
use Rattle.std.proofs.Math.Path.{refl, sym, subst}
use Rattle.std.proofs.Common.{◌∙◌, ap, arith}
use Rattle.std.proofs.Math.Bool.{cond}
use Rattle.units.specs.Tests.{fails, holds_not_fails}
use Rattle.units.specs.Says.{same_says, less_says, most_says, &&-says, ||-says}
use Rattle.units.specs.Places.{table_at}
use Rattle.units.specs.Precedence.{Before, at_better, at_same}
use Rattle.rows.specs.Rows.{highest, key_of, selling}
use Rattle.rows.specs.Passes.{resting_within}
use Rattle.allocation.specs.RangeLaws.{open_most}
use Rattle.book.specs.Book.{Book, side_at, price_at, size_at, owner_at, number_at, best_bid, best_sell, within_bound, crosses}
use Rattle.book.specs.Allocation.{Resting, class_of}
use Rattle.opening.specs.Opening.{volume, bought, sold, matched, after_fills, buy_goes, sell_goes, after_opening, matched_rows, opening_records, opening_written}
use Rattle.opening.specs.OpeningLaws.{matched_most, left_is, all_bought, all_sold, matched_apart}
use Rattle.opening.specs.OpeningSums.{buy_first}
use Rattle.opening.specs.OpeningSoundLaws.{opening_uncrossed}
use Rattle.book.specs.Records.{sort_key, pos}
use Rattle.book.specs.RecordLaws.{pos_less, pos_below, pos_onto}
use Rattle.book.specs.Sound.{SoundBook, Uncrossed}
use Rattle.book.specs.SoundLaws.{quiet_uncrossed, row_of, live_apart}
use Rattle.book.specs.Trading.{reach, traded}
use Rattle.book.specs.TradingLaws.{open_side, traded_open}
use Rattle.price.specs.Words.{FirstValid, first_says}
use Rattle.session.specs.Market.{Market}
use Rattle.session.specs.Open.{OpenDone, Line, refused_by, opened_at, printed, fills_in, sources_of, open_quiet, open_at}
use Rattle.session.specs.Sound.{Sound}
use Rattle.demands.specs.Demand2.{once_filled, Cancelled, OpenedAt, OpenedRight}
use Rattle.demands.specs.OpenCases.{Outcome, refused, quiet, opens, open_set, outcome}
use Rattle.demands.specs.Demand2Fills.{offers_before, bids_before, record_of, past_records, best, early}

-- ---- the match

-- a row's place among the records of its own side goes by its key
sort_before : (s x y : ℕ) {n k : ℕ} → Before (key_of s x) (key_of s y) n k → Before (sort_key s x) (sort_key s y) n k
unfolding sort_key key_of
sort_before s x y {n} {k} = go (eqb s 2)
  where
    go : (t : Bool) → Before (cond t x (highest - x)) (cond t y (highest - y)) n k → Before (cond t (highest + 1 + x) (highest - x)) (cond t (highest + 1 + y) (highest - y)) n k
    go true (at_better l) = at_better (omega arith)
    go true (at_same e l) = at_same (omega arith) l
    go false before = before

module _ (b : Book) (next : ℕ) (sound : SoundBook b next) (p : ℕ) where
  -- what a side trades is what an order for the volume would trade with it in the time class
  abbrev on_side : ℕ → ℕ → ℕ
  on_side s = traded b s p (volume b p) 1

  best_on : (s i j : ℕ) → i < b.places → j < b.places → 0 < on_side s i → 0 < (reach b s p).size j
      → Before (key_of s (price_at b j)) (key_of s (price_at b i)) (number_at b j) (number_at b i) → on_side s j ≡ size_at b j
  best_on s i j h h' x y (at_better l) = best b next sound s p (volume b p) 1 i j h h' x y l
  best_on s i j h h' x y (at_same e l) = early b next sound s p (volume b p) 1 refl i j h' x y e l

  buy_open : (i : ℕ) → bought b p i ≤ (reach b 1 p).size i
  unfolding bought traded class_of
  buy_open i = traded_open b 1 p (volume b p) 1 i

  sell_open : (i : ℕ) → sold b p i ≤ (reach b 2 p).size i
  unfolding sold traded class_of
  sell_open i = traded_open b 2 p (volume b p) 1 i

  best_buys : (i j : ℕ) → i < b.places → j < b.places → 0 < bought b p i → 0 < (reach b 1 p).size j
      → Before (price_at b i) (price_at b j) (number_at b j) (number_at b i) → bought b p j ≡ size_at b j
  unfolding bought traded class_of
  best_buys i j h h' x y before =
      let rests : 0 < size_at b j = omega (arith, open_most 1 p (side_at b j) (price_at b j) (size_at b j)) in
      best_on 1 i j h h' x y (bids_before (row_of sound j h' rests).price_most before)

  best_sells : (i j : ℕ) → i < b.places → j < b.places → 0 < sold b p i → 0 < (reach b 2 p).size j
      → Before (price_at b j) (price_at b i) (number_at b j) (number_at b i) → sold b p j ≡ size_at b j
  unfolding sold traded class_of
  best_sells i j h h' x y before = best_on 2 i j h h' x y (offers_before before)

  -- ---- the records

  abbrev r : Resting
  r = matched_rows b p

  -- a row of a side that traded
  abbrev MatchedOn : ℕ → ℕ → Type 0
  MatchedOn s i = (side_at b i ≡ s) × (0 < matched b p i)

  buys_matched : (i : ℕ) → 0 < bought b p i → MatchedOn 1 i
  unfolding matched
  buys_matched i x = (open_side 1 p (side_at b i) (price_at b i) (size_at b i) (omega (arith, buy_open i)), omega arith)

  sells_matched : (i : ℕ) → 0 < sold b p i → MatchedOn 2 i
  unfolding matched
  sells_matched i x = (open_side 2 p (side_at b i) (price_at b i) (size_at b i) (omega (arith, sell_open i)), omega arith)

  buys_then_sells : (i j : ℕ) → i < b.places → 0 < bought b p i → 0 < sold b p j → pos r i < pos r j
  buys_then_sells i j h x y =
      pos_less r i j h (buys_matched i x).1 (at_better (buy_first (side_at b i) (side_at b j) (price_at b i) (price_at b j) (ap selling (buys_matched i x).0) (ap selling (sells_matched j y).0)))

  side_ordered : (s i j : ℕ) → i < b.places → MatchedOn s i → MatchedOn s j
      → Before (key_of s (price_at b i)) (key_of s (price_at b j)) (number_at b i) (number_at b j) → pos r i < pos r j
  side_ordered s i j h (e, x) (e', _) before = pos_less r i j h x (rw (e, e') (sort_before s (price_at b i) (price_at b j) before))

  buys_ordered : (i j : ℕ) → i < b.places → 0 < bought b p i → 0 < bought b p j
      → Before (price_at b j) (price_at b i) (number_at b i) (number_at b j) → pos r i < pos r j
  buys_ordered i j h x y before =
      let rests : 0 < size_at b i = omega (arith, (buys_matched i x).1, matched_most b p i) in
      side_ordered 1 i j h (buys_matched i x) (buys_matched j y) (bids_before (row_of sound i h rests).price_most before)

  sells_ordered : (i j : ℕ) → i < b.places → 0 < sold b p i → 0 < sold b p j
      → Before (price_at b i) (price_at b j) (number_at b i) (number_at b j) → pos r i < pos r j
  sells_ordered i j h x y before = side_ordered 2 i j h (sells_matched i x) (sells_matched j y) (offers_before before)

-- ---- what is cancelled

-- a row that goes is on the side, something of that side remains, and its price meets the other side's
three_say : (side s within low high : ℕ) → ((eqb side s && ltb 0 within && leb low high) ≡ true) ↔ ((side ≡ s) × (0 < within) × (low ≤ high))
three_say side s within low high = Iff.trans
    (&&-says (&&-says (same_says side s) (less_says 0 within)) (most_says low high))
    (λ ((on, some), price). (on, some, price), λ (on, some, price). ((on, some), price))

module _ (m : Market) (p : ℕ) where
  pub goes_says : (i : ℕ) → ((buy_goes m.book p i || sell_goes m.book p i) ≡ true) ↔ Cancelled m p i
  unfolding buy_goes sell_goes
  goes_says i = ||-says
      (three_say (side_at m.book i) 1 (within_bound (once_filled m p) 1 p) (best_sell (once_filled m p)) (price_at m.book i))
      (three_say (side_at m.book i) 2 (within_bound (once_filled m p) 2 p) (price_at m.book i) (best_bid (once_filled m p)))

  opened_goes : (i : ℕ) → i < m.book.places → Cancelled m p i → size_at (after_opening m.book p) i ≡ 0
  unfolding after_opening
  opened_goes i h c =
      table_at (λ j. cond (buy_goes m.book p j || sell_goes m.book p j) 0 (size_at (after_fills m.book p) j)) m.book.places i h
      ∙ rw ((goes_says i).1 c) refl

  opened_stays : (i : ℕ) → i < m.book.places → (Cancelled m p i → ⊥)
      → size_at (after_opening m.book p) i ≡ size_at m.book i - matched m.book p i
  unfolding after_opening
  opened_stays i h c =
      table_at (λ j. cond (buy_goes m.book p j || sell_goes m.book p j) 0 (size_at (after_fills m.book p) j)) m.book.places i h
      ∙ (rw (fails (buy_goes m.book p i || sell_goes m.book p i) (λ g. c ((goes_says i).0 g))) refl ∙ left_is m.book p i h)

-- ---- an accepted open

module _ (m : Market) (was : List ℕ) (next : ℕ) (sound : SoundBook m.book next) (p : ℕ) where
  abbrev b : Book
  b = m.book

  opened_at_lem : (traded fills : ℕ) → FirstValid (sources_of m.session) p → traded ≡ volume b p → fills ≡ opening_records b p
      → OpenedAt m was p traded fills (opening_written b p was) (after_opening b p)
  unfolding volume resting_within opening_records opening_written
  opened_at_lem traded fills price is count = record {
    price = price;
    lesser = is;
    in_all_bought = all_bought b p (live_apart sound) ∙ sym is;
    in_all_sold = all_sold b p (live_apart sound) ∙ sym is;
    bought_most = buy_open b next sound p;
    sold_most = sell_open b next sound p;
    buys_best = best_buys b next sound p;
    sells_best = best_sells b next sound p;
    of_row = λ i h x. (rw count (pos_below (matched_rows b p) i h x), record_of (matched_rows b p) (matched_apart b p (live_apart sound)) (owner_at b) (λ _. p) was i h x);
    all_rows = λ k h. pos_onto (matched_rows b p) (matched_apart b p (live_apart sound)) k (omega (arith, count));
    buys_first = buys_then_sells b next sound p;
    buys_in_order = λ i j h h'. buys_ordered b next sound p i j h;
    sells_in_order = sells_ordered b next sound p;
    past = λ k h l. past_records (matched_rows b p) (matched_apart b p (live_apart sound)) (owner_at b) (λ _. p) was k (omega (arith, count)) l;
    goes = opened_goes m p;
    stays = opened_stays m p;
  }

module _ (m : Market) (lent : ℕ) (was : List ℕ) (price traded : ℕ) where
  -- the answer has the values of this opening
  abbrev Answers : OpenDone → Type 0
  Answers d = printed d.answer ≡ opened_at price traded

  -- a refused open does not
  not_refused : (n : ℕ) → 0 < n → refused_by n ≡ opened_at price traded → ⊥
  not_refused n h x = omega (arith, ap (λ (l : Line). l.code) x)

  opens_quietly : crosses m.book ≡ false → {d : OpenDone} → Outcome m lent was d → Answers d
      → (price ≡ 0) × (traded ≡ 0) × (fills_in d.answer ≡ 0) × (d.market.book ≡ m.book) × (d.records ≡ was)
  unfolding open_quiet
  opens_quietly h (refused n) x = absurd (not_refused _ n x)
  opens_quietly h (quiet e c) x = (sym (ap (λ (l : Line). l.price) x), sym (ap (λ (l : Line). l.volume) x), refl, refl, refl)
  opens_quietly h (opens p e c f) x = absurd (holds_not_fails c h)

  opens_at : Sound m → crosses m.book ≡ true → {d : OpenDone} → Outcome m lent was d → Answers d
      → OpenedAt m was price traded (fills_in d.answer) d.records d.market.book
  unfolding open_at
  opens_at sound h (refused n) x = absurd (not_refused _ n x)
  opens_at sound h (quiet e c) x = absurd (holds_not_fails h c)
  opens_at sound h (opens p e c f) x =
      subst (λ k. OpenedAt m was k traded (opening_records m.book p.0) (opening_written m.book p.0 was) (after_opening m.book p.0)) (ap (λ (l : Line). l.price) x)
      (opened_at_lem m was m.session.next (sound (open_set m lent e)).ready.book p.0 traded (opening_records m.book p.0) (first_says (sources_of m.session) f refl) (sym (ap (λ (l : Line). l.volume) x)) refl)

  opens_uncrossed : Sound m → {d : OpenDone} → Outcome m lent was d → Answers d
      → (d.market.session.opened ≡ true) × Uncrossed d.market.book
  unfolding open_at open_quiet
  opens_uncrossed sound (refused n) x = absurd (not_refused _ n x)
  opens_uncrossed sound (quiet e c) x = (refl, quiet_uncrossed (sound (open_set m lent e)).ready.book c)
  opens_uncrossed sound (opens p e c f) x = (refl, opening_uncrossed (sound (open_set m lent e)).ready.book p.0)

pub opened_right : OpenedRight
opened_right = record {
  quiet = λ m lent was price volume h is. opens_quietly m lent was price volume h (outcome m lent was) is;
  at_price_lem = λ m lent was price volume sound h is. opens_at m lent was price volume sound h (outcome m lent was) is;
  opens = λ m lent was price volume sound is. opens_uncrossed m lent was price volume sound (outcome m lent was) is;
  never = λ m sound set. (sound set).uncrossed;
}
