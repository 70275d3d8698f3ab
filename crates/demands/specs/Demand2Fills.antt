-- Demand 2's fills: the laws of the allocation, of the bound and of the records, told of an accepted order.
use mathlib.Core.Logic.Iff
use Rattle.std.specs.Prelude.{◌≡◌, ◌↔◌, ◌⊎◌, Bool, true, false, ◌&&◌, List, ℕ, ◌+◌, ◌-◌, ◌*◌, ◌/◌, ◌%◌, ◌≤◌, ◌<◌, ltb, eqb}
use Rattle.std.proofs.Math.Path.{refl, sym, ap}
use Rattle.std.proofs.Common.{◌∙◌, ⊎_elim, add-zero, arith}
use Rattle.std.proofs.Math.Bool.{cond}
use borrow.Author.Tests.{lt-ltb, le-ltb, le-leb, lt-leb, eq-eqb, ne_eqb, eqb-true, ltb-true, leb-true}
use Rattle.units.specs.Tests.{pick, pick_yes, pick_no}
use Rattle.units.specs.Picked.{keep}
use Rattle.units.specs.Places.{at, table_at}
use Rattle.units.specs.Precedence.{Before, at_better, at_same}
use Rattle.rows.specs.Rows.{highest, key_of, within, open_size}
use Rattle.rows.specs.Passes.{resting_within}
use Rattle.allocation.specs.RangeLaws.{open_most}
use Rattle.book.specs.Book.{Book, side_at, price_at, size_at, owner_at, number_at, rested}
use Rattle.book.specs.Allocation.{Resting, time, proportion, class_of, left, level, whole, extra, fill}
use Rattle.book.specs.AllocationLaws.{Distinct, fill_share, best_first, earlier_first, leftover_first}
use Rattle.book.specs.Records.{pos, records, recorded, field_of, written, fields}
use Rattle.book.specs.RecordLaws.{pos_less, pos_below, pos_onto, recorded_at}
use Rattle.book.specs.RecordSums.{written_at}
use Rattle.book.specs.Sound.{SoundBook}
use Rattle.book.specs.SoundLaws.{sound_apart, row_of, live_apart}
use Rattle.book.specs.Trading.{reach, filled as filled_by, traded, after_trade, traded_rows, trade_records, trade_written}
use Rattle.book.specs.TradingLaws.{open_side, open_within, offer_within, bid_within, open_all, traded_open, traded_most, traded_side, all_traded}
use Rattle.entry.specs.declared.Away.{Away}
use Rattle.entry.specs.declared.Entry.{Entry}
use Rattle.entry.specs.Entry.{is_cancel, is_buy, is_sell, new_order, malformed}
use Rattle.entry.specs.EntryLaws.{new_proper, new_unless_cancel}
use Rattle.checks.specs.AsJudgedLaws.{judged_proper}
use Rattle.judge.specs.BoundLaws.{buy_limit, buy_away, sell_limit, sell_away}
use Rattle.judge.specs.Words.{buy_bound_says, sell_bound_says}
use Rattle.session.specs.Market.{Market, floor_on}
use Rattle.dealing.specs.Settle.{opposite}
use Rattle.dealing.specs.Sound.{Ready}
use Rattle.session.specs.Sound.{Sound}
use Rattle.session.specs.Turn.{quotes_in, turn_of}
use Rattle.demands.specs.Runs.{head_entry}
use Rattle.demands.specs.TurnCases.{quotes_away}
use Rattle.demands.specs.Rules.{MayTrade, to_buy, to_sell}
use Rattle.demands.specs.Demand2.{turn_fills, TakenBy, judged, bound_in, opens_at, trades, once_traded, FilledRight, RecordAt, RecordedRight, LeftRight, OrdersFilled}
use Rattle.demands.specs.Demand2Turn.{set_in, taken_by, serves_first, accepted_served, accepted_traded}

-- ---- one row

-- all that rests of a row that may be traded may be
open_whole : (s bound side price size : ℕ) → 0 < open_size s bound side price size → open_size s bound side price size ≡ size
unfolding open_size
open_whole s bound side price size = go (eqb side s && within s price bound)
  where
    go : (a : Bool) → 0 < keep a size → keep a size ≡ size
    go true x = refl
    go false x = absurd (omega arith)

-- so a row may be traded exactly if it rests on the side, within the bound
open_says : (s bound side price size : ℕ) → (0 < open_size s bound side price size) ↔ ((0 < size) × (side ≡ s) × (within s price bound ≡ true))
open_says s bound side price size = (
  λ x. (omega (arith, open_most s bound side price size), open_side s bound side price size x, open_within s bound side price size x),
  λ (rests, on, w). omega (arith, open_all s bound side price size on w),
)

-- a better price has the lower key
offer_better : (p q : ℕ) → p < q → key_of 2 p < key_of 2 q
unfolding key_of
offer_better p q h = h

bid_better : (p q : ℕ) → q < p → p ≤ highest → key_of 1 p < key_of 1 q
unfolding key_of
bid_better p q h l = omega arith

-- and what comes before by its price and then by its number does so by its key
pub offers_before : {p q n k : ℕ} → Before p q n k → Before (key_of 2 p) (key_of 2 q) n k
offers_before {p} {q} (at_better l) = at_better (offer_better p q l)
offers_before (at_same e l) = at_same (ap (key_of 2) e) l

pub bids_before : {p q n k : ℕ} → p ≤ highest → Before q p n k → Before (key_of 1 p) (key_of 1 q) n k
bids_before {p} {q} most (at_better l) = at_better (bid_better p q l most)
bids_before most (at_same e l) = at_same (ap (key_of 1) (sym e)) l

-- ---- the records of rows that traded

module _ (r : Resting) (d : Distinct r) (owner price : ℕ → ℕ) (was : List ℕ) where
  open r use {places, size, number}

  abbrev l : List ℕ
  l = written r owner price was

  field_at : (f i : ℕ) → f < fields → i < places → 0 < size i → at l (fields * pos r i + f) ≡ field_of r owner price f i
  field_at f i h p x = written_at r owner price was (pos r i) f (pos_below r i p x) h ∙ recorded_at r d (field_of r owner price f) i p x

  pub record_of : (i : ℕ) → i < places → 0 < size i → RecordAt l (pos r i) (number i) (owner i) (size i) (price i)
  unfolding field_of
  record_of i p x = record {
    number_is = ap (at l) (sym (add-zero (fields * pos r i))) ∙ field_at 0 i (omega arith) p x;
    tenant_is = field_at 1 i (omega arith) p x;
    quantity_is = field_at 2 i (omega arith) p x;
    price_is = field_at 3 i (omega arith) p x;
  }

  pub past_records : (k : ℕ) → fields * records r ≤ k → k < fields * places → at l k ≡ at was k
  unfolding written
  past_records k h p =
      table_at (λ j. cond (ltb (j / fields) (records r)) (recorded r (field_of r owner price (j % fields)) (j / fields)) (at was j)) (fields * places) k p
      ∙ rw (le-ltb (k / fields) (records r) (omega arith)) refl

-- ---- a book's rows and an order

module _ (b : Book) (next : ℕ) (sound : SoundBook b next) (side bound q allocation : ℕ) where
  abbrev t : ℕ → ℕ
  t = traded b side bound q allocation

  abbrev opens : ℕ → ℕ
  opens = (reach b side bound).size

  pub best : (i j : ℕ) → i < b.places → j < b.places → 0 < t i → 0 < opens j → key_of side (price_at b j) < key_of side (price_at b i) → t j ≡ size_at b j
  unfolding traded
  best i j p p' x y h =
      best_first (reach b side bound) q (sound_apart sound side bound) (class_of allocation) i j p p' x h ∙ open_whole side bound (side_at b j) (price_at b j) (size_at b j) y

  pub early : allocation ≡ 1 → (i j : ℕ) → j < b.places → 0 < t i → 0 < opens j → key_of side (price_at b j) ≡ key_of side (price_at b i) → number_at b j < number_at b i → t j ≡ size_at b j
  unfolding traded class_of
  early one i j p x y e h =
      let x' : 0 < fill (reach b side bound) q time i = rw (one) at x in
      rw one
      (earlier_first (reach b side bound) q i j p x' e h ∙ open_whole side bound (side_at b j) (price_at b j) (size_at b j) y)

  module _ (two : allocation ≡ 2) where
    in_proportion : (i : ℕ) → t i ≡ fill (reach b side bound) q proportion i
    unfolding traded class_of
    in_proportion i = rw two refl

    all_of_it : (i : ℕ) → level (reach b side bound) (key_of side (price_at b i)) ≤ left (reach b side bound) q (key_of side (price_at b i)) → t i ≡ opens i
    unfolding fill
    all_of_it i h =
        in_proportion i
        ∙ rw (le-leb (level (reach b side bound) (key_of side (price_at b i))) (left (reach b side bound) q (key_of side (price_at b i))) h) refl

    module _ (i : ℕ) (short : left (reach b side bound) q (key_of side (price_at b i)) < level (reach b side bound) (key_of side (price_at b i))) where
      shared : (whole (reach b side bound) q i ≤ t i) × (t i ≤ whole (reach b side bound) q i + 1)
      shared = rw (in_proportion i) (fill_share (reach b side bound) q i short)

      share_is : t i ≡ whole (reach b side bound) q i + extra (reach b side bound) q i
      unfolding fill
      share_is =
          in_proportion i
          ∙ rw (lt-leb (level (reach b side bound) (key_of side (price_at b i))) (left (reach b side bound) q (key_of side (price_at b i))) short) refl

    one_more : (i j : ℕ) → j < b.places → left (reach b side bound) q (key_of side (price_at b i)) < level (reach b side bound) (key_of side (price_at b i))
        → whole (reach b side bound) q i < t i → price_at b j ≡ price_at b i → 0 < opens j → Before (opens i) (opens j) (number_at b j) (number_at b i)
        → t j ≡ whole (reach b side bound) q j + 1
    one_more i j p short x e y first =
        let more_i : 0 < extra (reach b side bound) q i = omega (arith, share_is i short) in
        omega (
          arith,
          share_is j (rw e short),
          leftover_first (reach b side bound) q i j p more_i (ap (key_of side) e) y first,
        )

  -- ---- the records

  abbrev rows_traded : Resting
  rows_traded = traded_rows b side bound q allocation

  rows_apart : Distinct rows_traded
  rows_apart i j p p' x y e = live_apart sound i j p p'
      (omega (arith, traded_most b side bound q allocation i)) (omega (arith, traded_most b side bound q allocation j)) e

-- ---- the order

buys_offers : (e : Entry) → is_buy e ≡ true → opposite e ≡ 2
buys_offers e h = pick_yes 2 1 h

sells_bids : (e : Entry) → is_sell e ≡ true → opposite e ≡ 1
sells_bids e h = let k = eqb-true e.side 2 h in pick_no 2 1 (ne_eqb e.side 1 (λ f. omega arith))

module _ (m : Market) (ready : Ready (floor_on m.session m.book)) (t : ℕ) where
  abbrev b : Book
  b = m.book

  abbrev e : Entry
  e = judged m t

  abbrev side : ℕ
  side = opposite e

  abbrev allocation : ℕ
  allocation = m.session.terms.allocation

  opened : (i : ℕ) → 0 < trades m t i → 0 < opens_at m t i
  opened i x = omega (arith, traded_open b side (bound_in m t) e.size.0 allocation i)

  buy_within : is_buy e ≡ true → (i : ℕ) → 0 < trades m t i → price_at b i ≤ bound_in m t
  buy_within h i x = offer_within (bound_in m t) (side_at b i) (price_at b i) (size_at b i) (rw (buys_offers e h) at (opened i x))

  sell_within : is_sell e ≡ true → (i : ℕ) → 0 < trades m t i → bound_in m t ≤ price_at b i
  sell_within h i x = bid_within (bound_in m t) (side_at b i) (price_at b i) (size_at b i) (rw (sells_bids e h) at (opened i x))

  -- a row that may be traded has a price
  priced : (i : ℕ) → i < b.places → 0 < opens_at m t i → price_at b i ≤ highest
  priced i p x =
      (row_of ready.book i p (omega (arith, open_most side (bound_in m t) (side_at b i) (price_at b i) (size_at b i)))).price_most

  offers_first : is_buy e ≡ true → (i j : ℕ) → price_at b j < price_at b i → key_of side (price_at b j) < key_of side (price_at b i)
  offers_first h i j l = rw (buys_offers e h) (offer_better (price_at b j) (price_at b i) l)

  bids_first : is_sell e ≡ true → (i j : ℕ) → j < b.places → 0 < opens_at m t j → price_at b i < price_at b j → key_of side (price_at b j) < key_of side (price_at b i)
  bids_first h i j p x l = rw (sells_bids e h) (bid_better (price_at b j) (price_at b i) l (priced j p x))

  -- nor is the bound worse than the away quote
  buy_quoted : is_buy e ≡ true → 0 < m.session.away.offer.0 → bound_in m t ≤ m.session.away.offer.0
  buy_quoted h a =
      let same = ap (λ (x : Away). x.offer.0) (quotes_away m) in
      omega (arith, buy_away e (quotes_in m) m.session.terms h (lt-ltb 0 (quotes_in m).away.offer.0 (omega arith)))

  sell_quoted : is_sell e ≡ true → 0 < m.session.away.bid.0 → m.session.away.bid.0 ≤ bound_in m t
  sell_quoted h a =
      let same = ap (λ (x : Away). x.bid.0) (quotes_away m) in
      omega (arith, sell_away e (quotes_in m) m.session.terms h (lt-ltb 0 (quotes_in m).away.bid.0 (omega arith)))

  -- a row may be traded exactly if it rests on the opposite side at a price within the bound
  may_buy : is_buy e ≡ true → (i : ℕ) → i < b.places → (0 < opens_at m t i) ↔ MayTrade m t i
  unfolding within
  may_buy h i p =
      let buys = eqb-true e.side 1 h in
      let says = buy_bound_says e (quotes_in m) m.session.terms (price_at b i) buys in
      rw (buys_offers e h) (Iff.trans (open_says 2 (bound_in m t) (side_at b i) (price_at b i) (size_at b i)) (
        λ (rests, on, w).
            let priced = row_of ready.book i p rests in
            to_buy buys (record { row = p; rests = rests; on = on }) ((says priced.price_least priced.price_most).0 (leb-true _ _ w)),
        λ may. elim may [
          | to_buy _ r w ↦
              (let priced = row_of ready.book i p r.rests in
              (r.rests, r.on, le-leb _ _ ((says priced.price_least priced.price_most).1 w)))
          | to_sell sells r w ↦ absurd (omega arith)
        ],
      ))

  may_sell : is_sell e ≡ true → (i : ℕ) → i < b.places → (0 < opens_at m t i) ↔ MayTrade m t i
  unfolding within
  may_sell h i p =
      let sells = eqb-true e.side 2 h in
      let says = sell_bound_says e (quotes_in m) m.session.terms (price_at b i) sells in
      rw (sells_bids e h) (Iff.trans (open_says 1 (bound_in m t) (side_at b i) (price_at b i) (size_at b i)) (
        λ (rests, on, w). to_sell sells (record { row = p; rests = rests; on = on }) ((says (row_of ready.book i p rests).price_least).0 (leb-true _ _ w)),
        λ may. elim may [
          | to_buy buys r w ↦ absurd (omega arith)
          | to_sell _ r w ↦ (r.rests, r.on, le-leb _ _ ((says (row_of ready.book i p r.rests).price_least).1 w))
        ],
      ))

  may_trade_is : (is_buy e ≡ true) ⊎ (is_sell e ≡ true) → (i : ℕ) → i < b.places → (0 < opens_at m t i) ↔ MayTrade m t i
  may_trade_is sides i p = ⊎_elim (λ h. may_buy h i p) (λ h. may_sell h i p) sides

  filled_right : (filled : ℕ) → filled ≡ filled_by b side (bound_in m t) e.size.0 → (is_buy e ≡ true) ⊎ (is_sell e ≡ true) → FilledRight m t filled
  unfolding filled_by resting_within whole
  filled_right filled is sides = record {
    lesser = is;
    in_all = all_traded b side (bound_in m t) e.size.0 allocation (sound_apart ready.book side (bound_in m t)) ∙ sym is;
    may_trade = may_trade_is sides;
    all_open = λ i. open_whole side (bound_in m t) (side_at b i) (price_at b i) (size_at b i);
    most = traded_open b side (bound_in m t) e.size.0 allocation;
    opposite_side = traded_side b side (bound_in m t) e.size.0 allocation;
    sided = sides;
    buy_limit = λ h l i x. omega (arith, buy_within h i x, buy_limit e (quotes_in m) m.session.terms h l);
    sell_limit = λ h l i x. omega (arith, sell_within h i x, sell_limit e (quotes_in m) m.session.terms h l);
    buy_away = λ h a i x. omega (arith, buy_within h i x, buy_quoted h a);
    sell_away = λ h a i x. omega (arith, sell_within h i x, sell_quoted h a);
    buy_best = λ h i j p p' x y l. best b _ ready.book side (bound_in m t) e.size.0 allocation i j p p' x y (offers_first h i j l);
    sell_best = λ h i j p p' x y l. best b _ ready.book side (bound_in m t) e.size.0 allocation i j p p' x y (bids_first h i j p' y l);
    by_time = λ one i j p x y same. early b _ ready.book side (bound_in m t) e.size.0 allocation one i j p x y (ap (key_of side) same);
    all_fill = all_of_it b _ ready.book side (bound_in m t) e.size.0 allocation;
    shares = shared b _ ready.book side (bound_in m t) e.size.0 allocation;
    leftovers = one_more b _ ready.book side (bound_in m t) e.size.0 allocation;
  }

  abbrev rows_of : Resting
  rows_of = traded_rows b side (bound_in m t) e.size.0 allocation

  recorded_right : (was : List ℕ) (fills : ℕ) (l : List ℕ) → fills ≡ trade_records b side (bound_in m t) e.size.0 allocation
      → l ≡ trade_written b side (bound_in m t) e.size.0 allocation was → RecordedRight m t was fills l
  unfolding trade_records trade_written
  recorded_right was fills l count are = record {
    of_row = λ i p x. (rw count (pos_below rows_of i p x), rw are (record_of rows_of (rows_apart b _ ready.book side (bound_in m t) e.size.0 allocation) (owner_at b) (price_at b) was i p x));
    all_rows = λ p h. pos_onto rows_of (rows_apart b _ ready.book side (bound_in m t) e.size.0 allocation) p (omega (arith, count));
    buy_best_first = λ h i j p x l. pos_less rows_of i j p x (at_better (offers_first h j i l));
    sell_best_first = λ h i j p x l. pos_less rows_of i j p x (at_better (bids_first h j i p (opened i x) l));
    rising = λ i j p x same sooner. pos_less rows_of i j p x (at_same (ap (key_of side) same) sooner);
    past = λ k h p. rw are (past_records rows_of (rows_apart b _ ready.book side (bound_in m t) e.size.0 allocation) (owner_at b) (price_at b) was k (omega (arith, count)) p);
  }

  left_right : (number filled disposition : ℕ) (after : Book)
      → after ≡ pick (eqb disposition 1) (rested (once_traded m t) e.side e.price.0 (e.size.0 - filled) t number) (once_traded m t)
      → LeftRight m t number filled disposition after
  unfolding after_trade
  left_right number filled disposition after is = record {
    rests = λ h. is ∙ pick_yes _ _ (eq-eqb disposition 1 h);
    else_cancelled = λ h. is ∙ pick_no _ _ (ne_eqb disposition 1 h);
    taken_off = λ i p. table_at _ b.places i p;
  }

-- the head entry of a lane served is well-formed
pub formed_in : (m : Market) (lent t : ℕ) → Sound m → TakenBy m lent t → malformed (head_entry m t) ≡ false
formed_in m lent t sound k =
    let first = serves_first m lent t sound k in
    (sound (set_in m lent t k)).lanes.formed t 0 first.lane (ltb-true 0 _ first.waits)

pub new_in : (m : Market) (lent t : ℕ) → Sound m → TakenBy m lent t → is_cancel (head_entry m t) ≡ false → new_order (head_entry m t) ≡ true
new_in m lent t sound k new = new_unless_cancel (head_entry m t) (formed_in m lent t sound k) new

-- so an order that trades buys or sells
sides_of : (m : Market) (lent t : ℕ) → Sound m → TakenBy m lent t → is_cancel (head_entry m t) ≡ false → (is_buy (judged m t) ≡ true) ⊎ (is_sell (judged m t) ≡ true)
sides_of m lent t sound k new =
    let terms = (sound (set_in m lent t k)).ready.terms in
    (judged_proper (head_entry m t) (quotes_in m) m.session.terms (new_proper (head_entry m t) (new_in m lent t sound k new)) terms.low_least terms.low_most).sided

pub orders_filled : OrdersFilled
orders_filled = record {
  filled = λ m lent was t number filled disposition sound opened is.
      let k = taken_by m lent t (accepted_served m lent was t number filled disposition is) in
      let ready = (sound (set_in m lent t k)).ready in
      let d = accepted_traded m lent was t number filled disposition is opened in (
        d.number_is,
        filled_right m ready t filled d.filled_is (sides_of m lent t sound k d.new),
        recorded_right m ready t was (turn_fills m lent was) (turn_of m lent was).records d.fills_is d.records_are,
        left_right m ready t number filled disposition (turn_of m lent was).market.book d.book_is,
      );
}
