-- What a turn comes to, case by case: for each outcome the market, the answer and the fill records that it leaves, in
-- the words of the demands. What this crate knows of how a turn is worked out stands here alone.
use Rattle.std.specs.Prelude.{◌≡◌, true, false, ltb, eqb, Err, None, Ok, Option, Result, Some, ℕ}
use Rattle.std.proofs.Math.Path.{refl}
use Rattle.std.proofs.Common.{sym, ap, ◌∙◌, subst, true≢false, arith}
use mathlib.Core.List.{List}
use Prim.Native.Nat.{ℕ, ◌+◌, ◌-◌, ◌<◌}
use Rattle.std.proofs.Math.ListN.{length}
use borrow.Author.Tests.{ltb-true, ltb-false}
use Rattle.units.specs.Units.{contracts, tenants}
use Rattle.units.specs.Tests.{pick, picked, picked_of_both, not_false}
use Rattle.book.specs.declared.lookup.Lost.{Lost}
use Rattle.book.specs.declared.lookup.Lost.TheVariants as looked
use Rattle.book.specs.Book.{Book, freed, rested}
use Rattle.book.specs.Lookup.{found, code_of}
use Rattle.book.specs.Trading.{filled, after_trade, trade_records, trade_written}
use Rattle.entry.specs.Entry.{is_cancel, is_buy}
use Rattle.entry.specs.Quotes.{quotes_of}
use Rattle.checks.specs.TurnDown.{turn_down}
use Rattle.judge.specs.Judged.{Judged}
use Rattle.judge.specs.Judged.{TurnedDown, Rests, Trades}
use Rattle.judge.specs.Disposition.{disposition_of}
use Rattle.judge.specs.Verdict.{verdict}
use Rattle.judge.specs.VerdictLaws.{Ruled, ruled}
use Rattle.lanes.specs.Ring.{taken as lane_taken}
use Rattle.lanes.specs.Rotation.{waits, served}
use Rattle.lanes.specs.Runs.{FirstBusy}
use Rattle.lanes.specs.RotationLaws.{served_first}
use Rattle.tally.specs.declared.Tally.{Tally}
use Rattle.tally.specs.Tallies.{counted}
use Rattle.tally.specs.TallyLaws.{added_length}
use Rattle.dealing.specs.Floor.{Floor, Made}
use Rattle.dealing.specs.Settle.{opposite, tallies_after}
use Rattle.dealing.specs.Deal.{quotes_on, filled_of, disposition_in, book_after, by_found, by_verdict, ordered, dealt}
use Rattle.dealing.specs.Deal.{cancels as cancel_made, rests as rest_made, trades as trade_made}
use Rattle.session.specs.TurnAnswer.{TurnAnswer}
use Rattle.session.specs.TurnAnswer as answer
use Rattle.session.specs.Market.{Market, market_of, session_with, floor_on}
use Rattle.session.specs.Turn.{TurnDone, Line, Printed, printed, refused as printed_refused, turn as printed_turn, quotes_in, standing_of, nobody, turn_cases, turn_refusal, after_taking, turn_made, entry_turn, turn_of_lane, turn_of}
use Rattle.demands.specs.Runs.{turned, is_refused, lane_in, head_entry}
use Rattle.demands.specs.InOrderLaws.{fails_at}
use Rattle.demands.specs.Demand2.{judged, bound_in, once_traded}

-- ---- answers, told apart

-- which kind of answer it is
abbrev pub kind_of : TurnAnswer → ℕ
kind_of (answer.Refused n) = 0
kind_of (answer.TurnedDown t n) = 1
kind_of (answer.Cancelled t n) = 2
kind_of (answer.Accepted t n f d k) = 3

-- its values in the paper's numbers, a refusal's number as their code
abbrev pub values_of : Printed → Line
values_of (printed_refused n) = record { tenant = 0; code = n; number = 0; filled = 0; disposition = 0 }
values_of (printed_turn l) = l

-- and whose turn they say was taken
abbrev pub lane_told : Printed → (Option ℕ)
lane_told (printed_refused n) = None
lane_told (printed_turn l) = Some l.tenant

pub lane_told_lem : (a : TurnAnswer) → lane_in (turned a) ≡ lane_told (printed a)
lane_told_lem (answer.Refused n) = refl
lane_told_lem (answer.TurnedDown t n) = refl
lane_told_lem (answer.Cancelled t n) = refl
lane_told_lem (answer.Accepted t n f d k) = refl

-- ---- what is left

-- the quotes that an order meets have the away quote as it is
pub quotes_away : (m : Market) → (quotes_in m).away ≡ m.session.away
unfolding quotes_on quotes_of
quotes_away m = refl

-- the market that a taken turn of lane t leaves, by its book, its next number and its tallies
abbrev pub left_with : Market → ℕ → Book → ℕ → List Tally → Market
left_with m t book next tallies =
    market_of (session_with m.session m.session.away m.session.opened (lane_taken m.session.lanes t) next tallies) book m.entries

module _ (m : Market) (t : ℕ) where
  -- the tallies with one turn more for t, and the market once the turn is taken
  abbrev pub turn_counted : List Tally
  turn_counted = counted m.session.tallies t 1 0 0

  abbrev pub once_taken : Market
  once_taken = left_with m t m.book m.session.next turn_counted

  -- the number by which a new order is turned down, 0 for none
  abbrev pub down_by : ℕ
  down_by = turn_down (head_entry m t) (quotes_in m) m.session.terms (standing_of m t)

  -- what the lookup of the number that a cancel names says
  abbrev pub looked_up : Result ℕ Lost
  looked_up = found m.book m.session.next t (head_entry m t).number

  -- of an order that trades: what is filled, its disposition, how many records are written, and the book left
  abbrev pub filled_in : ℕ
  filled_in = filled m.book (opposite (judged m t)) (bound_in m t) (judged m t).size.0

  abbrev pub disposed_in : ℕ
  disposed_in = disposition_of (judged m t) (quotes_in m) m.session.terms (contracts ((judged m t).size.0 - filled_in))

  -- which is never that of a cancel
  pub disposed_less : disposed_in < 5
  unfolding disposition_of
  disposed_less =
      let less : ℕ → Type 0 = λ n. n < 5 in
      picked_of_both less _ 0 _ (omega arith) (picked_of_both less _ 2 _ (omega arith) (picked_of_both less _ 3 _ (omega arith) (picked_of_both less _ 4 1 (omega arith) (omega arith))))

  abbrev pub fills_by : ℕ
  fills_by = trade_records m.book (opposite (judged m t)) (bound_in m t) (judged m t).size.0 m.session.terms.allocation

  abbrev pub book_left : Book
  book_left =
      pick (eqb disposed_in 1) (rested (once_traded m t) (judged m t).side (judged m t).price.0 ((judged m t).size.0 - filled_in) t m.session.next) (once_traded m t)

  module _ (was : List ℕ) where
    -- an entry turned down by n
    abbrev pub down_done : ℕ → TurnDone
    down_done n = record { market = once_taken; answer = answer.TurnedDown t n; records = was }

    -- an accepted cancel
    abbrev pub cancel_done : ℕ → TurnDone
    cancel_done row = record {
      market = left_with m t (freed m.book row) m.session.next turn_counted;
      answer = answer.Cancelled t (head_entry m t).number;
      records = was;
    }

    -- an order that simply rests
    abbrev pub rest_done : TurnDone
    rest_done = record {
      market =
          left_with m t (rested m.book (judged m t).side (judged m t).price.0 (judged m t).size.0 t m.session.next) (m.session.next + 1) turn_counted;
      answer = answer.Accepted t m.session.next (contracts 0) 1 0;
      records = was;
    }

    -- an order that trades
    abbrev pub trade_done : TurnDone
    trade_done = record {
      market = left_with m t book_left (m.session.next + 1) (tallies_after turn_counted t (judged m t) m.book (bound_in m t) m.session.terms.allocation);
      answer = answer.Accepted t m.session.next (contracts filled_in) disposed_in fills_by;
      records = trade_written m.book (opposite (judged m t)) (bound_in m t) (judged m t).size.0 m.session.terms.allocation was;
    }

-- ---- the outcomes

-- a taken turn of tenant t
module _ (m : Market) (was : List ℕ) (t : ℕ) where
  -- of a cancel: the order rests as its tenant's in a row; or none does, and it is turned down by what the number is
  pub data CancelOf : TurnDone → Type 0 where
    cancels : (row : ℕ) → looked_up m t ≡ Ok row → CancelOf (cancel_done m t was row)
    no_such : {code : ℕ} → code_of (looked_up m t) ≡ code → 0 < code → CancelOf (down_done m t was code)

  -- of a new order: turned down, or before the opening at rest, or once open traded
  pub data OrderOf : TurnDone → Type 0 where
    turned_down : 0 < down_by m t → OrderOf (down_done m t was (down_by m t))
    rests : down_by m t ≡ 0 → m.session.opened ≡ false → OrderOf (rest_done m t was)
    trades : down_by m t ≡ 0 → m.session.opened ≡ true → OrderOf (trade_done m t was)

  pub data OutcomeOf (d : TurnDone) : Type 0 where
    of_cancel : is_cancel (head_entry m t) ≡ true → CancelOf d → OutcomeOf d
    of_order : is_cancel (head_entry m t) ≡ false → OrderOf d → OutcomeOf d

  abbrev taking : Market
  taking = market_of (after_taking m.session t) m.book m.entries

  -- what its entry meets
  abbrev floor : Floor
  floor = floor_on taking.session m.book

  by_found_lem : (x : Result ℕ Lost) → looked_up m t ≡ x → CancelOf (turn_made taking t (by_found floor was (head_entry m t) x))
  unfolding after_taking
  by_found_lem (Ok row) is = cancels row is
  by_found_lem (Err looked.GivenOut) is = no_such (ap code_of is) (omega arith)
  by_found_lem (Err looked.NeverGiven) is = no_such (ap code_of is) (omega arith)

  cancel_of : CancelOf (turn_made taking t (cancel_made floor t was (head_entry m t)))
  unfolding cancel_made after_taking
  cancel_of = by_found_lem (looked_up m t) refl

  by_verdict_lem : (v : Judged) → Ruled (head_entry m t) (quotes_in m) m.session.terms (standing_of m t) v → OrderOf (turn_made taking t (by_verdict floor t was v))
  unfolding rest_made trade_made filled_of disposition_in book_after quotes_on after_taking
  by_verdict_lem (TurnedDown n) (is, some) = rw is (turned_down (rw is at some))
  by_verdict_lem (Rests j) (shut, k) = rw k.as_judged_lem (rests k.not_turned_down shut)
  by_verdict_lem (Trades j b) (opened, k, bound) = rw (bound, k.as_judged_lem) (trades k.not_turned_down opened)

  order_of : OrderOf (turn_made taking t (ordered floor t was (head_entry m t)))
  unfolding ordered after_taking quotes_on
  order_of =
      by_verdict_lem (verdict (head_entry m t) (quotes_in m) m.session.terms (standing_of m t)) (ruled (head_entry m t) (quotes_in m) m.session.terms (standing_of m t))

  entry_of : OutcomeOf (entry_turn taking t was (head_entry m t))
  unfolding dealt
  entry_of = picked (λ (d : Made). OutcomeOf (turn_made taking t d)) (is_cancel (head_entry m t)) _ _ (λ c. of_cancel c cancel_of) (λ c. of_order c order_of)

-- What every taken turn leaves, however its entry comes out: the answer names its tenant; of the lanes that one has
-- lost its head, and the place has moved. Where the entry is turned down, that and the count of the turn is all.
pub record Leaves (m : Market) (was : List ℕ) (t : ℕ) (d : TurnDone) : Type 0 where
  pub names : lane_in (turned d.answer) ≡ Some t
  pub not_refused : is_refused (turned d.answer) ≡ false
  pub lanes : d.market.session.lanes ≡ lane_taken m.session.lanes t
  pub accepted : d.market.session.accepted ≡ m.session.accepted
  pub terms : d.market.session.terms ≡ m.session.terms
  pub places : d.market.book.places ≡ m.book.places
  pub tallies_long : length d.market.session.tallies ≡ length m.session.tallies
  pub down : kind_of d.answer ≡ 1 → (d.market ≡ once_taken m t) × (d.records ≡ was)

module _ (m : Market) (was : List ℕ) (t : ℕ) where
  -- what a turn leaves is told by its book, its tallies, its answer and its records
  left :
      (book : Book) (next : ℕ) (tallies : List Tally) (a : TurnAnswer) (records : List ℕ) → lane_in (turned a) ≡ Some t → is_refused (turned a) ≡ false →
      book.places ≡ m.book.places → length tallies ≡ length m.session.tallies →
      (kind_of a ≡ 1 → (left_with m t book next tallies ≡ once_taken m t) × (records ≡ was)) →
      Leaves m was t (record { market = left_with m t book next tallies; answer = a; records = records })
  left book next tallies a records names taken places long down = record {
    names = names;
    not_refused = taken;
    lanes = refl;
    accepted = refl;
    terms = refl;
    places = places;
    tallies_long = long;
    down = down;
  }

  counted_long : length (turn_counted m t) ≡ length m.session.tallies
  counted_long = added_length _ _ _ 0 m.session.tallies

  traded_long : length (tallies_after (turn_counted m t) t (judged m t) m.book (bound_in m t) m.session.terms.allocation) ≡ length m.session.tallies
  unfolding tallies_after
  traded_long =
      picked_of_both (λ (x : List Tally). length x ≡ length (turn_counted m t)) (is_buy (judged m t)) _ _ (added_length _ _ _ 0 _) (added_length _ _ _ 0 _) ∙ counted_long

  traded_places : (book_left m t).places ≡ m.book.places
  unfolding rested after_trade
  traded_places = picked_of_both (λ (x : Book). x.places ≡ m.book.places) (eqb (disposed_in m t) 1) _ _ refl refl

  pub leaves : {d : TurnDone} → OutcomeOf m was t d → Leaves m was t d
  unfolding rested freed
  leaves (of_cancel c (cancels row h)) = left _ _ _ _ _ refl refl refl counted_long (λ k. absurd (omega arith))
  leaves (of_cancel c (no_such is above)) = left _ _ _ _ _ refl refl refl counted_long (λ k. (refl, refl))
  leaves (of_order c (turned_down h)) = left _ _ _ _ _ refl refl refl counted_long (λ k. (refl, refl))
  leaves (of_order c (rests n o)) = left _ _ _ _ _ refl refl refl counted_long (λ k. absurd (omega arith))
  leaves (of_order c (trades n o)) = left _ _ _ _ _ refl refl traded_places traded_long (λ k. absurd (omega arith))

-- ---- the whole call

-- the turn is taken, and of lane t
pub record ServedAs (m : Market) (lent t : ℕ) : Type 0 where
  pub not_refused : turn_refusal m.session lent ≡ 0
  pub lane : served m.session.lanes ≡ Some t

-- that is the first lane with an entry, at or after the rotation place
pub first_busy : (m : Market) (t : ℕ) → m.session.lanes.place < tenants → served m.session.lanes ≡ Some t
    → FirstBusy (waits m.session.lanes) m.session.lanes.place t
unfolding served
first_busy m t h is = (served_first (waits m.session.lanes) m.session.lanes.place h t).0 is

-- and settings are accepted
pub served_set : (m : Market) (lent t : ℕ) → ServedAs m lent t → m.session.accepted ≡ true
unfolding turn_refusal
served_set m lent t s = not_false m.session.accepted (fails_at 0 (turn_cases m.session lent) refl s.not_refused 0)

module _ (m : Market) (lent : ℕ) (was : List ℕ) where
  -- refused by its number, or taken
  pub data Outcome : TurnDone → Type 0 where
    refused : 0 < turn_refusal m.session lent → Outcome (record { market = m; answer = answer.Refused (turn_refusal m.session lent); records = was })
    taken : (t : ℕ) {d : TurnDone} → ServedAs m lent t → OutcomeOf m was t d → Outcome d

  by_lane : turn_refusal m.session lent ≡ 0 → (s : (Option ℕ)) → served m.session.lanes ≡ s → nobody s ≡ false → Outcome (turn_of_lane m was s)
  by_lane e (Some t) h n = taken t (record { not_refused = e; lane = h }) (entry_of m was t)
  by_lane e None h n = absurd (true≢false n)

  not_refused : turn_refusal m.session lent ≡ 0 → Outcome (turn_of_lane m was (served m.session.lanes))
  unfolding turn_refusal
  not_refused e = by_lane e (served m.session.lanes) refl (fails_at 0 (turn_cases m.session lent) refl e 1)

  pub outcome : Outcome (turn_of m lent was)
  unfolding turn_of
  outcome =
      let r = turn_refusal m.session lent in
      picked Outcome (ltb 0 r) _ _ (λ h. refused (ltb-true 0 r h)) (λ h. not_refused (omega (arith, ltb-false 0 r h)))

  pub served_outcome : (t : ℕ) → ServedAs m lent t → OutcomeOf m was t (turn_of m lent was)
  unfolding turn_of pick
  served_outcome t s = rw (s.not_refused, s.lane) (entry_of m was t)

  pub served_leaves : (t : ℕ) → ServedAs m lent t → Leaves m was t (turn_of m lent was)
  served_leaves t s = leaves m was t (served_outcome t s)

  -- a turn whose answer names t is t's
  pub named : (t : ℕ) → lane_in (turned (turn_of m lent was).answer) ≡ Some t → ServedAs m lent t
  named t = go outcome
    where
      lane_of : (Option ℕ) → ℕ
      lane_of (Some u) = u
      lane_of None = 0

      go : {d : TurnDone} → Outcome d → lane_in (turned d.answer) ≡ Some t → ServedAs m lent t
      go (refused h) e = absurd (true≢false (ap nobody e))
      go (taken u s o) e = subst (ServedAs m lent) (ap lane_of (sym (leaves m was u o).names ∙ e)) s
