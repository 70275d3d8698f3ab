-- Demand 2, as statements: each call answers by the rules of document 01, of which those for one order stand in Rules.
-- The proofs stand in Demand2Refusals, Demand2Stores, RulesProof, Demand2Turn, Demand2Fills and Demand2Opening.
-- Demand2Rows goes on with what a turn leaves row by row, and Demand2Whole has all of them.
use Rattle.std.specs.Prelude.{◌≡◌, ◌↔◌, ◌⊎◌, true, false, List, [], ◌∷◌, ◌++◌, ℕ, ◌+◌, ◌-◌, ◌*◌, ◌/◌, ◌≤◌, ◌<◌, min, length, take, Some}
use Rattle.units.specs.declared.Cents.{Cents}
use Rattle.units.specs.declared.grid.Grid.{Grid}
use Rattle.units.specs.Units.{tenants}
use Rattle.units.specs.Grid.{grid_of}
use Rattle.units.specs.Places.{at}
use Rattle.units.specs.Precedence.{Before}
use Rattle.units.specs.Sums.{sum_to}
use Rattle.rows.specs.Rows.{open_size}
use Rattle.book.specs.Book.{Book, side_at, price_at, size_at, owner_at, number_at, best_bid, best_sell, resting_of, within_bound, rested, crosses}
use Rattle.book.specs.Allocation.{Resting, left, level}
pub use Rattle.book.specs.Lookup.{RestsAs, NoRow}
use Rattle.opening.specs.Opening.{bought, sold, matched, after_fills, matched_rows}
use Rattle.book.specs.Records.{pos, fields}
use Rattle.book.specs.Sound.{Uncrossed}
use Rattle.book.specs.Trading.{reach, traded, after_trade, traded_rows}
use Rattle.entry.specs.Numbers.{entry_numbers, bulk}
use Rattle.entry.specs.declared.Entry.{Entry}
use Rattle.entry.specs.declared.Settings.{Settings}
use Rattle.entry.specs.Settings.{terms_of}
use Rattle.entry.specs.Entry.{is_limit, is_cancel, is_buy, is_sell}
use Rattle.entry.specs.Words.{WellFormed}
use Rattle.checks.specs.TurnDown.{might_rest}
use Rattle.judge.specs.Bound.{bound_of}
use Rattle.lanes.specs.Ring.{entry_at, len_of, taken as lane_taken}
use Rattle.lanes.specs.Rotation.{waits, served}
use Rattle.lanes.specs.Runs.{FirstBusy}
use Rattle.lanes.specs.Waiting.{waiting, given_in}
use Rattle.price.specs.Words.{NoPrice, FirstValid}
use Rattle.tally.specs.Tallies.{turns_in_all}
use Rattle.session.specs.Market.{Market, market_of, with_away}
use Rattle.dealing.specs.Settle.{opposite}
use Rattle.session.specs.Settings.{reset_on, settings_of, away_of}
use Rattle.session.specs.Submit.{with_entries, submit_of}
use Rattle.session.specs.Turn.{Printed, refused as refused_by, turned_down_by, cancelled_as, accepted_as, printed, fills_in, quotes_in, turn_of}
use Rattle.session.specs.Open.{Line, refused_by as open_refused_by, opened_at, printed as printed_open, fills_in as fills_opened, sources_of, open_of}
use Rattle.session.specs.Sound.{Sound}
use Rattle.demands.specs.Runs.{head_entry}
use Rattle.demands.specs.InOrder.{Rule, ◌if◌, NoneOf, GivenInOrder}
pub use Rattle.demands.specs.Rules.{judged, turn_down_rules, disposition_rules}
use Rattle.demands.specs.Rules.{MayTrade}

-- ---- answers, in the paper's numbers

-- what a turn answers, what an open does, and how many fill records each wrote
module _ (m : Market) (lent : ℕ) (was : List ℕ) where
  abbrev pub turn_printed : Printed
  turn_printed = printed (turn_of m lent was).answer

  abbrev pub turn_fills : ℕ
  turn_fills = fills_in (turn_of m lent was).answer

  abbrev pub open_printed : Line
  open_printed = printed_open (open_of m lent was).answer

  abbrev pub open_fills : ℕ
  open_fills = fills_opened (open_of m lent was).answer

-- the values are those of an accepted order: 5 is the disposition of an accepted cancel alone
pub record OrderAccepted (p : Printed) (t number filled disposition : ℕ) : Type 0 where
  pub values : p ≡ accepted_as t number filled disposition
  pub no_cancel : disposition < 5

-- ---- refusal numbers, in order of checking

-- the values of settings, in the order in which they come
pub record InList (s : Settings) : Type 0 where
  pub allocation : (s.allocation ≡ 1) ⊎ (s.allocation ≡ 2)
  pub grid_least : 1 ≤ s.grid
  pub grid_most : s.grid ≤ 3
  pub option : (s.option ≡ 1) ⊎ (s.option ≡ 2)
  pub strike_least : 1 ≤ s.strike.0
  pub strike_most : s.strike.0 ≤ 1000000
  pub drill : s.drill.0 ≤ 1000000
  pub far : s.far.0 ≤ 1000000
  pub percent : s.percent ≤ 1000
  pub least : s.least.0 ≤ s.greatest.0
  pub greatest : s.greatest.0 ≤ 1000000
  pub print : s.print.0 ≤ 1000000
  pub close : s.close.0 ≤ 1000000

-- 21 no accepted settings yet
abbrev pub no_settings : Market → Rule
no_settings m = 21 if m.session.accepted ≡ false

-- away: 8 bid or offer above 1,000,000
abbrev pub away_rules : Market → Cents → Cents → List Rule
away_rules m bid offer = no_settings m ∷ (8 if ((1000000 < bid.0) ⊎ (1000000 < offer.0))) ∷ []

-- submit: 1 tenant, 3 count not 1 to 20 or not six numbers lent for each entry, 2 any malformed entry, 4 waiting plus
-- count above 64
abbrev pub submit_rules : Market → ℕ → ℕ → List ℕ → List Rule
submit_rules m tenant count ns =
    no_settings m
    ∷ (1 if tenants ≤ tenant)
    ∷ (3 if ((1 ≤ count) × (count ≤ bulk) × (length ns ≡ entry_numbers * count) → ⊥))
    ∷ (2 if ((j : ℕ) × (j < count) × (WellFormed (entry_at ns j) → ⊥)))
    ∷ (4 if 64 < len_of m.session.lanes tenant + count)
    ∷ []

-- turn: 5 no lane has an entry, 6 fewer than 216 fill records lent, 35 the tallies show 1,000,000,000,000,000,000 turns
-- taken in all
abbrev pub turn_rules : Market → ℕ → List Rule
turn_rules m lent =
    no_settings m
    ∷ (5 if ((t : ℕ) → t < tenants → len_of m.session.lanes t ≡ 0))
    ∷ (6 if lent < 216)
    ∷ (35 if 1000000000000000000 ≤ turns_in_all m.session.tallies)
    ∷ []

-- open: 9 already open, 6 as above, 20 no valid opening price, where some resting buy is at or above a resting sell
abbrev pub open_rules : Market → ℕ → Type 0 → List Rule
open_rules m lent crossing =
    no_settings m
    ∷ (9 if m.session.opened ≡ true)
    ∷ (6 if lent < 216)
    ∷ (20 if (crossing × NoPrice (sources_of m.session)))
    ∷ []

-- some resting buy is at or above a resting sell
pub record Crossing (b : Book) : Type 0 where
  pub buy : ℕ
  pub sell : ℕ
  pub buy_row : buy < b.places
  pub sell_row : sell < b.places
  pub buy_rests : 0 < size_at b buy
  pub sell_rests : 0 < size_at b sell
  pub buys : side_at b buy ≡ 1
  pub sells : side_at b sell ≡ 2
  pub at_or_above : price_at b sell ≤ price_at b buy

-- Each refusal number is given exactly in its case, in order, whatever the market, and an answer without one exactly
-- where no case applies.
pub record RefusedInOrder : Type 0 where
  -- 7 exactly where a value is outside the list, and 0 exactly where none is
  pub settings_refused : (m : Market) (s : Settings) → ((settings_of m s).code ≡ 7) ↔ (InList s → ⊥)
  pub settings_accepted : (m : Market) (s : Settings) → ((settings_of m s).code ≡ 0) ↔ InList s
  pub settings_only : (m : Market) (s : Settings) → ((settings_of m s).code ≡ 0) ⊎ ((settings_of m s).code ≡ 7)
  pub away : (m : Market) (bid offer : Cents) → GivenInOrder (away_rules m bid offer) (λ n. (away_of m bid offer).code ≡ n) ((away_of m bid offer).code ≡ 0)
  pub submit : (m : Market) (tenant count : ℕ) (ns : List ℕ)
      → GivenInOrder (submit_rules m tenant count ns) (λ n. (submit_of m tenant count ns).code ≡ n) ((submit_of m tenant count ns).code ≡ 0)
  pub turn : (m : Market) (lent : ℕ) (was : List ℕ)
      → GivenInOrder (turn_rules m lent) (λ n. turn_printed m lent was ≡ refused_by n) ((n : ℕ) → turn_printed m lent was ≡ refused_by n → ⊥)
  -- of any market, where its book crosses; of a sound one, where some resting buy is at or above a resting sell
  pub open_call : (m : Market) (lent : ℕ) (was : List ℕ)
      → GivenInOrder (open_rules m lent (crosses m.book ≡ true)) (λ n. open_printed m lent was ≡ open_refused_by n) ((open_printed m lent was).code ≡ 0)
  pub open_sound : (m : Market) (lent : ℕ) (was : List ℕ) → Sound m → m.session.accepted ≡ true
      → GivenInOrder (open_rules m lent (Crossing m.book)) (λ n. open_printed m lent was ≡ open_refused_by n) ((open_printed m lent was).code ≡ 0)
  -- a sound book crosses exactly where some resting buy is at or above a resting sell
  pub crossing : (m : Market) → Sound m → m.session.accepted ≡ true → (crosses m.book ≡ true) ↔ Crossing m.book

-- ---- accepted settings, aways and submits

-- the entries that wait in a lane, the oldest first
abbrev pub waiting_in : Market → ℕ → List Entry
waiting_in m t = waiting m.session.lanes m.entries t

-- What is accepted is stored, and nothing else changes.
pub record AcceptedStores : Type 0 where
  -- accepted settings empty book, lanes, tallies and away quote, put the rotation at tenant 0, the next number at 1 and
  -- the series unopened
  pub settings : (m : Market) (s : Settings) → (settings_of m s).code ≡ 0
      → (g : Grid) × (grid_of s.grid ≡ Some g) × ((settings_of m s).market ≡ reset_on m (terms_of s g))
  -- an accepted away replaces the present bid and offer
  pub away : (m : Market) (bid offer : Cents) → (away_of m bid offer).code ≡ 0
      → (away_of m bid offer).market ≡ market_of (with_away m.session bid offer) m.book m.entries
  -- an accepted submit puts its entries, as given and in their order, behind those waiting in the tenant's lane
  pub submit : (m : Market) (tenant count : ℕ) (ns : List ℕ) → Sound m → (submit_of m tenant count ns).code ≡ 0
      → waiting_in (submit_of m tenant count ns).market tenant ≡ waiting_in m tenant ++ given_in ns count
  -- and leaves the other lanes, the book and all else of the session as they are
  pub submit_others : (m : Market) (tenant count : ℕ) (ns : List ℕ) (other : ℕ) → (submit_of m tenant count ns).code ≡ 0 → (other ≡ tenant → ⊥)
      → waiting_in (submit_of m tenant count ns).market other ≡ waiting_in m other
  pub submit_rest : (m : Market) (tenant count : ℕ) (ns : List ℕ) → (submit_of m tenant count ns).code ≡ 0
      → (submit_of m tenant count ns).market ≡ with_entries m tenant count ns

-- ---- turn-downs, in order of checking

-- the turn is taken, and is that of tenant t's lane
pub record TakenBy (m : Market) (lent t : ℕ) : Type 0 where
  pub not_refused : NoneOf (turn_rules m lent)
  pub lane : served m.session.lanes ≡ Some t

-- an order is accepted with the next number
pub record AcceptedBy (m : Market) (t : ℕ) (p : Printed) : Type 0 where
  pub filled : ℕ
  pub disposition : ℕ
  pub order : OrderAccepted p t m.session.next filled disposition

pub record TurnedDownInOrder : Type 0 where
  -- a turn that is not refused is taken, and serves the first non-empty lane at or after the rotation place
  pub taken : (m : Market) (lent : ℕ) (was : List ℕ) → ((n : ℕ) → turn_printed m lent was ≡ refused_by n → ⊥) → (t : ℕ) × TakenBy m lent t
  pub first_lane : (m : Market) (lent t : ℕ) → Sound m → TakenBy m lent t → FirstBusy (waits m.session.lanes) m.session.lanes.place t
  -- it removes that lane's head entry and moves the place to the tenant after it, also when the entry is turned down
  pub moves : (m : Market) (lent t : ℕ) (was : List ℕ) → TakenBy m lent t → (turn_of m lent was).market.session.lanes ≡ lane_taken m.session.lanes t
  -- a new order is turned down by the first that applies, and else accepted
  pub order : (m : Market) (lent t : ℕ) (was : List ℕ) → TakenBy m lent t → is_cancel (head_entry m t) ≡ false
      → GivenInOrder (turn_down_rules m t) (λ n. turn_printed m lent was ≡ turned_down_by t n) (AcceptedBy m t (turn_printed m lent was))
  -- 17 exactly where the tenant's own 24 rest and the order might rest, none before it applying
  pub row_room : (m : Market) (lent t : ℕ) (was : List ℕ) → Sound m → TakenBy m lent t → is_cancel (head_entry m t) ≡ false
      → (turn_printed m lent was ≡ turned_down_by t 17)
      ↔ (NoneOf (take 7 (turn_down_rules m t)) × (might_rest (judged m t) ≡ true) × (resting_of m.book t ≡ 24))
  -- A cancel: 18 where that number is given out, being below the next one, and does not rest as that tenant's; 22 where
  -- it was never given. An accepted one gives the cancelled order's number.
  pub cancel_given_out : (m : Market) (lent t : ℕ) (was : List ℕ) → TakenBy m lent t → is_cancel (head_entry m t) ≡ true
      → (turn_printed m lent was ≡ turned_down_by t 18)
      ↔ (((head_entry m t).number < m.session.next) × NoRow (RestsAs m.book t (head_entry m t).number))
  pub cancel_never_given : (m : Market) (lent t : ℕ) (was : List ℕ) → TakenBy m lent t → is_cancel (head_entry m t) ≡ true
      → (turn_printed m lent was ≡ turned_down_by t 22)
      ↔ ((m.session.next ≤ (head_entry m t).number) × NoRow (RestsAs m.book t (head_entry m t).number))
  pub cancel_accepted : (m : Market) (lent t : ℕ) (was : List ℕ) → TakenBy m lent t → is_cancel (head_entry m t) ≡ true
      → (turn_printed m lent was ≡ cancelled_as t (head_entry m t).number) ↔ ((i : ℕ) × RestsAs m.book t (head_entry m t).number i)
  -- once open, each disposition is given exactly in its case; 1 where none applies
  pub disposed : (m : Market) (lent : ℕ) (was : List ℕ) (t number filled disposition : ℕ)
      → m.session.opened ≡ true → OrderAccepted (turn_printed m lent was) t number filled disposition
      → GivenInOrder (disposition_rules m t ((judged m t).size.0 - filled)) (λ n. disposition ≡ n) (disposition ≡ 1)
  -- before opening a day limit simply rests
  pub simply_rests : (m : Market) (lent : ℕ) (was : List ℕ) (t number filled disposition : ℕ)
      → m.session.opened ≡ false → OrderAccepted (turn_printed m lent was) t number filled disposition
      → (filled ≡ 0) × (disposition ≡ 1) × (turn_fills m lent was ≡ 0)

-- ---- fills, once open

module _ (m : Market) (t : ℕ) where
  abbrev pub bound_in : ℕ
  bound_in = (bound_of (judged m t) (quotes_in m) m.session.terms).0

  -- the opposite rows within the bound, as the order sees them
  abbrev pub reached : Resting
  reached = reach m.book (opposite (judged m t)) bound_in

  -- what may be traded of row i: all that rests of it where it is on the opposite side and within the bound, else
  -- nothing
  abbrev pub opens_at : ℕ → ℕ
  opens_at i = open_size (opposite (judged m t)) bound_in (side_at m.book i) (price_at m.book i) (size_at m.book i)

  -- what row i trades
  abbrev pub trades : ℕ → ℕ
  trades = traded m.book (opposite (judged m t)) bound_in (judged m t).size.0 m.session.terms.allocation

  -- Q: what of the order reaches the price of row i, the better prices having had their part
  abbrev pub reaching : ℕ → ℕ
  reaching i = left reached (judged m t).size.0 (reached.key i)

  -- S: all that may be traded at the price of row i
  abbrev pub at_price : ℕ → ℕ
  at_price i = level reached (reached.key i)

  -- the whole part of Q·s/S
  abbrev pub share_of : ℕ → ℕ
  share_of i = reaching i * opens_at i / at_price i

  -- which record is that of row i, of those written
  abbrev pub place_of : ℕ → ℕ
  place_of = pos (traded_rows m.book (opposite (judged m t)) bound_in (judged m t).size.0 m.session.terms.allocation)

  -- the book with what the rows traded taken off
  abbrev pub once_traded : Book
  once_traded = after_trade m.book (opposite (judged m t)) bound_in (judged m t).size.0 m.session.terms.allocation

-- what rows trade with an order of which so much is filled
pub record FilledRight (m : Market) (t : ℕ) (filled : ℕ) : Type 0 where
  -- filled is the lesser of the order's size and all resting size within the bound
  pub lesser : filled ≡ min (judged m t).size.0 (sum_to (opens_at m t) m.book.places)
  -- contracts bought equal contracts sold: the rows together trade what is filled
  pub in_all : sum_to (trades m t) m.book.places ≡ filled
  -- a row may be traded exactly if it rests on the opposite side at a price within the bound, and then all that rests
  -- of it
  pub may_trade : (i : ℕ) → i < m.book.places → (0 < opens_at m t i) ↔ MayTrade m t i
  pub all_open : (i : ℕ) → 0 < opens_at m t i → opens_at m t i ≡ size_at m.book i
  -- no row trades more than may be traded of it, and only opposite ones do
  pub most : (i : ℕ) → trades m t i ≤ opens_at m t i
  pub opposite_side : (i : ℕ) → 0 < trades m t i → side_at m.book i ≡ opposite (judged m t)
  pub sided : (is_buy (judged m t) ≡ true) ⊎ (is_sell (judged m t) ≡ true)
  -- no fill is worse than the limit
  pub buy_limit : is_buy (judged m t) ≡ true → is_limit (judged m t) ≡ true → (i : ℕ) → 0 < trades m t i → price_at m.book i ≤ (judged m t).price.0
  pub sell_limit : is_sell (judged m t) ≡ true → is_limit (judged m t) ≡ true → (i : ℕ) → 0 < trades m t i → (judged m t).price.0 ≤ price_at m.book i
  -- or than the away quote
  pub buy_away : is_buy (judged m t) ≡ true → 0 < m.session.away.offer.0 → (i : ℕ) → 0 < trades m t i → price_at m.book i ≤ m.session.away.offer.0
  pub sell_away : is_sell (judged m t) ≡ true → 0 < m.session.away.bid.0 → (i : ℕ) → 0 < trades m t i → m.session.away.bid.0 ≤ price_at m.book i
  -- within the order's own bounds nothing better was passed over: where a row trades, each of a better price within the
  -- bound trades all that it holds
  pub buy_best : is_buy (judged m t) ≡ true → (i j : ℕ) → i < m.book.places → j < m.book.places → 0 < trades m t i → 0 < opens_at m t j
      → price_at m.book j < price_at m.book i → trades m t j ≡ size_at m.book j
  pub sell_best : is_sell (judged m t) ≡ true → (i j : ℕ) → i < m.book.places → j < m.book.places → 0 < trades m t i → 0 < opens_at m t j
      → price_at m.book i < price_at m.book j → trades m t j ≡ size_at m.book j
  -- at one price, allocation 1 fills by rising order number: where a row trades, each earlier one trades all that it
  -- holds
  pub by_time : m.session.terms.allocation ≡ 1 → (i j : ℕ) → j < m.book.places → 0 < trades m t i → 0 < opens_at m t j
      → price_at m.book j ≡ price_at m.book i → number_at m.book j < number_at m.book i → trades m t j ≡ size_at m.book j
  -- allocation 2: if Q ≥ S, all fill; else each row gets the whole part of Q·s/S or one more,
  pub all_fill : m.session.terms.allocation ≡ 2 → (i : ℕ) → at_price m t i ≤ reaching m t i → trades m t i ≡ opens_at m t i
  pub shares : m.session.terms.allocation ≡ 2 → (i : ℕ) → reaching m t i < at_price m t i
      → (share_of m t i ≤ trades m t i) × (trades m t i ≤ share_of m t i + 1)
  -- the one more for larger s first, lower number first among equals
  pub leftovers : m.session.terms.allocation ≡ 2 → (i j : ℕ) → j < m.book.places → reaching m t i < at_price m t i → share_of m t i < trades m t i
      → price_at m.book j ≡ price_at m.book i → 0 < opens_at m t j
      → Before (opens_at m t i) (opens_at m t j) (number_at m.book j) (number_at m.book i) → trades m t j ≡ share_of m t j + 1

-- a fill record: order number, tenant, quantity and price
pub record RecordAt (l : List ℕ) (p number tenant quantity price : ℕ) : Type 0 where
  pub number_is : at l (fields * p) ≡ number
  pub tenant_is : at l (fields * p + 1) ≡ tenant
  pub quantity_is : at l (fields * p + 2) ≡ quantity
  pub price_is : at l (fields * p + 3) ≡ price

-- the fill records l, of which so many are written over those lent
pub record RecordedRight (m : Market) (t : ℕ) (was : List ℕ) (fills : ℕ) (l : List ℕ) : Type 0 where
  -- one for each resting order that traded, and no others
  pub of_row : (i : ℕ) → i < m.book.places → 0 < trades m t i → (place_of m t i < fills)
      × RecordAt l (place_of m t i) (number_at m.book i) (owner_at m.book i) (trades m t i) (price_at m.book i)
  pub all_rows : (p : ℕ) → p < fills → (i : ℕ) × (i < m.book.places) × (0 < trades m t i) × (place_of m t i ≡ p)
  -- best price first, then rising number
  pub buy_best_first : is_buy (judged m t) ≡ true → (i j : ℕ) → i < m.book.places → 0 < trades m t i
      → price_at m.book i < price_at m.book j → place_of m t i < place_of m t j
  pub sell_best_first : is_sell (judged m t) ≡ true → (i j : ℕ) → i < m.book.places → 0 < trades m t i
      → price_at m.book j < price_at m.book i → place_of m t i < place_of m t j
  pub rising : (i j : ℕ) → i < m.book.places → 0 < trades m t i → price_at m.book i ≡ price_at m.book j
      → number_at m.book i < number_at m.book j → place_of m t i < place_of m t j
  -- records past them stay as found
  pub past : (k : ℕ) → fields * fills ≤ k → k < fields * m.book.places → at l k ≡ at was k

-- the book that the turn leaves: disposition 1 rests what is left at its limit, any other cancels it
pub record LeftRight (m : Market) (t number filled disposition : ℕ) (b : Book) : Type 0 where
  pub rests : disposition ≡ 1 → b ≡ rested (once_traded m t) (judged m t).side (judged m t).price.0 ((judged m t).size.0 - filled) t number
  pub else_cancelled : (disposition ≡ 1 → ⊥) → b ≡ once_traded m t
  pub taken_off : (i : ℕ) → i < m.book.places → size_at (once_traded m t) i ≡ size_at m.book i - trades m t i

-- Every accepted order of every sound open market is filled so.
pub record OrdersFilled : Type 0 where
  pub filled : (m : Market) (lent : ℕ) (was : List ℕ) (t number filled disposition : ℕ) → Sound m → m.session.opened ≡ true
      → OrderAccepted (turn_printed m lent was) t number filled disposition
      → (number ≡ m.session.next)
      × FilledRight m t filled
      × RecordedRight m t was (turn_fills m lent was) (turn_of m lent was).records
      × LeftRight m t number filled disposition (turn_of m lent was).market.book

-- ---- the opening

module _ (m : Market) (p : ℕ) where
  -- what may be bought of row i: all that rests of it where it is a buy at P or more, else nothing
  abbrev pub buys_at : ℕ → ℕ
  buys_at i = open_size 1 p (side_at m.book i) (price_at m.book i) (size_at m.book i)

  -- what may be sold of row i: all that rests of it where it is a sell at P or less, else nothing
  abbrev pub sells_at : ℕ → ℕ
  sells_at i = open_size 2 p (side_at m.book i) (price_at m.book i) (size_at m.book i)

  -- which record is that of row i, of those written
  abbrev pub match_of : ℕ → ℕ
  match_of = pos (matched_rows m.book p)

  -- what the fills leave
  abbrev pub once_filled : Book
  once_filled = after_fills m.book p

-- row i is cancelled: buys at P or more remain, and it is a buy at or above the lowest remaining sell; or sells at P or
-- less remain, and it is a sell at or below the highest remaining buy
abbrev pub Cancelled : Market → ℕ → ℕ → Type 0
Cancelled m p i =
    ((side_at m.book i ≡ 1) × (0 < within_bound (once_filled m p) 1 p) × (best_sell (once_filled m p) ≤ price_at m.book i))
    ⊎ ((side_at m.book i ≡ 2) × (0 < within_bound (once_filled m p) 2 p) × (price_at m.book i ≤ best_bid (once_filled m p)))

-- the opening of a market at a price P, with the fill records and the book that it leaves
pub record OpenedAt (m : Market) (was : List ℕ) (p traded fills : ℕ) (l : List ℕ) (after : Book) : Type 0 where
  -- the price is the first valid of midpoint, last print and previous close
  pub price : FirstValid (sources_of m.session) p
  -- the volume is the lesser of buys at P or more and sells at P or less, and both sides fill it: as much is bought as
  -- sold
  pub lesser : traded ≡ min (sum_to (buys_at m p) m.book.places) (sum_to (sells_at m p) m.book.places)
  pub in_all_bought : sum_to (bought m.book p) m.book.places ≡ traded
  pub in_all_sold : sum_to (sold m.book p) m.book.places ≡ traded
  pub bought_most : (i : ℕ) → bought m.book p i ≤ buys_at m p i
  pub sold_most : (i : ℕ) → sold m.book p i ≤ sells_at m p i
  -- each side best price first, then lower number
  pub buys_best : (i j : ℕ) → i < m.book.places → j < m.book.places → 0 < bought m.book p i → 0 < buys_at m p j
      → Before (price_at m.book i) (price_at m.book j) (number_at m.book j) (number_at m.book i) → bought m.book p j ≡ size_at m.book j
  pub sells_best : (i j : ℕ) → i < m.book.places → j < m.book.places → 0 < sold m.book p i → 0 < sells_at m p j
      → Before (price_at m.book j) (price_at m.book i) (number_at m.book j) (number_at m.book i) → sold m.book p j ≡ size_at m.book j
  -- fill records, all at P: one for each order that traded,
  pub of_row : (i : ℕ) → i < m.book.places → 0 < matched m.book p i → (match_of m p i < fills)
      × RecordAt l (match_of m p i) (number_at m.book i) (owner_at m.book i) (matched m.book p i) p
  pub all_rows : (k : ℕ) → k < fills → (i : ℕ) × (i < m.book.places) × (0 < matched m.book p i) × (match_of m p i ≡ k)
  -- buys in that order, then sells
  pub buys_first : (i j : ℕ) → i < m.book.places → 0 < bought m.book p i → 0 < sold m.book p j → match_of m p i < match_of m p j
  pub buys_in_order : (i j : ℕ) → i < m.book.places → j < m.book.places → 0 < bought m.book p i → 0 < bought m.book p j
      → Before (price_at m.book j) (price_at m.book i) (number_at m.book i) (number_at m.book j) → match_of m p i < match_of m p j
  pub sells_in_order : (i j : ℕ) → i < m.book.places → 0 < sold m.book p i → 0 < sold m.book p j
      → Before (price_at m.book i) (price_at m.book j) (number_at m.book i) (number_at m.book j) → match_of m p i < match_of m p j
  pub past : (k : ℕ) → fields * fills ≤ k → k < fields * m.book.places → at l k ≡ at was k
  -- what is cancelled goes, and any other row is left with what it did not trade
  pub goes : (i : ℕ) → i < m.book.places → Cancelled m p i → size_at after i ≡ 0
  pub stays : (i : ℕ) → i < m.book.places → (Cancelled m p i → ⊥) → size_at after i ≡ size_at m.book i - matched m.book p i

pub record OpenedRight : Type 0 where
  -- if no resting buy is at or above a resting sell, the series opens with price 0 and volume 0, and nothing trades
  pub quiet : (m : Market) (lent : ℕ) (was : List ℕ) (price volume : ℕ) → crosses m.book ≡ false → open_printed m lent was ≡ opened_at price volume
      → (price ≡ 0) × (volume ≡ 0) × (open_fills m lent was ≡ 0) × ((open_of m lent was).market.book ≡ m.book) × ((open_of m lent was).records ≡ was)
  -- otherwise it opens at the price chosen
  pub at_price_lem : (m : Market) (lent : ℕ) (was : List ℕ) (price volume : ℕ) → Sound m → crosses m.book ≡ true → open_printed m lent was ≡ opened_at price volume
      → OpenedAt m was price volume (open_fills m lent was) (open_of m lent was).records (open_of m lent was).market.book
  -- an open book is never locked or crossed: not once opened, and not in any sound market
  pub opens : (m : Market) (lent : ℕ) (was : List ℕ) (price volume : ℕ) → Sound m → open_printed m lent was ≡ opened_at price volume
      → ((open_of m lent was).market.session.opened ≡ true) × Uncrossed (open_of m lent was).market.book
  pub never : (m : Market) → Sound m → m.session.accepted ≡ true → m.session.opened ≡ true → Uncrossed m.book
