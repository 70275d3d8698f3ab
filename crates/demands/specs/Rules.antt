-- The rules by which an order is judged, in the words of document 01: NBB and NBO, when it is turned down, what it is
-- judged as, its bound and its disposition. The proofs stand in RulesProof.
use Rattle.std.specs.Prelude.{◌≡◌, ◌↔◌, ◌⊎◌, true, false, List, [], ◌∷◌, ℕ, ◌+◌, ◌-◌, ◌*◌, ◌≤◌, ◌<◌}
use Rattle.units.specs.Counts.{HowMany}
use Rattle.units.specs.GridLaws.{StepDivides}
use Rattle.book.specs.Book.{Book, price_at}
use Rattle.book.specs.BestLaws.{RestsOn, PricedOn, OwnRow}
use Rattle.entry.specs.declared.Away.{Away}
use Rattle.entry.specs.declared.Entry.{Entry}
use Rattle.entry.specs.declared.Terms.{Terms}
use Rattle.checks.specs.TurnDown.{as_judged}
use Rattle.checks.specs.Words.{JudgedAs}
use Rattle.judge.specs.Bound.{bound_of}
use Rattle.judge.specs.Words.{WithinBuy, WithinSell}
use Rattle.session.specs.Market.{Market}
use Rattle.session.specs.Turn.{quotes_in}
use Rattle.session.specs.Sound.{Sound}
use Rattle.demands.specs.Runs.{head_entry}
use Rattle.demands.specs.InOrder.{Rule, ◌if◌}

-- NBB is the higher of the book's best bid and the away bid: no bid is above it, and it is one of them, or 0 where none
-- is there
pub record IsNBB (b : Book) (away nbb : ℕ) : Type 0 where
  pub away_bid : away ≤ nbb
  pub buys : (i : ℕ) → RestsOn b 1 i → price_at b i ≤ nbb
  pub one_of : (nbb ≡ away) ⊎ PricedOn b 1 nbb

-- NBO is the lower of the offers, absent ones ignored: no offer that is there is below it, and it is one of them, or 0
-- where none is there
pub record IsNBO (b : Book) (away nbo : ℕ) : Type 0 where
  pub away_offer : 0 < away → (0 < nbo) × (nbo ≤ away)
  pub sells : (i : ℕ) → RestsOn b 2 i → (0 < nbo) × (nbo ≤ price_at b i)
  pub one_of : (nbo ≡ away) ⊎ PricedOn b 2 nbo

module _ (m : Market) (t : ℕ) where
  -- the head entry of the lane, NBB and NBO before it trades, the away quote and the settings
  abbrev e : Entry
  e = head_entry m t

  abbrev nbb : ℕ
  nbb = (quotes_in m).nbb.0

  abbrev nbo : ℕ
  nbo = (quotes_in m).nbo.0

  abbrev away : Away
  away = m.session.away

  abbrev terms : Terms
  terms = m.session.terms

  -- width w = NBO − NBB, 0 if locked or crossed
  abbrev w : ℕ
  w = nbo - nbb

  -- the order as judged: a converted order is a limit from there on
  abbrev pub judged : Entry
  judged = as_judged e (quotes_in m) terms

  -- buy limit above NBO + F, sell limit with price + F below NBB; not checked when that side is absent
  abbrev FarPrice : Type 0
  FarPrice =
      ((judged.side ≡ 1) × (0 < nbo) × (nbo + terms.far.0 < judged.price.0))
      ⊎ ((judged.side ≡ 2) × (0 < nbb) × (judged.price.0 + terms.far.0 < nbb))

  -- tenant already has 24 resting
  abbrev pub TwentyFourRest : Type 0
  TwentyFourRest = (k : ℕ) × HowMany (OwnRow m.book t) m.book.places k × (24 ≤ k)

  -- 10 not open and kind is market or life is now; 11 limit off the grid; 12 buy limit for a put at or above the
  -- strike; 13 market buy, no offer; 14 market sell, no bid, offer above 50; 15 market, with both sides present: w >
  -- least and (w > greatest or 200·w > x·(NBB + NBO)); 16 far price, once open; 17 tenant already has 24 resting and
  -- the order might rest (day, and limit or converted); 19 numbers used up
  abbrev pub turn_down_rules : List Rule
  turn_down_rules =
      (10 if ((m.session.opened ≡ false) × ((e.kind ≡ 2) ⊎ (e.life ≡ 2))))
      ∷ (11 if ((e.kind ≡ 1) × (StepDivides terms.grid e.price.0 → ⊥)))
      ∷ (12 if ((e.kind ≡ 1) × (e.side ≡ 1) × (terms.put ≡ true) × (terms.strike.0 ≤ e.price.0)))
      ∷ (13 if ((e.kind ≡ 2) × (e.side ≡ 1) × (nbo ≡ 0)))
      ∷ (14 if ((e.kind ≡ 2) × (e.side ≡ 2) × (nbb ≡ 0) × (50 < nbo)))
      ∷ (15 if ((e.kind ≡ 2) × (0 < nbb) × (0 < nbo) × (terms.least.0 < w) × ((terms.greatest.0 < w) ⊎ (terms.percent * (nbb + nbo) < 200 * w))))
      ∷ (16 if ((m.session.opened ≡ true) × (judged.kind ≡ 1) × FarPrice))
      ∷ (17 if ((judged.kind ≡ 1) × (judged.life ≡ 1) × TwentyFourRest))
      ∷ (19 if 4294967295 < m.session.next)
      ∷ []

  -- limit beyond the drill price (NBO + D for a buy, NBB − D for a sell; not given when that side was absent)
  abbrev BeyondDrill : Type 0
  BeyondDrill =
      ((judged.side ≡ 1) × (0 < nbo) × (nbo + terms.drill.0 < judged.price.0))
      ⊎ ((judged.side ≡ 2) × (0 < nbb) × (judged.price.0 + terms.drill.0 < nbb))

  -- limit at or beyond the away opposite quote
  abbrev BeyondAway : Type 0
  BeyondAway =
      ((judged.side ≡ 1) × (0 < away.offer.0) × (away.offer.0 ≤ judged.price.0))
      ⊎ ((judged.side ≡ 2) × (0 < away.bid.0) × (judged.price.0 ≤ away.bid.0))

  -- Disposition, with so much of the order left: 0 filled; 2 market or now; 3 limit beyond the drill price; 4 limit at
  -- or beyond the away opposite quote
  abbrev pub disposition_rules : ℕ → List Rule
  disposition_rules left =
      (0 if left ≡ 0)
      ∷ (2 if ((judged.kind ≡ 2) ⊎ (judged.life ≡ 2)))
      ∷ (3 if BeyondDrill)
      ∷ (4 if BeyondAway)
      ∷ []

  -- The order trades with opposite rows within the bound: a row may be traded if it rests on the opposite side, at a
  -- price within the order's bound.
  pub data MayTrade (i : ℕ) : Type 0 where
    to_buy : judged.side ≡ 1 → RestsOn m.book 2 i → WithinBuy judged (quotes_in m) terms (price_at m.book i) → MayTrade i
    to_sell : judged.side ≡ 2 → RestsOn m.book 1 i → WithinSell judged (quotes_in m) terms (price_at m.book i) → MayTrade i

-- What the rules speak of, in words of rows, quotes and settings.
pub record JudgedRight : Type 0 where
  -- NBB and NBO of the book and the away quote
  pub nbb_is : (m : Market) → Sound m → m.session.accepted ≡ true → IsNBB m.book m.session.away.bid.0 (quotes_in m).nbb.0
  pub nbo_is : (m : Market) → Sound m → m.session.accepted ≡ true → IsNBO m.book m.session.away.offer.0 (quotes_in m).nbo.0
  pub away_is : (m : Market) → (quotes_in m).away ≡ m.session.away
  -- the order as judged
  pub judged_as : (m : Market) (t : ℕ) → JudgedAs (head_entry m t) (quotes_in m) m.session.terms (judged m t)
  -- a price of 1 to 1,000,000 is not beyond the bound exactly if it is within each of its parts
  pub buy_bound : (m : Market) (t price : ℕ) → (judged m t).side ≡ 1 → 1 ≤ price → price ≤ 1000000
      → (price ≤ (bound_of (judged m t) (quotes_in m) m.session.terms).0) ↔ WithinBuy (judged m t) (quotes_in m) m.session.terms price
  pub sell_bound : (m : Market) (t price : ℕ) → (judged m t).side ≡ 2 → 1 ≤ price → price ≤ 1000000
      → ((bound_of (judged m t) (quotes_in m) m.session.terms).0 ≤ price) ↔ WithinSell (judged m t) (quotes_in m) m.session.terms price
