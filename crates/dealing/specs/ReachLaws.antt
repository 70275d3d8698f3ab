-- An order out of reach has no resting row within its bound, and leaves everything as it was.
use Rattle.std.specs.Prelude.{◌≡◌, refl, Bool, List, ℕ, ◌≤◌, ◌<◌, eqb}
use Rattle.std.proofs.Math.Path.{ap}
use Rattle.std.proofs.Math.Logic.{⊎_elim}
use Rattle.std.proofs.Math.Bool.{true, false}
use Prim.{⊥}
use Rattle.std.proofs.Common.{arith}
use Rattle.std.proofs.Math.Dec.{ltb}
use borrow.Author.Tests.{eqb-true, ltb-true}
use Rattle.units.specs.Units.{contracts}
use Rattle.units.specs.Tests.{◌or◌, pick, or_true, order, less, equal, more}
use Rattle.units.specs.Sums.{sum_none}
use Rattle.rows.specs.Rows.{open_size}
use Rattle.rows.specs.Passes.{resting_within}
use Rattle.allocation.specs.RangeLaws.{open_most}
use Rattle.book.specs.Book.{Book, book_of, side_at, price_at, size_at, best_offer, within_bound}
use Rattle.book.specs.BookLaws.{buy_most}
use Rattle.book.specs.BestLaws.{RestsOn, offer_least}
use Rattle.book.specs.Sound.{SoundBook}
use Rattle.book.specs.SoundLaws.{sound_fit, row_of}
use Rattle.book.specs.Trading.{after_trade, trade_written}
use Rattle.book.specs.TradingLaws.{open_side, offer_within, bid_within, nothing_left, nothing_written, nothing_filled, nothing_counted, trade_answers}
use Rattle.entry.specs.declared.Entry.{Entry}
use Rattle.entry.specs.declared.Quotes.{Quotes}
use Rattle.entry.specs.Numbers.{absent}
use Rattle.entry.specs.Quotes.{lower_offer, quotes_of}
use Rattle.entry.specs.QuoteLaws.{lower_says}
use Rattle.tally.specs.declared.Tally.{Tally}
use Rattle.dealing.specs.declared.settle.Settled.{Settled}
use Rattle.dealing.specs.Floor.{Floor}
use Rattle.dealing.specs.Settle.{other_side, opposite, Settles, settled_of}
use Rattle.dealing.specs.SettleLaws.{settled_none}
use Rattle.dealing.specs.Deal.{quotes_on}
use Rattle.dealing.specs.Reach.{Quoted, out_of_reach}

-- the quotes on a floor are those of its book and of the away quote that they name
pub floor_quoted : (f : Floor) (q : Quotes) → q ≡ quotes_on f → Quoted f.book q
unfolding quotes_on quotes_of
floor_quoted f q is = rw is refl

-- where no row that rests on a side is within the bound, nothing is
none_within :
    (b : Book) (side bound : ℕ) → ((i : ℕ) → RestsOn b side i → 0 < open_size side bound (side_at b i) (price_at b i) (size_at b i) → ⊥) →
    within_bound b side bound ≡ 0
unfolding resting_within
none_within b side bound h = sum_none b.places λ i p. elim (order 0 (open_size side bound (side_at b i) (price_at b i) (size_at b i))) [
  | less x ↦ absurd (h i (record {
    row = p;
    rests = omega (arith, open_most side bound (side_at b i) (price_at b i) (size_at b i));
    on = open_side side bound (side_at b i) (price_at b i) (size_at b i) x;
  }) x)
  | equal x ↦ omega arith
  | more x ↦ omega arith
]

module _ (b : Book) (next : ℕ) (sound : SoundBook b next) where
  -- where a sell rests, the lower of the best offer and any other is there, and no higher
  pub sell_offered : (other i : ℕ) → RestsOn b 2 i → (0 < lower_offer (best_offer b) other) × (lower_offer (best_offer b) other ≤ price_at b i)
  sell_offered other i r =
      let (there, least) = offer_least b next sound i r in
      let (some, lower) = (lower_says (best_offer b) other).first there in
      (some, omega arith)

  module _ (q : Quotes) (quoted : Quoted b q) (bound : ℕ) where
    -- a buy below NBO finds no sell, and a sell above NBB no buy
    no_sell : (absent q.nbo or ltb bound q.nbo.0) ≡ true → within_bound b 2 bound ≡ 0
    unfolding quotes_of
    no_sell h = none_within b 2 bound λ i r x.
        let nbo = ap (λ z. z.nbo.0) quoted in
        let (some, least) = sell_offered q.away.offer.0 i r in
        let near = offer_within bound (side_at b i) (price_at b i) (size_at b i) x in
        ⊎_elim (λ z. omega (arith, eqb-true q.nbo.0 0 z)) (λ l. omega (arith, ltb-true bound q.nbo.0 l)) (or_true _ _ h)

    no_buy : (absent q.nbb or ltb q.nbb.0 bound) ≡ true → within_bound b 1 bound ≡ 0
    unfolding quotes_of
    no_buy h = none_within b 1 bound λ i r x.
        let nbb = ap (λ z. z.nbb.0) quoted in
        let most = buy_most b i r.row r.rests r.on in
        let some = (row_of sound i r.row r.rests).price_least in
        let near = bid_within bound (side_at b i) (price_at b i) (size_at b i) x in
        ⊎_elim (λ z. omega (arith, eqb-true q.nbb.0 0 z)) (λ l. omega (arith, ltb-true q.nbb.0 bound l)) (or_true _ _ h)

    -- so nothing rests within the bound of an order out of reach
    nothing_within : (side : ℕ) → out_of_reach side bound q ≡ true → within_bound b (other_side side) bound ≡ 0
    unfolding out_of_reach pick
    nothing_within side = by (eqb side 1)
      where
        by :
            (buys : Bool) → pick buys (absent q.nbo or ltb bound q.nbo.0) (absent q.nbb or ltb q.nbb.0 bound) ≡ true →
            within_bound b (pick buys 2 1) bound ≡ 0
        by true = no_sell
        by false = no_buy

-- which leaves book, records and tallies as they were, and fills nothing
module _ (tallies : List Tally) (t : ℕ) (e : Entry) (sides prices sizes owners numbers was : List ℕ) where
  abbrev b : Book
  b = book_of sides prices sizes owners numbers

  pub unreached :
      Settles tallies t e b was → (q : Quotes) → Quoted b q → (bound allocation : ℕ) → out_of_reach e.side bound q ≡ true →
      (b ≡ after_trade b (opposite e) bound e.size.0 allocation)
      × ((was ≡ trade_written b (opposite e) bound e.size.0 allocation was)
      × (◌≡◌ {A = Settled} (record { tallies = tallies; filled = contracts 0; fills = 0 }) (settled_of tallies t e b bound allocation)))
  unreached can q quoted bound allocation h =
      let fit = sound_fit can.sound can.next_most in
      let none = nothing_within b can.next can.sound q quoted bound e.side h in
      let size = e.size.0 in
      let filled = nothing_filled sides prices sizes owners numbers fit (opposite e) bound size allocation none in
      let counted = nothing_counted sides prices sizes owners numbers fit (opposite e) bound size allocation none in
      let answered = trade_answers sides prices sizes owners numbers fit (opposite e) bound size allocation 0 0 filled counted in (
        nothing_left sides prices sizes owners numbers fit (opposite e) bound size allocation none,
        (
          nothing_written sides prices sizes owners numbers fit (opposite e) bound size allocation none was can.records_long,
          settled_none tallies t e b was can bound allocation (opposite e) refl _ refl _ answered refl,
        ),
      )
