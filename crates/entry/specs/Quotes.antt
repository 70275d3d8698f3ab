-- NBB and NBO.
use Rattle.std.specs.Prelude.{ℕ, min, max, eqb}
use Rattle.units.specs.Units.{cents}
use Rattle.units.specs.Tests.{pick}
use Rattle.entry.specs.declared.Away.{Away}
use Rattle.entry.specs.declared.Quotes.{Quotes}

-- the lower of two offers, an absent one ignored
unfoldable pub lower_offer : ℕ → ℕ → ℕ
lower_offer a b = pick (eqb a 0) b (pick (eqb b 0) a (min a b))

-- NBB is the higher of the book's best bid and the away bid, NBO the lower of the offers, absent ones ignored.
unfoldable pub quotes_of : ℕ → ℕ → Away → Quotes
quotes_of best_bid best_offer away = record {
  nbb = cents (max best_bid away.bid.0);
  nbo = cents (lower_offer best_offer away.offer.0);
  away = away;
}
