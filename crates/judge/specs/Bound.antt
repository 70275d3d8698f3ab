-- The bound within which an order trades.
use Rattle.std.specs.Prelude.{ℕ, ◌+◌, ◌-◌, List, [], ◌∷◌, ltb}
use Rattle.units.specs.declared.Cents.{Cents}
use Rattle.units.specs.Units.{cents}
use Rattle.units.specs.Tests.{◌and◌, pick}
use Rattle.units.specs.Cases.{Case, ◌when◌, least_of, greatest_of}
use Rattle.rows.specs.Rows.{highest}
use Rattle.entry.specs.declared.Entry.{Entry}
use Rattle.entry.specs.declared.Quotes.{Quotes}
use Rattle.entry.specs.declared.Terms.{Terms}
use Rattle.entry.specs.Numbers.{present}
use Rattle.entry.specs.Entry.{is_limit, is_market, is_buy}

-- The buy bound is the least of: the limit; the away offer if any; NBO + D if any; for a market buy of a put, strike −
-- 1.
abbrev pub buy_bars : Entry → Quotes → Terms → List Case
buy_bars e q t =
    (e.price.0 when is_limit e)
    ∷ (q.away.offer.0 when present q.away.offer)
    ∷ (q.nbo.0 + t.drill.0 when present q.nbo)
    ∷ (t.strike.0 - 1 when is_market e and t.put)
    ∷ []

-- no price is above 1,000,000
unfoldable pub buy_bound : Entry → Quotes → Terms → ℕ
buy_bound e q t = least_of highest (buy_bars e q t)

-- The sell bound is the greatest of: the limit, or 1; the away bid if any; NBB − D if any and at least 1.
abbrev pub sell_bars : Entry → Quotes → Terms → List Case
sell_bars e q t =
    (e.price.0 when is_limit e)
    ∷ (q.away.bid.0 when present q.away.bid)
    ∷ (q.nbb.0 - t.drill.0 when ltb t.drill.0 q.nbb.0)
    ∷ []

unfoldable pub sell_bound : Entry → Quotes → Terms → ℕ
sell_bound e q t = greatest_of 1 (sell_bars e q t)

unfoldable pub bound_of : Entry → Quotes → Terms → Cents
bound_of e q t = cents (pick (is_buy e) (buy_bound e q t) (sell_bound e q t))
