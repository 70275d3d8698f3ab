-- What becomes of an order that has traded.
use Rattle.std.specs.Prelude.{ℕ, ◌+◌, ◌-◌, Bool, List, [], ◌∷◌, leb, ltb, eqb}
use Rattle.units.specs.declared.Contracts.{Contracts}
use Rattle.units.specs.Tests.{◌and◌, ◌or◌}
use Rattle.units.specs.Cases.{Case, ◌when◌, first_of}
use Rattle.entry.specs.declared.Entry.{Entry}
use Rattle.entry.specs.declared.Quotes.{Quotes}
use Rattle.entry.specs.declared.Terms.{Terms}
use Rattle.entry.specs.Numbers.{present}
use Rattle.entry.specs.Entry.{is_market, is_buy, is_sell, is_now}

-- limit beyond the drill price (NBO + D for a buy, NBB − D for a sell; not given when that side was absent)
unfoldable pub beyond_drill : Entry → Quotes → Terms → Bool
beyond_drill e q t =
    ((is_buy e and present q.nbo) and ltb (q.nbo.0 + t.drill.0) e.price.0)
    or ((is_sell e and present q.nbb) and ltb e.price.0 (q.nbb.0 - t.drill.0))

-- limit at or beyond the away opposite quote
unfoldable pub at_away : Entry → Quotes → Bool
at_away e q =
    ((is_buy e and present q.away.offer) and leb q.away.offer.0 e.price.0)
    or ((is_sell e and present q.away.bid) and leb e.price.0 q.away.bid.0)

-- Disposition, first that applies: 0 filled; 2 market or now; 3 limit beyond the drill price; 4 limit at or beyond the
-- away opposite quote;
abbrev pub dispositions : Entry → Quotes → Terms → Contracts → List Case
dispositions e q t left =
    (0 when eqb left.0 0)
    ∷ (2 when is_market e or is_now e)
    ∷ (3 when beyond_drill e q t)
    ∷ (4 when at_away e q)
    ∷ []

-- 1 rests at its limit
unfoldable pub disposition_of : Entry → Quotes → Terms → Contracts → ℕ
disposition_of e q t left = first_of 1 (dispositions e q t left)
