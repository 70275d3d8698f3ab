-- What an entry makes of what it meets.
use Rattle.std.specs.Prelude.{List, ℕ, ◌-◌, eqb, Result, Ok, Err}
use Rattle.units.specs.declared.Cents.{Cents}
use Rattle.units.specs.Units.{contracts}
use Rattle.units.specs.Tests.{pick}
use Rattle.book.specs.declared.lookup.Lost.{Lost}
use Rattle.book.specs.declared.lookup.Lost.TheVariants.{GivenOut, NeverGiven}
use Rattle.book.specs.Book.{Book, best_bid, best_offer, resting_of, rested, freed}
use Rattle.book.specs.Lookup.{code_of, found}
use Rattle.book.specs.Trading.{filled, after_trade, trade_records, trade_written}
use Rattle.entry.specs.declared.Entry.{Entry}
use Rattle.entry.specs.declared.Quotes.{Quotes}
use Rattle.entry.specs.Entry.{is_cancel}
use Rattle.entry.specs.Quotes.{quotes_of}
use Rattle.checks.specs.declared.Standing.{Standing}
use Rattle.judge.specs.Judged.{Judged, TurnedDown, Rests, Trades}
use Rattle.judge.specs.Disposition.{disposition_of}
use Rattle.judge.specs.Verdict.{verdict}
use Rattle.dealing.specs.Came as came
use Rattle.dealing.specs.Floor.{Floor, Made}
use Rattle.dealing.specs.Settle.{opposite, tallies_after}

-- NBB and NBO, both taken before the order trades
unfoldable pub quotes_on : Floor → Quotes
quotes_on f = quotes_of (best_bid f.book) (best_offer f.book) f.series.away

-- where a tenant stands
abbrev pub standing_on : Floor → ℕ → Standing
standing_on f t = record { opened = f.series.opened; resting = resting_of f.book t; next = f.number }

-- below, f is what the entry meets, t the tenant, and was the fill records as lent

-- An entry turned down leaves book and fill records unaltered.
abbrev pub turned_down : Floor → List ℕ → ℕ → Made
turned_down f was code = record { book = f.book; tallies = f.tallies; came = came.TurnedDown code; records = was }

-- An accepted cancel frees the row.
abbrev pub cancelled : Floor → List ℕ → Entry → ℕ → Made
cancelled f was e row = record { book = freed f.book row; tallies = f.tallies; came = came.Cancelled e.number; records = was }

-- Cancel, by what the lookup of its number says: it is turned down by 18 where the number is given out and does not
-- rest for that tenant, and by 22 where it was never given.
abbrev pub by_found : Floor → List ℕ → Entry → Result ℕ Lost → Made
by_found f was e (Ok row) = cancelled f was e row
by_found f was e (Err GivenOut) = turned_down f was (code_of (Err GivenOut))
by_found f was e (Err NeverGiven) = turned_down f was (code_of (Err NeverGiven))

-- A number is given out if it is below the one that the next accepted order is given.
unfoldable pub cancels : Floor → ℕ → List ℕ → Entry → Made
cancels f t was e = by_found f was e (found f.book f.number t e.number)

-- Before opening a day limit simply rests: it is given the number, filled 0 and disposition 1.
unfoldable pub rests : Floor → ℕ → List ℕ → Entry → Made
rests f t was e = record {
  book = rested f.book e.side e.price.0 e.size.0 t f.number;
  tallies = f.tallies;
  came = came.Accepted f.number (contracts 0) 1 0;
  records = was;
}

module _ (f : Floor) (t : ℕ) (e : Entry) (bound : Cents) where
  -- the order trades with opposite rows within the bound
  unfoldable pub filled_of : ℕ
  filled_of = filled f.book (opposite e) bound.0 e.size.0

  unfoldable pub disposition_in : ℕ
  disposition_in = disposition_of e (quotes_on f) f.series.terms (contracts (e.size.0 - filled_of))

  abbrev pub book_traded : Book
  book_traded = after_trade f.book (opposite e) bound.0 e.size.0 f.series.terms.allocation

  -- 1 rests at its limit; 2, 3 and 4 cancel the rest
  unfoldable pub book_after : Book
  book_after =
      pick (eqb disposition_in 1) (rested book_traded e.side e.price.0 (e.size.0 - filled_of) t f.number) book_traded

  -- an order that trades is given the number
  unfoldable pub trades : List ℕ → Made
  trades was = record {
    book = book_after;
    tallies = tallies_after f.tallies t e f.book bound.0 f.series.terms.allocation;
    came =
        came.Accepted f.number (contracts filled_of) disposition_in
        (trade_records f.book (opposite e) bound.0 e.size.0 f.series.terms.allocation);
    records = trade_written f.book (opposite e) bound.0 e.size.0 f.series.terms.allocation was;
  }

abbrev pub by_verdict : Floor → ℕ → List ℕ → Judged → Made
by_verdict f t was (TurnedDown code) = turned_down f was code
by_verdict f t was (Rests e) = rests f t was e
by_verdict f t was (Trades e bound) = trades f t e bound was

-- a new order by its verdict
unfoldable pub ordered : Floor → ℕ → List ℕ → Entry → Made
ordered f t was e = by_verdict f t was (verdict e (quotes_on f) f.series.terms (standing_on f t))

-- an entry: a cancel, or a new order
unfoldable pub dealt : Floor → ℕ → List ℕ → Entry → Made
dealt f t was e = pick (is_cancel e) (cancels f t was e) (ordered f t was e)
