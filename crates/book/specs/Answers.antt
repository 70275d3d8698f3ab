-- What a match answers beside what it writes.
use Rattle.std.specs.Prelude.{ℕ}
use Rattle.units.specs.Units.{contracts}
use Rattle.book.specs.Book.{Book}
use Rattle.book.specs.Trading.{filled, trade_records}
use Rattle.book.specs.declared.trading.Traded.{Traded}

-- contracts filled, and how many records were written
unfoldable pub traded_of : Book → ℕ → ℕ → ℕ → ℕ → Traded
traded_of b side bound q allocation = record { filled = contracts (filled b side bound q); fills = trade_records b side bound q allocation }
