-- Whether an order reaches a resting row, told by the quotes alone.
use Rattle.std.specs.Prelude.{◌≡◌, Bool, ℕ, ltb, eqb}
use Rattle.units.specs.Tests.{◌or◌, pick}
use Rattle.book.specs.Book.{Book, best_bid, best_offer}
use Rattle.entry.specs.declared.Quotes.{Quotes}
use Rattle.entry.specs.Numbers.{absent}
use Rattle.entry.specs.Quotes.{quotes_of}

-- the quotes are those of a book and of the away quote that they name
abbrev pub Quoted : Book → Quotes → Type 0
Quoted b q = q ≡ quotes_of (best_bid b) (best_offer b) q.away

-- a buy reaches no sell where NBO is absent or above its bound, and a sell no buy where NBB is absent or below it
unfoldable pub out_of_reach : ℕ → ℕ → Quotes → Bool
out_of_reach side bound q =
    pick (eqb side 1) (absent q.nbo or ltb bound q.nbo.0) (absent q.nbb or ltb q.nbb.0 bound)
