-- What a match answers beside what it writes.
use Rattle.std.specs.Prelude.{ℕ}
use Rattle.units.specs.Units.{contracts}
use Rattle.book.specs.Book.{Book}
use Rattle.opening.specs.Opening.{volume, opening_records}
use Rattle.opening.specs.declared.matching.Matched.{Matched}

-- the volume, and how many records were written
unfoldable pub matched_of : Book → ℕ → Matched
matched_of b p = record { volume = contracts (volume b p); fills = opening_records b p }
