-- An order that trades, step by step as the code has it.
use Rattle.std.specs.Prelude.{◌≡◌, List, ℕ, ◌-◌, ◌≤◌, eqb}
use Rattle.std.proofs.Common.{◌∙◌, arith, eq-eqb, ne_eqb}
use Prim.{⊥}
use Rattle.units.specs.declared.Cents.{Cents}
use Rattle.units.specs.Units.{contracts}
use Rattle.units.specs.Tests.{pick}
use Rattle.units.specs.Places.{table_length}
use Rattle.book.specs.Book.{Book, rested}
use Rattle.book.specs.Fit.{Whole}
use Rattle.book.specs.Sound.{SoundBook}
use Rattle.book.specs.SoundLaws.{sound_whole}
use Rattle.book.specs.Trading.{filled, after_trade, trade_written}
use Rattle.entry.specs.declared.Entry.{Entry}
use Rattle.entry.specs.declared.Quotes.{Quotes}
use Rattle.judge.specs.Disposition.{disposition_of}
use Rattle.tally.specs.declared.Tally.{Tally}
use Rattle.dealing.specs.declared.settle.Settled.{Settled}
use Rattle.dealing.specs.Came as came
use Rattle.dealing.specs.Floor.{Floor}
use Rattle.dealing.specs.Settle.{opposite, settled_of}
use Rattle.dealing.specs.Deal.{quotes_on, filled_of, disposition_in, book_after, trades}

-- the book once what is left of an order is disposed of
abbrev pub disposed : ℕ → Entry → ℕ → ℕ → ℕ → Book → Book
disposed d e left t number b = pick (eqb d 1) (rested b e.side e.price.0 left t number) b

-- what an order trades is at most its size
pub filled_most : (b : Book) (side bound q : ℕ) → filled b side bound q ≤ q
unfolding filled
filled_most b side bound q = omega arith

module _ (d : ℕ) (e : Entry) (left t number : ℕ) (b : Book) where
  pub disposed_rests : (b₂ : Book) → d ≡ 1 → b₂ ≡ rested b e.side e.price.0 left t number → b₂ ≡ disposed d e left t number b
  unfolding pick
  disposed_rests b₂ h f = rw (eq-eqb d 1 h) f

  pub disposed_not : (d ≡ 1 → ⊥) → b ≡ disposed d e left t number b
  unfolding pick
  disposed_not h = rw (ne_eqb d 1 h)

-- what settling filled is at most the size
pub settled_most :
    (tallies : List Tally) (t : ℕ) (e : Entry) (b : Book) (bound allocation : ℕ) (done : Settled) → done ≡ settled_of tallies t e b bound allocation →
    done.filled.0 ≤ e.size.0
unfolding settled_of
settled_most tallies t e b bound allocation done is = rw is (filled_most b (opposite e) bound e.size.0)

-- a trade leaves whole columns
pub traded_whole : {b : Book} {next : ℕ} (b₁ : Book) (side bound q allocation : ℕ) → SoundBook b next → b₁ ≡ after_trade b side bound q allocation → Whole b₁
unfolding after_trade
traded_whole {b} b₁ side bound q allocation sound e =
    let w = sound_whole sound in
    rw e (record {
      sides_long = w.sides_long;
      prices_long = w.prices_long;
      sizes_long = table_length _ b.places ∙ sound.places;
      owners_long = w.owners_long;
      numbers_long = w.numbers_long;
    })

module _ (f : Floor) (t : ℕ) (was : List ℕ) (e : Entry) (bound : Cents) where
  pub traded_is :
      (b₁ b₂ : Book) (records : List ℕ) (done : Settled) (left : ℕ) (q : Quotes) (d : ℕ) →
      b₁ ≡ after_trade f.book (opposite e) bound.0 e.size.0 f.series.terms.allocation →
      records ≡ trade_written f.book (opposite e) bound.0 e.size.0 f.series.terms.allocation was →
      done ≡ settled_of f.tallies t e f.book bound.0 f.series.terms.allocation →
      left ≡ e.size.0 - done.filled.0 →
      q ≡ quotes_on f →
      d ≡ disposition_of e q f.series.terms (contracts left) →
      b₂ ≡ disposed d e left t f.number b₁ →
      record {
        book = b₂;
        tallies = done.tallies;
        came = came.Accepted f.number done.filled d done.fills;
        records = records;
      } ≡ trades f t e bound was
  unfolding trades filled_of disposition_in book_after settled_of
  traded_is b₁ b₂ records done left q d e₁ e₂ e₃ e₄ e₅ e₆ e₇ = rw (e₇, e₆, e₅, e₄, e₃, e₂, e₁)
