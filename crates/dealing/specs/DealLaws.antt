-- The cases of an entry, as the code meets them.
use Rattle.std.specs.Prelude.{◌≡◌, Bool, List, ℕ, Result, Ok, Err}
use Rattle.std.proofs.Math.Bool.{true, false}
use Prim.{⊥}
use Rattle.std.proofs.Common.{eq-eqb, ne_eqb}
use Rattle.units.specs.declared.Cents.{Cents}
use Rattle.units.specs.Units.{contracts}
use Rattle.units.specs.Tests.{pick}
use Rattle.book.specs.declared.lookup.Lost.{Lost}
use Rattle.book.specs.declared.lookup.Lost.TheVariants.{GivenOut, NeverGiven}
use Rattle.book.specs.Book.{Book, freed, rested}
use Rattle.book.specs.Lookup.{found}
use Rattle.entry.specs.declared.Entry.{Entry}
use Rattle.entry.specs.Entry.{is_cancel}
use Rattle.entry.specs.EntryLaws.{new_unless_cancel}
use Rattle.judge.specs.Judged.{Judged, TurnedDown, Rests, Trades}
use Rattle.judge.specs.Verdict.{verdict}
use Rattle.dealing.specs.Came as came
use Rattle.dealing.specs.Floor.{Floor, Made}
use Rattle.dealing.specs.Deal.{quotes_on, standing_on, turned_down, cancelled, by_found, cancels, rests, trades, by_verdict, ordered, dealt}
use Rattle.dealing.specs.Demands.{CanOrder, CanDeal}

module _ (f : Floor) (t : ℕ) (was : List ℕ) (e : Entry) where
  -- a cancel, by what its lookup says
  pub by_found_lem : (x y : Result ℕ Lost) → x ≡ found f.book f.number t e.number → x ≡ y → by_found f was e y ≡ cancels f t was e
  unfolding cancels
  by_found_lem x y is known = rw (← known, is)

  pub cancelled_is :
      (x : Result ℕ Lost) (row : ℕ) (b : Book) → x ≡ found f.book f.number t e.number → x ≡ Ok row → b ≡ freed f.book row →
      record { book = b; tallies = f.tallies; came = came.Cancelled e.number; records = was } ≡ cancels f t was e
  cancelled_is x row b is known g = rw g (by_found_lem x (Ok row) is known)

  pub rested_is :
      (b : Book) → b ≡ rested f.book e.side e.price.0 e.size.0 t f.number →
      record { book = b; tallies = f.tallies; came = came.Accepted f.number (contracts 0) 1 0; records = was } ≡ rests f t was e
  unfolding rests
  rested_is b g = rw g

  pub can_order : CanDeal f t e was → (e.kind ≡ 3 → ⊥) → CanOrder f t e was
  can_order can g = record {
    ready = can.ready;
    new = new_unless_cancel e can.formed (ne_eqb e.kind 3 g);
    tenant = can.tenant;
    records_long = can.records_long;
  }

  pub by_cancel : e.kind ≡ 3 → cancels f t was e ≡ dealt f t was e
  unfolding dealt pick
  by_cancel g = rw (eq-eqb e.kind 3 g)

  pub by_order : (e.kind ≡ 3 → ⊥) → ordered f t was e ≡ dealt f t was e
  unfolding dealt pick
  by_order g = rw (ne_eqb e.kind 3 g)

-- Whatever holds in each case of an entry holds of it; said of what it makes of any fill records lent.
module _ (f : Floor) (t : ℕ) (e : Entry) (P : (List ℕ → Made) → Type 0)
    (down : (code : ℕ) → P (λ was. turned_down f was code)) (cancel : (row : ℕ) → P (λ was. cancelled f was e row))
    (rest : (j : Entry) → P (λ was. rests f t was j)) (trade : (j : Entry) (bound : Cents) → P (λ was. trades f t j bound was)) where
  pub dealt_by : P (λ was. dealt f t was e)
  unfolding dealt cancels ordered pick
  dealt_by = go (is_cancel e) (found f.book f.number t e.number) (verdict e (quotes_on f) f.series.terms (standing_on f t))
    where
      go : (a : Bool) (x : Result ℕ Lost) (v : Judged) → P (λ was. pick a (by_found f was e x) (by_verdict f t was v))
      go true (Ok row) v = cancel row
      go true (Err GivenOut) v = down 18
      go true (Err NeverGiven) v = down 22
      go false x (TurnedDown code) = down code
      go false x (Rests j) = rest j
      go false x (Trades j bound) = trade j bound
