-- What flat numbers the records were written over makes no difference to the row of fills.
use Rattle.std.specs.Prelude.{Option, Some, None, ◌≡◌, refl, Bool, true, false, List, ℕ, ◌+◌, ◌*◌, ◌<◌, length}
use Rattle.std.proofs.Common.{sym, ap, ◌∙◌, add-zero, arith}
use Rattle.units.specs.Units.{cents, contracts}
use Rattle.units.specs.Tests.{pick}
use Rattle.units.specs.Places.{at}
use Rattle.book.specs.declared.Fill.{Fill}
use Rattle.book.specs.Allocation.{Resting}
use Rattle.book.specs.Fills.{fill_at, stored}
use Rattle.book.specs.FillsLaws.{stored_same}
use Rattle.book.specs.Records.{records, written, fields}
use Rattle.book.specs.RecordSums.{written_at}
use Rattle.book.specs.Trading.{trade_records, trade_written}
use Rattle.opening.specs.Opening.{opening_records, opening_written}
use Rattle.entry.specs.declared.Entry.{Entry}
use Rattle.dealing.specs.Floor.{Floor}
use Rattle.dealing.specs.Deal.{rests, trades, dealt}
use Rattle.dealing.specs.DealLaws.{dealt_by}
use Rattle.lanes.specs.Rotation.{served}
use Rattle.session.specs.Market.{Market, Done, floor_on}
use Rattle.session.specs.Turn.{turn_of, turn_of_lane, once_taken, head_entry, turn_made, fills_in}
use Rattle.session.specs.Open.{open_quiet, open_at, open_of, fills_in as fills_opened}
use Rattle.fills.specs.Calls.{in_row, blank, turn_with, open_with}

-- a record that is written is the same over any numbers
written_same : (r : Resting) (owner price : ℕ → ℕ) (was was' : List ℕ) (k : ℕ) → k < records r
    → fill_at (written r owner price was) k ≡ fill_at (written r owner price was') k
written_same r owner price was was' k l =
    let number = rw (add-zero (fields * k)) at (field 0 (omega arith)) in
    λ i. record {
      number = number i;
      tenant = field 1 (omega arith) i;
      quantity = contracts (field 2 (omega arith) i);
      price = cents (field 3 (omega arith) i);
    }
  where
    field : (f : ℕ) → f < fields → at (written r owner price was) (fields * k + f) ≡ at (written r owner price was') (fields * k + f)
    field f h = written_at r owner price was k f l h ∙ sym (written_at r owner price was' k f l h)

-- what relates both pairs relates the pair picked
pairs : {A : Type 0} (P : A → A → Type 0) (t : Bool) {x y x' y' : A} → P x x' → P y y' → P (pick t x y) (pick t x' y')
unfolding pick
pairs P true p q = p
pairs P false p q = q

-- two calls alike but for numbers past the records that they wrote
pub record Alike {A : Type 0} (count : A → ℕ) (d d' : Done A) : Type 0 where
  pub market : d.market ≡ d'.market
  pub answer : d.answer ≡ d'.answer
  pub records : (k : ℕ) → k < count d.answer → fill_at d.records k ≡ fill_at d'.records k

-- where nothing was written they are alike
none_written : {A : Type 0} (count : A → ℕ) (m : Market) (a : A) (rs rs' : List ℕ) → count a ≡ 0
    → Alike count (record { market = m; answer = a; records = rs }) (record { market = m; answer = a; records = rs' })
none_written count m a rs rs' none = record { market = refl; answer = refl; records = λ k l. absurd (omega arith) }

-- and make the same of a row of fills
same_row : {A : Type 0} (count : A → ℕ) (d d' : Done A) (row : List Fill) → Alike count d d' → in_row count d row ≡ in_row count d' row
same_row {A} count d d' row same = λ i. record { market = same.market i; answer = same.answer i; fills = fills i }
  where
    fills : stored d.records (count d.answer) row ≡ stored d'.records (count d'.answer) row
    fills =
        stored_same d.records d'.records (count d.answer) row same.records
        ∙ ap (λ (a : A). stored d'.records (count a) row) same.answer

module _ (was was' : List ℕ) where
  entry_alike : (m : Market) (f : Floor) (t : ℕ) (e : Entry) → Alike fills_in (turn_made m t (dealt f t was e)) (turn_made m t (dealt f t was' e))
  unfolding rests trades trade_records trade_written
  entry_alike m f t e = dealt_by f t e (λ d. Alike fills_in (turn_made m t (d was)) (turn_made m t (d was')))
      (λ code. none_written fills_in _ _ was was' refl)
      (λ row. none_written fills_in _ _ was was' refl)
      (λ o. none_written fills_in _ _ was was' refl)
      (λ o bound. record { market = refl; answer = refl; records = λ k l. written_same _ _ _ was was' k l })

  lane_alike : (m : Market) (l : Option ℕ) → Alike fills_in (turn_of_lane m was l) (turn_of_lane m was' l)
  lane_alike m (Some t) = entry_alike (once_taken m t) (floor_on (once_taken m t).session m.book) t (head_entry m t)
  lane_alike m None = none_written fills_in _ _ was was' refl

  turn_alike : (m : Market) (lent : ℕ) → Alike fills_in (turn_of m lent was) (turn_of m lent was')
  unfolding turn_of
  turn_alike m lent = pairs (Alike fills_in) _ (none_written fills_in _ _ was was' refl) (lane_alike m (served m.session.lanes))

  open_alike : (m : Market) (lent : ℕ) → Alike fills_opened (open_of m lent was) (open_of m lent was')
  unfolding open_of open_at open_quiet opening_records opening_written
  open_alike m lent =
      pairs (Alike fills_opened) _ (none_written fills_opened _ _ was was' refl)
      (pairs (Alike fills_opened) _ (record { market = refl; answer = refl; records = λ k l. written_same _ _ _ was was' k l })
      (none_written fills_opened _ _ was was' refl))

-- the call with a row of fills is that of the rules over any flat numbers
pub turn_over : (m : Market) (row : List Fill) (was : List ℕ) → turn_with m row ≡ in_row fills_in (turn_of m (length row) was) row
turn_over m row was = same_row fills_in _ _ row (turn_alike blank was m (length row))

pub open_over : (m : Market) (row : List Fill) (was : List ℕ) → open_with m row ≡ in_row fills_opened (open_of m (length row) was) row
open_over m row was = same_row fills_opened _ _ row (open_alike blank was m (length row))
