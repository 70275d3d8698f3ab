-- What one byte leaves in lent memory: nothing, or the bytes of the event that it ends.
use Prim.{tt}
use Rattle.std.specs.Prelude.{◌≡◌, Ok, Err, Bool, List, ℕ, ◌+◌, ◌-◌, ◌≤◌, ◌<◌, length, take, set}
use Rattle.std.proofs.Math.Path.{refl, ap}
use Rattle.std.proofs.Math.Bool.{true, false}
use Rattle.std.proofs.Common.{arith}
use borrow.Author.Tests.{lt-ltb, eq-eqb, ne_eqb}
use borrow.Rule.Slice.PartMut.{mid_of, put_mid, mid_len, put_same}
use Rattle.std.proofs.Math.ListN.{length-set}
use Rattle.units.specs.Tests.{pick}
use Rattle.tape.specs.Leads.{encode_all}
use Rattle.writer.specs.declared.Refusal.{Refusal}
use Rattle.writer.specs.Refusal.{refusal_number}
use Rattle.writer.specs.Write.{Written, write_refusal, written_of, buffer_after}
use Rattle.writer.specs.WriteLaws.{accepted, part_laid, used_says, refused_says}
use Rattle.figures.specs.declared.Place.{Place}
use Rattle.figures.specs.declared.reading.Taken.{Taken}
use Rattle.figures.specs.Figures.{space, newline}
use Rattle.figures.specs.Reading.{Moved, goes_to, refused_at, line_start, digit_of, ended_place, can_end, end_of, numbers_after, silent, reader_of, writing, line_end, byte_of}
use Rattle.figures.specs.ReadingLaws.{can_fits}
use Rattle.figures.specs.Inscribing.{Keeps, CanTake, TakesTo}

-- nothing is written
pub takes_silent : (numbers out : List ℕ) (at : ℕ) (m : Moved) {r : Taken} → Keeps m at r → TakesTo (silent numbers m) out at r numbers out
takes_silent numbers out at m k = record { place = k.place; numbers_are = refl; laid = refl; end = omega (arith, k.same); code = k.code }

module _ (p : Place) (numbers out : List ℕ) (at : ℕ) (can : CanTake p out at) where
  -- the numbers of the line, and the memory behind the place
  abbrev vs : List ℕ
  vs = take p.count numbers

  abbrev behind : List ℕ
  behind = mid_of at (length out - at) out

  behind_long : length behind ≡ length out - at
  behind_long = mid_len at (length out) out (omega arith)

  module _ {r : Written} {lent : List ℕ} (is : r ≡ written_of vs (length behind)) (left : lent ≡ buffer_after vs behind) where
    pub event_fits : {n : ℕ} → r ≡ Ok n → at + n ≤ length out
    event_fits e =
        let u = used_says vs (length behind) is e in
        omega (arith, u.1, (accepted vs (length behind) u.0).1, behind_long, can.room)

    pub event_written :
        {n : ℕ} → r ≡ Ok n →
        TakesTo (writing (length out - at) (reader_of p numbers)) out at (record { place = line_start (p.line + 1); at = at + n; told = Ok (tt {0}) }) numbers (put_mid at (length out - at) out lent)
    unfolding writing buffer_after pick
    event_written {n} e =
        let u = used_says vs (length behind) is e in
        let none : write_refusal vs (length out - at) ≡ 0 = rw behind_long at u.0 in
        rw (left, u.0, none) record {
          place = refl;
          numbers_are = refl;
          laid = part_laid (encode_all vs) out at (omega (arith, u.1, event_fits e));
          end = ap (λ (k : ℕ). at + k) u.1;
          code = refl;
        }

    pub event_refused :
        {why : Refusal} → r ≡ Err why →
        TakesTo (writing (length out - at) (reader_of p numbers)) out at (record { place = p; at = at; told = Err why }) numbers (put_mid at (length out - at) out lent)
    unfolding writing buffer_after pick
    event_refused {why} e =
        let u = refused_says vs (length behind) is e in
        let some : write_refusal vs (length out - at) ≡ refusal_number why = rw behind_long at u.0 in
        rw (left, u.0, lt-ltb 0 (refusal_number why) u.1, some, ne_eqb (refusal_number why) 0 (λ z. omega (arith, u.1)), put_same at (length out - at) out) record {
          place = refl;
          numbers_are = refl;
          laid = refl;
          end = omega arith;
          code = refl;
        }

-- the end of a line: what the end of its last number says
module _ (p : Place) (numbers out : List ℕ) (at : ℕ) {m : Moved} {next : List ℕ} (is : m ≡ end_of p (length numbers)) (left : next ≡ numbers_after p numbers) where
  cannot_end : 0 < m.code → can_end p (length numbers) ≡ false
  unfolding end_of pick
  cannot_end h = go (can_end p (length numbers)) refl (ap (λ (m : Moved). m.code) is)
    where
      go : (t : Bool) → can_end p (length numbers) ≡ t → m.code ≡ (pick t (goes_to (ended_place p)) (refused_at p)).code → t ≡ false
      go true t e = absurd (omega arith)
      go false t e = refl

  pub line_refused : {r : Taken} (room : ℕ) → 0 < m.code → Keeps m at r → TakesTo (line_end room (reader_of p numbers)) out at r next out
  unfolding line_end numbers_after end_of pick
  line_refused room h k = let no = cannot_end h in rw (left, no) (takes_silent numbers out at (refused_at p) (rw (is, no) at k))

  module _ (on : m.code ≤ 0) where
    can_end_lem : can_end p (length numbers) ≡ true
    unfolding end_of pick
    can_end_lem = go (can_end p (length numbers)) refl (ap (λ (m : Moved). m.code) is)
      where
        go : (t : Bool) → can_end p (length numbers) ≡ t → m.code ≡ (pick t (goes_to (ended_place p)) (refused_at p)).code → t ≡ true
        go true t e = refl
        go false t e = absurd (omega arith)

    pub line_asks : CanTake p out at → CanTake m.place out at × (m.place.count ≤ length next)
    unfolding end_of numbers_after pick
    line_asks can = rw (is, left, can_end_lem)
        (record { line_fits = can.line_fits; room = can.room }, omega (arith, length-set numbers p.count p.value, can_fits p (length numbers) can_end_lem))

    -- where the last number has ended
    is_ended : reader_of m.place next ≡ record { place = ended_place p; numbers = set numbers p.count p.value }
    unfolding end_of numbers_after pick
    is_ended = rw (is, left, can_end_lem)

    pub line_written :
        {r : Taken} {lent : List ℕ} (room : ℕ) → TakesTo (writing room (reader_of m.place next)) out at r next lent →
        TakesTo (line_end room (reader_of p numbers)) out at r next lent
    unfolding line_end pick
    line_written room t = rw can_end_lem (rw is_ended at t)

-- a byte by what it is
module _ (b room : ℕ) (p : Place) (numbers out : List ℕ) (at : ℕ) where
  pub takes_newline :
      {r : Taken} {next lent : List ℕ} → b ≡ newline → TakesTo (line_end room (reader_of p numbers)) out at r next lent →
      TakesTo (byte_of b room (reader_of p numbers)) out at r next lent
  unfolding byte_of pick
  takes_newline is t = rw is t

  module _ (no_newline : b ≡ newline → ⊥) where
    pub takes_space :
        {m : Moved} {r : Taken} {next : List ℕ} → b ≡ space → m ≡ end_of p (length numbers) → next ≡ numbers_after p numbers → Keeps m at r →
        TakesTo (byte_of b room (reader_of p numbers)) out at r next out
    unfolding byte_of pick
    takes_space is e left kept = rw (ne_eqb b newline no_newline, eq-eqb b space is, left) (takes_silent (numbers_after p numbers) out at (end_of p (length numbers)) (rw e at kept))

    pub takes_digit :
        {m : Moved} {r : Taken} → (b ≡ space → ⊥) → m ≡ digit_of b p → Keeps m at r →
        TakesTo (byte_of b room (reader_of p numbers)) out at r numbers out
    unfolding byte_of pick
    takes_digit no_space e kept = rw (ne_eqb b newline no_newline, ne_eqb b space no_space) (takes_silent numbers out at (digit_of b p) (rw e at kept))
