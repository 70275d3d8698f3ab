-- What one step of sending leaves, and steps behind one another.
use Rattle.std.specs.Prelude.{◌≡◌, refl, true, false, Ok, Err, IsOk, is_err, ℕ, ◌+◌, ◌-◌, ◌≤◌, ◌<◌, length}
use Prim.{tt}
use Rattle.std.proofs.Common.{sym, ◌∙◌, true≢false}
use Rattle.std.proofs.Math.Path.{ap}
use mathlib.Core.List.{List, [], ◌∷◌, ◌++◌, append_assoc, append-nil}
use native.Mathlib.Omega.{arith}
use borrow.Rule.Slice.PartMut.{mid_of, put_mid, mid_len}
use Rattle.std.proofs.Math.Seq.{drop-length}
use Rattle.units.specs.Tests.{◌and◌, pick_no}
use Rattle.entry.specs.Numbers.{from1to}
use Rattle.tape.specs.Leads.{encode_all}
use Rattle.tape.specs.Depth.{most_bytes}
use Rattle.tape.specs.Spelling.{spells_submit}
use Rattle.writer.specs.Write.{Written, write_refusal, written_of, buffer_after}
use Rattle.writer.specs.WriteLaws.{event_says, accepted, never_short, part_laid, used_says, refused_says}
use Rattle.writer.specs.Tapes.{IsEvent, tape_of}
use Rattle.window.specs.Refusal.{Lays}
use Rattle.window.specs.RefusalLaws.{lays_long, lays_then}
use Rattle.sheet.specs.declared.Order.{Order}
use Rattle.sheet.specs.declared.Place.{Place}
use Rattle.sheet.specs.declared.Refused.{Refused}
use Rattle.sheet.specs.Line.{refusal_number}
use Rattle.sheet.specs.Stepped as step
use Rattle.sheet.specs.Sheet.{told}
use Rattle.sheet.specs.Reading.{begun_of, CanStep}
use Rattle.sheet.specs.Submits.{six_numbers, submit_of}
use Rattle.sheet.specs.Parts.{Reader, steps, kept}
use Rattle.sheet.specs.PartsLaws.{kept_long, more_line, more_good, more_left, order_line, order_onward, order_good, order_left, refused_left}
use Rattle.writer.specs.declared.Refusal.{Refusal}
use Rattle.submits.specs.declared.Sent.{Sent}
use Rattle.submits.specs.Sending.{sent_of, reader_of, CanSend, Sends, SendsLine, CanSendAll, SendsAll}

-- the submit of an order is one event
pub submit_event : (o : Order) → IsEvent (submit_of o)
unfolding from1to ◌and◌
submit_event o = (_, spells_submit o.tenant 1 (six_numbers o) refl refl)

submit_short : (o : Order) → length (encode_all (submit_of o)) ≤ most_bytes
submit_short o = (accepted (submit_of o) most_bytes (never_short (submit_of o) most_bytes (omega arith) ((event_says (submit_of o)).1 (submit_event o)))).1

-- with room for the longest event it is written
module _ (o : Order) (out : List ℕ) (at : ℕ) (room : at + most_bytes ≤ length out) {r : Written} {lent : List ℕ}
    (is : r ≡ written_of (submit_of o) (length (mid_of at (length out - at) out))) (laid : lent ≡ buffer_after (submit_of o) (mid_of at (length out - at) out)) where
  abbrev behind : List ℕ
  behind = mid_of at (length out - at) out

  behind_long : length behind ≡ length out - at
  behind_long = mid_len at (length out) out (omega arith)

  taken : write_refusal (submit_of o) (length behind) ≡ 0
  taken = never_short (submit_of o) (length behind) (omega (arith, behind_long)) ((event_says (submit_of o)).1 (submit_event o))

  pub put_fits : {n : ℕ} → r ≡ Ok n → at + n ≤ length out
  put_fits e = omega (arith, (used_says (submit_of o) (length behind) is e).1, (accepted (submit_of o) (length behind) taken).1, behind_long)

  pub put_lays : {n : ℕ} → r ≡ Ok n → Lays out at (encode_all (submit_of o)) (at + n) (put_mid at (length out - at) out lent)
  unfolding buffer_after
  put_lays {n} e =
      let u = used_says (submit_of o) (length behind) is e in
      record {
        laid = rw (laid, taken, pick_no _ _ refl) (part_laid (encode_all (submit_of o)) out at (omega (arith, u.1, put_fits e)));
        after = omega (arith, u.1);
      }

  pub put_refused : {why : Refusal} → r ≡ Err why → ⊥
  put_refused e = let u = refused_says (submit_of o) (length behind) is e in omega (arith, taken, u.0, u.1)

  pub put_taken : IsOk r
  put_taken = go r refl
    where
      go : (x : Written) → r ≡ x → IsOk x
      go (Ok n) e = refl
      go (Err why) e = absurd (put_refused e)

-- nothing is written
lays_none : (out : List ℕ) (at : ℕ) → Lays out at [] at out
lays_none out at = record { laid = refl; after = omega arith }

-- the submits of orders behind those of others
pub sent_behind : (os ps : List Order) → sent_of (os ++ ps) ≡ sent_of os ++ sent_of ps
unfolding tape_of
sent_behind [] ps = refl
sent_behind (o ∷ os) ps = ap (λ (l : List ℕ). encode_all (submit_of o) ++ l) (sent_behind os ps) ∙ sym (append_assoc (encode_all (submit_of o)) (sent_of os) (sent_of ps))

module _ (bytes : List ℕ) (from : ℕ) (p : Place) (held out : List ℕ) (at : ℕ) where
  abbrev here : Reader
  here = reader_of bytes from p held

  pub asks_step : CanSend bytes from p held out at → CanStep p held
  asks_step can = record { few = can.good.few; room = can.good.room; line_fits = can.line_fits }

  module _ (can : CanSend bytes from p held out at) where
    long : length (kept here) ≡ length held
    long = kept_long here can.good

    -- the line goes on with the next part
    pub sends_more : {next : Place} → steps here ≡ step.More next →
        SendsLine bytes from p held out at (record { place = next; from = length bytes; at = at; told = Ok (tt {0}) }) (kept here) out
    unfolding tape_of
    sends_more {next} e =
        let good = more_good here can.good e bytes in
        record {
          sends = record {
            orders = [];
            laid = lays_none out at;
            goes_on = λ _ rest. more_left here can.good e rest ∙ ap (λ (l : List ℕ). told next.line (begun_of next (kept here)) (l ++ rest)) (sym (drop-length bytes));
            stops = λ h. absurd (true≢false (sym h));
            good = record { few = good.few; room = good.room; begun = omega arith };
            kept_long = long;
            onward = can.good.begun;
            few_lines = omega (arith, more_line here can.good e);
            fits = omega (arith, can.room);
          };
          moves = λ _ h. h;
        }

    -- a newline ends it, and its order is sent
    pub sends_order :
        {o : Order} {end after : ℕ} {next : Place} {lent : List ℕ} → steps here ≡ step.Order o end next → Lays out at (encode_all (submit_of o)) after lent →
        SendsLine bytes from p held out at (record { place = next; from = end; at = after; told = Ok (tt {0}) }) (kept here) lent
    unfolding tape_of
    sends_order {o} e l =
        let on = order_onward here can.good e in
        record {
          sends = record {
            orders = o ∷ [];
            laid = rw (append-nil (encode_all (submit_of o))) l;
            goes_on = λ _ rest. order_left here can.good e rest;
            stops = λ h. absurd (true≢false (sym h));
            good = order_good here can.good e;
            kept_long = long;
            onward = omega (arith, on);
            few_lines = omega (arith, on, order_line here can.good e);
            fits = omega (arith, can.room, l.after, submit_short o);
          };
          moves = λ _ h. on.0;
        }

    -- the sheet is refused
    pub sends_refused : {r : Refused} → steps here ≡ step.Refused (refusal_number r.why) r.line →
        SendsLine bytes from p held out at (record { place = p; from = from; at = at; told = Err r }) (kept here) out
    unfolding tape_of
    sends_refused e =
        record {
          sends = record {
            orders = [];
            laid = lays_none out at;
            goes_on = λ none. absurd (true≢false none);
            stops = λ _ rest. refused_left here can.good e rest;
            good = record { few = can.good.few; room = omega (arith, long, can.good.room); begun = can.good.begun };
            kept_long = long;
            onward = omega arith;
            few_lines = omega arith;
            fits = omega (arith, can.room);
          };
          moves = λ none. absurd (true≢false none);
        }

-- sending goes on behind sending
module _ {bytes : List ℕ} {from : ℕ} {p : Place} {held out : List ℕ} {at : ℕ} {first : Sent} {kept lent : List ℕ} (f : Sends bytes from p held out at first kept lent) where
  pub sends_long : length lent ≡ length out
  sends_long = lays_long f.laid

  pub sends_then : is_err first.told ≡ false → {next : Sent} {kept' lent' : List ℕ} → Sends bytes first.from first.place kept lent first.at next kept' lent' →
      Sends bytes from p held out at next kept' lent'
  sends_then none g = record {
    orders = f.orders ++ g.orders;
    laid = rw (sent_behind f.orders g.orders) (lays_then f.laid g.laid);
    goes_on = λ h rest. f.goes_on none rest ∙ rw (g.goes_on h rest, append_assoc f.orders g.orders _);
    stops = λ h rest. f.goes_on none rest ∙ rw (g.stops h rest);
    good = g.good;
    kept_long = g.kept_long ∙ f.kept_long;
    onward = omega (arith, f.onward, g.onward);
    few_lines = omega (arith, f.few_lines, g.few_lines, f.onward, g.onward);
    fits = omega (arith, g.fits, sends_long);
  }

-- the loop over the bytes at hand: what it has sent, no line being refused
pub record Sending (bytes : List ℕ) (from : ℕ) (p : Place) (held out : List ℕ) (at : ℕ) (sent : Sent) (kept lent : List ℕ) : Type 0 where
  pub can : CanSendAll bytes from p held out at
  pub sends : Sends bytes from p held out at sent kept lent
  pub none : is_err sent.told ≡ false

module _ (bytes : List ℕ) (from : ℕ) (p : Place) (held out : List ℕ) (at : ℕ) where
  pub sending_starts : CanSendAll bytes from p held out at → Sending bytes from p held out at (record { place = p; from = from; at = at; told = Ok (tt {0}) }) held out
  unfolding tape_of
  sending_starts can = record {
    can = can;
    sends = record {
      orders = [];
      laid = lays_none out at;
      goes_on = λ _ rest. refl;
      stops = λ h. absurd (true≢false (sym h));
      good = can.good;
      kept_long = refl;
      onward = omega arith;
      few_lines = omega arith;
      fits = can.room;
    };
    none = refl;
  }

module _ {bytes : List ℕ} {from : ℕ} {p : Place} {held out : List ℕ} {at : ℕ} {sent : Sent} {kept lent : List ℕ} (g : Sending bytes from p held out at sent kept lent) where
  pub sending_room : sent.at ≤ length lent
  sending_room = omega (arith, g.sends.fits, sends_long g.sends)

  -- no room for the longest event
  pub sending_full : length lent - sent.at < most_bytes → SendsAll bytes from p held out at sent kept lent
  sending_full h = record { sends = g.sends; all = λ _ room. absurd (omega (arith, sends_long g.sends)) }

  -- or all bytes used
  pub sending_ends : length bytes ≤ sent.from → SendsAll bytes from p held out at sent kept lent
  sending_ends h = record { sends = g.sends; all = λ _ _. omega (arith, g.sends.good.begun) }

  module _ (h : sent.from < length bytes) (room : most_bytes ≤ length lent - sent.at) where
    pub sending_asks : CanSend bytes sent.from sent.place kept lent sent.at
    sending_asks = record {
      good = g.sends.good;
      line_fits = omega (arith, g.sends.few_lines, g.can.lines_fit);
      room = omega (arith, sending_room);
    }

    module _ {next : Sent} {kept' lent' : List ℕ} (l : SendsLine bytes sent.from sent.place kept lent sent.at next kept' lent') where
      pub sending_stops : is_err next.told ≡ true → SendsAll bytes from p held out at next kept' lent'
      sending_stops stop = record { sends = sends_then g.sends g.none l.sends; all = λ none. absurd (true≢false (sym stop ∙ none)) }

      pub sending_goes_on : is_err next.told ≡ false → Sending bytes from p held out at next kept' lent'
      sending_goes_on on = record { can = g.can; sends = sends_then g.sends g.none l.sends; none = on }

      pub sending_less : is_err next.told ≡ false → length bytes - next.from < length bytes - sent.from
      sending_less on = omega (arith, l.moves on h)

      pub sending_long : (length kept' ≡ length held) × (length lent' ≡ length out)
      sending_long = (l.sends.kept_long ∙ g.sends.kept_long, sends_long l.sends ∙ sends_long g.sends)
