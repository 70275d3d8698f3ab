-- The turns of the program's loop.
use Rattle.std.specs.Prelude.{◌≡◌, refl, Bool, true, false, Result, Ok, Err, is_ok, is_err, ℕ, ◌+◌, ◌*◌, ◌-◌, ◌≤◌, ◌<◌, length, take, drop, replicate}
use Rattle.std.proofs.Common.{sym, ap, ◌∙◌, arith, drop_of_length-le, length-take-le}
use mathlib.Core.List.{List, [], ◌∷◌, ◌++◌, append_assoc, append-nil, flatten}
use Rattle.std.proofs.lemmas.List.{length-replicate}
use Rattle.units.specs.Places.{sets_behind}
use Rattle.tape.specs.Depth.{most_bytes}
use Rattle.writer.specs.Tapes.{tape_of}
use Rattle.window.specs.declared.Filled.{Filled}
use Rattle.window.specs.Window.{window_long, Refilled}
use Rattle.window.specs.WindowLaws.{read_behind}
use Rattle.window.specs.Program.{going, refused, Stopped, status_of, stops_status}
use Rattle.sheet.specs.declared.Order.{Order}
use Rattle.sheet.specs.declared.Place.{Place}
use Rattle.sheet.specs.declared.Refused.{Refused}
use Rattle.sheet.specs.Sheet.{line_most, nothing_but, all_before, told, told_of}
use Rattle.sheet.specs.Reading.{finished_of, line_start, begun_of, finish_of}
use Rattle.sheet.specs.Parts.{finished}
use Rattle.sheet.specs.PartsLaws.{finish_told}
use Rattle.submits.specs.declared.Sent.{Sent}
use Rattle.submits.specs.Sending.{sent_of, ending_of, CanSendAll, SendsAll}
use Rattle.submits.specs.SendingLaws.{sent_behind, sends_long}
use Rattle.submits.specs.Submitting.{output_long, CameTo, CameToStop, farthest, Submitting}

flatten_behind : (read : List (List ℕ)) (part : List ℕ) → flatten (read ++ (part ∷ [])) ≡ flatten read ++ part
unfolding flatten
flatten_behind [] part = append-nil part
flatten_behind (x ∷ read) part = ap (λ (l : List ℕ). x ++ l) (flatten_behind read part) ∙ sym (append_assoc x (flatten read) part)

-- how a sheet finishes
finish_ending : (how : Result (Unit {0}) Refused) → finished (finished_of how) ≡ nothing_but (ending_of how)
finish_ending (Ok _) = refl
finish_ending (Err r) = refl

-- a refusal is told as one
tells_refusal : (how : Result (Unit {0}) Refused) → is_err how ≡ true → refused ≡ status_of (is_ok how)
unfolding status_of
tells_refusal (Ok _) e = cc
tells_refusal (Err r) e = refl

pub submitting_starts :
    {p : Place} {window out : List ℕ} {how : Result (Unit {0}) Refused} {turns : ℕ} → p ≡ line_start 1 → length window ≡ window_long → length out ≡ output_long → 1 + window_long * turns ≤ farthest →
    Submitting p (replicate line_most 0) window out 0 0 0 true how going turns
unfolding told_of flatten tape_of
submitting_starts {p} {window} {out} e long out_long few = record {
  held_long = length-replicate {A = ℕ} line_most 0;
  few = omega (arith, ap (λ (p : Place). p.held) e);
  window_long_lem = long;
  out_long = out_long;
  written = omega arith;
  begun = omega arith;
  within = omega arith;
  bounded = omega (arith, ap (λ (p : Place). p.line) e);
  came = λ _. record { read = []; written = []; orders = []; tape = refl; tells = λ rest. rw e };
  stopped = λ stop. absurd (omega arith);
  ended_by = λ stop. absurd (omega arith);
}

module _ {p : Place} {held window out : List ℕ} {at from to : ℕ} {more : Bool} {how : Result (Unit {0}) Refused} {status turns : ℕ} (w : Submitting p held window out at from to more how status turns) where
  -- the bytes at hand
  pub at_hand : length (take to window) ≡ to
  at_hand = length-take-le to window (omega (arith, w.within, w.window_long_lem))

  pub can_send : CanSendAll (take to window) from p held out at
  can_send = record {
    good = record { few = w.few; room = omega (arith, w.held_long); begun = omega (arith, at_hand, w.begun) };
    lines_fit = omega (arith, at_hand, w.bounded, w.within);
    room = omega (arith, w.written, w.out_long);
  }

  module _ {d : Sent} {kept lent : List ℕ} (s : SendsAll (take to window) from p held out at d kept lent) where
    pub lent_long : length lent ≡ output_long
    lent_long = sends_long s.sends ∙ w.out_long

    pub fits_output : d.at ≤ length lent
    fits_output = omega (arith, s.sends.fits, lent_long, w.out_long)

    on_hand : d.from ≤ to
    on_hand = omega (arith, s.sends.good.begun, at_hand)

    few_lines : d.place.line ≤ p.line + to
    few_lines = omega (arith, s.sends.few_lines, on_hand)

    pub fits_window : (d.from ≤ to) × ((to ≤ length window) × (0 + d.from < 18446744073709551616))
    fits_window = (on_hand, (omega (arith, w.within, w.window_long_lem), omega (arith, w.within, on_hand)))

    -- what is written
    tape_then : (written : List ℕ) (orders : List Order) → written ++ take at out ≡ sent_of orders → written ++ take d.at lent ≡ sent_of (orders ++ s.sends.orders)
    tape_then written orders e =
        let os : List Order = s.sends.orders in
        let l = s.sends.laid in
        let front : take d.at lent ≡ take at out ++ sent_of os
        = rw (l.after, l.laid) (sets_behind (sent_of os) out at (omega (arith, l.after, s.sends.fits))) in
        ap (λ (x : List ℕ). written ++ x) front ∙ sym (append_assoc written (take at out) (sent_of os)) ∙ rw (e, sent_behind orders os)

    -- a turn that goes on, having sent what it could
    module _ (none : is_err d.told ≡ false) (goes : status ≡ going) where
      sent_on : CameTo d.place kept window lent d.at d.from to
      sent_on =
          let c = w.came goes in
          record {
            read = c.read;
            written = c.written;
            orders = c.orders ++ s.sends.orders;
            tape = tape_then c.written c.orders c.tape;
            tells = λ rest. c.tells rest ∙ rw (s.sends.goes_on none rest, append_assoc c.orders s.sends.orders _);
          }

    -- how the loop stands after a turn, by what it has come to
    stands : {next : List ℕ} {now first last : ℕ} {goes_on : Bool} {how : Result (Unit {0}) Refused} {told : ℕ} → 0 < turns → length next ≡ window_long → now ≤ output_long → first ≤ last → last ≤ window_long →
        (told ≡ going → CameTo d.place kept next lent now first last) → (Stopped told → CameToStop lent now goes_on how) →
        (Stopped told → told ≡ status_of (is_ok how)) → Submitting d.place kept next lent now first last goes_on how told (turns - 1)
    stands h long fits begun within came stopped ended_by = record {
      held_long = s.sends.kept_long ∙ w.held_long;
      few = s.sends.good.few;
      window_long_lem = long;
      out_long = lent_long;
      written = fits;
      begun = begun;
      within = within;
      bounded = omega (arith, w.bounded, few_lines, w.within);
      came = came;
      stopped = stopped;
      ended_by = ended_by;
    }

    -- the sheet is refused
    pub turn_refused : 0 < turns → status ≡ going → is_err d.told ≡ true →
        Submitting d.place kept window lent d.at d.from to more d.told refused (turns - 1)
    turn_refused h goes stop =
        let c = w.came goes in
        stands h w.window_long_lem (omega (arith, fits_output, lent_long)) on_hand w.within
        (λ on. absurd (omega arith))
        (λ _. record {
          read = c.read;
          written = c.written;
          orders = c.orders ++ s.sends.orders;
          tape = tape_then c.written c.orders c.tape;
          tells = λ rest _. c.tells rest ∙ rw (s.sends.stops stop rest);
        })
        (λ _. tells_refusal d.told stop)

    module _ (h : 0 < turns) (goes : status ≡ going) (none : is_err d.told ≡ false) where
      -- what is written is written out
      pub turn_writes : {told : ℕ} → (Stopped told → ⊥) → Submitting d.place kept window lent 0 d.from to more d.told told (turns - 1)
      turn_writes not =
          let c = sent_on none goes in
          stands h w.window_long_lem (omega arith) on_hand w.within
          (λ _. record { read = c.read; written = c.written ++ take d.at lent; orders = c.orders; tape = append-nil (c.written ++ take d.at lent) ∙ c.tape; tells = c.tells })
          (λ stop. absurd (not stop))
          (λ stop. absurd (not stop))

      -- the sheet is read on
      pub turn_reads : {next : List ℕ} {f : Filled} → Refilled window d.from to 0 next f → {told : ℕ} → (Stopped told → ⊥) →
          Submitting d.place kept next lent d.at 0 f.to f.more d.told told (turns - 1)
      turn_reads {next} {f} g not =
          let c = sent_on none goes in
          let part : List ℕ = drop (to - d.from) (take f.to next) in
          let hand : take f.to next ≡ drop d.from (take to window) ++ part = read_behind on_hand (omega (arith, w.within, w.window_long_lem)) g in
          stands h (g.long ∙ w.window_long_lem) (omega (arith, fits_output, lent_long)) (omega arith) (omega (arith, g.most, g.long, w.window_long_lem))
          (λ _. record {
            read = c.read ++ (part ∷ []);
            written = c.written;
            orders = c.orders;
            tape = c.tape;
            tells = λ rest.
                rw (flatten_behind c.read part, append_assoc (flatten c.read) part rest)
                (c.tells (part ++ rest)
                ∙ ap (λ (l : List ℕ). all_before c.orders (told d.place.line (begun_of d.place kept) l))
                (sym (append_assoc (drop d.from (take to window)) part rest) ∙ ap (λ (l : List ℕ). l ++ rest) (sym hand)));
          })
          (λ stop. absurd (not stop))
          (λ stop. absurd (not stop))

      -- the sheet has come to its end
      pub turn_ends :
          most_bytes ≤ length lent - d.at → more ≡ false → {how : Result (Unit {0}) Refused} → finished_of how ≡ finish_of d.place → {told : ℕ} → told ≡ status_of (is_ok how) →
          Submitting d.place kept window lent d.at d.from to more how told (turns - 1)
      turn_ends room last {how} is e =
          let c = sent_on none goes in
          let used : d.from ≡ length (take to window) = s.all none (omega (arith, sends_long s.sends)) in
          let gone : drop d.from (take to window) ≡ [] = drop_of_length-le (take to window) {i = d.from} (omega arith) in
          let held_fits : d.place.held ≤ length kept = omega (arith, s.sends.good.few, s.sends.good.room) in
          stands h w.window_long_lem (omega (arith, fits_output, lent_long)) on_hand w.within
          (λ on. absurd (omega (arith, e, stops_status (is_ok how))))
          (λ _. record {
            read = c.read;
            written = c.written;
            orders = c.orders;
            tape = c.tape;
            tells = λ rest end.
                let nothing : rest ≡ [] = end last in
                c.tells rest ∙ rw (nothing, gone, ← finish_told d.place kept held_fits, ← is, finish_ending how, append-nil c.orders);
          })
          (λ _. e)
