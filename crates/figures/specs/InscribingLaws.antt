-- The loop over the bytes at hand: what it has written stands in the output, and what is left to be made is made of the
-- bytes that are left.
use Rattle.std.specs.Prelude.{◌≡◌, refl, Result, Ok, Err, is_err, Bool, ℕ, ◌+◌, ◌-◌, ◌≤◌, ◌<◌, get_or, drop}
use Rattle.std.proofs.Common.{sym, ◌∙◌, true≢false, add-one, arith, length-append, drop_of_length-le, drop-cons}
use Rattle.std.proofs.Math.Path.{ap}
use Rattle.std.proofs.Math.Bool.{true, false}
use mathlib.Core.List.{List, [], ◌∷◌, ◌++◌, append_assoc, append-nil}
use borrow.Author.Tests.{lt-ltb, le-ltb, eq-eqb, ne_eqb}
use Rattle.std.proofs.Math.Dec.{eqb}
use Rattle.std.proofs.Math.ListN.{length}
use Rattle.std.proofs.lemmas.List.Edits.{sets}
use Rattle.std.proofs.Math.Seq.{length-sets}
use Rattle.units.specs.Tests.{pick}
use Rattle.units.specs.Places.{sets_append}
use Rattle.tape.specs.Depth.{most_bytes}
use Rattle.figures.specs.declared.Place.{Place}
use Rattle.figures.specs.declared.reading.Taken.{Taken}
use Rattle.figures.specs.declared.Next as told
use Rattle.figures.specs.declared.Next.TheVariants as next
use Rattle.figures.specs.Next.{Stop}
use Rattle.writer.specs.declared.Refusal.{Refusal}
use Rattle.writer.specs.Refusal.{refusal_of}
use Rattle.writer.specs.WriteLaws.{of_number, some_number}
use Rattle.figures.specs.Reading.{reader_of, Step, byte_of}
use Rattle.figures.specs.Inscribing.{code_of, next_of, Inscribing, first, used_up, wrote, inscribe_on, inscribe_of, leaving, lines, CanInscribe, InscribesTo, CanTake, TakesTo}
use Rattle.figures.specs.ReadingLaws.{step_small}

-- a refusal has a number
refused_code : (told : Result (Unit {0}) Refusal) → is_err told ≡ true → 0 < code_of told
refused_code (Ok _) h = absurd (true≢false (sym h))
refused_code (Err why) h = some_number why

no_code : (told : Result (Unit {0}) Refusal) → is_err told ≡ false → code_of told ≡ 0
no_code (Ok _) h = refl
no_code (Err why) h = absurd (true≢false h)

-- and two that are told alike are the same
codes_differ : (x y : Result (Unit {0}) Refusal) → code_of x ≡ code_of y → x ≡ y
codes_differ (Ok _) (Ok _) e = refl
codes_differ (Ok _) (Err why) e = absurd (omega (arith, some_number why))
codes_differ (Err why) (Ok _) e = absurd (omega (arith, some_number why))
codes_differ (Err a) (Err b) e = let same : a ≡ b = sym (of_number a) ∙ ap refusal_of e ∙ of_number b in cc

pub nexts_differ : (x y : told.Next) → next_of x ≡ next_of y → x ≡ y
nexts_differ next.Read next.Read e = refl
nexts_differ next.Read next.Write e = absurd (cc)
nexts_differ next.Read (next.Stop how) e = absurd (cc)
nexts_differ next.Write next.Read e = absurd (cc)
nexts_differ next.Write next.Write e = refl
nexts_differ next.Write (next.Stop how) e = absurd (cc)
nexts_differ (next.Stop how) next.Read e = absurd (cc)
nexts_differ (next.Stop how) next.Write e = absurd (cc)
nexts_differ (next.Stop how) (next.Stop what) e = ap next.Stop (codes_differ how what (cc))

-- bytes written before bytes
wrote_twice : (xs ys : List ℕ) (q : Inscribing) → wrote xs (wrote ys q) ≡ wrote (xs ++ ys) q
wrote_twice xs ys q = rw (append_assoc xs ys q.bytes)

module _ (bytes : List ℕ) (more : Bool) where
  pub record Passing (whole : Inscribing) (was : List ℕ) (start : ℕ) (lent : List ℕ) (p : Place) (numbers out : List ℕ) (from at : ℕ) : Type 0 where
    pub within : from ≤ length bytes
    pub line_fits : p.line + (length bytes - from) < lines
    pub long : length numbers ≡ length lent
    pub room : at ≤ length was
    pub done : List ℕ
    pub laid : out ≡ sets was start done
    pub end : at ≡ start + length done
    pub makes : whole ≡ wrote done (inscribe_on more (drop from bytes) from (length out - at) (reader_of p numbers))

  pub passing_starts :
      {p : Place} {numbers out : List ℕ} {from at : ℕ} → CanInscribe bytes from p out at →
      Passing (inscribe_of bytes more from (length out - at) (reader_of p numbers)) out at numbers p numbers out from at
  unfolding inscribe_of
  passing_starts can = record {
    within = can.begun;
    line_fits = omega (arith, can.line_fits);
    long = refl;
    room = can.room;
    done = [];
    laid = refl;
    end = omega arith;
    makes = refl;
  }

  module _ {whole : Inscribing} {was : List ℕ} {start : ℕ} {lent : List ℕ} {p : Place} {numbers out : List ℕ} {from at : ℕ}
      (w : Passing whole was start lent p numbers out from at) where
    pub out_long : length out ≡ length was
    out_long = ap length w.laid ∙ length-sets was start w.done

    -- bytes behind those that are written
    laid_behind : (xs : List ℕ) → sets out at xs ≡ sets was start (w.done ++ xs)
    laid_behind xs = rw (w.laid, w.end) (sym (sets_append w.done xs was start))

    end_behind : (xs : List ℕ) → at + length xs ≡ start + length (w.done ++ xs)
    end_behind xs = omega (arith, w.end, length-append w.done xs)

    -- the loop is left where it stands
    leaves : (next : told.Next) → whole ≡ wrote w.done (first (next_of next) (reader_of p numbers) from) → InscribesTo whole was start (leaving p from at next) numbers out
    leaves next e = rw (e, append-nil w.done) record { place = refl; numbers_are = refl; laid = w.laid; end = w.end; from = refl; next = refl }

    pub passing_ends : {next : told.Next} → length bytes ≤ from → next_of next ≡ used_up more p → InscribesTo whole was start (leaving p from at next) numbers out
    unfolding inscribe_on
    passing_ends {next} h e = leaves next (w.makes ∙ rw (drop_of_length-le bytes h, e))

    module _ (h : from < length bytes) where
      abbrev b : ℕ
      b = get_or bytes from 0

      cons : drop from bytes ≡ b ∷ drop (from + 1) bytes
      cons = rw (add-one) (drop-cons bytes from 0 h)

      pub passing_writes : length out - at < most_bytes → InscribesTo whole was start (leaving p from at next.Write) numbers out
      unfolding inscribe_on pick
      passing_writes full =
          leaves next.Write (w.makes ∙ rw (cons, lt-ltb (length out - at) most_bytes full))

      module _ (enough : most_bytes ≤ length out - at) where
        pub passing_asks : CanTake p out at
        passing_asks = record { line_fits = omega (arith, w.line_fits); room = omega (arith, out_long, w.room) }

        -- the byte
        abbrev st : Step
        st = byte_of b (length out - at) (reader_of p numbers)

        module _ {t : Taken} {next_numbers next_out : List ℕ} (d : TakesTo st out at t next_numbers next_out) where
          pub passing_stops : is_err t.told ≡ true → InscribesTo whole was start (leaving t.place from t.at (next.Stop t.told)) next_numbers next_out
          unfolding inscribe_on pick
          passing_stops stop =
              let no : eqb st.code 0 ≡ false = ne_eqb st.code 0 (λ e. omega (arith, d.code, refused_code t.told stop)) in
              let none : st.bytes ≡ [] = (step_small b (length out - at) (reader_of p numbers)).silent no in
              let e : whole ≡ wrote w.done (first (Stop st.code) st.reader from)
              = w.makes ∙ rw (cons, le-ltb (length out - at) most_bytes enough, no) in
              rw e record {
                place = d.place;
                numbers_are = d.numbers_are;
                laid = d.laid ∙ ap (sets out at) none ∙ laid_behind [];
                end = d.end ∙ ap (λ (l : List ℕ). at + length l) none ∙ end_behind [];
                from = refl;
                next = ap Stop d.code;
              }

          pub passing_goes_on : length next_numbers ≡ length numbers → is_err t.told ≡ false → Passing whole was start lent t.place next_numbers next_out (from + 1) t.at
          unfolding inscribe_on pick
          passing_goes_on same on =
              let small = step_small b (length out - at) (reader_of p numbers) in
              let yes : eqb st.code 0 ≡ true = eq-eqb st.code 0 (omega (arith, d.code, no_code t.told on)) in
              let as_long : length next_out ≡ length out = ap length d.laid ∙ length-sets out at st.bytes in
              let left : length next_out - t.at ≡ length out - at - length st.bytes = omega (arith, as_long, d.end) in
              let e : whole ≡ wrote w.done (wrote st.bytes (inscribe_on more (drop (from + 1) bytes) (from + 1) (length out - at - length st.bytes) st.reader))
              = w.makes ∙ rw (cons, le-ltb (length out - at) most_bytes enough, yes) in
              record {
                within = omega arith;
                line_fits = omega (arith, w.line_fits, small.near, ap (λ (p : Place). p.line) d.place);
                long = same ∙ w.long;
                room = omega (arith, d.end, small.fits, out_long, w.room);
                done = w.done ++ st.bytes;
                laid = d.laid ∙ laid_behind st.bytes;
                end = d.end ∙ end_behind st.bytes;
                makes = e ∙ wrote_twice w.done st.bytes _ ∙ rw (left, d.place, d.numbers_are);
              }
