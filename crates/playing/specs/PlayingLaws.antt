-- Playing, step by step.
use Rattle.std.specs.Prelude.{◌≡◌, Some, None, Ok, Err, Bool, List, [], ◌++◌, ltb}
use Rattle.std.proofs.Math.Path.{refl, sym, ap}
use Rattle.std.proofs.Common.{◌∙◌, append_assoc, append-nil, arith}
use Rattle.std.proofs.Math.Bool.{true, false}
use Prim.Native.Nat.{ℕ, zero, suc, ◌+◌, ◌-◌, ◌≤◌, ◌<◌}
use borrow.Author.Tests.{ltb-true, lt-ltb, le-ltb, eqb-true, eqb-false, eq-eqb, ne_eqb}
use Rattle.std.proofs.Math.Dec.{eqb}
use Rattle.std.proofs.Math.ListN.{length}
use Rattle.units.specs.Tests.{pick, picked}
use Rattle.lines.specs.Laying.{output, Laid, laid_then, nothing_laid}
use Rattle.tape.specs.Tape.{Reading, event_at, entries_after}
use Rattle.tape.specs.Depth.{most_bytes}
use Rattle.tape.specs.TapeLaws.{place}
use Rattle.session.specs.Market.{Market}
use Rattle.replay.specs.Listing.{longest_event}
use Rattle.replay.specs.declared.stepping.Ending.{Ending}
use Rattle.replay.specs.declared.stepping.Ending.TheVariants.{Ended, Refused}
use Rattle.replay.specs.declared.stepping.Reached.{Reached}
use Rattle.replay.specs.Replay.{CanReplay}
use Rattle.replay.specs.Stepping.{going, status_of, Step, step_by, step_of, StepsTo}
use Rattle.window.specs.Window.{is_short}
use Rattle.playing.specs.declared.Next as comes
use Rattle.playing.specs.declared.Next.TheVariants as comes_next
use Rattle.playing.specs.Next.{next_of}
use Rattle.playing.specs.Next as next
use Rattle.playing.specs.Playing.{Play, first, last, printing, leaving, play_most, play_of, CanPlay, PlaysTo}

-- a step by what is read at its place: one after which the tape goes on takes a byte at least, the last stays
module _ (m : Market) (bytes : List ℕ) (from base : ℕ) (given : List ℕ) where
  pub step_on :
      (step_of m bytes from base given).status ≡ going →
      (from < (step_of m bytes from base given).from) × ((step_of m bytes from base given).from ≤ length bytes)
  unfolding step_of
  step_on = go (event_at bytes from) refl
    where
      go :
          (x : Reading) → event_at bytes from ≡ x → (step_by m from base (entries_after bytes from given) x).status ≡ going →
          (from < (step_by m from base (entries_after bytes from given) x).from) × ((step_by m from base (entries_after bytes from given) x).from ≤ length bytes)
      go (Ok (Some (e, end))) q h = let p = place bytes from e end q in (p.0, p.1)
      go (Err r) q h = absurd (omega arith)
      go (Ok None) q h = absurd (omega arith)

  pub step_last : eqb (step_of m bytes from base given).status going ≡ false → (step_of m bytes from base given).from ≡ from
  unfolding step_of
  step_last = go (event_at bytes from)
    where
      go :
          (x : Reading) → eqb (step_by m from base (entries_after bytes from given) x).status going ≡ false →
          (step_by m from base (entries_after bytes from given) x).from ≡ from
      go (Ok (Some (e, end))) h = absurd (eqb-false going going h refl)
      go (Err r) h = refl
      go (Ok None) h = refl

-- a tape that has ended does not go on
pub not_going : (how : Ending) → status_of (Some how) ≡ going → ⊥
not_going Ended e = omega arith
not_going Refused e = omega arith

-- What holds of a play that runs no event, of one that runs the last step, and of a step before a play of which it
-- holds, holds of every play.
module _ (bytes : List ℕ) (more : Bool) (base : ℕ) (P : Market → List ℕ → ℕ → ℕ → Play → Type 0)
    (reads : (m : Market) (given : List ℕ) (from at : ℕ) → is_short from (length bytes) more most_bytes ≡ true → P m given from at (first next.Read m given from))
    (writes : (m : Market) (given : List ℕ) (from at : ℕ) → output - at < longest_event → P m given from at (first next.Write m given from))
    (stops : (m : Market) (given : List ℕ) (from at : ℕ) → is_short from (length bytes) more most_bytes ≡ false →
    eqb (step_of m bytes from base given).status going ≡ false → P m given from at (last (step_of m bytes from base given)))
    (steps : (m : Market) (given : List ℕ) (from at : ℕ) (q : Play) → is_short from (length bytes) more most_bytes ≡ false →
    (step_of m bytes from base given).status ≡ going →
    P (step_of m bytes from base given).printed.market (step_of m bytes from base given).given (step_of m bytes from base given).from
    (at + length (step_of m bytes from base given).printed.bytes) q →
    P m given from at (printing (step_of m bytes from base given).printed.bytes q)) where
  pub by_play :
      (n : ℕ) (m : Market) (given : List ℕ) (from at : ℕ) → length bytes - from < n → P m given from at (play_most bytes more base n m given from at)
  unfolding play_most
  by_play zero m given from at h = absurd (omega arith)
  by_play (suc n) m given from at h =
      picked (P m given from at) (is_short from (length bytes) more most_bytes) _ _
      (reads m given from at)
      (λ enough. picked (P m given from at) (ltb (output - at) longest_event) _ _
      (λ full. writes m given from at (ltb-true (output - at) longest_event full))
      (λ _. picked (P m given from at) (eqb (step_of m bytes from base given).status going) _ _
      (λ goes.
      let on : (step_of m bytes from base given).status ≡ going = eqb-true _ _ goes in
      let o = step_on m bytes from base given on in
      steps m given from at _ enough on (by_play n _ _ _ _ (omega (arith, o.0, o.1))))
      (stops m given from at enough)))

-- bytes printed before bytes
printing_twice : (xs ys : List ℕ) (p : Play) → printing xs (printing ys p) ≡ printing (xs ++ ys) p
printing_twice xs ys p = rw (append_assoc xs ys p.bytes)

-- the loop of a play: what it has printed stands in the output, and what is left to be played is a play
pub record Playing (bytes : List ℕ) (more : Bool) (base : ℕ) (whole : Play) (was lent : List ℕ) (start : ℕ)
    (m : Market) (given : List ℕ) (from : ℕ) (out : List ℕ) (at : ℕ) : Type 0 where
  pub can : CanPlay m bytes base from out at
  pub given_long : length given ≡ length lent
  pub printed : List ℕ
  pub laid : Laid was start printed (output - start) out at
  pub most : ℕ
  pub enough : length bytes - from < most
  pub plays : whole ≡ printing printed (play_most bytes more base most m given from at)

module _ (bytes : List ℕ) (more : Bool) (base : ℕ) where
  pub playing_starts :
      (m : Market) (given : List ℕ) (from : ℕ) (out : List ℕ) (at : ℕ) → CanPlay m bytes base from out at →
      Playing bytes more base (play_of bytes more base m given from at) out given at m given from out at
  unfolding play_of
  playing_starts m given from out at can = record {
    can = can;
    given_long = refl;
    printed = [];
    laid = nothing_laid out at can.long;
    most = suc (length bytes - from);
    enough = omega arith;
    plays = refl;
  }

  module _ {whole : Play} {was lent : List ℕ} {start : ℕ} {m : Market} {given : List ℕ} {from : ℕ} {out : List ℕ} {at : ℕ}
      (p : Playing bytes more base whole was lent start m given from out at) where
    -- one step less is left
    unfolds : (f : ℕ → Play) → ((n : ℕ) → play_most bytes more base (suc n) m given from at ≡ f n) → (n : ℕ) × (length bytes - from ≤ n) × (whole ≡ printing p.printed (f n))
    unfolds f is = go p.most p.enough p.plays
      where
        go :
            (n : ℕ) → length bytes - from < n → whole ≡ printing p.printed (play_most bytes more base n m given from at) →
            (k : ℕ) × (length bytes - from ≤ k) × (whole ≡ printing p.printed (f k))
        go zero h e = absurd (omega arith)
        go (suc n) h e = (n, omega arith, e ∙ ap (printing p.printed) (is n))

    -- no event more is run
    waits : (next : comes.Next) → whole ≡ printing p.printed (first (next_of next) m given from) → PlaysTo whole bytes was start (leaving at from next) m given out
    waits next e = rw e record {
      market = refl;
      given_is = refl;
      laid = rw (append-nil p.printed) p.laid;
      from = refl;
      next = refl;
      sound = p.can.sound;
      on_tape = p.can.begun;
    }

    pub playing_reads :
        {short : Bool} → short ≡ is_short from (length bytes) more most_bytes → short ≡ true →
        PlaysTo whole bytes was start (leaving at from comes_next.Read) m given out
    unfolding play_most pick
    playing_reads is so = waits comes_next.Read (unfolds (λ n. first next.Read m given from) (λ n. rw (sym is ∙ so))).2

    module _ {short : Bool} (is : short ≡ is_short from (length bytes) more most_bytes) (so : short ≡ false) where
      enough_at_hand : is_short from (length bytes) more most_bytes ≡ false
      enough_at_hand = sym is ∙ so

      pub playing_writes :
          output - at < longest_event →
          PlaysTo whole bytes was start (leaving at from comes_next.Write) m given out
      unfolding play_most pick
      playing_writes full = waits comes_next.Write (unfolds (λ n. first next.Write m given from) (λ n. rw (enough_at_hand, lt-ltb (output - at) longest_event full))).2

      module _ (room : longest_event ≤ output - at) where
        pub playing_can : CanReplay m out at
        playing_can = record { sound = p.can.sound; room = record { long = p.can.long; fits = omega (arith, p.can.fits) } }

        module _ (r : Reached) (after : Market) (numbers next_out : List ℕ) (d : StepsTo (step_of m bytes from base given) bytes from out at r after numbers next_out) where
          -- what the step printed stands behind what was printed before it
          laid_on : Laid was start (p.printed ++ (step_of m bytes from base given).printed.bytes) (output - start) next_out r.at
          laid_on =
              let l = laid_then was start p.laid d.laid in
              record { stored = l.stored; end = l.end; long = l.long; near = omega (arith, d.laid.near, p.can.fits) }

          pub playing_stops :
              (how : Ending) → r.ending ≡ Some how →
              PlaysTo whole bytes was start (leaving r.at r.from (comes_next.Stop how)) after numbers next_out
          unfolding play_most pick
          playing_stops how stop =
              let q : Step = step_of m bytes from base given in
              let told : status_of (Some how) ≡ q.status = sym (ap status_of stop) ∙ d.status in
              let no : eqb q.status going ≡ false = ne_eqb _ _ (λ e. not_going how (told ∙ e)) in
              rw (unfolds (λ n. last q) (λ n. rw (enough_at_hand, le-ltb (output - at) longest_event room, no))).2 record {
                market = d.market;
                given_is = d.given_is;
                laid = laid_on;
                from = d.next;
                next = ap next.Stop told;
                sound = d.sound;
                on_tape = d.on_tape p.can.begun;
              }

          module _ (goes : r.ending ≡ None) where
            on : (from < r.from) × (r.from ≤ length bytes)
            on = let o = step_on m bytes from base given (sym d.status ∙ ap status_of goes) in (omega (arith, d.next, o.0), omega (arith, d.next, o.1))

            pub playing_less : length bytes - r.from < length bytes - from
            playing_less = omega (arith, on.0, on.1)

            -- what the loop has where a play is left behind the step
            goes_with :
                length numbers ≡ length given →
                (n : ℕ) × (length bytes - from ≤ n) ×
                (whole ≡ printing p.printed (printing (step_of m bytes from base given).printed.bytes (play_most bytes more base n after numbers r.from r.at))) →
                Playing bytes more base whole was lent start after numbers r.from next_out r.at
            goes_with long (n, enough, plays) = record {
              can = record {
                sound = d.sound;
                begun = on.1;
                place_fits = p.can.place_fits;
                long = d.laid.long;
                fits = omega (arith, d.laid.near, p.can.fits);
              };
              given_long = long ∙ p.given_long;
              printed = p.printed ++ (step_of m bytes from base given).printed.bytes;
              laid = laid_on;
              most = n;
              enough = omega (arith, playing_less);
              plays = plays ∙ printing_twice p.printed (step_of m bytes from base given).printed.bytes (play_most bytes more base n after numbers r.from r.at);
            }

            pub playing_goes_on : length numbers ≡ length given → Playing bytes more base whole was lent start after numbers r.from next_out r.at
            unfolding play_most pick
            playing_goes_on long =
                let yes : eqb (step_of m bytes from base given).status going ≡ true = eq-eqb _ _ (sym d.status ∙ ap status_of goes) in
                let place : at + length (step_of m bytes from base given).printed.bytes ≡ r.at = sym d.laid.end in
                goes_with long
                (unfolds
                (λ n. printing (step_of m bytes from base given).printed.bytes (play_most bytes more base n after numbers r.from r.at))
                (λ n. rw (enough_at_hand, le-ltb (output - at) longest_event room, yes, d.market, d.given_is, d.next, place)))
