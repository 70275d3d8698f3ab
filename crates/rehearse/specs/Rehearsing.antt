-- The program's loop: each turn plays what is at hand, and then reads the tape, writes out what is printed, or stops.
use Rattle.std.specs.Prelude.{◌≡◌, refl, Bool, true, false, List, [], ◌∷◌, ◌++◌, ℕ, ◌+◌, ◌*◌, ◌-◌, ◌≤◌, ◌<◌, length, take, drop, replicate}
use Rattle.std.proofs.Common.{sym, subst, ◌∙◌, true≢false, append_assoc, arith, length-take, drop_of_length-le, length-take-le}
use Rattle.std.proofs.lemmas.List.{length-replicate}
use Rattle.units.specs.Places.{sets_behind}
use Rattle.rows.specs.Rows.{rows}
use Rattle.book.specs.Book.{empty_book}
use Rattle.lines.specs.Laying.{output, Laid}
use Rattle.lanes.specs.Ring.{all_entries}
use Rattle.entry.specs.Numbers.{bulk_numbers}
use Rattle.session.specs.declared.Session.{Session}
use Rattle.session.specs.Market.{Market, market_of}
use Rattle.session.specs.Settings.{new_session}
use Rattle.session.specs.Sound.{Sound}
use Rattle.replay.specs.Stepping.{going}
use Rattle.window.specs.declared.Filled.{Filled}
use Rattle.window.specs.Window.{window_long, Refilled}
use Rattle.window.specs.WindowLaws.{read_behind}
use Rattle.playing.specs.Next.{Read, Write, Stop, next_of}
use Rattle.playing.specs.declared.Played.{Played}
use Rattle.playing.specs.Playing.{play_of, CanPlay, PlaysTo}
use Rattle.playing.specs.Running.{Standing, at_start, play_from, played, filled, emptied, Run, reads, meets_end, writes}
use Rattle.playing.specs.RunningLaws.{leaves_from}

-- a place of the tape is below this, whatever the turns that are left read
abbrev pub farthest : ℕ
farthest = 9223372036854775808

-- where the program stands, by its variables
abbrev pub standing : Market → List ℕ → List ℕ → List ℕ → ℕ → ℕ → ℕ → ℕ → Bool → Standing
standing m given window out at from to base more =
    record { market = m; given = given; bytes = take to window; from = from; base = base; more = more; printed = take at out }

-- a run from the start has come to where the program stands: some parts are read and some bytes written out, and a run
-- from there on, over the parts that the file has left, goes on with it
pub record CameTo (st : Standing) : Type 0 where
  pub read : List (List ℕ)
  pub written : List ℕ
  pub goes_on : (parts : List (List ℕ)) (w : List ℕ) → (st.more ≡ false → parts ≡ []) → Run st parts w → Run at_start (read ++ parts) (written ++ w)

came_from_start :
    {s : Session} (window out : List ℕ) → s ≡ new_session →
    CameTo (standing (market_of s (empty_book rows) (replicate all_entries 0)) (replicate bulk_numbers 0) window out 0 0 0 0 true)
came_from_start window out e = rw e record { read = []; written = []; goes_on = λ parts w all r. r }

module _ {st : Standing} (c : CameTo st) where
  came_reading : (part : List ℕ) → (play_from st).next ≡ Read → CameTo (filled part true (played st))
  came_reading part e = record {
    read = c.read ++ (part ∷ []);
    written = c.written;
    goes_on = λ parts w _ r. rw (append_assoc c.read (part ∷ []) parts) (c.goes_on (part ∷ parts) w (λ no. absurd (true≢false (sym ((leaves_from st).reading e) ∙ no))) (reads e r));
  }

  came_to_end : (play_from st).next ≡ Read → CameTo (filled [] false (played st))
  came_to_end e = record {
    read = c.read;
    written = c.written;
    goes_on = λ parts w all r. rw (all refl) (c.goes_on [] w (λ _. refl) (meets_end e (rw (all refl) at r)));
  }

  came_writing : (play_from st).next ≡ Write → CameTo (emptied (played st))
  came_writing e = record {
    read = c.read;
    written = c.written ++ (played st).printed;
    goes_on = λ parts w all r. rw (append_assoc c.written (played st).printed w) (c.goes_on parts ((played st).printed ++ w) all (writes e r));
  }

-- how the program stands before each turn of its loop: the market is sound, the bytes printed lie in the output, those
-- at hand in the window, places of the tape cannot overflow in the turns that are left, and a run has come there
pub record Rehearsing (m : Market) (given window out : List ℕ) (at from to base : ℕ) (more : Bool) (status turns : ℕ) : Type 0 where
  pub sound : Sound m
  pub given_long : length given ≡ bulk_numbers
  pub window_long_lem : length window ≡ window_long
  pub out_long : length out ≡ output
  pub printed : at ≤ output
  pub begun : from ≤ to
  pub within : to ≤ window_long
  pub bounded : base + window_long * turns ≤ farthest
  pub came : status ≡ going → CameTo (standing m given window out at from to base more)

-- it starts with a new session beside an empty book and empty lanes
pub rehearsal_starts :
    {s : Session} {window out : List ℕ} {turns : ℕ} → s ≡ new_session → Sound (market_of s (empty_book rows) (replicate all_entries 0)) →
    length window ≡ window_long → length out ≡ output → window_long * turns ≤ farthest →
    Rehearsing (market_of s (empty_book rows) (replicate all_entries 0)) (replicate bulk_numbers 0) window out 0 0 0 0 true going turns
rehearsal_starts {s} {window} {out} e sound long out_long few = record {
  sound = sound;
  given_long = length-replicate {A = ℕ} bulk_numbers 0;
  window_long_lem = long;
  out_long = out_long;
  printed = omega arith;
  begun = omega arith;
  within = omega arith;
  bounded = omega arith;
  came = λ _. came_from_start window out e;
}

-- bytes laid behind those that are printed
laid_behind : {was lent bytes : List ℕ} {at most r : ℕ} → length was ≡ output → Laid was at bytes most lent r → r ≤ output → take r lent ≡ take at was ++ bytes
laid_behind {was} {lent} {bytes} {at} long l fits = rw (l.stored, l.end) (sets_behind bytes was at (omega (arith, l.end)))

module _ {m : Market} {given window out : List ℕ} {at from to base : ℕ} {more : Bool} {status turns : ℕ} (r : Rehearsing m given window out at from to base more status turns) where
  -- the bytes at hand
  pub at_hand : length (take to window) ≡ to
  at_hand = length-take-le to window (omega (arith, r.within, r.window_long_lem))

  pub can_play : CanPlay m (take to window) base from out at
  can_play = record {
    sound = r.sound;
    begun = omega (arith, at_hand, r.begun);
    place_fits = omega (arith, at_hand, r.bounded, r.within);
    long = r.out_long;
    fits = r.printed;
  }

  module _ {d : Played} {after : Market} {numbers lent : List ℕ}
      (p : PlaysTo (play_of (take to window) more base m given from at) (take to window) out at d after numbers lent)
      (same : length numbers ≡ bulk_numbers) where
    -- where the program stands
    abbrev st : Standing
    st = standing m given window out at from to base more

    place : length (take at out) ≡ at
    place = length-take-le at out (omega (arith, r.printed, r.out_long))

    is_play : play_from st ≡ play_of (take to window) more base m given from at
    is_play = rw place

    next_is : next_of d.next ≡ (play_from st).next
    next_is = rw is_play p.next

    printed_fits : d.at ≤ output
    printed_fits = omega (arith, p.laid.near, r.printed)

    on_hand : d.from ≤ to
    on_hand = omega (arith, p.on_tape, at_hand)

    -- after the play its variables are where the program then stands
    is_played : played st ≡ standing after numbers window lent d.at d.from to base more
    is_played = rw (is_play, p.market, p.given_is, p.from, laid_behind r.out_long p.laid printed_fits)

    pub fits_window : (d.from ≤ to) × ((to ≤ length window) × (base + d.from < 18446744073709551616))
    fits_window = (on_hand, (omega (arith, r.within, r.window_long_lem), omega (arith, r.bounded, r.within, on_hand)))

    pub fits_output : d.at ≤ length lent
    fits_output = omega (arith, printed_fits, p.laid.long)

    -- a turn that reads the tape
    module _ (goes : status ≡ going) (e : next_of d.next ≡ Read) {next : List ℕ} {f : Filled} (g : Refilled window d.from to base next f) where
      abbrev part : List ℕ
      part = drop (to - d.from) (take f.to next)

      came_on : (more : Bool) → f.more ≡ more → CameTo (standing after numbers next lent d.at 0 f.to f.base f.more)
      came_on true on =
          rw (read_behind on_hand (omega (arith, r.within, r.window_long_lem)) g, g.place, on)
          (subst (λ (s : Standing). CameTo (filled part true s)) is_played (came_reading (r.came goes) part (sym next_is ∙ e)))
      came_on false none =
          let empty : part ≡ [] = drop_of_length-le (take f.to next) {i = to - d.from} (omega (arith, length-take f.to next, g.nothing none)) in
          rw (read_behind on_hand (omega (arith, r.within, r.window_long_lem)) g, empty, g.place, none)
          (subst (λ (s : Standing). CameTo (filled [] false s)) is_played (came_to_end (r.came goes) (sym next_is ∙ e)))

      pub turn_reads : 0 < turns → {told : ℕ} → Rehearsing after numbers next lent d.at 0 f.to f.base f.more told (turns - 1)
      turn_reads h = record {
        sound = p.sound;
        given_long = same;
        window_long_lem = g.long ∙ r.window_long_lem;
        out_long = p.laid.long;
        printed = printed_fits;
        begun = omega arith;
        within = omega (arith, g.most, g.long, r.window_long_lem);
        bounded = omega (arith, r.bounded, g.place, on_hand, r.within);
        came = λ _. came_on f.more refl;
      }

    -- a turn whose read fails: the program stops
    pub turn_fails :
        {next : List ℕ} {f : Filled} → Refilled window d.from to base next f → 0 < turns → {told : ℕ} → (told ≡ going → ⊥) →
        Rehearsing after numbers next lent d.at d.from to base more told (turns - 1)
    turn_fails g h fails = record {
      sound = p.sound;
      given_long = same;
      window_long_lem = g.long ∙ r.window_long_lem;
      out_long = p.laid.long;
      printed = printed_fits;
      begun = on_hand;
      within = r.within;
      bounded = omega (arith, r.bounded);
      came = λ on. absurd (fails on);
    }

    -- a turn that does not: the output is written out, or the tape has stopped
    stays : {now told : ℕ} → now ≤ output → (told ≡ going → CameTo (standing after numbers window lent now d.from to base more)) →
        0 < turns → Rehearsing after numbers window lent now d.from to base more told (turns - 1)
    stays fits came h = record {
      sound = p.sound;
      given_long = same;
      window_long_lem = r.window_long_lem;
      out_long = p.laid.long;
      printed = fits;
      begun = on_hand;
      within = r.within;
      bounded = omega (arith, r.bounded);
      came = came;
    }

    pub turn_writes : 0 < turns → status ≡ going → next_of d.next ≡ Write → {told : ℕ} → Rehearsing after numbers window lent 0 d.from to base more told (turns - 1)
    turn_writes h goes e = stays (omega arith) (λ _. subst (λ (s : Standing). CameTo (emptied s)) is_played (came_writing (r.came goes) (sym next_is ∙ e))) h

    pub turn_stops : 0 < turns → {how : ℕ} → next_of d.next ≡ Stop how → Rehearsing after numbers window lent d.at d.from to base more how (turns - 1)
    turn_stops h {how} e = stays printed_fits (λ on. absurd ((leaves_from st).stopping how (sym next_is ∙ e) on)) h
