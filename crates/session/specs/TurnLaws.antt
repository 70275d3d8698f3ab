-- The cases of a turn, as the code meets them.
use Rattle.std.specs.Prelude.{Option, Some, None, ◌≡◌, refl, true, false, Ok, List, ℕ, ◌*◌, ◌≤◌, ◌<◌, length}
use Rattle.std.proofs.Math.Path.{sym}
use Rattle.std.proofs.Common.{ap, ◌∙◌, arith}
use borrow.Author.Tests.{lt-ltb, le-ltb, le-leb, lt-leb}
use Rattle.book.specs.Records.{fields}
use Rattle.units.specs.Tests.{is_not, pick}
use Rattle.rows.specs.Rows.{rows, no_number}
use Rattle.book.specs.Book.{Book}
use Rattle.entry.specs.declared.Entry.{Entry}
use Rattle.lanes.specs.declared.Lanes.{Lanes}
use Rattle.lanes.specs.Asked.{CanTake}
use Rattle.lanes.specs.Ring.{taken}
use Rattle.lanes.specs.Rotation.{served}
use Rattle.tally.specs.declared.Tally.{Tally}
use Rattle.tally.specs.Tallies.{counted, turns_in_all, most_turns, Countable}
use Rattle.dealing.specs.declared.Came.{Came as Told}
use Rattle.dealing.specs.declared.Came.TheVariants as told
use Rattle.dealing.specs.Came.{came_of}
use Rattle.dealing.specs.declared.Dealt.{Dealt}
use Rattle.dealing.specs.Demands.{CanDeal}
use Rattle.dealing.specs.declared.Series.{Series}
use Rattle.dealing.specs.Deal.{dealt}
use Rattle.dealing.specs.Floor.{Made, floor_of, made_of, next_after}
use Rattle.session.specs.declared.Session.{Session}
use Rattle.session.specs.Left.{Turned}
use Rattle.session.specs.declared.Taken.{Taken}
use Rattle.session.specs.TurnAnswer.{turn_answer_of}
use Rattle.session.specs.TurnAnswer as answer
use Rattle.session.specs.Market.{Market, market_of, with_lanes, with_next, with_tallies, series_of}
use Rattle.session.specs.Sound.{Sound}
use Rattle.session.specs.Turn.{TurnDone, turn_done, printed, turn_refusal, after_taking, head_entry, answer_of, session_after, turn_made, taken_of, turned_by, turn_of}
use Rattle.session.specs.TakingLaws.{Takes, takes}
use Rattle.session.specs.TakingLaws as taking
use Rattle.session.specs.TurnSoundLaws.{turn_sound}

-- which number is given, by what each test says
module _ (s : Session) (lent : ℕ) where
  pub refused_21 : s.accepted ≡ false → 21 ≡ turn_refusal s lent
  unfolding turn_refusal pick is_not
  refused_21 h = rw h

  module _ (set : s.accepted ≡ true) {lane : Option ℕ} (is : lane ≡ served s.lanes) where
    pub refused_5 : lane ≡ None → 5 ≡ turn_refusal s lent
    unfolding turn_refusal pick is_not
    refused_5 h = rw (set, sym is ∙ h)

    module _ (t : ℕ) (busy : lane ≡ Some t) where
      pub refused_6 : lent < rows → 6 ≡ turn_refusal s lent
      unfolding turn_refusal pick is_not
      refused_6 h = rw (set, sym is ∙ busy, lt-ltb lent rows h)

      module _ (room : rows ≤ lent) (turns : ℕ) (all : turns ≡ turns_in_all s.tallies) where
        pub refused_35 : most_turns ≤ turns → 35 ≡ turn_refusal s lent
        unfolding turn_refusal pick is_not
        refused_35 h = rw (set, sym is ∙ busy, le-ltb lent rows room, ← all, le-leb most_turns turns h)

        pub not_refused : turns < most_turns → 0 ≡ turn_refusal s lent
        unfolding turn_refusal pick is_not
        not_refused h = rw (set, sym is ∙ busy, le-ltb lent rows room, ← all, lt-leb most_turns turns h)

-- the session once the turn is taken
pub taking_is :
    (s : Session) (t : ℕ) (l : Lanes) (ts : List Tally) → l ≡ taken s.lanes t → ts ≡ counted s.tallies t 1 0 0 →
    with_tallies (with_lanes s l) ts ≡ after_taking s t
unfolding after_taking
taking_is s t l ts p q = rw (p, q)

-- ---- the whole turn, step by step as the code has it: refused, or taken of the lane served

-- what is left of a session, as the code stores it
pub turned_is :
    (s : Session) (t : ℕ) (done : Dealt) (next : ℕ) (a : Taken) → next ≡ next_after s.next (came_of done.came) → a ≡ taken_of t done.came →
    ◌≡◌ {A = Turned} (record { session = with_tallies (with_next s next) done.tallies; answer = Ok a }) (turned_by s t done)
turned_is s t done next a e f = λ i. record { session = with_tallies (with_next s (e i)) done.tallies; answer = Ok (f i) }

-- what a taken turn returns is what it answers
answers_so : (t : ℕ) (c : Told) → turn_answer_of (Ok (taken_of t c)) ≡ answer_of t (came_of c)
answers_so t (told.TurnedDown why) = refl
answers_so t (told.Cancelled number) = refl
answers_so t (told.Accepted number filled disposition fills) = refl

-- the entry of a turn, as the code has it: what was made of what it met, and stored
pub entry_is :
    (m : Market) (t : ℕ) (b : Book) (records : List ℕ) (done : Dealt) (r : Turned) (d : Made) → made_of done b records ≡ d → r ≡ turned_by m.session t done →
    turn_done r b m.entries records ≡ turn_made m t d
entry_is m t b records done r d e is = rw is (answered ∙ ap (turn_made m t) e)
  where
    answered : turn_done (turned_by m.session t done) b m.entries records ≡ turn_made m t (made_of done b records)
    answered = λ i. record {
      market = market_of (session_after m.session done.tallies (came_of done.came)) b m.entries;
      answer = answers_so t done.came i;
      records = records;
    }

module _ (m : Market) (lent : ℕ) (was : List ℕ) (code : ℕ) (is : code ≡ turn_refusal m.session lent) where
  pub turn_refused : 0 < code → record { market = m; answer = answer.Refused code; records = was } ≡ turn_of m lent was
  unfolding turn_of pick
  turn_refused h = rw (← is, lt-ltb 0 code h)

  module _ (given : code ≤ 0) {lane : Option ℕ} (next : lane ≡ served m.session.lanes) where
    pub turn_nobody : lane ≡ None → record { market = m; answer = answer.Refused 5; records = was } ≡ turn_of m lent was
    unfolding turn_of pick
    turn_nobody h = rw (← is, le-ltb 0 code given, sym next ∙ h)

    module _ (t : ℕ) (busy : lane ≡ Some t) where
      pub turn_taken :
          (e : Entry) (after : Session) (series : Series) (done : Dealt) (b : Book) (records : List ℕ) (r : Turned) → e ≡ head_entry m t →
          after ≡ after_taking m.session t → series ≡ series_of after →
          made_of done b records ≡ dealt (floor_of series after.tallies after.next m.book) t was e → r ≡ turned_by after t done →
          turn_done r b m.entries records ≡ turn_of m lent was
      unfolding turn_of pick
      turn_taken e after series done b records r h g f d stored =
          rw (← is, le-ltb 0 code given, sym next ∙ busy, ← h, ← g) (entry_is (market_of after m.book m.entries) t b records done r _ (rw f at d) stored)

      -- what the turn's parts rest on, in a sound market
      module _ (sound : Sound m) where
        held : Takes m.session lent
        held = takes m.session lent (sym is ∙ omega arith)

        serves : served m.session.lanes ≡ Some t
        serves = sym next ∙ busy

        pub can_take : CanTake m.session.lanes t
        can_take = taking.can_take m (sound held.set) t serves

        pub can_count : Countable m.session.tallies t 1 0 0
        can_count = taking.can_count m (sound held.set) t serves held.turns

        pub can_number : (after : Session) → after ≡ after_taking m.session t → after.next ≤ no_number
        unfolding after_taking
        can_number after g = rw g (sound held.set).ready.next_most

        pub can_deal :
            (e : Entry) (after : Session) (series : Series) → e ≡ head_entry m t → after ≡ after_taking m.session t → series ≡ series_of after →
            length was ≡ fields * rows → CanDeal (floor_of series after.tallies after.next m.book) t e was
        can_deal e after series h g f long = rw (f, h, g) (taking.can_deal m (sound held.set) t serves held.turns was long)

-- where a turn does what its definition says, a sound market stays sound, and the answer has its values in the paper's
-- numbers
pub as_defined :
    (m : Market) (lent : ℕ) (was : List ℕ) (done : TurnDone) → Sound m → done ≡ turn_of m lent was →
    (done ≡ turn_of m lent was) × (Sound done.market × (printed done.answer ≡ printed (turn_of m lent was).answer))
as_defined m lent was done sound e = (e, (rw e (turn_sound m lent was sound), ap (λ (d : TurnDone). printed d.answer) e))
