-- The numbers given: each call gives the next one or none, and settings begin anew.
use Rattle.std.specs.Prelude.{◌≡◌, ◌↔◌, ◌⊎◌, Bool, true, false, List, [], ◌∷◌, ◌++◌, ℕ, ◌+◌, ◌≤◌, ◌<◌, length}
use Rattle.std.proofs.Math.Path.{refl}
use Rattle.std.proofs.Common.{sym, ap, ◌∙◌, inl, inr, ⊎_elim, true≢false, append-nil, add-one, arith}
use Rattle.units.specs.Tests.{order, less, equal, more}
use Rattle.units.specs.Places.{at, table, table_length}
use Rattle.entry.specs.declared.Settings.{Settings}
use Rattle.entry.specs.Entry.{is_cancel}
use Rattle.entry.specs.EntryLaws.{cancel_numbered}
use Rattle.session.specs.declared.Session.{Session}
use Rattle.session.specs.Market.{Market, Called}
use Rattle.session.specs.Sound.{Sound}
use Rattle.session.specs.Turn.{TurnDone, turned_down_by}
use Rattle.session.specs.Open.{OpenDone, open_quiet, open_at}
use Rattle.demands.specs.Runs.{Call, Answer, settings, away, submit, turn, opening, coded, turned, opened, step, after, head_entry, resets, Start}
use Rattle.demands.specs.RunLaws.{run_since, reset_to, start_reached, reached_on}
use Rattle.demands.specs.Outcomes as outcomes
use Rattle.demands.specs.Outcomes.{SetCame, CallCame, set_came, away_came, submit_came}
use Rattle.demands.specs.TurnCases as TurnCases
use Rattle.demands.specs.TurnCases.{OutcomeOf, of_cancel, of_order, cancels, no_such, turned_down, rests, trades}
use Rattle.demands.specs.OpenCases as OpenCases
use Rattle.demands.specs.SoundnessProof.{reached_sound}
use Rattle.demands.specs.Demand2.{turn_printed, TakenBy, RestsAs, NoRow}
use Rattle.demands.specs.Demand2Turn.{set_in}
use Rattle.demands.specs.Demand2Fills.{formed_in}
use Rattle.demands.specs.Demand2Proof.{demand2}
use Rattle.demands.specs.Demand3.{NoReset}
use Rattle.demands.specs.Numbers.{numbers_in, numbers_since, GivenIn, NumbersGiven}

-- ---- one call

-- a call on market m that answers a gives the next number, and counts on to `next`; or it gives none
data Numbers (m : Market) (next : ℕ) (a : Answer) : Type 0 where
  gives : numbers_in a ≡ m.session.next ∷ [] → next ≡ m.session.next + 1 → Numbers m next a
  none : numbers_in a ≡ [] → next ≡ m.session.next → Numbers m next a

module _ (m : Market) where
  called_numbers : (next : Market) (r : ℕ) → next.session.next ≡ m.session.next → {d : Called} → CallCame m next r d
      → Numbers m d.market.session.next (coded d.code)
  called_numbers next r same (outcomes.refused h) = none refl refl
  called_numbers next r same (outcomes.accepted e) = none refl same

  set_numbers : (given : Settings) {d : Called} → resets (settings given) (coded d.code) ≡ false → SetCame m given d
      → Numbers m d.market.session.next (coded d.code)
  set_numbers given r (outcomes.refused never) = none refl refl
  set_numbers given r (outcomes.accepted g e h) = absurd (true≢false r)

  taken_numbers : (t : ℕ) (was : List ℕ) {d : TurnDone} → OutcomeOf m was t d → Numbers m d.market.session.next (turned d.answer)
  taken_numbers t was (of_cancel c (cancels row h)) = none refl refl
  taken_numbers t was (of_cancel c (no_such is above)) = none refl refl
  taken_numbers t was (of_order c (turned_down h)) = none refl refl
  taken_numbers t was (of_order c (rests n o)) = gives refl refl
  taken_numbers t was (of_order c (trades n o)) = gives refl refl

  turn_numbers : (lent : ℕ) (was : List ℕ) {d : TurnDone} → TurnCases.Outcome m lent was d → Numbers m d.market.session.next (turned d.answer)
  turn_numbers lent was (TurnCases.refused h) = none refl refl
  turn_numbers lent was (TurnCases.taken t s o) = taken_numbers t was o

  open_numbers : (lent : ℕ) (was : List ℕ) {d : OpenDone} → OpenCases.Outcome m lent was d → Numbers m d.market.session.next (opened d.answer)
  unfolding open_at open_quiet
  open_numbers lent was (OpenCases.refused h) = none refl refl
  open_numbers lent was (OpenCases.quiet e c) = none refl refl
  open_numbers lent was (OpenCases.opens p e c f) = none refl refl

  step_numbers : (c : Call) → resets c (step m c).answer ≡ false → Numbers m (step m c).market.session.next (step m c).answer
  step_numbers (settings given) r = set_numbers given r (set_came m given)
  step_numbers (away bid offer) r = called_numbers _ _ refl (away_came m bid offer)
  step_numbers (submit tenant count ns) r = called_numbers _ _ refl (submit_came m tenant count ns)
  step_numbers (turn lent was) r = turn_numbers lent was (TurnCases.outcome m lent was)
  step_numbers (opening lent was) r = open_numbers lent was (OpenCases.outcome m lent was)

-- accepted settings give none, and begin at 1
module _ (m : Market) (c : Call) (r : resets c (step m c).answer ≡ true) where
  anew_next : (step m c).market.session.next ≡ 1
  anew_next = ap (λ (x : Market). x.session.next) (reset_to m c r).1

  anew_none : numbers_in (step m c).answer ≡ []
  anew_none = go c r
    where
      go : (c : Call) → resets c (step m c).answer ≡ true → numbers_in (step m c).answer ≡ []
      go (settings given) r = refl
      go (away bid offer) r = refl
      go (submit tenant count ns) r = refl
      go (turn lent was) r = absurd (true≢false (sym r))
      go (opening lent was) r = refl

-- ---- the numbers given, in their order

record Counted (next : ℕ) (given : List ℕ) : Type 0 where
  count : ℕ
  is_next : next ≡ count + 1
  all : given ≡ table (λ i. i + 1) count

counted_on : (m : Market) (given : List ℕ) → Counted m.session.next given → (next : ℕ) (a : Answer) → Numbers m next a → Counted next (given ++ numbers_in a)
unfolding table
counted_on m given k next a (gives is on) = record {
  count = k.count + 1;
  is_next = on ∙ ap (λ n. n + 1) k.is_next;
  all = rw (is, k.all, k.is_next) (sym (ap (table (λ i. i + 1)) (add-one k.count)));
}
counted_on m given k next a (none is same) = record { count = k.count; is_next = same ∙ k.is_next; all = rw (is, append-nil given) k.all }

counted_anew : (next : ℕ) → next ≡ 1 → Counted next []
unfolding table
counted_anew next is = record { count = 0; is_next = is; all = refl }

module _ (m : Market) (start : Start m) (cs : List Call) where
  starts_at : m.session.next ≡ 1
  starts_at = ap (λ (x : Session). x.next) start.new

  all_counted : Counted (after m cs).session.next (numbers_since m cs)
  all_counted =
      run_since (λ m c given. given ++ numbers_in (step m c).answer) [] (λ (x : Market). Counted x.session.next)
      (λ m c r given _. counted_anew _ (anew_next m c r))
      (λ m c r given k. counted_on m given k _ _ (step_numbers m c r))
      m cs [] (counted_anew _ starts_at)

  how_many : length (numbers_since m cs) ≡ all_counted.count
  how_many = ap length all_counted.all ∙ table_length (λ i. i + 1) all_counted.count

  counted_in_order : numbers_since m cs ≡ table (λ i. i + 1) (length (numbers_since m cs))
  counted_in_order = all_counted.all ∙ ap (table (λ i. i + 1)) (sym how_many)

  counted_next : (after m cs).session.next ≡ length (numbers_since m cs) + 1
  counted_next = all_counted.is_next ∙ ap (λ n. n + 1) (sym how_many)

-- ---- the numbers below the next one

abbrev Below : Market → ℕ → Type 0
Below m n = (1 ≤ n) × (n < m.session.next)

-- the next number stays 1 or more
next_some : (m : Market) (c : Call) → 1 ≤ m.session.next → 1 ≤ (step m c).market.session.next
next_some m c some = go (resets c (step m c).answer) refl
  where
    go : (x : Bool) → resets c (step m c).answer ≡ x → 1 ≤ (step m c).market.session.next
    go true r = omega (arith, anew_next m c r)
    go false r = elim (step_numbers m c r) [ gives is on ↦ omega (arith, on) | none is same ↦ omega (arith, same) ]

-- a number below the next one after a call is given by it, or was below the next one before it
module _ (m : Market) (some : 1 ≤ m.session.next) (c : Call) (n : ℕ) where
  abbrev Before : Type 0
  Before = (numbers_in (step m c).answer ≡ n ∷ []) ⊎ ((resets c (step m c).answer ≡ false) × Below m n)

  by_numbers : resets c (step m c).answer ≡ false → Numbers m (step m c).market.session.next (step m c).answer → Below (step m c).market n ↔ Before
  by_numbers r (gives is on) = (
    λ (least, below). elim (order n m.session.next) [
      | less q ↦ inr (r, (least, q))
      | equal q ↦ inl (is ∙ ap (λ k. k ∷ []) (sym q))
      | more q ↦ absurd (omega (arith, on))
    ],
    ⊎_elim (λ e. let q = ap (λ xs. at xs 0) (sym is ∙ e) in (omega (arith, q), omega (arith, q, on))) (λ (_, (least, below)). (least, omega (arith, on))),
  )
  by_numbers r (none is same) = (
    λ (least, below). inr (r, (least, omega (arith, same))),
    ⊎_elim (λ e. absurd (omega (arith, ap length (sym is ∙ e)))) (λ (_, (least, below)). (least, omega (arith, same))),
  )

  below_after : Below (step m c).market n ↔ Before
  below_after = go (resets c (step m c).answer) refl
    where
      go : (x : Bool) → resets c (step m c).answer ≡ x → Below (step m c).market n ↔ Before
      go true r = (
        λ (least, below). absurd (omega (arith, anew_next m c r)),
        ⊎_elim (λ e. absurd (omega (arith, ap length (sym (anew_none m c r) ∙ e)))) (λ (h, _). absurd (true≢false (sym r ∙ h))),
      )
      go false r = by_numbers r (step_numbers m c r)

-- after a run it is given in the run, or was below before it and no settings were accepted
below_run : (m : Market) → 1 ≤ m.session.next → (cs : List Call) (n : ℕ) → Below (after m cs) n ↔ (GivenIn n m cs ⊎ (NoReset m cs × Below m n))
below_run m some [] n = (λ b. inr (tt, b), ⊎_elim (λ x. absurd x) (λ (_, b). b))
below_run m some (c ∷ cs) n =
    let later = below_run (step m c).market (next_some m c some) cs n in
    let now = below_after m some c n in (
      λ b. ⊎_elim
          (λ g. inl (inr g))
          (λ (quiet, below). ⊎_elim (λ e. inl (inl (e, quiet))) (λ (r, before). inr ((r, quiet), before)) (now.0 below))
          (later.0 b),
      ⊎_elim
          (⊎_elim (λ (e, quiet). later.1 (inr (quiet, now.1 (inl e)))) (λ g. later.1 (inl g)))
          (λ ((r, quiet), before). later.1 (inr (quiet, now.1 (inr (r, before))))),
    )

module _ (m : Market) (start : Start m) (cs : List Call) where
  below_given : (n : ℕ) → Below (after m cs) n ↔ GivenIn n m cs
  below_given n =
      let is = below_run m (omega (arith, starts_at m start cs)) cs n in (
        λ b. ⊎_elim (λ g. g) (λ (_, (least, below)). absurd (omega (arith, starts_at m start cs))) (is.0 b),
        λ g. is.1 (inl g),
      )

  -- ---- cancels

  module _ (lent t : ℕ) (was : List ℕ) (k : TakenBy (after m cs) lent t) (cancel : is_cancel (head_entry (after m cs) t) ≡ true) where
    abbrev n : ℕ
    n = (head_entry (after m cs) t).number

    abbrev sound : Sound (after m cs)
    sound = reached_sound (after m cs) (reached_on m (start_reached m start) cs)

    numbered : 1 ≤ n
    numbered = cancel_numbered (head_entry (after m cs) t) (formed_in (after m cs) lent t sound k) cancel

    given_out : (turn_printed (after m cs) lent was ≡ turned_down_by t 18) ↔ (GivenIn n m cs × NoRow (RestsAs (after m cs).book t n))
    given_out =
        let is = demand2.turn_downs.cancel_given_out (after m cs) lent t was k cancel in (
          λ x. let (below, no_row) = is.0 x in ((below_given n).0 (numbered, below), no_row),
          λ (g, no_row). is.1 (((below_given n).1 g).1, no_row),
        )

    -- a number that was not given does not rest
    no_row : (after m cs).session.next ≤ n → NoRow (RestsAs (after m cs).book t n)
    no_row past i r =
        let book = (sound (set_in (after m cs) lent t k)).ready.book in
        let row = book.row i (omega (arith, r.row, book.places)) r.rests in
        omega (arith, row.number_most, r.numbered)

    never_given : (turn_printed (after m cs) lent was ≡ turned_down_by t 22) ↔ (GivenIn n m cs → ⊥)
    never_given =
        let is = demand2.turn_downs.cancel_never_given (after m cs) lent t was k cancel in (
          λ x g. omega (arith, (is.0 x).0, ((below_given n).1 g).1),
          λ f. elim (order n (after m cs).session.next) [
            | less q ↦ absurd (f ((below_given n).0 (numbered, q)))
            | equal q ↦ is.1 (omega arith, no_row (omega arith))
            | more q ↦ is.1 (omega arith, no_row (omega arith))
          ],
        )

pub numbers_given : NumbersGiven
numbers_given = record {
  in_order = counted_in_order;
  next = counted_next;
  below_next = below_given;
  cancel_given_out = given_out;
  cancel_never_given = never_given;
}
