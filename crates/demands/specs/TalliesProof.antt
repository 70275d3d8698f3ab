-- The tallies as sums: each call adds to each tenant's tally what its answer and its records say, and as much bought as
-- sold.
use Rattle.std.specs.Prelude.{◌≡◌, Bool, List, [], ℕ, ◌+◌, ◌<◌, length, Some}
use Rattle.std.proofs.Math.Path.{refl, sym, ap}
use Rattle.std.proofs.Common.{ap₂, ◌∙◌, true≢false, add-zero, zero-add, eq-eqb, ne_eqb}
use Rattle.std.proofs.Math.Bool.{true, false}
use Rattle.std.proofs.Math.Decide.{ℕ_discrete}
use Rattle.std.proofs.lemmas.List.{get_or-replicate}
use Rattle.units.specs.Units.{tenants}
use Rattle.units.specs.Tests.{pick, picked_of_both}
use Rattle.units.specs.Sums.{sum_to, sum_zero, sum_same, sum_add, sum_none}
use Rattle.book.specs.Book.{Book}
use Rattle.book.specs.Sound.{SoundBook}
use Rattle.book.specs.RecordSums.{quantity_in}
use Rattle.book.specs.Trading.{of_tenant, filled, traded, trade_records, trade_written}
use Rattle.opening.specs.Opening.{bought, sold}
use Rattle.entry.specs.declared.Entry.{Entry}
use Rattle.entry.specs.declared.Quotes.{Quotes}
use Rattle.entry.specs.declared.Settings.{Settings}
use Rattle.entry.specs.declared.Terms.{Terms}
use Rattle.entry.specs.Entry.{is_buy}
use Rattle.checks.specs.TurnDown.{converts, as_judged}
use Rattle.lanes.specs.Runs.{counts_for}
use Rattle.tally.specs.declared.Tally.{Tally}
use Rattle.tally.specs.Tallies as tallies
use Rattle.tally.specs.Tallies.{plus, tally_at, no_tallies, added, only_for, counted, bought_in_all, sold_in_all}
use Rattle.tally.specs.TallyLaws.{added_length, added_at, plus_same, plus_none, plus_twice, only_none, only_sum}
use Rattle.session.specs.declared.Session.{Session}
use Rattle.session.specs.Market.{Market, Called}
use Rattle.dealing.specs.Settle.{opposite, resting_share, tallies_after}
use Rattle.session.specs.Turn.{TurnDone, quotes_in}
use Rattle.session.specs.Open.{OpenDone, open_quiet, open_at}
use Rattle.demands.specs.Runs.{Call, Answer, settings, away, submit, turn, opening, coded, turned, opened, step, after, lane_in, head_entry, resets, Start, Reached}
use Rattle.demands.specs.Outcomes as outcomes
use Rattle.demands.specs.Outcomes.{SetCame, CallCame, set_came, away_came, submit_came}
use Rattle.demands.specs.TurnCases as TurnCases
use Rattle.demands.specs.TurnCases.{turn_counted, rest_done, OutcomeOf, of_cancel, of_order, cancels, no_such, turned_down, rests, trades}
use Rattle.demands.specs.OpenCases as OpenCases
use Rattle.demands.specs.Demand2.{judged, bound_in}
use Rattle.demands.specs.RunLaws.{reached_has, reset_to, run_since}
use Rattle.demands.specs.SoundnessProof.{Stands, start_stands, step_stands, reached_stands}
use Rattle.demands.specs.Tallies.{in_records, bought_in, sold_in, turns_by, bought_by, sold_by, sum_since, Tallies}
use Rattle.demands.specs.Told.{trade_told, trade_all, bought_told, sold_told, bought_all, sold_all}

-- tallies after a call that counts so much for each tenant
abbrev Adds : List Tally → List Tally → (ℕ → ℕ) → (ℕ → ℕ) → (ℕ → ℕ) → Type 0
Adds xs ys turns bought sold = (u : ℕ) → u < tenants → tally_at ys u ≡ plus (tally_at xs u) (turns u) (bought u) (sold u)

adds_none : (xs : List Tally) → Adds xs xs (λ u. 0) (λ u. 0) (λ u. 0)
adds_none xs u h = sym (plus_none (tally_at xs u))

-- a turn of lane t, as the tallies count it
counts_is : (t u : ℕ) → only_for t 1 u ≡ counts_for u (Some t)
counts_is t u = elim (ℕ_discrete u t) [
  | yes e ↦ rw (eq-eqb u t e, eq-eqb t u (sym e))
  | no n ↦ rw (ne_eqb u t n, ne_eqb t u (λ e. n (sym e)))
]

-- an order keeps its side when it is judged
judged_side : (e : Entry) (q : Quotes) (t : Terms) → is_buy (as_judged e q t) ≡ is_buy e
unfolding as_judged
judged_side e q t = picked_of_both (λ (x : Entry). is_buy x ≡ is_buy e) (converts e q) _ _ refl refl

-- the count of a taken turn
taken_adds : (xs : List Tally) (t : ℕ) → length xs ≡ tenants → Adds xs (counted xs t 1 0 0) (λ u. counts_for u (Some t)) (λ u. 0) (λ u. 0)
taken_adds xs t long u h =
    added_at (only_for t 1) (only_for t 0) (only_for t 0) xs u (rw long h) ∙ plus_same (tally_at xs u) (counts_is t u) (only_none t u) (only_none t u)

-- an order that trades, on market m
module _ (m : Market) (t : ℕ) (was : List ℕ) (next : ℕ) (sound : SoundBook m.book next) (j : Entry) (bound : ℕ) where
  abbrev b : Book
  b = m.book

  abbrev a : ℕ
  a = m.session.terms.allocation

  abbrev f : ℕ
  f = filled b (opposite j) bound j.size.0

  abbrev resting : ℕ → ℕ
  resting u = of_tenant b u (traded b (opposite j) bound j.size.0 a)

  -- what its records tell
  abbrev told : ℕ → ℕ
  told =
      let w = trade_written b (opposite j) bound j.size.0 a was in
      in_records w (quantity_in w) (trade_records b (opposite j) bound j.size.0 a)

  told_is : (u : ℕ) → resting u ≡ told u
  told_is u = sym (trade_told b next sound (opposite j) bound j.size.0 a was u)

  told_all : sum_to told tenants ≡ f
  told_all = sum_same tenants (λ u _. sym (told_is u)) ∙ trade_all b next sound (opposite j) bound j.size.0 a was

  -- one more addition to what counting the turn made
  then : (xs ys : List Tally) → length xs ≡ tenants → ys ≡ counted xs t 1 0 0 → (g h : ℕ → ℕ) → Adds xs (added (λ u. 0) g h ys) (λ u. counts_for u (Some t)) g h
  then xs ys long e g h u l =
      let same : length ys ≡ tenants = ap length e ∙ (added_length _ _ _ 0 xs ∙ long) in
      added_at (λ u. 0) g h ys u (rw same l)
      ∙ (ap (λ (x : Tally). plus x 0 (g u) (h u)) (ap (λ (x : List Tally). tally_at x u) e ∙ taken_adds xs t long u l)
      ∙ (plus_twice (tally_at xs u) (counts_for u (Some t)) 0 0 0 (g u) (h u) ∙ plus_same (tally_at xs u) (add-zero _) (zero-add _) (zero-add _)))

  sided_adds :
      (xs ys : List Tally) → length xs ≡ tenants → ys ≡ counted xs t 1 0 0 → (x : Bool) →
      Adds xs (pick x (added (λ u. 0) (only_for t f) resting ys) (added (λ u. 0) resting (only_for t f) ys)) (λ u. counts_for u (Some t))
      (λ u. pick x (only_for t f u) (told u)) (λ u. pick x (told u) (only_for t f u))
  unfolding pick
  sided_adds xs ys long e true u l = then xs ys long e (only_for t f) resting u l ∙ plus_same (tally_at xs u) refl refl (told_is u)
  sided_adds xs ys long e false u l = then xs ys long e resting (only_for t f) u l ∙ plus_same (tally_at xs u) refl (told_is u) refl

  traded_adds :
      (xs ys : List Tally) → length xs ≡ tenants → ys ≡ counted xs t 1 0 0 → (x : Bool) → is_buy j ≡ x →
      Adds xs (tallies_after ys t j b bound a) (λ u. counts_for u (Some t)) (λ u. pick x (only_for t f u) (told u)) (λ u. pick x (told u) (only_for t f u))
  unfolding tallies_after resting_share
  traded_adds xs ys long e x is u l =
      ap (λ y. tally_at (pick y (added (λ u. 0) (only_for t f) resting ys) (added (λ u. 0) resting (only_for t f) ys)) u) is ∙ sided_adds xs ys long e x u l

  -- its tenant gets what the resting tenants give, or the other way round
  traded_even : t < tenants → (x : Bool) → sum_to (λ u. pick x (only_for t f u) (told u)) tenants ≡ sum_to (λ u. pick x (told u) (only_for t f u)) tenants
  unfolding pick
  traded_even h true = only_sum t f h ∙ sym told_all
  traded_even h false = told_all ∙ sym (only_sum t f h)

-- a call adds to the tallies what it says, and as much bought as sold
record Counts (m next : Market) (a : Answer) (records : List ℕ) : Type 0 where
  adds : Adds m.session.tallies next.session.tallies (λ u. counts_for u (lane_in a)) (bought_in m a records) (sold_in m a records)
  even : sum_to (bought_in m a records) tenants ≡ sum_to (sold_in m a records) tenants

abbrev TurnCounts : Market → TurnDone → Type 0
TurnCounts m d = Counts m d.market (turned d.answer) d.records

abbrev OpenCounts : Market → OpenDone → Type 0
OpenCounts m d = Counts m d.market (opened d.answer) d.records

-- settings refused, away and submit count nothing
none_counts : (m next : Market) (code : ℕ) → next.session.tallies ≡ m.session.tallies → Counts m next (coded code) []
none_counts m next code same = record { adds = λ u h. ap (λ (x : List Tally). tally_at x u) same ∙ adds_none m.session.tallies u h; even = refl }

call_counts : (m next : Market) (n : ℕ) {d : Called} → next.session.tallies ≡ m.session.tallies → CallCame m next n d → Counts m d.market (coded d.code) []
call_counts m next n same (outcomes.refused h) = none_counts m m n refl
call_counts m next n same (outcomes.accepted e) = none_counts m next 0 same

set_counts : (m : Market) (given : Settings) {d : Called} → resets (settings given) (coded d.code) ≡ false → SetCame m given d → Counts m d.market (coded d.code) []
set_counts m given r (outcomes.refused none) = none_counts m m 7 refl
set_counts m given r (outcomes.accepted g e h) = absurd (true≢false r)

-- the one or the other of two that are 0
either_none : (x : Bool) {a b : ℕ} → a ≡ 0 → b ≡ 0 → pick x a b ≡ 0
either_none x = picked_of_both (λ k. k ≡ 0) x _ _

module _ (m : Market) (stands : Stands m) where
  module _ (t : ℕ) (tenant : t < tenants) (set : m.session.accepted ≡ true) (was : List ℕ) where
    counted_once : Adds m.session.tallies (turn_counted m t) (λ u. counts_for u (Some t)) (λ u. 0) (λ u. 0)
    counted_once = taken_adds m.session.tallies t stands.shaped.tallies_long

    taken_counts : {d : TurnDone} → OutcomeOf m was t d → TurnCounts m d
    taken_counts (of_cancel c (cancels row h)) = record { adds = counted_once; even = refl }
    taken_counts (of_cancel c (no_such is above)) = record { adds = counted_once; even = refl }
    taken_counts (of_order c (turned_down h)) = record { adds = counted_once; even = refl }
    -- an order that rests at once has nothing filled and no record
    taken_counts (of_order c (rests n o)) =
        let buys : (u : ℕ) → bought_in m (turned (rest_done m t was).answer) was u ≡ 0 = λ u. either_none _ (only_none t u) (sum_zero _) in
        let sells : (u : ℕ) → sold_in m (turned (rest_done m t was).answer) was u ≡ 0 = λ u. either_none _ (sum_zero _) (only_none t u) in
        record {
          adds = λ u h. counted_once u h ∙ plus_same (tally_at m.session.tallies u) refl (sym (buys u)) (sym (sells u));
          even = sum_none tenants (λ u _. buys u) ∙ sym (sum_none tenants (λ u _. sells u));
        }
    taken_counts (of_order c (trades n o)) =
        let side = judged_side (head_entry m t) (quotes_in m) m.session.terms in
        let book = (stands.sound set).ready.book in
        record {
          adds = traded_adds m t was m.session.next book (judged m t) (bound_in m t) m.session.tallies _ stands.shaped.tallies_long refl (is_buy (head_entry m t)) side;
          even = traded_even m t was m.session.next book (judged m t) (bound_in m t) tenant (is_buy (head_entry m t));
        }

  turn_counts : (lent : ℕ) (was : List ℕ) {d : TurnDone} → TurnCases.Outcome m lent was d → TurnCounts m d
  turn_counts lent was (TurnCases.refused h) = record { adds = adds_none m.session.tallies; even = refl }
  turn_counts lent was (TurnCases.taken t s o) =
      taken_counts t (TurnCases.first_busy m t stands.shaped.place s.lane).lane (TurnCases.served_set m lent t s) was o

  open_counts : (lent : ℕ) (was : List ℕ) {d : OpenDone} → OpenCases.Outcome m lent was d → OpenCounts m d
  unfolding open_at open_quiet
  open_counts lent was (OpenCases.refused h) = record { adds = adds_none m.session.tallies; even = refl }
  open_counts lent was (OpenCases.quiet e c) = record {
    adds = λ u h. adds_none m.session.tallies u h ∙ plus_same (tally_at m.session.tallies u) refl (sym (sum_zero _)) (sym (sum_zero _));
    even = sum_same tenants (λ u _. sum_zero _ ∙ sym (sum_zero _));
  }
  open_counts lent was (OpenCases.opens p e c f) =
      let book = (stands.sound (OpenCases.open_set m lent e)).ready.book in
      let buys = bought_told m.book m.session.next book p.0 was in
      let sells = sold_told m.book m.session.next book p.0 was in
      record {
        adds = λ u h.
            added_at _ _ _ m.session.tallies u (rw stands.shaped.tallies_long h)
            ∙ plus_same (tally_at m.session.tallies u) refl (sym (buys u)) (sym (sells u));
        even =
            sum_same tenants (λ u _. buys u)
            ∙ (bought_all m.book m.session.next book p.0 was
            ∙ (sym (sold_all m.book m.session.next book p.0 was) ∙ sym (sum_same tenants (λ u _. sells u))));
      }

  step_counts : (c : Call) → resets c (step m c).answer ≡ false → Counts m (step m c).market (step m c).answer (step m c).records
  step_counts (settings given) r = set_counts m given r (set_came m given)
  step_counts (away bid offer) r = call_counts m _ _ refl (away_came m bid offer)
  step_counts (submit tenant count ns) r = call_counts m _ _ refl (submit_came m tenant count ns)
  step_counts (turn lent was) r = turn_counts lent was (TurnCases.outcome m lent was)
  step_counts (opening lent was) r = open_counts lent was (OpenCases.outcome m lent was)

-- accepted settings empty the tallies
step_resets : (m : Market) (c : Call) → resets c (step m c).answer ≡ true → (step m c).market.session.tallies ≡ no_tallies
step_resets m c r = ap (λ (x : Market). x.session.tallies) (reset_to m c r).1

no_tally : (u : ℕ) → u < tenants → tally_at no_tallies u ≡ tallies.zero
no_tally u = get_or-replicate {A = Tally} tenants u tallies.zero tallies.zero

-- a number of the tallies, and what each call counts for it
module _ (field : Tally → ℕ) (part : ℕ → Market → Call → ℕ) (nothing : field tallies.zero ≡ 0)
    (is : (x : Tally) (u : ℕ) (m : Market) (c : Call) → field (plus x (turns_by u m c) (bought_by u m c) (sold_by u m c)) ≡ field x + part u m c) where
  module _ (u : ℕ) (h : u < tenants) where
    record Sums (m : Market) (n : ℕ) : Type 0 where
      stands : Stands m
      is_sum : field (tally_at m.session.tallies u) ≡ n

    none_sum : field (tally_at no_tallies u) ≡ 0
    none_sum = ap field (no_tally u h) ∙ nothing

  start_sums : (m : Market) → Start m → (cs : List Call) (u : ℕ) → u < tenants → field (tally_at (after m cs).session.tallies u) ≡ sum_since (part u) 0 m cs
  start_sums m s cs u h =
      (run_since (λ m c before. before + part u m c) 0 (Sums u h)
      (λ m c r n k. record {
        stands = step_stands m c k.stands;
        is_sum = ap (λ (x : List Tally). field (tally_at x u)) (step_resets m c r) ∙ none_sum u h;
      })
      (λ m c r n k. record {
        stands = step_stands m c k.stands;
        is_sum = ap field ((step_counts m k.stands c r).adds u h) ∙ (is (tally_at m.session.tallies u) u m c ∙ ap (λ x. x + part u m c) k.is_sum);
      })
      m cs 0 (record { stands = start_stands m s; is_sum = ap (λ (x : Session). field (tally_at x.tallies u)) s.new ∙ none_sum u h })).is_sum

-- as much bought as sold
none_even : bought_in_all no_tallies ≡ sold_in_all no_tallies
none_even = sum_same tenants (λ u h. ap (λ (x : Tally). x.bought) (no_tally u h) ∙ sym (ap (λ (x : Tally). x.sold) (no_tally u h)))

record Even (m : Market) : Type 0 where
  stands : Stands m
  same : bought_in_all m.session.tallies ≡ sold_in_all m.session.tallies

step_even : (m : Market) → Stands m → (c : Call) (x : Bool) → resets c (step m c).answer ≡ x
    → bought_in_all m.session.tallies ≡ sold_in_all m.session.tallies → bought_in_all (step m c).market.session.tallies ≡ sold_in_all (step m c).market.session.tallies
step_even m stands c true r e = rw (step_resets m c r) none_even
step_even m stands c false r e =
    let counts = step_counts m stands c r in
    let xs = m.session.tallies in
    sum_add (λ u. (tally_at xs u).bought) (λ u. bought_by u m c) tenants (λ u h. ap (λ (x : Tally). x.bought) (counts.adds u h))
    ∙ (ap₂ ◌+◌ e counts.even
    ∙ sym (sum_add (λ u. (tally_at xs u).sold) (λ u. sold_by u m c) tenants (λ u h. ap (λ (x : Tally). x.sold) (counts.adds u h))))

reached_even : (m : Market) → Reached m → bought_in_all m.session.tallies ≡ sold_in_all m.session.tallies
reached_even m r = (reached_has Even (λ m c e. record { stands = step_stands m c e.stands; same = step_even m e.stands c _ refl e.same }) start_even m r).same
  where
    start_even : (m : Market) → Start m → Even m
    start_even m s = record { stands = start_stands m s; same = rw s.new none_even }

call_even : (m : Market) → Stands m → (c : Call) → sum_to (λ u. bought_by u m c) tenants ≡ sum_to (λ u. sold_by u m c) tenants
call_even m stands (settings given) = refl
call_even m stands (away bid offer) = refl
call_even m stands (submit tenant count ns) = refl
call_even m stands (turn lent was) = (turn_counts m stands lent was (TurnCases.outcome m lent was)).even
call_even m stands (opening lent was) = (open_counts m stands lent was (OpenCases.outcome m lent was)).even

pub tallies_told : Tallies
tallies_told = record {
  turns = start_sums (λ x. x.turns) turns_by refl (λ x u m c. refl);
  bought = start_sums (λ x. x.bought) bought_by refl (λ x u m c. refl);
  sold = start_sums (λ x. x.sold) sold_by refl (λ x u m c. refl);
  each_call = λ m r. call_even m (reached_stands m r);
  in_all = reached_even;
}
