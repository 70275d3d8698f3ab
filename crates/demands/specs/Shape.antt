-- What every call keeps, and the shape of every reached market: 216 rows, nine lanes, nine tallies.
use Rattle.std.specs.Prelude.{◌≡◌, true, List, ℕ, ◌+◌, ◌-◌, ◌%◌, ◌<◌, length}
use Rattle.std.proofs.Math.Path.{refl}
use Rattle.std.proofs.Common.{sym, ap, ◌∙◌, subst, arith, length-set}
use Rattle.std.proofs.lemmas.List.{length-replicate}
use Rattle.units.specs.declared.Cents.{Cents}
use Rattle.units.specs.declared.grid.Grid.{Grid}
use Rattle.units.specs.Units.{tenants}
use Rattle.rows.specs.Rows.{rows}
use Rattle.book.specs.Book.{Book}
use Rattle.opening.specs.Opening.{after_opening}
use Rattle.entry.specs.declared.Settings.{Settings}
use Rattle.entry.specs.Settings.{in_range, terms_of}
use Rattle.lanes.specs.declared.Lanes.{Lanes}
use Rattle.lanes.specs.Ring.{depth, heads, lens, head_of, len_of, joined, taken}
use Rattle.lanes.specs.RingLaws.{heads_joined, lens_joined, heads_taken, lens_taken}
use Rattle.lanes.specs.Marks.{empty_marked}
use Rattle.tally.specs.declared.Tally.{Tally}
use Rattle.tally.specs.Tallies as tallies
use Rattle.tally.specs.TallyLaws.{added_length}
use Rattle.session.specs.declared.Session.{Session}
use Rattle.session.specs.Market.{Market, Called, market_of, with_away}
use Rattle.session.specs.Settings.{reset_on}
use Rattle.session.specs.Submit.{with_entries}
use Rattle.session.specs.Turn.{TurnDone}
use Rattle.session.specs.Open.{OpenDone, opened_to, open_quiet, open_at}
use Rattle.demands.specs.Runs.{Call, settings, away, submit, turn, opening, step, Start, Reached}
use Rattle.demands.specs.RunLaws.{reached_has}
use Rattle.demands.specs.Outcomes as outcomes
use Rattle.demands.specs.Outcomes.{SetCame, CallCame, set_came, away_came, submit_came}
use Rattle.demands.specs.TurnCases as TurnCases
use Rattle.demands.specs.TurnCases.{Leaves, leaves}
use Rattle.demands.specs.OpenCases as OpenCases

-- P after each way that a call can come out
pub record Keeps (P : Market → Type 0) (m : Market) : Type 0 where
  pub refused : P m
  pub reset : (given : Settings) (g : Grid) → in_range given ≡ true → P (reset_on m (terms_of given g))
  pub quoted : (bid offer : Cents) → P (market_of (with_away m.session bid offer) m.book m.entries)
  pub joins : (tenant count : ℕ) (ns : List ℕ) → P (with_entries m tenant count ns)
  pub takes : (was : List ℕ) (t : ℕ) (d : TurnDone) → m.session.accepted ≡ true → Leaves m was t d → P d.market
  pub opens :
      (b : Book) (ts : List Tally) → m.session.accepted ≡ true → b.places ≡ m.book.places → length ts ≡ length m.session.tallies → P (opened_to m b ts)

module _ (P : Market → Type 0) (m : Market) (keeps : Keeps P m) where
  called_has : (next : Market) (r : ℕ) → P next → {d : Called} → CallCame m next r d → P d.market
  called_has next r q (outcomes.refused h) = keeps.refused
  called_has next r q (outcomes.accepted e) = q

  set_has : (given : Settings) {d : Called} → SetCame m given d → P d.market
  set_has given (outcomes.refused none) = keeps.refused
  set_has given (outcomes.accepted g e h) = keeps.reset given g h

  turn_has : (lent : ℕ) (was : List ℕ) {d : TurnDone} → TurnCases.Outcome m lent was d → P d.market
  turn_has lent was (TurnCases.refused h) = keeps.refused
  turn_has lent was (TurnCases.taken t s o) = keeps.takes was t _ (TurnCases.served_set m lent t s) (leaves m was t o)

  open_has : (lent : ℕ) (was : List ℕ) {d : OpenDone} → OpenCases.Outcome m lent was d → P d.market
  unfolding open_at open_quiet after_opening
  open_has lent was (OpenCases.refused h) = keeps.refused
  open_has lent was (OpenCases.quiet e c) = keeps.opens _ _ (OpenCases.open_set m lent e) refl refl
  open_has lent was (OpenCases.opens p e c f) = keeps.opens _ _ (OpenCases.open_set m lent e) refl (added_length _ _ _ 0 m.session.tallies)

  pub step_has : (c : Call) → P (step m c).market
  step_has (settings given) = set_has given (set_came m given)
  step_has (away bid offer) = called_has _ _ (keeps.quoted bid offer) (away_came m bid offer)
  step_has (submit tenant count ns) = called_has _ _ (keeps.joins tenant count ns) (submit_came m tenant count ns)
  step_has (turn lent was) = turn_has lent was (TurnCases.outcome m lent was)
  step_has (opening lent was) = open_has lent was (OpenCases.outcome m lent was)

pub record Shaped (m : Market) : Type 0 where
  pub places : m.book.places ≡ rows
  pub heads_long : length (heads m.session.lanes) ≡ tenants
  pub lens_long : length (lens m.session.lanes) ≡ tenants
  pub place : m.session.lanes.place < tenants
  pub tallies_long : length m.session.tallies ≡ tenants

-- lanes of nine stay so
taken_heads : (l : Lanes) (t : ℕ) → length (heads (taken l t)) ≡ length (heads l)
taken_heads l t = ap length (heads_taken l t) ∙ length-set (heads l) t ((head_of l t + 1) % depth)

taken_lens : (l : Lanes) (t : ℕ) → length (lens (taken l t)) ≡ length (lens l)
taken_lens l t = ap length (lens_taken l t) ∙ length-set (lens l) t (len_of l t - 1)

taken_place : (l : Lanes) (t : ℕ) → (taken l t).place < tenants
unfolding taken
taken_place l t = omega arith

shape_keeps : (m : Market) → Shaped m → Keeps Shaped m
unfolding joined
shape_keeps m s = record {
  refused = s;
  reset = λ given g _. record {
    places = s.places;
    heads_long = empty_marked.heads_long;
    lens_long = empty_marked.lens_long;
    place = omega arith;
    tallies_long = length-replicate {A = Tally} tenants tallies.zero;
  };
  quoted = λ bid offer. record {
    places = s.places;
    heads_long = s.heads_long;
    lens_long = s.lens_long;
    place = s.place;
    tallies_long = s.tallies_long;
  };
  joins = λ tenant count ns. record {
    places = s.places;
    heads_long = ap length (heads_joined m.session.lanes tenant count) ∙ s.heads_long;
    lens_long =
        ap length (lens_joined m.session.lanes tenant count)
        ∙ length-set (lens m.session.lanes) tenant (len_of m.session.lanes tenant + count)
        ∙ s.lens_long;
    place = s.place;
    tallies_long = s.tallies_long;
  };
  takes = λ was t d _ left. record {
    places = left.places ∙ s.places;
    heads_long = rw left.lanes (taken_heads m.session.lanes t ∙ s.heads_long);
    lens_long = rw left.lanes (taken_lens m.session.lanes t ∙ s.lens_long);
    place = rw left.lanes (taken_place m.session.lanes t);
    tallies_long = left.tallies_long ∙ s.tallies_long;
  };
  opens = λ b ts _ p q. record {
    places = p ∙ s.places;
    heads_long = s.heads_long;
    lens_long = s.lens_long;
    place = s.place;
    tallies_long = q ∙ s.tallies_long;
  };
}

-- every call keeps the shape
pub step_shaped : (m : Market) (c : Call) → Shaped m → Shaped (step m c).market
step_shaped m c s = step_has Shaped m (shape_keeps m s) c

pub start_shaped : (m : Market) → Start m → Shaped m
start_shaped m s = record {
  places = s.places;
  heads_long = ap (λ (x : Session). length (heads x.lanes)) s.new ∙ empty_marked.heads_long;
  lens_long = ap (λ (x : Session). length (lens x.lanes)) s.new ∙ empty_marked.lens_long;
  place = subst (λ (x : Session). x.lanes.place < tenants) (sym s.new) (omega arith);
  tallies_long = ap (λ (x : Session). length x.tallies) s.new ∙ length-replicate {A = Tally} tenants tallies.zero;
}

pub reached_shaped : (m : Market) → Reached m → Shaped m
reached_shaped = reached_has Shaped step_shaped start_shaped
