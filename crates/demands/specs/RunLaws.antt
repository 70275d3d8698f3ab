-- Runs one after the other, what every call keeps, and what a run comes to since the last accepted settings.
use Rattle.std.specs.Prelude.{◌≡◌, refl, true, false, List, [], ◌∷◌, ◌++◌}
use Rattle.std.proofs.Common.{ap, ◌∙◌, subst}
use Rattle.std.proofs.lemmas.Bool.{false≢true}
use Rattle.units.specs.Tests.{picked}
use Rattle.entry.specs.declared.Terms.{Terms}
use Rattle.entry.specs.Settings.{terms_of}
use Rattle.session.specs.Market.{Market, Called}
use Rattle.session.specs.Settings.{reset_on}
use Rattle.demands.specs.Runs.{Call, settings, away, submit, turn, opening, coded, step, after, resets, since, Start, Reached}
use Rattle.demands.specs.Outcomes as outcomes
use Rattle.demands.specs.Outcomes.{SetCame, set_came}

run_on : (m : Market) (cs more : List Call) → after m (cs ++ more) ≡ after (after m cs) more
run_on m [] more = refl
run_on m (c ∷ cs) more = run_on (step m c).market cs more

pub start_reached : (m : Market) → Start m → Reached m
start_reached m s = record { start = m; starts = s; calls = []; leads = refl }

-- what a run leads to from a reached market is reached
pub reached_on : (m : Market) → Reached m → (cs : List Call) → Reached (after m cs)
reached_on m r cs = record {
  start = r.start;
  starts = r.starts;
  calls = r.calls ++ cs;
  leads = run_on r.start r.calls cs ∙ ap (λ (x : Market). after x cs) r.leads;
}

-- what every call keeps, every run keeps; and if every start has it, every reached market has it
module _ (P : Market → Type 0) (kept : (m : Market) (c : Call) → P m → P (step m c).market) where
  pub run_keeps : (m : Market) (cs : List Call) → P m → P (after m cs)
  run_keeps m [] p = p
  run_keeps m (c ∷ cs) p = run_keeps (step m c).market cs (kept m c p)

  pub reached_has : ((m : Market) → Start m → P m) → (m : Market) → Reached m → P m
  reached_has starts m r = subst P r.leads (run_keeps r.start r.calls (starts r.start r.starts))

-- what accepted settings lead to
pub reset_to : (m : Market) (c : Call) → resets c (step m c).answer ≡ true → (terms : Terms) × ((step m c).market ≡ reset_on m terms)
reset_to m (settings given) r = go (set_came m given) r
  where
    go : {d : Called} → SetCame m given d → resets (settings given) (coded d.code) ≡ true → (terms : Terms) × (d.market ≡ reset_on m terms)
    go (outcomes.refused none) r = absurd (false≢true r)
    go (outcomes.accepted g e h) r = (terms_of given g, refl)
reset_to m (away bid offer) r = absurd (false≢true r)
reset_to m (submit tenant count ns) r = absurd (false≢true r)
reset_to m (turn lent was) r = absurd (false≢true r)
reset_to m (opening lent was) r = absurd (false≢true r)

-- What holds anew after accepted settings, and goes on with every other call, holds of what a run comes to.
module _ {A : Type 0} (f : Market → Call → A → A) (none : A) (Is : Market → A → Type 0)
    (anew : (m : Market) (c : Call) → resets c (step m c).answer ≡ true → (x : A) → Is m x → Is (step m c).market none)
    (on : (m : Market) (c : Call) → resets c (step m c).answer ≡ false → (x : A) → Is m x → Is (step m c).market (f m c x)) where
  pub run_since : (m : Market) (cs : List Call) (x : A) → Is m x → Is (after m cs) (since f none x m cs)
  run_since m [] x is = is
  run_since m (c ∷ cs) x is =
      run_since (step m c).market cs _
      (picked (Is (step m c).market) (resets c (step m c).answer) none (f m c x) (λ r. anew m c r x is) (λ r. on m c r x is))
