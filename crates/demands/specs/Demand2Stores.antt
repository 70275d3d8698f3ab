-- Demand 2's accepted settings, aways and submits: what each stores.
use Rattle.std.specs.Prelude.{◌≡◌, refl, List, ◌++◌, ℕ, Some}
use Rattle.std.proofs.Common.{sym, ◌∙◌, arith}
use Rattle.units.specs.declared.grid.Grid.{Grid}
use Rattle.units.specs.Grid.{grid_of}
use Rattle.entry.specs.declared.Settings.{Settings}
use Rattle.entry.specs.Settings.{terms_of}
use Rattle.lanes.specs.Waiting.{given_in, put_own, put_other}
use Rattle.session.specs.Market.{Market, Called}
use Rattle.session.specs.Settings.{reset_on}
use Rattle.session.specs.Sound.{Sound}
use Rattle.session.specs.Submit.{with_entries, submit_of}
use Rattle.session.specs.SubmitLaws.{joins}
use Rattle.demands.specs.Outcomes as outcomes
use Rattle.demands.specs.Outcomes.{SetCame, set_came, call_code, call_next, away_came, submit_came}
use Rattle.demands.specs.Demand2.{waiting_in, AcceptedStores}

settings_stores : (m : Market) (s : Settings) {d : Called} → SetCame m s d → d.code ≡ 0
    → (g : Grid) × (grid_of s.grid ≡ Some g) × (d.market ≡ reset_on m (terms_of s g))
settings_stores m s (outcomes.refused none) h = absurd (omega arith)
settings_stores m s (outcomes.accepted g e k) h = (g, e, refl)

module _ (m : Market) (tenant count : ℕ) (ns : List ℕ) (e : (submit_of m tenant count ns).code ≡ 0) where
  submit_stores : (submit_of m tenant count ns).market ≡ with_entries m tenant count ns
  submit_stores = call_next m _ _ (submit_came m tenant count ns) e

  submit_puts : Sound m → waiting_in (submit_of m tenant count ns).market tenant ≡ waiting_in m tenant ++ given_in ns count
  submit_puts sound =
      let j = joins m.session tenant count ns (sym (call_code m _ _ (submit_came m tenant count ns)) ∙ e) in
      let lanes = (sound j.set).lanes in
      rw submit_stores (put_own m.session.lanes m.entries tenant ns count j.lane lanes.marks.lens_long lanes.entries_long j.room)

  submit_leaves : (other : ℕ) → (other ≡ tenant → ⊥) → waiting_in (submit_of m tenant count ns).market other ≡ waiting_in m other
  submit_leaves other d = rw submit_stores (put_other m.session.lanes m.entries tenant ns count other d)

pub accepted_stores : AcceptedStores
accepted_stores = record {
  settings = λ m s. settings_stores m s (set_came m s);
  away = λ m bid offer. call_next m _ _ (away_came m bid offer);
  submit = λ m tenant count ns sound e. submit_puts m tenant count ns e sound;
  submit_others = λ m tenant count ns other e d. submit_leaves m tenant count ns e other d;
  submit_rest = submit_stores;
}
