-- How settings, away and submit come out: refused with everything as it was, or accepted. A turn's outcomes stand in
-- TurnCases, an opening's in OpenCases.
use Rattle.std.specs.Prelude.{◌≡◌, Bool, true, false, List, ℕ, ◌<◌, ltb, None, Option, Some}
use Rattle.std.proofs.Math.Path.{refl}
use Rattle.std.proofs.Common.{sym, ap, ◌∙◌, arith, ltb-true, ltb-false}
use Rattle.std.proofs.Math.Bool.{true≢false}
use Rattle.units.specs.declared.Cents.{Cents}
use Rattle.units.specs.declared.grid.Grid.{Grid}
use Rattle.units.specs.Grid.{grid_of}
use Rattle.units.specs.Tests.{pick, picked, holds_not_fails}
use Rattle.entry.specs.declared.Settings.{Settings}
use Rattle.entry.specs.Settings.{in_range, terms_of}
use Rattle.session.specs.Market.{Market, Called, market_of, with_away}
use Rattle.session.specs.Settings.{reset_on, on_grid_of, settings_of, away_refusal, away_of}
use Rattle.session.specs.Submit.{with_entries, submit_refusal, submit_of}

-- settings: accepted on the grid that they name with every other value in its range, else refused by 7
module _ (m : Market) (given : Settings) where
  pub data SetCame : Called → Type 0 where
    refused : ((g : Grid) → grid_of given.grid ≡ Some g → in_range given ≡ true → ⊥) → SetCame (record { market = m; code = 7 })
    accepted : (g : Grid) → grid_of given.grid ≡ Some g → in_range given ≡ true → SetCame (record { market = reset_on m (terms_of given g); code = 0 })

  some : (Option Grid) → Bool
  some (Some g) = true
  some None = false

  pub set_came : SetCame (settings_of m given)
  unfolding settings_of some
  set_came = go (grid_of given.grid) refl
    where
      go : (c : (Option Grid)) → grid_of given.grid ≡ c → SetCame (on_grid_of m given c)
      go None e = refused (λ g is _. true≢false (ap some (sym is ∙ e)))
      go (Some g) e = picked SetCame (in_range given) _ _ (accepted g e) (λ h. refused (λ _ _ k. holds_not_fails k h))

-- away and submit: refused by r, or the market that follows
module _ (m next : Market) (r : ℕ) where
  pub data CallCame : Called → Type 0 where
    refused : 0 < r → CallCame (record { market = m; code = r })
    accepted : r ≡ 0 → CallCame (record { market = next; code = 0 })

  call_came : CallCame (pick (ltb 0 r) (record { market = m; code = r }) (record { market = next; code = 0 }))
  call_came = picked CallCame (ltb 0 r) _ _ (λ h. refused (ltb-true 0 r h)) (λ h. accepted (omega (arith, ltb-false 0 r h)))

  -- what it answers
  pub call_code : {d : Called} → CallCame d → d.code ≡ r
  call_code (refused h) = refl
  call_code (accepted e) = omega arith

  -- and what follows if that is 0
  pub call_next : {d : Called} → CallCame d → d.code ≡ 0 → d.market ≡ next
  call_next (refused h) e = absurd (omega arith)
  call_next (accepted e) _ = refl

pub away_came : (m : Market) (bid offer : Cents) → CallCame m (market_of (with_away m.session bid offer) m.book m.entries) (away_refusal m.session bid offer) (away_of m bid offer)
unfolding away_of
away_came m bid offer = call_came m _ _

pub submit_came : (m : Market) (tenant count : ℕ) (ns : List ℕ) → CallCame m (with_entries m tenant count ns) (submit_refusal m.session tenant count ns) (submit_of m tenant count ns)
unfolding submit_of
submit_came m tenant count ns = call_came m _ _
