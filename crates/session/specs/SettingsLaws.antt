-- The cases of settings and away.
use Rattle.std.specs.Prelude.{Option, Some, None, ◌≡◌, true, false, ℕ, ◌≤◌, ◌<◌, replicate}
use Rattle.std.proofs.Common.{sym, ◌∙◌}
use borrow.Author.Tests.{lt-ltb, le-ltb}
use Rattle.units.specs.declared.Cents.{Cents}
use Rattle.units.specs.declared.grid.Grid.{Grid}
use Rattle.units.specs.Grid.{grid_of}
use Rattle.units.specs.Tests.{pick}
use Rattle.book.specs.Book.{empty_book}
use Rattle.entry.specs.declared.Settings.{Settings}
use Rattle.entry.specs.declared.Terms.{Terms}
use Rattle.entry.specs.Settings.{in_range, terms_of}
use Rattle.lanes.specs.Ring.{all_entries}
use Rattle.session.specs.declared.Session.{Session}
use Rattle.session.specs.Market.{Market, market_of, with_away}
use Rattle.session.specs.Settings.{started_on, settings_of, away_refusal, away_of}

module _ (m : Market) (s : Settings) where
  -- what of the grid of the number and of the ranges the code has in hand
  pub settings_no_grid : {c : Option Grid} → c ≡ grid_of s.grid → c ≡ None → record { market = m; code = 7 } ≡ settings_of m s
  unfolding settings_of
  settings_no_grid p q = rw (sym p ∙ q)

  pub settings_outside : {c : Option Grid} (g : Grid) → c ≡ grid_of s.grid → c ≡ Some g → in_range s ≡ false → record { market = m; code = 7 } ≡ settings_of m s
  unfolding settings_of pick
  settings_outside g p q h = rw (sym p ∙ q, h)

  pub settings_accepted :
      {c : Option Grid} (g : Grid) (t : Terms) (after : Session) → c ≡ grid_of s.grid → c ≡ Some g → in_range s ≡ true → t ≡ terms_of s g →
      after ≡ started_on true t →
      record { market = record { session = after; book = empty_book m.book.places; entries = replicate all_entries 0 }; code = 0 } ≡ settings_of m s
  unfolding settings_of pick
  settings_accepted g t after p q h e f = rw (sym p ∙ q, h, f, e)

module _ (m : Market) (bid offer : Cents) (code : ℕ) (is : code ≡ away_refusal m.session bid offer) where
  pub away_refused : 0 < code → record { market = m; code = code } ≡ away_of m bid offer
  unfolding away_of pick
  away_refused h = rw (← is, lt-ltb 0 code h)

  pub away_accepted : code ≤ 0 → record { market = market_of (with_away m.session bid offer) m.book m.entries; code = 0 } ≡ away_of m bid offer
  unfolding away_of pick
  away_accepted h = rw (← is, le-ltb 0 code h)
