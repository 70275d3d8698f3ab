-- Accepted settings have their strike and their buffers in range.
use Rattle.std.specs.Prelude.{◌≡◌, true, ◌≤◌, leb}
use borrow.Author.Tests.{leb-true}
use Rattle.units.specs.Tests.{◌and◌, and_true}
use Rattle.rows.specs.Rows.{highest}
use Rattle.entry.specs.declared.Settings.{Settings}
use Rattle.entry.specs.NumberLaws.{from1to_bounds}
use Rattle.entry.specs.Settings.{series_in_range, protections_in_range, in_range}

module _ (s : Settings) (accepted : in_range s ≡ true) where
  series_and_protections : (series_in_range s ≡ true) × (protections_in_range s ≡ true)
  unfolding in_range
  series_and_protections = and_true (series_in_range s) _ (and_true (series_in_range s and protections_in_range s) _ accepted).0

  pub strike_bounds : (1 ≤ s.strike.0) × (s.strike.0 ≤ highest)
  unfolding series_in_range
  strike_bounds = from1to_bounds highest s.strike.0 (and_true _ _ series_and_protections.0).1

  pub buffers_most : (s.drill.0 ≤ highest) × (s.far.0 ≤ highest)
  unfolding protections_in_range
  buffers_most =
      let p = and_true (leb s.drill.0 highest) _ (and_true _ _ series_and_protections.1).0 in
      (leb-true s.drill.0 highest p.0, leb-true s.far.0 highest p.1)
