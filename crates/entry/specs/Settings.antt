-- The settings: their ranges, and what accepted ones say.
use Rattle.std.specs.Prelude.{Bool, leb, eqb}
use Rattle.units.specs.declared.grid.Grid.{Grid}
use Rattle.units.specs.Tests.{◌and◌}
use Rattle.rows.specs.Rows.{highest}
use Rattle.entry.specs.declared.Settings.{Settings}
use Rattle.entry.specs.declared.Terms.{Terms}
use Rattle.entry.specs.Numbers.{one_or_two, from1to}

-- Allocation 1 time or 2 proportional; type 1 call or 2 put; strike, 1 to 1,000,000;
unfoldable pub series_in_range : Settings → Bool
series_in_range s = one_or_two s.allocation and one_or_two s.option and from1to highest s.strike.0

-- drill buffer D and far-price buffer F, 0 to 1,000,000; width percent x, 0 to 1,000; least and greatest width, least ≤
-- greatest ≤ 1,000,000;
unfoldable pub protections_in_range : Settings → Bool
protections_in_range s =
    (leb s.drill.0 highest and leb s.far.0 highest)
    and (leb s.percent 1000 and (leb s.least.0 s.greatest.0 and leb s.greatest.0 highest))

-- last print and previous close, 0 to 1,000,000
unfoldable pub prints_in_range : Settings → Bool
prints_in_range s = leb s.print.0 highest and leb s.close.0 highest

-- all values but the grid's number lie in the list; that one is a grid's or is not
unfoldable pub in_range : Settings → Bool
in_range s = series_in_range s and protections_in_range s and prints_in_range s

-- the settings as accepted, on the grid of their number
abbrev pub terms_of : Settings → Grid → Terms
terms_of s g = record {
  allocation = s.allocation;
  grid = g;
  put = eqb s.option 2;
  strike = s.strike;
  drill = s.drill;
  far = s.far;
  percent = s.percent;
  least = s.least;
  greatest = s.greatest;
  print = s.print;
  close = s.close;
}
