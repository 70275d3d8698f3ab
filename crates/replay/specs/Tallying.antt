-- What is printed of the tallies, where that is asked for: a line for each tenant.
use Rattle.std.specs.Prelude.{List, [], ◌++◌, ℕ, zero, suc, ◌*◌}
use Rattle.units.specs.Units.{tenants}
use Rattle.lines.specs.Laying.{longest_tally}
use Rattle.lines.specs.Lines.{tally_line}
use Rattle.session.specs.declared.Session.{Session}
use Rattle.session.specs.Reading.{Values, values_of, tallied_of}

-- the most bytes of the nine lines
abbrev pub longest_tallies : ℕ
longest_tallies = longest_tally * tenants

-- the line of a tenant is tenant, turns, bought, sold
abbrev pub tally_line_of : ℕ → Values → List ℕ
tally_line_of t v = tally_line t v.turns v.bought v.sold

-- the lines of the first n tenants, in their order, from the values of each
unfoldable pub tally_lines_to : (ℕ → Values) → ℕ → List ℕ
tally_lines_to values zero = []
tally_lines_to values (suc n) = tally_lines_to values n ++ tally_line_of n (values n)

-- what the reading of a tenant's tally answers, in the paper's values
abbrev pub reading_of : Session → ℕ → Values
reading_of s t = values_of (tallied_of s t)

-- a line for each tenant, 0 to 8
abbrev pub tally_lines : Session → List ℕ
tally_lines s = tally_lines_to (reading_of s) tenants
