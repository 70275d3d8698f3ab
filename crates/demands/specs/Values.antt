-- What a run answers, in the paper's numbers.
use Rattle.std.specs.Prelude.{List, [], ◌∷◌, ℕ}
use Rattle.session.specs.Market.{Market}
use Rattle.session.specs.Turn as turn
use Rattle.session.specs.Open as opening
use Rattle.demands.specs.Runs.{Call, Answer, coded, turned, opened, step}

-- `set C`, `away C` and `submit C`; `turn T C N F D` or `refused C`; `open C P V`
pub data Values : Type 0 where
  of_call : ℕ → Values
  of_turn : turn.Printed → Values
  of_open : opening.Line → Values

abbrev pub values_of : Answer → Values
values_of (coded code) = of_call code
values_of (turned a) = of_turn (turn.printed a)
values_of (opened a) = of_open (opening.printed a)

-- what the calls of a run answer, in their order
abbrev pub values_by : Market → List Call → List Values
values_by m [] = []
values_by m (c ∷ cs) = values_of (step m c).answer ∷ values_by (step m c).market cs

-- the values of a taken turn and of an opening, in the order of their lines
abbrev pub turn_line : ℕ → ℕ → ℕ → ℕ → ℕ → turn.Printed
turn_line tenant code number filled disposition =
    turn.turn (record { tenant = tenant; code = code; number = number; filled = filled; disposition = disposition })

abbrev pub open_line : ℕ → ℕ → ℕ → opening.Line
open_line code price volume = record { code = code; price = price; volume = volume }
