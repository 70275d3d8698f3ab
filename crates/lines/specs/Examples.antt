-- Lines as they are printed: those of the worked example, and the longest numbers.
use Rattle.std.specs.Prelude.{◌≡◌, refl, List, [], ◌∷◌}
use Rattle.units.specs.Decimal.{spelled, decimal}
use Rattle.lines.specs.Lines.{spaced, set_line, away_line, submit_line, turn_line, refused_line, open_line, fill_line_of, gone_line, tape_line, end_line}
use Rattle.lines.specs.Gone.{filled_of, gone_order}
use Rattle.lines.specs.Lines.{tally_line}
use Rattle.units.specs.Units.{cents, contracts}
use Rattle.units.specs.Sums.{sum_to}
use Rattle.units.specs.Picked.{same}
use Rattle.book.specs.declared.Fill.{Fill}

-- the worked example, line by line; `submit 0` stands in it twice
-- `set 0`
pub settings : set_line 0 ≡ 115 ∷ 101 ∷ 116 ∷ 32 ∷ 48 ∷ 10 ∷ []
unfolding spaced decimal spelled
settings = refl

-- `open 0 0 0`
pub opening : open_line 0 0 0 ≡ 111 ∷ 112 ∷ 101 ∷ 110 ∷ 32 ∷ 48 ∷ 32 ∷ 48 ∷ 32 ∷ 48 ∷ 10 ∷ []
unfolding spaced decimal spelled
opening = refl

-- `submit 0`
pub submitted : submit_line 0 ≡ 115 ∷ 117 ∷ 98 ∷ 109 ∷ 105 ∷ 116 ∷ 32 ∷ 48 ∷ 10 ∷ []
unfolding spaced decimal spelled
submitted = refl

-- `turn 2 0 1 0 1`
pub first_turn : turn_line 2 0 1 0 1 ≡ 116 ∷ 117 ∷ 114 ∷ 110 ∷ 32 ∷ 50 ∷ 32 ∷ 48 ∷ 32 ∷ 49 ∷ 32 ∷ 48 ∷ 32 ∷ 49 ∷ 10 ∷ []
unfolding spaced decimal spelled
first_turn = refl

-- `turn 7 0 2 3 0`
pub second_turn : turn_line 7 0 2 3 0 ≡ 116 ∷ 117 ∷ 114 ∷ 110 ∷ 32 ∷ 55 ∷ 32 ∷ 48 ∷ 32 ∷ 50 ∷ 32 ∷ 51 ∷ 32 ∷ 48 ∷ 10 ∷ []
unfolding spaced decimal spelled
second_turn = refl

-- `fill 1 2 3 100`
pub its_fill : fill_line_of (record { number = 1; tenant = 2; quantity = contracts 3; price = cents 100 }) ≡ 102 ∷ 105 ∷ 108 ∷ 108 ∷ 32 ∷ 49 ∷ 32 ∷ 50 ∷ 32 ∷ 51 ∷ 32 ∷ 49 ∷ 48 ∷ 48 ∷ 10 ∷ []
unfolding spaced decimal spelled
its_fill = refl

-- `refused 5`
pub third_turn : refused_line 5 ≡ 114 ∷ 101 ∷ 102 ∷ 117 ∷ 115 ∷ 101 ∷ 100 ∷ 32 ∷ 53 ∷ 10 ∷ []
unfolding spaced decimal spelled
third_turn = refl

-- `end`
pub at_the_end : end_line ≡ 101 ∷ 110 ∷ 100 ∷ 10 ∷ []
at_the_end = refl

-- the other lines
-- `away 8`
pub away_refused : away_line 8 ≡ 97 ∷ 119 ∷ 97 ∷ 121 ∷ 32 ∷ 56 ∷ 10 ∷ []
unfolding spaced decimal spelled
away_refused = refl

-- `gone 4294967295`
pub one_gone : gone_line 4294967295 ≡ 103 ∷ 111 ∷ 110 ∷ 101 ∷ 32 ∷ 52 ∷ 50 ∷ 57 ∷ 52 ∷ 57 ∷ 54 ∷ 55 ∷ 50 ∷ 57 ∷ 53 ∷ 10 ∷ []
unfolding spaced decimal spelled
one_gone = refl

-- `tape 30 18446744073709551615`
pub bad_number : tape_line 30 18446744073709551615 ≡ 116 ∷ 97 ∷ 112 ∷ 101 ∷ 32 ∷ 51 ∷ 48 ∷ 32 ∷ 49 ∷ 56 ∷ 52 ∷ 52 ∷ 54 ∷ 55 ∷ 52 ∷ 52 ∷ 48 ∷ 55 ∷ 51 ∷ 55 ∷ 48 ∷ 57 ∷ 53 ∷ 53 ∷ 49 ∷ 54 ∷ 49 ∷ 53 ∷ 10 ∷ []
unfolding spaced decimal spelled
bad_number = refl

-- `tally 7 1 0 3`
pub seller_done : tally_line 7 1 0 3 ≡ 116 ∷ 97 ∷ 108 ∷ 108 ∷ 121 ∷ 32 ∷ 55 ∷ 32 ∷ 49 ∷ 32 ∷ 48 ∷ 32 ∷ 51 ∷ 10 ∷ []
unfolding spaced decimal spelled
seller_done = refl

-- E11: #1 bought 4 of its 5 and is then cancelled; #3 sold its 4 and is filled whole; #2 and #4 trade nothing, and rest
abbrev fills_of_e11 : List Fill
fills_of_e11 =
    record { number = 1; tenant = 0; quantity = contracts 4; price = cents 105 }
    ∷ record { number = 3; tenant = 1; quantity = contracts 4; price = cents 105 }
    ∷ []

pub e11_first : gone_order fills_of_e11 2 5 0 1 ≡ 1
unfolding gone_order filled_of sum_to same
e11_first = refl

pub e11_third : gone_order fills_of_e11 2 4 0 3 ≡ 0
unfolding gone_order filled_of sum_to same
e11_third = refl

pub e11_fourth : gone_order fills_of_e11 2 3 3 4 ≡ 0
unfolding gone_order filled_of sum_to same
e11_fourth = refl
