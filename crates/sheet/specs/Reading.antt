-- A sheet read in parts: what one step makes of the bytes of a part, and how a sheet finishes.
use Rattle.std.specs.Prelude.{List, ◌++◌, ℕ, ◌+◌, ◌-◌, ◌≤◌, ◌<◌, ltb, eqb, length, take, Result, Ok, Err}
use Rattle.std.proofs.lemmas.List.Edits.{sets}
use Rattle.units.specs.Tests.{pick}
use Rattle.sheet.specs.declared.Place.{Place}
use Rattle.sheet.specs.declared.Refused.{Refused}
use Rattle.sheet.specs.declared.Given.{Given}
use Rattle.sheet.specs.declared.Given.TheVariants as given
use Rattle.sheet.specs.Stepped.{Stepped}
use Rattle.sheet.specs.Stepped as step
use Rattle.sheet.specs.Finished.{Finished}
use Rattle.sheet.specs.Finished as finish
use Rattle.sheet.specs.Bytes.{up_to}
use Rattle.sheet.specs.Line.{LineRead, Right, Wrong, refusal_number, line_of}
use Rattle.sheet.specs.Sheet.{newline, line_most, too_long, unended}

-- what a step and the last of them gave, by numbers
abbrev pub stepped_of : Result Given Refused → Stepped
stepped_of (Ok (given.More p)) = step.More p
stepped_of (Ok (given.Order o end p)) = step.Order o end p
stepped_of (Err r) = step.Refused (refusal_number r.why) r.line

abbrev pub finished_of : Result (Unit {0}) Refused → Finished
finished_of (Ok _) = finish.Ended
finished_of (Err r) = finish.Refused (refusal_number r.why) r.line

-- the start of a line
abbrev pub line_start : ℕ → Place
line_start line = record { line = line; held = 0 }

-- a line that its newline has ended gives an order, and the place behind it, or is refused
abbrev pub line_step : LineRead → ℕ → ℕ → Stepped
line_step (Right o) line end = step.Order o end (line_start (line + 1))
line_step (Wrong code) line end = step.Refused code line

-- the bytes of the line at hand, those that have come and those up to the next newline
abbrev pub line_here : List ℕ → List ℕ → List ℕ
line_here begun bytes = begun ++ up_to newline bytes

-- One step at a line of which some bytes have come, over the bytes from the place `from` of a part on: a line with over
-- 64 bytes is refused; one that a newline ends is read; else all bytes are used, and the line goes on in the next part.
unfoldable pub step_of : ℕ → List ℕ → List ℕ → ℕ → Stepped
step_of line begun bytes from =
    pick (ltb line_most (length (line_here begun bytes))) (step.Refused too_long line)
    (pick (ltb (length (up_to newline bytes)) (length bytes))
    (line_step (line_of (line_here begun bytes)) line (from + length (up_to newline bytes) + 1))
    (step.More (record { line = line; held = length (line_here begun bytes) })))

-- the bytes of a line that have come stand in front of the memory lent
abbrev pub begun_of : Place → List ℕ → List ℕ
begun_of p held = take p.held held

-- those that a step uses are stored behind them, as far as a line reaches
unfoldable pub held_after : Place → List ℕ → List ℕ → List ℕ
held_after p held bytes = sets held p.held (take (line_most - p.held) (up_to newline bytes))

-- how a sheet finishes: between two lines, or inside one
unfoldable pub finish_of : Place → Finished
finish_of p = pick (eqb p.held 0) finish.Ended (finish.Refused unended p.line)

-- a line's number is below this
abbrev pub lines : ℕ
lines = 18446744073709551616

-- what a step asks: no more bytes of a line than it may have, memory for all of them, and a line number that fits
pub record CanStep (p : Place) (held : List ℕ) : Type 0 where
  pub few : p.held ≤ line_most
  pub room : line_most ≤ length held
  pub line_fits : p.line + 1 < lines
