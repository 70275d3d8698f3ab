-- The numbers of the writer's refusals.
use Rattle.std.specs.Prelude.{ℕ, eqb}
use Rattle.units.specs.Tests.{pick}
use Rattle.writer.specs.declared.Refusal.{Refusal}
use Rattle.writer.specs.declared.Refusal.TheVariants.{NoRoom, NotOneEvent}

-- 40 an event too long for the room, 41 numbers that aren't exactly one event
abbrev pub refusal_number : Refusal → ℕ
refusal_number NoRoom = 40
refusal_number NotOneEvent = 41

-- the refusal of one of the two numbers
unfoldable pub refusal_of : ℕ → Refusal
refusal_of code = pick (eqb code 41) NotOneEvent NoRoom
