-- The numbers of the tape's refusals.
use Rattle.std.specs.Prelude.{ℕ}
use Rattle.numeral.specs.Number.{refusal_number as number_of}
use Rattle.tape.specs.declared.Refusal.{Refusal}
use Rattle.tape.specs.declared.Refusal.TheVariants.{Number, NoSuchEvent, NoSuchCount}

-- 30 to 32 those of a number's bytes; 33 another event number; 34 a count not 1 to 20
abbrev pub refusal_number : Refusal → ℕ
refusal_number (Number why) = number_of why
refusal_number NoSuchEvent = 33
refusal_number NoSuchCount = 34
