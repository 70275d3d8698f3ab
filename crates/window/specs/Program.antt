-- How a program tells that it has ended, as one byte.
use Rattle.std.specs.Prelude.{◌≡◌, Bool, true, false, cond, ℕ, ◌-◌, ◌≤◌, ◌<◌}
use Rattle.std.proofs.Common.{refl, subst, arith}
use Rattle.window.specs.declared.program.Status.{Status}
use Rattle.window.specs.declared.program.Status.TheVariants.{Going, Ended, Refused, Failed}

-- it goes on
abbrev pub going : ℕ
going = 0

-- `0`: all that was to be done is done
abbrev pub ended : ℕ
ended = 48

-- `1`: what was read is refused
abbrev pub refused : ℕ
refused = 49

-- `2`: a file could not be opened, a read or a write failed
abbrev pub failed : ℕ
failed = 50

-- the byte that tells it
abbrev pub status_byte : Status → ℕ
status_byte Going = going
status_byte Ended = ended
status_byte Refused = refused
status_byte Failed = failed

-- it has stopped by what it read
abbrev pub Stopped : ℕ → Type 0
Stopped status = (ended ≤ status) × (status ≤ refused)

-- after a read or a write
unfoldable pub status_after : Bool → ℕ
status_after fails = cond fails failed going

-- no read and no write stops it so
not_stopped : (fails : Bool) → Stopped (status_after fails) → ⊥
unfolding status_after
not_stopped true (low, high) = omega arith
not_stopped false (low, high) = omega arith

pub goes_or_failed : (fails : Bool) {status : ℕ} → status ≡ status_after fails → Stopped status → ⊥
goes_or_failed fails e stop = not_stopped fails (subst Stopped e stop)

-- where what it read has ended well or is refused
unfoldable pub status_of : Bool → ℕ
status_of well = cond well ended refused

pub stops_status : (well : Bool) → Stopped (status_of well)
unfolding status_of
stops_status true = (omega arith, omega arith)
stops_status false = (omega arith, omega arith)

-- each status has a byte of its own
pub bytes_differ : (s t : Status) → status_byte s ≡ status_byte t → s ≡ t
bytes_differ Going Going e = refl
bytes_differ Going Ended e = absurd (omega arith)
bytes_differ Going Refused e = absurd (omega arith)
bytes_differ Going Failed e = absurd (omega arith)
bytes_differ Ended Going e = absurd (omega arith)
bytes_differ Ended Ended e = refl
bytes_differ Ended Refused e = absurd (omega arith)
bytes_differ Ended Failed e = absurd (omega arith)
bytes_differ Refused Going e = absurd (omega arith)
bytes_differ Refused Ended e = absurd (omega arith)
bytes_differ Refused Refused e = refl
bytes_differ Refused Failed e = absurd (omega arith)
bytes_differ Failed Going e = absurd (omega arith)
bytes_differ Failed Ended e = absurd (omega arith)
bytes_differ Failed Refused e = absurd (omega arith)
bytes_differ Failed Failed e = refl

-- the word before a refused line has at most so many bytes
abbrev pub word_most : ℕ
word_most = 6

-- each turn of its loop leaves fewer
pub fewer : (turns : ℕ) → 0 < turns → turns - 1 < turns
fewer turns h = omega arith
