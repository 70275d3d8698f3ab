-- What comes next after a play, in numbers.
use Rattle.std.specs.Prelude.{◌≡◌, refl, ℕ, Some}
use Rattle.std.proofs.Common.{ap, arith}
use Rattle.replay.specs.declared.stepping.Ending.{Ending}
use Rattle.replay.specs.declared.stepping.Ending.TheVariants.{Ended, Refused}
use Rattle.replay.specs.Stepping.{status_of}
use Rattle.playing.specs.declared.Next as code
use Rattle.playing.specs.declared.Next.TheVariants as comes

-- more of the tape is read, what is printed is written out, or nothing, since the tape ended or was refused, with the
-- byte that tells which
pub data Next : Type 0 where
  Read : Next
  Write : Next
  Stop : (how : ℕ) → Next

abbrev pub next_of : code.Next → Next
next_of comes.Read = Read
next_of comes.Write = Write
next_of (comes.Stop how) = Stop (status_of (Some how))

-- no two of them are one in numbers
pub next_one : (x y : code.Next) → next_of x ≡ next_of y → x ≡ y
next_one comes.Read comes.Read h = refl
next_one comes.Read comes.Write h = cc
next_one comes.Read (comes.Stop b) h = cc
next_one comes.Write comes.Read h = cc
next_one comes.Write comes.Write h = refl
next_one comes.Write (comes.Stop b) h = cc
next_one (comes.Stop a) comes.Read h = cc
next_one (comes.Stop a) comes.Write h = cc
next_one (comes.Stop a) (comes.Stop b) h = let told : status_of (Some a) ≡ status_of (Some b) = cc in ap comes.Stop (ending_one a b told)
  where
    ending_one : (a b : Ending) → status_of (Some a) ≡ status_of (Some b) → a ≡ b
    ending_one Ended Ended e = refl
    ending_one Ended Refused e = absurd (omega arith)
    ending_one Refused Ended e = absurd (omega arith)
    ending_one Refused Refused e = refl
