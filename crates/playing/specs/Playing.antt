-- Playing a tape through a window: events are run as long as enough of the tape is at hand and the output has room.
use Rattle.std.specs.Prelude.{◌≡◌, Bool, List, [], ◌++◌, ℕ, zero, suc, ◌+◌, ◌-◌, ◌≤◌, ◌<◌, ltb, eqb, length}
use Rattle.units.specs.Tests.{pick}
use Rattle.lines.specs.Laying.{output, Laid}
use Rattle.tape.specs.Depth.{most_bytes}
use Rattle.session.specs.Market.{Market}
use Rattle.session.specs.Sound.{Sound}
use Rattle.replay.specs.Listing.{longest_event}
use Rattle.replay.specs.Stepping.{going, Step, step_of}
use Rattle.window.specs.Window.{is_short}
use Rattle.playing.specs.declared.Next as comes
use Rattle.playing.specs.Next.{Next, next_of}
use Rattle.playing.specs.Next.{Read, Write, Stop}
use Rattle.playing.specs.declared.Played as code

-- what playing makes of the market and prints, what is lent for the numbers of entries, the place of the next event,
-- and what comes next
pub record Play : Type 0 where
  pub market : Market
  pub given : List ℕ
  pub bytes : List ℕ
  pub from : ℕ
  pub next : Next

-- no event is run before something else is done
abbrev pub first : Next → Market → List ℕ → ℕ → Play
first next m given from = record { market = m; given = given; bytes = []; from = from; next = next }

-- the tape's last line is printed, and nothing comes next
abbrev pub last : Step → Play
last p = record { market = p.printed.market; given = p.given; bytes = p.printed.bytes; from = p.from; next = Stop p.status }

-- bytes printed before a play
abbrev pub printing : List ℕ → Play → Play
printing bytes p = record { market = p.market; given = p.given; bytes = bytes ++ p.bytes; from = p.from; next = p.next }

-- a step, and where the tape goes on, what is played behind it
abbrev pub stepping : (Step → Play) → Step → Play
stepping rest p = pick (eqb p.status going) (printing p.printed.bytes (rest p)) (last p)

-- An event is run if the bytes of the longest event are at hand, or all that the tape has left, and the output has room
-- for the longest event; else more is read, or what is printed is written out. At most n events are run.
unfoldable pub play_most : List ℕ → Bool → ℕ → ℕ → Market → List ℕ → ℕ → ℕ → Play
play_most bytes more base zero m given from at = first Read m given from
play_most bytes more base (suc n) m given from at =
    pick (is_short from (length bytes) more most_bytes) (first Read m given from)
    (pick (ltb (output - at) longest_event) (first Write m given from)
    (stepping
    (λ p. play_most bytes more base n p.printed.market p.given p.from (at + length p.printed.bytes))
    (step_of m bytes from base given)))

-- what is played of the bytes at hand from the place `from` on, the first of them standing at the place `base` of the
-- tape, with `at` bytes in the output: each event takes a byte at least, so more events than bytes are never run
unfoldable pub play_of : List ℕ → Bool → ℕ → Market → List ℕ → ℕ → ℕ → Play
play_of bytes more base m given from at = play_most bytes more base (suc (length bytes - from)) m given from at

-- what the program is told
abbrev pub leaving : ℕ → ℕ → comes.Next → code.Played
leaving at from next = record { at = at; from = from; next = next }

-- what playing asks: a sound market, places that fit, and the output that the lines ask
pub record CanPlay (m : Market) (bytes : List ℕ) (base from : ℕ) (out : List ℕ) (start : ℕ) : Type 0 where
  pub sound : Sound m
  pub begun : from ≤ length bytes
  pub place_fits : base + length bytes < 18446744073709551616
  pub long : length out ≡ output
  pub fits : start ≤ output

-- what playing leaves: exactly what it makes, its bytes from the place `start` on, and what the next play asks
pub record PlaysTo (p : Play) (bytes out : List ℕ) (start : ℕ) (r : code.Played) (m : Market) (given lent : List ℕ) : Type 0 where
  pub market : m ≡ p.market
  pub given_is : given ≡ p.given
  pub laid : Laid out start p.bytes (output - start) lent r.at
  pub from : r.from ≡ p.from
  pub next : next_of r.next ≡ p.next
  pub sound : Sound m
  pub on_tape : r.from ≤ length bytes
