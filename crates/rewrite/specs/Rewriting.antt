-- One event rewritten, and the program's loop.
use Rattle.std.specs.Prelude.{◌≡◌, List, ℕ, ◌≤◌, length, take}
use Rattle.std.proofs.Common.{◌∙◌, arith, length-take-le}
use Rattle.window.specs.declared.Filled.{Filled}
use Rattle.window.specs.Window.{window_long, Refilled}
use Rattle.rewrite.specs.declared.Stepped.{Stepped}

-- the place after the event lies among the bytes at hand, and what stands in the output lies there
pub record StepsTo (bytes : List ℕ) (from : ℕ) (was : List ℕ) (at : ℕ) (r : Stepped) (lent : List ℕ) : Type 0 where
  pub on_tape : r.from ≤ length bytes
  pub within : r.at ≤ length was
  pub long : length lent ≡ length was

-- how the program stands before each turn of its loop: the bytes at hand lie in the window, those to write in the output
pub record Copying (window out : List ℕ) (at from to : ℕ) : Type 0 where
  pub window_long_lem : length window ≡ window_long
  pub out_long : length out ≡ window_long
  pub printed : at ≤ window_long
  pub begun : from ≤ to
  pub within : to ≤ window_long

-- after a read
pub turn_reads :
    {was window out : List ℕ} {at from to : ℕ} {r : Filled} → Copying was out at from to → Refilled was from to 0 window r →
    Copying window out at 0 r.to
turn_reads c f = record {
  window_long_lem = f.long ∙ c.window_long_lem;
  out_long = c.out_long;
  printed = c.printed;
  begun = omega arith;
  within = omega (arith, f.most, f.long, c.window_long_lem);
}

-- after a write
pub turn_writes : {window out : List ℕ} {at from to : ℕ} → Copying window out at from to → Copying window out 0 from to
turn_writes c = record { window_long_lem = c.window_long_lem; out_long = c.out_long; printed = omega arith; begun = c.begun; within = c.within }

-- the bytes at hand
pub at_hand : {window out : List ℕ} {at from to : ℕ} → Copying window out at from to → length (take to window) ≡ to
at_hand {window} {out} {at} {from} {to} c = length-take-le to window (omega (arith, c.within, c.window_long_lem))

-- after an event
pub turn_copies :
    {window out lent : List ℕ} {at from to : ℕ} {r : Stepped} → Copying window out at from to → StepsTo (take to window) from out at r lent →
    Copying window lent r.at r.from to
turn_copies c s = record {
  window_long_lem = c.window_long_lem;
  out_long = s.long ∙ c.out_long;
  printed = omega (arith, s.within, c.out_long);
  begun = omega (arith, s.on_tape, at_hand c);
  within = c.within;
}
