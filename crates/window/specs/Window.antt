-- The window on a file: the bytes of it that are at hand.
use Rattle.std.specs.Prelude.{◌≡◌, Bool, false, ◌&&◌, List, ℕ, ◌+◌, ◌-◌, ◌≤◌, ltb, length, take, drop, Result, Ok, Err}
use Rattle.window.specs.declared.Filled.{Filled}

-- the bytes of the window that a program holds, and of its output
abbrev pub window_long : ℕ
window_long = 65536

-- fewer bytes are at hand than wanted although the file may go on
unfoldable pub is_short : ℕ → ℕ → Bool → ℕ → Bool
is_short from to more wanted = more && ltb (to - from) wanted

-- after a read: the bytes that were not used yet stand at the front of the window, and more may stand behind them; the
-- window's first byte is the first of them. Where the file does not go on nothing was read
pub record Refilled (was : List ℕ) (from to base : ℕ) (window : List ℕ) (r : Filled) : Type 0 where
  pub long : length window ≡ length was
  pub kept : take (to - from) window ≡ take (to - from) (drop from was)
  pub least : to - from ≤ r.to
  pub most : r.to ≤ length window
  pub place : r.base ≡ base + from
  pub nothing : r.more ≡ false → r.to ≡ to - from

-- what a read gave; one that failed gave nothing, and is the last
abbrev pub filled_of : {E : Type 0} → ℕ → ℕ → ℕ → Result Filled E → Filled
filled_of from to base (Ok filled) = filled
filled_of from to base (Err error) = record { to = to - from; base = base + from; more = false }
