-- One write of the bytes from a place on.
use Rattle.std.specs.Prelude.{ℕ, ◌+◌, ◌-◌, ◌≤◌, ◌<◌}
use Rattle.window.specs.declared.writing.Written.{Written}

-- the place after what is taken lies in the bytes, of which there are `long`, and not before the place `from`; the
-- write took a byte or was interrupted, so fewer bytes are left, or fewer interruptions are borne
pub record Wrote (long from borne : ℕ) (r : Written) : Type 0 where
  pub onward : from ≤ r.to
  pub within : r.to ≤ long
  pub fewer : (long - r.to) + r.borne < (long - from) + borne
