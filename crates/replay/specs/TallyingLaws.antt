-- The lines of the tallies one by one: what is laid out after so many tenants.
use Rattle.std.specs.Prelude.{◌≡◌, refl, List, ◌++◌, ℕ, zero, suc, ◌+◌, ◌*◌, ◌≤◌, ◌<◌}
use Rattle.std.proofs.Common.{ap, ap₂, add-one}
use native.Mathlib.Omega.{arith}
use Rattle.units.specs.Units.{tenants}
use Rattle.lines.specs.Laying.{output, longest_tally, Room, Laid, laid_then, laid_within, nothing_laid}
use Rattle.tally.specs.declared.Tally.{Tally}
use Rattle.session.specs.declared.Session.{Session}
use Rattle.session.specs.Tallied.{Tallied}
use Rattle.session.specs.Tallied.{Of}
use Rattle.session.specs.Reading.{Values, values_of, tallied_of}
use Rattle.replay.specs.Tallying.{longest_tallies, tally_line_of, tally_lines_to, reading_of, tally_lines}

-- equal values, equal lines
pub lines_same : (f g : ℕ → Values) (n : ℕ) → ((t : ℕ) → t < n → f t ≡ g t) → tally_lines_to f n ≡ tally_lines_to g n
unfolding tally_lines_to
lines_same f g zero h = refl
lines_same f g (suc n) h = ap₂ ◌++◌ (lines_same f g n (λ t l. h t (omega arith))) (ap (tally_line_of n) (h n (omega arith)))

lines_next : (f : ℕ → Values) (t : ℕ) → tally_lines_to f (t + 1) ≡ tally_lines_to f t ++ tally_line_of t (f t)
unfolding tally_lines_to
lines_next f t = rw add-one

-- the line of the tally that a reading told
pub line_told :
    (s : Session) (t : ℕ) (told : Tallied) (x : Tally) {was lent : List ℕ} {start r : ℕ} → told ≡ tallied_of s t → told ≡ Of x →
    Laid was start (tally_line_of t (values_of (Of x))) longest_tally lent r → Laid was start (tally_line_of t (reading_of s t)) longest_tally lent r
line_told s t told x is e laid = rw (← is, e) laid

module _ (was : List ℕ) (start : ℕ) (s : Session) where
  -- a loop that lays out the lines one by one: those of the first t tenants stand
  pub record Tallying (t : ℕ) (lent : List ℕ) (end : ℕ) : Type 0 where
    pub fits : start + longest_tallies ≤ output
    pub laid : Laid was start (tally_lines_to (reading_of s) t) (longest_tally * t) lent end
    pub passed : t ≤ tenants

  pub tallies_start : Room was start longest_tallies → Tallying 0 was start
  unfolding tally_lines_to
  tallies_start h = record { fits = h.fits; laid = nothing_laid was start h.long; passed = omega arith }

  module _ (t : ℕ) (lent : List ℕ) (end : ℕ) (f : Tallying t lent end) where
    pub tally_room : t < tenants → Room lent end longest_tally
    tally_room h = record { long = f.laid.long; fits = omega (arith, f.fits, f.laid.near) }

    pub tallies_go_on :
        (next : List ℕ) (r : ℕ) → t < tenants → Laid lent end (tally_line_of t (reading_of s t)) longest_tally next r → Tallying (t + 1) next r
    tallies_go_on next r h a =
        let most : longest_tally * t + longest_tally ≤ longest_tally * (t + 1) = omega arith in
        record {
          fits = f.fits;
          laid = rw (lines_next (reading_of s) t) (laid_within was start most (laid_then was start f.laid a));
          passed = omega arith;
        }

    pub tallies_end : tenants ≤ t → Laid was start (tally_lines s) longest_tallies lent end
    tallies_end h =
        let e : tenants ≡ t = omega (arith, f.passed) in
        let most : longest_tally * t ≤ longest_tallies = omega (arith, f.passed) in
        rw e (laid_within was start most f.laid)
