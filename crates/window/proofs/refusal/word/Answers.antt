-- `window::refusal::word` meets its contract: the bytes stand in front of those behind them.
use Rattle.std.proofs.Common.{◌≡◌, sym, List, ◌++◌, ℕ, ◌+◌, ◌≤◌, length, drop, arith}
use Rattle.std.proofs.lemmas.List.Edits.{sets-eq}
use Rattle.window.specs.Refusal.{Lays}
use Rattle.window.proofs.refusal.word.Goals as goal

lays_front : (bytes was : List ℕ) → length bytes ≤ length was → Lays was 0 bytes (length bytes) (bytes ++ drop (length bytes) was)
lays_front bytes was h =
    let e : 0 + length bytes ≡ length bytes = omega arith in
    record { laid = sym (rw e at (sets-eq bytes was 0 (omega arith))); after = omega arith }

pub returns : goal.returns
returns c = rw c.copy_from_slice.ensures.after (lays_front _ _ c.requires)
