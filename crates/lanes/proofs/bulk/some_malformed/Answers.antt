-- `lanes::bulk::some_malformed` meets its contract: an entry passes where the first malformed one is in the bulk.
use mathlib.Core.Path.{◌≡◌, refl, sym}
use mathlib.Core.Bool.{Bool, true, false}
use Prim.Native.Nat.{ℕ, ◌<◌}
use native.Mathlib.Omega.{arith}
use lib.ListN.{length, get_or}
use borrow.Author.Tests.{lt-ltb, le-ltb}
use Rattle.std.specs.Prelude.{ltb, HoldsAt, MatchBool}
use Rattle.std.specs.List.{AllWithin, range_with_len}
use Rattle.std.proofs.Common.{rules}
use Rattle.std.proofs.lemmas.Iterator.{cases_from_any, YieldsList-from_range}
use Rattle.std.proofs.lemmas.List.FromFn.{length-range_with_len, get_or-range_with_len}
use Rattle.units.specs.Firsts.{first_to, first_least, first_none}
use Rattle.lanes.specs.Bulk.{some_malformed}
use Rattle.lanes.specs.BulkLaws.{bad_at}
use Rattle.lanes.proofs.bulk.some_malformed.Goals as goal

module _ (bad : ℕ → Bool) (n : ℕ) where
  at_place : (k : ℕ) → k < n → get_or (range_with_len 0 n) k 0 ≡ k
  at_place k h = omega (arith, get_or-range_with_len 0 n k 0 h)

  decided : (r : Bool)
      → MatchBool r ((k : ℕ) × (k < length (range_with_len 0 n)) × HoldsAt (λ j. bad j ≡ true) (range_with_len 0 n) k)
      (AllWithin (λ j. bad j ≡ false) (range_with_len 0 n) 0 (length (range_with_len 0 n)))
      → r ≡ ltb (first_to bad n) n
  decided true (k, h, e) =
      let p : k < n = omega (arith, length-range_with_len 0 n) in
      let b : bad k ≡ true = rw (at_place k p) at (e 0) in
      sym (lt-ltb (first_to bad n) n (omega (arith, first_least bad n k p b)))
  decided false none =
      let all = first_none bad n (λ j p. rw (at_place j p) at (none j 0 (omega arith) (omega (arith, length-range_with_len 0 n)))) in
      sym (le-ltb (first_to bad n) n (omega arith))

pub returns : goal.returns
unfolding some_malformed
returns c =
    let n = c.args.count in
    let bad = bad_at c.args.numbers.now in
    decided bad n c.any.result
    (cases_from_any _ _ c.any.result (λ j. bad j ≡ true) (λ j. bad j ≡ false) c.any.ensures.ran (YieldsList-from_range 0 n n refl (omega arith))
    (λ x q k. search rules) (λ x q k. search rules))
