-- `allocation::gather::joined` meets its contract, by how the key stands to the floor and to the best so far.
use native.Mathlib.Omega.{arith}
use Rattle.allocation.specs.BestLaws.{joins_below, joins_better, joins_free, joins_same, joins_worse}
use Rattle.allocation.proofs.gather.joined.Goals as goal

pub returns-then-k-floor : goal.returns-then-k-floor
returns-then-k-floor c = record { joined = joins_below _ _ _ _ _ c.requires.floor_le_key c.if-k-floor.true; size_le_most32 = omega arith }

pub returns-then-size-gt0 : goal.returns-then-size-gt0
returns-then-size-gt0 c = record { joined = rw c.from.ensures (joins_better _ _ _ _ _ c.requires.floor_le_key (omega arith) (omega arith) (omega arith)); size_le_most32 = omega arith }

pub returns-else-size-gt0 : goal.returns-else-size-gt0
returns-else-size-gt0 c = record { joined = joins_free _ _ _ _ _ c.requires.floor_le_key (omega arith) (omega arith); size_le_most32 = omega arith }

pub returns-then-k-at-2 : goal.returns-then-k-at-2
returns-then-k-at-2 c = record { joined = rw c.from-then-k-at-2.ensures (joins_same _ _ _ _ _ c.requires.floor_le_key c.if-k-at-2.true); size_le_most32 = omega arith }

pub returns-else-k-at-2 : goal.returns-else-k-at-2
returns-else-k-at-2 c = record { joined = joins_worse _ _ _ _ _ c.requires.floor_le_key (omega arith); size_le_most32 = omega arith }
