-- The rings: where entries stand, and what putting entries behind those waiting and taking the oldest make of them.
use Rattle.std.specs.Prelude.{List, ℕ, zero, suc, ◌+◌, ◌-◌, ◌*◌, ◌%◌, get_or, map, set, replicate}
use Rattle.std.proofs.lemmas.List.Edits.{sets}
use Rattle.units.specs.Units.{tenants, cents, contracts}
use Rattle.units.specs.Places.{at, table}
use Rattle.entry.specs.declared.Entry.{Entry}
use Rattle.entry.specs.Numbers.{entry_numbers}
use Rattle.lanes.specs.declared.Lane.{Lane}
use Rattle.lanes.specs.declared.Lanes.{Lanes}

-- A lane holds 64 entries.
abbrev pub depth : ℕ
depth = 64

-- the numbers of all lanes' entries
abbrev pub all_entries : ℕ
all_entries = tenants * depth * entry_numbers

-- the numbers of an entry come in this order
abbrev pub entry_of : List ℕ → Entry
entry_of v = record {
  kind = at v 0;
  side = at v 1;
  life = at v 2;
  price = cents (at v 3);
  size = contracts (at v 4);
  number = at v 5;
}

-- number i of entry k of a list of such; 0 past the end
abbrev pub number_of : List ℕ → ℕ → ℕ → ℕ
number_of ns k i = at ns (k * entry_numbers + i)

-- entry k of a list of such
unfoldable pub entry_at : List ℕ → ℕ → Entry
entry_at ns k = entry_of (table (number_of ns k) entry_numbers)

-- a lane whose oldest entry stands at place h of its ring, and in which n entries wait
abbrev pub lane_of : ℕ → ℕ → Lane
lane_of h n = record { head = h; len = n }

-- where the oldest entry of each lane stands in its ring, and how many wait in each
abbrev pub heads : Lanes → List ℕ
heads l = map (λ x. x.head) l.lanes

abbrev pub lens : Lanes → List ℕ
lens l = map (λ x. x.len) l.lanes

-- lane t; past the last, one with nothing
abbrev pub lane_at : Lanes → ℕ → Lane
lane_at l t = get_or l.lanes t (lane_of 0 0)

-- where lane t's oldest entry stands in its ring, and how many wait
abbrev pub head_of : Lanes → ℕ → ℕ
head_of l t = (lane_at l t).head

abbrev pub len_of : Lanes → ℕ → ℕ
len_of l t = (lane_at l t).len

-- where the entry of lane t stands that is i behind the ring's place h
unfoldable pub slot : ℕ → ℕ → ℕ → ℕ
slot t h i = t * depth + (h + i) % depth

-- entry i of those waiting in lane t, the oldest first
unfoldable pub waiting_at : Lanes → List ℕ → ℕ → ℕ → Entry
waiting_at l entries t i = entry_at entries (slot t (head_of l t) i)

-- entry j of the numbers ns put at place k
unfoldable pub put : List ℕ → ℕ → List ℕ → ℕ → List ℕ
put entries k ns j = sets entries (k * entry_numbers) (table (number_of ns j) entry_numbers)

-- the first n entries of ns, as given and in their order, behind those waiting in lane t
unfoldable pub put_all : Lanes → List ℕ → ℕ → List ℕ → ℕ → List ℕ
put_all l entries t ns zero = entries
put_all l entries t ns (suc n) = put (put_all l entries t ns n) (slot t (head_of l t) (len_of l t + n)) ns n

-- so many more wait in lane t
unfoldable pub joined : Lanes → ℕ → ℕ → Lanes
joined l t n = record { lanes = set l.lanes t (lane_of (head_of l t) (len_of l t + n)); place = l.place }

-- A taken turn removes the head entry of lane t and moves the place to the tenant after it.
unfoldable pub taken : Lanes → ℕ → Lanes
taken l t = record { lanes = set l.lanes t (lane_of ((head_of l t + 1) % depth) (len_of l t - 1)); place = (t + 1) % tenants }

-- empty lanes, with the rotation at tenant 0
abbrev pub empty : Lanes
empty = record { lanes = replicate tenants (lane_of 0 0); place = 0 }
