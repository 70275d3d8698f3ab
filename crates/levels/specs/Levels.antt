-- What is looked for and counted over n rows to share an order among them: the best key, the whole parts of shares, who
-- is served first.
use Rattle.std.specs.Prelude.{cond, ◌&&◌, ℕ, ◌*◌, ◌/◌, leb, ltb, eqb}
use Rattle.units.specs.Picked.{keep, precedes}
use Rattle.units.specs.Leasts.{least_to}
use Rattle.rows.specs.Rows.{key_of, open_size}

-- the rows' keys on a side, and what of each row may be traded by an order that trades with that side within a bound
abbrev pub keys_on : ℕ → (ℕ → ℕ) → ℕ → ℕ
keys_on s price i = key_of s (price i)

abbrev pub opens_on : ℕ → ℕ → (ℕ → ℕ) → (ℕ → ℕ) → (ℕ → ℕ) → ℕ → ℕ
opens_on s bound side price size i = open_size s bound (side i) (price i) (size i)

-- what of a row may be traded so, if it stands at key c
abbrev pub tradable_at : ℕ → ℕ → ℕ → ℕ → ℕ → ℕ → ℕ
tradable_at s bound c side price size = keep (eqb (key_of s price) c) (open_size s bound side price size)

-- a key at which something rests, from the floor on; else the top, past every key
unfoldable pub candidate : ℕ → ℕ → ℕ → ℕ → ℕ
candidate top floor k size = cond (ltb 0 size && leb floor k) k top

-- the best key from the floor on at which something rests
unfoldable pub best_from : ℕ → ℕ → (ℕ → ℕ) → (ℕ → ℕ) → ℕ → ℕ
best_from n top key size floor = least_to top (λ i. candidate top floor (key i) (size i)) n

-- the whole part of a share, and all of it where there is enough
unfoldable pub whole_of : ℕ → ℕ → ℕ → ℕ
whole_of left size total = cond (leb total left) size (left * size / total)

abbrev pub wholes : ℕ → ℕ → (ℕ → ℕ) → ℕ → ℕ
wholes left total size i = whole_of left (size i) total

-- 1 for a row at key c that is larger than s, or of size s and earlier than n
abbrev pub larger_of : ℕ → ℕ → ℕ → ℕ → ℕ → ℕ → ℕ
larger_of k size number c s n = keep (eqb k c && ltb 0 size && precedes s size number n) 1

unfoldable pub larger : (ℕ → ℕ) → (ℕ → ℕ) → (ℕ → ℕ) → ℕ → ℕ → ℕ → ℕ → ℕ
larger key size number c s n i = larger_of (key i) (size i) (number i) c s n
