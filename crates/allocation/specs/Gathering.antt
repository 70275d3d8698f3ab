-- The rows that an order may trade with, gathered: what is kept of each stands one after the other from the front of a
-- list.
use Rattle.std.specs.Prelude.{◌≡◌, List, Bool, cond, ℕ, ◌+◌, ◌≤◌, min, ltb, eqb, length, set}
use Rattle.units.specs.Sums.{sum_to}
use Rattle.units.specs.Picked.{keep}
use Rattle.units.specs.Places.{at}
use Rattle.rows.specs.Rows.{rows}
use Rattle.levels.specs.Levels.{candidate}

-- What is kept of a row, if it is taken, put after the first n.
unfoldable pub put_after : Bool → ℕ → List ℕ → ℕ → List ℕ
put_after taken v l n = cond taken (set l n v) l

-- What a row holds, if it holds something, put after the first n.
abbrev pub appended : ℕ → List ℕ → ℕ → List ℕ
appended size l n = put_after (ltb 0 size) size l n

-- f of what two lists have at each place
unfoldable pub over_both : (ℕ → ℕ → ℕ) → List ℕ → List ℕ → ℕ → ℕ
over_both f keys held j = f (at keys j) (at held j)

-- The first n of two lists are the keys and the sizes of those of the first i rows that hold something: any number of
-- both that is 0 where nothing is held, added up, is the same of the rows.
pub record Gathered (key size : ℕ → ℕ) (i : ℕ) (keys held : List ℕ) (n : ℕ) : Type 0 where
  pub keyed : length keys ≡ rows
  pub long : length held ≡ rows
  pub few : n ≤ i
  pub passed : i ≤ rows
  pub gathered : (f : ℕ → ℕ → ℕ) → ((k : ℕ) → f k 0 ≡ 0) → sum_to (over_both f keys held) n ≡ sum_to (λ j. f (key j) (size j)) i

-- The sizes alone.
abbrev pub Collected : (ℕ → ℕ) → ℕ → List ℕ → ℕ → Type 0
Collected size i held n = Gathered size size i held held n

-- A place of that key and size is joined to the best key k so far, at which t is held, and k' and t' come of it: a
-- better key from the floor on, if something is held there, takes its place, and at the same key what is held is added.
abbrev pub Joined : ℕ → ℕ → ℕ → ℕ → ℕ → ℕ → ℕ → Type 0
Joined floor key size k t k' t' = (k' ≡ min k (candidate k floor key size)) × (t' ≡ keep (eqb k' k) t + keep (eqb k' key) size)
