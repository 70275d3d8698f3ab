-- What a lookup says, proved once over the test that a row must pass.
use Rattle.std.specs.Prelude.{◌≡◌, refl, ◌↔◌, Bool, true, ℕ, ◌≤◌, ◌<◌, ltb, Result, Ok, Err}
use Rattle.std.proofs.Math.Path.{ap}
use Rattle.std.proofs.Common.{arith}
use borrow.Author.Tests.{lt-ltb, le-ltb, ltb-true, ltb-false}
use Rattle.units.specs.Tests.{pick, picked}
use Rattle.units.specs.Says.{&&-says, less_says, same_says}
use Rattle.units.specs.Firsts.{first_to, first_holds, first_least}
use Rattle.rows.specs.Rows.{is_order}
use Rattle.rows.specs.Passes.{order_row}
use Rattle.book.specs.declared.lookup.Lost.{Lost}
use Rattle.book.specs.declared.lookup.Lost.TheVariants.{GivenOut, NeverGiven}
use Rattle.book.specs.Book.{Book, size_at, owner_at, number_at}
use Rattle.book.specs.Lookup.{code_of, found_by, order_at, found, RestsAs, NoRow, FoundSays}

-- the row that an answer names
row_in : Result ℕ Lost → ℕ
row_in (Ok row) = row
row_in (Err why) = 0

module _ (places : ℕ) (test : ℕ → Bool) (next number : ℕ) (Row : ℕ → Type 0) (is : (i : ℕ) → ((i < places) × (test i ≡ true)) ↔ Row i) where
  abbrev row : ℕ
  row = first_to test places

  -- a row that passes is not before the first
  none_before : (i : ℕ) → Row i → (i < places) × (row ≤ i)
  none_before i r = let (inside, passes) = (is i).1 r in (inside, first_least test places i inside passes)

  found_at : row < places → FoundSays Row next number (Ok row)
  unfolding row_in
  found_at h =
      let there : Row row = (is row).0 (h, first_holds test places h) in
      record {
        rests = (λ _. (row, there), λ _. refl);
        given_out = (λ x. absurd (omega (arith, x)), λ (_, none). absurd (none row there));
        never_given = (λ x. absurd (omega (arith, x)), λ (_, none). absurd (none row there));
        there = λ i e. rw (← ap row_in e) there;
        first = λ i j e r. rw (← ap row_in e) (none_before j r).1;
      }

  -- where no row is the order, by the answer's number
  found_not : NoRow Row → (f : Result ℕ Lost) → 0 < code_of f → (code_of f ≡ 18) ↔ (number < next) → (code_of f ≡ 22) ↔ (next ≤ number) → FoundSays Row next number f
  found_not none f some out never = record {
    rests = (λ x. absurd (omega (arith, x)), λ (i, r). absurd (none i r));
    given_out = (λ x. (out.0 x, none), λ (below, _). out.1 below);
    never_given = (λ x. (never.0 x, none), λ (past, _). never.1 past);
    there = λ i e. absurd (omega (arith, ap code_of e));
    first = λ i j e. absurd (omega (arith, ap code_of e));
  }

  pub found_by_says : FoundSays Row next number (found_by places test next number)
  unfolding found_by
  found_by_says =
      let P = FoundSays Row next number in
      picked P (ltb row places) _ _ (λ h. found_at (ltb-true row places h)) (λ h.
      let none : NoRow Row = λ i r. omega (arith, ltb-false row places h, (none_before i r).0, (none_before i r).1) in
      picked P (ltb number next) _ _
      (λ k.
      let below = ltb-true number next k in
      found_not none (Err GivenOut) (omega arith) (λ _. below, λ _. refl) (λ x. absurd (omega (arith, x)), λ past. absurd (omega arith)))
      (λ k.
      let past = ltb-false number next k in
      found_not none (Err NeverGiven) (omega arith) (λ x. absurd (omega (arith, x)), λ below. absurd (omega arith)) (λ _. past, λ _. refl)))

-- ---- a tenant's lookup

module _ (b : Book) (t n : ℕ) where
  rests_says : (i : ℕ) → ((i < b.places) × (order_at b t n i ≡ true)) ↔ RestsAs b t n i
  unfolding is_order
  rests_says i =
      let is = &&-says (&&-says (less_says 0 (size_at b i)) (same_says (owner_at b i) t)) (same_says (number_at b i) n) in (
        λ (p, h).
            let ((size, owner), numbered) = is.0 h in
            record { row = p; rests = size; tenant = owner; numbered = numbered },
        λ r. (r.row, is.1 ((r.rests, r.tenant), r.numbered)),
      )

  pub found_says : (next : ℕ) → FoundSays (RestsAs b t n) next n (found b next t n)
  unfolding found
  found_says next = found_by_says b.places (order_at b t n) next n (RestsAs b t n) rests_says

  -- the answers as the code comes to them, by the order's row
  module _ (next row : ℕ) (is : row ≡ order_row b.places (owner_at b) (number_at b) (size_at b) t n) where
    pub rests_there : row < b.places → Ok row ≡ found b next t n
    unfolding found found_by order_row pick
    rests_there h = rw (← is, lt-ltb row b.places h)

    pub is_given_out : b.places ≤ row → n < next → Err GivenOut ≡ found b next t n
    unfolding found found_by order_row pick
    is_given_out h k = rw (← is, le-ltb row b.places h, lt-ltb n next k)

    pub is_never_given : b.places ≤ row → next ≤ n → Err NeverGiven ≡ found b next t n
    unfolding found found_by order_row pick
    is_never_given h k = rw (← is, le-ltb row b.places h, le-ltb n next k)
