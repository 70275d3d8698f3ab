-- What resting an order in the first free row does to a sound book, and that a tenant with room always finds a free
-- row.
use Rattle.std.specs.Prelude.{◌≡◌, refl, List, ◌≢◌, length, set}
use Rattle.std.proofs.Math.Path.{sym, ap}
use Rattle.std.proofs.Common.{◌∙◌, get_or-set_same, get_or-set_other, eqb-true, eq-eqb, ne_eqb}
use Prim.Native.Nat.{ℕ, ◌+◌, ◌≤◌, ◌<◌}
use Rattle.std.proofs.Math.Decide.{ℕ_discrete}
use native.Mathlib.Omega.{arith}
use Rattle.std.proofs.Math.Dec.{eqb}
use Rattle.std.proofs.Math.ListN.{length-set}
use Rattle.std.proofs.lemmas.Bool.{eqb-false}
use Rattle.units.specs.Tests.{order, less, equal, more}
use Rattle.units.specs.Sums.{sum_to, sum_same, sum_only, sum_swap, sum_changed, sum_ones, sum_le, sum_less}
use Rattle.units.specs.Picked.{keep, keep_most}
use Rattle.units.specs.Firsts.{first_holds, first_before}
use Rattle.units.specs.Places.{at}
use Rattle.units.specs.Units.{tenants}
use Rattle.rows.specs.Rows.{rows, rows_a_tenant, highest, rests_for, largest}
use Rattle.rows.specs.Passes.{resting_rows, free_row}
use Rattle.book.specs.Book.{Book, side_at, price_at, size_at, owner_at, number_at, resting_of, first_free, rested}
use Rattle.book.specs.Sound.{SoundRow, SoundBook, Below, Uncrossed}
use Rattle.book.specs.SoundLaws.{rests_one, rests_free, rests_other}

-- the first free row is free
pub free_is : (b : Book) → first_free b < b.places → size_at b (first_free b) ≡ 0
unfolding free_row
free_is b h = eqb-true (size_at b (first_free b)) 0 (first_holds (λ i. eqb (size_at b i) 0) b.places h)

-- an order that may rest
pub record SoundOrder (side price size owner number : ℕ) : Type 0 where
  pub side_least : 1 ≤ side
  pub side_most : side ≤ 2
  pub price_least : 1 ≤ price
  pub price_most : price ≤ highest
  pub size_least : 1 ≤ size
  pub size_most : size ≤ largest
  pub owner_most : owner < tenants
  pub number_least : 1 ≤ number

module _ {b : Book} {next : ℕ} (s : SoundBook b next) (free : first_free b < rows) (side price size owner number : ℕ) where
  abbrev row : ℕ
  row = first_free b

  abbrev after : Book
  after = rested b side price size owner number

  -- a column with the new row's number: what it has there, and elsewhere what it had
  put_here : (l : List ℕ) (v : ℕ) → length l ≡ rows → at (set l row v) row ≡ v
  put_here l v h = get_or-set_same l row v 0 (omega arith)

  put_else : (l : List ℕ) (v i : ℕ) → i ≢ row → at (set l row v) i ≡ at l i
  put_else l v i n = get_or-set_other l row i v 0 n

  -- a tenant has one more row resting if the order is that tenant's
  pub rest_counts : (t : ℕ) → 0 < size → resting_of after t ≡ resting_of b t + keep (eqb owner t) 1
  unfolding resting_rows rested
  rest_counts t x =
      let f : ℕ → ℕ = λ i. keep (rests_for t (at (set b.owners row owner) i) (at (set b.sizes row size) i)) 1 in
      let g : ℕ → ℕ = λ i. keep (rests_for t (owner_at b i) (size_at b i)) 1 in
      let changed = sum_changed {f = f} {g = g} b.places row (omega (arith, s.places))
      (λ j h n. rw (put_else b.owners owner j n, put_else b.sizes size j n) refl) in
      let was : g row ≡ 0 = rests_free t (owner_at b row) (size_at b row) (free_is b (omega (arith, s.places))) in
      let is : f row ≡ keep (eqb owner t) 1 = rw (put_here b.owners owner s.owners_long, put_here b.sizes size s.sizes_long) (counts t) in
      omega arith
    where
      counts : (t : ℕ) → keep (rests_for t owner size) 1 ≡ keep (eqb owner t) 1
      counts t = elim (ℕ_discrete owner t) [
        | yes e ↦ rests_one t owner size x e ∙ sym (ap (λ z. keep z 1) (eq-eqb owner t e))
        | no e ↦ rests_other t owner size e ∙ sym (ap (λ z. keep z 1) (ne_eqb owner t e))
      ]

  module _ (order_is : SoundOrder side price size owner number) (later : ℕ) (new : next ≤ number) (given : number < later) where
    -- elsewhere a row is what it was
    was : (i : ℕ) → i < rows → i ≢ row → 0 < size_at after i → SoundRow b next i
    unfolding rested
    was i p n x = s.row i p (omega (arith, put_else b.sizes size i n))

    row_sound : (i : ℕ) → i < rows → 0 < size_at after i → SoundRow after later i
    unfolding rested
    row_sound i p x = elim (ℕ_discrete i row) [
      | yes e ↦ rw e (record {
        side_least = omega (arith, put_here b.sides side s.sides_long, order_is.side_least);
        side_most = omega (arith, put_here b.sides side s.sides_long, order_is.side_most);
        price_least = omega (arith, put_here b.prices price s.prices_long, order_is.price_least);
        price_most = omega (arith, put_here b.prices price s.prices_long, order_is.price_most);
        owner = omega (arith, put_here b.owners owner s.owners_long, order_is.owner_most);
        number_least = omega (arith, put_here b.numbers number s.numbers_long, order_is.number_least);
        number_most = omega (arith, put_here b.numbers number s.numbers_long);
      })
      | no n ↦ let r = was i p n x in record {
        side_least = omega (arith, put_else b.sides side i n, r.side_least);
        side_most = omega (arith, put_else b.sides side i n, r.side_most);
        price_least = omega (arith, put_else b.prices price i n, r.price_least);
        price_most = omega (arith, put_else b.prices price i n, r.price_most);
        owner = omega (arith, put_else b.owners owner i n, r.owner);
        number_least = omega (arith, put_else b.numbers number i n, r.number_least);
        number_most = omega (arith, put_else b.numbers number i n, r.number_most);
      }
    ]

    apart_still : (i j : ℕ) → i < rows → j < rows → 0 < size_at after i → 0 < size_at after j → number_at after i ≡ number_at after j → i ≡ j
    unfolding rested
    apart_still i j p p' x y e = elim (ℕ_discrete i row) [
      | yes f ↦ elim (ℕ_discrete j row) [
        | yes g ↦ f ∙ sym g
        | no g ↦ absurd (omega (arith, rw f at e, put_here b.numbers number s.numbers_long, put_else b.numbers number j g, (was j p' g y).number_most))
      ]
      | no f ↦ elim (ℕ_discrete j row) [
        | yes g ↦ absurd (omega (arith, rw g at e, put_here b.numbers number s.numbers_long, put_else b.numbers number i f, (was i p f x).number_most))
        | no g ↦ s.apart i j p p'
            (omega (arith, put_else b.sizes size i f))
            (omega (arith, put_else b.sizes size j g))
            (omega (arith, put_else b.numbers number i f, put_else b.numbers number j g))
      ]
    ]

    -- an order with a number of its own, of a tenant with room, keeps the book sound
    pub rest_sound : resting_of b owner < rows_a_tenant → SoundBook after later
    unfolding rested
    rest_sound room_left = record {
      places = s.places;
      sides_long = length-set b.sides row side ∙ s.sides_long;
      prices_long = length-set b.prices row price ∙ s.prices_long;
      sizes_long = length-set b.sizes row size ∙ s.sizes_long;
      owners_long = length-set b.owners row owner ∙ s.owners_long;
      numbers_long = length-set b.numbers row number ∙ s.numbers_long;
      size_most = λ i p. elim (ℕ_discrete i row) [
        | yes e ↦ rw e (omega (arith, put_here b.sizes size s.sizes_long, order_is.size_most))
        | no n ↦ omega (arith, put_else b.sizes size i n, s.size_most i p)
      ];
      row = row_sound;
      apart = apart_still;
      room = λ t h. elim (ℕ_discrete owner t) [
        | yes e ↦ rw (← e) (omega (arith, rest_counts owner order_is.size_least, keep_most (eqb owner owner) 1))
        | no n ↦ omega (arith, rest_counts t order_is.size_least, ap (λ z. keep z 1) (ne_eqb owner t n), s.room t h)
      ];
    }

  -- an order that reaches no row of the other side leaves one side below the other
  pub rest_below : {buys sells : ℕ} → buys ≢ sells → Below buys sells b
      → ((i : ℕ) → i < rows → 0 < size_at b i → side ≡ buys → side_at b i ≡ sells → price < price_at b i)
      → ((i : ℕ) → i < rows → 0 < size_at b i → side ≡ sells → side_at b i ≡ buys → price_at b i < price)
      → Below buys sells after
  unfolding rested
  rest_below two u below above i j p p' x y e e' = elim (ℕ_discrete i row) [
    | yes f ↦ elim (ℕ_discrete j row) [
      | yes g ↦ absurd (two (omega (arith, rw f at e, rw g at e')))
      | no g ↦ rw f (omega (
        arith,
        put_here b.prices price s.prices_long,
        put_else b.prices price j g,
        below j p' (omega (arith, put_else b.sizes size j g)) (omega (arith, rw f at e, put_here b.sides side s.sides_long)) (omega (arith, put_else b.sides side j g)),
      ))
    ]
    | no f ↦ elim (ℕ_discrete j row) [
      | yes g ↦ rw g (omega (
        arith,
        put_here b.prices price s.prices_long,
        put_else b.prices price i f,
        above i p (omega (arith, put_else b.sizes size i f)) (omega (arith, rw g at e', put_here b.sides side s.sides_long)) (omega (arith, put_else b.sides side i f)),
      ))
      | no g ↦ omega (
        arith,
        put_else b.prices price i f,
        put_else b.prices price j g,
        u i j p p'
            (omega (arith, put_else b.sizes size i f)) (omega (arith, put_else b.sizes size j g))
            (omega (arith, put_else b.sides side i f)) (omega (arith, put_else b.sides side j g)),
      )
    ]
  ]

  -- so an uncrossed book stays uncrossed
  pub rest_uncrossed : Uncrossed b
      → ((i : ℕ) → i < rows → 0 < size_at b i → side ≡ 1 → side_at b i ≡ 2 → price < price_at b i)
      → ((i : ℕ) → i < rows → 0 < size_at b i → side ≡ 2 → side_at b i ≡ 1 → price_at b i < price)
      → Uncrossed after
  rest_uncrossed = rest_below (λ e. omega arith)

-- ---- a free row

module _ {b : Book} {next : ℕ} (s : SoundBook b next) (full : (i : ℕ) → i < rows → 0 < size_at b i) where
  -- each row of a full book counts for one tenant
  counted_once : (i : ℕ) → i < rows → sum_to (λ u. keep (rests_for u (owner_at b i) (size_at b i)) 1) tenants ≡ 1
  counted_once i p =
      let x = full i p in
      sum_only (λ u. keep (rests_for u (owner_at b i) (size_at b i)) 1) tenants (owner_at b i) (s.row i p x).owner
      (λ u _ n. rests_other u (owner_at b i) (size_at b i) (λ e. n (sym e)))
      ∙ rests_one (owner_at b i) (owner_at b i) (size_at b i) x refl

  full_counts : sum_to (resting_of b) tenants ≡ rows
  unfolding resting_rows
  full_counts = sum_swap (λ u i. keep (rests_for u (owner_at b i) (size_at b i)) 1) tenants b.places
      ∙ rw s.places (sum_same rows (λ i p. counted_once i p) ∙ sum_ones rows)

-- Nine times 24 rows are all there are: while a tenant has fewer than 24 resting, some row is free.
pub room_found : {b : Book} {next : ℕ} → SoundBook b next → (t : ℕ) → t < tenants → resting_of b t < rows_a_tenant → first_free b < rows
room_found {b} s t h room = elim (order (first_free b) rows) [
  | less p ↦ p
  | equal p ↦ absurd (none (omega arith))
  | more p ↦ absurd (none (omega arith))
]
  where
    full : rows ≤ first_free b → (i : ℕ) → i < rows → 0 < size_at b i
    full g i p = elim (order 0 (size_at b i)) [
      | less x ↦ x
      | equal x ↦ absurd (eqb-false (size_at b i) 0 (unfold free_row in first_before (λ j. eqb (size_at b j) 0) b.places i (omega arith)) (sym x))
      | more x ↦ omega arith
    ]

    none : rows ≤ first_free b → ⊥
    none g = omega (
      arith,
      full_counts s (full g),
      sum_less {f = resting_of b} {g = λ _. rows_a_tenant} tenants t (λ u p. s.room u p) h room,
      sum_le (λ _. rows_a_tenant) rows_a_tenant tenants (λ _ _. omega arith),
    )
