-- A line spelt from an order is right, and says that order.
use Rattle.std.specs.Prelude.{◌≡◌, ◌⊎◌, Bool, List, [], ◌∷◌, ◌++◌, ℕ, zero, suc, ◌+◌, ◌*◌, ◌/◌, ◌%◌, ◌^◌, ◌≤◌, ◌<◌, ltb, eqb, length}
use Rattle.std.proofs.Math.Path.{refl}
use Rattle.std.proofs.Common.{sym, ap, ◌∙◌, arith, ltb-true, eq-eqb, ne_eqb, length-append}
use Rattle.std.proofs.Math.Logic.{inl, inr, ⊎_elim}
use Rattle.std.proofs.Math.Bool.{true, false}
use Rattle.units.specs.Tests.{◌and◌, pick, pick_yes, pick_no, picked, picked_of_both, and_true, fails}
use Rattle.units.specs.Places.{at}
use Rattle.units.specs.Decimal.{decimal, two_digits, read_on, value_of}
use Rattle.units.specs.DecimalLaws.{decimal_value, decimal_some, decimal_most, decimal_digits}
use Rattle.sheet.specs.declared.Order.{Order}
use Rattle.sheet.specs.Bytes.{up_to, behind, same}
use Rattle.sheet.specs.Line.{space, point, tenant_field, side_field, size_field, life_field, buy_word, sell_word, limit_word, market_word, dash, day_word, now_word, side_of, kind_of, price_of, life_of, day_of, order_of}
use Rattle.sheet.specs.Sheet.{newline, line_most}
use Rattle.sheet.specs.Words.{Without, all_rest, to_space, FieldsOf, nth, Digits, Number, Price, RightField, RightLine}
use Rattle.sheet.specs.Spelling.{CanSpell, dollars_text, side_text, kind_text, price_text, life_text, spelt}
use Rattle.sheet.specs.BytesLaws.{value_below}
use Rattle.sheet.specs.FieldLaws.{up_of, behind_of, cut_fields, cut_last}
use Rattle.sheet.specs.RightLaws.{word_says, digits_say, digits_without}

-- bytes that are all above a byte
record Above (m : ℕ) (s : List ℕ) : Type 0 where
  each : (i : ℕ) → i < length s → m < at s i

above_without : {m : ℕ} {s : List ℕ} → Above m s → Without m s
above_without a i h e = omega (arith, a.each i h)

above_less : {s : List ℕ} → Above space s → Above newline s
above_less a = record { each = λ i h. omega (arith, a.each i h) }

-- of a word, computed
unfoldable all_above : ℕ → List ℕ → Bool
all_above m [] = true
all_above m (b ∷ s) = ltb m b and all_above m s

above_byte : {m b : ℕ} {s : List ℕ} → m < b → Above m s → Above m (b ∷ s)
above_byte {m} {b} {s} h a = record { each = go }
  where
    go : (i : ℕ) → i < length (b ∷ s) → m < at (b ∷ s) i
    go zero l = h
    go (suc i) l = a.each i (omega arith)

above_says : (m : ℕ) (s : List ℕ) → all_above m s ≡ true → Above m s
unfolding all_above
above_says m [] h = record { each = λ i l. absurd (omega arith) }
above_says m (b ∷ s) h =
    let two = and_true (ltb m b) (all_above m s) h in
    above_byte (ltb-true m b two.0) (above_says m s two.1)

-- of one of two words
word_above : (t : Bool) (a b : List ℕ) → all_above space a ≡ true → all_above space b ≡ true → Above space (pick t a b)
word_above t a b h g = picked_of_both (Above space) t a b (above_says space a h) (above_says space b g)

-- of digits, and of bytes joined
digits_above : {m : ℕ} {s : List ℕ} → m < 48 → Digits s → Above m s
digits_above low d = record { each = λ i h. omega (arith, d i h) }

above_join : (s : List ℕ) {t : List ℕ} {m : ℕ} → Above m s → Above m t → Above m (s ++ t)
above_join [] a c = c
above_join (b ∷ s) a c = above_byte (a.each 0 (omega arith)) (above_join s (record { each = λ i h. a.each (suc i) (omega arith) }) c)

-- a field with a space behind it, before others
above_field : (f : List ℕ) {t : List ℕ} → Above space f → Above newline t → Above newline (f ++ (space ∷ t))
above_field f a c = above_join f (above_less a) (above_byte (omega arith) c)

-- what is picked is one of two
two_of : {A : Type 0} (t : Bool) (a b : A) → (pick t a b ≡ a) ⊎ (pick t a b ≡ b)
two_of {A} t a b = picked (λ (x : A). (x ≡ a) ⊎ (x ≡ b)) t a b (λ _. inl refl) (λ _. inr refl)

-- a number in digits
decimal_number : (k n : ℕ) → n < 10 ^ suc k → Number (suc k) (decimal n)
decimal_number k n h = record { digits = decimal_digits n; some = decimal_some n; most = decimal_most k n h }

two_digits_lem : (n : ℕ) → n < 100 → Digits (two_digits n)
two_digits_lem n h zero l = omega arith
two_digits_lem n h (suc zero) l = omega arith
two_digits_lem n h (suc (suc i)) l = absurd (omega arith)

two_value : (n : ℕ) → n < 100 → value_of (two_digits n) ≡ n
unfolding read_on
two_value n h = omega arith

-- dollars and cents: a price, whose value is the cents
module _ (n : ℕ) (h : n ≤ 9999999) where
  price_is : Price (dollars_text n)
  price_is = record {
    dollars = decimal (n / 100);
    cents = two_digits (n % 100);
    is = refl;
    whole = decimal_number 4 (n / 100) (omega arith);
    part = two_digits_lem (n % 100) (omega arith);
    two = refl;
  }

  price_value : 100 * value_of (up_to point (dollars_text n)) + value_of (behind point (dollars_text n)) ≡ n
  price_value =
      let w : Without point (decimal (n / 100)) = digits_without point (decimal (n / 100)) (inl (omega arith)) (decimal_digits (n / 100)) in
      rw (up_of point (decimal (n / 100)) (two_digits (n % 100)) w, behind_of point (decimal (n / 100)) (two_digits (n % 100)) w)
      (omega (arith, decimal_value (n / 100), two_value (n % 100) (omega arith)))

module _ (o : Order) (can : CanSpell o) where
  abbrev cents_of : ℕ
  cents_of = o.entry.price.0

  -- the fields are words, digits, a point or a dash
  tenant_above : Above space (decimal o.tenant)
  tenant_above = digits_above {s = decimal o.tenant} (omega arith) (decimal_digits o.tenant)

  side_above : Above space (side_text o)
  unfolding all_above ◌and◌
  side_above = word_above (eqb o.entry.side 1) buy_word sell_word refl refl

  size_above : Above space (decimal o.entry.size.0)
  size_above = digits_above {s = decimal o.entry.size.0} (omega arith) (decimal_digits o.entry.size.0)

  kind_above : Above space (kind_text o)
  unfolding all_above ◌and◌
  kind_above = word_above (eqb o.entry.kind 1) limit_word market_word refl refl

  price_above : Above space (price_text o)
  unfolding all_above ◌and◌
  price_above = picked_of_both (Above space) (eqb o.entry.kind 1) (dollars_text cents_of) dash
      (above_join (decimal (cents_of / 100))
      (digits_above {s = decimal (cents_of / 100)} (omega arith) (decimal_digits (cents_of / 100)))
      (above_byte (omega arith) (digits_above {s = two_digits (cents_of % 100)} (omega arith) (two_digits_lem (cents_of % 100) (omega arith)))))
      (above_says space dash refl)

  life_above : Above space (life_text o)
  unfolding all_above ◌and◌
  life_above = word_above (eqb o.entry.life day_of) day_word now_word refl refl

  abbrev fields_for : List (List ℕ)
  fields_for = decimal o.tenant ∷ side_text o ∷ decimal o.entry.size.0 ∷ kind_text o ∷ price_text o ∷ life_text o ∷ []

  cut : FieldsOf (spelt o) fields_for
  cut =
      to_space (above_without tenant_above)
      (to_space (above_without side_above)
      (to_space (above_without size_above)
      (to_space (above_without kind_above)
      (to_space (above_without price_above)
      all_rest))))

  prices : ((kind_text o ≡ limit_word) × Price (price_text o)) ⊎ ((kind_text o ≡ limit_word → ⊥) × (price_text o ≡ dash))
  prices = ⊎_elim
      (λ (kind, most). let t : eqb o.entry.kind 1 ≡ true = eq-eqb o.entry.kind 1 kind in
      inl (pick_yes limit_word market_word t, rw (pick_yes (dollars_text cents_of) dash t) (price_is cents_of most)))
      (λ (kind, none). let t : eqb o.entry.kind 1 ≡ false = ne_eqb o.entry.kind 1 (λ e. omega arith) in
      inr ((λ e. market_limit (sym (pick_no limit_word market_word t) ∙ e)), pick_no (dollars_text cents_of) dash t))
      can.price
    where
      market_limit : market_word ≡ limit_word → ⊥
      market_limit e = omega (arith, ap (λ (l : List ℕ). at l 0) e)

  rights : (i : ℕ) → i < 6 → RightField fields_for i
  rights zero h = decimal_number 0 o.tenant (omega (arith, can.tenant))
  rights (suc zero) h = two_of (eqb o.entry.side 1) buy_word sell_word
  rights (suc (suc zero)) h = decimal_number 5 o.entry.size.0 (omega (arith, can.size))
  rights (suc (suc (suc zero))) h = two_of (eqb o.entry.kind 1) limit_word market_word
  rights (suc (suc (suc (suc zero)))) h = prices
  rights (suc (suc (suc (suc (suc i))))) h = two_of (eqb o.entry.life day_of) day_word now_word

  -- all bytes of the line: far fewer than it may have, and none is a newline
  line_above : Above newline (spelt o)
  line_above =
      above_field (decimal o.tenant) tenant_above
      (above_field (side_text o) side_above
      (above_field (decimal o.entry.size.0) size_above
      (above_field (kind_text o) kind_above
      (above_field (price_text o) price_above
      (above_less life_above)))))

  line_few : length (spelt o) ≤ line_most
  line_few =
      let side : length (side_text o) ≤ 4 = picked_of_both (λ (f : List ℕ). length f ≤ 4) (eqb o.entry.side 1) buy_word sell_word (omega arith) (omega arith) in
      let kind : length (kind_text o) ≤ 3 = picked_of_both (λ (f : List ℕ). length f ≤ 3) (eqb o.entry.kind 1) limit_word market_word (omega arith) (omega arith) in
      let life : length (life_text o) ≤ 3 = picked_of_both (λ (f : List ℕ). length f ≤ 3) (eqb o.entry.life day_of) day_word now_word (omega arith) (omega arith) in
      let tenant = decimal_most 0 o.tenant (omega (arith, can.tenant)) in
      let size = decimal_most 5 o.entry.size.0 (omega (arith, can.size)) in
      simp length-append (omega (arith, price_few))
    where
      price_few : length (price_text o) ≤ 8
      price_few = ⊎_elim
          (λ (kind, most). rw (pick_yes (dollars_text cents_of) dash (eq-eqb o.entry.kind 1 kind))
          (simp length-append (omega (arith, decimal_most 4 (cents_of / 100) (omega arith)))))
          (λ (kind, none). rw (pick_no (dollars_text cents_of) dash (ne_eqb o.entry.kind 1 (λ e. omega arith))) (omega arith))
          can.price

  pub spelt_right : RightLine (spelt o)
  spelt_right = record { is_line = (above_without line_above, line_few); fields = fields_for; cut = cut; right = rights }

  -- what each field says
  side_is : side_of (side_text o) ≡ o.entry.side
  unfolding side_of same ◌and◌ pick
  side_is = ⊎_elim (λ e. rw e) (λ e. rw e) can.side

  kind_is : kind_of (kind_text o) ≡ o.entry.kind
  unfolding kind_of same ◌and◌ pick
  kind_is = ⊎_elim (λ (e, _). rw e) (λ (e, _). rw e) can.price

  life_is : life_of (life_text o) ≡ o.entry.life
  unfolding life_of same ◌and◌ pick
  life_is = ⊎_elim (λ e. rw e) (λ e. rw e) can.life

  price_is_it : price_of (kind_text o) (price_text o) ≡ o.entry.price.0
  unfolding price_of same ◌and◌ pick
  price_is_it = ⊎_elim (λ (e, most). rw e (price_value cents_of most)) (λ (e, none). rw e (sym none)) can.price

  -- A line spelt from an order says that order.
  pub spelt_says : order_of (spelt o) ≡ o
  unfolding order_of
  spelt_says =
      rw (
        cut_fields cut 0 (omega arith),
        cut_fields cut 1 (omega arith),
        cut_fields cut 2 (omega arith),
        cut_fields cut 3 (omega arith),
        cut_fields cut 4 (omega arith),
        cut_last cut,
        decimal_value o.tenant,
        decimal_value o.entry.size.0,
        side_is,
        kind_is,
        life_is,
        price_is_it,
        ← can.number,
      )

number_below : (k : ℕ) (f : List ℕ) → Number k f → value_of f < 10 ^ k
number_below k f n = value_below k f ((digits_say f).1 n.digits) n.most

-- The order that a right line says can be spelt.
module _ (line : List ℕ) (r : RightLine line) where
  abbrev fs : List (List ℕ)
  fs = r.fields

  tenant_most : value_of (tenant_field line) ≤ 9
  tenant_most = rw (cut_fields r.cut 0 (omega arith)) (omega (arith, number_below 1 (nth fs 0) (r.right 0 (omega arith))))

  size_most : value_of (size_field line) ≤ 999999
  size_most = rw (cut_fields r.cut 2 (omega arith)) (omega (arith, number_below 6 (nth fs 2) (r.right 2 (omega arith))))

  price_can : (kind f : List ℕ) → ((kind ≡ limit_word) × Price f) ⊎ ((kind ≡ limit_word → ⊥) × (f ≡ dash)) →
      ((kind_of kind ≡ 1) × (price_of kind f ≤ 9999999)) ⊎ ((kind_of kind ≡ 2) × (price_of kind f ≡ 0))
  unfolding kind_of price_of
  price_can kind f (inl (is, p)) =
      let t : same kind limit_word ≡ true = (word_says kind limit_word).1 is in
      let w : Without point p.dollars = digits_without point p.dollars (inl (omega arith)) p.whole.digits in
      let front : up_to point f ≡ p.dollars = rw p.is (up_of point p.dollars p.cents w) in
      let back : behind point f ≡ p.cents = rw p.is (behind_of point p.dollars p.cents w) in
      let few = number_below 5 p.dollars p.whole in
      let fewer = value_below 2 p.cents ((digits_say p.cents).1 p.part) (omega (arith, p.two)) in
      inl (pick_yes 1 2 t, rw (pick_yes (100 * value_of (up_to point f) + value_of (behind point f)) 0 t, front, back) (omega (arith, few, fewer)))
  price_can kind f (inr (other, is)) =
      let t : same kind limit_word ≡ false = fails (same kind limit_word) (λ h. other ((word_says kind limit_word).0 h)) in
      inr (pick_no 1 2 t, pick_no (100 * value_of (up_to point f) + value_of (behind point f)) 0 t)

  pub right_can : CanSpell (order_of line)
  unfolding order_of side_of life_of
  right_can = record {
    tenant = tenant_most;
    side = two_of (same (side_field line) buy_word) 1 2;
    size = size_most;
    price = rw (cut_fields r.cut 3 (omega arith), cut_fields r.cut 4 (omega arith)) (price_can (nth fs 3) (nth fs 4) (r.right 4 (omega arith)));
    life = two_of (same (life_field line) day_word) day_of 2;
    number = refl;
  }
