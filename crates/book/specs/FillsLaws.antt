-- Laws of a row that is filled from its start.
use Rattle.std.specs.Prelude.{◌≡◌, refl, List, [], ◌∷◌, ◌++◌, ℕ, zero, suc, ◌+◌, ◌≤◌, ◌<◌, length, get_or, drop, set}
use Rattle.std.proofs.Common.{sym, ap, ◌∙◌, zero-add, add-zero, add-suc, suc-add, not-suc-le-zero, le_of_suc-le-suc, add-one, arith}
use Rattle.book.specs.declared.Fill.{Fill}
use Rattle.book.specs.Fills.{fill_at, fills_from, stored}

next_from : (rs : List ℕ) (k i : ℕ) (row : List Fill) → i < length row
    → set (fills_from rs k i ++ drop i row) i (fill_at rs (k + i)) ≡ fills_from rs k (suc i) ++ drop (suc i) row
next_from rs k i [] l = absurd (not-suc-le-zero l)
next_from rs k zero (y ∷ row) l = ap (λ (m : ℕ). fill_at rs m ∷ row) (add-zero k)
next_from rs k (suc i) (y ∷ row) l =
    ap (λ (zs : List Fill). fill_at rs k ∷ zs)
    (ap (λ (m : ℕ). set (fills_from rs (suc k) i ++ drop i row) i (fill_at rs m)) (add-suc k i ∙ sym (suc-add k i))
    ∙ next_from rs (suc k) i row (le_of_suc-le-suc l))

-- the row with i fills stored, and fill i stored, is the row with i + 1 stored
pub next_row : (rs : List ℕ) (i : ℕ) (row : List Fill) → i < length row → set (stored rs i row) i (fill_at rs i) ≡ stored rs (i + 1) row
next_row rs i row l =
    ap (λ (m : ℕ). set (stored rs i row) i (fill_at rs m)) (sym (zero-add i))
    ∙ next_from rs 0 i row l
    ∙ ap (λ (m : ℕ). stored rs m row) (sym (add-one i))

length_from : (rs : List ℕ) (k i : ℕ) (row : List Fill) → i ≤ length row → length (fills_from rs k i ++ drop i row) ≡ length row
length_from rs k zero row l = refl
length_from rs k (suc i) [] l = absurd (not-suc-le-zero l)
length_from rs k (suc i) (y ∷ row) l = ap suc (length_from rs (suc k) i row (le_of_suc-le-suc l))

-- it stays as long as it was
pub row_length : (rs : List ℕ) (i : ℕ) (row : List Fill) → i ≤ length row → length (stored rs i row) ≡ length row
row_length rs i row = length_from rs 0 i row

at_from : (rs : List ℕ) (j n k : ℕ) (rest : List Fill) (d : Fill) → k < n → get_or (fills_from rs j n ++ rest) k d ≡ fill_at rs (j + k)
at_from rs j zero k rest d l = absurd (not-suc-le-zero l)
at_from rs j (suc n) zero rest d l = ap (fill_at rs) (sym (add-zero j))
at_from rs j (suc n) (suc k) rest d l =
    at_from rs (suc j) n k rest d (le_of_suc-le-suc l) ∙ ap (fill_at rs) (suc-add j k ∙ sym (add-suc j k))

-- fill k of those stored is record k
pub stored_at_lem : (rs : List ℕ) (n k : ℕ) (row : List Fill) (d : Fill) → k < n → get_or (stored rs n row) k d ≡ fill_at rs k
stored_at_lem rs n k row d l = at_from rs 0 n k (drop n row) d l ∙ ap (fill_at rs) (zero-add k)

past_from : (rs : List ℕ) (j n k : ℕ) (row : List Fill) (d : Fill) → n ≤ length row → n ≤ k → get_or (fills_from rs j n ++ drop n row) k d ≡ get_or row k d
past_from rs j zero k row d l h = refl
past_from rs j (suc n) k [] d l h = absurd (not-suc-le-zero l)
past_from rs j (suc n) zero (y ∷ row) d l h = absurd (not-suc-le-zero h)
past_from rs j (suc n) (suc k) (y ∷ row) d l h = past_from rs (suc j) n k row d (le_of_suc-le-suc l) (le_of_suc-le-suc h)

-- past those stored the row is as found
pub stored_past : (rs : List ℕ) (n k : ℕ) (row : List Fill) (d : Fill) → n ≤ length row → n ≤ k → get_or (stored rs n row) k d ≡ get_or row k d
stored_past rs = past_from rs 0

same_from : (rs rs' : List ℕ) (j n : ℕ) → ((k : ℕ) → k < j + n → fill_at rs k ≡ fill_at rs' k) → fills_from rs j n ≡ fills_from rs' j n
same_from rs rs' j zero h = refl
same_from rs rs' j (suc n) h = rw (h j (omega arith), same_from rs rs' (suc j) n (λ k l. h k (omega arith)))

-- the row is made of the first n records alone
pub stored_same : (rs rs' : List ℕ) (n : ℕ) (row : List Fill) → ((k : ℕ) → k < n → fill_at rs k ≡ fill_at rs' k) → stored rs n row ≡ stored rs' n row
stored_same rs rs' n row h = ap (λ (fs : List Fill). fs ++ drop n row) (same_from rs rs' 0 n (λ k l. h k (omega arith)))
