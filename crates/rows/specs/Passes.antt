-- What is looked for and counted over n rows, given by what each of their columns has at a place.
use Rattle.std.specs.Prelude.{ℕ, eqb}
use Rattle.units.specs.Sums.{sum_to}
use Rattle.units.specs.Counts.{count_to}
use Rattle.units.specs.Firsts.{first_to}
use Rattle.units.specs.Leasts.{least_to, greatest_to}
use Rattle.rows.specs.Rows.{no_price, open_size, buy_price, sell_price, rests_for, is_order}

module _ (n : ℕ) where
  module _ (side price size : ℕ → ℕ) where
    -- the highest resting buy, 0 where there is none
    unfoldable pub highest_buy : ℕ
    highest_buy = greatest_to (λ i. buy_price (side i) (price i) (size i)) n

    -- the lowest resting sell, above every price where there is none
    unfoldable pub lowest_sell : ℕ
    lowest_sell = least_to no_price (λ i. sell_price (side i) (price i) (size i)) n

    -- contracts that may be traded on side s within a bound
    unfoldable pub resting_within : ℕ → ℕ → ℕ
    resting_within s bound = sum_to (λ i. open_size s bound (side i) (price i) (size i)) n

  -- how many rows a tenant has resting
  unfoldable pub resting_rows : (ℕ → ℕ) → (ℕ → ℕ) → ℕ → ℕ
  resting_rows owner size tenant = count_to (λ i. rests_for tenant (owner i) (size i)) n

  -- the row of a tenant's resting order, n where that number does not rest or is not that tenant's
  unfoldable pub order_row : (ℕ → ℕ) → (ℕ → ℕ) → (ℕ → ℕ) → ℕ → ℕ → ℕ
  order_row owner number size tenant m = first_to (λ i. is_order tenant m (owner i) (number i) (size i)) n

  -- the first free row, n where there is none
  unfoldable pub free_row : (ℕ → ℕ) → ℕ
  free_row size = first_to (λ i. eqb (size i) 0) n
