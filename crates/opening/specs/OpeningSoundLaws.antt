-- What an opening leaves: a sound book, never locked or crossed, with less resting by the volume at least.
use Rattle.std.specs.Prelude.{◌≡◌, ℕ, ◌+◌, ◌-◌, ◌≤◌, ◌<◌}
use Rattle.std.proofs.Common.{◌∙◌, arith}
use Rattle.units.specs.Sums.{sum_to, sum_most}
use Rattle.units.specs.Places.{table, table_at, table_length}
use Rattle.rows.specs.Rows.{rows}
use Rattle.book.specs.Book.{Book, size_at, number_at}
use Rattle.book.specs.Sound.{SoundBook, Uncrossed, resting}
use Rattle.book.specs.SoundLaws.{shrunk_sound}
use Rattle.book.specs.RestingLaws.{shrinks, gives}
use Rattle.opening.specs.Opening.{volume, bought, matched, after_fills, after_opening}
use Rattle.opening.specs.OpeningLaws.{matched_most, opening_most, opening_left, never_locked_or_crossed, all_bought}

module _ {b : Book} {next : ℕ} (s : SoundBook b next) (p : ℕ) where
  within_places : {i : ℕ} → i < rows → i < b.places
  within_places h = omega (arith, s.places)

  -- an opening keeps the book sound, and after it the book is never locked or crossed, whatever the price
  pub opening_sound : SoundBook (after_opening b p) next
  unfolding after_opening
  opening_sound = shrunk_sound s (after_opening b p).sizes (table_length _ b.places ∙ s.places) (λ i h. opening_most b p i (within_places h))

  pub opening_uncrossed : Uncrossed (after_opening b p)
  unfolding after_opening
  opening_uncrossed i j h h' = never_locked_or_crossed b p i j (within_places h) (within_places h')

module _ (b : Book) (p : ℕ) (apart : (i j : ℕ) → i < b.places → j < b.places → 0 < size_at b i → 0 < size_at b j → number_at b i ≡ number_at b j → i ≡ j) where
  -- the fills take what all rows match, which is the volume at least,
  fills_take : resting (after_fills b p) + sum_to (matched b p) b.places ≡ resting b
  unfolding after_fills
  fills_take = gives b (table (λ i. size_at b i - matched b p i) b.places) (matched b p) (λ i h. table_at _ b.places i h) (matched_most b p)

  matched_all : volume b p ≤ sum_to (matched b p) b.places
  unfolding matched
  matched_all = omega (arith, all_bought b p apart, sum_most {f = bought b p} {g = matched b p} b.places (λ i _. omega arith))

  -- and the cancels add nothing
  cancels_add_nothing : resting (after_opening b p) ≤ resting (after_fills b p)
  unfolding after_opening after_fills
  cancels_add_nothing = shrinks (after_fills b p) (after_opening b p).sizes (opening_left b p)

  pub opening_takes : resting (after_opening b p) + volume b p ≤ resting b
  opening_takes = omega (arith, fills_take, matched_all, cancels_add_nothing)
