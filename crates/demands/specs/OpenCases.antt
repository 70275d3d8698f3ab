-- What an opening comes to, case by case.
use Rattle.std.specs.Prelude.{◌≡◌, true, false, List, ℕ, ◌<◌, ltb, Option, Some}
use Rattle.std.proofs.Math.Path.{refl}
use Rattle.std.proofs.Common.{arith}
use borrow.Author.Tests.{ltb-true, ltb-false}
use Rattle.units.specs.declared.Cents.{Cents}
use Rattle.units.specs.Tests.{pick, picked, and_false, not_false, holds_not_fails}
use Rattle.book.specs.Book.{crosses}
use Rattle.price.specs.Price.{chosen, none_valid}
use Rattle.price.specs.PriceLaws.{First, at_midpoint, at_print, at_close, nowhere, chosen_first}
use Rattle.session.specs.OpenAnswer as answer
use Rattle.session.specs.Market.{Market}
use Rattle.dealing.specs.Open.{choice_in, way_refusal}
use Rattle.session.specs.Open.{OpenDone, sources_of, choice_of, open_cases, open_refusal, open_quiet, open_at, open_of}
use Rattle.demands.specs.InOrderLaws.{fails_at}

-- an opening that is not refused has accepted settings
pub open_set : (m : Market) (lent : ℕ) → open_refusal m lent ≡ 0 → m.session.accepted ≡ true
unfolding way_refusal
open_set m lent e = not_false m.session.accepted (fails_at 0 (open_cases m lent) refl e 0)

module _ (m : Market) (lent : ℕ) (was : List ℕ) where
  -- refused by its number; open with nothing to match; or matched at the first price that is valid
  pub data Outcome : OpenDone → Type 0 where
    refused : 0 < open_refusal m lent → Outcome (record { market = m; answer = answer.Refused (open_refusal m lent); records = was })
    quiet : open_refusal m lent ≡ 0 → crosses m.book ≡ false → Outcome (open_quiet m was)
    opens : (p : Cents) → open_refusal m lent ≡ 0 → crosses m.book ≡ true → First (sources_of m.session) (Some p) → Outcome (open_at m was p.0)

  by_price : open_refusal m lent ≡ 0 → crosses m.book ≡ true → {c : (Option Cents)} → First (sources_of m.session) c → none_valid c ≡ false → Outcome (open_at m was (chosen c))
  by_price e c (at_midpoint i) n = opens _ e c (at_midpoint i)
  by_price e c (at_print i j) n = opens _ e c (at_print i j)
  by_price e c (at_close i j k) n = opens _ e c (at_close i j k)
  by_price e c (nowhere u) n = absurd (holds_not_fails refl n)

  by_book : open_refusal m lent ≡ 0 → Outcome (pick (crosses m.book) (open_at m was (chosen (choice_of m.session))) (open_quiet m was))
  unfolding way_refusal choice_in
  by_book e = picked Outcome (crosses m.book) _ _
      (λ c. by_price e c (chosen_first (sources_of m.session)) (and_false _ _ (fails_at 0 (open_cases m lent) refl e 3) c)) (quiet e)

  pub outcome : Outcome (open_of m lent was)
  unfolding open_of
  outcome =
      let r = open_refusal m lent in
      picked Outcome (ltb 0 r) _ _ (λ h. refused (ltb-true 0 r h)) (λ h. by_book (omega (arith, ltb-false 0 r h)))
