-- The cases of an open, as the code meets them.
use Rattle.std.specs.Prelude.{◌≡◌, Bool, List, ℕ, ◌*◌, ltb, length}
use Rattle.std.proofs.Math.Path.{refl, ap}
use Rattle.std.proofs.Common.{◌∙◌}
use Rattle.std.proofs.Math.Bool.{true, false}
use Rattle.units.specs.declared.Cents.{Cents}
use Rattle.book.specs.Records.{fields}
use Rattle.units.specs.Units.{cents, contracts}
use Rattle.units.specs.Tests.{pick}
use Rattle.rows.specs.Rows.{rows}
use Rattle.book.specs.Book.{Book, crosses}
use Rattle.opening.specs.Opening.{after_opening, opening_written}
use Rattle.dealing.specs.declared.open.Counted.{Counted}
use Rattle.dealing.specs.Open.{counted_of, CanOpen, way_of}
use Rattle.dealing.specs.Sound.{Ready}
use Rattle.price.specs.Price.{chosen}
use Rattle.session.specs.OpenAnswer as answer
use Rattle.session.specs.declared.Session.{Session}
use Rattle.dealing.specs.Way.{Way}
use Rattle.dealing.specs.Way.{Refused, Quiet, At}
use Rattle.session.specs.Market.{Market, market_of, series_of, floor_on}
use Rattle.session.specs.Open.{open_refusal, choice_of, open_on, open_quiet, open_at, open_of, by_way}

module _ (m : Market) (lent : ℕ) where
  -- and what an open makes of a market is what its way makes of it
  pub by_way_lem : (was : List ℕ) (w : Way) → w ≡ way_of m.session.accepted (series_of m.session) m.book lent → by_way m was w ≡ open_of m lent was
  unfolding way_of open_of pick
  by_way_lem was w is = ap (by_way m was) is ∙ go (ltb 0 (open_refusal m lent)) (crosses m.book)
    where
      go : (t c : Bool) →
          by_way m was (pick t (Refused (open_refusal m lent)) (pick c (At (cents (chosen (choice_of m.session)))) Quiet)) ≡
          pick t (by_way m was (Refused (open_refusal m lent))) (pick c (open_at m was (chosen (choice_of m.session))) (open_quiet m was))
      go true c = refl
      go false true = refl
      go false false = refl

-- what judging rests on, opening does
pub can_open : (s : Session) (b : Book) (was : List ℕ) → Ready (floor_on s b) → length was ≡ fields * rows → CanOpen s.tallies b was
can_open s b was ready long =
    record { next = s.next; next_most = ready.next_most; sound = ready.book; sums = ready.tallies; records_long = long }

module _ (m : Market) (was : List ℕ) where
  pub quiet_is : (after : Session) → after ≡ open_on m.session m.session.tallies →
      record { market = market_of after m.book m.entries; answer = answer.AtPrice (cents 0) (contracts 0) 0; records = was } ≡ open_quiet m was
  unfolding open_quiet
  quiet_is after e = rw e

  pub matched_is :
      (price : Cents) (b : Book) (records : List ℕ) (done : Counted) (after : Session) →
      b ≡ after_opening m.book price.0 →
      records ≡ opening_written m.book price.0 was →
      done ≡ counted_of m.session.tallies m.book price.0 →
      after ≡ open_on m.session done.tallies →
      record { market = market_of after b m.entries; answer = answer.AtPrice price done.volume done.fills; records = records } ≡
      open_at m was price.0
  unfolding open_at counted_of
  matched_is price b records done after e₁ e₂ e₃ e₄ = rw (e₄, e₃, e₂, e₁)

-- an open leaves every row its number
pub numbers_stand : (m : Market) (lent : ℕ) (was : List ℕ) → (open_of m lent was).market.book.numbers ≡ m.book.numbers
unfolding open_of open_at open_quiet after_opening pick
numbers_stand m lent was = go (ltb 0 (open_refusal m lent)) (crosses m.book)
  where
    go : (t c : Bool) →
        (pick t (record { market = m; answer = answer.Refused (open_refusal m lent); records = was })
        (pick c (open_at m was (chosen (choice_of m.session))) (open_quiet m was))).market.book.numbers ≡ m.book.numbers
    go true c = refl
    go false true = refl
    go false false = refl
