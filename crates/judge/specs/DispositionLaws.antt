-- Each disposition is given exactly in its case; and what holds of an order that rests.
use Rattle.std.specs.Prelude.{◌≡◌, true, false, ◌+◌, ◌-◌, ◌≤◌, ◌<◌}
use Rattle.std.proofs.Math.Path.{refl}
use borrow.Author.Tests.{ltb-false, leb-false}
use Rattle.units.specs.declared.Contracts.{Contracts}
use Rattle.units.specs.Tests.{and_holds, and_false, or_false}
use Rattle.units.specs.CaseLaws.{GivenBy, first_given, all_fail}
use Rattle.entry.specs.declared.Entry.{Entry}
use Rattle.entry.specs.declared.Quotes.{Quotes}
use Rattle.entry.specs.declared.Terms.{Terms}
use Rattle.entry.specs.Numbers.{present}
use Rattle.entry.specs.Entry.{is_market, is_buy, is_sell, is_now}
use Rattle.judge.specs.Disposition.{beyond_drill, at_away, dispositions, disposition_of}

module _ (e : Entry) (q : Quotes) (t : Terms) (left : Contracts) where
  -- each of the four dispositions is given exactly where the tests before its own fail and its own holds; and an order
  -- rests exactly where none of them applies
  pub disposed_by : GivenBy (disposition_of e q t left) 1 (dispositions e q t left)
  unfolding disposition_of
  disposed_by = first_given 1 (dispositions e q t left) refl

  module _ (rests : disposition_of e q t left ≡ 1) where
    -- an order that rests is neither a market order nor for now
    pub rests_day_limit : (is_market e ≡ false) × (is_now e ≡ false)
    rests_day_limit = or_false (is_market e) (is_now e) (all_fail disposed_by rests 1)

    -- its limit is not beyond the drill price
    pub within_drill_buy : is_buy e ≡ true → present q.nbo ≡ true → e.price.0 ≤ q.nbo.0 + t.drill.0
    unfolding beyond_drill
    within_drill_buy b h = ltb-false _ _ (and_false _ _ (or_false _ _ (all_fail disposed_by rests 2)).0 (and_holds _ _ b h))

    pub within_drill_sell : is_sell e ≡ true → present q.nbb ≡ true → q.nbb.0 - t.drill.0 ≤ e.price.0
    unfolding beyond_drill
    within_drill_sell b h = ltb-false _ _ (and_false _ _ (or_false _ _ (all_fail disposed_by rests 2)).1 (and_holds _ _ b h))

    -- and is short of the away opposite quote
    pub short_of_offer : is_buy e ≡ true → present q.away.offer ≡ true → e.price.0 < q.away.offer.0
    unfolding at_away
    short_of_offer b h = leb-false _ _ (and_false _ _ (or_false _ _ (all_fail disposed_by rests 3)).0 (and_holds _ _ b h))

    pub short_of_bid : is_sell e ≡ true → present q.away.bid ≡ true → q.away.bid.0 < e.price.0
    unfolding at_away
    short_of_bid b h = leb-false _ _ (and_false _ _ (or_false _ _ (all_fail disposed_by rests 3)).1 (and_holds _ _ b h))
