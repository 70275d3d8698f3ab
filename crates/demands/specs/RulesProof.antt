-- The tests of the rules read as the rules in words; and what they speak of is as the words say.
use mathlib.Core.Logic.Iff
use Rattle.std.specs.Prelude.{◌≡◌, ◌↔◌, true, ℕ, max}
use Rattle.std.proofs.Math.Path.{refl}
use Rattle.std.proofs.Common.{inl, inr, ⊎_elim, arith}
use Rattle.units.specs.Units.{contracts}
use Rattle.units.specs.Tests.{order, less, equal, more}
use Rattle.units.specs.Says.{same_says, or_says}
use Rattle.units.specs.CountLaws.{one_count}
use Rattle.book.specs.Book.{Book, best_bid, best_offer, resting_of}
use Rattle.book.specs.BookLaws.{buy_most}
use Rattle.book.specs.BestLaws.{OwnRow, resting_counted, bid_found, offer_found}
use Rattle.book.specs.Sound.{SoundBook}
use Rattle.entry.specs.declared.Entry.{Entry}
use Rattle.entry.specs.declared.Quotes.{Quotes}
use Rattle.entry.specs.declared.Terms.{Terms}
use Rattle.entry.specs.Quotes.{lower_offer, quotes_of}
use Rattle.entry.specs.QuoteLaws.{lower_says}
use Rattle.checks.specs.declared.Standing.{Standing}
use Rattle.checks.specs.TurnDown.{no_room, turn_downs}
use Rattle.checks.specs.Words.{judged_says, not_yet_says, off_grid_says, at_strike_says, no_offer_says, no_bid_says, too_wide_says, far_price_says, no_room_says, used_up_says}
use Rattle.judge.specs.Disposition.{dispositions}
use Rattle.judge.specs.Words.{beyond_drill_says, at_away_says, buy_bound_says, sell_bound_says}
use Rattle.dealing.specs.Deal.{quotes_on}
use Rattle.dealing.specs.ReachLaws.{sell_offered}
use Rattle.session.specs.Market.{Market}
use Rattle.session.specs.Turn.{quotes_in, standing_of}
use Rattle.demands.specs.Runs.{head_entry}
use Rattle.demands.specs.InOrderLaws.{Reads}
use Rattle.demands.specs.TurnCases.{quotes_away}
use Rattle.demands.specs.Rules.{IsNBB, IsNBO, TwentyFourRest, judged, turn_down_rules, disposition_rules, JudgedRight}

module _ (m : Market) (t : ℕ) where
  -- the tenant's rows are as many as the test of 17 counts
  room_says : (no_room (judged m t) (standing_of m t) ≡ true) ↔ (((judged m t).kind ≡ 1) × ((judged m t).life ≡ 1) × TwentyFourRest m t)
  room_says = Iff.trans (no_room_says (judged m t) (quotes_in m) m.session.terms (standing_of m t)) (
    λ (k, day, many). (k, day, (resting_of m.book t, resting_counted m.book t, many)),
    λ (k, day, (n, counted, many)). (k, day, omega (arith, one_count (OwnRow m.book t) (resting_counted m.book t) counted)),
  )

  pub turn_downs_read : Reads (turn_downs (head_entry m t) (quotes_in m) m.session.terms (standing_of m t)) (turn_down_rules m t)
  turn_downs_read =
      let e : Entry = head_entry m t in
      let q : Quotes = quotes_in m in
      let x : Terms = m.session.terms in
      let s : Standing = standing_of m t in (
        refl,
        not_yet_says e q x s,
        (
          refl,
          off_grid_says e q x s,
          (
            refl,
            at_strike_says e q x s,
            (
              refl,
              no_offer_says e q x s,
              (
                refl,
                no_bid_says e q x s,
                (refl, too_wide_says e q x s, (refl, far_price_says (judged m t) q x s, (refl, room_says, (refl, used_up_says e q x s, tt)))),
              ),
            ),
          ),
        ),
      )

  pub dispositions_read : (left : ℕ) → Reads (dispositions (judged m t) (quotes_in m) m.session.terms (contracts left)) (disposition_rules m t left)
  unfolding quotes_on quotes_of
  dispositions_read left = (
    refl,
    same_says left 0,
    (
      refl,
      or_says (same_says _ _) (same_says _ _),
      (
        refl,
        beyond_drill_says (judged m t) (quotes_in m) m.session.terms,
        (refl, at_away_says (judged m t) (quotes_in m) m.session.terms, tt),
      ),
    ),
  )

-- ---- NBB and NBO

module _ (b : Book) (next : ℕ) (sound : SoundBook b next) (away : ℕ) where
  nbb_of : IsNBB b away (max (best_bid b) away)
  nbb_of = record {
    away_bid = omega arith;
    buys = λ i r. omega (arith, buy_most b i r.row r.rests r.on);
    one_of = elim (order away (best_bid b)) [
      | less h ↦ inr (let (i, r, is) = bid_found b (omega arith) in (i, r, omega arith))
      | equal h ↦ inl (omega arith)
      | more h ↦ inl (omega arith)
    ];
  }

  nbo_of : IsNBO b away (lower_offer (best_offer b) away)
  nbo_of = let low = lower_says (best_offer b) away in record {
    away_offer = low.second;
    sells = sell_offered b next sound away;
    one_of = ⊎_elim
        (λ (is : lower_offer (best_offer b) away ≡ best_offer b). elim (order 0 (best_offer b)) [
          | less h ↦ inr (let (i, r, found) = offer_found b next sound h in (i, r, omega arith))
          | equal h ↦ elim (order 0 away) [
            | less g ↦ absurd (omega (arith, (low.second g).0))
            | equal g ↦ inl (omega arith)
            | more g ↦ absurd (omega arith)
          ]
          | more h ↦ absurd (omega arith)
        ])
        inl
        low.one_of;
  }

pub judged_right : JudgedRight
unfolding quotes_on quotes_of
judged_right = record {
  nbb_is = λ m sound set. nbb_of m.book m.session.next (sound set).ready.book m.session.away.bid.0;
  nbo_is = λ m sound set. nbo_of m.book m.session.next (sound set).ready.book m.session.away.offer.0;
  away_is = quotes_away;
  judged_as = λ m t. judged_says (head_entry m t) (quotes_in m) m.session.terms (standing_of m t);
  buy_bound = λ m t price. buy_bound_says (judged m t) (quotes_in m) m.session.terms price;
  sell_bound = λ m t price side least most. sell_bound_says (judged m t) (quotes_in m) m.session.terms price side least;
}
