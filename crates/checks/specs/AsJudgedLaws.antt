-- What a new order has as judged.
use Rattle.std.specs.Prelude.{◌≡◌, Bool, ◌≤◌}
use Rattle.std.proofs.Math.Path.{refl}
use Rattle.std.proofs.Math.Logic.{inl, inr}
use Rattle.std.proofs.Math.Bool.{true, false}
use Rattle.units.specs.Grid.{lowest_of}
use Rattle.units.specs.Tests.{◌and◌, pick_yes, pick_no, and_true, and_holds, or_first}
use Rattle.rows.specs.Rows.{highest}
use Rattle.entry.specs.declared.Entry.{Entry}
use Rattle.entry.specs.declared.Quotes.{Quotes}
use Rattle.entry.specs.declared.Terms.{Terms}
use Rattle.entry.specs.Entry.{is_market, is_sell, is_now}
use Rattle.entry.specs.EntryLaws.{Proper}
use Rattle.checks.specs.TurnDown.{unbid, converts, as_judged, might_rest}

-- a new order that is neither a market order nor for now might rest
pub day_limit_might_rest : (e : Entry) → Proper e → is_market e ≡ false → is_now e ≡ false → might_rest e ≡ true
unfolding might_rest
day_limit_might_rest e p m n = and_holds _ _ (or_first p.kinded m) (or_first p.lived n)

-- what a new order is judged as is proper too, where the grid's lowest step is a price
module _ (e : Entry) (q : Quotes) (t : Terms) where
  converted_sells : converts e q ≡ true → is_sell e ≡ true
  unfolding converts unbid
  converted_sells h = (and_true (is_market e) _ (and_true (is_market e and is_sell e) _ (and_true (unbid e q) _ h).0).0).1

  pub judged_proper : Proper e → 1 ≤ (lowest_of t.grid).0 → (lowest_of t.grid).0 ≤ highest → Proper (as_judged e q t)
  unfolding as_judged
  judged_proper p low high = go (converts e q) refl
    where
      go : (b : Bool) → converts e q ≡ b → Proper (as_judged e q t)
      go true h = rw (pick_yes _ _ h) (record {
        sided = inr (converted_sells h);
        lived = p.lived;
        kinded = inl refl;
        price_least = λ _. low;
        price_most = λ _. high;
        size_least = p.size_least;
        size_most = p.size_most;
      })
      go false h = rw (pick_no _ _ h) p
