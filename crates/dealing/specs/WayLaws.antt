-- Which way an open goes, by what each test says.
use Rattle.std.specs.Prelude.{◌≡◌, Option, Some, None, Bool, true, false, ℕ, ◌≤◌, ◌<◌}
use Rattle.std.proofs.Math.Path.{sym}
use Rattle.std.proofs.Common.{ap, ◌∙◌, true≢false}
use borrow.Author.Tests.{lt-ltb, le-ltb}
use Rattle.units.specs.declared.Cents.{Cents}
use Rattle.units.specs.Tests.{◌and◌, is_not, pick, fails, not_holds, not_false}
use Rattle.rows.specs.Rows.{rows}
use Rattle.book.specs.Book.{Book, crosses}
use Rattle.dealing.specs.declared.Series.{Series}
use Rattle.dealing.specs.Way.{Way, Refused, Quiet, At}
use Rattle.dealing.specs.Open.{choice_in, way_refusal, way_of}

module _ (accepted : Bool) (s : Series) (b : Book) (lent : ℕ) where
  pub way_21 : accepted ≡ false → Refused 21 ≡ way_of accepted s b lent
  unfolding way_of way_refusal pick is_not
  way_21 h = rw h

  module _ (set : accepted ≡ true) where
    pub way_9 : s.opened ≡ true → Refused 9 ≡ way_of accepted s b lent
    unfolding way_of way_refusal pick is_not
    way_9 h = rw (set, h)

    module _ (unopened : s.opened ≡ false) where
      pub way_6 : lent < rows → Refused 6 ≡ way_of accepted s b lent
      unfolding way_of way_refusal pick is_not
      way_6 h = rw (set, unopened, lt-ltb lent rows h)

      module _ (room : rows ≤ lent) where
        pub way_quiet : crosses b ≡ false → Quiet ≡ way_of accepted s b lent
        unfolding way_of way_refusal pick is_not ◌and◌
        way_quiet h = rw (set, unopened, le-ltb lent rows room, h)

        module _ (crossed : crosses b ≡ true) {c : Option Cents} (is : c ≡ choice_in s) where
          pub way_20 : c ≡ None → Refused 20 ≡ way_of accepted s b lent
          unfolding way_of way_refusal pick is_not ◌and◌ choice_in
          way_20 h = rw (set, unopened, le-ltb lent rows room, crossed, sym is ∙ h)

          pub way_at : (price : Cents) → c ≡ Some price → At price ≡ way_of accepted s b lent
          unfolding way_of way_refusal pick is_not ◌and◌ choice_in
          way_at price h = rw (set, unopened, le-ltb lent rows room, crossed, sym is ∙ h)

  -- only a session with accepted settings is given a price
  pub priced_accepted : {w : Way} (price : Cents) → w ≡ way_of accepted s b lent → w ≡ At price → accepted ≡ true
  priced_accepted price is at = not_false (accepted) (fails _ (λ h. true≢false (ap refuses (way_21 (not_holds _ h) ∙ (sym is ∙ at)))))
    where
      refuses : Way → Bool
      refuses (Refused code) = true
      refuses Quiet = false
      refuses (At p) = false
