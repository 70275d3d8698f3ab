-- `sheet::bytes::all_digits` meets its contract: its rule, byte by byte.
use Rattle.std.proofs.Common.{◌≡◌, ap, ◌∙◌, refl, Bool, true, false, ◌&&◌, List, [], ◌∷◌, ℕ, leb, rules}
use borrow.Author.Tests.{tests}
use Rattle.std.specs.Char.{is_ascii_digit}
use Rattle.std.specs.List.{list_all}
use Rattle.std.proofs.lemmas.Iterator.{YieldsList-from_slice}
use Rattle.std.proofs.lemmas.Iterator.Search.{all_from_yields_List}
use Rattle.units.specs.Tests.{◌and◌}
use Rattle.sheet.specs.Bytes.{is_digit, all_digits}
use Rattle.sheet.proofs.bytes.all_digits.Goals as goal

and_is : (a b : Bool) → (a && b) ≡ (a and b)
unfolding ◌and◌
and_is true b = refl
and_is false b = refl

digits_are : (s : List ℕ) → list_all is_ascii_digit s ≡ all_digits s
unfolding all_digits is_digit
digits_are [] = refl
digits_are (b ∷ s) = rw (digits_are s) (and_is (is_ascii_digit b) (all_digits s) ∙ ap (λ (t : Bool). t and all_digits s) (and_is (leb 48 b) (leb b 57)))

pub returns : goal.returns
returns c = all_from_yields_List is_ascii_digit _ _ _ c.all.ensures.ran (YieldsList-from_slice c.args.s.now c.iter.ensures.rest) (λ x b q k. search (rules, tests)) ∙ digits_are c.args.s.now
