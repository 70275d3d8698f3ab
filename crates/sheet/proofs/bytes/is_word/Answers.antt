-- `sheet::bytes::is_word` meets its contract: the bytes are the same, one by one.
use Rattle.std.proofs.Common.{◌≡◌, ◌∙◌, refl, Bool, true, false, ◌&&◌, List, [], ◌∷◌, ℕ, eqb}
use Rattle.std.specs.Cmp.Lexicographic.{pointwise}
use Rattle.units.specs.Tests.{◌and◌}
use Rattle.sheet.specs.Bytes.{same}
use Rattle.sheet.proofs.bytes.is_word.Goals as goal

and_is : (a b : Bool) → (a && b) ≡ (a and b)
unfolding ◌and◌
and_is true b = refl
and_is false b = refl

same_is : (s t : List ℕ) → pointwise eqb s t ≡ same s t
unfolding same
same_is [] [] = refl
same_is [] (b ∷ t) = refl
same_is (a ∷ s) [] = refl
same_is (a ∷ s) (b ∷ t) = rw (same_is s t) (and_is _ _)

pub returns : goal.returns
returns c = c.eq.ensures ∙ same_is _ _
