-- `lines::parts::word` meets its contract: the part of the output is the word.
use mathlib.Core.Path.{refl}
use Rattle.lines.specs.Laying.{word_laid}
use Rattle.lines.proofs.parts.word.Goals as goal

pub returns : goal.returns
returns c = word_laid _ _ _ _ _ c.requires refl c.copy_from_slice.ensures.after
