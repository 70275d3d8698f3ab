-- `copy` meets its contract: the memory's first numbers are the event's.
use Rattle.std.proofs.Common.{ℕ, List, length, ap, ◌∙◌}
use Rattle.writer.specs.Write.{written_of, buffer_after}
use Rattle.writer.specs.RewritingLaws.{first_are}
use Rattle.writer.proofs.rewriting.copy.Goals as goal

pub returns : goal.returns
returns c =
    let first = first_are _ _ c.requires c.numbers_of-n.ensures.numbers c.numbers_of-n.ensures.count in
    record {
      answer = c.write.ensures.answer ∙ ap (λ (vs : List ℕ). written_of vs (length c.args.out.now)) first;
      bytes = c.write.ensures.bytes ∙ ap (λ (vs : List ℕ). buffer_after vs c.args.out.now) first;
    }
