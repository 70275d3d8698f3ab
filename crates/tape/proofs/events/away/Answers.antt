-- `away` meets its contract: two numbers were stored in as many places, and make the quote.
use Rattle.std.proofs.Common.{refl}
use Rattle.std.proofs.lemmas.Result.{err_from_is_err_and}
use Rattle.tape.specs.declared.Event.TheVariants.{Away}
use Rattle.tape.specs.Tape.{away_of, away}
use Rattle.tape.specs.Steps.{read_after, refused_after, numbers_read}
use Rattle.tape.proofs.events.away.Goals as goal

pub returns-in_err-end : goal.returns-in_err-end
unfolding away
returns-in_err-end c =
    let e = c.read_several.ensures in
    let told = err_from_is_err_and c.from_residual.result c.from_residual.ensures.1 in
    λ last.
    rw (told.1, told.2) (numbers_read 2 (λ v. Away (away_of v)) _ last _ _ refl e.answer e.kept refl (refused_after _ c.in_err-end.was))

pub returns : goal.returns
unfolding away
returns c =
    let e = c.read_several.ensures in
    λ last. numbers_read 2 (λ v. Away (away_of v)) _ last _ _ refl e.answer e.kept refl (read_after _ c.in_ok-end.was)
