-- What a call leaves of a session, beside what it answers.
use Rattle.std.specs.Prelude.{Result}
use Rattle.entry.specs.declared.refusal.Refusal.{Refusal}
use Rattle.session.specs.declared.Opening.{Opening}
use Rattle.session.specs.declared.Session.{Session}
use Rattle.session.specs.declared.Taken.{Taken}

-- settings, away and submit: nothing, or why they are refused
pub record Answered : Type 0 where
  pub session : Session
  pub answer : Result Unit Refusal

-- a turn: what it came to, or why it is refused
pub record Turned : Type 0 where
  pub session : Session
  pub answer : Result Taken Refusal

-- an open: the same of an opening
pub record Opened : Type 0 where
  pub session : Session
  pub answer : Result Opening Refusal
