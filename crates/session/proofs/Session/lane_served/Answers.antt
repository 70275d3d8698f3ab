-- `Session::lane_served` meets its contract, test by test.
use Rattle.std.proofs.Common.{sym, ◌∙◌, arith}
use Rattle.session.specs.TurnLaws.{refused_21, refused_5, refused_6, refused_35, not_refused}
use Rattle.session.proofs.Session.lane_served.Goals as goal

pub returns-then-not-self-clause-code : goal.returns-then-not-self-clause-code
returns-then-not-self-clause-code c = refused_21 _ _ c.if-not-self.true

pub returns-in_default-clause-code : goal.returns-in_default-clause-code
returns-in_default-clause-code c = refused_5 _ _ c.if-not-self.false c.served.ensures c.in_default.is

pub returns-then-lent-lt-ROWS-clause-code : goal.returns-then-lent-lt-ROWS-clause-code
returns-then-lent-lt-ROWS-clause-code c = refused_6 _ _ c.if-not-self.false c.served.ensures _ c.in-Some.is (omega arith)

pub returns-then-turns_in_all-ge-MOST_TURNS-clause-code : goal.returns-then-turns_in_all-ge-MOST_TURNS-clause-code
returns-then-turns_in_all-ge-MOST_TURNS-clause-code c =
    refused_35 _ _ c.if-not-self.false c.served.ensures _ c.in-Some.is (omega arith) _ c.turns_in_all.ensures (omega arith)

pub returns-clause-code : goal.returns-clause-code
returns-clause-code c =
    not_refused _ _ c.if-not-self.false c.served.ensures _ c.in-Some.is (omega arith) _ c.turns_in_all.ensures (omega arith)

pub returns-clause-lane : goal.returns-clause-lane
returns-clause-lane c = sym c.served.ensures ∙ c.in-Some.is
