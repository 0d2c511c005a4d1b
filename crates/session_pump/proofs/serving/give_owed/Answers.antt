use Rattle.std.proofs.Common.{rules}
use Rattle.session_pump.proofs.ServingLemmas.{asks_not, gives_not, gives_now, lacks_still, refuses_still}
use Rattle.session_pump.proofs.serving.give_owed.Goals as goal

pub returns-in_err-may_take-clause-tries : goal.returns-in_err-may_take-clause-tries
returns-in_err-may_take-clause-tries g c kept =
    asks_not (g.C.Clock.moment c.args.clock.now) _ _ _ kept _ _ c.in-Some.owing _ c.from_residual.ensures.0 c.in-Some.is c.in_err-may_take.ensures.asked

pub returns-then-not-branch-clause-tries : goal.returns-then-not-branch-clause-tries
returns-then-not-branch-clause-tries g c kept = lacks_still _ _ _ kept _ _ c.in-Some.owing c.in-Some.is (c.in_ok-may_take.ensures.full (search rules))

pub returns-in-Ok-Done-clause-tries : goal.returns-in-Ok-Done-clause-tries
returns-in-Ok-Done-clause-tries g c kept =
    gives_now _ _ _ _ kept _ _ _ c.in-Some.owing _ c.in-Some.is c.in-Ok-Done.field-0-is (c.in_ok-may_take.ensures.ready (search rules)) c.in-Ok-Done.ensures.gives c.resume_where_open.ensures.ends

pub returns-in-Ok-Full-clause-tries : goal.returns-in-Ok-Full-clause-tries
returns-in-Ok-Full-clause-tries g c kept =
    refuses_still _ _ _ _ kept _ _ c.in-Some.owing _ c.in-Some.is c.in-Ok-Full.field-0-is (c.in_ok-may_take.ensures.ready (search rules)) c.in-Ok-Full.ensures.gives

pub returns-in-Err-clause-tries : goal.returns-in-Err-clause-tries
returns-in-Err-clause-tries g c kept = gives_not _ _ _ _ kept _ _ c.in-Some.owing _ c.in-Some.is c.in_ok-may_take.ensures.asked c.in-Err.ensures.gives
