use Rattle.std.proofs.Common.{refl, rules}
use Rattle.session_pump.specs.Giving.{none}
use Rattle.session_pump.proofs.GivingLemmas.{gives_then, has_no_room, is_asked, is_full_for, is_gone, is_taken, is_wanted, kept_by, ok_same, over_still, waits_behind, was_refused}
use Rattle.session_pump.proofs.polling.give_kept.Goals as goal

pub returns-in_default-clause-gives : goal.returns-in_default-clause-gives
returns-in_default-clause-gives g c = none

pub returns-then-is_none-clause-gives : goal.returns-then-is_none-clause-gives
returns-then-is_none-clause-gives g c = is_gone _ c.in-Some.owing _ _ _ c.in-Some.is (search rules)

pub returns-then-not-comes_first-clause-gives : goal.returns-then-not-comes_first-clause-gives
returns-then-not-comes_first-clause-gives g c = kept_by _ c.in-Some.owing _ _ _ _ c.in-Some.is none

pub returns-then-not-comes_first-clause-full : goal.returns-then-not-comes_first-clause-full
returns-then-not-comes_first-clause-full g c is = waits_behind _ c.in-Some.owing _ _ _ c.in-Some.is (c.comes_first.ensures.behind c.if-not-comes_first.true)

pub returns-in_err-may_take-clause-gives : goal.returns-in_err-may_take-clause-gives
returns-in_err-may_take-clause-gives g c = is_asked _ c.in-Some.owing _ _ _ _ c.in-Some.is c.in_err-may_take.ensures.asked c.in_err-may_take.ensures.others

pub keep_back-requires-clause-kept : goal.keep_back-requires-clause-kept
keep_back-requires-clause-kept g c = (c.in-Some.owing, refl, refl, refl, c.in_ok-may_take.ensures.refused (search rules))

pub keep_back-requires-in-Ok-Full-clause-kept : goal.keep_back-requires-in-Ok-Full-clause-kept
keep_back-requires-in-Ok-Full-clause-kept g c = (_, refl, refl, refl, refl)

pub returns-then-not-branch-clause-gives : goal.returns-then-not-branch-clause-gives
returns-then-not-branch-clause-gives g c =
    gives_then (is_asked _ c.in-Some.owing _ _ _ _ c.in-Some.is c.in_ok-may_take.ensures.asked c.in_ok-may_take.ensures.others) (c.keep_back.ensures.moves _ _)

pub returns-in-Ok-Done-clause-gives : goal.returns-in-Ok-Done-clause-gives
returns-in-Ok-Done-clause-gives g c =
    is_taken _ c.in-Some.owing _ _ _ _ _ _ c.in-Some.is c.in-Ok-Done.field-0-is (c.comes_first.ensures.first (search rules)) (c.in_ok-may_take.ensures.ready (search rules)) c.in_ok-may_take.ensures.others
    c.in-Ok-Done.ensures.gives c.in-Ok-Done.ensures.others

pub returns-in-Ok-Full-clause-gives : goal.returns-in-Ok-Full-clause-gives
returns-in-Ok-Full-clause-gives g c =
    gives_then
    (is_full_for _ c.in-Some.owing _ _ _ _ _ _ _ c.in-Some.is c.in-Ok-Full.field-0-is (c.comes_first.ensures.first (search rules)) refl refl refl refl refl
    (c.in_ok-may_take.ensures.ready (search rules)) c.in_ok-may_take.ensures.others c.in-Ok-Full.ensures.gives c.in-Ok-Full.ensures.others)
    (c.keep_back-in-Ok-Full.ensures.moves _ _)

pub returns-in-Err-clause-gives : goal.returns-in-Err-clause-gives
returns-in-Err-clause-gives g c =
    is_wanted _ c.in-Some.owing _ _ _ _ _ c.in-Some.is c.in_ok-may_take.ensures.asked c.in_ok-may_take.ensures.others
    c.in-Err.ensures.gives c.in-Err.ensures.others

pub returns-then-not-branch-clause-full : goal.returns-then-not-branch-clause-full
returns-then-not-branch-clause-full g c is =
    let full = ok_same _ _ is in
    over_still _ _ _ _ _ _ _ (c.keep_back.ensures.still full) (c.keep_back.ensures.ends full) (c.keep_back.ensures.lines full)
    (has_no_room _ c.in-Some.owing _ _ _ _ c.in-Some.is (c.in_ok-may_take.ensures.full (search rules)) c.in_ok-may_take.ensures.others (c.keep_back.ensures.elsewhere full))

pub returns-in-Ok-Full-clause-full : goal.returns-in-Ok-Full-clause-full
returns-in-Ok-Full-clause-full g c is =
    let full = ok_same _ _ is in
    over_still _ _ _ _ _ _ _ (c.keep_back-in-Ok-Full.ensures.still full) (c.keep_back-in-Ok-Full.ensures.ends full) (c.keep_back-in-Ok-Full.ensures.lines full)
    (was_refused _ c.in-Some.owing _ _ _ _ _ _ _ c.in-Some.is c.in-Ok-Full.field-0-is refl refl refl (c.in_ok-may_take.ensures.ready (search rules)) c.in_ok-may_take.ensures.others
    c.in-Ok-Full.ensures.gives c.in-Ok-Full.ensures.others (c.keep_back-in-Ok-Full.ensures.elsewhere full))
