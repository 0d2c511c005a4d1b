use Rattle.std.proofs.Common.{rules}
use Rattle.session_pump.specs.Taking.{IsAsked, IsReady, is_new, looked, unasked}
use Rattle.session_pump.proofs.GivingLemmas.{lacks_so, looks_any, ok_same, ready_so}
use Rattle.session_pump.proofs.TurnedLemmas.{turned_as, turned_none}
use Rattle.session_pump.proofs.giving.may_take.Goals as goal

pub returns-then-not-owing-clause-asked : goal.returns-then-not-owing-clause-asked
returns-then-not-owing-clause-asked g c = turned_none _ _ _ c.requires (λ k. unasked)

pub returns-clause-asked : goal.returns-clause-asked
returns-clause-asked g c = turned_as _ _ _ _ IsAsked (λ k m looks. looked (looks_any looks)) c.in_ok-answer.ensures.looked

pub returns-in_err-answer-clause-asked : goal.returns-in_err-answer-clause-asked
returns-in_err-answer-clause-asked g c = turned_as _ _ _ _ IsAsked (λ k m looks. looked (looks_any looks)) c.in_err-answer.ensures.looked

pub returns-clause-full : goal.returns-clause-full
returns-clause-full g c is = lacks_so _ _ _ _ _ (c.says_room.ensures.full (ok_same _ _ is)) c.in_ok-answer.ensures.looked

pub returns-then-not-owing-clause-ready : goal.returns-then-not-owing-clause-ready
returns-then-not-owing-clause-ready g c is = turned_none _ _ (IsReady c.args.owing.now) c.requires (λ k. is_new (search rules))

pub returns-clause-ready : goal.returns-clause-ready
returns-clause-ready g c is = ready_so _ _ _ c.args.owing.now _ (c.says_room.ensures.room (ok_same _ _ is)) c.in_ok-answer.ensures.looked
