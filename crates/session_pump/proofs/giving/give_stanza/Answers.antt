use Rattle.session_journal.specs.declared.call.Call.TheVariants as calls
use Rattle.session_pump.specs.Taking.{untried}
use Rattle.session_pump.proofs.GivingLemmas.{given_so, tried_so}
use Rattle.session_pump.proofs.TurnedLemmas.{turned_none}
use Rattle.session_pump.proofs.giving.give_stanza.Goals as goal

pub returns-in_default-clause-gives : goal.returns-in_default-clause-gives
returns-in_default-clause-gives g c = turned_none _ _ _ c.requires.held (λ k. untried)

pub returns-in-Ok-call-clause-gives : goal.returns-in-Ok-call-clause-gives
returns-in-Ok-call-clause-gives g c =
    given_so (g.C.Clock.moment c.args.clock.now) _ _ _ _ _ _ _ _ _ c.answered.ensures.done c.answered.ensures.full c.in-Ok.ensures c.now-now.ensures c.in-Ok-call.ensures.called

pub returns-in-Err-clause-gives : goal.returns-in-Err-clause-gives
returns-in-Err-clause-gives g c = tried_so _ _ _ (calls.Back c.args.stream c.in-Ok.stanza c.now-now.result) _ c.in-Err.ensures.called
