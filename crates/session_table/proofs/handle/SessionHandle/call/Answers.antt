use Rattle.session_table.proofs.OpensLemmas.{after_call}
use Rattle.session_table.proofs.handle.SessionHandle.call.Goals as goal

pub invariant_of-self-clause-opened : goal.invariant_of-self-clause-opened
invariant_of-self-clause-opened g c = after_call _ _ _ c.call.ensures.called c.args.self.now.opened
