use Rattle.session_table.proofs.OpensLemmas.{after_look}
use Rattle.session_table.proofs.handle.SessionHandle.look.Goals as goal

pub invariant_of-self-clause-opened : goal.invariant_of-self-clause-opened
invariant_of-self-clause-opened g c = after_look _ _ _ c.look.ensures.looked c.args.self.now.opened
