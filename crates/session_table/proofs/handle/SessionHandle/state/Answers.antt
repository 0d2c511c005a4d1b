use Rattle.session_table.proofs.StateLemmas.{state_so}
use Rattle.session_table.proofs.handle.SessionHandle.state.Goals as goal

pub returns-clause-looked : goal.returns-clause-looked
returns-clause-looked g c = state_so _ _ _ _ c.state_in.ensures c.in-Ok.ensures.looked
