use Rattle.session_calls.proofs.CallLemmas.{tick_to}
use Rattle.session_calls.proofs.calls.tick.Goals as goal

pub returns-clause-reply : goal.returns-clause-reply
returns-clause-reply c = λ journal is. tick_to _ _ journal is _ _ _ c.in-Tick.is c.in_ok-ticked.ensures.step
