use Rattle.session_calls.proofs.CallLemmas.{arrive_to}
use Rattle.session_calls.proofs.calls.arrive.Goals as goal

pub returns-clause-reply : goal.returns-clause-reply
returns-clause-reply c = λ journal is. arrive_to _ _ journal is _ _ _ c.requires _ _ c.in-Arrive.is c.in_ok-arrived.ensures.step
