use Rattle.session_calls.proofs.CallLemmas.{collect_to}
use Rattle.session_calls.proofs.calls.collect.Goals as goal

pub returns : goal.returns
returns c = λ journal is. collect_to _ _ journal is _ _ c.poll.ensures
