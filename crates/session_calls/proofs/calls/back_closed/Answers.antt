use Rattle.std.proofs.Common.{ap}
use Rattle.session_journal.specs.Calls.{reply_in}
use Rattle.session_calls.proofs.CallLemmas.{closed_to}
use Rattle.session_calls.proofs.calls.back_closed.Goals as goal

pub returns-clause-reply : goal.returns-clause-reply
returns-clause-reply c = λ journal is. closed_to _ _ journal is _ _ _ _ _ (ap reply_in c.in-BackClosed.is) c.in_ok-taken.ensures.step
