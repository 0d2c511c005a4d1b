use Rattle.std.proofs.Common.{ap}
use Rattle.session_journal.specs.Calls.{reply_in}
use Rattle.session_calls.proofs.CallLemmas.{back_to}
use Rattle.session_calls.proofs.calls.back.Goals as goal

pub returns-clause-reply : goal.returns-clause-reply
returns-clause-reply c = λ journal is. back_to _ _ journal is _ _ _ c.requires _ _ (ap reply_in c.in-Back.is) c.in_ok-taken.ensures.step
