use Rattle.session_laws.proofs.OneEndedRun.{ended_run-one}
use Rattle.session_laws.proofs.OneRun.{longest_run-one}
use Rattle.session_laws.proofs.laws.there_is_one_run.Goals as goal

pub returns : goal.returns
returns c = record { longest = longest_run-one; ended = ended_run-one }
