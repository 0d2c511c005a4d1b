use Rattle.std.proofs.Common.{refl, lit<}
use Rattle.bosh_commands.proofs.RollLemmas.{none_serviced, of_any}
use Rattle.bosh_commands.proofs.StatusLemmas.{of_command, of_given}
use Rattle.bosh_commands.proofs.serve_command.run_serve_command.Goals as goal

pub returns-in-Ok-Serve-clause-statuses : goal.returns-in-Ok-Serve-clause-statuses
returns-in-Ok-Serve-clause-statuses g c = of_command _ c.serve.ensures.statuses

pub returns-in-Ok-Shown-clause-statuses : goal.returns-in-Ok-Shown-clause-statuses
returns-in-Ok-Shown-clause-statuses g c = of_given _ c.status_given.ensures.statuses

pub returns-in-Ok-Nothing-clause-statuses : goal.returns-in-Ok-Nothing-clause-statuses
returns-in-Ok-Nothing-clause-statuses g c = (1, lit< tt, refl)

pub returns-in-Err-clause-statuses : goal.returns-in-Err-clause-statuses
returns-in-Err-clause-statuses g c = (4, lit< tt, refl)

pub returns-in-Err-clause-refused : goal.returns-in-Err-clause-refused
returns-in-Err-clause-refused g c = λ none asks. (1, lit< tt, refl)

pub returns-in-Err-clause-service : goal.returns-in-Err-clause-service
returns-in-Err-clause-service g c = of_any _ _ (λ options. none_serviced _ _ _ _ _ _ _ _ _ _ _ _ _ c.new-outside.ensures c.put_pump.ensures refl)
