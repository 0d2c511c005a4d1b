use Rattle.std.proofs.Common.{lit<, sym}
use Rattle.bosh_commands.proofs.ClientCommandLemmas.{of_ask, of_shown}
use Rattle.bosh_commands.proofs.client_command.run_client_command.Goals as goal

pub returns-in-Err-clause-statuses : goal.returns-in-Err-clause-statuses
returns-in-Err-clause-statuses g c = (5, lit< tt, sym c.tell_no_memory.ensures)

pub returns-in-Ok-Shown-clause-statuses : goal.returns-in-Ok-Shown-clause-statuses
returns-in-Ok-Shown-clause-statuses g c = of_shown _ c.status_given.ensures.statuses

pub returns-in-Ok-Run-clause-statuses : goal.returns-in-Ok-Run-clause-statuses
returns-in-Ok-Run-clause-statuses g c = of_ask _ c.ask.ensures.statuses
