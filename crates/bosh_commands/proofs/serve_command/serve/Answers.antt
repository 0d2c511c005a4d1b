use Rattle.std.proofs.Common.{subst, refl, lit<, rules}
use Rattle.std.proofs.KnownBytes.{Appends-trans}
use Rattle.server_ports.specs.Counts.{Counts}
use Rattle.bosh_server.specs.Runs.{Accepts, IsEnough, RunsBy}
use Rattle.bosh_commands.proofs.RollLemmas.{none_serviced}
use Rattle.bosh_commands.proofs.StatusLemmas.{of_end}
use Rattle.bosh_commands.proofs.serve_command.serve.Goals as goal

pub returns-in-Failed-clause-statuses : goal.returns-in-Failed-clause-statuses
returns-in-Failed-clause-statuses g c = (4, lit< tt, refl)

pub returns-in-Err-clause-statuses : goal.returns-in-Err-clause-statuses
returns-in-Err-clause-statuses g c = (2, lit< tt, refl)

pub returns-in-Err-run_workers-clause-statuses : goal.returns-in-Err-run_workers-clause-statuses
returns-in-Err-run_workers-clause-statuses g c = (3, lit< tt, refl)

pub returns-in-Ok-Done-clause-statuses : goal.returns-in-Ok-Done-clause-statuses
returns-in-Ok-Done-clause-statuses g c = of_end _ c.tell_end.ensures.statuses

pub returns-in-Ok-NetFault-clause-statuses : goal.returns-in-Ok-NetFault-clause-statuses
returns-in-Ok-NetFault-clause-statuses g c = (4, lit< tt, refl)

pub returns-in-Ok-SpawnFault-clause-statuses : goal.returns-in-Ok-SpawnFault-clause-statuses
returns-in-Ok-SpawnFault-clause-statuses g c = (5, lit< tt, refl)

pub returns-in-Ok-Done-clause-done : goal.returns-in-Ok-Done-clause-done
returns-in-Ok-Done-clause-done g c =
    let n = c.in-Ok-Done.connections in
    let new = g.N.Network.counts c.run_workers.new.outside.net in
    let same = c.in-Ready.ensures.counts in
    let planned = c.args.options.now.plan.connections in
    let runs = subst (RunsBy planned (g.N.Network.counts c.listen.new.self) new) c.in-Ok-Done.field-0-is c.in-Ok-Done.ensures.runs in
    λ zero. record {
      links = n;
      accepts = subst (λ (old : Counts). Accepts old new n) same runs.0;
      enough = subst (λ (old : Counts). IsEnough planned old new n) same runs.1;
      written = Appends-trans _ _ _ _ _ c.in-Ok.ensures.given (c.tell_end.ensures.given zero);
    }

pub returns-in-Ok-Done-clause-failed : goal.returns-in-Ok-Done-clause-failed
returns-in-Ok-Done-clause-failed g c =
    let n = c.in-Ok-Done.connections in
    let new = g.N.Network.counts c.run_workers.new.outside.net in
    let same = c.in-Ready.ensures.counts in
    let planned = c.args.options.now.plan.connections in
    let runs = subst (RunsBy planned (g.N.Network.counts c.listen.new.self) new) c.in-Ok-Done.field-0-is c.in-Ok-Done.ensures.runs in
    λ four. record {
      links = n;
      accepts = subst (λ (old : Counts). Accepts old new n) same runs.0;
      enough = subst (λ (old : Counts). IsEnough planned old new n) same runs.1;
      written = Appends-trans _ _ _ _ _ c.in-Ok.ensures.given (c.tell_end.ensures.given_too four);
    }

pub returns-in-Failed-clause-service : goal.returns-in-Failed-clause-service
returns-in-Failed-clause-service g c = none_serviced _ _ _ _ _ _ _ _ _ _ _ _ _ c.requires.roll c.requires.no_pump (search rules)

pub returns-in-Err-clause-service : goal.returns-in-Err-clause-service
returns-in-Err-clause-service g c = none_serviced _ _ _ _ _ _ _ _ _ _ _ _ _ c.requires.roll c.requires.no_pump (search rules)

pub returns-in-Err-run_workers-clause-service : goal.returns-in-Err-run_workers-clause-service
returns-in-Err-run_workers-clause-service g c = none_serviced _ _ _ _ _ _ _ _ _ _ _ _ _ (search rules) (search rules) (search rules)
