use Rattle.std.proofs.Common.{◌≡◌}
use Rattle.bosh_server.proofs.starting.start_all.Given as goal

abbrev pub invariant-loop-job : goal.invariant-loop-job
invariant-loop-job g l = g.S.Spawner.refusals l.spawner ≡ g.S.Spawner.refusals l.fn.spawner
