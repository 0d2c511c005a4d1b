use Rattle.client_run.proofs.crew.start_both.Goals as goal

pub returns-in-Running-start_worker-clause-started : goal.returns-in-Running-start_worker-clause-started
returns-in-Running-start_worker-clause-started g c = λ is.
    (g.P.Spawner.leaves c.start_worker.new.spawner, c.start_worker.ensures.leave c.in-Running.is, c.start_worker-2.ensures.leave c.in-Running-start_worker.is)
