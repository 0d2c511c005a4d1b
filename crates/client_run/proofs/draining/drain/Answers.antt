use Rattle.parked_gate.specs.Passes.{known}
use Rattle.client_run.specs.Handing.{out_of}
use Rattle.client_run.proofs.AddingLemmas.{drains_adds}
use Rattle.client_run.proofs.draining.drain.Goals as goal

pub returns-clause-adds : goal.returns-clause-adds
returns-clause-adds g c =
    drains_adds (out_of (known c.args.pass.now) (g.K.Sink.given c.args.sink.now)) (out_of (known c.write_out.new.pass) (g.K.Sink.given c.write_out.new.sink)) c.write_out.result c.write_out.ensures.drains
