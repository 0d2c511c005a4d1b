use Rattle.parked_gate.specs.Passes.{known}
use Rattle.parked_gate.proofs.Growing.{looks_later, calls_later}
use Rattle.parked_gate.proofs.gate.Gate.wait_for.Goals as goal

pub returns-in-Some-poll-clause-found : goal.returns-in-Some-poll-clause-found
returns-in-Some-poll-clause-found g c = calls_later (known c.args.pass.now) (known c.loop.pass) (known c.poll.new.pass) c.loop.invariant.3 c.in-Some-poll.ensures.polled

pub returns-in-Silent-clause-silent : goal.returns-in-Silent-clause-silent
returns-in-Silent-clause-silent g c = looks_later (known c.args.pass.now) (known c.loop.pass) (known c.poll.new.pass) c.loop.invariant.3 c.in_default.ensures.polled
