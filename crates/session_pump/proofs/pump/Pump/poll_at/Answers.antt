use Rattle.std.proofs.Common.{ap, rules}
use Rattle.parked_gate.specs.Passes.{known}
use Rattle.session_pump.proofs.TurnLemmas.{polls_of}
use Rattle.session_pump.proofs.pump.Pump.poll_at.Goals as goal

pub returns-clause-polls : goal.returns-clause-polls
returns-clause-polls g c =
    polls_of _ (g.C.Clock.moment c.args.clock.now) _ _ _ _ _ _ _ _ c.in-Some.stand.now _ _ (ap known c.poll_host.ensures.directory) (search rules) (search rules) c.poll_host.ensures.name c.poll_host.ensures.polls
