use Rattle.std.proofs.Common.{◌≡◌, length}
use Rattle.bosh_ports.proofs.GivingLemmas.{HasGiven}
use Rattle.bosh_ports.proofs.giving.give_all.Given as goal

abbrev pub invariant-loop-rest : goal.invariant-loop-rest
invariant-loop-rest g l = record {
  given : HasGiven (g.K.Sink.given l.fn.sink) (g.K.Sink.given l.sink) l.bytes l.rest;
  faults : g.K.Sink.faults l.sink ≡ g.K.Sink.faults l.fn.sink;
}

abbrev pub decreases-loop-rest : goal.decreases-loop-rest
decreases-loop-rest g l = length l.rest
