use Rattle.std.proofs.Common.{◌≡◌, length}
use Rattle.std.specs.Io.KnownBytes.{Keeps}
use Rattle.bosh_ports.proofs.GivingLemmas.{HasGiven}
use Rattle.bosh_ports.proofs.sending.send_all.Given as goal

abbrev pub invariant-loop-rest : goal.invariant-loop-rest
invariant-loop-rest g l = record {
  given : HasGiven (g.L.Link.given l.fn.link) (g.L.Link.given l.link) l.bytes l.rest;
  left : Keeps (g.L.Link.left l.fn.link) (g.L.Link.left l.link);
  faults : g.L.Link.faults l.link ≡ g.L.Link.faults l.fn.link;
}

abbrev pub decreases-loop-rest : goal.decreases-loop-rest
decreases-loop-rest g l = length l.rest
