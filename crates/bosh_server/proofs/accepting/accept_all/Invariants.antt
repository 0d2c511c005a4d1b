use Rattle.std.proofs.Common.{◌≡◌, ◌≤◌, ◌<◌, ◌-◌, ◌^◌}
use Rattle.bosh_server.specs.Runs.{Accepts}
use Rattle.bosh_server.proofs.accepting.accept_all.Given as goal

abbrev pub invariant-loop : goal.invariant-loop
invariant-loop g l = record {
  next : (goal.iterator-loop g).can_next l.iterator';
  finite : (goal.iterator-loop g).is_finite l.iterator';
  accepts : Accepts (g.N.Network.counts l.fn.net) (g.N.Network.counts l.net) l.accepted;
  links : (g.N.Network.counts l.net).accepted < 2 ^ 64 - 1 → l.links ≡ (g.N.Network.counts l.net).accepted - (g.N.Network.counts l.fn.net).accepted;
  stops : (g.N.Network.counts l.net).stops ≡ (g.N.Network.counts l.fn.net).stops;
  grows : (g.N.Network.counts l.fn.net).accepted ≤ (g.N.Network.counts l.net).accepted;
}
