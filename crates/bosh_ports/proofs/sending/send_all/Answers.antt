use Rattle.std.proofs.Common.{rules, arith, refl, ◌∙◌}
use Rattle.std.proofs.KnownBytes.{Keeps-refl, Keeps-trans}
use Rattle.bosh_ports.proofs.FaultLemmas.{HasRisen-before}
use Rattle.bosh_ports.proofs.GivingLemmas.{nothing_yet, one_more, all_given, front_given}
use Rattle.bosh_ports.proofs.sending.send_all.Goals as goal

pub loop-rest-init : goal.loop-rest-init
loop-rest-init g c = record {
  given = nothing_yet (g.L.Link.given c.args.link.now) c.args.bytes.now;
  left = Keeps-refl (g.L.Link.left c.args.link.now);
  faults = refl;
}

pub loop-rest-preserved : goal.loop-rest-preserved
loop-rest-preserved g c = record {
  given = one_more _ _ _ c.args.bytes.now c.loop-rest.rest.now c.in-Wrote.n c.loop-rest.invariant.given c.in-Wrote.ensures.gives.2;
  left = Keeps-trans _ _ _ c.loop-rest.invariant.left c.give.ensures.left;
  faults = c.in-Wrote.ensures.counts ∙ c.loop-rest.invariant.faults;
}

pub returns-in-Failed-clause-given : goal.returns-in-Failed-clause-given
returns-in-Failed-clause-given g c = front_given _ _ _ c.args.bytes.now c.loop-rest.rest.now c.loop-rest.invariant.given c.in-Failed.ensures.gives

pub returns-in-Failed-clause-left : goal.returns-in-Failed-clause-left
returns-in-Failed-clause-left g c = Keeps-trans _ _ _ c.loop-rest.invariant.left c.in-Failed.ensures.left

pub returns-in-Failed-clause-fault : goal.returns-in-Failed-clause-fault
returns-in-Failed-clause-fault g c = HasRisen-before _ (g.L.Link.faults c.loop-rest.link) _ (omega (arith, c.loop-rest.invariant.faults)) c.in-Failed.ensures.faults (c.in-Failed.ensures.failed refl)

pub returns-clause-given : goal.returns-clause-given
returns-clause-given g c = all_given _ _ c.args.bytes.now c.loop-rest.rest.now c.loop-rest.invariant.given (search rules)
