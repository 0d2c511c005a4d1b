use Rattle.std.proofs.Common.{rules, subst}
use Rattle.std.specs.Prelude.{Ok}
use Rattle.parked_gate.specs.Passes.{known}
use Rattle.client_run.specs.Queueing.{OffersBy, full, none}
use Rattle.client_run.proofs.AddingLemmas.{offered}
use Rattle.client_run.proofs.queueing.put.Goals as goal

pub loop-init : goal.loop-init
loop-init g c = record { next = tt; finite = tt; pass = search rules; silences = search rules; offers = none }

pub returns-in-Err-clause-puts : goal.returns-in-Err-clause-puts
returns-in-Err-clause-puts g c = offered c.args.stanza.now (known c.args.pass.now) (known c.loop.pass) (known c.offer.new.pass) c.in-Err.field-0 c.loop.invariant.offers c.in-Err.ensures.offers

pub loop-preserved : goal.loop-preserved
loop-preserved g c = record {
  next = tt;
  finite = tt;
  pass = search rules;
  silences = search rules;
  offers = full (known c.offer.new.pass) c.loop.invariant.offers
      (subst (λ queued. OffersBy c.args.stanza.now (known c.loop.pass) (known c.offer.new.pass) (Ok queued)) c.in-Full.is c.in-Ok.ensures.offers);
}
