use Rattle.std.proofs.Common.{rules, [], arith, refl, subst, true}
use Rattle.std.specs.Prelude.{Ok, Err}
use Rattle.parked_gate.specs.Passes.{known}
use Rattle.client_run.specs.Handed.{is_write_whole}
use Rattle.client_run.specs.Handing.{out_of}
use Rattle.client_run.specs.Queueing.{OffersBy}
use Rattle.client_run.proofs.AttendLemmas.{drained_on, goes_offered, held_done, held_failed, held_full, held_over, held_wanting, offered_full, said_drained, said_nothing, said_then}
use Rattle.client_run.proofs.HandedLemmas.{drained, falls_same, handed_less, handed_none, handed_then, still}
use Rattle.client_run.proofs.OrderLemmas.{further_handed}
use Rattle.client_run.proofs.attending.hold.Goals as goal

pub loop-init : goal.loop-init
loop-init g c = record { next = tt; finite = tt; pass = search rules; counts = refl; said = said_nothing (known c.args.pass.now); handed = handed_none true _ _ _ _ (still (known c.args.pass.now)) refl }

pub returns-in-Err-clause-holds : goal.returns-in-Err-clause-holds
returns-in-Err-clause-holds g c = held_wanting c.args.stanza.now (known c.args.pass.now) (known c.offer.new.pass) _

pub returns-in-Err-clause-handed : goal.returns-in-Err-clause-handed
returns-in-Err-clause-handed g c = handed_then true (out_of (known c.args.pass.now) (g.K.Sink.given c.args.sink.now)) (out_of (known c.loop.pass) (g.K.Sink.given c.loop.sink)) (known c.offer.new.pass) (g.K.Sink.faults c.args.sink.now) (g.K.Sink.faults c.loop.sink) (g.K.Sink.faults c.loop.sink) (falls_same _) c.loop.invariant.handed (goes_offered c.args.stanza.now (known c.loop.pass) (known c.offer.new.pass) c.offer.result c.offer.ensures.offers)

pub returns-in-Done-clause-holds : goal.returns-in-Done-clause-holds
returns-in-Done-clause-holds g c = held_done c.args.stanza.now (known c.args.pass.now) (known c.loop.pass) (known c.offer.new.pass) c.loop.invariant.said (subst (λ queued. OffersBy c.args.stanza.now (known c.loop.pass) (known c.offer.new.pass) (Ok queued)) c.in-Done.is c.in-Ok.ensures.offers)

pub returns-in-Done-clause-handed : goal.returns-in-Done-clause-handed
returns-in-Done-clause-handed g c = handed_then true (out_of (known c.args.pass.now) (g.K.Sink.given c.args.sink.now)) (out_of (known c.loop.pass) (g.K.Sink.given c.loop.sink)) (known c.offer.new.pass) (g.K.Sink.faults c.args.sink.now) (g.K.Sink.faults c.loop.sink) (g.K.Sink.faults c.loop.sink) (falls_same _) c.loop.invariant.handed (goes_offered c.args.stanza.now (known c.loop.pass) (known c.offer.new.pass) c.offer.result c.offer.ensures.offers)

pub returns-in-Over-clause-holds : goal.returns-in-Over-clause-holds
returns-in-Over-clause-holds g c = held_over c.args.stanza.now (known c.args.pass.now) (known c.loop.pass) (known c.offer.new.pass) c.loop.invariant.said (subst (λ queued. OffersBy c.args.stanza.now (known c.loop.pass) (known c.offer.new.pass) (Ok queued)) c.in-Over.is c.in-Ok.ensures.offers)

pub returns-in-Over-clause-handed : goal.returns-in-Over-clause-handed
returns-in-Over-clause-handed g c = handed_then true (out_of (known c.args.pass.now) (g.K.Sink.given c.args.sink.now)) (out_of (known c.loop.pass) (g.K.Sink.given c.loop.sink)) (known c.offer.new.pass) (g.K.Sink.faults c.args.sink.now) (g.K.Sink.faults c.loop.sink) (g.K.Sink.faults c.loop.sink) (falls_same _) c.loop.invariant.handed (goes_offered c.args.stanza.now (known c.loop.pass) (known c.offer.new.pass) c.offer.result c.offer.ensures.offers)

pub returns-then-has_ended-clause-holds : goal.returns-then-has_ended-clause-holds
returns-then-has_ended-clause-holds g c = held_full c.args.stanza.now (known c.args.pass.now) (known c.loop.pass) (known c.offer.new.pass) c.loop.invariant.said (further_handed true (out_of (known c.args.pass.now) (g.K.Sink.given c.args.sink.now)) (out_of (known c.loop.pass) (g.K.Sink.given c.loop.sink)) (g.K.Sink.faults c.args.sink.now) (g.K.Sink.faults c.loop.sink) c.loop.invariant.handed).begins (subst (λ queued. OffersBy c.args.stanza.now (known c.loop.pass) (known c.offer.new.pass) (Ok queued)) c.in-Full.is c.in-Ok.ensures.offers)

pub returns-then-has_ended-clause-handed : goal.returns-then-has_ended-clause-handed
returns-then-has_ended-clause-handed g c = handed_then true (out_of (known c.args.pass.now) (g.K.Sink.given c.args.sink.now)) (out_of (known c.loop.pass) (g.K.Sink.given c.loop.sink)) (known c.offer.new.pass) (g.K.Sink.faults c.args.sink.now) (g.K.Sink.faults c.loop.sink) (g.K.Sink.faults c.loop.sink) (falls_same _) c.loop.invariant.handed (goes_offered c.args.stanza.now (known c.loop.pass) (known c.offer.new.pass) c.offer.result c.offer.ensures.offers)

pub returns-in-Ok-WriteFault-clause-holds : goal.returns-in-Ok-WriteFault-clause-holds
returns-in-Ok-WriteFault-clause-holds g c = held_failed c.args.stanza.now (known c.args.pass.now) (known c.drain.new.pass)

pub returns-in-Ok-WriteFault-clause-handed : goal.returns-in-Ok-WriteFault-clause-handed
returns-in-Ok-WriteFault-clause-handed g c =
    handed_less (is_write_whole c.drain.result) _ _ _ _ (drained (out_of (known c.args.pass.now) (g.K.Sink.given c.args.sink.now)) (out_of (known c.offer.new.pass) (g.K.Sink.given c.loop.sink)) (out_of (known c.drain.new.pass) (g.K.Sink.given c.drain.new.sink)) (g.K.Sink.faults c.args.sink.now) (g.K.Sink.faults c.loop.sink) (g.K.Sink.faults c.drain.new.sink) c.drain.result (omega (arith, c.loop.invariant.counts)) c.drain.ensures.faults (handed_then true (out_of (known c.args.pass.now) (g.K.Sink.given c.args.sink.now)) (out_of (known c.loop.pass) (g.K.Sink.given c.loop.sink)) (known c.offer.new.pass) (g.K.Sink.faults c.args.sink.now) (g.K.Sink.faults c.loop.sink) (g.K.Sink.faults c.loop.sink) (falls_same _) c.loop.invariant.handed (goes_offered c.args.stanza.now (known c.loop.pass) (known c.offer.new.pass) c.offer.result c.offer.ensures.offers)) c.drain.ensures.drains c.drain.ensures.fault)

pub returns-in-Err-drain-clause-holds : goal.returns-in-Err-drain-clause-holds
returns-in-Err-drain-clause-holds g c = held_wanting c.args.stanza.now (known c.args.pass.now) (known c.drain.new.pass) _

pub returns-in-Err-drain-clause-handed : goal.returns-in-Err-drain-clause-handed
returns-in-Err-drain-clause-handed g c =
    drained (out_of (known c.args.pass.now) (g.K.Sink.given c.args.sink.now)) (out_of (known c.offer.new.pass) (g.K.Sink.given c.loop.sink)) (out_of (known c.drain.new.pass) (g.K.Sink.given c.drain.new.sink)) (g.K.Sink.faults c.args.sink.now) (g.K.Sink.faults c.loop.sink) (g.K.Sink.faults c.drain.new.sink) (Err c.in-Err-drain.field-0) (omega (arith, c.loop.invariant.counts)) c.drain.ensures.faults (handed_then true (out_of (known c.args.pass.now) (g.K.Sink.given c.args.sink.now)) (out_of (known c.loop.pass) (g.K.Sink.given c.loop.sink)) (known c.offer.new.pass) (g.K.Sink.faults c.args.sink.now) (g.K.Sink.faults c.loop.sink) (g.K.Sink.faults c.loop.sink) (falls_same _) c.loop.invariant.handed (goes_offered c.args.stanza.now (known c.loop.pass) (known c.offer.new.pass) c.offer.result c.offer.ensures.offers)) c.in-Err-drain.ensures.drains c.in-Err-drain.ensures.fault

pub loop-preserved : goal.loop-preserved
loop-preserved g c = record {
  next = tt;
  finite = tt;
  pass = search rules;
  counts = search rules;
  said = said_drained (known c.args.pass.now) (out_of (known c.offer.new.pass) (g.K.Sink.given c.loop.sink)) (out_of (known c.drain.new.pass) (g.K.Sink.given c.drain.new.sink)) c.drain.result (said_then (known c.args.pass.now) (known c.loop.pass) (known c.offer.new.pass) [] c.loop.invariant.said (offered_full c.args.stanza.now (known c.loop.pass) (known c.offer.new.pass) (subst (λ queued. OffersBy c.args.stanza.now (known c.loop.pass) (known c.offer.new.pass) (Ok queued)) c.in-Full.is c.in-Ok.ensures.offers)).0) c.drain.ensures.drains;
  handed = drained_on (out_of (known c.args.pass.now) (g.K.Sink.given c.args.sink.now)) (out_of (known c.offer.new.pass) (g.K.Sink.given c.loop.sink)) (out_of (known c.drain.new.pass) (g.K.Sink.given c.drain.new.sink)) (g.K.Sink.faults c.args.sink.now) (g.K.Sink.faults c.loop.sink) (g.K.Sink.faults c.drain.new.sink) c.in-Ok-Done.field-0 (omega (arith, c.loop.invariant.counts)) c.drain.ensures.faults (handed_then true (out_of (known c.args.pass.now) (g.K.Sink.given c.args.sink.now)) (out_of (known c.loop.pass) (g.K.Sink.given c.loop.sink)) (known c.offer.new.pass) (g.K.Sink.faults c.args.sink.now) (g.K.Sink.faults c.loop.sink) (g.K.Sink.faults c.loop.sink) (falls_same _) c.loop.invariant.handed (goes_offered c.args.stanza.now (known c.loop.pass) (known c.offer.new.pass) c.offer.result c.offer.ensures.offers)) c.in-Ok-Done.field-0-is c.in-Ok-Done.ensures.drains;
}
