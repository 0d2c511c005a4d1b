use Rattle.std.proofs.Common.{ap, subst, true}
use Rattle.std.specs.Prelude.{Ok}
use Rattle.parked_gate.specs.Passes.{known}
use Rattle.client_run.specs.Handing.{Drains, out_of}
use Rattle.client_run.proofs.RanLemmas.{drains_begin, drains_over, emptied_by, finish_net, finish_over, finish_refused, finish_risen, finish_wanting, not_failed}
use Rattle.client_run.proofs.RiseLemmas.{starts_same}
use Rattle.client_run.specs.Handed.{Handed, is_whole, is_write_whole}
use Rattle.client_run.proofs.HandedLemmas.{drained, falls_same, handed_at, handed_less, handed_then}
use Rattle.client_run.proofs.running.end.Goals as goal

pub returns-in-Err-clause-finishes : goal.returns-in-Err-clause-finishes
returns-in-Err-clause-finishes g c = finish_wanting _ _ _ _ _ _ _

pub returns-in-NetFault-clause-finishes : goal.returns-in-NetFault-clause-finishes
returns-in-NetFault-clause-finishes g c = finish_net c.args.stuck c.args.gathered _ _ _ _ c.in-NetFault.is

pub returns-in-Refused-clause-finishes : goal.returns-in-Refused-clause-finishes
returns-in-Refused-clause-finishes g c = finish_refused c.args.stuck c.args.gathered _ _ _ _ c.in-Refused.status c.in-Refused.is

pub returns-in-NoMemory-clause-finishes : goal.returns-in-NoMemory-clause-finishes
returns-in-NoMemory-clause-finishes g c = finish_wanting _ _ _ _ _ _ _

pub returns-in-WriteFault-clause-finishes : goal.returns-in-WriteFault-clause-finishes
returns-in-WriteFault-clause-finishes g c = finish_risen c.args.stuck c.args.gathered (known c.args.pass.now) (known c.drain.new.pass) _ _ c.in-Over.is (c.in-Ok.ensures.fault (ap (λ w. Ok w) c.in-WriteFault.is))
    (drains_begin (out_of (known c.args.pass.now) (g.K.Sink.given c.args.sink.now)) (out_of (known c.drain.new.pass) (g.K.Sink.given c.drain.new.sink)) (known c.drain.new.pass) c.drain.result c.drain.ensures.drains (starts_same (known c.drain.new.pass).seen))

pub returns-in-Done-clause-finishes : goal.returns-in-Done-clause-finishes
returns-in-Done-clause-finishes g c =
    finish_over c.args.stuck c.args.gathered (known c.args.pass.now) (known c.drain.new.pass) (known c.conclude.new.pass) (g.K.Sink.faults c.args.sink.now) (g.K.Sink.faults c.drain.new.sink) c.conclude.result c.in-Over.is
    (c.in-Ok.ensures.counts (λ is. not_failed (ap (λ w. Ok w) c.in-Done.is) is))
    (drains_begin (out_of (known c.args.pass.now) (g.K.Sink.given c.args.sink.now)) (out_of (known c.drain.new.pass) (g.K.Sink.given c.drain.new.sink)) (known c.conclude.new.pass) c.drain.result c.drain.ensures.drains c.conclude.ensures.goes_on.begins)
    c.in-Ok.ensures.adds
    (drains_over (out_of (known c.args.pass.now) (g.K.Sink.given c.args.sink.now)) (out_of (known c.drain.new.pass) (g.K.Sink.given c.drain.new.sink)) c.drain.result c.drain.ensures.drains)
    (emptied_by (out_of (known c.args.pass.now) (g.K.Sink.given c.args.sink.now)) (out_of (known c.drain.new.pass) (g.K.Sink.given c.drain.new.sink)) (known c.conclude.new.pass)
    (subst (λ w. Drains (out_of (known c.args.pass.now) (g.K.Sink.given c.args.sink.now)) (out_of (known c.drain.new.pass) (g.K.Sink.given c.drain.new.sink)) (Ok w)) c.in-Done.is c.in-Ok.ensures.drains) c.conclude.ensures.goes_on.begins)
    c.conclude.ensures.mine c.conclude.ensures.concludes

pub returns-in-Err-clause-written : goal.returns-in-Err-clause-written
returns-in-Err-clause-written g c = λ start faults falls before.
    handed_less (is_write_whole c.drain.result) _ _ _ _ (drained _ _ _ _ _ _ c.drain.result falls c.drain.ensures.faults before c.drain.ensures.drains c.drain.ensures.fault)

pub returns-in-NetFault-clause-written : goal.returns-in-NetFault-clause-written
returns-in-NetFault-clause-written g c = λ start faults falls before.
    handed_less (is_write_whole c.drain.result) _ _ _ _ (drained _ _ _ _ _ _ c.drain.result falls c.drain.ensures.faults before c.drain.ensures.drains c.drain.ensures.fault)

pub returns-in-Refused-clause-written : goal.returns-in-Refused-clause-written
returns-in-Refused-clause-written g c = λ start faults falls before.
    handed_less (is_write_whole c.drain.result) _ _ _ _ (drained _ _ _ _ _ _ c.drain.result falls c.drain.ensures.faults before c.drain.ensures.drains c.drain.ensures.fault)

pub returns-in-NoMemory-clause-written : goal.returns-in-NoMemory-clause-written
returns-in-NoMemory-clause-written g c = λ start faults falls before.
    handed_less (is_write_whole c.drain.result) _ _ _ _ (drained _ _ _ _ _ _ c.drain.result falls c.drain.ensures.faults before c.drain.ensures.drains c.drain.ensures.fault)

pub returns-in-WriteFault-clause-written : goal.returns-in-WriteFault-clause-written
returns-in-WriteFault-clause-written g c = λ start faults falls before.
    handed_less (is_write_whole c.drain.result) _ _ _ _ (drained _ _ _ _ _ _ c.drain.result falls c.drain.ensures.faults before c.drain.ensures.drains c.drain.ensures.fault)

pub returns-in-Done-clause-written : goal.returns-in-Done-clause-written
returns-in-Done-clause-written g c = λ start faults falls before.
    handed_at (is_whole (Ok c.conclude.result)) _ _ _ _
    (handed_then true start (out_of (known c.drain.new.pass) (g.K.Sink.given c.drain.new.sink)) (known c.conclude.new.pass) faults (g.K.Sink.faults c.drain.new.sink) (g.K.Sink.faults c.drain.new.sink) (falls_same _)
    (subst (λ w. Handed (is_write_whole (Ok w)) start (out_of (known c.drain.new.pass) (g.K.Sink.given c.drain.new.sink)) faults (g.K.Sink.faults c.drain.new.sink)) c.in-Done.is
    (drained start _ (out_of (known c.drain.new.pass) (g.K.Sink.given c.drain.new.sink)) faults _ _ (Ok c.in-Ok.written) falls c.drain.ensures.faults before c.in-Ok.ensures.drains c.in-Ok.ensures.fault))
    c.conclude.ensures.goes_on)
