use Rattle.std.proofs.Common.{◌≡◌, arith, false, refl, subst}
use Rattle.std.specs.Prelude.{IfNone, IfSome}
use Rattle.bosh_ports.specs.Faults.{HasRisen}
use Rattle.parked_gate.specs.Passes.{known}
use Rattle.client_run.specs.Queueing.{QueuesBy}
use Rattle.client_run.specs.Ran.{ConversesBy, scene_of}
use Rattle.client_run.specs.declared.call.Call.TheVariants as calls
use Rattle.client_run.specs.Running.{Gathers, TakesBoth}
use Rattle.client_run.proofs.RanLemmas.{ran_finished, ran_net, ran_spawn, ran_wanting}
use Rattle.client_run.specs.Attending.{is_attend_whole}
use Rattle.client_run.specs.Handed.{Handed}
use Rattle.client_run.specs.Handing.{out_of}
use Rattle.client_run.specs.Lingering.{is_linger_whole}
use Rattle.client_run.proofs.HandedLemmas.{falls_same, goes_both, goes_gathered, goes_queued, goes_same, handed_none, handed_then, still}
use Rattle.client_run.proofs.OrderLemmas.{asks_since, further_handed, further_is, ordered_finished, ordered_spawn, ordered_unhired, ordered_wanting}
use Rattle.client_run.proofs.running.run_named.Goals as goal

pub returns-in-Err-clause-ran : goal.returns-in-Err-clause-ran
returns-in-Err-clause-ran g c = ran_wanting _ _ _ _

pub returns-in-Err-hire_both-clause-ran : goal.returns-in-Err-hire_both-clause-ran
returns-in-Err-hire_both-clause-ran g c = ran_wanting _ _ _ _

pub returns-in-None-clause-ran : goal.returns-in-None-clause-ran
returns-in-None-clause-ran g c =
    ran_net _ _ _ (subst (λ h. IfNone h (HasRisen (g.N.Network.counts c.args.outside.now.net).faults (g.N.Network.counts c.hire_both.new.net).faults)) c.in-None.is c.in-Ok-hire_both.ensures.failed)

pub returns-clause-ran : goal.returns-clause-ran
returns-clause-ran g c =
    let hired = subst (λ h. IfSome h (λ _. g.N.Network.counts c.hire_both.new.net ≡ g.N.Network.counts c.args.outside.now.net)) c.in-Some.is c.in-Ok-hire_both.ensures.hired in
    let hired_known = c.in-Ok-hire_both.ensures.known in
    let start = out_of (known c.args.pass.now) (g.K.Sink.given c.args.sink.now) in
    let said = out_of (known c.converse-talked.new.pass) (g.K.Sink.given c.converse-talked.new.sink) in
    let goes = further_handed (is_attend_whole c.converse-talked.result) start said (g.K.Sink.faults c.args.sink.now) (g.K.Sink.faults c.converse-talked.new.sink)
    (subst (λ k. Handed (is_attend_whole c.converse-talked.result) (out_of k (g.K.Sink.given c.args.sink.now)) said (g.K.Sink.faults c.args.sink.now) (g.K.Sink.faults c.converse-talked.new.sink)) hired_known c.converse-talked.ensures.written) in
    let lingers = c.linger-talked.ensures.lingers (g.S.Source.left c.args.source.now) (known c.args.pass.now) (g.S.Source.faults c.args.source.now) (g.S.Source.faults c.converse-talked.new.source) (g.K.Sink.faults c.args.sink.now) c.converse-talked.ensures.sink_faults goes
    (subst (λ k. ConversesBy (g.S.Source.left c.args.source.now) k (known c.converse-talked.new.pass) (g.S.Source.faults c.args.source.now) (g.S.Source.faults c.converse-talked.new.source) (g.K.Sink.faults c.args.sink.now) (g.K.Sink.faults c.converse-talked.new.sink) c.converse-talked.result) hired_known c.converse-talked.ensures.converses) in
    ran_finished (g.S.Source.left c.args.source.now)
    (scene_of (known c.args.pass.now) (g.N.Network.counts c.args.outside.now.net) (g.P.Spawner.refusals c.args.outside.now.spawner) (g.S.Source.faults c.args.source.now) (g.K.Sink.faults c.args.sink.now))
    (known c.linger-talked.new.pass) (known c.gather_two-gathered.new.pass) (known c.finish.new.pass) (g.S.Source.faults c.converse-talked.new.source) (g.K.Sink.faults c.linger-talked.new.sink) (g.K.Sink.faults c.finish.new.sink)
    (g.P.Spawner.refusals c.start_both-started.new.spawner) (g.N.Network.counts c.gather_two-gathered.new.net) c.linger-talked.result c.gather_two-gathered.result
    lingers
    (subst (λ n. Gathers (known c.linger-talked.new.pass) (known c.gather_two-gathered.new.pass) n (g.N.Network.counts c.gather_two-gathered.new.net) c.gather_two-gathered.result) hired c.gather_two-gathered.ensures.gathers)
    (subst (λ n. TakesBoth (known c.gather_two-gathered.new.pass).seen n (g.N.Network.counts c.gather_two-gathered.new.net) c.gather_two-gathered.result) hired c.gather_two-gathered.ensures.takes)
    (omega (arith, c.converse-talked.ensures.sink_faults, c.linger-talked.ensures.sink_faults)) c.finish.ensures.sink_faults c.finish.result c.finish.ensures.finishes

pub returns-then-started-ne2-clause-ran : goal.returns-then-started-ne2-clause-ran
returns-then-started-ne2-clause-ran g c = ran_spawn _ _ _ (c.start_both-started.ensures.refused c.if-started-ne2.true)

pub returns-in-Err-clause-written : goal.returns-in-Err-clause-written
returns-in-Err-clause-written g c = handed_none false _ _ _ _ (still (known c.args.pass.now)) refl

pub returns-in-Err-hire_both-clause-written : goal.returns-in-Err-hire_both-clause-written
returns-in-Err-hire_both-clause-written g c = handed_none false _ _ _ _ (goes_same (known c.args.pass.now) (known c.hire_both.new.pass) c.hire_both.ensures.known) refl

pub returns-in-None-clause-written : goal.returns-in-None-clause-written
returns-in-None-clause-written g c =
    handed_none false _ _ _ _
    (goes_both (known c.args.pass.now) (known c.hire_both.new.pass) (known c.terminate.new.pass) (goes_same (known c.args.pass.now) (known c.hire_both.new.pass) c.hire_both.ensures.known)
    (goes_queued (known c.hire_both.new.pass) (known c.terminate.new.pass) _ c.terminate.ensures.queues)) refl

pub returns-then-started-ne2-clause-written : goal.returns-then-started-ne2-clause-written
returns-then-started-ne2-clause-written g c =
    handed_none false _ _ _ _
    (goes_both (known c.args.pass.now) (known c.hire_both.new.pass) (known c.give_up.new.pass) (goes_same (known c.args.pass.now) (known c.hire_both.new.pass) c.hire_both.ensures.known) c.give_up.ensures.goes_on) refl

pub returns-clause-written : goal.returns-clause-written
returns-clause-written g c =
    let start = out_of (known c.args.pass.now) (g.K.Sink.given c.args.sink.now) in
    let said = out_of (known c.converse-talked.new.pass) (g.K.Sink.given c.converse-talked.new.sink) in
    let lingered = out_of (known c.linger-talked.new.pass) (g.K.Sink.given c.linger-talked.new.sink) in
    c.finish.ensures.written start (g.K.Sink.faults c.args.sink.now) (omega (arith, c.converse-talked.ensures.sink_faults, c.linger-talked.ensures.sink_faults))
    (handed_then (is_linger_whole c.linger-talked.result) start lingered (known c.gather_two-gathered.new.pass) (g.K.Sink.faults c.args.sink.now) (g.K.Sink.faults c.linger-talked.new.sink) (g.K.Sink.faults c.linger-talked.new.sink) (falls_same _)
    (c.linger-talked.ensures.written start (g.K.Sink.faults c.args.sink.now) c.converse-talked.ensures.sink_faults
    (subst (λ k. Handed (is_attend_whole c.converse-talked.result) (out_of k (g.K.Sink.given c.args.sink.now)) said (g.K.Sink.faults c.args.sink.now) (g.K.Sink.faults c.converse-talked.new.sink)) c.hire_both.ensures.known c.converse-talked.ensures.written))
    (goes_gathered (known c.linger-talked.new.pass) (known c.gather_two-gathered.new.pass) c.gather_two-gathered.ensures.gathers.begins c.gather_two-gathered.ensures.gathers.mine))

pub returns-in-Err-clause-ordered : goal.returns-in-Err-clause-ordered
returns-in-Err-clause-ordered g c = ordered_wanting _ _ _ _

pub returns-in-Err-hire_both-clause-ordered : goal.returns-in-Err-hire_both-clause-ordered
returns-in-Err-hire_both-clause-ordered g c = ordered_wanting _ _ _ _

pub returns-in-None-clause-ordered : goal.returns-in-None-clause-ordered
returns-in-None-clause-ordered g c =
    ordered_unhired _ _ _ c.terminate.result refl refl refl
    (subst (λ k. QueuesBy calls.Terminate k (known c.terminate.new.pass) c.terminate.result) c.in-Ok-hire_both.ensures.known c.terminate.ensures.queues)

pub returns-then-started-ne2-clause-ordered : goal.returns-then-started-ne2-clause-ordered
returns-then-started-ne2-clause-ordered g c =
    ordered_spawn _ _ _ refl refl
    (asks_since (known c.args.pass.now) (known c.hire_both.new.pass) (known c.give_up.new.pass) (further_is (known c.args.pass.now) (known c.hire_both.new.pass) c.hire_both.ensures.known) c.give_up.ensures.asks)

pub returns-clause-ordered : goal.returns-clause-ordered
returns-clause-ordered g c =
    let hired = subst (λ h. IfSome h (λ _. g.N.Network.counts c.hire_both.new.net ≡ g.N.Network.counts c.args.outside.now.net)) c.in-Some.is c.in-Ok-hire_both.ensures.hired in
    let hired_known = c.in-Ok-hire_both.ensures.known in
    let start = out_of (known c.args.pass.now) (g.K.Sink.given c.args.sink.now) in
    let said = out_of (known c.converse-talked.new.pass) (g.K.Sink.given c.converse-talked.new.sink) in
    let goes = further_handed (is_attend_whole c.converse-talked.result) start said (g.K.Sink.faults c.args.sink.now) (g.K.Sink.faults c.converse-talked.new.sink)
    (subst (λ k. Handed (is_attend_whole c.converse-talked.result) (out_of k (g.K.Sink.given c.args.sink.now)) said (g.K.Sink.faults c.args.sink.now) (g.K.Sink.faults c.converse-talked.new.sink)) hired_known c.converse-talked.ensures.written) in
    let lingers = c.linger-talked.ensures.lingers (g.S.Source.left c.args.source.now) (known c.args.pass.now) (g.S.Source.faults c.args.source.now) (g.S.Source.faults c.converse-talked.new.source) (g.K.Sink.faults c.args.sink.now) c.converse-talked.ensures.sink_faults goes
    (subst (λ k. ConversesBy (g.S.Source.left c.args.source.now) k (known c.converse-talked.new.pass) (g.S.Source.faults c.args.source.now) (g.S.Source.faults c.converse-talked.new.source) (g.K.Sink.faults c.args.sink.now) (g.K.Sink.faults c.converse-talked.new.sink) c.converse-talked.result) hired_known c.converse-talked.ensures.converses) in
    ordered_finished (g.S.Source.left c.args.source.now)
    (scene_of (known c.args.pass.now) (g.N.Network.counts c.args.outside.now.net) (g.P.Spawner.refusals c.args.outside.now.spawner) (g.S.Source.faults c.args.source.now) (g.K.Sink.faults c.args.sink.now))
    (known c.linger-talked.new.pass) (known c.gather_two-gathered.new.pass) (known c.finish.new.pass) (g.S.Source.faults c.converse-talked.new.source) (g.K.Sink.faults c.linger-talked.new.sink) (g.K.Sink.faults c.finish.new.sink)
    (g.P.Spawner.refusals c.start_both-started.new.spawner) (g.N.Network.counts c.gather_two-gathered.new.net) c.linger-talked.result c.gather_two-gathered.result
    lingers
    (subst (λ n. Gathers (known c.linger-talked.new.pass) (known c.gather_two-gathered.new.pass) n (g.N.Network.counts c.gather_two-gathered.new.net) c.gather_two-gathered.result) hired c.gather_two-gathered.ensures.gathers)
    (subst (λ n. TakesBoth (known c.gather_two-gathered.new.pass).seen n (g.N.Network.counts c.gather_two-gathered.new.net) c.gather_two-gathered.result) hired c.gather_two-gathered.ensures.takes)
    (further_handed _ (out_of (known c.gather_two-gathered.new.pass) (g.K.Sink.given c.linger-talked.new.sink)) (out_of (known c.finish.new.pass) (g.K.Sink.given c.finish.new.sink)) _ _
    (c.finish.ensures.written (out_of (known c.gather_two-gathered.new.pass) (g.K.Sink.given c.linger-talked.new.sink)) (g.K.Sink.faults c.linger-talked.new.sink) (falls_same _)
    (handed_none (is_linger_whole c.linger-talked.result) _ _ _ _ (still (known c.gather_two-gathered.new.pass)) refl)))
    (c.start_both-started.ensures.all c.if-started-ne2.false)
    c.finish.result c.finish.ensures.finishes
