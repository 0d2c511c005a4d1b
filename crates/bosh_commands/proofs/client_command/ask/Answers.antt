use Rattle.std.proofs.Common.{ap, lit<, refl, sym}
use Rattle.bosh_commands.proofs.ClientCommandLemmas.{asked_bad, asked_done, asked_ended, asked_failed, asked_net, asked_read, asked_refused, asked_spawn, asked_status, asked_stuck, asked_write, begins_with}
use Rattle.bosh_commands.proofs.client_command.ask.Goals as goal

pub returns-in-Ok-run_client-clause-statuses : goal.returns-in-Ok-run_client-clause-statuses
returns-in-Ok-run_client-clause-statuses g c = asked_status c.in-Ok-run_client.ran _ c.tell_ran.ensures.statuses

pub returns-in-Ok-run_client-clause-read_fault : goal.returns-in-Ok-run_client-clause-read_fault
returns-in-Ok-run_client-clause-read_fault g c = asked_read _ _ _ c.in-Ok-run_client.ran _ c.in-Ok-run_client.ensures.ran c.tell_ran.ensures.statuses

pub returns-in-Ok-run_client-clause-net_fault : goal.returns-in-Ok-run_client-clause-net_fault
returns-in-Ok-run_client-clause-net_fault g c = asked_net _ _ _ c.in-Ok-run_client.ran _ c.in-Ok-run_client.ensures.ran c.tell_ran.ensures.statuses

pub returns-in-Ok-run_client-clause-spawn_fault : goal.returns-in-Ok-run_client-clause-spawn_fault
returns-in-Ok-run_client-clause-spawn_fault g c = asked_spawn _ _ _ c.in-Ok-run_client.ran _ c.in-Ok-run_client.ensures.ran c.tell_ran.ensures.statuses

pub returns-in-Ok-run_client-clause-bad : goal.returns-in-Ok-run_client-clause-bad
returns-in-Ok-run_client-clause-bad g c =
    asked_bad c.args.options _ (record { first = c.first_rid-first.ensures; to = refl; wait = refl; hold = refl; ack = refl; keys = refl }) _ _ _ c.in-Ok.ensures.known _ _ _ _ c.tell_ran.ensures.never_falls c.in-Ok-run_client.ran _
    (record { by = c.in-Ok-run_client.ensures.ran; handed = c.in-Ok-run_client.ensures.written; listed = c.tell_ran.ensures.statuses; bad = c.tell_ran.ensures.bad; ended = c.tell_ran.ensures.ended; quiet = λ is. ap (λ k. g.K.Sink.given k) (c.tell_ran.ensures.quiet is) })

pub returns-in-Ok-run_client-clause-done : goal.returns-in-Ok-run_client-clause-done
returns-in-Ok-run_client-clause-done g c =
    asked_done c.args.options _ (record { first = c.first_rid-first.ensures; to = refl; wait = refl; hold = refl; ack = refl; keys = refl }) _ _ _ c.in-Ok.ensures.known _ _ _ _ c.tell_ran.ensures.never_falls c.in-Ok-run_client.ran _
    (record { by = c.in-Ok-run_client.ensures.ran; handed = c.in-Ok-run_client.ensures.written; listed = c.tell_ran.ensures.statuses; bad = c.tell_ran.ensures.bad; ended = c.tell_ran.ensures.ended; quiet = λ is. ap (λ k. g.K.Sink.given k) (c.tell_ran.ensures.quiet is) })

pub returns-in-Ok-run_client-clause-ended : goal.returns-in-Ok-run_client-clause-ended
returns-in-Ok-run_client-clause-ended g c =
    asked_ended c.args.options _ (record { first = c.first_rid-first.ensures; to = refl; wait = refl; hold = refl; ack = refl; keys = refl }) _ _ _ c.in-Ok.ensures.known _ _ _ _ c.tell_ran.ensures.never_falls c.in-Ok-run_client.ran _
    (record { by = c.in-Ok-run_client.ensures.ran; handed = c.in-Ok-run_client.ensures.written; listed = c.tell_ran.ensures.statuses; bad = c.tell_ran.ensures.bad; ended = c.tell_ran.ensures.ended; quiet = λ is. ap (λ k. g.K.Sink.given k) (c.tell_ran.ensures.quiet is) })

pub returns-in-Ok-run_client-clause-failed : goal.returns-in-Ok-run_client-clause-failed
returns-in-Ok-run_client-clause-failed g c =
    asked_failed c.args.options _ (record { first = c.first_rid-first.ensures; to = refl; wait = refl; hold = refl; ack = refl; keys = refl }) _ _ _ c.in-Ok.ensures.known _ _ _ _ c.tell_ran.ensures.never_falls c.in-Ok-run_client.ran _
    (record { by = c.in-Ok-run_client.ensures.ran; handed = c.in-Ok-run_client.ensures.written; listed = c.tell_ran.ensures.statuses; bad = c.tell_ran.ensures.bad; ended = c.tell_ran.ensures.ended; quiet = λ is. ap (λ k. g.K.Sink.given k) (c.tell_ran.ensures.quiet is) })

pub returns-in-Ok-run_client-clause-write_fault : goal.returns-in-Ok-run_client-clause-write_fault
returns-in-Ok-run_client-clause-write_fault g c = asked_write _ _ _ _ _ c.in-Ok-run_client.ensures.sink_faults c.tell_ran.ensures.never_falls c.in-Ok-run_client.ran c.in-Ok-run_client.ensures.ran c.tell_ran.ensures.fault

pub new_gate-requires : goal.new_gate-requires
new_gate-requires g c = begins_with c.args.options _ _ c.requires

pub returns-in-Err-clause-statuses : goal.returns-in-Err-clause-statuses
returns-in-Err-clause-statuses g c = (4, lit< tt, sym c.tell_no_memory.ensures)

pub returns-clause-statuses : goal.returns-clause-statuses
returns-clause-statuses g c = (4, lit< tt, sym c.tell_no_memory-in-Err-run_client.ensures)

pub returns-in-Ok-run_client-clause-refusals : goal.returns-in-Ok-run_client-clause-refusals
returns-in-Ok-run_client-clause-refusals g c = asked_refused _ _ _ (g.E.Sink.given c.args.errors.now) (g.E.Sink.given c.tell_why.new.errors) c.in-Ok-run_client.ran _ c.in-Ok-run_client.ensures.ran c.tell_ran.ensures.statuses c.tell_why.ensures

pub returns-in-Ok-run_client-clause-stuck : goal.returns-in-Ok-run_client-clause-stuck
returns-in-Ok-run_client-clause-stuck g c =
    asked_stuck c.args.options _ (record { first = c.first_rid-first.ensures; to = refl; wait = refl; hold = refl; ack = refl; keys = refl }) _ _ _ c.in-Ok.ensures.known _ _ _ _ c.tell_ran.ensures.never_falls (g.E.Sink.given c.args.errors.now) (g.E.Sink.given c.tell_why.new.errors) c.in-Ok-run_client.ran _
    (record { by = c.in-Ok-run_client.ensures.ran; handed = c.in-Ok-run_client.ensures.written; listed = c.tell_ran.ensures.statuses; bad = c.tell_ran.ensures.bad; ended = c.tell_ran.ensures.ended; quiet = λ is. ap (λ k. g.K.Sink.given k) (c.tell_ran.ensures.quiet is) })
    c.tell_why.ensures
