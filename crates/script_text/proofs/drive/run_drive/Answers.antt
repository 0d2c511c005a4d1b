use Rattle.std.proofs.Common.{◌≡◌, ◌∙◌, subst, arith}
use Rattle.bosh_ports.specs.Sink.{AppendsFront}
use Rattle.std.specs.Io.KnownBytes.{Appends}
use Rattle.script_text.specs.Report.{report_text}
use Rattle.script_text.specs.Script.{drive_of}
use Rattle.script_text.proofs.GivenLemmas.{OnErr-any}
use Rattle.script_text.proofs.GivesLemmas.{gives_report}
use Rattle.script_text.proofs.StepLemmas.{Going-at, goes, ends, halts, too_many, too_many_part}
use Rattle.script_text.proofs.drive.run_drive.Goals as goal

pub returns-in_err-give_lines-clause-part : goal.returns-in_err-give_lines-clause-part
returns-in_err-give_lines-clause-part g c = OnErr-any c.from_residual-in_err-give_lines.result _
    (halts drive_of _ _ _ c.loop-n.run c.loop-n.n c.in_ok-line.line c.in_ok-lines.field-0 _ _ _ (omega (arith, c.loop-n-test.true)) c.loop-n.invariant.goes c.in_ok-line.ensures.reads c.in_ok-lines.ensures
    (subst (λ l. AppendsFront (g.K.Sink.given c.loop-n.sink) (g.K.Sink.given c.give_lines.new.sink) (report_text l)) c.deref.ensures.value c.in_err-give_lines.ensures.given))

pub returns-in-Ends-clause-report : goal.returns-in-Ends-clause-report
returns-in-Ends-clause-report g c =
    ends drive_of _ _ _ c.loop-n.run c.loop-n.n c.in_ok-line.line c.in_ok-lines.field-0 c.in-Ends.outcome _ _ _ (omega (arith, c.loop-n-test.true)) c.loop-n.invariant.goes c.in_ok-line.ensures.reads c.in_ok-lines.ensures c.in-Ends.is
    (subst (λ l. Appends (g.K.Sink.given c.loop-n.sink) (g.K.Sink.given c.give_lines.new.sink) (report_text l)) c.deref.ensures.value c.in_ok-give_lines.ensures.given)

pub loop-n-preserved : goal.loop-n-preserved
loop-n-preserved g c = record {
  goes = goes drive_of _ _ _ c.loop-n.run c.in-Goes.after c.loop-n.n c.in_ok-line.line c.in_ok-lines.field-0 _ _ _ (omega (arith, c.loop-n-test.true)) c.loop-n.invariant.goes c.in_ok-line.ensures.reads c.in_ok-lines.ensures c.in-Goes.is
      (subst (λ l. Appends (g.K.Sink.given c.loop-n.sink) (g.K.Sink.given c.give_lines.new.sink) (report_text l)) c.deref.ensures.value c.in_ok-give_lines.ensures.given);
  source_faults = c.in_ok-line.ensures.counts ∙ c.loop-n.invariant.source_faults;
  sink_faults = c.in_ok-give_lines.ensures.counts ∙ c.loop-n.invariant.sink_faults;
}

pub returns-in_err-give_line-clause-part : goal.returns-in_err-give_line-clause-part
returns-in_err-give_line-clause-part g c =
    let last : c.loop-n.n ≡ 1000001 = omega (arith, c.loop-n-test.false, c.loop-n.auto.n-end) in
    OnErr-any c.from_residual-in_err-give_line.result _
    (too_many_part drive_of _ _ c.loop-n.run 1000001 _ _ _ (omega arith) (Going-at drive_of _ _ c.loop-n.run c.loop-n.n 1000001 _ _ last c.loop-n.invariant.goes) c.in_err-give_line.ensures.given)

pub returns-clause-report : goal.returns-clause-report
returns-clause-report g c =
    let last : c.loop-n.n ≡ 1000001 = omega (arith, c.loop-n-test.false, c.loop-n.auto.n-end) in
    too_many drive_of _ _ c.loop-n.run 1000001 _ _ _ (omega arith) (Going-at drive_of _ _ c.loop-n.run c.loop-n.n 1000001 _ _ last c.loop-n.invariant.goes) c.in_ok-give_line.ensures.given

pub returns-in-Ends-clause-headline : goal.returns-in-Ends-clause-headline
returns-in-Ends-clause-headline g c = gives_report (record { told = c.reports_tell_of_sessions.ensures.told; came = c.reports_tell_of_sessions.ensures.came; stages = c.reports_tell_of_sessions.ensures.stages; entered = c.reports_tell_of_sessions.ensures.entered; moments = c.reports_tell_of_sessions.ensures.moments; still = c.reports_tell_of_sessions.ensures.still; handed = c.reports_tell_of_sessions.ensures.handed; fates = c.reports_tell_of_sessions.ensures.fates; answers = c.reports_tell_of_sessions.ensures.answers; refused = c.reports_tell_of_sessions.ensures.refused; repeats = c.reports_tell_of_sessions.ensures.repeats }) (g.S.Source.left c.args.source.now) c.in-Ends.outcome _ _ (returns-in-Ends-clause-report g c)

pub returns-clause-headline : goal.returns-clause-headline
returns-clause-headline g c = gives_report (record { told = c.reports_tell_of_sessions.ensures.told; came = c.reports_tell_of_sessions.ensures.came; stages = c.reports_tell_of_sessions.ensures.stages; entered = c.reports_tell_of_sessions.ensures.entered; moments = c.reports_tell_of_sessions.ensures.moments; still = c.reports_tell_of_sessions.ensures.still; handed = c.reports_tell_of_sessions.ensures.handed; fates = c.reports_tell_of_sessions.ensures.fates; answers = c.reports_tell_of_sessions.ensures.answers; refused = c.reports_tell_of_sessions.ensures.refused; repeats = c.reports_tell_of_sessions.ensures.repeats }) (g.S.Source.left c.args.source.now) _ _ _ (returns-clause-report g c)
