use Rattle.std.proofs.Common.{◌≡◌, ◌∙◌, subst, arith}
use Rattle.bosh_ports.specs.Sink.{AppendsFront}
use Rattle.std.specs.Io.KnownBytes.{Appends}
use Rattle.script_text.proofs.GivenLemmas.{OnErr-any}
use Rattle.pair_text.specs.Report.{pair_report_text}
use Rattle.pair_text.proofs.StepLemmas.{Going-at, goes, ends, halts, too_many, too_many_part}
use Rattle.pair_text.proofs.TellLemmas.{gives_pair}
use Rattle.pair_text.proofs.pair.run_pair.Goals as goal

pub returns-in_err-give_report-clause-part : goal.returns-in_err-give_report-clause-part
returns-in_err-give_report-clause-part g c = OnErr-any c.from_residual-in_err-give_report.result _
    (halts _ _ _ c.loop-n.run c.loop-n.n c.in_ok-line.line c.in_ok-lines.field-0 _ _ _ (omega (arith, c.loop-n-test.true)) c.loop-n.invariant.goes c.in_ok-line.ensures.reads c.in_ok-lines.ensures
    (subst (λ l. AppendsFront (g.K.Sink.given c.loop-n.sink) (g.K.Sink.given c.give_report.new.sink) (pair_report_text l)) c.deref.ensures.value c.in_err-give_report.ensures.given))

pub returns-in-Ends-clause-report : goal.returns-in-Ends-clause-report
returns-in-Ends-clause-report g c =
    ends _ _ _ c.loop-n.run c.loop-n.n c.in_ok-line.line c.in_ok-lines.field-0 c.in-Ends.outcome _ _ _ (omega (arith, c.loop-n-test.true)) c.loop-n.invariant.goes c.in_ok-line.ensures.reads c.in_ok-lines.ensures c.in-Ends.is
    (subst (λ l. Appends (g.K.Sink.given c.loop-n.sink) (g.K.Sink.given c.give_report.new.sink) (pair_report_text l)) c.deref.ensures.value c.in_ok-give_report.ensures.given)

pub loop-n-preserved : goal.loop-n-preserved
loop-n-preserved g c = record {
  goes = goes _ _ _ c.loop-n.run c.in-Goes.after c.loop-n.n c.in_ok-line.line c.in_ok-lines.field-0 _ _ _ (omega (arith, c.loop-n-test.true)) c.loop-n.invariant.goes c.in_ok-line.ensures.reads c.in_ok-lines.ensures c.in-Goes.is
      (subst (λ l. Appends (g.K.Sink.given c.loop-n.sink) (g.K.Sink.given c.give_report.new.sink) (pair_report_text l)) c.deref.ensures.value c.in_ok-give_report.ensures.given);
  source_faults = c.in_ok-line.ensures.counts ∙ c.loop-n.invariant.source_faults;
  sink_faults = c.in_ok-give_report.ensures.counts ∙ c.loop-n.invariant.sink_faults;
}

pub returns-in_err-give_report-2-clause-part : goal.returns-in_err-give_report-2-clause-part
returns-in_err-give_report-2-clause-part g c =
    let last : c.loop-n.n ≡ 1000001 = omega (arith, c.loop-n-test.false, c.loop-n.auto.n-end) in
    OnErr-any c.from_residual-in_err-give_report-2.result _
    (too_many_part _ _ c.loop-n.run 1000001 _ _ _ (omega arith) (Going-at _ _ c.loop-n.run c.loop-n.n 1000001 _ _ last c.loop-n.invariant.goes) c.in_err-give_report-2.ensures.given)

pub returns-clause-report : goal.returns-clause-report
returns-clause-report g c =
    let last : c.loop-n.n ≡ 1000001 = omega (arith, c.loop-n-test.false, c.loop-n.auto.n-end) in
    too_many _ _ c.loop-n.run 1000001 _ _ _ (omega arith) (Going-at _ _ c.loop-n.run c.loop-n.n 1000001 _ _ last c.loop-n.invariant.goes) c.in_ok-give_report-2.ensures.given

pub returns-in-Ends-clause-headline : goal.returns-in-Ends-clause-headline
returns-in-Ends-clause-headline g c =
    gives_pair c.reports_tell_of_one_world.ensures.told (g.S.Source.left c.args.source.now) c.in-Ends.outcome _ _ (returns-in-Ends-clause-report g c)

pub returns-clause-headline : goal.returns-clause-headline
returns-clause-headline g c =
    gives_pair c.reports_tell_of_one_world.ensures.told (g.S.Source.left c.args.source.now) _ _ _ (returns-clause-report g c)
