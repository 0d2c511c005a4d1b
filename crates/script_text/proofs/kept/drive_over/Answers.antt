use Rattle.std.proofs.Common.{◌≡◌, ◌∙◌, ◌+◌, ℕ, List, Option, Some, None, refl, sym, ap, subst, arith}
use Rattle.std.specs.Prelude.{IfSome}
use Rattle.std.specs.Io.KnownBytes.{Appends, prepend_known}
use Rattle.bosh_ports.specs.Sink.{AppendsFront}
use Rattle.script_text.specs.declared.run.Run.TheVariants as runs
use Rattle.script_text.specs.Manager.{PlainManager}
use Rattle.script_text.specs.Report.{report_text}
use Rattle.script_text.specs.Script.{Bodies, Reports}
use Rattle.script_text.specs.Stands.{IsManager}
use Rattle.script_text.specs.Step.{read_of}
use Rattle.script_text.proofs.GivenLemmas.{OnErr-any}
use Rattle.script_text.proofs.KeptRun.{whole_front}
use Rattle.script_text.proofs.KeptTold.{begins_kept, begins_told, crash_line, crash_told, goes_told, if_some_each, not_err, told_at, up_given, up_line, up_many, up_told}
use Rattle.script_text.proofs.StepLemmas.{Going-at, begins_held, drive_all, ends, goes, halts, halts_there, too_many, too_many_part}
use Rattle.script_text.proofs.kept.drive_over.Goals as goal

pub loop-n-preserved : goal.loop-n-preserved
loop-n-preserved g c = record {
  report = λ m is. goes (drive_all (Bodies m)) _ _ _ c.loop-n.run c.in-Goes.after c.loop-n.n c.in_ok-line.line c.in_ok-lines.field-0 _ _ _ (omega (arith, c.loop-n-test.true)) (c.loop-n.invariant.report m is) c.in_ok-line.ensures.reads c.in_ok-lines.ensures c.in-Goes.is (subst (λ l. Appends (g.K.Sink.given c.loop-n.sink) (g.K.Sink.given c.give_lines.new.sink) (report_text l)) c.deref-in-loop-n.ensures.value c.in_ok-give_lines.ensures.given);
  file = λ told. goes_told g.D.Disk.seen g.D.Disk.time g.D.Disk.left c.args.sessions.manager c.args.store.now (g.K.Sink.given c.args.sink.now) (g.S.Source.left c.args.source.now) _ _ c.loop-n.store c.store_next.new.store c.loop-n.run c.loop-n.n (g.K.Sink.given c.loop-n.sink) c.in_ok-line.line c.in_ok-lines.field-0 c.deref.result.now (omega (arith, c.loop-n-test.true)) (c.loop-n.invariant.file told) c.in_ok-line.ensures.reads c.in_ok-lines.ensures c.deref.ensures.value (λ ended r bodies are next kept. c.store_next.ensures.any_moment told ended r c.loop-n.n (read_of c.in_ok-line.line) bodies are next kept) (g.K.Sink.given c.give_lines.new.sink) (λ ended r bodies are next kept. c.in_ok-store_next.ensures.stored told ended r c.loop-n.n (read_of c.in_ok-line.line) bodies are next kept) c.in-Goes.after c.in-Goes.is (subst (λ l. Appends (g.K.Sink.given c.loop-n.sink) (g.K.Sink.given c.give_lines.new.sink) (report_text l)) c.deref-in-loop-n.ensures.value c.in_ok-give_lines.ensures.given);
  ready = λ told. c.store_next.ensures.ready told;
  unspent = c.in_ok-store_next.ensures.unspent;
  source_faults = c.in_ok-line.ensures.counts ∙ c.loop-n.invariant.source_faults;
  sink_faults = c.in_ok-give_lines.ensures.counts ∙ c.loop-n.invariant.sink_faults;
  disk_faults = c.store_next.ensures.counts (not_err c.store_next.result _ _ c.in_ok-store_next.was) ∙ c.loop-n.invariant.disk_faults;
}

pub loop-n-init : goal.loop-n-init
loop-n-init g c = record {
  report = λ m is. begins_held (Bodies m) (runs.Bodies c.args.sessions.manager) is (g.S.Source.left c.args.source.now) c.in_ok-reader.reader _ c.in_ok-reader.ensures;
  file = λ told. begins_kept g.D.Disk.seen g.D.Disk.time g.D.Disk.left c.args.sessions.manager c.args.store.now (g.K.Sink.given c.args.sink.now) (g.S.Source.left c.args.source.now) c.in_ok-reader.reader c.in_ok-reader.ensures;
  ready = c.requires.ready;
  unspent = c.requires.unspent;
  source_faults = refl;
  sink_faults = refl;
  disk_faults = refl;
}

pub returns-in_err-line-clause-kept : goal.returns-in_err-line-clause-kept
returns-in_err-line-clause-kept g c = λ told. up_told g.D.Disk.seen g.D.Disk.time g.D.Disk.left c.args.sessions.manager c.args.store.now (g.K.Sink.given c.args.sink.now) (g.S.Source.left c.args.source.now) _ c.loop-n.store c.loop-n.run c.loop-n.n (g.K.Sink.given c.loop-n.sink) (c.loop-n.invariant.file told)

pub returns-in_err-line-clause-any_moment : goal.returns-in_err-line-clause-any_moment
returns-in_err-line-clause-any_moment g c = λ told. crash_told g.D.Disk.seen g.D.Disk.time g.D.Disk.left c.args.sessions.manager c.args.store.now (g.K.Sink.given c.args.sink.now) (g.S.Source.left c.args.source.now) _ c.loop-n.store c.loop-n.run c.loop-n.n (g.K.Sink.given c.loop-n.sink) (c.loop-n.invariant.file told)

pub returns-in_err-lines-clause-kept : goal.returns-in_err-lines-clause-kept
returns-in_err-lines-clause-kept g c = λ told. up_told g.D.Disk.seen g.D.Disk.time g.D.Disk.left c.args.sessions.manager c.args.store.now (g.K.Sink.given c.args.sink.now) (g.S.Source.left c.args.source.now) _ c.loop-n.store c.loop-n.run c.loop-n.n (g.K.Sink.given c.loop-n.sink) (c.loop-n.invariant.file told)

pub returns-in_err-lines-clause-any_moment : goal.returns-in_err-lines-clause-any_moment
returns-in_err-lines-clause-any_moment g c = λ told. crash_told g.D.Disk.seen g.D.Disk.time g.D.Disk.left c.args.sessions.manager c.args.store.now (g.K.Sink.given c.args.sink.now) (g.S.Source.left c.args.source.now) _ c.loop-n.store c.loop-n.run c.loop-n.n (g.K.Sink.given c.loop-n.sink) (c.loop-n.invariant.file told)

pub returns-in_err-reader-clause-kept : goal.returns-in_err-reader-clause-kept
returns-in_err-reader-clause-kept g c = λ told. up_told g.D.Disk.seen g.D.Disk.time g.D.Disk.left c.args.sessions.manager c.args.store.now (g.K.Sink.given c.args.sink.now) (g.S.Source.left c.args.source.now) _ c.args.store.now (runs.Bodies c.args.sessions.manager) 1 _ (begins_told g.D.Disk.seen g.D.Disk.time g.D.Disk.left c.args.sessions.manager c.args.store.now (g.K.Sink.given c.args.sink.now) (g.S.Source.left c.args.source.now))

pub returns-in_err-reader-clause-any_moment : goal.returns-in_err-reader-clause-any_moment
returns-in_err-reader-clause-any_moment g c = λ told. crash_told g.D.Disk.seen g.D.Disk.time g.D.Disk.left c.args.sessions.manager c.args.store.now (g.K.Sink.given c.args.sink.now) (g.S.Source.left c.args.source.now) _ c.args.store.now (runs.Bodies c.args.sessions.manager) 1 _ (begins_told g.D.Disk.seen g.D.Disk.time g.D.Disk.left c.args.sessions.manager c.args.store.now (g.K.Sink.given c.args.sink.now) (g.S.Source.left c.args.source.now))

pub returns-in_err-store_next-clause-kept : goal.returns-in_err-store_next-clause-kept
returns-in_err-store_next-clause-kept g c = λ told. up_line g.D.Disk.seen g.D.Disk.time g.D.Disk.left c.args.sessions.manager c.args.store.now (g.K.Sink.given c.args.sink.now) (g.S.Source.left c.args.source.now) _ _ c.loop-n.store c.store_next.new.store c.loop-n.run c.loop-n.n (g.K.Sink.given c.loop-n.sink) c.in_ok-line.line c.in_ok-lines.field-0 c.deref.result.now (omega (arith, c.loop-n-test.true)) (c.loop-n.invariant.file told) c.in_ok-line.ensures.reads c.in_ok-lines.ensures c.deref.ensures.value (λ ended r bodies are next kept. c.store_next.ensures.any_moment told ended r c.loop-n.n (read_of c.in_ok-line.line) bodies are next kept)

pub returns-in_err-store_next-clause-any_moment : goal.returns-in_err-store_next-clause-any_moment
returns-in_err-store_next-clause-any_moment g c = λ told. crash_line g.D.Disk.seen g.D.Disk.time g.D.Disk.left c.args.sessions.manager c.args.store.now (g.K.Sink.given c.args.sink.now) (g.S.Source.left c.args.source.now) _ _ c.loop-n.store c.store_next.new.store c.loop-n.run c.loop-n.n (g.K.Sink.given c.loop-n.sink) c.in_ok-line.line c.in_ok-lines.field-0 c.deref.result.now (omega (arith, c.loop-n-test.true)) (c.loop-n.invariant.file told) c.in_ok-line.ensures.reads c.in_ok-lines.ensures c.deref.ensures.value (λ ended r bodies are next kept. c.store_next.ensures.any_moment told ended r c.loop-n.n (read_of c.in_ok-line.line) bodies are next kept)

pub returns-in_err-give_lines-clause-any_moment : goal.returns-in_err-give_lines-clause-any_moment
returns-in_err-give_lines-clause-any_moment g c = λ told. crash_line g.D.Disk.seen g.D.Disk.time g.D.Disk.left c.args.sessions.manager c.args.store.now (g.K.Sink.given c.args.sink.now) (g.S.Source.left c.args.source.now) _ _ c.loop-n.store c.store_next.new.store c.loop-n.run c.loop-n.n (g.K.Sink.given c.loop-n.sink) c.in_ok-line.line c.in_ok-lines.field-0 c.deref.result.now (omega (arith, c.loop-n-test.true)) (c.loop-n.invariant.file told) c.in_ok-line.ensures.reads c.in_ok-lines.ensures c.deref.ensures.value (λ ended r bodies are next kept. c.store_next.ensures.any_moment told ended r c.loop-n.n (read_of c.in_ok-line.line) bodies are next kept)

pub returns-in-Ends-clause-any_moment : goal.returns-in-Ends-clause-any_moment
returns-in-Ends-clause-any_moment g c = λ told. crash_line g.D.Disk.seen g.D.Disk.time g.D.Disk.left c.args.sessions.manager c.args.store.now (g.K.Sink.given c.args.sink.now) (g.S.Source.left c.args.source.now) _ _ c.loop-n.store c.store_next.new.store c.loop-n.run c.loop-n.n (g.K.Sink.given c.loop-n.sink) c.in_ok-line.line c.in_ok-lines.field-0 c.deref.result.now (omega (arith, c.loop-n-test.true)) (c.loop-n.invariant.file told) c.in_ok-line.ensures.reads c.in_ok-lines.ensures c.deref.ensures.value (λ ended r bodies are next kept. c.store_next.ensures.any_moment told ended r c.loop-n.n (read_of c.in_ok-line.line) bodies are next kept)

pub returns-in_err-give_lines-clause-kept : goal.returns-in_err-give_lines-clause-kept
returns-in_err-give_lines-clause-kept g c = λ told. up_given g.D.Disk.seen g.D.Disk.time g.D.Disk.left c.args.sessions.manager c.args.store.now (g.K.Sink.given c.args.sink.now) (g.S.Source.left c.args.source.now) _ _ c.loop-n.store c.store_next.new.store c.loop-n.run c.loop-n.n (g.K.Sink.given c.loop-n.sink) c.in_ok-line.line c.in_ok-lines.field-0 c.deref.result.now (omega (arith, c.loop-n-test.true)) (c.loop-n.invariant.file told) c.in_ok-line.ensures.reads c.in_ok-lines.ensures c.deref.ensures.value (λ ended r bodies are next kept. c.store_next.ensures.any_moment told ended r c.loop-n.n (read_of c.in_ok-line.line) bodies are next kept) (g.K.Sink.given c.give_lines.new.sink) (λ ended r bodies are next kept. c.in_ok-store_next.ensures.stored told ended r c.loop-n.n (read_of c.in_ok-line.line) bodies are next kept) (subst (λ l. AppendsFront (g.K.Sink.given c.loop-n.sink) (g.K.Sink.given c.give_lines.new.sink) (report_text l)) c.deref-in-loop-n.ensures.value c.in_err-give_lines.ensures.given)

pub returns-in-Ends-clause-kept : goal.returns-in-Ends-clause-kept
returns-in-Ends-clause-kept g c = λ told. up_given g.D.Disk.seen g.D.Disk.time g.D.Disk.left c.args.sessions.manager c.args.store.now (g.K.Sink.given c.args.sink.now) (g.S.Source.left c.args.source.now) _ _ c.loop-n.store c.store_next.new.store c.loop-n.run c.loop-n.n (g.K.Sink.given c.loop-n.sink) c.in_ok-line.line c.in_ok-lines.field-0 c.deref.result.now (omega (arith, c.loop-n-test.true)) (c.loop-n.invariant.file told) c.in_ok-line.ensures.reads c.in_ok-lines.ensures c.deref.ensures.value (λ ended r bodies are next kept. c.store_next.ensures.any_moment told ended r c.loop-n.n (read_of c.in_ok-line.line) bodies are next kept) (g.K.Sink.given c.give_lines.new.sink) (λ ended r bodies are next kept. c.in_ok-store_next.ensures.stored told ended r c.loop-n.n (read_of c.in_ok-line.line) bodies are next kept) (whole_front _ _ _ (subst (λ l. Appends (g.K.Sink.given c.loop-n.sink) (g.K.Sink.given c.give_lines.new.sink) (report_text l)) c.deref-in-loop-n.ensures.value c.in_ok-give_lines.ensures.given))

pub returns-in_err-give_line-clause-kept : goal.returns-in_err-give_line-clause-kept
returns-in_err-give_line-clause-kept g c = λ told. up_many g.D.Disk.seen g.D.Disk.time g.D.Disk.left c.args.sessions.manager c.args.store.now (g.K.Sink.given c.args.sink.now) (g.S.Source.left c.args.source.now) _ c.loop-n.store c.loop-n.run 1000001 (g.K.Sink.given c.loop-n.sink) (g.K.Sink.given c.give_line.new.sink) (omega arith) (told_at g.D.Disk.seen g.D.Disk.time g.D.Disk.left c.args.sessions.manager c.args.store.now (g.K.Sink.given c.args.sink.now) (g.S.Source.left c.args.source.now) _ c.loop-n.store c.loop-n.run c.loop-n.n 1000001 _ (omega (arith, c.loop-n-test.false, c.loop-n.auto.n-end)) (c.loop-n.invariant.file told)) c.in_err-give_line.ensures.given

pub returns-clause-kept : goal.returns-clause-kept
returns-clause-kept g c = λ told. up_many g.D.Disk.seen g.D.Disk.time g.D.Disk.left c.args.sessions.manager c.args.store.now (g.K.Sink.given c.args.sink.now) (g.S.Source.left c.args.source.now) _ c.loop-n.store c.loop-n.run 1000001 (g.K.Sink.given c.loop-n.sink) (g.K.Sink.given c.give_line.new.sink) (omega arith) (told_at g.D.Disk.seen g.D.Disk.time g.D.Disk.left c.args.sessions.manager c.args.store.now (g.K.Sink.given c.args.sink.now) (g.S.Source.left c.args.source.now) _ c.loop-n.store c.loop-n.run c.loop-n.n 1000001 _ (omega (arith, c.loop-n-test.false, c.loop-n.auto.n-end)) (c.loop-n.invariant.file told)) (whole_front _ _ _ c.in_ok-give_line.ensures.given)

pub returns-in_err-give_line-clause-any_moment : goal.returns-in_err-give_line-clause-any_moment
returns-in_err-give_line-clause-any_moment g c = λ told. crash_told g.D.Disk.seen g.D.Disk.time g.D.Disk.left c.args.sessions.manager c.args.store.now (g.K.Sink.given c.args.sink.now) (g.S.Source.left c.args.source.now) _ c.loop-n.store c.loop-n.run c.loop-n.n (g.K.Sink.given c.loop-n.sink) (c.loop-n.invariant.file told)

pub returns-clause-any_moment : goal.returns-clause-any_moment
returns-clause-any_moment g c = λ told. crash_told g.D.Disk.seen g.D.Disk.time g.D.Disk.left c.args.sessions.manager c.args.store.now (g.K.Sink.given c.args.sink.now) (g.S.Source.left c.args.source.now) _ c.loop-n.store c.loop-n.run c.loop-n.n (g.K.Sink.given c.loop-n.sink) (c.loop-n.invariant.file told)

pub returns-in_err-give_lines-clause-part : goal.returns-in_err-give_lines-clause-part
returns-in_err-give_lines-clause-part g c = OnErr-any c.from_residual-in_err-give_lines.result _ (if_some_each c.args.sessions.manager (g.S.Source.left c.args.source.now) _ (λ m is. halts (drive_all (Bodies m)) _ _ _ c.loop-n.run c.loop-n.n c.in_ok-line.line c.in_ok-lines.field-0 _ _ _ (omega (arith, c.loop-n-test.true)) (c.loop-n.invariant.report m is) c.in_ok-line.ensures.reads c.in_ok-lines.ensures (subst (λ l. AppendsFront (g.K.Sink.given c.loop-n.sink) (g.K.Sink.given c.give_lines.new.sink) (report_text l)) c.deref-in-loop-n.ensures.value c.in_err-give_lines.ensures.given)))

pub returns-in_err-line-clause-part : goal.returns-in_err-line-clause-part
returns-in_err-line-clause-part g c = OnErr-any c.from_residual-in_err-line.result _ (if_some_each c.args.sessions.manager (g.S.Source.left c.args.source.now) _ (λ m is. halts_there (drive_all (Bodies m)) _ _ c.loop-n.run c.loop-n.n _ _ (c.loop-n.invariant.report m is)))

pub returns-in_err-lines-clause-part : goal.returns-in_err-lines-clause-part
returns-in_err-lines-clause-part g c = OnErr-any c.from_residual-in_err-lines.result _ (if_some_each c.args.sessions.manager (g.S.Source.left c.args.source.now) _ (λ m is. halts_there (drive_all (Bodies m)) _ _ c.loop-n.run c.loop-n.n _ _ (c.loop-n.invariant.report m is)))

pub returns-in_err-store_next-clause-part : goal.returns-in_err-store_next-clause-part
returns-in_err-store_next-clause-part g c = OnErr-any c.from_residual-in_err-store_next.result _ (if_some_each c.args.sessions.manager (g.S.Source.left c.args.source.now) _ (λ m is. halts_there (drive_all (Bodies m)) _ _ c.loop-n.run c.loop-n.n _ _ (c.loop-n.invariant.report m is)))

pub returns-in-Ends-clause-report : goal.returns-in-Ends-clause-report
returns-in-Ends-clause-report g c = if_some_each c.args.sessions.manager (g.S.Source.left c.args.source.now) _ (λ m is. ends (drive_all (Bodies m)) _ _ _ c.loop-n.run c.loop-n.n c.in_ok-line.line c.in_ok-lines.field-0 c.in-Ends.outcome _ _ _ (omega (arith, c.loop-n-test.true)) (c.loop-n.invariant.report m is) c.in_ok-line.ensures.reads c.in_ok-lines.ensures c.in-Ends.is (subst (λ l. Appends (g.K.Sink.given c.loop-n.sink) (g.K.Sink.given c.give_lines.new.sink) (report_text l)) c.deref-in-loop-n.ensures.value c.in_ok-give_lines.ensures.given))

pub returns-in_err-give_line-clause-part : goal.returns-in_err-give_line-clause-part
returns-in_err-give_line-clause-part g c = OnErr-any c.from_residual-in_err-give_line.result _ (if_some_each c.args.sessions.manager (g.S.Source.left c.args.source.now) _ (λ m is. too_many_part (drive_all (Bodies m)) _ _ c.loop-n.run 1000001 _ _ _ (omega arith) (Going-at (drive_all (Bodies m)) _ _ c.loop-n.run c.loop-n.n 1000001 _ _ (omega (arith, c.loop-n-test.false, c.loop-n.auto.n-end)) (c.loop-n.invariant.report m is)) c.in_err-give_line.ensures.given))

pub returns-clause-report : goal.returns-clause-report
returns-clause-report g c = if_some_each c.args.sessions.manager (g.S.Source.left c.args.source.now) _ (λ m is. too_many (drive_all (Bodies m)) _ _ c.loop-n.run 1000001 _ _ _ (omega arith) (Going-at (drive_all (Bodies m)) _ _ c.loop-n.run c.loop-n.n 1000001 _ _ (omega (arith, c.loop-n-test.false, c.loop-n.auto.n-end)) (c.loop-n.invariant.report m is)) c.in_ok-give_line.ensures.given)
