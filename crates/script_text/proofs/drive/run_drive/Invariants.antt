use Rattle.std.proofs.Common.{◌≡◌}
use Rattle.std.specs.Io.KnownBytes.{prepend_known}
use Rattle.script_text.specs.Script.{drive_of}
use Rattle.script_text.proofs.StepLemmas.{Going}
use Rattle.script_text.proofs.drive.run_drive.Given as goal

abbrev pub invariant-loop-n : goal.invariant-loop-n
invariant-loop-n g l = record {
  goes : Going drive_of (g.S.Source.left l.fn.source) (prepend_known l.reader (g.S.Source.left l.source)) l.run l.n (g.K.Sink.given l.fn.sink) (g.K.Sink.given l.sink);
  source_faults : g.S.Source.faults l.source ≡ g.S.Source.faults l.fn.source;
  sink_faults : g.K.Sink.faults l.sink ≡ g.K.Sink.faults l.fn.sink;
}
