use Rattle.std.proofs.Common.{◌≡◌, false}
use Rattle.std.specs.Io.KnownBytes.{prepend_known}
use Rattle.journal_store.specs.RecordFile.{IsReady}
use Rattle.script_text.specs.Manager.{PlainManager}
use Rattle.script_text.specs.Script.{Bodies}
use Rattle.script_text.specs.Stands.{IsManager}
use Rattle.script_text.proofs.KeptTold.{RunsTold}
use Rattle.script_text.proofs.StepLemmas.{Going, drive_all}
use Rattle.script_text.proofs.kept.drive_over.Given as goal

-- what was given is the report of the lines so far, and the file has what they entered
abbrev pub invariant-loop-n : goal.invariant-loop-n
invariant-loop-n g l = record {
  report : (m : PlainManager) → IsManager l.fn.sessions.manager m
      → Going (drive_all (Bodies m)) (g.S.Source.left l.fn.source) (prepend_known l.reader (g.S.Source.left l.source)) l.run l.n (g.K.Sink.given l.fn.sink) (g.K.Sink.given l.sink);
  file : g.D.Disk.told
      → RunsTold g.D.Disk.seen g.D.Disk.time g.D.Disk.left l.fn.sessions.manager l.fn.store (g.K.Sink.given l.fn.sink) (g.S.Source.left l.fn.source) (prepend_known l.reader (g.S.Source.left l.source)) l.store l.run l.n (g.K.Sink.given l.sink);
  ready : g.D.Disk.told → IsReady g.D.Disk.seen g.D.Disk.time g.D.Disk.left l.store.journals.file;
  unspent : l.store.journals.file.is_spent ≡ false;
  source_faults : g.S.Source.faults l.source ≡ g.S.Source.faults l.fn.source;
  sink_faults : g.K.Sink.faults l.sink ≡ g.K.Sink.faults l.fn.sink;
  disk_faults : g.D.Disk.faults l.store.journals.file.disk ≡ g.D.Disk.faults l.fn.store.journals.file.disk;
}
