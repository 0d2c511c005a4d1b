use Rattle.journal_store.specs.RecordFile.{IsReady}
use Rattle.serve_journal.proofs.keeping.store_all.Given as goal

-- the file may be written
abbrev pub invariant-loop : goal.invariant-loop
invariant-loop g l = record {
  next : (goal.iterator-loop g).can_next l.iterator';
  finite : (goal.iterator-loop g).is_finite l.iterator';
  ready : g.D.Disk.told → IsReady g.D.Disk.seen g.D.Disk.time g.D.Disk.left l.writer.store.journals.file;
}
