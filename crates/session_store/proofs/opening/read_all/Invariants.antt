use Rattle.std.proofs.Common.{◌≡◌, List, length}
use Rattle.journal_store.specs.Crash.{EachCrash}
use Rattle.journal_store.specs.Disk.{Untouched}
use Rattle.journal_store.specs.Entries.{contents_of}
use Rattle.journal_store.specs.Opening.{left_to_read}
use Rattle.journal_store.specs.Records.{records_of}
use Rattle.journal_store.specs.declared.reading.SessionEntry.{SessionEntry}
use Rattle.session_store.specs.Opened.{HasEntered}
use Rattle.session_store.proofs.opening.read_all.Given as goal

-- what was entered so far, and that nothing changed
abbrev pub invariant-loop-content : goal.invariant-loop-content
invariant-loop-content g l = record {
  entered : g.D.Disk.told → (entries : List SessionEntry) × HasEntered g.D.Disk.seen g.D.Disk.time g.D.Disk.left l.opening entries l.sessions.items × (l.at ≡ length (records_of (contents_of entries)));
  seen : g.D.Disk.told → g.D.Disk.seen l.opening.disk ≡ g.D.Disk.seen l.fn.opening.disk;
  crash : g.D.Disk.told → EachCrash g.D.Disk.time g.D.Disk.left l.fn.opening.disk l.opening.disk (Untouched (g.D.Disk.seen l.fn.opening.disk));
  faults : g.D.Disk.faults l.opening.disk ≡ g.D.Disk.faults l.fn.opening.disk;
}

abbrev pub decreases-loop-content : goal.decreases-loop-content
decreases-loop-content g l = left_to_read l.opening
