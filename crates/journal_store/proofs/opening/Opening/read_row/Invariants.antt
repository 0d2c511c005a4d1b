use Rattle.std.proofs.Common.{◌≡◌}
use Rattle.journal_store.specs.Crash.{EachCrash}
use Rattle.journal_store.specs.Disk.{Untouched}
use Rattle.journal_store.specs.Opening.{HasRead, left_to_read}
use Rattle.journal_store.proofs.opening.Opening.read_row.Given as goal

-- what was read so far, and that nothing changed
abbrev pub invariant-loop-content : goal.invariant-loop-content
invariant-loop-content g l = record {
  read : g.D.Disk.told → HasRead g.D.Disk.seen g.D.Disk.time g.D.Disk.left l.self l.contents.items;
  seen : g.D.Disk.told → g.D.Disk.seen l.self.disk ≡ g.D.Disk.seen l.fn.self.disk;
  crash : g.D.Disk.told → EachCrash g.D.Disk.time g.D.Disk.left l.fn.self.disk l.self.disk (Untouched (g.D.Disk.seen l.fn.self.disk));
  faults : g.D.Disk.faults l.self.disk ≡ g.D.Disk.faults l.fn.self.disk;
}

abbrev pub decreases-loop-content : goal.decreases-loop-content
decreases-loop-content g l = left_to_read l.self
