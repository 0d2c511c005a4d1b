use Rattle.std.proofs.Common.{◌≡◌, ◌++◌, List, map, take}
use Rattle.std.specs.List.{AllByRecursion}
use Rattle.journal_store.specs.Entries.{Keeps}
use Rattle.journal_store.specs.declared.reading.SessionEntry.{SessionEntry}
use Rattle.session_store.specs.Store.{FitsNumbers, of_session}
use Rattle.session_store.proofs.store.add_all.Given as goal

-- the first entries wait
abbrev pub invariant-loop-entry : goal.invariant-loop-entry
invariant-loop-entry g l = record {
  waits : g.D.Disk.told → (stored waiting : List SessionEntry) → Keeps g.D.Disk.seen g.D.Disk.time g.D.Disk.left l.fn.journals stored waiting
      → Keeps g.D.Disk.seen g.D.Disk.time g.D.Disk.left l.journals stored (waiting ++ map (of_session l.session) (take l.entry-index l.entries));
  numbers : AllByRecursion FitsNumbers (map (of_session l.session) (take l.entry-index l.entries));
  file : l.journals.file ≡ l.fn.journals.file;
}
