use Rattle.std.proofs.Common.{◌≡◌, ◌++◌, List, drop, take}
use Rattle.journal_store.specs.declared.reading.SessionEntry.{SessionEntry}
use Rattle.serve_journal.specs.Writing.{Puts, Writes}
use Rattle.serve_journal.proofs.writer.Writer.put_all.Given as goal

-- the first ones were taken
abbrev pub invariant-loop : goal.invariant-loop
invariant-loop g l = record {
  puts : g.D.Disk.told → (stored waiting : List SessionEntry) → Writes g.D.Disk.seen g.D.Disk.time g.D.Disk.left l.fn.self stored waiting
      → Puts g.D.Disk.seen g.D.Disk.time g.D.Disk.left l.self stored waiting;
  taken : l.self.taken ≡ l.fn.self.taken ++ take l.counter l.fn.entries.items;
  rest : l.entries.items ≡ drop l.counter l.fn.entries.items;
  file : l.self.store.journals.file ≡ l.fn.self.store.journals.file;
}
