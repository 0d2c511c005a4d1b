use Rattle.std.proofs.Common.{◌≡◌, ◌++◌, ◌∷◌, [], List}
use Rattle.journal_store.specs.declared.reading.SessionEntry.{SessionEntry}
use Rattle.serve_journal.specs.Writing.{Puts, Writes}
use Rattle.serve_journal.proofs.writer.Writer.take.Given as goal

-- some of those that came early were put
abbrev pub invariant-loop : goal.invariant-loop
invariant-loop g l = record {
  puts : g.D.Disk.told → (stored waiting : List SessionEntry) → Writes g.D.Disk.seen g.D.Disk.time g.D.Disk.left l.fn.self stored waiting
      → Puts g.D.Disk.seen g.D.Disk.time g.D.Disk.left l.self stored waiting;
  taken : l.self.taken ≡ l.fn.self.taken ++ l.fn.noted ∷ [];
  file : l.self.store.journals.file ≡ l.fn.self.store.journals.file;
}
