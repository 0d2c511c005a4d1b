use Rattle.std.proofs.Common.{◌≡◌, ◌++◌, List, drop}
use Rattle.journal_store.specs.declared.reading.SessionEntry.{SessionEntry}
use Rattle.script_text.specs.Kept.{KeepsSome}
use Rattle.script_text.specs.Live.{PlainLive}
use Rattle.script_text.specs.Stands.{AreLive}
use Rattle.script_text.proofs.KeptLemmas.{KeepsOn}
use Rattle.script_text.proofs.kept.keep_all.Given as goal

-- the first sessions have what they entered, and those that are left are behind
abbrev pub invariant-loop-live : goal.invariant-loop-live
invariant-loop-live g l = record {
  keeps : g.D.Disk.told → (stored : List SessionEntry) (kept ss rest : List PlainLive) → AreLive l.sessions ss
      → KeepsSome g.D.Disk.seen g.D.Disk.time g.D.Disk.left l.fn.store stored kept (ss ++ rest)
      → KeepsOn g.D.Disk.seen g.D.Disk.time g.D.Disk.left stored l.store kept ss rest (drop l.live-index l.sessions);
  file : l.store.journals.file ≡ l.fn.store.journals.file;
}
