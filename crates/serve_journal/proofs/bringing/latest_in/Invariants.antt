use Rattle.std.proofs.Common.{◌≡◌, drop, max}
use Rattle.std.specs.List.{fold}
use Rattle.journal_store.specs.Contents.{moment_of}
use Rattle.session_journal.specs.declared.entry.Entry.{Entry}
use Rattle.serve_journal.specs.Bringing.{latest_in}
use Rattle.serve_journal.proofs.bringing.latest_in.Given as goal

-- what the whole has, those that are left have
abbrev pub invariant-loop-entry : goal.invariant-loop-entry
invariant-loop-entry l = fold (λ latest (e : Entry). max latest (moment_of e.call)) l.latest (drop l.entry-index l.entries) ≡ latest_in l.entries
