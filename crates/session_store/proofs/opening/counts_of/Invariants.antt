use Rattle.std.proofs.Common.{◌≡◌, ◌++◌, List, drop, length, map}
use Rattle.session_journal.specs.declared.entry.Entry.{Entry}
use Rattle.session_store.proofs.opening.counts_of.Given as goal

-- those that were counted, and those that are left, are all
abbrev pub invariant-loop-session : goal.invariant-loop-session
invariant-loop-session l = l.counts.items ++ map (λ (log : List Entry). length log) (drop l.session-index l.sessions) ≡ map (λ (log : List Entry). length log) l.sessions
