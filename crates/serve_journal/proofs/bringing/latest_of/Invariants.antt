use Rattle.std.proofs.Common.{◌≡◌, List, drop, max}
use Rattle.std.specs.List.{fold}
use Rattle.session_journal.specs.declared.entry.Entry.{Entry}
use Rattle.serve_journal.specs.Bringing.{latest_in, latest_of}
use Rattle.serve_journal.proofs.bringing.latest_of.Given as goal

-- what the whole has, those that are left have
abbrev pub invariant-loop-session : goal.invariant-loop-session
invariant-loop-session l = fold (λ latest (log : List Entry). max latest (latest_in log)) l.latest (drop l.session-index l.sessions) ≡ latest_of l.sessions
