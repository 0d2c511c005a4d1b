use Rattle.std.proofs.Common.{take}
use Rattle.std.specs.List.{list_any}
use Rattle.pause_rules.specs.Due.{is_wait_due}
use Rattle.session_core.proofs.DueLemmas.{IsFirst}
use Rattle.session_core.proofs.held.HeldRequests.first_wait_due.Given as goal

-- the first moment of so many requests
abbrev pub invariant-loop-index : goal.invariant-loop-index
invariant-loop-index l = IsFirst (λ now. list_any (λ held. is_wait_due l.deadlines.terms held.arrived now) (take l.index l.self-inside.requests.items)) l.first
