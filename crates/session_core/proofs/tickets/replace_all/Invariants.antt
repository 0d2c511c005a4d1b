use Rattle.std.proofs.Common.{◌≡◌}
use Rattle.session_core.specs.Tickets.{replace}
use Rattle.session_core.proofs.InPlace.{changed}
use Rattle.session_core.proofs.tickets.replace_all.Given as goal

-- so many are changed
abbrev pub invariant-loop-index : goal.invariant-loop-index
invariant-loop-index l = l.out ≡ changed (replace l.rid) l.index l.fn.out
