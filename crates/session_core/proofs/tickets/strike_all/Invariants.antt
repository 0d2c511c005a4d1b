use Rattle.std.proofs.Common.{◌≡◌}
use Rattle.session_core.specs.Tickets.{strike}
use Rattle.session_core.proofs.InPlace.{changed}
use Rattle.session_core.proofs.tickets.strike_all.Given as goal

-- so many are changed
abbrev pub invariant-loop-index : goal.invariant-loop-index
invariant-loop-index l = l.out ≡ changed (strike l.rid l.error) l.index l.fn.out
