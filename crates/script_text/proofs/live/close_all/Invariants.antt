use Rattle.std.proofs.Common.{◌≡◌}
use Rattle.session_core.proofs.InPlace.{changed}
use Rattle.script_text.specs.Manager.{closed_on}
use Rattle.script_text.proofs.live.close_all.Given as goal

-- so many are changed
abbrev pub invariant-loop-index : goal.invariant-loop-index
invariant-loop-index l = l.parked ≡ changed (closed_on l.conn) l.index l.fn.parked
