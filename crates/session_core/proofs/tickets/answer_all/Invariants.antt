use Rattle.std.proofs.Common.{◌≡◌}
use Rattle.session_core.specs.Tickets.{give_answer}
use Rattle.session_core.proofs.InPlace.{changed}
use Rattle.session_core.proofs.tickets.answer_all.Given as goal

-- so many are changed
abbrev pub invariant-loop-index : goal.invariant-loop-index
invariant-loop-index l = l.out ≡ changed (give_answer l.rid l.answer) l.index l.fn.out
