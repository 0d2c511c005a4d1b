use Rattle.std.proofs.Common.{◌≡◌, drop}
use Rattle.session_core.specs.Tickets.{ticket_at}
use Rattle.session_core.proofs.tickets.taken_answer.Given as goal

-- it isn't among the first ones, and nothing has changed
abbrev pub invariant-loop-index : goal.invariant-loop-index
invariant-loop-index l = record {
  first : ticket_at l.out l.number ≡ ticket_at (drop l.index l.out) l.number;
  same : l.out ≡ l.fn.out;
}
