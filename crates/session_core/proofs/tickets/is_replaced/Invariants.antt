use Rattle.std.proofs.Common.{◌≡◌, drop}
use Rattle.session_core.specs.Tickets.{ticket_at}
use Rattle.session_core.proofs.tickets.is_replaced.Given as goal

-- it isn't among the first ones
abbrev pub invariant-loop-ticket : goal.invariant-loop-ticket
invariant-loop-ticket l = ticket_at l.out l.number ≡ ticket_at (drop l.ticket-index l.out) l.number
