use Rattle.std.proofs.Common.{◌≡◌, ◌<◌, ◌∙◌, ap, get_or, length, arith}
use Rattle.session_core.specs.declared.tickets.OpenTicket.{OpenTicket}
use Rattle.session_core.specs.Tickets.{without}
use Rattle.session_core.proofs.OutTickets.{same_read, without_set}
use Rattle.session_core.proofs.tickets.taken_answer.Goals as goal

pub returns-then-out-index-clause-others : goal.returns-then-out-index-clause-others
returns-then-out-index-clause-others c =
    let read = c.index-out-index-then-out-index.result in
    let within : c.loop-index.index < length c.loop-index.out = omega arith in
    let same = same_read c.loop-index.out c.loop-index.index read c.index-out-index.result within in
    let number : (get_or c.loop-index.out c.loop-index.index read).number ≡ c.args.number =
    ap (λ (ticket : OpenTicket). ticket.number) same ∙ c.if-out-index.true in
    without_set c.args.number c.loop-index.index c.loop-index.out read _ within number number
    ∙ ap (without c.args.number) c.loop-index.invariant.same
