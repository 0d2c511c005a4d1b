use Rattle.std.proofs.Common.{◌∙◌, ◌+◌, ◌<◌, ◌++◌, ◌∷◌, [], ℕ, length, sym, ap, subst, arith}
use Rattle.session_core.specs.Answers.{settled}
use Rattle.session_core.specs.Arriving.{with_ticket}
use Rattle.session_core.specs.Machine.{advanced, bytes_for, placed}
use Rattle.session_core.specs.StandsFor.{StandsFor, IsLater}
use Rattle.session_core.specs.State.{PlainSession, Waits, answered_of, first_of}
use Rattle.session_core.proofs.ArrivedLemmas.{apart, open_words, placed_holds, retickets, tickets_stay}
use Rattle.session_core.proofs.AreOut.{given_out}
use Rattle.session_core.proofs.session.Session.take_in.Goals as goal

pub returns : goal.returns
unfolding StandsFor
returns c = λ plain copy in_window same.
    let before = in_window.before in
    let later : IsLater (first_of plain) copy = record {
      after = omega (arith, in_window.later);
      within = in_window.within;
      ack = in_window.ack;
    } in
    let stands = placed_holds copy c.args.self.now.window before later in_window.places in
    let beyond : answered_of (placed plain copy) < c.args.rid = omega (arith, same, in_window.later, before.run.within) in
    let ticket = retickets (plain.tickets ++ record { rid = c.args.rid; state = Waits } ∷ []) c.give.new.self stands
    (rw c.in_ok-ticket.ensures.after
    (given_out (bytes_for (placed plain copy)) c.args.self.now.tickets plain.tickets c.args.rid (open_words c.args.rid stands in_window.goes_on beyond) stands.tickets)) in
    let advanced_on = c.in_ok-advance.ensures (with_ticket (placed plain copy) c.args.rid) ticket in
    let settled_on = c.in_ok-settle.ensures (advanced (with_ticket (placed plain copy) c.args.rid)) advanced_on in
    let now = subst (λ (p : PlainSession). StandsFor c.settle.new.self p) (apart (placed plain copy) c.args.rid) settled_on in
    c.reply_to.ensures (settled (advanced (placed plain copy))) c.args.rid now
    (c.in_ok-ticket.ensures.number ∙ ap (λ (n : ℕ). n + 1) (before.tickets.handed_out_is ∙ ap length (sym (tickets_stay (placed plain copy)))))
