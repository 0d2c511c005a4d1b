use Rattle.std.proofs.Common.{◌≡◌, ◌∙◌, suc, length, Some, None, refl, sym, ap, subst, arith}
use Rattle.session_core.specs.declared.replies.Arrived.{Arrived}
use Rattle.session_core.specs.declared.replies.Arrived.TheVariants as arrivals
use Rattle.session_core.specs.Machine.{bytes_for}
use Rattle.session_core.specs.StandsFor.{StandsFor}
use Rattle.session_core.specs.State.{PlainSession}
use Rattle.session_core.specs.Steps.{Does}
use Rattle.session_core.proofs.ArrivedLemmas.{last_words_is, left_out, replied_none, replied_some, retickets, taken_back_out}
use Rattle.session_core.proofs.session.Session.reply_to.Goals as goal

pub returns-in-Some : goal.returns-in-Some
unfolding StandsFor
returns-in-Some c = λ plain rid stands number.
    let told = sym c.take_back.ensures.answer ∙ c.in-Some.is in
    let answer : bytes_for plain rid ≡ Some c.in-Some.text =
    sym (last_words_is (bytes_for plain) c.args.self.now.tickets plain.tickets rid stands.tickets) ∙ told in
    subst (λ (step : PlainSession × Arrived). Does (record c.args.self.now { tickets = c.take_back.new.self }) (arrivals.Answer c.in-Some.text) step)
    (sym (replied_some plain rid c.in-Some.text answer))
    (record {
      replies = refl;
      after = retickets plain.tickets c.take_back.new.self stands
          (rw c.take_back.ensures.after (taken_back_out (bytes_for plain) c.args.self.now.tickets plain.tickets rid stands.tickets c.in-Some.text told));
    })

pub returns-in-None : goal.returns-in-None
unfolding StandsFor
returns-in-None c = λ plain rid stands number.
    let told = sym c.take_back.ensures.answer ∙ c.in-None.is in
    let none : bytes_for plain rid ≡ None =
    sym (last_words_is (bytes_for plain) c.args.self.now.tickets plain.tickets rid stands.tickets) ∙ told in
    let next : c.args.ticket ≡ suc (length plain.tickets) = omega (arith, number) in
    subst (λ (step : PlainSession × Arrived). Does (record c.args.self.now { tickets = c.take_back.new.self }) (arrivals.Parked c.args.ticket) step)
    (sym (replied_none plain rid none))
    (record {
      replies = ap arrivals.Parked next;
      after = rw (c.take_back.ensures.after, left_out (bytes_for plain) c.args.self.now.tickets plain.tickets rid stands.tickets told) stands;
    })
