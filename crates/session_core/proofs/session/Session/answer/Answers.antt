use Rattle.std.proofs.Common.{◌≡◌, ◌∙◌}
use Rattle.session_core.specs.Answers.{front_for}
use Rattle.session_core.specs.StandsFor.{StandsFor}
use Rattle.session_core.specs.Steps.{ending_closing, front_by}
use Rattle.session_core.proofs.AnsweredLemmas.{answered_by}
use Rattle.session_core.proofs.session.Session.answer.Goals as goal

pub returns : goal.returns
unfolding StandsFor
returns c = λ plain one later stands oldest live same.
    let front : c.in_ok-front.front ≡ front_for plain one =
    c.in_ok-front.ensures.front ∙ (λ i. front_by (same i).prompt (stands.items.outbox_is i)) in
    let done =
    answered_by one later stands oldest live same front c.close_by.ensures
    c.in_ok-text.ensures.0 c.in_ok-text.ensures.1 c.in_ok-front.ensures.after c.reported.ensures c.take_oldest-oldest.ensures.after
    c.in_ok-answer.ensures c.put-fallen.ensures.after in
    record {
      closing_is = c.ending_closing-closing.ensures ∙ (λ i. ending_closing (done.streams.running_is i) (front i));
      after = done;
    }
