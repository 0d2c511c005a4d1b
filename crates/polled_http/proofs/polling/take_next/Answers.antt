use Rattle.polled_http.proofs.PollingLemmas.{answers_at_end}
use Rattle.polled_http.proofs.polling.take_next.Goals as goal

pub returns-in_ok-end-in-Some-End-clause-answers : goal.returns-in_ok-end-in-Some-End-clause-answers
returns-in_ok-end-in-Some-End-clause-answers g c =
    let came = rw c.in-Some-End.field-0-is at c.in-Some-End.ensures.takes in
    answers_at_end _ _ _ _ _ came.0 came.1 c.in_ok-end-in-Some-End.ensures.answers
