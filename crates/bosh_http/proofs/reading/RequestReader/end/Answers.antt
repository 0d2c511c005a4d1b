use Rattle.std.proofs.Common.{◌≡◌, ◌∙◌, sym, ap, subst, length, Ok, Result}
use Rattle.std.specs.Prelude.{⊤}
use Rattle.std.specs.declared.alloc.AllocError.{AllocError}
use Rattle.bosh_http.specs.Reading.{AnswersBy, answer_of}
use Rattle.bosh_http.specs.declared.reading.HttpIn.{HttpIn}
use Rattle.bosh_http.specs.declared.reading.HttpIn.TheVariants.{ReadFault}
use Rattle.bosh_http.proofs.ReadingLemmas.{answers_by, fault_of}
use Rattle.bosh_http.proofs.reading.RequestReader.end.Goals as goal

pub returns-clause-answers : goal.returns-clause-answers
returns-clause-answers c =
    let kept' = c.last.new.self in
    let answer = c.answer.ensures ∙ ap (λ count. answer_of count c.in_ok-came.came) c.len.ensures in
    subst (AnswersBy c.args.self.now kept' ⊤) (sym answer)
    (subst (λ k. AnswersBy k kept' ⊤ (answer_of (length kept') c.in_ok-came.came)) c.self.view_is (answers_by c.self.inside.reader kept' ⊤ c.in_ok-came.came c.in_ok-came.ensures.came))

pub returns-clause-fault : goal.returns-clause-fault
returns-clause-fault c = λ is.
    let failed = fault_of c.len.result c.in_ok-came.came (sym c.answer.ensures ∙ ok_same c.answer.result ReadFault is) in
    c.last.ensures.failed (c.in_ok-came.was ∙ ap (λ came. Ok came) failed)
  where
    ok_same : (a b : HttpIn) → ◌≡◌ {A = Result HttpIn AllocError} (Ok a) (Ok b) → a ≡ b
    ok_same a b is = cc is
