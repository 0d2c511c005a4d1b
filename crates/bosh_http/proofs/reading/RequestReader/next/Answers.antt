use Rattle.std.proofs.Common.{◌≡◌, ◌∙◌, sym, ap, subst, length, Ok}
use Rattle.bosh_http.specs.Reading.{Answers, answer_of}
use Rattle.bosh_http.specs.declared.reading.HttpIn.{HttpIn}
use Rattle.bosh_http.specs.declared.reading.HttpIn.TheVariants.{ReadFault}
use Rattle.std.specs.declared.alloc.AllocError.{AllocError}
use Rattle.std.proofs.Common.{Result}
use Rattle.bosh_http.proofs.ReadingLemmas.{answers_of, fault_of, reads_by}
use Rattle.bosh_http.proofs.reading.RequestReader.next.Goals as goal

pub returns-clause-reads : goal.returns-clause-reads
returns-clause-reads g c =
    let left = g.L.Link.left c.args.link.now in
    let left' = g.L.Link.left c.next.new.link in
    let kept = c.args.self.now in
    let kept' = c.next.new.self in
    reads_by left left' kept kept' c.answer.result
    (subst (Answers left left' kept kept') (sym (c.answer.ensures ∙ ap (λ count. answer_of count c.in_ok-came.came) c.len.ensures)) (subst (λ k. Answers left left' k kept' (answer_of (length kept') c.in_ok-came.came)) c.self.view_is (answers_of left left' c.self.inside.reader kept' c.in_ok-came.came c.in_ok-came.ensures.came)))

pub returns-clause-answers : goal.returns-clause-answers
returns-clause-answers g c =
    let left = g.L.Link.left c.args.link.now in
    let left' = g.L.Link.left c.next.new.link in
    let kept = c.args.self.now in
    let kept' = c.next.new.self in
    subst (Answers left left' kept kept') (sym (c.answer.ensures ∙ ap (λ count. answer_of count c.in_ok-came.came) c.len.ensures)) (subst (λ k. Answers left left' k kept' (answer_of (length kept') c.in_ok-came.came)) c.self.view_is (answers_of left left' c.self.inside.reader kept' c.in_ok-came.came c.in_ok-came.ensures.came))

pub returns-clause-fault : goal.returns-clause-fault
returns-clause-fault g c = λ is.
    let failed = fault_of c.len.result c.in_ok-came.came (sym c.answer.ensures ∙ ok_same c.answer.result ReadFault is) in
    c.next.ensures.fault (c.in_ok-came.was ∙ ap (λ came. Ok came) failed)
  where
    ok_same : (a b : HttpIn) → ◌≡◌ {A = Result HttpIn AllocError} (Ok a) (Ok b) → a ≡ b
    ok_same a b is = cc is
