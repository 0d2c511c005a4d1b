use Rattle.std.proofs.Common.{◌≡◌, ◌∙◌, sym, ap, subst, Ok, Result}
use Rattle.bosh_http.specs.Responding.{Responds, response_of}
use Rattle.std.specs.declared.alloc.AllocError.{AllocError}
use Rattle.bosh_http.specs.declared.responding.ResponseIn.{ResponseIn}
use Rattle.bosh_http.specs.declared.responding.ResponseIn.TheVariants.{ReadFault}
use Rattle.bosh_http.proofs.RespondingLemmas.{responds_of, response_fault, reads_back}
use Rattle.bosh_http.proofs.responding.ResponseReader.next.Goals as goal

pub returns-clause-reads : goal.returns-clause-reads
returns-clause-reads g c =
    let left = g.L.Link.left c.args.link.now in
    let left' = g.L.Link.left c.next.new.link in
    let kept = c.args.self.now in
    let kept' = c.next.new.self in
    reads_back left left' kept kept' c.answer.result
    (subst (Responds left left' kept kept') (sym c.answer.ensures) (subst (λ k. Responds left left' k kept' (response_of c.in_ok-came.came)) c.self.view_is (responds_of left left' c.self.inside.reader kept' c.in_ok-came.came c.in_ok-came.ensures.came)))

pub returns-clause-answers : goal.returns-clause-answers
returns-clause-answers g c =
    let left = g.L.Link.left c.args.link.now in
    let left' = g.L.Link.left c.next.new.link in
    let kept = c.args.self.now in
    let kept' = c.next.new.self in
    subst (Responds left left' kept kept') (sym c.answer.ensures) (subst (λ k. Responds left left' k kept' (response_of c.in_ok-came.came)) c.self.view_is (responds_of left left' c.self.inside.reader kept' c.in_ok-came.came c.in_ok-came.ensures.came))

pub returns-clause-fault : goal.returns-clause-fault
returns-clause-fault g c = λ is.
    let failed = response_fault c.in_ok-came.came (sym c.answer.ensures ∙ ok_same c.answer.result ReadFault is) in
    c.next.ensures.fault (c.in_ok-came.was ∙ ap (λ came. Ok came) failed)
  where
    ok_same : (a b : ResponseIn) → ◌≡◌ {A = Result ResponseIn AllocError} (Ok a) (Ok b) → a ≡ b
    ok_same a b is = cc is
