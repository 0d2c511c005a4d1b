use Rattle.std.proofs.Common.{◌≡◌, ◌∙◌, sym, ap, subst, Ok, Result}
use Rattle.std.specs.Prelude.{⊤}
use Rattle.std.specs.declared.alloc.AllocError.{AllocError}
use Rattle.bosh_http.specs.Responding.{RespondsBy, response_of}
use Rattle.bosh_http.specs.declared.responding.ResponseIn.{ResponseIn}
use Rattle.bosh_http.specs.declared.responding.ResponseIn.TheVariants.{ReadFault}
use Rattle.bosh_http.proofs.RespondingLemmas.{responds_by, response_fault}
use Rattle.bosh_http.proofs.responding.ResponseReader.end.Goals as goal

pub returns-clause-responds : goal.returns-clause-responds
returns-clause-responds c =
    let kept' = c.last.new.self in
    subst (RespondsBy c.args.self.now kept' ⊤) (sym c.answer.ensures)
    (subst (λ k. RespondsBy k kept' ⊤ (response_of c.in_ok-came.came)) c.self.view_is (responds_by c.self.inside.reader kept' ⊤ c.in_ok-came.came c.in_ok-came.ensures.came))

pub returns-clause-fault : goal.returns-clause-fault
returns-clause-fault c = λ is.
    let failed = response_fault c.in_ok-came.came (sym c.answer.ensures ∙ ok_same c.answer.result ReadFault is) in
    c.last.ensures.failed (c.in_ok-came.was ∙ ap (λ came. Ok came) failed)
  where
    ok_same : (a b : ResponseIn) → ◌≡◌ {A = Result ResponseIn AllocError} (Ok a) (Ok b) → a ≡ b
    ok_same a b is = cc is
