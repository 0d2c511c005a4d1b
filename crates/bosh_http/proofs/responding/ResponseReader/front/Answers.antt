use Rattle.std.proofs.Common.{sym, subst}
use Rattle.bosh_http.specs.Responding.{FrontResponds, front_response}
use Rattle.bosh_http.proofs.RespondingLemmas.{front_responds}
use Rattle.bosh_http.proofs.responding.ResponseReader.front.Goals as goal

pub returns-clause-front : goal.returns-clause-front
returns-clause-front c =
    let kept' = c.front.new.self in
    subst (FrontResponds c.args.self.now kept') (sym c.front_answer.ensures)
    (subst (λ k. FrontResponds k kept' (front_response c.in_ok-front.front)) c.self.view_is (front_responds c.self.inside.reader kept' c.in_ok-front.front c.in_ok-front.ensures.front))
