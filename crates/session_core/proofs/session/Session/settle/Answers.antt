use Rattle.std.proofs.Common.{◌∙◌, length, sym, subst, arith}
use Rattle.session_core.specs.Answers.{answer_oldest}
use Rattle.session_core.specs.StandsFor.{StandsFor}
use Rattle.session_core.specs.State.{PlainSession, held}
use Rattle.session_core.proofs.SettleLemmas.{settle_begin, settle_end, settle_more, settle_stop}
use Rattle.session_core.proofs.session.Session.settle.Goals as goal

pub loop-request-init : goal.loop-request-init
unfolding StandsFor
loop-request-init c = λ plain stands. (plain, stands, settle_begin stands)

pub loop-request-preserved : goal.loop-request-preserved
loop-request-preserved c = λ plain stands.
    let now = c.loop-request.invariant plain stands in
    let reason = sym (c.has_reason.ensures now.0 now.1) ∙ c.if-not-has_reason.false in (
      answer_oldest now.0 (held now.0),
      c.in_ok-answer_oldest.ensures now.0 now.1 reason,
      settle_more (length c.args.self.now.held) c.loop-request._request now.0 (omega (arith, c.len-request-end.ensures, c.loop-request-test.true)) reason ∙ now.2,
    )

pub returns-then-not-has_reason : goal.returns-then-not-has_reason
returns-then-not-has_reason c = λ plain stands.
    let now = c.loop-request.invariant plain stands in
    let none = sym (c.has_reason.ensures now.0 now.1) ∙ c.if-not-has_reason.true in
    subst (λ (p : PlainSession). StandsFor c.loop-request.self p) (sym (settle_stop _ now.0 none) ∙ now.2) now.1

pub returns : goal.returns
returns c = λ plain stands.
    let now = c.loop-request.invariant plain stands in
    subst (λ (p : PlainSession). StandsFor c.loop-request.self p)
    (sym (settle_end (length c.args.self.now.held) c.loop-request._request now.0 (omega (arith, c.len-request-end.ensures, c.loop-request-test.false))) ∙ now.2) now.1
