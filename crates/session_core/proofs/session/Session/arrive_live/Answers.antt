use Rattle.std.proofs.Common.{◌≡◌, ◌∙◌, ℕ, false, sym, ap, subst}
use Rattle.std.specs.Prelude.{IfOk}
use Rattle.session_core.specs.declared.replies.Arrived.{Arrived}
use Rattle.session_core.specs.Machine.{arrived_in_time, body_cost, is_full, with_cost}
use Rattle.session_core.specs.State.{PlainSession}
use Rattle.session_core.specs.Steps.{Does}
use Rattle.session_core.specs.Time.{time_applied}
use Rattle.session_core.proofs.ArrivedLemmas.{arrive_room}
use Rattle.session_core.proofs.session.Session.arrive_live.Goals as goal

pub returns : goal.returns
returns c = λ plain stands live.
    let cost : c.cost_of_body-cost.result ≡ body_cost c.args.request.now c.args.body.now = c.cost_of_body-cost.ensures in
    let room : is_full plain c.cost_of_body-cost.result ≡ false = sym (c.is_full.ensures plain stands) ∙ c.if-is_full.false in
    let entered = c.in_ok-enter.ensures plain stands room in
    subst (λ (step : PlainSession × Arrived). IfOk c.arrive_in_time.result (λ reply. Does c.arrive_in_time.new.self reply step))
    (ap (λ (n : ℕ). arrived_in_time (with_cost n (time_applied plain c.args.now)) c.args.request.now c.args.body.now) cost
    ∙ sym (arrive_room plain c.args.request.now c.args.body.now c.args.now live (ap (is_full plain) (sym cost) ∙ room)))
    (c.arrive_in_time.ensures (with_cost c.cost_of_body-cost.result (time_applied plain c.args.now)) entered)
