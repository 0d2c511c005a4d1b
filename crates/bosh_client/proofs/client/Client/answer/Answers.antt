use Rattle.std.proofs.Common.{◌∙◌, ◌≤◌, sym, ap, refl, arith}
use Rattle.std.specs.Prelude.{not}
use Rattle.bosh_client.specs.declared.setup.ClientSetup.{ClientSetup}
use Rattle.bosh_client.specs.Machine.{take_answer}
use Rattle.bosh_client.specs.PlainClient.{taken}
use Rattle.bosh_client.specs.Requests.{agreement}
use Rattle.bosh_client.specs.StandsFor.{StandsFor}
use Rattle.bosh_client.proofs.SetupLemmas.{hold_few, none_is, not_some}
use Rattle.bosh_client.proofs.StepLemmas.{choose_no, choose_yes, does_same}
use Rattle.bosh_client.proofs.client.Client.answer.Goals as goal

pub returns-then-misnames-clause-step : goal.returns-then-misnames-clause-step
unfolding StandsFor
returns-then-misnames-clause-step c = λ plain stands.
    let made = sym (c.is_made.ensures plain stands) ∙ c.if-not-is_made.false in
    let open_ = not_some (taken plain c.args.rid) (sym (c.is_open.ensures plain stands made) ∙ c.if-not-is_open.false) in
    does_same
    (choose_no _ _ _ (ap not made) ∙ choose_no _ _ _ open_ ∙ ap (take_answer plain c.args.rid c.args.body.now c.args.now) c.in-Ok.ensures
    ∙ choose_yes _ _ _ (sym (c.misnames.ensures plain (sym stands.setup_is)) ∙ c.if-misnames.true))
    (record { replies = refl; after = stands })

pub returns-then-told-clause-step : goal.returns-then-told-clause-step
unfolding StandsFor
returns-then-told-clause-step c = λ plain stands.
    let made = sym (c.is_made.ensures plain stands) ∙ c.if-not-is_made.false in
    let open_ = sym (c.is_open.ensures plain stands made) ∙ c.if-not-is_open.false in
    does_same
    (choose_no _ _ _ (ap not made) ∙ choose_no _ _ _ (not_some (taken plain c.args.rid) open_) ∙ ap (take_answer plain c.args.rid c.args.body.now c.args.now) c.in-Ok.ensures
    ∙ choose_no _ _ _ (sym (c.misnames.ensures plain (sym stands.setup_is)) ∙ c.if-misnames.false) ∙ choose_yes _ _ _ c.if-told.true)
    (record { replies = c.again.ensures plain stands made open_; after = stands })

pub returns-then-lacks_sid-clause-step : goal.returns-then-lacks_sid-clause-step
unfolding StandsFor
returns-then-lacks_sid-clause-step c = λ plain stands.
    let made = sym (c.is_made.ensures plain stands) ∙ c.if-not-is_made.false in
    let open_ = not_some (taken plain c.args.rid) (sym (c.is_open.ensures plain stands made) ∙ c.if-not-is_open.false) in
    does_same
    (choose_no _ _ _ (ap not made) ∙ choose_no _ _ _ open_ ∙ ap (take_answer plain c.args.rid c.args.body.now c.args.now) c.in-Ok.ensures
    ∙ choose_no _ _ _ (sym (c.misnames.ensures plain (sym stands.setup_is)) ∙ c.if-misnames.false) ∙ choose_no _ _ _ c.if-told.false
    ∙ choose_yes _ _ _ (sym (c.lacks_sid.ensures plain (sym stands.setup_is)) ∙ c.if-lacks_sid.true))
    (record { replies = refl; after = stands })

pub returns-clause-step : goal.returns-clause-step
unfolding StandsFor
returns-clause-step c = λ plain stands.
    let made = sym (c.is_made.ensures plain stands) ∙ c.if-not-is_made.false in
    let open_ = not_some (taken plain c.args.rid) (sym (c.is_open.ensures plain stands made) ∙ c.if-not-is_open.false) in
    let few : c.args.self.now.setup.hold ≤ 4 = omega (arith, ap (λ (s : ClientSetup). s.hold) stands.setup_is, hold_few plain.setup stands.in_range) in
    let agrees = c.in_ok-made.ensures few ∙ ap (λ s. agreement s c.args.rid c.in-Ok.told) stands.setup_is in
    does_same
    (choose_no _ _ _ (ap not made) ∙ choose_no _ _ _ open_ ∙ ap (take_answer plain c.args.rid c.args.body.now c.args.now) c.in-Ok.ensures
    ∙ choose_no _ _ _ (sym (c.misnames.ensures plain (sym stands.setup_is)) ∙ c.if-misnames.false) ∙ choose_no _ _ _ c.if-told.false
    ∙ choose_no _ _ _ (sym (c.lacks_sid.ensures plain (sym stands.setup_is)) ∙ c.if-lacks_sid.false))
    (record { replies = refl; after = c.take.ensures plain c.args.body.now stands made (none_is (taken plain c.args.rid) open_) agrees })
