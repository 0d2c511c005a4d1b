use Rattle.std.proofs.Common.{◌≡◌, ◌≤◌, ◌∙◌, ◌++◌, ◌∷◌, [], Bool, true, refl, sym, ap, subst}
use Rattle.std.specs.Prelude.{IfSome, if◌then◌else◌}
use Rattle.stream_names.specs.PlainStreams.{with_all_closed}
use Rattle.bosh_types.specs.declared.terms.Terms.{Terms}
use Rattle.key_sequence.specs.Current.{fits, current_after}
use Rattle.session_core.specs.Copy.{is_pause}
use Rattle.session_core.specs.Processed.{items_by, targets_among}
use Rattle.session_core.specs.Rules.{asked_of}
use Rattle.session_core.specs.StandsFor.{Alike, StandsFor}
use Rattle.session_core.proofs.RuleLemmas.{unbroken_key, unbroken_pause}
use Rattle.session_core.proofs.StandingLemmas.{terms_is}
use Rattle.session_core.proofs.TakenUp.{taken_up}
use Rattle.session_core.proofs.session.Session.take_up.Goals as goal

pub returns : goal.returns
unfolding StandsFor
returns c = λ plain stands next unbroken.
    let own : c.args.self.now.keys ≡ plain.key = ap (λ (a : Alike). a.key) stands.alike in
    let key : c.in_ok-key.key ≡ c.args.copy.now.request.key = c.in_ok-key.ensures in
    let newkey : c.in_ok-newkey.newkey ≡ c.args.copy.now.request.newkey = c.in_ok-newkey.ensures in
    let good : fits c.args.self.now.keys c.in_ok-key.key ≡ true =
    (λ i. fits (own i) (key i)) ∙ unbroken_key (asked_of plain) c.args.copy.now unbroken in
    let accepted = c.accept-verdict.ensures.good (c.accept-verdict.ensures.verdict.1 good) in
    let short : is_pause c.args.copy.now ≡ true → IfSome c.args.copy.now.request.pause (λ seconds. seconds ≤ c.args.self.now.deadlines.terms.maxpause) = λ pauses.
    subst (λ (terms : Terms). IfSome c.args.copy.now.request.pause (λ seconds. seconds ≤ terms.maxpause)) (sym (terms_is stands))
    (unbroken_pause (asked_of plain) c.args.copy.now unbroken pauses) in
    let targets : c.targets_among-targets.result ≡ targets_among c.args.self.now.streams.running c.args.copy.now.request.stream =
    c.targets_among-targets.ensures ∙ ap (targets_among c.args.self.now.streams.running) c.as_ref.ensures.value in
    taken_up c.args.self.now plain c.args.copy.now _ _ _ _ _ _ _ _ stands next (c.set_period.ensures short)
    (accepted ∙ (λ i. current_after c.args.self.now.keys (key i) (newkey i)))
    c.on_request.ensures.due c.on_request.ensures.keep c.take_ready-taken.ensures.after
    (c.in_ok-push.ensures.after
    ∙ (λ i. c.args.self.now.held ++ record { rid = c.args.copy.now.request.rid; arrived = c.args.copy.now.arrived; prompt = c.is_prompt.ensures i; opened = (c.new.ensures ∙ c.open_for-opened.ensures.opened) i } ∷ []))
    (c.in_ok-pass_inward.ensures ∙ (λ i. c.args.self.now.inward ++ items_by c.args.copy.now (targets i) (c.open_for-opened.ensures.opened i)))
    (c.close_for.ensures ∙ (λ i. if c.args.copy.now.request.terminate then with_all_closed (c.open_for-opened.ensures.after i) (targets i) else c.open_for-opened.ensures.after i))
    refl refl refl refl refl refl refl refl refl c.mark-self.ensures refl refl
