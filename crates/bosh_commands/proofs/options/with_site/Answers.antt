use Rattle.std.proofs.Common.{◌≡◌, ◌∙◌, ◌∷◌, [], Bool, Some, ap, ap₂, codes, false, refl, true}
use Rattle.std.proofs.lemmas.Result.{IfOk-weaker}
use Rattle.clap.specs.declared.builder.action.ArgAction.TheVariants.{Append}
use Rattle.clap.specs.declared.builder.arg.Arg.{Arg}
use Rattle.clap.specs.Words.{App, Rule, app_of, rule_of, with_rule}
use Rattle.bosh_commands.specs.Options.{switch_rule, usual_rule, xmpp_rule}
use Rattle.bosh_commands.proofs.options.with_site.Goals as goal

pub returns : goal.returns
returns c =
    let app : App = app_of c.args.command in
    let global : Arg → Bool = λ a. a.global in
    let xmpp_is : rule_of c.action-xmpp.result ≡ xmpp_rule =
    ap rule_of c.action-xmpp.ensures ∙ ap (λ (r : Rule). record r { action = Some Append }) c.optional.ensures.rule in
    let xmpp_local : global c.action-xmpp.result ≡ false = ap global c.action-xmpp.ensures ∙ c.optional.ensures.local in
    let step1 : app_of c.in_ok-arg.field-0 ≡ with_rule app (switch_rule (codes "until-eof")) =
    c.in_ok-arg.ensures.shape c.switch-until_eof.ensures.local ∙ ap (with_rule app) (c.switch-until_eof.ensures.rule) in
    let step2 : app_of c.in_ok-arg-2.field-0 ≡ with_rule (with_rule app (switch_rule (codes "until-eof"))) xmpp_rule =
    c.in_ok-arg-2.ensures.shape xmpp_local ∙ ap₂ with_rule step1 (xmpp_is) in
    let step3 : app_of c.in_ok-arg-3.field-0 ≡ with_rule (with_rule (with_rule app (switch_rule (codes "until-eof"))) xmpp_rule) (usual_rule (codes "xmpp-port") (codes "5222")) =
    c.in_ok-arg-3.ensures.shape c.usual-xmpp_port.ensures.local ∙ ap₂ with_rule step2 (c.usual-xmpp_port.ensures.rule) in
    IfOk-weaker c.arg-4.result _ _ (λ command adds. adds.shape c.switch-test_hosts.ensures.local ∙ ap₂ with_rule step3 (c.switch-test_hosts.ensures.rule)) c.arg-4.ensures
