use Rattle.std.proofs.Common.{◌≡◌, ◌∙◌, ◌∷◌, [], Bool, Some, ap, ap₂, codes, false, refl, true}
use Rattle.std.proofs.lemmas.Result.{IfOk-weaker}
use Rattle.clap.specs.declared.builder.action.ArgAction.TheVariants.{Append}
use Rattle.clap.specs.declared.builder.arg.Arg.{Arg}
use Rattle.clap.specs.Words.{App, Rule, app_of, rule_of, with_rule}
use Rattle.bosh_commands.specs.Options.{optional_rule, port_rule, usual_rule}
use Rattle.bosh_commands.proofs.options.with_counts.Goals as goal

pub returns : goal.returns
returns c =
    let app : App = app_of c.args.command in
    let global : Arg → Bool = λ a. a.global in
    let port_is : rule_of c.required-port.result ≡ port_rule =
    ap rule_of c.required-port.ensures ∙ ap (λ (r : Rule). record r { required = true }) c.optional.ensures.rule in
    let port_local : global c.required-port.result ≡ false = ap global c.required-port.ensures ∙ c.optional.ensures.local in
    let step1 : app_of c.in_ok-arg.field-0 ≡ with_rule app port_rule =
    c.in_ok-arg.ensures.shape port_local ∙ ap (with_rule app) (port_is) in
    let step2 : app_of c.in_ok-arg-2.field-0 ≡ with_rule (with_rule app port_rule) (usual_rule (codes "workers") (codes "8")) =
    c.in_ok-arg-2.ensures.shape c.usual-workers.ensures.local ∙ ap₂ with_rule step1 (c.usual-workers.ensures.rule) in
    IfOk-weaker c.arg-3.result _ _ (λ command adds. adds.shape c.usual-connections.ensures.local ∙ ap₂ with_rule step2 (c.usual-connections.ensures.rule)) c.arg-3.ensures
