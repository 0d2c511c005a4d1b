use Rattle.std.proofs.Common.{◌≡◌, ◌∙◌, ◌∷◌, [], Bool, Some, ap, ap₂, codes, false, refl, true}
use Rattle.std.proofs.lemmas.Result.{IfOk-weaker}
use Rattle.clap.specs.declared.builder.action.ArgAction.TheVariants.{Append}
use Rattle.clap.specs.declared.builder.arg.Arg.{Arg}
use Rattle.clap.specs.Words.{App, Rule, app_of, rule_of, with_rule}
use Rattle.bosh_commands.specs.Options.{optional_rule, usual_rule}
use Rattle.bosh_commands.proofs.options.with_limits.Goals as goal

pub returns : goal.returns
returns c =
    let app : App = app_of c.args.command in
    let app1 : App = with_rule app (usual_rule (codes "sessions") (codes "256")) in
    let app2 : App = with_rule app1 (usual_rule (codes "openings") (codes "1048576")) in
    let app3 : App = with_rule app2 (optional_rule (codes "open")) in
    let app4 : App = with_rule app3 (usual_rule (codes "incoming") (codes "67108864")) in
    let app5 : App = with_rule app4 (usual_rule (codes "journal-limit") (codes "16777216")) in
    let step1 : app_of c.in_ok-arg.field-0 ≡ app1 = c.in_ok-arg.ensures.shape c.usual-sessions.ensures.local ∙ ap (with_rule app) (c.usual-sessions.ensures.rule) in
    let step2 : app_of c.in_ok-arg-2.field-0 ≡ app2 = c.in_ok-arg-2.ensures.shape c.usual-openings.ensures.local ∙ ap₂ with_rule step1 (c.usual-openings.ensures.rule) in
    let step3 : app_of c.in_ok-arg-3.field-0 ≡ app3 = c.in_ok-arg-3.ensures.shape c.optional-most.ensures.local ∙ ap₂ with_rule step2 (c.optional-most.ensures.rule) in
    let step4 : app_of c.in_ok-arg-4.field-0 ≡ app4 = c.in_ok-arg-4.ensures.shape c.usual-incoming.ensures.local ∙ ap₂ with_rule step3 (c.usual-incoming.ensures.rule) in
    let step5 : app_of c.in_ok-arg-5.field-0 ≡ app5 = c.in_ok-arg-5.ensures.shape c.usual-journal_limit.ensures.local ∙ ap₂ with_rule step4 (c.usual-journal_limit.ensures.rule) in
    IfOk-weaker c.arg-6.result _ _ (λ command adds. adds.shape c.usual-gap_waits.ensures.local ∙ ap₂ with_rule step5 (c.usual-gap_waits.ensures.rule)) c.arg-6.ensures
