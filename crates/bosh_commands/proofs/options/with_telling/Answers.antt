use Rattle.std.proofs.Common.{◌≡◌, ◌∙◌, ap, ap₂, codes}
use Rattle.std.proofs.lemmas.Result.{IfOk-weaker}
use Rattle.clap.specs.Words.{App, app_of, with_rule}
use Rattle.bosh_commands.specs.Options.{optional_rule, switch_rule}
use Rattle.bosh_commands.proofs.options.with_telling.Goals as goal

pub returns : goal.returns
returns c =
    let app : App = app_of c.args.command in
    let step1 : app_of c.in_ok-arg.field-0 ≡ with_rule app (optional_rule (codes "trace")) =
    c.in_ok-arg.ensures.shape c.optional-trace.ensures.local ∙ ap (with_rule app) (c.optional-trace.ensures.rule) in
    let step2 : app_of c.in_ok-arg-2.field-0 ≡ with_rule (with_rule app (optional_rule (codes "trace"))) (switch_rule (codes "log")) =
    c.in_ok-arg-2.ensures.shape c.switch-log.ensures.local ∙ ap₂ with_rule step1 (c.switch-log.ensures.rule) in
    let step3 : app_of c.in_ok-arg-3.field-0 ≡ with_rule (with_rule (with_rule app (optional_rule (codes "trace"))) (switch_rule (codes "log"))) (optional_rule (codes "name")) =
    c.in_ok-arg-3.ensures.shape c.optional-name.ensures.local ∙ ap₂ with_rule step2 (c.optional-name.ensures.rule) in
    IfOk-weaker c.arg-4.result _ _ (λ command adds. adds.shape c.optional-journal.ensures.local ∙ ap₂ with_rule step3 (c.optional-journal.ensures.rule)) c.arg-4.ensures
