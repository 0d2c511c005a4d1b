use Rattle.std.proofs.Common.{◌≡◌, ◌∙◌, ap, codes}
use Rattle.std.proofs.lemmas.Result.{IfOk-weaker}
use Rattle.clap.specs.Simple.{app_of_fields}
use Rattle.clap.specs.Words.{app_of, new_app}
use Rattle.bosh_commands.specs.Options.{with_counts, with_limits, with_site, with_telling, with_version}
use Rattle.bosh_commands.proofs.options.serve_command.Goals as goal

pub returns : goal.returns
returns c =
    let bare : app_of c.about.result ≡ new_app (codes "serve") = ap app_of_fields c.about.ensures ∙ c.new.ensures.app in
    let told : app_of c.version-bare.result ≡ with_version (new_app (codes "serve")) = ap app_of_fields c.version-bare.ensures ∙ ap with_version bare in
    let counted : app_of c.in_ok-counted.counted ≡ with_counts (with_version (new_app (codes "serve"))) = c.in_ok-counted.ensures ∙ ap with_counts told in
    let limited : app_of c.in_ok-limited.limited ≡ with_limits (with_counts (with_version (new_app (codes "serve")))) = c.in_ok-limited.ensures ∙ ap with_limits counted in
    let placed : app_of c.in_ok-placed.placed ≡ with_site (with_limits (with_counts (with_version (new_app (codes "serve"))))) = c.in_ok-placed.ensures ∙ ap with_site limited in
    IfOk-weaker c.with_telling.result _ _ (λ command is. is ∙ ap with_telling placed) c.with_telling.ensures
