use Rattle.std.proofs.Common.{◌≡◌, ◌∙◌, [], ◌∷◌, Bool, Some, ap, ap₂, codes, false, true}
use Rattle.std.proofs.lemmas.Result.{IfOk-weaker}
use Rattle.clap.specs.declared.builder.arg.Arg.{Arg}
use Rattle.clap.specs.Simple.{app_of_fields}
use Rattle.clap.specs.Words.{App, Rule, app_of, new_app, rule_of, with_rule}
use Rattle.bosh_commands.specs.Options.{port_rule, with_version}
use Rattle.bosh_commands.specs.ClientOptions.{hold_rule, rid_rule, to_rule, wait_rule}
use Rattle.bosh_commands.proofs.client_options.client_command.Goals as goal

pub returns : goal.returns
returns c =
    let global : Arg → Bool = λ a. a.global in
    let port_is : rule_of c.required-port.result ≡ port_rule =
    ap rule_of c.required-port.ensures
    ∙ ap (λ (r : Rule). record r { required = true }) (ap rule_of c.help.ensures ∙ ap rule_of c.value_name.ensures
    ∙ ap (λ (r : Rule). record r { value_names = 1 }) (ap rule_of c.long.ensures
    ∙ ap (λ (r : Rule). record r { long = Some (codes "port") }) c.new.ensures.rule)) in
    let to_is : rule_of c.required-to.result ≡ to_rule =
    ap rule_of c.required-to.ensures
    ∙ ap (λ (r : Rule). record r { required = true }) (ap rule_of c.help-2.ensures ∙ ap rule_of c.value_name-2.ensures
    ∙ ap (λ (r : Rule). record r { value_names = 1 }) (ap rule_of c.long-2.ensures
    ∙ ap (λ (r : Rule). record r { long = Some (codes "to") }) c.new-2.ensures.rule)) in
    let rid_is : rule_of c.help-rid.result ≡ rid_rule =
    ap rule_of c.help-rid.ensures ∙ ap rule_of c.value_name-3.ensures
    ∙ ap (λ (r : Rule). record r { value_names = 1 }) (ap rule_of c.long-3.ensures
    ∙ ap (λ (r : Rule). record r { long = Some (codes "rid") }) c.new-3.ensures.rule) in
    let wait_is : rule_of c.default_value-wait.result ≡ wait_rule =
    ap rule_of c.default_value-wait.ensures
    ∙ ap (λ (r : Rule). record r { defaults = codes "60" ∷ [] }) (ap rule_of c.help-3.ensures ∙ ap rule_of c.value_name-4.ensures
    ∙ ap (λ (r : Rule). record r { value_names = 1 }) (ap rule_of c.long-4.ensures
    ∙ ap (λ (r : Rule). record r { long = Some (codes "wait") }) c.new-4.ensures.rule)) in
    let hold_is : rule_of c.default_value-hold.result ≡ hold_rule =
    ap rule_of c.default_value-hold.ensures
    ∙ ap (λ (r : Rule). record r { defaults = codes "1" ∷ [] }) (ap rule_of c.help-4.ensures ∙ ap rule_of c.value_name-5.ensures
    ∙ ap (λ (r : Rule). record r { value_names = 1 }) (ap rule_of c.long-5.ensures
    ∙ ap (λ (r : Rule). record r { long = Some (codes "hold") }) c.new-5.ensures.rule)) in
    let port_local : global c.required-port.result ≡ false =
    ap global c.required-port.ensures ∙ ap global c.help.ensures ∙ ap global c.value_name.ensures ∙ ap global c.long.ensures ∙ c.new.ensures.optional.1 in
    let to_local : global c.required-to.result ≡ false =
    ap global c.required-to.ensures ∙ ap global c.help-2.ensures ∙ ap global c.value_name-2.ensures ∙ ap global c.long-2.ensures ∙ c.new-2.ensures.optional.1 in
    let rid_local : global c.help-rid.result ≡ false =
    ap global c.help-rid.ensures ∙ ap global c.value_name-3.ensures ∙ ap global c.long-3.ensures ∙ c.new-3.ensures.optional.1 in
    let wait_local : global c.default_value-wait.result ≡ false =
    ap global c.default_value-wait.ensures ∙ ap global c.help-3.ensures ∙ ap global c.value_name-4.ensures ∙ ap global c.long-4.ensures ∙ c.new-4.ensures.optional.1 in
    let hold_local : global c.default_value-hold.result ≡ false =
    ap global c.default_value-hold.ensures ∙ ap global c.help-4.ensures ∙ ap global c.value_name-5.ensures ∙ ap global c.long-5.ensures ∙ c.new-5.ensures.optional.1 in
    let none : App = with_version (new_app (codes "client")) in
    let bare : app_of c.about.result ≡ new_app (codes "client") = ap app_of_fields c.about.ensures ∙ c.new-6.ensures.app in
    let told : app_of c.version.result ≡ none = ap app_of_fields c.version.ensures ∙ ap with_version bare in
    let one : app_of c.in_ok-arg.field-0 ≡ with_rule none port_rule = c.in_ok-arg.ensures.shape port_local ∙ ap₂ with_rule told port_is in
    let two : app_of c.in_ok-arg-2.field-0 ≡ with_rule (with_rule none port_rule) to_rule = c.in_ok-arg-2.ensures.shape to_local ∙ ap₂ with_rule one to_is in
    let three : app_of c.in_ok-arg-3.field-0 ≡ with_rule (with_rule (with_rule none port_rule) to_rule) rid_rule = c.in_ok-arg-3.ensures.shape rid_local ∙ ap₂ with_rule two rid_is in
    let four : app_of c.in_ok-arg-4.field-0 ≡ with_rule (with_rule (with_rule (with_rule none port_rule) to_rule) rid_rule) wait_rule = c.in_ok-arg-4.ensures.shape wait_local ∙ ap₂ with_rule three wait_is in
    IfOk-weaker c.arg-5.result _ _ (λ command adds. adds.shape hold_local ∙ ap₂ with_rule four hold_is) c.arg-5.ensures
