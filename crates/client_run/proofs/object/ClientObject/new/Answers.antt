use Rattle.std.proofs.Common.{subst, sym, ◌∙◌, ap, [], length}
use Rattle.client_run.specs.History.{Stands, history_of}
use Rattle.client_run.proofs.HistoryLemmas.{begins}
use Rattle.client_run.proofs.object.ClientObject.new.Goals as goal

pub invariant_of-result : goal.invariant_of-result
invariant_of-result c =
    let begun = ap (λ calls. history_of c.of-first.result.value calls) c.new-2.ensures ∙ ap (λ setup. history_of setup []) c.of-first.ensures in
    (subst (Stands c.in_ok-client.client) (sym begun) (begins c.in_ok-client.client c.args.setup c.in_ok-client.ensures), sym (ap length begun))
