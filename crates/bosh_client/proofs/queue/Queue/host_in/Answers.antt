use Rattle.std.proofs.Common.{◌≡◌, ◌∙◌, List, ap, subst, sym, ℕ}
use Rattle.std.specs.Prelude.{IfOk, Option}
use Rattle.std.specs.Option.{option_copied}
use Rattle.bosh_client.proofs.Fronts.{front_host}
use Rattle.bosh_client.proofs.queue.Queue.host_in.Goals as goal

pub returns-in-Some : goal.returns-in-Some
returns-in-Some c =
    let first = sym c.first.ensures ∙ ap option_copied c.in-Some.is in
    subst (λ (o : Option (List ℕ)). IfOk c.host_of.result (λ host. host ≡ o)) (front_host c.args.self.now c.in-Some.item.now first) c.host_of.ensures
