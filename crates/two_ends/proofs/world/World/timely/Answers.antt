use Rattle.std.proofs.Common.{◌∙◌, ℕ, List, subst}
use Rattle.world_laws.specs.World.{new_world}
use Rattle.two_ends.specs.Worlds.{IsWorld}
use Rattle.two_ends.proofs.TimingLemmas.{tells_timely}
use Rattle.two_ends.proofs.TurnLemmas.{IfOk-from}
use Rattle.two_ends.proofs.world.World.timely.Goals as goal

pub returns : goal.returns
returns c =
    let host : List ℕ = c.args.host.now in
    let greeting : List (List ℕ) = c.args.greeting.now in
    let setup = c.args.setup in
    let begun : IsWorld c.in_ok-world.world (new_world host greeting setup) =
    subst (λ (g : List (List ℕ)). IsWorld c.in_ok-world.world (new_world host g setup)) (c.from_vec-greeting.ensures ∙ c.in_ok-copy_items.ensures ∙ c.as_slice.ensures)
    (subst (λ (n : List ℕ). IsWorld c.in_ok-world.world (new_world n c.from_vec-greeting.result setup)) (c.from_vec-host.ensures ∙ c.in_ok-from_slice.ensures.items) c.in_ok-world.ensures) in
    IfOk-from c.all_in_time.result _ _ (λ answer it.
    tells_timely answer (new_world host greeting setup) c.args.events.now (it host greeting setup c.requires.begins begun) (c.timely_worlds_are_complete.ensures.test (new_world host greeting setup) c.args.events.now)) c.all_in_time.ensures
