use Rattle.std.proofs.Common.{◌≡◌, ◌∙◌, ◌++◌, ◌∷◌, [], ℕ, List, true, ap, subst, sym}
use Rattle.std.specs.Prelude.{codes}
use Rattle.bosh_client.specs.declared.setup.ClientSetup.{ClientSetup}
use Rattle.two_ends.specs.Worlds.{IsWorld}
use Rattle.world_laws.specs.Setup.{IsWorldSetup}
use Rattle.world_laws.specs.World.{new_world}
use Rattle.pair_text.specs.Load.{greeting, host, setup_of}
use Rattle.pair_text.proofs.LoadLemmas.{load_begins}
use Rattle.pair_text.proofs.load.new_world.Goals as goal

setup_with : ℕ → List ℕ → List ℕ → ClientSetup
setup_with first to seed = record { first = first; to = to; wait = 60; hold = 1; ack = true; seed = seed; keys = 16 }

-- what holds of the host, the greeting and the client of a load
told_by : (P : List ℕ → List (List ℕ) → ClientSetup → Type 0) (first : ℕ) (name to seed : List ℕ) (greets : List (List ℕ))
    → name ≡ host → greets ≡ greeting → to ≡ host → seed ≡ codes "seed" → P host greeting (setup_of first) → P name greets (setup_with first to seed)
unfolding setup_with
told_by P first name to seed greets name_is greets_is to_is seed_is holds =
    subst (λ h. P h greets (setup_with first to seed)) (sym name_is)
    (subst (λ g. P host g (setup_with first to seed)) (sym greets_is)
    (subst (λ t. P host greeting (setup_with first t seed)) (sym to_is)
    (subst (λ s. P host greeting (setup_with first host s)) (sym seed_is) holds)))

pub new-requires : goal.new-requires
unfolding setup_with
new-requires c =
    let greeting_is : c.from_vec.result ≡ greeting =
    c.from_vec.ensures ∙ c.in_ok-push.ensures.items ∙ ap (λ (l : _). l ++ c.in_ok-text.field-0 ∷ []) c.new-greeting.ensures.items ∙ ap (λ (t : _). t ∷ []) c.in_ok-text.ensures in
    told_by IsWorldSetup c.args.first c.in_ok-host.host c.in_ok-text-2.field-0 c.in_ok-text-3.field-0 c.from_vec.result
    c.in_ok-host.ensures greeting_is c.in_ok-text-2.ensures c.in_ok-text-3.ensures (load_begins c.args.first c.requires)

pub returns : goal.returns
unfolding setup_with
returns c =
    let greeting_is : c.from_vec.result ≡ greeting =
    c.from_vec.ensures ∙ c.in_ok-push.ensures.items ∙ ap (λ (l : _). l ++ c.in_ok-text.field-0 ∷ []) c.new-greeting.ensures.items ∙ ap (λ (t : _). t ∷ []) c.in_ok-text.ensures in
    subst (λ world. IsWorld world (new_world host greeting (setup_of c.args.first))) (sym c.in_ok-new.ensures.ok)
    (told_by (λ name greets setup. IsWorld c.in_ok-world.world (new_world name greets setup) → IsWorld c.in_ok-world.world (new_world host greeting (setup_of c.args.first)))
    c.args.first c.in_ok-host.host c.in_ok-text-2.field-0 c.in_ok-text-3.field-0 c.from_vec.result
    c.in_ok-host.ensures greeting_is c.in_ok-text-2.ensures c.in_ok-text-3.ensures (λ is. is) c.in_ok-world.ensures)
