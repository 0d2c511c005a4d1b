use Rattle.std.proofs.Common.{◌≡◌, zero, suc, [], ◌∷◌, All, arith, refl, subst, sym}
use Rattle.bosh_client.specs.declared.setup.ClientSetup.{ClientSetup}
use Rattle.client_run.specs.History.{first_entry}
use Rattle.client_tests.proofs.workers.ends.Goals as goal

of_nobody : (setup : ClientSetup) → All (λ e. e.caller ≡ 0) (first_entry setup ∷ [])
of_nobody setup zero d lt = refl
of_nobody setup (suc k) d lt = absurd (omega (arith, lt))

pub new-requires : goal.new-requires
new-requires g c = subst (All (λ e. e.caller ≡ 0)) (sym c.in_ok-object.ensures.1) (of_nobody c.in_ok-object.ensures.0)
