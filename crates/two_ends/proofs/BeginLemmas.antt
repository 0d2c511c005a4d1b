-- What is tested before a world begins.
use Rattle.std.proofs.Common.{◌≡◌, ℕ, true, List}
use Rattle.bosh_types.specs.Rid.{IsRid}
use Rattle.session_attrs.specs.Serving.{is_host_name, may_greet}
use Rattle.session_attrs.proofs.ServingLemmas.{host_text}
use Rattle.session_core.proofs.GreetingLemmas.{greeting_fits}
use Rattle.bosh_client.specs.declared.setup.ClientSetup.{ClientSetup}
use Rattle.bosh_client.specs.Setup.{is_setup}
use Rattle.world_laws.specs.Setup.{IsWorldSetup}

pub may_begin : (host : List ℕ) (greeting : List (List ℕ)) (setup : ClientSetup) → is_host_name host ≡ true → may_greet greeting ≡ true → is_setup setup ≡ true → IsRid setup.first → setup.to ≡ host
    → IsWorldSetup host greeting setup
may_begin host greeting setup named greets valid first to =
    let fits = greeting_fits greeting greets in
    record { host_is = host_text host named; stanzas = fits.0; few = fits.1; short = fits.2; client = valid; first = first; to = to }
