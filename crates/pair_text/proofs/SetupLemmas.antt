-- A world may begin with the host and the client of a script.
use Rattle.std.proofs.Common.{◌≡◌, ℕ, List, true}
use Rattle.std.specs.Prelude.{IsTrue}
use Rattle.bosh_types.specs.Rid.{IsRid}
use Rattle.session_attrs.specs.Serving.{can_serve, is_host_name, may_greet}
use Rattle.session_attrs.proofs.ServingLemmas.{host_text}
use Rattle.session_core.proofs.GreetingLemmas.{greeting_fits}
use Rattle.session_laws.proofs.Tests.{both_true}
use Rattle.bosh_client.specs.declared.setup.ClientSetup.{ClientSetup}
use Rattle.bosh_client.specs.Setup.{is_setup}
use Rattle.world_laws.specs.Setup.{IsWorldSetup}

pub may_begin : (host : List ℕ) (greeting : List (List ℕ)) (setup : ClientSetup) → IsTrue (can_serve (record { name = host; greeting = greeting }))
    → is_setup setup ≡ true → IsRid setup.first → setup.to ≡ host → IsWorldSetup host greeting setup
may_begin host greeting setup serves valid first to =
    let known = both_true (is_host_name host) (may_greet greeting) serves in
    let fits = greeting_fits greeting known.1 in
    record {
      host_is = host_text host known.0;
      stanzas = fits.0;
      few = fits.1;
      short = fits.2;
      client = valid;
      first = first;
      to = to;
    }
