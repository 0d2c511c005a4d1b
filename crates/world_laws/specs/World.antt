-- A client, a manager, and the network between them.
use Rattle.std.specs.Prelude.{ℕ, List, [], Option, None}
use Rattle.bosh_client.specs.declared.setup.ClientSetup.{ClientSetup}
use Rattle.bosh_client.specs.Machine.{new_client}
use Rattle.bosh_client.specs.PlainClient.{PlainClient}
use Rattle.world_laws.specs.Manager.{PlainManager}

pub record PlainWorld : Type 0 where
  -- the host of the session and its greeting
  pub host : List ℕ
  pub greeting : List (List ℕ)
  pub moment : ℕ
  pub client : PlainClient
  -- none before the creation arrived
  pub manager : Option PlainManager
  -- the network: every request that was ever sent and every answer that was ever written, each with its id; any of them may
  -- come at any time, again and again or never
  pub sent : List (ℕ × List ℕ)
  pub written : List (ℕ × List ℕ)

abbrev pub new_world : List ℕ → List (List ℕ) → ClientSetup → PlainWorld
new_world host greeting setup =
    record { host = host; greeting = greeting; moment = 0; client = new_client setup; manager = None; sent = []; written = [] }
