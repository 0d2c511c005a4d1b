-- What a server's clause says of links that tell what they are given: bytes for bytes, what answers the requests that came on them.
use Rattle.std.specs.Prelude.{◌≡◌, ◌⊎◌, ◌-◌, ◌^◌, ◌<◌, ◌++◌, ⊤, ℕ, true, List, [], All, Option, length}
use Rattle.std.specs.List.{sum_by}
use Rattle.server_ports.specs.Counts.{Counts}
use Rattle.serve_loop.specs.declared.connection.ConnectionEnd.{ConnectionEnd}
use Rattle.serve_loop.specs.declared.connection.ConnectionEnd.TheVariants as ends
use Rattle.serve_loop.specs.declared.connection.Stage.{Stage}
use Rattle.serve_loop.specs.declared.connection.Stage.TheVariants as stages
use Rattle.serve_loop.specs.declared.owed.Owed.{Owed}
use Rattle.serve_loop.specs.Connections.{Exchange, TellsTruth, closes, lines_of, message, messages}
use Rattle.serve_loop.specs.Trail.{Setting}
use Rattle.session_pump.specs.declared.hosts.Host.{Host}
use Rattle.session_table.specs.declared.opening.Limits.{Limits}
use Rattle.bosh_server.specs.Fates.{site_of}
use Rattle.bosh_server.specs.Runs.{RunsBy}
use Rattle.bosh_server.specs.declared.fates.Fate.{Fate}
use Rattle.bosh_server.specs.declared.fates.Fate.TheVariants as fates
use Rattle.bosh_server.specs.declared.fates.Past.{Past}
use Rattle.bosh_server.specs.declared.plan.Ran.{Ran}

-- nothing, or an answer behind which the connection ends
abbrev pub IsLast : List ℕ → Type 0
IsLast bytes = (bytes ≡ []) ⊎ ((what : Owed) × (closes what ≡ true) × (bytes ≡ message what))

module _ {L : Type 0} (given : L → List ℕ) where
  -- requests came on the link, and what it was given is their answers, in order, each as a true line says; and then what ends the connection,
  -- where something had to
  pub record IsAnswered (site : Setting) (p : Past L) : Type 0 where
    pub exchanges : List Exchange
    pub true_of : All (TellsTruth site) exchanges
    pub last : List ℕ
    pub last_so : IsLast last
    pub given_so : given p.end.value ≡ given p.came.value ++ (messages exchanges ++ last)

  -- where the connection ended of itself
  abbrev pub IsAnsweredAt : Setting → Past L → Stage → Type 0
  IsAnsweredAt site p (stages.Over ends.Ended) = IsAnswered site p
  IsAnsweredAt site p _ = ⊤

  abbrev pub IsToldOf : Setting → Fate L → Type 0
  IsToldOf site (fates.Served p) = IsAnsweredAt site p p.connection.value.standing.stage
  IsToldOf site (fates.TurnedAway a) = ⊤
  IsToldOf site (fates.NoMemory a) = ⊤

  -- a server with these hosts and limits ran so, by these counts of its network at first, and each link that it accepted was one of those
  pub record AreAnswered {E : Type 0} (hosts : List (Host E)) (limits : Limits) (planned : ℕ) (old : Counts) (ran : Ran) : Type 0 where
    pub moment : Option ℕ
    pub new : Counts
    pub runs : RunsBy planned old new ran
    pub roll : List (List (Fate L))
    pub all : new.accepted < 2 ^ 64 - 1 → sum_by length roll ≡ new.accepted - old.accepted
    pub told : All (λ fates. All (IsToldOf (site_of hosts limits moment)) fates) roll
