-- What became of the links that a server accepted.
use Rattle.std.specs.Prelude.{◌≡◌, ◌-◌, ◌^◌, ◌<◌, ◌≤◌, ℕ, Bool, List, [], ◌∷◌, All, Option, None, length, map, filter}
use Rattle.std.specs.Io.KnownBytes.{Keeps}
use Rattle.std.specs.List.{sum_by}
use Rattle.bosh_ports.specs.Link.{Closes}
use Rattle.bosh_ports.specs.Sink.{AppendsFront}
use Rattle.bosh_types.specs.declared.hosts.HostName.{HostName}
use Rattle.parked_gate.specs.Histories.{StartsWith}
use Rattle.parked_gate.specs.Passes.{known}
use Rattle.server_ports.specs.Counts.{Counts}
use Rattle.session_attrs.specs.Serving.{can_serve}
use Rattle.session_pump.specs.declared.hosts.Host.{Host}
use Rattle.session_table.specs.declared.entry.Entry.{Entry}
use Rattle.session_table.specs.declared.opening.Limits.{Limits}
use Rattle.session_table.specs.declared.purse.Purse.{Purse}
use Rattle.session_table.specs.History.{IsLegal}
use Rattle.serve_loop.specs.declared.connection.Stage.TheVariants as stages
use Rattle.serve_loop.specs.declared.owed.Owed.TheVariants as owed
use Rattle.serve_loop.specs.declared.polled_connection.PolledConnection.{PolledConnection}
use Rattle.serve_loop.specs.declared.trail.Traced.{Traced}
use Rattle.serve_loop.specs.Connections.{message, outside}
use Rattle.serve_loop.specs.Stepping.{StandsAt}
use Rattle.serve_loop.specs.Trail.{Setting, setting}
use Rattle.bosh_server.specs.declared.fates.Away.{Away}
use Rattle.bosh_server.specs.declared.fates.Fate.{Fate}
use Rattle.bosh_server.specs.declared.fates.Fate.TheVariants as fates
use Rattle.bosh_server.specs.declared.fates.Past.{Past}

-- the first parts of pairs whose second part says nothing
abbrev pub firsts : {A U : Type 0} → List (A × U) → List A
firsts made = map (λ pair. pair.0) made

-- a site of no hosts, where no session is opened
abbrev pub no_site : Setting
no_site = record { hosts = []; limits = record { live = 0; openings = 0; journal = 0; gap_waits = 0 }; moment = None }

-- what the sessions of a server are opened by: those of its hosts at which one can be, the limits of its plan, and its clock
abbrev pub site_of : {E : Type 0} → List (Host E) → Limits → Option ℕ → Setting
site_of hosts limits moment = setting (filter can_serve (map (λ host. record { name = host.name; greeting = host.greeting }) hosts)) limits moment

-- these are the hosts and the limits of a site
abbrev pub IsSiteOf : Setting → List HostName → Limits → Type 0
IsSiteOf site hosts limits = (hosts ≡ site.hosts) × (limits ≡ site.limits)

-- nothing was read of a connection yet
abbrev pub IsFresh : PolledConnection → Type 0
IsFresh connection = (connection.reader ≡ []) × (connection.standing.stage ≡ stages.Reading)

-- what was seen of the directory for a connection, when it was let go, is a beginning of this history
abbrev pub IsOfHistory : {L : Type 0} → List Entry → Fate L → Type 0
IsOfHistory log (fates.Served p) = StartsWith log (known p.last.value.directory).seen
IsOfHistory log (fates.TurnedAway a) = Unit {0}
IsOfHistory log (fates.NoMemory a) = Unit {0}

-- what a link tells: the bytes that are left on it, those that it was given, whether it was closed, and how often it failed
module _ {L : Type 0} (left given : L → Option (List ℕ)) (closed : L → Option Bool) (faults : L → ℕ) where
  -- Where a connection stands now that began on this link, when nothing had been read of it and this was kept of the directory: the
  -- requests that came on it were asked of the sessions and answered on it, in order, each with a line in the trail that is true, up to
  -- this stage; and nothing else was given on it
  abbrev pub StandsSince : Setting → L → Purse → L → List Traced → Purse → PolledConnection → Type 0
  StandsSince site came first link trail purse connection =
      StandsAt site (outside [] (left came) (given came) [] first (faults came))
      (outside connection.reader (left link) (given link) trail purse (faults link)) connection.standing.place connection.standing.stage

  -- a link was closed, and nothing else was done to it
  pub record IsClosed (before after : L) : Type 0 where
    pub closed_too : Closes (closed before) (closed after)
    pub left_so : Keeps (left before) (left after)
    pub given_so : Keeps (given before) (given after)
    pub faults_so : faults after ≡ faults before

  -- a connection was served on it from its first byte up to where it stood at last, and then it was closed
  pub record IsServed (site : Setting) (p : Past L) : Type 0 where
    pub stood : StandsSince site p.came.value p.first.value p.went.value p.trail p.last.value p.connection.value
    pub shut : IsClosed p.went.value p.end.value

  -- it was told by 503 that there is no room, as far as it took that at once, and was closed. Nothing was read of it
  pub record IsTurnedAway (a : Away L) : Type 0 where
    pub unread : Keeps (left a.came.value) (left a.end.value)
    pub told : AppendsFront (given a.came.value) (given a.end.value) (message owed.NoMemory)
    pub shut : Closes (closed a.came.value) (closed a.end.value)
    pub faults_rise : faults a.came.value ≤ faults a.end.value

  -- What became of a link that was accepted. Where there was no memory for a connection it was closed, and nothing was read of it or given on it
  abbrev pub IsFate : Setting → Fate L → Type 0
  IsFate site (fates.Served p) = IsServed site p
  IsFate site (fates.TurnedAway a) = IsTurnedAway a
  IsFate site (fates.NoMemory a) = IsClosed a.came.value a.end.value

  -- What a server did with its links, by one list for each of its loops: each link that was accepted stands there, and each entry is true.
  -- There is one directory: what was seen of it for each connection is a beginning of one history
  pub record IsRoll (site : Setting) (old new : Counts) (roll : List (List (Fate L))) : Type 0 where
    pub all : new.accepted < 2 ^ 64 - 1 → sum_by length roll ≡ new.accepted - old.accepted
    pub true_of : All (λ fates. All (IsFate site) fates) roll
    pub history : List Entry
    pub legal : IsLegal history
    pub of_one : All (λ fates. All (IsOfHistory history) fates) roll
