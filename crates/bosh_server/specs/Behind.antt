-- What stood behind a server: its pump as it began, what that did, and how it stands at the end.
use Rattle.std.specs.Prelude.{◌≡◌, ℕ, ⊤, List, [], All, Bool, Option, Some, None, Result, map}
use Rattle.std.specs.BTreeMap.{IsEmpty}
use Rattle.std.specs.declared.alloc.AllocError.{AllocError}
use Rattle.parked_gate.specs.Passes.{Grows, Known}
use Rattle.server_ports.specs.Counts as links
use Rattle.session_pump.specs.Ends.{fresh}
use Rattle.session_pump.specs.Pumping.{HostFacts, Pumping, facts_of}
use Rattle.session_pump.specs.Rows.{Row}
use Rattle.session_pump.specs.Turns.{ShutsDown, Turns}
use Rattle.session_pump.specs.declared.hosts.Host.{Host}
use Rattle.session_table.specs.declared.entry.Entry.{Entry}
use Rattle.session_table.specs.History.{IsLegal}
use Rattle.serve_loop.specs.Trail.{Setting}
use Rattle.xmpp_backend.specs.Counts.{Counts}
use Rattle.xmpp_backend.specs.Told.{Told}
use Rattle.bosh_server.specs.declared.fates.Fate.{Fate}
use Rattle.bosh_server.specs.Fates.{IsOfHistory, IsRoll}

-- what a server's hosts have behind them at first, by what their back ends tell and count: nothing was used of them, and nothing is kept
abbrev pub stands_of : {E : Type 0} → (E → Option Told) → (E → Counts) → List (Host E) → List HostFacts
stands_of told counts hosts = map (facts_of told counts) (map fresh hosts)

-- a pump as it begins: with these hosts, no session that is held and no line, and it made no entry in the directory's history
pub record BeginsWith (hosts : List HostFacts) (a : Pumping) : Type 0 where
  pub hosts_so : a.hosts ≡ hosts
  pub no_session : IsEmpty a.sessions
  pub no_line : IsEmpty a.lines
  pub no_due : a.dues ≡ []
  pub no_entry : a.directory.mine ≡ []

-- the last calls of a pump: each live session was told that the server goes away, and then there was a whole turn, in which each live
-- session was served and each host was polled
pub record ShutsAndTurns (a c : Pumping) : Type 0 where
  pub told : Pumping
  pub first : Option ℕ
  pub shut : Result ⊤ AllocError
  pub shuts : ShutsDown first a told shut
  pub second : Option ℕ
  pub count : Result ℕ AllocError
  pub turns : Turns second told c count

-- they came when it had been told of this history of the directory, so that who is live by that was not left out
pub record EndsAll (log : List Entry) (a c : Pumping) : Type 0 where
  pub learnt : Known Entry
  pub grows : Grows a.directory learnt
  pub knows : learnt.seen ≡ log
  pub last_calls : ShutsAndTurns (record a { directory = learnt }) c

-- a pump began with these hosts, and after calls, one after the other and nothing else, it stands so
pub record HasRun (hosts : List HostFacts) (end : Pumping) : Type 0 where
  pub start : Pumping
  pub begins : BeginsWith hosts start
  pub row : Row start end

-- and since then it was told what others had seen of the directory
pub record HasLearnt (hosts : List HostFacts) (end : Pumping) : Type 0 where
  pub before : Pumping
  pub runs : HasRun hosts before
  pub grows : Grows before.directory end.directory
  pub same : end ≡ record before { directory = end.directory }

-- and the last of its calls came when it knew this history
pub record IsPumped (hosts : List HostFacts) (log : List Entry) (end : Pumping) : Type 0 where
  pub runs : HasRun hosts end
  pub last : Pumping
  pub before : HasRun hosts last
  pub ends : EndsAll log last end

-- The pump of a server with these hosts stands so at the end, and knew this history before its last calls; where there was none, no link
-- was accepted
abbrev pub IsPumpOf : List HostFacts → List Entry → links.Counts → links.Counts → Option Pumping → Type 0
IsPumpOf hosts log old new None = new.accepted ≡ old.accepted
IsPumpOf hosts log old new (Some end) = IsPumped hosts log end

-- what became of links and how a pump stands, of one directory: what was seen of it for each connection is a beginning of one history,
-- which the pump knew before its last calls
pub record EndsTogether {L : Type 0} (hosts : List HostFacts) (roll : List (List (Fate L))) (end : Pumping) : Type 0 where
  pub history : List Entry
  pub legal : IsLegal history
  pub of_one : All (λ fates. All (IsOfHistory history) fates) roll
  pub pumped : IsPumped hosts history end

module _ {L : Type 0} (left given : L → Option (List ℕ)) (closed : L → Option Bool) (faults : L → ℕ) where
  -- What a server did, from its start to its end: what became of the links that it accepted, and how its pump stands, by which its back
  -- ends and its sessions had to do with each other. There is one directory: what was seen of it for each connection is a beginning of
  -- one history, and no session that is live by that was left out of the pump's last calls
  pub record IsService (site : Setting) (hosts : List HostFacts) (old new : links.Counts) (roll : List (List (Fate L))) (pump : Option Pumping) : Type 0 where
    pub rolled : IsRoll left given closed faults site old new roll
    pub pumped : IsPumpOf hosts rolled.history old new pump
