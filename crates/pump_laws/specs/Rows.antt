-- A pump as it begins.
use Rattle.std.specs.Prelude.{◌≡◌, [], ◌∷◌, None, IfSome, IsSome}
use Rattle.std.specs.BTreeMap.{IsEmpty}
use Rattle.xmpp_backend.specs.Told.{Told}
use Rattle.session_pump.specs.Ends.{End}
use Rattle.session_pump.specs.Hosts.{HostFacts}
use Rattle.session_pump.specs.Pumping.{Pumping}
use Rattle.pump_laws.specs.InTurn.{Every}

-- a back end that was called by nobody yet
abbrev pub IsUnused : End → Type 0
IsUnused end = IfSome end.told (λ (told : Told). (told.opened ≡ []) × (told.passed ≡ []) × (told.given ≡ []))

-- a host as it begins
pub record IsNewHost (host : HostFacts) : Type 0 where
  pub kept : host.kept ≡ None
  pub used : host.ends.used ≡ 0
  pub failures : host.ends.failures ≡ 0
  pub unused : Every IsUnused (host.ends.standing ∷ host.ends.spares)

-- a pump as it begins: no session is held or has a line
pub record IsNew (a : Pumping) : Type 0 where
  pub sessions : IsEmpty a.sessions
  pub lines : IsEmpty a.lines
  pub hosts : Every IsNewHost a.hosts

-- each back end of each host tells what it was passed and what it gave
abbrev pub AllTell : Pumping → Type 0
AllTell a = Every (λ (host : HostFacts). Every (λ (end : End). IsSome end.told) (host.ends.standing ∷ host.ends.spares)) a.hosts
