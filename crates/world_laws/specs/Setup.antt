-- What a world may begin with, and which events may come.
use Rattle.std.specs.Prelude.{◌≡◌, ℕ, ◌<◌, ◌≤◌, ◌^◌, true, ⊤, IsTrue, List, length, map}
use Rattle.std.specs.List.{list_all}
use Rattle.bosh_types.specs.Limits.{longest_stanza, most_waiting}
use Rattle.bosh_types.specs.Rid.{IsRid}
use Rattle.body_cutter.specs.BodyText.{IsText}
use Rattle.body_cutter.specs.Cutting.{is_stanza}
use Rattle.session_core.specs.declared.outward.Outward.TheVariants.{Stanza}
use Rattle.session_core.specs.Copy.{unnamed}
use Rattle.session_core.specs.Outward.{size_of_all}
use Rattle.bosh_client.specs.declared.setup.ClientSetup.{ClientSetup}
use Rattle.bosh_client.specs.Runs.{IsHost}
use Rattle.bosh_client.specs.Setup.{is_setup}
use Rattle.world_laws.specs.declared.event.WorldEvent.{WorldEvent}
use Rattle.world_laws.specs.declared.event.WorldEvent.TheVariants as events

-- the host can stand in an answer, its greeting fits one answer, and the client wants to reach it
pub record IsWorldSetup (host : List ℕ) (greeting : List (List ℕ)) (setup : ClientSetup) : Type 0 where
  pub host_is : IsText host × (1 ≤ length host) × (length host ≤ 1023)
  pub stanzas : IsTrue (list_all is_stanza greeting)
  pub few : length greeting ≤ most_waiting
  pub short : size_of_all (map (Stanza unnamed) greeting) ≤ longest_stanza
  pub client : is_setup setup ≡ true
  pub first : IsRid setup.first
  pub to : setup.to ≡ host

-- what is put and given is a stanza by itself, and a host a text that may stand in a body; a moment is a number of 64 bits, and the
-- seconds of a pause are one of 32
abbrev pub IsAllowed : WorldEvent → Type 0
IsAllowed (events.At moment) = moment < 2 ^ 64
IsAllowed (events.Put stanza) = IsTrue (is_stanza stanza)
IsAllowed (events.PutOn stream stanza) = IsTrue (is_stanza stanza)
IsAllowed (events.Add to) = IsHost to
IsAllowed (events.StopOn stream) = ⊤
IsAllowed events.Restart = ⊤
IsAllowed (events.Pause seconds) = seconds < 2 ^ 32
IsAllowed events.Stop = ⊤
IsAllowed events.Send = ⊤
IsAllowed (events.Carry rid) = ⊤
IsAllowed (events.Give stanza) = IsTrue (is_stanza stanza)
IsAllowed (events.GiveOn stream stanza) = IsTrue (is_stanza stanza)
IsAllowed (events.Shut closing) = ⊤
IsAllowed (events.ShutOn stream closing) = ⊤
IsAllowed (events.Return number) = ⊤
