-- What an event does to the sums, by what is seen of it.
use Rattle.std.specs.Prelude.{◌≡◌, ℕ, ◌+◌, ⊤, List, Option, None, Some, length}
use Rattle.std.specs.List.{count_by}
use Rattle.session_core.specs.Journal.{IsJournal}
use Rattle.session_core.specs.State.{inward}
use Rattle.bosh_client.specs.Outgoing.{is_stanza}
use Rattle.bosh_client.specs.PlainClient.{PlainClient}
use Rattle.two_ends.specs.Summed.{given_since, is_got, is_passed_stanza, unless_refused}
use Rattle.world_laws.specs.Manager.{PlainManager, session}
use Rattle.world_laws.specs.Steps.{Step}
use Rattle.world_laws.specs.Sums.{given_sum, inward_sum}

-- the journals of a world are such as calls make
abbrev pub IsMadeEnd : Option PlainManager → Type 0
IsMadeEnd None = ⊤
IsMadeEnd (Some m) = IsJournal m.journal

-- all that may go inward was passed on to the server
abbrev pub IsPassedOn : Option PlainManager → Type 0
IsPassedOn None = ⊤
IsPassedOn (Some m) = (session m).passed ≡ length (inward (session m))

-- the sums after a step from this client and this manager, by what was seen of it
pub record Grows (c : PlainClient) (o : Option PlainManager) (greeting : List (List ℕ)) (put given : ℕ) (s : Step) : Type 0 where
  pub put_is : count_by is_stanza s.after.client.accepted ≡ count_by is_stanza c.accepted + unless_refused s.seen put
  pub inward_is : inward_sum s.after.manager ≡ inward_sum o + count_by is_passed_stanza s.seen
  pub given_is : given_sum s.after.manager ≡ given_sum o + unless_refused s.seen (given_since o s.after.manager greeting given)
  pub got_is : s.after.client.handed_out ≡ c.handed_out + count_by is_got s.seen
  pub passed_is : IsPassedOn s.after.manager
