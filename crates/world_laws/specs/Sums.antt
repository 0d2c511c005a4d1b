-- How many stanzas went where.
use Rattle.std.specs.Prelude.{ℕ, Bool, true, false, Option, Some, None}
use Rattle.std.specs.List.{count_by}
use Rattle.bosh_types.specs.declared.inward.Inward.{Inward}
use Rattle.bosh_types.specs.declared.inward.Inward.TheVariants as inwards
use Rattle.session_core.specs.declared.outward.Outward.{Outward}
use Rattle.session_core.specs.declared.outward.Outward.TheVariants as outwards
use Rattle.session_core.specs.Passed.{given_in, passed_of}
use Rattle.bosh_client.specs.Outgoing.{is_stanza}
use Rattle.bosh_client.specs.PlainClient.{queued}
use Rattle.world_laws.specs.Manager.{PlainManager}
use Rattle.world_laws.specs.World.{PlainWorld}

abbrev pub is_inward_stanza : Inward → Bool
is_inward_stanza (inwards.Item stream stanza) = true
is_inward_stanza (inwards.Restart stream) = false
is_inward_stanza (inwards.Open stream to) = false
is_inward_stanza (inwards.Close stream) = false

abbrev pub is_given_stanza : Outward → Bool
is_given_stanza (outwards.Stanza stream stanza) = true
is_given_stanza (outwards.Close stream closing) = false

-- what the server was passed, and what it gave, the greeting first; nothing before the creation came
abbrev pub inward_sum : Option PlainManager → ℕ
inward_sum None = 0
inward_sum (Some m) = count_by is_inward_stanza (passed_of m.journal)

abbrev pub given_sum : Option PlainManager → ℕ
given_sum None = 0
given_sum (Some m) = count_by is_given_stanza (given_in m.journal)

-- stanzas that the client accepted, that are queued, that were passed on, that the server gave, and that were handed out
pub record PlainSums : Type 0 where
  pub put : ℕ
  pub queued : ℕ
  pub inward : ℕ
  pub given : ℕ
  pub got : ℕ

abbrev pub sums_of : PlainWorld → PlainSums
sums_of w = record {
  put = count_by is_stanza w.client.accepted;
  queued = count_by is_stanza (queued w.client);
  inward = inward_sum w.manager;
  given = given_sum w.manager;
  got = w.client.handed_out;
}
