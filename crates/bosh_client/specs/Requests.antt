-- What a request of a client says, XEP-0124 sections 7.1, 9, 10, 13 and 15.
use Rattle.std.specs.Prelude.{ℕ, ◌+◌, ◌-◌, ◌==◌, ◌&&◌, false, nat_lt, max, List, [], length, Option, None, Some, if◌then◌else◌}
use Rattle.std.specs.List.{list_any}
use Rattle.std.specs.Option.{option_map, unwrap_or}
use Rattle.body_writer.specs.declared.request.RequestParts.{RequestParts}
use Rattle.bosh_client.specs.declared.agreed.Agreed.{Agreed}
use Rattle.bosh_client.specs.declared.outgoing.Outgoing.{Outgoing}
use Rattle.bosh_client.specs.declared.setup.ClientSetup.{ClientSetup}
use Rattle.bosh_client.specs.declared.told.Told.{Told}
use Rattle.bosh_client.specs.Keys.{announcement, key_at, newkey_at}
use Rattle.bosh_client.specs.Outgoing.{host_in, is_restart, pause_in, stanzas_in, stream_in, terminates}
use Rattle.bosh_client.specs.PlainClient.{PlainClient, lowest, next_id, taken}

-- what the creation's answer says; what it leaves out is read as is usual, and one request may always be open
abbrev pub agreed_by : ClientSetup → Told → Agreed
agreed_by setup tells = record {
  sid = unwrap_or tells.sid [];
  requests = max 1 (unwrap_or tells.requests (setup.hold + 1));
  polling = unwrap_or tells.polling 5;
  maxpause = unwrap_or tells.maxpause 0;
  acks = setup.ack && tells.acknowledges;
}

abbrev pub agreed : PlainClient → Option Agreed
agreed c = option_map (λ answer. agreed_by c.setup answer.tells) (taken c c.setup.first)

-- what is agreed by the answer to this request
abbrev pub agreement : ClientSetup → ℕ → Told → Option Agreed
agreement setup rid tells = if rid == setup.first then Some (agreed_by setup tells) else None

-- a client without keys has none
abbrev pub with_keys : {X : Type 0} → ClientSetup → Option X → Option X
with_keys setup key = if setup.keys == 0 then None else key

-- the request that creates the session
abbrev pub creation_parts : ClientSetup → RequestParts
creation_parts setup = record {
  rid = setup.first;
  sid = None;
  stream = None;
  to = None;
  creation = Some (setup.to, setup.wait, setup.hold);
  ack = if setup.ack then Some 1 else None;
  key = None;
  newkey = with_keys setup (Some (announcement setup.seed setup.keys 0));
  pause = None;
  terminate = false;
  restart = false;
  payloads = [];
}

-- the highest id up to which all answers were taken, where that isn't the one before the request's own
abbrev pub ack_for : PlainClient → Agreed → Option ℕ
ack_for c a = if a.acks && nat_lt (lowest c) (next_id c) then Some (lowest c - 1) else None

-- how many requests after the creation were made
abbrev pub later_requests : PlainClient → ℕ
later_requests c = length c.requests - 1

-- a later request that takes these items of the queue
abbrev pub later_parts : PlainClient → Agreed → List Outgoing → RequestParts
later_parts c a items = record {
  rid = next_id c;
  sid = Some a.sid;
  stream = stream_in items;
  to = host_in items;
  creation = None;
  ack = ack_for c a;
  key = with_keys c.setup (Some (key_at c.setup.seed c.setup.keys (later_requests c)));
  newkey = with_keys c.setup (newkey_at c.setup.seed c.setup.keys (later_requests c));
  pause = pause_in items;
  terminate = list_any terminates items;
  restart = list_any is_restart items;
  payloads = stanzas_in items;
}
