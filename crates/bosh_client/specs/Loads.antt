-- What one body takes of a queue, as a client looks at it.
use Rattle.std.specs.Prelude.{◌≡◌, ◌≤◌, List, length, take}
use Rattle.std.specs.List.{list_any}
use Rattle.bosh_client.specs.declared.outgoing.Outgoing.{Outgoing}
use Rattle.bosh_client.specs.declared.queue.Load.{Load}
use Rattle.bosh_client.specs.Outgoing.{front_of, is_restart, pause_in, stream_in, terminates}

pub record Loads (items : List Outgoing) (load : Load) : Type 0 where
  pub within : load.count ≤ length items
  pub front_is : take load.count items ≡ front_of items
  pub stream_is : load.stream ≡ stream_in (front_of items)
  pub pause_is : load.pause ≡ pause_in (front_of items)
  pub terminate_is : load.terminate ≡ list_any terminates (front_of items)
  pub restart_is : load.restart ≡ list_any is_restart (front_of items)
