-- Which plain clients a client stands for.
use Rattle.std.specs.Prelude.{◌≡◌, ℕ, ◌+◌, ◌<◌, ◌≤◌, ◌==◌, true, false, All, List, [], ◌∷◌, ◌++◌, length, map, drop, Option, None, Some, is_some}
use Rattle.std.specs.List.{flat_map}
use Rattle.bosh_client.specs.declared.client.Client.{Client}
use Rattle.bosh_client.specs.declared.exchanges.Slot.{Slot}
use Rattle.bosh_client.specs.declared.exchanges.Slot.TheVariants.{Answered, Open}
use Rattle.bosh_client.specs.declared.setup.ClientSetup.{ClientSetup}
use Rattle.bosh_client.specs.KeyPlace.{KeyPlace}
use Rattle.bosh_client.specs.Keys.{number_at, sequence_at}
use Rattle.bosh_client.specs.Places.{Places}
use Rattle.bosh_client.specs.PlainClient.{Made, Taken, PlainClient, bytes_of, end_of, goes_on, id_of, is_closing, items_made, last_taken, lies_on, next_id, on_stream, payloads_for, queued, streams, taken}
use Rattle.bosh_client.specs.Requests.{agreed, later_requests}
use Rattle.bosh_client.specs.Setup.{is_setup}

-- these are for the ids from this one on
abbrev pub AreFrom : ℕ → List Made → Type 0
AreFrom rid [] = Unit {0}
AreFrom rid (request ∷ requests) = (id_of request ≡ rid) × AreFrom (rid + 1) requests

-- what is remembered of a request
abbrev pub slot_by : ClientSetup → Made → Option Taken → Slot
slot_by setup request None = Open (bytes_of request)
slot_by setup request (Some answer) =
    Answered (on_stream (lies_on setup (id_of request) answer.tells) answer.tells.payloads) (is_some answer.tells.end)

abbrev pub slot_of : PlainClient → Made → Slot
slot_of c request = slot_by c.setup request (taken c (id_of request))

-- requests that are of no more use, whose answers came and were handed out up to what is left of the last one, and the others
pub record HoldsRequests (places : Places) (inbox : List (ℕ × List ℕ)) (plain : PlainClient) : Type 0 where
  pub spent : List Made
  pub rest : List Made
  pub requests_are : plain.requests ≡ spent ++ rest
  pub ids : AreFrom plain.setup.first plain.requests
  pub first_is : places.first ≡ plain.setup.first + length spent
  pub went_on : All (λ request. goes_on plain request ≡ true) spent
  pub slots_are : places.slots ≡ map (slot_of plain) rest
  pub within : plain.handed_out ≤ length (flat_map (payloads_for plain) spent)
  pub inbox_is : inbox ≡ drop plain.handed_out (flat_map (payloads_for plain) spent)
  -- answers are for requests that were made
  pub known : All (λ answer. answer.0 < next_id plain) plain.answers

-- the key of the next request after the creation
abbrev pub place_of : ClientSetup → ℕ → KeyPlace
place_of setup later =
    record { seed = setup.seed; keys = setup.keys; sequence = sequence_at setup.keys later; number = number_at setup.keys later }

abbrev pub HoldsKeys : Option KeyPlace → ClientSetup → ℕ → Type 0
HoldsKeys None setup later = (setup.keys == 0) ≡ true
HoldsKeys (Some place) setup later = ((setup.keys == 0) ≡ false) × (place ≡ place_of setup later)

pub record Holds (c : Client) (plain : PlainClient) : Type 0 where
  -- what a client keeps just as the plain one does
  pub setup_is : c.setup ≡ plain.setup
  pub queue_is : c.queue ≡ queued plain
  pub streams_are : c.streams ≡ streams plain
  pub closing_is : c.closing ≡ is_closing plain
  pub agreed_is : c.agreed ≡ agreed plain
  pub last_taken_is : c.last_taken ≡ last_taken plain
  pub end_is : c.end ≡ end_of plain
  pub in_range : is_setup plain.setup ≡ true
  -- requests took no more than was accepted
  pub accepted : length (items_made plain) ≤ length plain.accepted
  pub requests : HoldsRequests c.exchanges c.inbox plain
  pub keys : HoldsKeys c.keys plain.setup (later_requests plain)

-- a client stands for each plain client of which it keeps what its next calls need
unfoldable pub StandsFor : Client → PlainClient → Type 0
StandsFor c plain = Holds c plain

-- the reply is the plain client's, and the client stands for what that is after the call
pub record Does {X : Type 0} (c : Client) (reply : X) (done : PlainClient × X) : Type 0 where
  pub replies : reply ≡ done.1
  pub after : StandsFor c done.0
