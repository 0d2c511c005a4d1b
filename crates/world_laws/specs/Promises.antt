-- What holds in every world: of what was sent at one end on a stream, the other end has a beginning.
use Rattle.std.specs.Prelude.{◌≡◌, ℕ, ◌==◌, ◌&&◌, Bool, true, false, List, [], ◌∷◌, ◌++◌, filter, map, Option, Some, None, if◌then◌else◌}
use Rattle.std.specs.List.{flat_map}
use Rattle.bosh_types.specs.declared.inward.Inward.{Inward}
use Rattle.bosh_types.specs.declared.inward.Inward.TheVariants as inwards
use Rattle.stream_names.specs.PlainStreams.{PlainStreams, begun}
use Rattle.stream_names.specs.Streams.{is_among}
use Rattle.session_core.specs.Outward.{stanzas_in}
use Rattle.session_core.specs.Passed.{given_of, stream_of}
use Rattle.session_core.specs.State.{inward}
use Rattle.bosh_client.specs.declared.outgoing.Outgoing.{Outgoing}
use Rattle.bosh_client.specs.declared.outgoing.Outgoing.TheVariants as outgoing
use Rattle.bosh_client.specs.declared.replies.Answered.TheVariants as answerings
use Rattle.bosh_client.specs.declared.replies.Why.{Why}
use Rattle.bosh_client.specs.Machine.{answer}
use Rattle.bosh_client.specs.Outgoing.{streams_with}
use Rattle.bosh_client.specs.PlainClient.{PlainClient, items_made, was_handed}
use Rattle.bosh_client.specs.Promises.{Begins}
use Rattle.world_laws.specs.declared.seen.SeenItem.{SeenItem}
use Rattle.world_laws.specs.declared.seen.SeenItem.TheVariants as items_seen
use Rattle.world_laws.specs.Manager.{PlainManager, session}
use Rattle.world_laws.specs.World.{PlainWorld}

-- the item is for this stream: it names it, or none
abbrev pub is_for : ℕ → Option ℕ → Bool
is_for stream None = true
is_for stream (Some other) = other == stream

-- a stanza or a restart as the server sees it on this stream; all else is for the session
abbrev pub sent_on : ℕ → Outgoing → List Inward
sent_on stream (outgoing.Stanza on stanza) = if is_for stream on then inwards.Item stream stanza ∷ [] else []
sent_on stream outgoing.Restart = inwards.Restart stream ∷ []
sent_on stream (outgoing.Pause seconds) = []
sent_on stream (outgoing.Add to) = []
sent_on stream (outgoing.Close other) = []
sent_on stream outgoing.Terminate = []

-- the stanzas and restarts among these that are for a stream while it is open: from the item that adds it to the one that closes it
abbrev pub sent_while : PlainStreams → ℕ → List Outgoing → List Inward
sent_while streams stream [] = []
sent_while streams stream (item ∷ items) =
    (if is_among streams.running stream then sent_on stream item else []) ++ sent_while (streams_with streams item) stream items

-- what the client made for a stream: a client begins with the first
abbrev pub made_on : ℕ → List Outgoing → List Inward
made_on stream items = sent_while begun stream items

abbrev pub was_made : PlainWorld → ℕ → List Inward
was_made w stream = made_on stream (items_made w.client)

-- what went inward at the manager
abbrev pub inward_at : Option PlainManager → List Inward
inward_at None = []
inward_at (Some m) = inward (session m)

abbrev pub went_inward : PlainWorld → List Inward
went_inward w = inward_at w.manager

-- the stanzas and restarts among these that lie on a stream: its opening and its closing are for the server alone
abbrev pub is_content : Inward → Bool
is_content (inwards.Item stream stanza) = true
is_content (inwards.Restart stream) = true
is_content (inwards.Open stream to) = false
is_content (inwards.Close stream) = false

abbrev pub content_on : ℕ → List Inward → List Inward
content_on stream items = filter (λ item. is_content item && (stream_of item == stream)) items

-- the stanzas among what the server gave on a stream, on the first one the greeting before them
abbrev pub given_at : Option PlainManager → ℕ → List (List ℕ)
given_at None stream = []
given_at (Some m) stream = stanzas_in (given_of m.journal stream)

abbrev pub was_given : PlainWorld → ℕ → List (List ℕ)
was_given w stream = given_at w.manager stream

-- the payloads among these that lie on a stream
abbrev pub lying_on : ℕ → List (ℕ × List ℕ) → List (List ℕ)
lying_on stream payloads = map (λ payload. payload.1) (filter (λ payload. payload.0 == stream) payloads)

-- what is picked of the things that are seen, in order
abbrev pub in_front : {X : Type 0} → Option X → List X → List X
in_front None xs = xs
in_front (Some x) xs = x ∷ xs

abbrev pub picked : {X : Type 0} → (SeenItem → Option X) → List SeenItem → List X
picked pick [] = []
picked pick (item ∷ items) = in_front (pick item) (picked pick items)

-- what is seen of events, one after the other
abbrev pub all_seen : List (List SeenItem) → List SeenItem
all_seen report = flat_map (λ items. items) report

-- what is seen to be passed on to the server
abbrev pub passed_in : SeenItem → Option Inward
passed_in (items_seen.In item) = Some item
passed_in _ = None

-- what is seen to be handed out, with its stream
abbrev pub handed_in : SeenItem → Option (ℕ × List ℕ)
handed_in (items_seen.Got stanza) = Some (0, stanza)
handed_in (items_seen.GotOn stream stanza) = Some (stream, stanza)
handed_in _ = None

abbrev pub seen_inward : List SeenItem → List Inward
seen_inward items = picked passed_in items

abbrev pub seen_handed : List SeenItem → List (ℕ × List ℕ)
seen_handed items = picked handed_in items

-- all that was seen shows just what went inward and what was handed out
pub record ShowsAll (w : PlainWorld) (items : List SeenItem) : Type 0 where
  pub inward_is : seen_inward items ≡ went_inward w
  pub handed_is : seen_handed items ≡ was_handed w.client

-- on each stream, what went inward is a beginning of what the client made for it, and what the client handed out of what the server gave
pub record KeepsBothPrefixes (w : PlainWorld) : Type 0 where
  pub inward_is : (stream : ℕ) → Begins (content_on stream (went_inward w)) (was_made w stream)
  pub handed_is : (stream : ℕ) → Begins (lying_on stream (was_handed w.client)) (was_given w stream)

-- the client takes this answer for one, whether or not it had one before
abbrev pub IsUnbroken : PlainClient → ℕ × List ℕ → Type 0
IsUnbroken c answered = (now : ℕ) (why : Why) → (answer c answered.0 answered.1 now).1 ≡ answerings.Broken why → ⊥
