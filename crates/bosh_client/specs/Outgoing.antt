-- What a client has to send, and what one body takes of it.
use Rattle.std.specs.Prelude.{ℕ, zero, suc, ◌==◌, ◌&&◌, nat_le, min, Bool, true, false, List, [], ◌∷◌, length, take, sum_by, Option, None, Some, if◌then◌else◌}
use Rattle.std.specs.List.{list_all}
use Rattle.bosh_types.specs.Limits.{longest_stanza, most_children}
use Rattle.stream_names.specs.PlainStreams.{PlainStreams, after_open, with_closed}
use Rattle.bosh_client.specs.declared.outgoing.Outgoing.{Outgoing}
use Rattle.bosh_client.specs.declared.outgoing.Outgoing.TheVariants.{Stanza, Restart, Pause, Add, Close, Terminate}

abbrev pub is_stanza : Outgoing → Bool
is_stanza (Stanza on bytes) = true
is_stanza Restart = false
is_stanza (Pause seconds) = false
is_stanza (Add to) = false
is_stanza (Close stream) = false
is_stanza Terminate = false

abbrev pub is_restart : Outgoing → Bool
is_restart (Stanza on bytes) = false
is_restart Restart = true
is_restart (Pause seconds) = false
is_restart (Add to) = false
is_restart (Close stream) = false
is_restart Terminate = false

-- the session is to end
abbrev pub is_terminate : Outgoing → Bool
is_terminate (Stanza on bytes) = false
is_terminate Restart = false
is_terminate (Pause seconds) = false
is_terminate (Add to) = false
is_terminate (Close stream) = false
is_terminate Terminate = true

-- the session or one of its streams is to end: the request says so in the same word, XEP-0124 sections 13 and 16
abbrev pub terminates : Outgoing → Bool
terminates (Stanza on bytes) = false
terminates Restart = false
terminates (Pause seconds) = false
terminates (Add to) = false
terminates (Close stream) = true
terminates Terminate = true

-- a stanza or a restart, which the streams have; all else is for the session
abbrev pub is_of_stream : Outgoing → Bool
is_of_stream (Stanza on bytes) = true
is_of_stream Restart = true
is_of_stream (Pause seconds) = false
is_of_stream (Add to) = false
is_of_stream (Close stream) = false
is_of_stream Terminate = false

-- the bytes of a stanza; nothing else has any
abbrev pub size_of : Outgoing → ℕ
size_of (Stanza on bytes) = length bytes
size_of Restart = 0
size_of (Pause seconds) = 0
size_of (Add to) = 0
size_of (Close stream) = 0
size_of Terminate = 0

abbrev pub size_of_all : List Outgoing → ℕ
size_of_all items = sum_by size_of items

-- the stanzas among these
abbrev pub stanzas_in : List Outgoing → List (List ℕ)
stanzas_in [] = []
stanzas_in (Stanza on bytes ∷ items) = bytes ∷ stanzas_in items
stanzas_in (Restart ∷ items) = stanzas_in items
stanzas_in (Pause seconds ∷ items) = stanzas_in items
stanzas_in (Add to ∷ items) = stanzas_in items
stanzas_in (Close stream ∷ items) = stanzas_in items
stanzas_in (Terminate ∷ items) = stanzas_in items

-- the first pause among these
abbrev pub pause_in : List Outgoing → Option ℕ
pause_in [] = None
pause_in (Stanza on bytes ∷ items) = pause_in items
pause_in (Restart ∷ items) = pause_in items
pause_in (Pause seconds ∷ items) = Some seconds
pause_in (Add to ∷ items) = pause_in items
pause_in (Close stream ∷ items) = pause_in items
pause_in (Terminate ∷ items) = pause_in items

-- the host of the first stream that is added among these
abbrev pub host_in : List Outgoing → Option (List ℕ)
host_in [] = None
host_in (Stanza on bytes ∷ items) = host_in items
host_in (Restart ∷ items) = host_in items
host_in (Pause seconds ∷ items) = host_in items
host_in (Add to ∷ items) = Some to
host_in (Close stream ∷ items) = host_in items
host_in (Terminate ∷ items) = host_in items

-- the stream that it is for, where it is for one alone
abbrev pub stream_of : Outgoing → Option ℕ
stream_of (Stanza on bytes) = on
stream_of Restart = None
stream_of (Pause seconds) = None
stream_of (Add to) = None
stream_of (Close stream) = Some stream
stream_of Terminate = None

-- the stream that the first of these is for
abbrev pub stream_in : List Outgoing → Option ℕ
stream_in [] = None
stream_in (item ∷ items) = stream_of item

-- both are for the same stream, or both for all of them
abbrev pub same_stream : Option ℕ → Option ℕ → Bool
same_stream None None = true
same_stream None (Some other) = false
same_stream (Some stream) None = false
same_stream (Some stream) (Some other) = stream == other

-- these are for the same stream as the first of them
abbrev pub lie_together : List Outgoing → Bool
lie_together items = list_all (λ item. same_stream (stream_in items) (stream_of item)) items

-- one body may take these: nothing but stanzas for the same stream, of at most 1,000,000 bytes
abbrev pub fit_one_body : List Outgoing → Bool
fit_one_body items = (list_all is_stanza items && lie_together items) && nat_le (size_of_all items) longest_stanza

-- the longest front of at most so many items that fits
abbrev pub longest_front : ℕ → List Outgoing → List Outgoing
longest_front zero items = []
longest_front (suc count) items = if fit_one_body (take (suc count) items) then take (suc count) items else longest_front count items

-- what one body takes of the queue: at most 1024 stanzas, or anything else alone
abbrev pub front_of : List Outgoing → List Outgoing
front_of [] = []
front_of (Stanza on bytes ∷ items) = longest_front (min most_children (length (Stanza on bytes ∷ items))) (Stanza on bytes ∷ items)
front_of (Restart ∷ items) = Restart ∷ []
front_of (Pause seconds ∷ items) = Pause seconds ∷ []
front_of (Add to ∷ items) = Add to ∷ []
front_of (Close stream ∷ items) = Close stream ∷ []
front_of (Terminate ∷ items) = Terminate ∷ []

-- The streams of a client, XEP-0124 section 16: each that is added is the next one, up to the eighth.

abbrev pub streams_with : PlainStreams → Outgoing → PlainStreams
streams_with streams (Stanza on bytes) = streams
streams_with streams Restart = streams
streams_with streams (Pause seconds) = streams
streams_with streams (Add to) = after_open streams
streams_with streams (Close stream) = with_closed streams stream
streams_with streams Terminate = streams

-- the streams once all of these are made
abbrev pub streams_after : PlainStreams → List Outgoing → PlainStreams
streams_after streams [] = streams
streams_after streams (item ∷ items) = streams_after (streams_with streams item) items
