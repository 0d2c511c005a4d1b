-- What is told of the streams of a session, XEP-0124 section 16.
use Rattle.std.specs.Prelude.{◌≡◌, ◌≢◌, ℕ, ◌+◌, ◌<◌, true, false, min, List, ◌∷◌, sum_by, Some, None, slice_get, IsTrue, ◌⊎◌, if◌then◌else◌}
use Rattle.std.specs.List.{list_any}
use Rattle.bosh_types.specs.Limits.{most_streams}
use Rattle.stream_names.specs.Streams.{is_among, name_of}
use Rattle.session_core.specs.declared.copy.RequestCopy.{RequestCopy}
use Rattle.session_core.specs.declared.outward.Front.{Front}
use Rattle.session_core.specs.declared.outward.Front.TheVariants.{OfStanzas, OfClosing}
use Rattle.session_core.specs.declared.outward.Outward.{Outward}
use Rattle.session_core.specs.Copy.{is_add}
use Rattle.session_core.specs.Outward.{stream_in, takes_closing}
use Rattle.session_core.specs.Processed.{Processed}
use Rattle.session_core.specs.State.{PlainSession, Answered, opened_in, running}

-- none of these copies adds a stream
abbrev pub AddNone : List Processed → Type 0
AddNone processed = list_any (λ one. is_add one.copy) processed ≡ false

-- how many streams were opened before the copy that follows these, which follow the creation: the creation's own, and one by each add,
-- eight at most
abbrev pub opened_before : List RequestCopy → ℕ
opened_before lower = min most_streams (1 + sum_by (λ copy. if is_add copy then 1 else 0) lower)

-- one of these copies closed the stream: a terminate that names it
abbrev pub IsShutBy : List RequestCopy → ℕ → Type 0
IsShutBy lower stream =
    (k : ℕ) × (copy : RequestCopy) × (slice_get lower k ≡ Some copy) × (copy.request.terminate ≡ true) × (copy.request.stream ≡ Some (name_of stream))

-- one of these answers took its closing
abbrev pub IsClosedBy : List Answered → ℕ → Type 0
IsClosedBy answers stream = (k : ℕ) × (answer : Answered) × (slice_get answers k ≡ Some answer) × IsTrue (takes_closing stream answer.front)

-- the stream is open for the copy that follows these and is tested at this state
pub record IsOpenAt (tested : PlainSession) (lower : List RequestCopy) (stream : ℕ) : Type 0 where
  pub opened : stream < opened_before lower
  pub unshut : IsShutBy lower stream → ⊥
  pub unclosed : IsClosedBy tested.answered stream → ⊥

-- the answer names this stream: its request added it; or it takes items of it, and more than one stream was ever opened; or it takes its
-- closing, and another stream is open
abbrev pub NamesStream : PlainSession → Processed → Front → ℕ → Type 0
NamesStream s one (OfStanzas items) stream =
    (one.opened ≡ Some stream)
    ⊎ ((one.opened ≡ None) × (1 < opened_in s.processed) × (item : Outward) × (others : List Outward) × (items ≡ item ∷ others) × (stream_in item ≡ stream))
NamesStream s one (OfClosing closed closing) stream = (closed ≡ stream) × (other : ℕ) × IsTrue (is_among (running s) other) × (other ≢ closed)
