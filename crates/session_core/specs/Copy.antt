-- A copy: a request as it arrives at its session.
use Rattle.std.specs.Prelude.{ℕ, Bool, ◌&&◌, ◌||◌, ◌==◌, not, is_some, List, map, length}
use Rattle.body_cutter.specs.Pieces.{bytes_at}
use Rattle.session_core.specs.declared.copy.RequestCopy.{RequestCopy}

abbrev pub id_of : RequestCopy → ℕ
id_of copy = copy.request.rid

-- the copy beside its id
abbrev pub with_id : RequestCopy → ℕ × RequestCopy
with_id copy = (id_of copy, copy)

-- the children of its body, each as its exact bytes
abbrev pub stanzas_of : RequestCopy → List (List ℕ)
stanzas_of copy = map (bytes_at copy.body) copy.request.stanzas

-- a request for a pause, XEP-0124 section 10; a terminate pauses nothing
abbrev pub is_pause : RequestCopy → Bool
is_pause copy = is_some copy.request.pause && not copy.request.terminate

-- a client may have one request more open for a pause or a terminate, XEP-0124 section 11
abbrev pub is_extra : RequestCopy → Bool
is_extra copy = is_some copy.request.pause || copy.request.terminate

-- it carries nothing, XEP-0124 section 11: no stanza, and it is neither a pause, a terminate nor a restart
abbrev pub is_empty : RequestCopy → Bool
is_empty copy =
    ((length copy.request.stanzas == 0) && not (is_pause copy)) && not (copy.request.terminate || copy.request.restart)

-- it names a host and no stream
abbrev pub names_host : RequestCopy → Bool
names_host copy = is_some copy.request.to && not (is_some copy.request.stream)

-- it carries nothing and names a host: it adds a stream to the session, XEP-0124 section 16
abbrev pub is_add : RequestCopy → Bool
is_add copy = is_empty copy && names_host copy

-- it carries nothing and asks for nothing but an answer, XEP-0124 sections 11 and 12
abbrev pub is_poll : RequestCopy → Bool
is_poll copy = is_empty copy && not (names_host copy)

-- it is answered at once, and its answer takes nothing: a pause or an add
abbrev pub is_prompt : RequestCopy → Bool
is_prompt copy = is_pause copy || is_add copy

-- the stream with which a session begins
abbrev pub unnamed : ℕ
unnamed = 0
