-- What the lines of a script of two ends say that add a stream or name one, XEP-0124 section 16.
use Rattle.std.specs.Prelude.{ℕ, nat_lt, List, Option, None, Some, codes, if◌then◌else◌}
use Rattle.std.specs.Option.{option_and_then}
use Rattle.std.specs.Str.{bytes_eq}
use Rattle.bosh_types.specs.Limits.{most_streams}
use Rattle.bosh_types.specs.declared.ending.Closing.{Closing}
use Rattle.body_cutter.specs.Cutting.{is_stanza}
use Rattle.session_attrs.specs.Serving.{is_host_name}
use Rattle.script_text.specs.Line.{closing_of, rest_of, word_of}
use Rattle.world_laws.specs.declared.event.WorldEvent.{WorldEvent}
use Rattle.world_laws.specs.declared.event.WorldEvent.TheVariants as events
use Rattle.pair_text.specs.Numbers.{number_of}

-- the number of a stream: 0 to 7
abbrev pub within_streams : Option ℕ → Option ℕ
within_streams None = None
within_streams (Some number) = if nat_lt number most_streams then Some number else None

abbrev pub stream_of : List ℕ → Option ℕ
stream_of text = within_streams (number_of text)

-- `add TO`: the host has a name that may stand in a body
abbrev pub add_line : List ℕ → Option WorldEvent
add_line text = if is_host_name text then Some (events.Add text) else None

-- a stream and a stanza, where the text is one
abbrev pub stanza_at : Option ℕ → List ℕ → Option (ℕ × List ℕ)
stanza_at None text = None
stanza_at (Some stream) text = if is_stanza text then Some (stream, text) else None

abbrev pub stanza_on : List ℕ → Option (ℕ × List ℕ)
stanza_on text = option_and_then (λ stanza. stanza_at (stream_of (word_of text)) stanza) (rest_of text)

-- `puton STREAM STANZA`
abbrev pub put_on_line : List ℕ → Option WorldEvent
put_on_line text = elim (stanza_on text) [ None ↦ None | Some on ↦ Some (events.PutOn on.0 on.1) ]

-- `giveon STREAM STANZA`
abbrev pub give_on_line : List ℕ → Option WorldEvent
give_on_line text = elim (stanza_on text) [ None ↦ None | Some on ↦ Some (events.GiveOn on.0 on.1) ]

-- `stopon STREAM`
abbrev pub stop_on_line : List ℕ → Option WorldEvent
stop_on_line text = elim (stream_of text) [ None ↦ None | Some stream ↦ Some (events.StopOn stream) ]

abbrev pub shut_on : Option ℕ → Option Closing → Option WorldEvent
shut_on None closing = None
shut_on (Some stream) None = None
shut_on (Some stream) (Some closing) = Some (events.ShutOn stream closing)

-- `shuton STREAM CLOSING`
abbrev pub shut_on_line : List ℕ → Option WorldEvent
shut_on_line text = option_and_then (λ closing. shut_on (stream_of (word_of text)) (closing_of closing)) (rest_of text)

-- what a line says whose first word is this, where more follows
unfoldable pub stream_line : List ℕ → List ℕ → Option (Option WorldEvent)
stream_line word rest =
    if bytes_eq word (codes "add") then Some (add_line rest)
    else if bytes_eq word (codes "puton") then Some (put_on_line rest)
    else if bytes_eq word (codes "stopon") then Some (stop_on_line rest)
    else if bytes_eq word (codes "giveon") then Some (give_on_line rest)
    else if bytes_eq word (codes "shuton") then Some (shut_on_line rest)
    else None
