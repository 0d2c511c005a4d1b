-- What one line of a script of two ends says, by its own bytes. Words are separated by one space.
use Rattle.std.specs.Prelude.{ℕ, nat_le, Bool, true, false, List, Option, None, Some, codes, if◌then◌else◌}
use Rattle.std.specs.Option.{option_and_then}
use Rattle.std.specs.Str.{bytes_eq}
use Rattle.body_cutter.specs.Cutting.{is_stanza}
use Rattle.bosh_types.specs.Rid.{rid_of}
use Rattle.bosh_types.specs.declared.ending.Closing.{Closing}
use Rattle.script_text.specs.declared.line.LineRead.{LineRead}
use Rattle.script_text.specs.declared.line.LineRead.TheVariants as drives
use Rattle.script_text.specs.declared.line.ScriptLine.{ScriptLine}
use Rattle.script_text.specs.declared.line.ScriptLine.TheVariants as said
use Rattle.script_text.specs.Line.{closing_of, line_of, rest_of, word_of}
use Rattle.world_laws.specs.declared.event.WorldEvent.{WorldEvent}
use Rattle.world_laws.specs.declared.event.WorldEvent.TheVariants as events
use Rattle.pair_text.specs.declared.line.ClientTerms.{ClientTerms}
use Rattle.pair_text.specs.declared.line.PairLine.{PairLine}
use Rattle.pair_text.specs.declared.line.PairLine.TheVariants as lines
use Rattle.pair_text.specs.Numbers.{number_of}
use Rattle.pair_text.specs.StreamLine.{stream_line}

-- a number that 32 bits hold
abbrev pub within_32 : Option ℕ → Option ℕ
within_32 None = None
within_32 (Some number) = if nat_le number 4294967295 then Some number else None

abbrev pub count_of : List ℕ → Option ℕ
count_of text = within_32 (number_of text)

-- `0` for no and `1` for yes
unfoldable pub flag_of : List ℕ → Option Bool
flag_of text = if bytes_eq text (codes "0") then Some false else if bytes_eq text (codes "1") then Some true else None

abbrev pub terms_from : Option ℕ → Option ℕ → Option ℕ → Option Bool → Option ℕ → Option ClientTerms
terms_from (Some first) (Some wait) (Some hold) (Some ack) (Some keys) =
    Some (record { first = first; wait = wait; hold = hold; ack = ack; keys = keys })
terms_from (Some first) (Some wait) (Some hold) (Some ack) None = None
terms_from (Some first) (Some wait) (Some hold) None keys = None
terms_from (Some first) (Some wait) None ack keys = None
terms_from (Some first) None hold ack keys = None
terms_from None wait hold ack keys = None

-- the five words after `client`: the first request id, the wait, the hold, whether it asks for acknowledgements, and the keys
abbrev pub terms_of : List ℕ → Option ClientTerms
terms_of text =
    option_and_then (λ after_first. option_and_then (λ after_wait. option_and_then (λ after_hold. option_and_then (λ keys.
    terms_from (rid_of (word_of text)) (count_of (word_of after_first)) (count_of (word_of after_wait)) (flag_of (word_of after_hold)) (count_of keys))
    (rest_of after_hold)) (rest_of after_wait)) (rest_of after_first)) (rest_of text)

abbrev pub client_line : List ℕ → Option PairLine
client_line text = elim (terms_of text) [ None ↦ None | Some terms ↦ Some (lines.Client terms) ]

-- what comes of a stanza, where the text is one
abbrev pub stanza_line : (List ℕ → WorldEvent) → List ℕ → Option PairLine
stanza_line event text = if is_stanza text then Some (lines.Event (event text)) else None

-- a pause of more seconds than 32 bits hold counts as the longest
abbrev pub seconds_of : ℕ → ℕ
seconds_of number = if nat_le number 4294967295 then number else 4294967295

abbrev pub pause_line : List ℕ → Option PairLine
pause_line text = elim (number_of text) [ None ↦ None | Some number ↦ Some (lines.Event (events.Pause (seconds_of number))) ]

abbrev pub at_line : List ℕ → Option PairLine
at_line text = elim (number_of text) [ None ↦ None | Some moment ↦ Some (lines.Event (events.At moment)) ]

abbrev pub carry_line : List ℕ → Option PairLine
carry_line text = elim (rid_of text) [ None ↦ None | Some rid ↦ Some (lines.Event (events.Carry rid)) ]

abbrev pub return_line : List ℕ → Option PairLine
return_line text = elim (number_of text) [ None ↦ None | Some number ↦ Some (lines.Event (events.Return number)) ]

abbrev pub shut_line : List ℕ → Option PairLine
shut_line text = elim (closing_of text) [ None ↦ None | Some closing ↦ Some (lines.Event (events.Shut closing)) ]

-- a line that scripts of one manager have too
abbrev pub shared_said : ScriptLine → Option PairLine
shared_said (said.Open rid) = None
shared_said (said.Short rid stanza) = None
shared_said (said.Host name greeting) = Some (lines.Host name greeting)
shared_said (said.At moment) = None
shared_said (said.Post conn body) = None
shared_said (said.Close conn) = None
shared_said (said.Back sid stream stanza) = None
shared_said (said.Shut sid stream closing) = None
shared_said said.End = Some lines.End

abbrev pub shared_line : LineRead → Option PairLine
shared_line (drives.Line said) = shared_said said
shared_line (drives.BadLine kind) = None

-- a line of one word
unfoldable pub word_line : List ℕ → Option PairLine
word_line line =
    if bytes_eq line (codes "restart") then Some (lines.Event events.Restart)
    else if bytes_eq line (codes "stop") then Some (lines.Event events.Stop)
    else if bytes_eq line (codes "send") then Some (lines.Event events.Send)
    else shared_line (line_of line)

-- what happens, if anything does
abbrev pub event_line : Option WorldEvent → Option PairLine
event_line None = None
event_line (Some event) = Some (lines.Event event)

-- a line that adds a stream or names one
abbrev pub named_line : Option (Option WorldEvent) → Option (Option PairLine)
named_line None = None
named_line (Some event) = Some (event_line event)

-- what a line says whose first word is this, where more follows
unfoldable pub words_line : List ℕ → List ℕ → Option (Option PairLine)
words_line word rest =
    if bytes_eq word (codes "client") then Some (client_line rest)
    else if bytes_eq word (codes "at") then Some (at_line rest)
    else if bytes_eq word (codes "put") then Some (stanza_line events.Put rest)
    else if bytes_eq word (codes "pause") then Some (pause_line rest)
    else if bytes_eq word (codes "carry") then Some (carry_line rest)
    else if bytes_eq word (codes "give") then Some (stanza_line events.Give rest)
    else if bytes_eq word (codes "shut") then Some (shut_line rest)
    else if bytes_eq word (codes "return") then Some (return_line rest)
    else named_line (stream_line word rest)

abbrev pub of_words : List ℕ → Option (Option PairLine) → Option PairLine
of_words line None = word_line line
of_words line (Some said) = said

abbrev pub of_rest : List ℕ → Option (List ℕ) → Option PairLine
of_rest line None = word_line line
of_rest line (Some rest) = of_words line (words_line (word_of line) rest)

-- what a line says, if it says anything
abbrev pub pair_line_of : List ℕ → Option PairLine
pair_line_of line = of_rest line (rest_of line)
