-- What is known of lines that were read.
use Rattle.std.proofs.Common.{◌≡◌, ◌≤◌, ◌<◌, ◌&&◌, ℕ, List, Bool, true, false, Option, Some, None, length, refl, arith, if◌then◌else◌}
use Rattle.std.specs.Prelude.{◌^◌, nat_le, ⊤, IsTrue, codes}
use Rattle.std.specs.Option.{option_and_then}
use Rattle.std.specs.Str.{bytes_eq}
use Rattle.std.proofs.lemmas.Bool.{leb-true}
use Rattle.bosh_types.specs.Rid.{IsRid, greatest_rid, rid_of}
use Rattle.bosh_types.proofs.RidLemmas.{rid_of-IsRid}
use Rattle.bosh_types.specs.declared.ending.Closing.{Closing}
use Rattle.body_cutter.specs.Cutting.{is_stanza}
use Rattle.session_attrs.specs.Serving.{is_allowed_text, is_host_name}
use Rattle.bosh_client.specs.Runs.{IsHost}
use Rattle.script_text.specs.declared.line.LineRead.{LineRead}
use Rattle.script_text.specs.declared.line.LineRead.TheVariants as drives
use Rattle.script_text.specs.declared.line.ScriptLine.{ScriptLine}
use Rattle.script_text.specs.declared.line.ScriptLine.TheVariants as said
use Rattle.script_text.specs.Line.{closing_of, line_of, rest_of, word_of}
use Rattle.script_text.specs.Said.{IsWellRead}
use Rattle.script_text.proofs.SaidLemmas.{lines_well}
use Rattle.session_laws.proofs.Tests.{both_true, split}
use Rattle.world_laws.specs.declared.event.WorldEvent.{WorldEvent}
use Rattle.world_laws.specs.declared.event.WorldEvent.TheVariants as events
use Rattle.world_laws.specs.Setup.{IsAllowed}
use Rattle.pair_text.specs.declared.line.ClientTerms.{ClientTerms}
use Rattle.pair_text.specs.declared.line.PairLine.{PairLine}
use Rattle.pair_text.specs.declared.line.PairLine.TheVariants as lines
use Rattle.pair_text.specs.Line.{at_line, carry_line, client_line, count_of, event_line, flag_of, named_line, of_rest, of_words, pair_line_of, pause_line, return_line, seconds_of, shared_line, shared_said, shut_line, stanza_line, terms_from, terms_of, word_line, words_line}
use Rattle.pair_text.specs.Numbers.{number_of}
use Rattle.pair_text.specs.Said.{IsSaid, IsWellSaid}
use Rattle.pair_text.specs.StreamLine.{add_line, give_on_line, put_on_line, shut_on, shut_on_line, stanza_at, stanza_on, stop_on_line, stream_line, stream_of}

-- a line whose first word isn't one of these says nothing here
abbrev WellWords : Option (Option PairLine) → Type 0
WellWords None = ⊤
WellWords (Some line) = IsWellSaid line

-- a number that was read is at most the greatest request id
number_low : (text : List ℕ) (number : ℕ) → number_of text ≡ Some number → number ≤ greatest_rid
unfolding number_of
number_low text number is = by (bytes_eq text (codes "0")) is
  where
    by : (b : Bool) → (if b then Some 0 else rid_of text) ≡ Some number → number ≤ greatest_rid
    by true zero = let none : 0 ≡ number = cc in omega (arith, none)
    by false read = (rid_of-IsRid text number read).1

seconds_low : (number : ℕ) → seconds_of number < 2 ^ 32
seconds_low number = split (λ seconds. seconds < 2 ^ 32) (nat_le number 4294967295) _ _
    (λ few. let low = leb-true number 4294967295 few in omega (arith, low))
    (λ many. omega arith)

abbrev FirstIsRid : Option ClientTerms → Type 0
FirstIsRid None = ⊤
FirstIsRid (Some terms) = IsRid terms.first

from_well : (text : List ℕ) (first : Option ℕ) → rid_of text ≡ first → (wait hold : Option ℕ) (ack : Option Bool) (keys : Option ℕ) → FirstIsRid (terms_from first wait hold ack keys)
from_well text (Some first) is (Some wait) (Some hold) (Some ack) (Some keys) = rid_of-IsRid text first is
from_well text (Some first) is (Some wait) (Some hold) (Some ack) None = tt
from_well text (Some first) is (Some wait) (Some hold) None keys = tt
from_well text (Some first) is (Some wait) None ack keys = tt
from_well text (Some first) is None hold ack keys = tt
from_well text None is wait hold ack keys = tt

then_well : (o : Option (List ℕ)) (f : List ℕ → Option ClientTerms) → ((text : List ℕ) → FirstIsRid (f text)) → FirstIsRid (option_and_then f o)
then_well None f each = tt
then_well (Some text) f each = each text

words_well : (text : List ℕ) → FirstIsRid (terms_of text)
words_well text =
    then_well (rest_of text) _ (λ a. then_well (rest_of a) _ (λ b. then_well (rest_of b) _ (λ c. then_well (rest_of c) _ (λ keys.
    from_well (word_of text) (rid_of (word_of text)) refl (count_of (word_of a)) (count_of (word_of b)) (flag_of (word_of c)) (count_of keys)))))

well_client : (text : List ℕ) → IsWellSaid (client_line text)
well_client text = by (terms_of text) (words_well text)
  where
    by : (o : Option ClientTerms) → FirstIsRid o → IsWellSaid (elim o [ None ↦ None | Some terms ↦ Some (lines.Client terms) ])
    by None first = tt
    by (Some terms) first = first

well_put : (text : List ℕ) → IsWellSaid (stanza_line events.Put text)
well_put text = split IsWellSaid (is_stanza text) _ _ (λ is. is) (λ not. tt)

well_give : (text : List ℕ) → IsWellSaid (stanza_line events.Give text)
well_give text = split IsWellSaid (is_stanza text) _ _ (λ is. is) (λ not. tt)

well_at : (text : List ℕ) → IsWellSaid (at_line text)
well_at text = by (number_of text) refl
  where
    by : (o : Option ℕ) → number_of text ≡ o → IsWellSaid (elim o [ None ↦ None | Some moment ↦ Some (lines.Event (events.At moment)) ])
    by None is = tt
    by (Some moment) is = let low = number_low text moment is in omega (arith, low)

well_pause : (text : List ℕ) → IsWellSaid (pause_line text)
well_pause text = by (number_of text)
  where
    by : (o : Option ℕ) → IsWellSaid (elim o [ None ↦ None | Some number ↦ Some (lines.Event (events.Pause (seconds_of number))) ])
    by None = tt
    by (Some number) = seconds_low number

well_carry : (text : List ℕ) → IsWellSaid (carry_line text)
well_carry text = by (rid_of text)
  where
    by : (o : Option ℕ) → IsWellSaid (elim o [ None ↦ None | Some rid ↦ Some (lines.Event (events.Carry rid)) ])
    by None = tt
    by (Some rid) = tt

well_return : (text : List ℕ) → IsWellSaid (return_line text)
well_return text = by (number_of text)
  where
    by : (o : Option ℕ) → IsWellSaid (elim o [ None ↦ None | Some number ↦ Some (lines.Event (events.Return number)) ])
    by None = tt
    by (Some number) = tt

well_shut : (text : List ℕ) → IsWellSaid (shut_line text)
well_shut text = by (closing_of text)
  where
    by : (o : Option Closing) → IsWellSaid (elim o [ None ↦ None | Some closing ↦ Some (lines.Event (events.Shut closing)) ])
    by None = tt
    by (Some closing) = tt

-- what adds a stream or names one
abbrev WellEvent : Option WorldEvent → Type 0
WellEvent None = ⊤
WellEvent (Some event) = IsAllowed event

abbrev WellNamed : Option (Option WorldEvent) → Type 0
WellNamed None = ⊤
WellNamed (Some event) = WellEvent event

host_is : (text : List ℕ) → is_host_name text ≡ true → IsHost text
unfolding is_host_name
host_is text is =
    let parts = both_true (nat_le 1 (length text) && nat_le (length text) 1023) (is_allowed_text text) is in
    let sizes = both_true (nat_le 1 (length text)) (nat_le (length text) 1023) parts.0 in
    (leb-true 1 (length text) sizes.0, leb-true (length text) 1023 sizes.1, parts.1)

well_add : (text : List ℕ) → WellEvent (add_line text)
well_add text = split WellEvent (is_host_name text) _ _ (host_is text) (λ not. tt)

-- the text beside a stream is a stanza
abbrev WellStanza : Option (ℕ × List ℕ) → Type 0
WellStanza None = ⊤
WellStanza (Some on) = IsTrue (is_stanza on.1)

well_at_stream : (stream : Option ℕ) (text : List ℕ) → WellStanza (stanza_at stream text)
well_at_stream None text = tt
well_at_stream (Some stream) text = split WellStanza (is_stanza text) _ _ (λ is. is) (λ not. tt)

well_stanza : (text : List ℕ) → WellStanza (stanza_on text)
well_stanza text = by (rest_of text)
  where
    by : (o : Option (List ℕ)) → WellStanza (option_and_then (λ stanza. stanza_at (stream_of (word_of text)) stanza) o)
    by None = tt
    by (Some stanza) = well_at_stream (stream_of (word_of text)) stanza

well_put_on : (text : List ℕ) → WellEvent (put_on_line text)
well_put_on text = by (stanza_on text) (well_stanza text)
  where
    by : (o : Option (ℕ × List ℕ)) → WellStanza o → WellEvent (elim o [ None ↦ None | Some on ↦ Some (events.PutOn on.0 on.1) ])
    by None well = tt
    by (Some on) well = well

well_give_on : (text : List ℕ) → WellEvent (give_on_line text)
well_give_on text = by (stanza_on text) (well_stanza text)
  where
    by : (o : Option (ℕ × List ℕ)) → WellStanza o → WellEvent (elim o [ None ↦ None | Some on ↦ Some (events.GiveOn on.0 on.1) ])
    by None well = tt
    by (Some on) well = well

well_stop_on : (text : List ℕ) → WellEvent (stop_on_line text)
well_stop_on text = by (stream_of text)
  where
    by : (o : Option ℕ) → WellEvent (elim o [ None ↦ None | Some stream ↦ Some (events.StopOn stream) ])
    by None = tt
    by (Some stream) = tt

well_shut_on : (text : List ℕ) → WellEvent (shut_on_line text)
well_shut_on text = by (rest_of text)
  where
    shuts : (stream : Option ℕ) (closing : Option Closing) → WellEvent (shut_on stream closing)
    shuts None closing = tt
    shuts (Some stream) None = tt
    shuts (Some stream) (Some closing) = tt

    by : (o : Option (List ℕ)) → WellEvent (option_and_then (λ closing. shut_on (stream_of (word_of text)) (closing_of closing)) o)
    by None = tt
    by (Some closing) = shuts (stream_of (word_of text)) (closing_of closing)

well_stream : (word rest : List ℕ) → WellNamed (stream_line word rest)
unfolding stream_line
well_stream word rest =
    split WellNamed (bytes_eq word (codes "add")) _ _ (λ _. well_add rest) (λ _.
    split WellNamed (bytes_eq word (codes "puton")) _ _ (λ _. well_put_on rest) (λ _.
    split WellNamed (bytes_eq word (codes "stopon")) _ _ (λ _. well_stop_on rest) (λ _.
    split WellNamed (bytes_eq word (codes "giveon")) _ _ (λ _. well_give_on rest) (λ _.
    split WellNamed (bytes_eq word (codes "shuton")) _ _ (λ _. well_shut_on rest) (λ _. tt)))))

well_event : (o : Option WorldEvent) → WellEvent o → IsWellSaid (event_line o)
well_event None well = tt
well_event (Some event) well = well

well_named : (o : Option (Option WorldEvent)) → WellNamed o → WellWords (named_line o)
well_named None well = tt
well_named (Some event) well = well_event event well

well_shared_said : (line : ScriptLine) → IsWellRead (drives.Line line) → IsWellSaid (shared_said line)
well_shared_said (said.Open rid) well = tt
well_shared_said (said.Short rid stanza) well = tt
well_shared_said (said.Host name greeting) well = well
well_shared_said (said.At moment) well = tt
well_shared_said (said.Post conn body) well = tt
well_shared_said (said.Close conn) well = tt
well_shared_said (said.Back sid stream stanza) well = tt
well_shared_said (said.Shut sid stream closing) well = tt
well_shared_said said.End well = tt

well_shared : (read : LineRead) → IsWellRead read → IsWellSaid (shared_line read)
well_shared (drives.Line line) well = well_shared_said line well
well_shared (drives.BadLine kind) well = tt

well_word : (line : List ℕ) → IsWellSaid (word_line line)
unfolding word_line
well_word line =
    split IsWellSaid (bytes_eq line (codes "restart")) _ _ (λ _. tt) (λ _.
    split IsWellSaid (bytes_eq line (codes "stop")) _ _ (λ _. tt) (λ _.
    split IsWellSaid (bytes_eq line (codes "send")) _ _ (λ _. tt) (λ _.
    well_shared (line_of line) (lines_well line))))

well_words : (word rest : List ℕ) → WellWords (words_line word rest)
unfolding words_line
well_words word rest =
    split WellWords (bytes_eq word (codes "client")) _ _ (λ _. well_client rest) (λ _.
    split WellWords (bytes_eq word (codes "at")) _ _ (λ _. well_at rest) (λ _.
    split WellWords (bytes_eq word (codes "put")) _ _ (λ _. well_put rest) (λ _.
    split WellWords (bytes_eq word (codes "pause")) _ _ (λ _. well_pause rest) (λ _.
    split WellWords (bytes_eq word (codes "carry")) _ _ (λ _. well_carry rest) (λ _.
    split WellWords (bytes_eq word (codes "give")) _ _ (λ _. well_give rest) (λ _.
    split WellWords (bytes_eq word (codes "shut")) _ _ (λ _. well_shut rest) (λ _.
    split WellWords (bytes_eq word (codes "return")) _ _ (λ _. well_return rest) (λ _. well_named (stream_line word rest) (well_stream word rest)))))))))

well_of_words : (line : List ℕ) (o : Option (Option PairLine)) → WellWords o → IsWellSaid (of_words line o)
well_of_words line None well = well_word line
well_of_words line (Some said) well = well

well_of_rest : (line : List ℕ) (rest : Option (List ℕ)) → IsWellSaid (of_rest line rest)
well_of_rest line None = well_word line
well_of_rest line (Some rest) = well_of_words line (words_line (word_of line) rest) (well_words (word_of line) rest)

-- what a line says is well said
pub pair_lines_well : (line : List ℕ) → IsWellSaid (pair_line_of line)
pair_lines_well line = well_of_rest line (rest_of line)
