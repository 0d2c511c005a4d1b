-- The fact of each ending, with its numbers: what holds exactly where a session that went on ends so. `tested` is the state at
-- which the call of the ending entry was tested, `after` the state that it leaves.
use Rattle.std.specs.Prelude.{◌≡◌, ℕ, ◌+◌, ◌*◌, ◌<◌, ◌≤◌, false, List, [], ◌∷◌, ◌++◌, Some, None, IsTrue}
use Rattle.std.specs.List.{list_any}
use Rattle.bosh_types.specs.declared.ending.Closing.{Closing}
use Rattle.bosh_types.specs.declared.ending.Ending.{Ending}
use Rattle.bosh_types.specs.declared.ending.Ending.TheVariants.{Terminated, Stale, Above, WrongKey, UnknownStream, PauseTooLong, Overactive, Silent, Closed, JournalFull}
use Rattle.key_sequence.specs.Current.{fits}
use Rattle.pause_rules.specs.Overactive.{is_overactive, apart}
use Rattle.stream_names.specs.Streams.{is_among, name_of}
use Rattle.session_core.specs.declared.copy.RequestCopy.{RequestCopy}
use Rattle.session_core.specs.Copy.{id_of, is_pause}
use Rattle.session_core.specs.Journal.{Arrive, Collect, Back, BackClosed, Tick, TakeInward, Entered, Made, Limit}
use Rattle.session_core.specs.Kept.{kept_of, lowest_kept}
use Rattle.session_core.specs.Machine.{copy_now}
use Rattle.session_core.specs.Outward.{OfClosing}
use Rattle.session_core.specs.Rules.{mark_of, asked_of}
use Rattle.session_core.specs.Processed.{Processed, ends}
use Rattle.session_core.specs.State.{PlainSession, Answered, last_of, answered_of, standing_at, last_answer, held, beyond, is_over, running}
use Rattle.session_core.specs.Time.{quiet_of}
use Rattle.session_core.specs.Window.{is_above}

-- the entry is the arrival of a copy with this id, at which the session went on
abbrev pub Arrives : PlainSession → Entered → ℕ → (RequestCopy → Type 0) → Type 0
Arrives tested (Made (Arrive request body now)) rid P = (is_over tested ≡ false) × (request.rid ≡ rid) × P (copy_now tested request body)
Arrives tested (Made (Collect ticket)) rid P = ⊥
Arrives tested (Made (Back stream stanza now)) rid P = ⊥
Arrives tested (Made (BackClosed stream closing now)) rid P = ⊥
Arrives tested (Made (Tick now)) rid P = ⊥
Arrives tested (Made TakeInward) rid P = ⊥
Arrives tested (Limit kind cost now) rid P = ⊥

abbrev pub MeetsLimit : Entered → ℕ → Type 0
MeetsLimit (Limit kind cost now) limit = cost ≡ limit
MeetsLimit (Made call) limit = ⊥

-- no terminate ended the session, the standing copy that follows the run has this id, and this holds of it
abbrev pub OfNext : PlainSession → ℕ → (RequestCopy → Type 0) → Type 0
OfNext after rid P =
    (list_any ends after.processed ≡ false) × (rid ≡ last_of after + 1)
    × (copy : RequestCopy) × (standing_at after rid ≡ Some copy) × P copy

abbrev pub HasKey : PlainSession → RequestCopy → Type 0
HasKey after copy = IsTrue (fits after.key copy.request.key)

-- where it names a stream, an open one has that name
abbrev pub NamesOpen : PlainSession → RequestCopy → Type 0
NamesOpen after copy =
    (name : List ℕ) → copy.request.stream ≡ Some name → (stream : ℕ) × IsTrue (is_among (running after) stream) × (name_of stream ≡ name)

-- it is a pause of this many seconds
abbrev pub Asks : RequestCopy → ℕ → Type 0
Asks copy seconds = IsTrue (is_pause copy) × (copy.request.pause ≡ Some seconds)

abbrev pub IsShort : PlainSession → RequestCopy → Type 0
IsShort after copy = (seconds : ℕ) → Asks copy seconds → seconds ≤ after.terms.maxpause

-- the answer is that of this id, and took a closing
abbrev pub TookClosing : Answered → ℕ → Closing → Type 0
TookClosing answer rid closing = (answer.rid ≡ rid) × ((stream : ℕ) × (answer.front ≡ OfClosing stream closing))

abbrev pub Fact : PlainSession → Entered → PlainSession → Ending → Type 0
-- a terminate was processed last, after which no stream was open
Fact tested entered after (Terminated rid) =
    (before : List Processed) × (one : Processed) × (after.processed ≡ before ++ one ∷ []) × (id_of one.copy ≡ rid) × IsTrue (ends one)
-- a copy came whose id was answered, and its answer is no longer kept
Fact tested entered after (Stale rid lowest) =
    Arrives tested entered rid (λ copy. (rid ≤ answered_of tested) × (kept_of tested rid ≡ None)) × (lowest ≡ lowest_kept tested)
-- a copy came of an id that isn't open, beyond the window
Fact tested entered after (Above rid last requests) =
    Arrives tested entered rid (λ copy. IsTrue (is_above tested copy) × (standing_at tested rid ≡ None))
    × (last ≡ last_of tested) × (requests ≡ tested.terms.requests)
-- the next copy breaks a rule, and none that is tested earlier
Fact tested entered after (WrongKey rid) = OfNext after rid (λ copy. HasKey after copy → ⊥)
Fact tested entered after (UnknownStream rid) = OfNext after rid (λ copy. HasKey after copy × (NamesOpen after copy → ⊥))
Fact tested entered after (PauseTooLong rid pause maxpause) =
    OfNext after rid (λ copy. HasKey after copy × NamesOpen after copy × Asks copy pause × (maxpause < pause))
    × (maxpause ≡ after.terms.maxpause)
Fact tested entered after (Overactive rid distance) =
    OfNext after rid (λ copy. HasKey after copy × NamesOpen after copy × IsShort after copy
    × IsTrue (is_overactive after.terms (asked_of after).held (mark_of copy) (asked_of after).prior)
    × (distance ≡ apart (mark_of copy) (asked_of after).prior))
-- no request was held, in a session that doesn't poll none stood beyond the gap, and it was quiet for longer than allowed
Fact tested entered after (Silent since now) =
    (held after ≡ []) × (after.terms.polled ≡ false → beyond after ≡ []) × (since ≡ quiet_of after) × (now ≡ after.now) × (since + after.period * 1000 < now)
-- the last answer took the closing, and no stream stays open, which no terminate brought about
Fact tested entered after (Closed closing rid) =
    (list_any ends after.processed ≡ false) × (running after ≡ []) × TookClosing (last_answer after) rid closing
-- the journal had no room
Fact tested entered after (JournalFull counted cost) =
    MeetsLimit entered cost × (counted ≡ tested.counted) × (tested.limit < counted + cost)
