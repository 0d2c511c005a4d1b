-- The content of a record: the number of a session, and an entry of its journal.
use Rattle.std.specs.Prelude.{ℕ, ◌<◌, ◌^◌, List, [], ◌∷◌, ◌++◌, length}
use Rattle.std.specs.Int.{to_be_bytes, w16, w64}
use Rattle.std.specs.List.{AllByRecursion}
use Rattle.bosh_types.specs.Limits.{most_streams}
use Rattle.bosh_types.specs.declared.ending.Closing.{Closing}
use Rattle.bosh_types.specs.declared.ending.Closing.TheVariants as closings
use Rattle.session_journal.specs.declared.entry.Entered.{Entered}
use Rattle.session_journal.specs.declared.entry.Entered.TheVariants as stored
use Rattle.session_journal.specs.declared.entry.Entry.{Entry}
use Rattle.session_journal.specs.declared.entry.Limited.{Limited}
use Rattle.session_journal.specs.declared.entry.Limited.TheVariants as limits
use Rattle.journal_store.specs.Records.{HasLength, number4, framed}

-- the version of the rules by which a journal is replayed
abbrev pub rules_version : ℕ
rules_version = 3

-- numbers of two and of eight bytes, the greatest first
unfoldable pub number2 : ℕ → List ℕ
number2 n = to_be_bytes w16 n

unfoldable pub number8 : ℕ → List ℕ
number8 n = to_be_bytes w64 n

-- texts, each with its length
abbrev pub all_framed : List (List ℕ) → List ℕ
all_framed [] = []
all_framed (text ∷ texts) = framed text ++ all_framed texts

-- texts and their number
unfoldable pub texts_bytes : List (List ℕ) → List ℕ
texts_bytes texts = number4 (length texts) ++ all_framed texts

abbrev pub closing_byte : Closing → ℕ
closing_byte closings.Plain = 0
closing_byte closings.RemoteConnectionFailed = 1
closing_byte closings.RemoteStreamError = 2
closing_byte closings.SystemShutdown = 3

-- which call met the limit, as the kind of its own entry
abbrev pub limited_kind : Limited → ℕ
limited_kind limits.Arrival = 1
limited_kind limits.ServerStanza = 3
limited_kind limits.ServerClosing = 4
limited_kind limits.Time = 5

-- 0 is kept for the creations of older rules
abbrev pub kind_of : Entered → ℕ
kind_of (stored.Open sid host greeting body now limit gap_waits) = 8
kind_of (stored.Arrive body now) = 1
kind_of (stored.Collect ticket) = 2
kind_of (stored.Back stream stanza now) = 3
kind_of (stored.BackClosed stream closing now) = 4
kind_of (stored.Tick now) = 5
kind_of stored.TakeInward = 6
kind_of (stored.Limit kind cost now) = 7

-- the moment of a call, and 0 where it has none
abbrev pub moment_of : Entered → ℕ
moment_of (stored.Open sid host greeting body now limit gap_waits) = now
moment_of (stored.Arrive body now) = now
moment_of (stored.Collect ticket) = 0
moment_of (stored.Back stream stanza now) = now
moment_of (stored.BackClosed stream closing now) = now
moment_of (stored.Tick now) = now
moment_of stored.TakeInward = 0
moment_of (stored.Limit kind cost now) = now

-- what else an entry has
abbrev pub fields_of : Entered → List ℕ
fields_of (stored.Open sid host greeting body now limit gap_waits) = number2 rules_version ++ number8 limit ++ number4 gap_waits ++ framed sid ++ framed host ++ texts_bytes greeting ++ framed body
fields_of (stored.Arrive body now) = framed body
fields_of (stored.Collect ticket) = number4 ticket
fields_of (stored.Back stream stanza now) = number2 stream ++ framed stanza
fields_of (stored.BackClosed stream closing now) = number2 stream ++ closing_byte closing ∷ []
fields_of (stored.Tick now) = []
fields_of stored.TakeInward = []
fields_of (stored.Limit kind cost now) = limited_kind kind ∷ number8 cost

-- the content of an entry of a session
unfoldable pub content_of : ℕ → Entry → List ℕ
content_of session e = number4 session ++ number4 e.caller ++ kind_of e.call ∷ [] ++ number8 (moment_of e.call) ++ fields_of e.call

-- each text has a length of four bytes
abbrev pub HasLengths : Entered → Type 0
HasLengths (stored.Open sid host greeting body now limit gap_waits) = HasLength sid × HasLength host × (length greeting < 2 ^ 32) × AllByRecursion HasLength greeting × HasLength body
HasLengths (stored.Arrive body now) = HasLength body
HasLengths (stored.Back stream stanza now) = HasLength stanza
HasLengths _ = Unit {0}

-- each number of a call fits the bytes that it has
abbrev pub HasRanges : Entered → Type 0
HasRanges (stored.Open sid host greeting body now limit gap_waits) = (now < 2 ^ 64) × (limit < 2 ^ 64) × (gap_waits < 2 ^ 32)
HasRanges (stored.Arrive body now) = now < 2 ^ 64
HasRanges (stored.Collect ticket) = ticket < 2 ^ 32
HasRanges (stored.Back stream stanza now) = (stream < most_streams) × (now < 2 ^ 64)
HasRanges (stored.BackClosed stream closing now) = (stream < most_streams) × (now < 2 ^ 64)
HasRanges (stored.Tick now) = now < 2 ^ 64
HasRanges stored.TakeInward = Unit {0}
HasRanges (stored.Limit kind cost now) = (cost < 2 ^ 64) × (now < 2 ^ 64)

-- an entry of a session that has a content
pub record HasContent (session : ℕ) (e : Entry) : Type 0 where
  pub session_fits : session < 2 ^ 32
  pub caller : e.caller < 2 ^ 32
  pub lengths : HasLengths e.call
  pub ranges : HasRanges e.call
