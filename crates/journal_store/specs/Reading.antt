-- The entry that a content is. Each field is read off the front of the bytes, which leaves the rest.
use Rattle.std.specs.Prelude.{◌≡◌, ℕ, zero, suc, ◌==◌, List, [], ◌∷◌, Option, Some, None, Result, Ok, Err, length, take, drop, nat_lt, if◌then◌else◌}
use Rattle.std.specs.Int.{from_be_bytes, w16, w32, w64}
use Rattle.bosh_types.specs.Limits.{most_streams}
use Rattle.bosh_types.specs.declared.ending.Closing.{Closing}
use Rattle.bosh_types.specs.declared.ending.Closing.TheVariants as closings
use Rattle.session_journal.specs.declared.entry.Entered.{Entered}
use Rattle.session_journal.specs.declared.entry.Entered.TheVariants as stored
use Rattle.session_journal.specs.declared.entry.Limited.{Limited}
use Rattle.session_journal.specs.declared.entry.Limited.TheVariants as limits
use Rattle.journal_store.specs.Contents.{rules_version}
use Rattle.journal_store.specs.declared.reading.Kind.{Kind}
use Rattle.journal_store.specs.declared.reading.Kind.TheVariants as kinds
use Rattle.journal_store.specs.declared.reading.ReadError.{ReadError}
use Rattle.journal_store.specs.declared.reading.ReadError.TheVariants.{NoEntry, NoMemory}
use Rattle.journal_store.specs.declared.reading.SessionEntry.{SessionEntry}

infixl 10 ◌>>=◌
abbrev pub ◌>>=◌ : {A B : Type 0} → Option A → (A → Option B) → Option B
None >>= f = None
(Some x) >>= f = f x

-- what a reader answered, seen by view, is what there is to read, unless memory was wanting
abbrev pub Gives : {X Y : Type 0} → (X → Y) → Result X ReadError → Option Y → Type 0
Gives view (Ok x) read = read ≡ Some (view x)
Gives view (Err NoEntry) read = read ≡ None
Gives view (Err NoMemory) read = Unit {0}

abbrev pub byte_at : List ℕ → Option (ℕ × List ℕ)
byte_at [] = None
byte_at (byte ∷ bytes) = Some (byte, bytes)

abbrev pub number2_at : List ℕ → Option (ℕ × List ℕ)
number2_at bytes = if nat_lt (length bytes) 2 then None else Some (from_be_bytes w16 (take 2 bytes), drop 2 bytes)

abbrev pub number4_at : List ℕ → Option (ℕ × List ℕ)
number4_at bytes = if nat_lt (length bytes) 4 then None else Some (from_be_bytes w32 (take 4 bytes), drop 4 bytes)

abbrev pub number8_at : List ℕ → Option (ℕ × List ℕ)
number8_at bytes = if nat_lt (length bytes) 8 then None else Some (from_be_bytes w64 (take 8 bytes), drop 8 bytes)

unfoldable pub text_at : List ℕ → Option (List ℕ × List ℕ)
text_at bytes = do
  n ← number4_at bytes
  if nat_lt (length n.1) n.0 then None else Some (take n.0 n.1, drop n.0 n.1)

-- so many texts
unfoldable pub texts_at : ℕ → List ℕ → Option (List (List ℕ) × List ℕ)
texts_at zero bytes = Some ([], bytes)
texts_at (suc count) bytes = do
  text ← text_at bytes
  texts ← texts_at count text.1
  Some (text.0 ∷ texts.0, texts.1)

unfoldable pub greeting_at : List ℕ → Option (List (List ℕ) × List ℕ)
greeting_at bytes = do
  n ← number4_at bytes
  texts_at n.0 n.1

abbrev pub stream_in : ℕ → Option ℕ
stream_in number = if nat_lt number most_streams then Some number else None

-- this, where no byte is left
abbrev pub whole : {X : Type 0} → X → List ℕ → Option X
whole x rest = if length rest == 0 then Some x else None

abbrev pub closing_in : ℕ → Option Closing
closing_in byte =
    if byte == 0 then Some closings.Plain
    else if byte == 1 then Some closings.RemoteConnectionFailed
    else if byte == 2 then Some closings.RemoteStreamError
    else if byte == 3 then Some closings.SystemShutdown
    else None

abbrev pub limited_in : ℕ → Option Limited
limited_in byte =
    if byte == 1 then Some limits.Arrival
    else if byte == 3 then Some limits.ServerStanza
    else if byte == 4 then Some limits.ServerClosing
    else if byte == 5 then Some limits.Time
    else None

abbrev pub kind_in : ℕ → Option Kind
kind_in byte =
    if byte == 1 then Some kinds.Arrive
    else if byte == 2 then Some kinds.Collect
    else if byte == 3 then Some kinds.Back
    else if byte == 4 then Some kinds.BackClosed
    else if byte == 5 then Some kinds.Tick
    else if byte == 6 then Some kinds.TakeInward
    else if byte == 7 then Some kinds.Limit
    else if byte == 8 then Some kinds.Open
    else None

unfoldable pub open_at : ℕ → List ℕ → Option Entered
open_at now bytes = do
  version ← number2_at bytes
  limit ← (if version.0 == rules_version then number8_at version.1 else None)
  gap_waits ← number4_at limit.1
  sid ← text_at gap_waits.1
  host ← text_at sid.1
  greeting ← greeting_at host.1
  body ← text_at greeting.1
  whole (stored.Open sid.0 host.0 greeting.0 body.0 now limit.0 gap_waits.0) body.1

unfoldable pub arrive_at : ℕ → List ℕ → Option Entered
arrive_at now bytes = do
  body ← text_at bytes
  whole (stored.Arrive body.0 now) body.1

unfoldable pub collect_at : List ℕ → Option Entered
collect_at bytes = do
  ticket ← number4_at bytes
  whole (stored.Collect ticket.0) ticket.1

unfoldable pub back_at : ℕ → List ℕ → Option Entered
back_at now bytes = do
  number ← number2_at bytes
  stream ← stream_in number.0
  stanza ← text_at number.1
  whole (stored.Back stream stanza.0 now) stanza.1

unfoldable pub back_closed_at : ℕ → List ℕ → Option Entered
back_closed_at now bytes = do
  number ← number2_at bytes
  stream ← stream_in number.0
  byte ← byte_at number.1
  closing ← closing_in byte.0
  whole (stored.BackClosed stream closing now) byte.1

unfoldable pub limit_at : ℕ → List ℕ → Option Entered
limit_at now bytes = do
  byte ← byte_at bytes
  kind ← limited_in byte.0
  cost ← number8_at byte.1
  whole (stored.Limit kind cost.0 now) cost.1

-- a call without a moment has 0 for it
abbrev pub without_moment : ℕ → Option Entered → Option Entered
without_moment now read = if now == 0 then read else None

abbrev pub call_at : Kind → ℕ → List ℕ → Option Entered
call_at kinds.Open now bytes = open_at now bytes
call_at kinds.Arrive now bytes = arrive_at now bytes
call_at kinds.Collect now bytes = without_moment now (collect_at bytes)
call_at kinds.Back now bytes = back_at now bytes
call_at kinds.BackClosed now bytes = back_closed_at now bytes
call_at kinds.Tick now bytes = whole (stored.Tick now) bytes
call_at kinds.TakeInward now bytes = without_moment now (whole stored.TakeInward bytes)
call_at kinds.Limit now bytes = limit_at now bytes

-- the entry that a content is, and the number of its session
unfoldable pub entry_at : List ℕ → Option SessionEntry
entry_at bytes = do
  session ← number4_at bytes
  caller ← number4_at session.1
  byte ← byte_at caller.1
  kind ← kind_in byte.0
  now ← number8_at byte.1
  call ← call_at kind now.0 now.1
  Some (record { session = session.0; entry = record { caller = caller.0; call = call } })
