-- What a worker keeps of the directory.
use Rattle.std.specs.Prelude.{◌≡◌, ◌≢◌, ◌==◌, ◌≤◌, ◌⊎◌, ℕ, Bool, List, [], ◌∷◌, ◌++◌, length, Option, Some, None, bytes_eq, if◌then◌else◌}
use Rattle.std.specs.BTreeMap.{BTreeMap, IsUnchanged, get}
use Rattle.std.specs.List.{list_any}
use Rattle.std.specs.Ordering.{nat_cmp}
use Rattle.parked_gate.specs.Passes.{Known, known}
use Rattle.session_journal.specs.declared.entry.Entry as journal
use Rattle.session_table.specs.declared.calls.DirectoryReply.{DirectoryReply}
use Rattle.session_table.specs.declared.calls.DirectoryReply.TheVariants as replies
use Rattle.session_table.specs.declared.calls.NewSession.{NewSession}
use Rattle.session_table.specs.declared.calls.NewSession.TheVariants as news
use Rattle.session_table.specs.declared.calls.Opened.{Opened}
use Rattle.session_table.specs.declared.entry.Entry.{Entry}
use Rattle.session_table.specs.declared.handle.SessionHandle.{SessionHandle}
use Rattle.session_table.specs.declared.opening.Opening.{Opening}
use Rattle.session_table.specs.Handles.{IsOfSame}
use Rattle.session_table.specs.History.{live_at, live_of}
use Rattle.session_table.specs.Keeping.{session_of}
use Rattle.session_table.specs.Replies.{IsFull, IsSpent, Opens}
use Rattle.session_table.specs.Sids.{IsSidOf, highest_number}

abbrev pub Sessions : Type 0
Sessions = BTreeMap ℕ SessionHandle

-- the handle that is held under an opening number
abbrev pub held : Sessions → ℕ → Option SessionHandle
held sessions number = get nat_cmp sessions number

-- a session of this name is held under this number
pub record Holds (sessions : Sessions) (number : ℕ) (sid : List ℕ) : Type 0 where
  pub handle : SessionHandle
  pub is : held sessions number ≡ Some handle
  pub named : handle.sid ≡ sid

-- what is held under other numbers stays
abbrev pub OthersStay : ℕ → Sessions → Sessions → Type 0
OthersStay number old new = (other : ℕ) → other ≢ number → held new other ≡ held old other

-- the entries that the pass of a handle made, where it is one of the session of this name
abbrev pub own_entries : List ℕ → Option SessionHandle → List journal.Entry
own_entries sid None = []
own_entries sid (Some handle) = if bytes_eq handle.sid sid then (known handle.pass).mine else []

-- no handle of the session of this name is held
abbrev pub IsNotHeld : Sessions → List ℕ → Type 0
IsNotHeld sessions sid = (number : ℕ) → number ≤ highest_number → IsSidOf sid number → (handle : SessionHandle) → held sessions number ≡ Some handle → handle.sid ≢ sid

-- where the name has an opening number at its end, it is this one
abbrev pub IsNumberOf : List ℕ → ℕ → Type 0
IsNumberOf sid number = (told : ℕ) → told ≤ highest_number → IsSidOf sid told → number ≡ told

-- the session of this name is held under its number: by the handle that was held, or by one that made no entry yet
pub record IsFound (old new : Sessions) (number : ℕ) (sid : List ℕ) : Type 0 where
  pub holds : Holds new number sid
  pub of_name : IsNumberOf sid number
  pub others : OthersStay number old new
  pub own : own_entries sid (held new number) ≡ own_entries sid (held old number)

-- no handle of the session of this name was held under its number, and now one is, of the session that the directory has live under that name
pub record Comes (log : List Entry) (old new : Sessions) (number : ℕ) (sid : List ℕ) : Type 0 where
  pub handle : SessionHandle
  pub is : held new number ≡ Some handle
  pub numbered : handle.number ≡ number
  pub live : live_at log sid ≡ Some (session_of handle)
  pub none : (other : SessionHandle) → held old number ≡ Some other → other.sid ≢ sid

-- the handle that is held of the session of this name is the very one that was held; or none was, and one has come
abbrev pub StaysOrComes : List Entry → Sessions → Sessions → ℕ → List ℕ → Type 0
StaysOrComes log old new number sid = (held new number ≡ held old number) ⊎ Comes log old new number sid

-- whether a live session has this number
abbrev pub is_live : List Entry → ℕ → Bool
is_live log number = list_any (λ session. session.number == number) (live_of log)

-- the directory was asked, and all that it had is seen
abbrev pub WasAsked : Known Entry → Known Entry → Type 0
WasAsked old new = (earlier : List ℕ) × (new.learnt ≡ (old.learnt ++ earlier) ++ length new.seen ∷ [])

-- of what was held just the live sessions are held, as they were
abbrev pub KeepsLive : List Entry → Sessions → Sessions → Type 0
KeepsLive log old new = (number : ℕ) → held new number ≡ (if is_live log number then held old number else None)

-- a session was opened and its handle is held under its number, or no more could be opened
abbrev pub OpensInto : List Entry → Opening → NewSession → Sessions → Option Entry → Type 0
OpensInto log o (news.Opened number answer) sessions made =
    (handle : SessionHandle) × (held sessions number ≡ Some handle) × Opens log o (record { session = handle; answer = answer }) made × (handle.number ≡ number)
OpensInto log o news.TableFull sessions made = (made ≡ None) × IsFull o.limits log
OpensInto log o news.OpeningsSpent sessions made = (made ≡ None) × IsSpent o.limits log

-- a session was opened, or none
abbrev pub OpensOrNot : List Entry → Opening → Option Entry → Type 0
OpensOrNot log o made = (made ≡ None) ⊎ ((x : Opened) × Opens log o x made)

-- what is held beside a session that was opened stays, and where none was opened all of it
abbrev pub StaysBeside : NewSession → Sessions → Sessions → Type 0
StaysBeside (news.Opened number answer) old new = OthersStay number old new
StaysBeside news.TableFull old new = IsUnchanged old new
StaysBeside news.OpeningsSpent old new = IsUnchanged old new

-- the session under this number is called: its handle is one of the same session after that, whose pass keeps
-- its number and then knows what is said
pub record Turned (number : ℕ) (old new : Sessions) (Says : Known journal.Entry → Known journal.Entry → Type 0) : Type 0 where
  pub before : SessionHandle
  pub after : SessionHandle
  pub was : held old number ≡ Some before
  pub is : held new number ≡ Some after
  pub of_same : IsOfSame before after
  pub pass_number : (known after.pass).number ≡ (known before.pass).number
  pub says : Says (known before.pass) (known after.pass)

-- the session that a reply tells was found
abbrev pub found_of : DirectoryReply → Option SessionHandle
found_of (replies.Found session) = Some session
found_of (replies.Opened opened) = None
found_of replies.TableFull = None
found_of replies.OpeningsSpent = None
found_of replies.Removed = None
found_of replies.Unknown = None
