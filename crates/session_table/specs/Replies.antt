-- A directory as the object of a gate: what calls and questions are told after a history.
use Rattle.std.specs.Prelude.{◌≡◌, ℕ, ◌+◌, ◌<◌, ◌≤◌, IsTrue, List, [], ◌∷◌, length, map, max, min, Option, Some, None, Result, Ok, Err}
use Rattle.std.specs.Arc.{arc_value}
use Rattle.std.specs.List.{list_all}
use Rattle.std.specs.declared.alloc.AllocError.{AllocError}
use Rattle.body_cutter.specs.BodyText.{IsText}
use Rattle.body_cutter.specs.Cutting.{is_stanza}
use Rattle.body_writer.specs.Answer.{answer_text}
use Rattle.bosh_types.specs.declared.terms.Terms.{Terms}
use Rattle.bosh_types.specs.Limits.{most_waiting, longest_stanza}
use Rattle.parked_gate.specs.Histories.{Appends}
use Rattle.parked_gate.specs.Passes.{gate_of, known}
use Rattle.server_ports.specs.Names.{IsNamePart}
use Rattle.session_attrs.specs.declared.request.Creation.{Creation}
use Rattle.session_attrs.specs.declared.request.Kind.TheVariants as kinds
use Rattle.session_core.specs.declared.opening.Opening as core
use Rattle.session_core.specs.declared.outward.Outward.TheVariants.{Stanza}
use Rattle.session_core.specs.Journal.{Journal, IsReadFrom}
use Rattle.session_core.specs.Machine.{created_parts}
use Rattle.session_core.specs.Outward.{size_of_all}
use Rattle.session_journal.specs.declared.entry.Entered.TheVariants as stored
use Rattle.session_journal.specs.declared.entry.Entry as journal_entry
use Rattle.session_journal.specs.Stored.{IsJournalOf}
use Rattle.session_table.specs.declared.calls.DirectoryCall.{DirectoryCall}
use Rattle.session_table.specs.declared.calls.DirectoryCall.TheVariants as calls
use Rattle.session_table.specs.declared.calls.DirectoryReply.{DirectoryReply}
use Rattle.session_table.specs.declared.calls.DirectoryReply.TheVariants as replies
use Rattle.session_table.specs.declared.calls.LiveSession.{LiveSession}
use Rattle.session_table.specs.declared.calls.Opened.{Opened}
use Rattle.session_table.specs.declared.calls.Question.{Question}
use Rattle.session_table.specs.declared.calls.Question.TheVariants as questions
use Rattle.session_table.specs.declared.entry.Entry.{Entry}
use Rattle.session_table.specs.declared.handle.SessionHandle.{SessionHandle}
use Rattle.session_table.specs.declared.opening.Limits.{Limits}
use Rattle.session_table.specs.declared.opening.Opening.{Opening}
use Rattle.session_table.specs.History.{openings_of, live_of, live_at, opening_in, removal_in}
use Rattle.session_table.specs.Keeping.{session_of}
use Rattle.session_table.specs.Sessions.{OpenedSession}
use Rattle.session_table.specs.Sids.{sid_of}

-- what a session is opened with: a creation that its body gives, a host that can stand in an answer, a greeting that one answer
-- may take, and the first part of a name, XEP-0124 section 7
pub record MayOpen (o : Opening) : Type 0 where
  pub name : IsNamePart o.name
  pub read : IsReadFrom o.body o.request
  pub creation : (creation : Creation) × (o.request.kind ≡ kinds.Creation creation)
  pub host : IsText o.host × (1 ≤ length o.host) × (length o.host ≤ 1023)
  pub greeting : IsTrue (list_all is_stanza o.greeting) × (length o.greeting ≤ most_waiting) × (size_of_all (map (Stanza 0) o.greeting) ≤ longest_stanza)

abbrev pub IsCallable : DirectoryCall → Type 0
IsCallable (calls.Open o) = MayOpen o
IsCallable (calls.Find sid) = Unit {0}
IsCallable (calls.Remove sid) = Unit {0}

-- no more sessions may be live within these limits
abbrev pub IsFull : Limits → List Entry → Type 0
IsFull limits log = limits.live ≤ length (live_of log)

-- and no more may be opened
abbrev pub IsSpent : Limits → List Entry → Type 0
IsSpent limits log = limits.openings ≤ length (openings_of log)

-- after how many times its `wait` a session strikes a copy beyond a gap, within 1 and 10
abbrev pub gap_waits_in : Limits → ℕ
gap_waits_in limits = min (max limits.gap_waits 1) 10

-- what the session itself is opened with, under its whole name and with its terms
abbrev pub session_opening : List ℕ → Terms → Opening → core.Opening
session_opening sid terms o =
    record { request = o.request; body = o.body; terms = terms; sid = sid; host = o.host; greeting = o.greeting; at = o.at; limit = o.limits.journal; gap_waits = gap_waits_in o.limits }

-- what a session has seen of itself when it is opened
abbrev pub first_seen : List ℕ → Opening → List journal_entry.Entry
first_seen sid o = record { caller = 0; call = stored.Open sid o.host o.greeting o.body o.at o.limits.journal (gap_waits_in o.limits) } ∷ []

-- what was seen of a session tells a journal, and this is the answer of its creation
pub record IsAnswered (log : List journal_entry.Entry) (answer : List ℕ) : Type 0 where
  pub journal : Journal
  pub is : IsJournalOf log journal
  pub answer_is : answer ≡ answer_text (created_parts journal.opening)

-- a session was started under this number: its pass has seen its opening alone, and the answer is the one of its creation
pub record Starts (number : ℕ) (o : Opening) (x : SessionHandle) (answer : List ℕ) : Type 0 where
  pub sid : x.sid ≡ sid_of o.name number
  pub number_is : x.number ≡ number
  pub seen : (known x.pass).seen ≡ first_seen x.sid o
  pub answered : IsAnswered (known x.pass).seen answer

-- a session was opened, under the name of the next opening number, and the entry tells of its gate
pub record Opens (log : List Entry) (o : Opening) (x : Opened) (made : Option Entry) : Type 0 where
  pub not_full : length (live_of log) < o.limits.live
  pub not_spent : length (openings_of log) < o.limits.openings
  pub starts : Starts (length (openings_of log) + 1) o x.session x.answer
  pub mine : (known x.session.pass).mine ≡ []
  pub entry : Entry
  pub entered : made ≡ Some entry
  pub tells : opening_in entry ≡ Some (x.session.sid, gate_of (arc_value x.session.gate))

-- the handle is one of the live session of that name
pub record Finds (log : List Entry) (sid : List ℕ) (x : SessionHandle) : Type 0 where
  pub live : live_at log sid ≡ Some (session_of x)
  pub mine : (known x.pass).mine ≡ []

-- the live session of that name is removed
pub record Removes (log : List Entry) (sid : List ℕ) (made : Option Entry) : Type 0 where
  pub session : OpenedSession
  pub live : live_at log sid ≡ Some session
  pub entry : Entry
  pub entered : made ≡ Some entry
  pub tells : removal_in entry ≡ Some sid

-- what a call is replied, and the entry that it makes; or there was no memory, and none is made
abbrev pub RepliesTo : List Entry → DirectoryCall → Result DirectoryReply AllocError → Option Entry → Type 0
RepliesTo log call (Err error) made = made ≡ None
RepliesTo log (calls.Open o) (Ok (replies.Opened x)) made = Opens log o x made
RepliesTo log (calls.Open o) (Ok replies.TableFull) made = (made ≡ None) × IsFull o.limits log
RepliesTo log (calls.Open o) (Ok replies.OpeningsSpent) made = (made ≡ None) × (length (live_of log) < o.limits.live) × IsSpent o.limits log
RepliesTo log (calls.Open o) (Ok (replies.Found x)) made = ⊥
RepliesTo log (calls.Open o) (Ok replies.Removed) made = ⊥
RepliesTo log (calls.Open o) (Ok replies.Unknown) made = ⊥
RepliesTo log (calls.Find sid) (Ok (replies.Found x)) made = (made ≡ None) × Finds log sid x
RepliesTo log (calls.Find sid) (Ok replies.Unknown) made = (made ≡ None) × (live_at log sid ≡ None)
RepliesTo log (calls.Find sid) (Ok (replies.Opened x)) made = ⊥
RepliesTo log (calls.Find sid) (Ok replies.TableFull) made = ⊥
RepliesTo log (calls.Find sid) (Ok replies.OpeningsSpent) made = ⊥
RepliesTo log (calls.Find sid) (Ok replies.Removed) made = ⊥
RepliesTo log (calls.Remove sid) (Ok replies.Removed) made = Removes log sid made
RepliesTo log (calls.Remove sid) (Ok replies.Unknown) made = (made ≡ None) × (live_at log sid ≡ None)
RepliesTo log (calls.Remove sid) (Ok (replies.Opened x)) made = ⊥
RepliesTo log (calls.Remove sid) (Ok replies.TableFull) made = ⊥
RepliesTo log (calls.Remove sid) (Ok replies.OpeningsSpent) made = ⊥
RepliesTo log (calls.Remove sid) (Ok (replies.Found x)) made = ⊥

-- a call is replied so, and its entry is added, with the caller's number
abbrev pub Steps : List Entry → ℕ → DirectoryCall → DirectoryReply → List Entry → Type 0
Steps log caller call reply later = (made : Option Entry) × Appends (λ e. e.caller) caller log made later × RepliesTo log call (Ok reply) made

-- the handle of that name, if a session of that name is live
abbrev pub FindsOrNot : List Entry → List ℕ → Option SessionHandle → Type 0
FindsOrNot log sid None = live_at log sid ≡ None
FindsOrNot log sid (Some x) = Finds log sid x

-- the live sessions, by name and number
abbrev pub live_sessions : List Entry → List LiveSession
live_sessions log = map (λ session. record { sid = session.sid; number = session.number }) (live_of log)

abbrev pub Answers : List Entry → Question → Result (List LiveSession) AllocError → Type 0
Answers log questions.Live (Ok live) = live ≡ live_sessions log
Answers log questions.Live (Err error) = Unit {0}
