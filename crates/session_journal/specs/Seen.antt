-- A session as the object of a gate: what calls, polls and questions are told after a history.
use Rattle.std.specs.Prelude.{◌≡◌, ℕ, List, Option, Some, None, Result, Ok, Err, is_some}
use Rattle.std.specs.declared.alloc.AllocError.{AllocError}
use Rattle.pause_rules.specs.Due.{IsFirstMoment}
use Rattle.session_core.specs.declared.replies.Collected.{Collected}
use Rattle.session_core.specs.declared.replies.Collected.TheVariants as collections
use Rattle.session_core.specs.Journal.{Collect, ToCollect}
use Rattle.session_core.specs.Machine.{collect, take_inward}
use Rattle.session_core.specs.State.{PlainSession, waiting_counts}
use Rattle.session_core.specs.Time.{is_due}
use Rattle.session_journal.specs.declared.call.Call.{Call}
use Rattle.session_journal.specs.declared.call.Reply.{Reply}
use Rattle.session_journal.specs.declared.call.Stepped.{Stepped}
use Rattle.session_journal.specs.declared.entry.Entry.{Entry}
use Rattle.session_journal.specs.declared.asking.Answer.{Answer}
use Rattle.session_journal.specs.declared.asking.Answer.TheVariants as answers
use Rattle.session_journal.specs.declared.asking.Found.{Found}
use Rattle.session_journal.specs.declared.asking.Found.TheVariants as found
use Rattle.session_journal.specs.declared.asking.Question.{Question}
use Rattle.session_journal.specs.declared.asking.Question.TheVariants as questions
use Rattle.session_journal.specs.declared.asking.State.{State}
use Rattle.session_journal.specs.Calls.{IsReplyTo, call_in, reply_in}
use Rattle.session_journal.specs.Entries.{host_of}
use Rattle.session_journal.specs.Stored.{After, Replies}

-- the call is replied as by the plain machine, by a reply of its name, with the entry that it makes there; or there was no
-- memory, and none is made
abbrev pub RepliesTo : List Entry → Call → Result Reply AllocError → Option Entry → Type 0
RepliesTo log call (Ok reply) made = Replies log (call_in call) (reply_in reply) made × IsReplyTo call reply
RepliesTo log call (Err error) made = made ≡ None

-- the reply of a step
abbrev pub reply_of : Result Stepped AllocError → Result Reply AllocError
reply_of (Ok stepped) = Ok stepped.reply
reply_of (Err error) = Err error

-- the same of a step that hands out its entry
abbrev pub StepsTo : List Entry → Call → Result Stepped AllocError → Option Entry → Type 0
StepsTo log call stepped made = RepliesTo log call (reply_of stepped) made

-- the request of the ticket waits on
abbrev pub Lacks : List Entry → ℕ → Type 0
Lacks log ticket = After log (λ plain. (collect plain ticket).1 ≡ collections.NotYet)

abbrev pub collected_as : Found → Collected
collected_as (found.Answer bytes) = collections.Answer bytes
collected_as found.Superseded = collections.Superseded
collected_as found.UnknownTicket = collections.UnknownTicket

-- the ticket is collected as by the plain machine
abbrev pub Finds : List Entry → ℕ → Found → Option Entry → Type 0
Finds log ticket what made = Replies log (Collect ticket) (ToCollect (collected_as what)) made

-- this is when time first has something to do for a session, whether an item of it goes inward, and how it has ended
pub record IsStateOf (state : State) (plain : PlainSession) : Type 0 where
  pub due : IsFirstMoment (is_due plain) state.due
  pub inward : state.is_inward ≡ is_some (take_inward plain).1
  pub ending : state.ending ≡ plain.ending

-- after these entries
abbrev pub IsStateAfter : List Entry → State → Type 0
IsStateAfter log state = After log (IsStateOf state)

-- the answer has what waits and how the session ended, or what there is to do for it, or the host, unless there was no memory for that
abbrev pub Answers : List Entry → Question → Result Answer AllocError → Type 0
Answers log questions.Load (Ok (answers.Load waiting ending)) = After log (λ plain. (waiting ≡ waiting_counts plain) × (ending ≡ plain.ending))
Answers log questions.Load (Ok (answers.Home host)) = ⊥
Answers log questions.Load (Ok (answers.State state)) = ⊥
Answers log questions.Home (Ok (answers.Load waiting ending)) = ⊥
Answers log questions.Home (Ok (answers.Home host)) = host_of log ≡ Some host
Answers log questions.Home (Ok (answers.State state)) = ⊥
Answers log questions.State (Ok (answers.Load waiting ending)) = ⊥
Answers log questions.State (Ok (answers.Home host)) = ⊥
Answers log questions.State (Ok (answers.State state)) = IsStateAfter log state
Answers log questions.Load (Err error) = ⊥
Answers log questions.State (Err error) = ⊥
Answers log questions.Home (Err error) = Unit {0}
