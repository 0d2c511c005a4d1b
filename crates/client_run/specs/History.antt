-- The history of a client: how it began, and then each call that changed it.
use Rattle.std.specs.Prelude.{◌≡◌, ℕ, Bool, true, false, List, [], ◌∷◌, map, Option, Some, None, Result, Ok, Err}
use Rattle.std.specs.declared.alloc.AllocError.{AllocError}
use Rattle.bosh_client.specs.declared.client.Client.{Client}
use Rattle.bosh_client.specs.declared.setup.ClientSetup.{ClientSetup}
use Rattle.bosh_client.specs.Machine.{copy, new_client}
use Rattle.bosh_client.specs.PlainClient.{PlainClient, end_of}
use Rattle.bosh_client.specs.Runs.{step}
use Rattle.bosh_client.specs.StandsFor.{StandsFor}
use Rattle.parked_gate.specs.Histories.{Appends}
use Rattle.client_run.specs.declared.call.Answer.{Answer}
use Rattle.client_run.specs.declared.call.Answer.TheVariants as answers
use Rattle.client_run.specs.declared.call.Call.{Call}
use Rattle.client_run.specs.declared.call.Question.{Question}
use Rattle.client_run.specs.declared.call.Question.TheVariants as questions
use Rattle.client_run.specs.declared.call.Reply.{Reply}
use Rattle.client_run.specs.declared.entry.Entered.{Entered}
use Rattle.client_run.specs.declared.entry.Entered.TheVariants.{Setup, Called}
use Rattle.client_run.specs.declared.entry.Entry.{Entry}
use Rattle.client_run.specs.Calls.{IsReplyTo, call_in, changes, reply_in}

abbrev pub first_entry : ClientSetup → Entry
first_entry setup = record { caller = 0; entered = Setup setup }

abbrev pub entry_of : ℕ × Call → Entry
entry_of called = record { caller = called.0; entered = Called called.1 }

-- a client that began so, and then the calls of these callers
abbrev pub history_of : ClientSetup → List (ℕ × Call) → List Entry
history_of setup calls = first_entry setup ∷ map entry_of calls

-- the client after more entries, none where one of them is another setup
abbrev pub client_by : (PlainClient → Option PlainClient) → PlainClient → Entered → Option PlainClient
client_by later c (Setup setup) = None
client_by later c (Called call) = later (step c (call_in call)).0

abbrev pub client_from : PlainClient → List Entry → Option PlainClient
client_from c [] = Some c
client_from c (e ∷ es) = client_by (λ next. client_from next es) c e.entered

abbrev pub client_begun : Entered → List Entry → Option PlainClient
client_begun (Setup setup) es = client_from (new_client setup) es
client_begun (Called call) es = None

-- the plain client that began as the first entry says and had all other entries as its calls; none where the first is no
-- setup, or another one is
unfoldable pub client_in : List Entry → Option PlainClient
client_in [] = None
client_in (e ∷ es) = client_begun e.entered es

-- this holds of the plain client after these entries
pub record After (log : List Entry) (P : PlainClient → Type 0) : Type 0 where
  pub plain : PlainClient
  pub is : client_in log ≡ Some plain
  pub holds : P plain

-- the entries tell a client
abbrev pub IsLegal : List Entry → Type 0
IsLegal log = (plain : PlainClient) × (client_in log ≡ Some plain)

-- a client stands for what these entries tell
abbrev pub Stands : Client → List Entry → Type 0
Stands client log = After log (λ plain. StandsFor client plain)

-- a call that changed the client is entered as it is, and no other
abbrev pub Enters : Call → Bool → Option Entry → Type 0
Enters call changed None = changed ≡ false
Enters call changed (Some e) = (changed ≡ true) × (e.entered ≡ Called call)

-- after these entries the call was replied as by the plain client, and entered where it changed it
pub record Replies (log : List Entry) (call : Call) (reply : Reply) (made : Option Entry) : Type 0 where
  pub plain : PlainClient
  pub is : client_in log ≡ Some plain
  pub reply_is : reply_in reply ≡ (step plain (call_in call)).1
  pub named : IsReplyTo call reply
  pub enters : Enters call (changes (reply_in reply)) made

-- and what was entered was added, with the caller's number
abbrev pub Steps : List Entry → ℕ → Call → Reply → List Entry → Type 0
Steps log caller call reply later = (made : Option Entry) × Appends (λ e. e.caller) caller log made later × Replies log call reply made

-- it was replied so, or there was no memory, and nothing is entered
abbrev pub RepliesTo : List Entry → Call → Result Reply AllocError → Option Entry → Type 0
RepliesTo log call (Ok reply) made = Replies log call reply made
RepliesTo log call (Err error) made = made ≡ None

-- the answer has what the plain client has, unless there was no memory
abbrev pub Answers : List Entry → Question → Result Answer AllocError → Type 0
Answers log (questions.Copy rid) (Ok (answers.Copy body)) = After log (λ plain. body ≡ copy plain rid)
Answers log (questions.Copy rid) (Ok (answers.Ended end)) = ⊥
Answers log (questions.Copy rid) (Err error) = Unit {0}
Answers log questions.Ended (Ok (answers.Copy body)) = ⊥
Answers log questions.Ended (Ok (answers.Ended end)) = After log (λ plain. end ≡ end_of plain)
Answers log questions.Ended (Err error) = ⊥
