-- The calls of a worker, by what came of them.
use Rattle.std.specs.Prelude.{ℕ, List, Option, Result, Ok, Err}
use Rattle.std.specs.declared.alloc.AllocError.{AllocError}
use Rattle.bosh_client.specs.declared.replies.Answered.{Answered}
use Rattle.bosh_client.specs.declared.replies.ClientEnd.{ClientEnd}
use Rattle.bosh_client.specs.declared.replies.Next.{Next}
use Rattle.parked_gate.specs.Passes.{Known}
use Rattle.client_run.specs.declared.call.Answer.{Answer}
use Rattle.client_run.specs.declared.call.Answer.TheVariants as answers
use Rattle.client_run.specs.declared.call.Call.TheVariants as calls
use Rattle.client_run.specs.declared.call.Question.TheVariants as questions
use Rattle.client_run.specs.declared.call.Reply.TheVariants as replies
use Rattle.client_run.specs.declared.entry.Entry.{Entry}
use Rattle.client_run.specs.Working.{Asked, Called, IsAt, Setting}

-- the next request was asked for
abbrev pub AsksBy : Setting → Known Entry → Known Entry → Result Next AllocError → Type 0
AsksBy setting old new (Ok next) = (now : ℕ) × IsAt setting.moment now × Called (calls.Next now) (Ok (replies.Next next)) old new
AsksBy setting old new (Err error) = (now : ℕ) × Called (calls.Next now) (Err error) old new

-- an answer was given
abbrev pub AnswersBy : Setting → ℕ → List ℕ → Known Entry → Known Entry → Result Answered AllocError → Type 0
AnswersBy setting rid body old new (Ok answered) = (now : ℕ) × IsAt setting.moment now × Called (calls.Answer rid body now) (Ok (replies.Answered answered)) old new
AnswersBy setting rid body old new (Err error) = (now : ℕ) × Called (calls.Answer rid body now) (Err error) old new

-- a copy was asked for
abbrev pub CopiesBy : ℕ → Known Entry → Known Entry → Result (Option (List ℕ)) AllocError → Type 0
CopiesBy rid old new (Ok body) = Asked (questions.Copy rid) (Ok (answers.Copy body)) old new
CopiesBy rid old new (Err error) = (answer : Result Answer AllocError) × Asked (questions.Copy rid) answer old new

-- it was looked at how the client ended
abbrev pub LooksBy : Known Entry → Known Entry → Option ClientEnd → Type 0
LooksBy old new end = Asked questions.Ended (Ok (answers.Ended end)) old new
