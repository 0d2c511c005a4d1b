-- What a session answers that is asked what there is to do for it.
use Rattle.std.proofs.Common.{◌≡◌, Ok, subst}
use Rattle.parked_gate.specs.Passes.{Known, Looks}
use Rattle.session_journal.specs.declared.asking.Answer.{Answer}
use Rattle.session_journal.specs.declared.asking.Answer.TheVariants as answers
use Rattle.session_journal.specs.declared.asking.Question.TheVariants as questions
use Rattle.session_journal.specs.declared.asking.State.{State}
use Rattle.session_journal.specs.declared.entry.Entry.{Entry}
use Rattle.session_journal.specs.Seen.{Answers, IsStateAfter}

pub state_so : (old new : Known Entry) (answer : Answer) (state : State) → answer ≡ answers.State state
    → Looks (λ seen. Answers seen questions.State (Ok answer)) old new → Looks (λ seen. IsStateAfter seen state) old new
state_so old new answer state is looks = subst (λ (x : Answer). Looks (λ seen. Answers seen questions.State (Ok x)) old new) is looks
