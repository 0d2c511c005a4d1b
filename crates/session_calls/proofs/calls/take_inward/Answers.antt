use Rattle.std.proofs.Common.{◌≡◌, List, Option, Some, None, ◌<◌}
use Rattle.std.specs.Prelude.{IfSome}
use Rattle.bosh_types.specs.declared.inward.Inward.{Inward}
use Rattle.session_journal.specs.declared.call.Reply.{Reply}
use Rattle.session_journal.specs.declared.call.Reply.TheVariants as tellings
use Rattle.session_journal.specs.declared.entry.Entry.{Entry}
use Rattle.session_journal.specs.Calls.{reply_in}
use Rattle.session_journal.specs.Stored.{Steps}
use Rattle.session_core.specs.Journal.{TakeInward}
use Rattle.session_calls.specs.After.{left_in}
use Rattle.session_calls.proofs.CallLemmas.{take_to}
use Rattle.session_calls.proofs.TakingLemmas.{fewer_left}
use Rattle.session_calls.proofs.calls.take_inward.Goals as goal

fewer : (log later : List Entry) (told : Reply) (reply : Option Inward) → told ≡ tellings.TakeInward reply → Steps log 0 TakeInward (reply_in told) later
    → IfSome reply (λ item. left_in later < left_in log)
fewer log later told None told_is steps = tt
fewer log later told (Some item) told_is steps =
    let both = take_to log later (steps.replies).journal (steps.replies).is told (Some item) told_is steps in
    fewer_left log later (steps.replies).journal item (steps.replies).is both.0 both.1

pub returns-clause-fewer : goal.returns-clause-fewer
returns-clause-fewer c = fewer _ _ _ _ c.in-TakeInward.is c.in_ok-item.ensures.step

pub returns-clause-reply : goal.returns-clause-reply
returns-clause-reply c = λ journal is. take_to _ _ journal is _ _ c.in-TakeInward.is c.in_ok-item.ensures.step
