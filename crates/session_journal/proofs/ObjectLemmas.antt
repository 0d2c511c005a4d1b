-- A session beside its entries as the object of a gate.
use Rattle.std.proofs.Common.{◌≡◌, ℕ, Option, ap, None, Result, Ok, Err, refl}
use Rattle.std.specs.Prelude.{IfOk, OnErr}
use Rattle.std.specs.declared.alloc.AllocError.{AllocError}
use Rattle.parked_gate.specs.Histories.{Appends}
use Rattle.session_journal.specs.declared.call.Call.{Call}
use Rattle.session_journal.specs.declared.call.Stepped.{Stepped}
use Rattle.session_journal.specs.declared.entry.Entry.{Entry}
use Rattle.session_journal.specs.Calls.{IsReplyTo, call_in, reply_in}
use Rattle.session_journal.specs.Recording.{Recording}
use Rattle.session_journal.specs.Seen.{StepsTo}
use Rattle.session_journal.specs.Stored.{Steps}

-- a call was replied, or there was no memory
pub step_replies : (old new : Recording) (caller : ℕ) (call : Call) (result : Result Stepped AllocError)
    → IfOk result (λ stepped. Steps old.log caller (call_in call) (reply_in stepped.reply) new.log) → IfOk result (λ stepped. IsReplyTo call stepped.reply) → OnErr result (new ≡ old)
    → (made : Option Entry) × Appends (λ e. e.caller) caller old.log made new.log × StepsTo old.log call result made
step_replies old new caller call (Ok stepped) steps kind same = (steps.made, steps.appends, (steps.replies, kind))
step_replies old new caller call (Err error) steps kind same = (None, ap (λ (r : Recording). r.log) same, refl)
