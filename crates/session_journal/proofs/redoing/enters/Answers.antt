use Rattle.std.proofs.Common.{◌≡◌, sym, ◌∙◌, subst}
use Rattle.session_core.specs.Journal.{IsAllowed, entered_by}
use Rattle.session_core.proofs.ModestLemmas.{modest}
use Rattle.session_journal.specs.Calls.{call_in}
use Rattle.session_journal.specs.declared.call.Call.{Call}
use Rattle.session_journal.specs.Redoing.{is_itself}
use Rattle.session_journal.proofs.RedoneLemmas.{tick_enters}
use Rattle.session_journal.proofs.redoing.enters.Goals as goal

pub cost_of_body-requires : goal.cost_of_body-requires
cost_of_body-requires c = modest c.in-Arrive.request c.in-Arrive.body c.in-Arrive.now (subst (λ call. IsAllowed (call_in call)) c.in-Arrive.is c.requires)

pub returns-in-Tick : goal.returns-in-Tick
returns-in-Tick c = λ plain stands.
    subst (λ (call : Call). c.ticks.result ≡ is_itself (entered_by plain (call_in call))) (sym c.in-Tick.is) (c.ticks.ensures plain stands ∙ tick_enters plain c.in-Tick.now)
