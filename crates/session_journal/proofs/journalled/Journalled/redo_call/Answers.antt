use Rattle.std.proofs.Common.{◌≡◌, refl, subst, ◌∙◌}
use Rattle.session_core.specs.Journal.{entered_by}
use Rattle.session_journal.specs.Calls.{call_in, reply_in}
use Rattle.session_journal.specs.Redoing.{is_itself}
use Rattle.session_journal.specs.Stored.{After}
use Rattle.session_journal.proofs.RedoneLemmas.{foreign_call, redone_call}
use Rattle.session_journal.proofs.journalled.Journalled.redo_call.Goals as goal

pub returns-then-not-enters-clause-redoes : goal.returns-then-not-enters-clause-redoes
returns-then-not-enters-clause-redoes c = (
  refl,
  foreign_call c.args.self.now c.args.caller c.args.call c.requires c.enters.result c.if-not-enters.true
      (subst (λ l. After l (λ s. c.enters.result ≡ is_itself (entered_by s (call_in c.args.call)))) ((c.self.invariant).0 ∙ c.self.view_is) c.enters.ensures),
)

pub returns-clause-redoes : goal.returns-clause-redoes
returns-clause-redoes c =
    redone_call c.args.self.now c.args.caller c.args.call c.requires c.step.new.self (reply_in c.in_ok-_reply._reply) c.enters.result c.if-not-enters.false
    (subst (λ l. After l (λ s. c.enters.result ≡ is_itself (entered_by s (call_in c.args.call)))) ((c.self.invariant).0 ∙ c.self.view_is) c.enters.ensures)
    c.in_ok-_reply.ensures.step
