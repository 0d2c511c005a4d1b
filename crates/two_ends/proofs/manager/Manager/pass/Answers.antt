use Rattle.std.proofs.Common.{◌∙◌, [], sym, subst}
use Rattle.session_core.specs.Journal.{Tick}
use Rattle.session_journal.specs.Stored.{IsJournalOf}
use Rattle.session_calls.specs.After.{after_call}
use Rattle.world_laws.specs.Manager.{ticked, turned, with_journal}
use Rattle.two_ends.specs.Stands.{IsTurn}
use Rattle.two_ends.proofs.TurnLemmas.{IfOk-from, quiet_same}
use Rattle.two_ends.proofs.manager.Manager.pass.Goals as goal

pub returns-in-Quiet : goal.returns-in-Quiet
returns-in-Quiet c = λ m is.
    let call = c.in_ok-tick.ensures.reply m.journal is.journal in
    let quiet = sym c.in-Quiet.is ∙ call.0 in
    subst (λ t. IsTurn c.new.result.items (record c.args.self.now { session = c.tick.new.session })
    (ticked m (with_journal m (after_call m.journal (Tick c.args.now))) t)) quiet (record {
      told_is = c.new.ensures.items;
      manager_is = record { journal = subst (λ j. IsJournalOf c.tick.new.session j) (quiet_same m.journal c.args.now quiet) call.1; parked = is.parked };
    })

pub returns-in-Changed : goal.returns-in-Changed
returns-in-Changed c = IfOk-from c.turned.result _ _ (λ told it m is.
    let call = c.in_ok-tick.ensures.reply m.journal is.journal in
    let after = with_journal m (after_call m.journal (Tick c.args.now)) in
    subst (λ t. IsTurn told.items c.turned.new.self (ticked m after t)) (sym c.in-Changed.is ∙ call.0)
    (subst (λ over. IsTurn told.items c.turned.new.self (turned over after [])) (c.is_over-was_over.ensures m is) (it after (record { journal = call.1; parked = is.parked })))) c.turned.ensures
