use Rattle.std.proofs.Common.{subst}
use Rattle.session_core.specs.Journal.{Arrive}
use Rattle.session_core.specs.Machine.{arrive}
use Rattle.session_calls.specs.After.{after_call}
use Rattle.world_laws.specs.Manager.{arrived, session, with_journal}
use Rattle.two_ends.specs.Stands.{IsTurn}
use Rattle.two_ends.proofs.TurnLemmas.{IfOk-from}
use Rattle.two_ends.proofs.manager.Manager.arrive.Goals as goal

pub returns : goal.returns
returns c = IfOk-from c.arrived.result _ _ (λ told it m is.
    let call = c.in_ok-reply.ensures.reply m.journal is.journal in
    let after = with_journal m (after_call m.journal (Arrive c.args.request c.args.body c.args.now)) in
    subst (λ over. IsTurn told.items c.arrived.new.self (arrived over after c.args.request.rid (arrive (session m) c.args.request c.args.body c.args.now).1)) (c.is_over-was_over.ensures m is)
    (subst (λ reply. IsTurn told.items c.arrived.new.self (arrived c.is_over-was_over.result after c.args.request.rid reply)) call.0 (it after (record { journal = call.1; parked = is.parked })))) c.arrived.ensures
