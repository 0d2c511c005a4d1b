use Rattle.std.proofs.Common.{subst}
use Rattle.session_core.specs.Journal.{Arrive}
use Rattle.session_calls.specs.After.{after_call}
use Rattle.script_text.specs.Live.{arrived, with_journal}
use Rattle.script_text.specs.Stands.{IsTurn}
use Rattle.script_text.proofs.LiveLemmas.{IfOk-from}
use Rattle.script_text.proofs.live.Live.arrive.Goals as goal

pub returns : goal.returns
returns c = IfOk-from c.arrived.result _ _ (λ turned it s is.
    let call = c.in_ok-reply.ensures.reply s.journal is.journal in
    let after = with_journal s (after_call s.journal (Arrive c.args.request c.args.body c.args.now)) in
    subst (λ reply. IsTurn turned (arrived after c.args.conn reply)) call.0 (it after (record { number = is.number; journal = call.1; parked = is.parked }))) c.arrived.ensures
