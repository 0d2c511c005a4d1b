use Rattle.std.proofs.Common.{[], subst}
use Rattle.session_core.specs.Journal.{BackClosed}
use Rattle.session_calls.specs.After.{after_call}
use Rattle.world_laws.specs.Manager.{turned, with_journal}
use Rattle.two_ends.specs.Stands.{IsTurn}
use Rattle.two_ends.proofs.manager.Manager.shut.Goals as goal

pub returns : goal.returns
returns c = λ m is.
    let call = c.in_ok-taken.ensures.reply m.journal is.journal in
    let after = with_journal m (after_call m.journal (BackClosed c.args.stream c.args.closing c.args.now)) in (
      call.0,
      subst (λ over. IsTurn c.in_ok-told.told.items c.turned.new.self (turned over after [])) (c.is_over-was_over.ensures m is)
          (c.in_ok-told.ensures after (record { journal = call.1; parked = is.parked })),
    )
