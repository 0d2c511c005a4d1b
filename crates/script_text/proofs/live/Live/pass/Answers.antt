use Rattle.std.proofs.Common.{◌∙◌, [], sym, subst}
use Rattle.session_core.specs.Journal.{Tick}
use Rattle.session_journal.specs.Stored.{IsJournalOf}
use Rattle.session_calls.specs.After.{after_call}
use Rattle.script_text.specs.Live.{refused_first, ticked, told, with_journal}
use Rattle.script_text.specs.Stands.{IsTurn}
use Rattle.script_text.proofs.LiveLemmas.{IfOk-from, quiet_same, unrefused}
use Rattle.script_text.proofs.live.Live.pass.Goals as goal

pub returns-in-Quiet : goal.returns-in-Quiet
returns-in-Quiet c = λ s is.
    let call = c.in_ok-ticked.ensures.reply s.journal is.journal in
    let quiet = sym c.in-Quiet.is ∙ call.0 in
    subst (λ t. IsTurn (record { lines = c.new-lines.result; live = record { number = c.args.self.number; session = c.tick.new.session; parked = c.args.self.parked } })
    (ticked s (with_journal s (after_call s.journal (Tick c.args.now))) t)) quiet (record {
      lines = c.new-lines.ensures.items;
      live = record { number = is.number; journal = subst (λ j. IsJournalOf c.tick.new.session j) (quiet_same s.journal c.args.now quiet) call.1; parked = is.parked };
    })

pub returns-in-Changed : goal.returns-in-Changed
returns-in-Changed c = IfOk-from c.told.result _ _ (λ turned it s is.
    let call = c.in_ok-ticked.ensures.reply s.journal is.journal in
    let after = with_journal s (after_call s.journal (Tick c.args.now)) in
    subst (λ t. IsTurn turned (ticked s after t)) (sym c.in-Changed.is ∙ call.0)
    (unrefused turned (told after []) (subst (λ l. IsTurn turned (refused_first l (told after []))) c.new-lines.ensures.items
    (it after (record { number = is.number; journal = call.1; parked = is.parked }))))) c.told.ensures
