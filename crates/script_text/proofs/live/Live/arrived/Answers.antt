use Rattle.std.proofs.Common.{◌∙◌, [], ◌∷◌, ◌++◌, ap, sym, subst, true}
use Rattle.script_text.specs.declared.report.ReportLine.TheVariants.{Out}
use Rattle.script_text.specs.Live.{arrived, not_found, refused_first, told, with_parked}
use Rattle.script_text.specs.Stands.{IsTurn}
use Rattle.script_text.proofs.LiveLemmas.{IfOk-from, unrefused}
use Rattle.script_text.proofs.live.Live.arrived.Goals as goal

pub returns-in-Answer : goal.returns-in-Answer
returns-in-Answer c = IfOk-from c.told.result _ _ (λ turned it s is.
    let turn = told s (Out c.args.conn c.in-Answer.body ∷ []) in
    subst (λ r. IsTurn turned (arrived s c.args.conn r)) (sym c.in-Answer.is)
    (unrefused turned turn (subst (λ l. IsTurn turned (refused_first l turn)) c.new-lines.ensures.items (it s is)))) c.told.ensures

pub returns-in_ok-push-in-Parked : goal.returns-in_ok-push-in-Parked
returns-in_ok-push-in-Parked c = IfOk-from c.told-in-Parked.result _ _ (λ turned it s is.
    let waiting = with_parked s c.in-Parked.ticket c.args.conn in
    subst (λ r. IsTurn turned (arrived s c.args.conn r)) (sym c.in-Parked.is)
    (unrefused turned (told waiting []) (subst (λ l. IsTurn turned (refused_first l (told waiting []))) c.new-lines.ensures.items
    (it waiting (record {
      number = is.number;
      journal = is.journal;
      parked = c.in_ok-push-in-Parked.ensures.items ∙ ap (λ p. p ++ record { ticket = c.in-Parked.ticket; conn = c.args.conn; is_open = true } ∷ []) is.parked;
    }))))) c.told-in-Parked.ensures

pub returns-in_ok-body-in-Over : goal.returns-in_ok-body-in-Over
returns-in_ok-body-in-Over c = IfOk-from c.told-in-Over.result _ _ (λ turned it s is.
    let turn = told s (not_found c.args.conn ∷ []) in
    subst (λ r. IsTurn turned (arrived s c.args.conn r)) (sym c.in-Over.is)
    (unrefused turned turn (subst (λ l. IsTurn turned (refused_first l turn)) c.new-lines.ensures.items
    (subst (λ b. IsTurn turned (refused_first c.new-lines.result.items (told s (Out c.args.conn b ∷ [])))) c.in_ok-body-in-Over.ensures (it s is))))) c.told-in-Over.ensures
