use Rattle.std.proofs.Common.{◌∙◌, [], ◌∷◌, ◌++◌, ap, sym, subst}
use Rattle.world_laws.specs.declared.told.Told.TheVariants as tells
use Rattle.world_laws.specs.Manager.{arrived, turned, with_parked}
use Rattle.two_ends.specs.Stands.{IsTurn}
use Rattle.two_ends.proofs.TurnLemmas.{IfOk-from}
use Rattle.two_ends.proofs.manager.Manager.arrived.Goals as goal

pub returns-in-Answer : goal.returns-in-Answer
returns-in-Answer c = IfOk-from c.turned.result _ _ (λ told it m is. subst (λ r. IsTurn told.items c.turned.new.self (arrived c.args.was_over m c.args.rid r)) (sym c.in-Answer.is) (it m is)) c.turned.ensures

pub returns-in_ok-push-in-Parked : goal.returns-in_ok-push-in-Parked
returns-in_ok-push-in-Parked c = IfOk-from c.turned-in-Parked.result _ _ (λ told it m is.
    subst (λ r. IsTurn told.items c.turned-in-Parked.new.self (arrived c.args.was_over m c.args.rid r)) (sym c.in-Parked.is)
    (it (with_parked m c.in-Parked.ticket c.args.rid) (record {
      journal = is.journal;
      parked = c.in_ok-push-in-Parked.ensures.items ∙ ap (λ p. p ++ record { ticket = c.in-Parked.ticket; rid = c.args.rid } ∷ []) is.parked;
    }))) c.turned-in-Parked.ensures

pub returns-in_ok-body-in-Over : goal.returns-in_ok-body-in-Over
returns-in_ok-body-in-Over c = IfOk-from c.turned-in-Over.result _ _ (λ told it m is.
    subst (λ r. IsTurn told.items c.turned-in-Over.new.self (arrived c.args.was_over m c.args.rid r)) (sym c.in-Over.is)
    (subst (λ b. IsTurn told.items c.turned-in-Over.new.self (turned c.args.was_over m (tells.Answer c.args.rid b ∷ []))) c.in_ok-body-in-Over.ensures (it m is))) c.turned-in-Over.ensures
