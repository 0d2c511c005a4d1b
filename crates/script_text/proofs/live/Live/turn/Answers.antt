use Rattle.std.proofs.Common.{sym, subst}
use Rattle.script_text.specs.Live.{turn_at}
use Rattle.script_text.specs.Stands.{IsTurn}
use Rattle.script_text.proofs.LiveLemmas.{IfOk-from}
use Rattle.script_text.proofs.live.Live.turn.Goals as goal

pub returns-in-Arrives : goal.returns-in-Arrives
returns-in-Arrives c = IfOk-from c.arrive.result _ _ (λ turned it s is. subst (λ e. IsTurn turned (turn_at c.args.now e s)) (sym c.in-Arrives.is) (it s is)) c.arrive.ensures

pub returns-in-Gives : goal.returns-in-Gives
returns-in-Gives c = IfOk-from c.give.result _ _ (λ turned it s is. subst (λ e. IsTurn turned (turn_at c.args.now e s)) (sym c.in-Gives.is) (it s is)) c.give.ensures

pub returns-in-Shuts : goal.returns-in-Shuts
returns-in-Shuts c = IfOk-from c.shut.result _ _ (λ turned it s is. subst (λ e. IsTurn turned (turn_at c.args.now e s)) (sym c.in-Shuts.is) (it s is)) c.shut.ensures

pub returns-in-Passes : goal.returns-in-Passes
returns-in-Passes c = IfOk-from c.pass.result _ _ (λ turned it s is. subst (λ e. IsTurn turned (turn_at c.args.now e s)) (sym c.in-Passes.is) (it s is)) c.pass.ensures
