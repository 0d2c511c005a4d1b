use Rattle.std.proofs.Common.{subst, sym}
use Rattle.world_laws.specs.Setup.{IsAllowed}
use Rattle.world_laws.specs.Steps.{gives_to, shuts_to, step}
use Rattle.two_ends.specs.Worlds.{IsPlainStep}
use Rattle.two_ends.proofs.TurnLemmas.{IfOk-from}
use Rattle.two_ends.proofs.world.World.happen.Goals as goal

pub put-requires : goal.put-requires
put-requires c = subst IsAllowed c.in-Put.is c.requires

pub put_on-requires : goal.put_on-requires
put_on-requires c = subst IsAllowed c.in-PutOn.is c.requires

pub add-requires : goal.add-requires
add-requires c = subst IsAllowed c.in-Add.is c.requires

pub give-requires : goal.give-requires
give-requires c = subst IsAllowed c.in-Give.is c.requires

pub give-requires-in-GiveOn : goal.give-requires-in-GiveOn
give-requires-in-GiveOn c = subst IsAllowed c.in-GiveOn.is c.requires

pub returns-in-At : goal.returns-in-At
returns-in-At c = IfOk-from c.at.result _ _ (λ news it w is. subst (λ e. IsPlainStep news c.at.new.self (step w e)) (sym c.in-At.is) (it w is)) c.at.ensures

pub returns-in-Put : goal.returns-in-Put
returns-in-Put c = IfOk-from c.put.result _ _ (λ news it w is. subst (λ e. IsPlainStep news c.put.new.self (step w e)) (sym c.in-Put.is) (it w is)) c.put.ensures

pub returns-in-PutOn : goal.returns-in-PutOn
returns-in-PutOn c = IfOk-from c.put_on.result _ _ (λ news it w is. subst (λ e. IsPlainStep news c.put_on.new.self (step w e)) (sym c.in-PutOn.is) (it w is)) c.put_on.ensures

pub returns-in-Add : goal.returns-in-Add
returns-in-Add c = IfOk-from c.add.result _ _ (λ news it w is. subst (λ e. IsPlainStep news c.add.new.self (step w e)) (sym c.in-Add.is) (it w is)) c.add.ensures

pub returns-in-StopOn : goal.returns-in-StopOn
returns-in-StopOn c = IfOk-from c.stop_on.result _ _ (λ news it w is. subst (λ e. IsPlainStep news c.stop_on.new.self (step w e)) (sym c.in-StopOn.is) (it w is)) c.stop_on.ensures

pub returns-in-Restart : goal.returns-in-Restart
returns-in-Restart c = IfOk-from c.restart.result _ _ (λ news it w is. subst (λ e. IsPlainStep news c.restart.new.self (step w e)) (sym c.in-Restart.is) (it w is)) c.restart.ensures

pub returns-in-Pause : goal.returns-in-Pause
returns-in-Pause c = IfOk-from c.pause.result _ _ (λ news it w is. subst (λ e. IsPlainStep news c.pause.new.self (step w e)) (sym c.in-Pause.is) (it w is)) c.pause.ensures

pub returns-in-Stop : goal.returns-in-Stop
returns-in-Stop c = IfOk-from c.stop.result _ _ (λ news it w is. subst (λ e. IsPlainStep news c.stop.new.self (step w e)) (sym c.in-Stop.is) (it w is)) c.stop.ensures

pub returns-in-Send : goal.returns-in-Send
returns-in-Send c = IfOk-from c.send.result _ _ (λ news it w is. subst (λ e. IsPlainStep news c.send.new.self (step w e)) (sym c.in-Send.is) (it w is)) c.send.ensures

pub returns-in-Carry : goal.returns-in-Carry
returns-in-Carry c = IfOk-from c.carry.result _ _ (λ news it w is. subst (λ e. IsPlainStep news c.carry.new.self (step w e)) (sym c.in-Carry.is) (it w is)) c.carry.ensures

pub returns-in-Give : goal.returns-in-Give
returns-in-Give c = IfOk-from c.give.result _ _ (λ news it w is. subst (λ e. IsPlainStep news c.give.new.self (step w e)) (sym c.in-Give.is)
    (subst (λ stream. IsPlainStep news c.give.new.self (gives_to w stream c.in-Give.stanza w.manager)) c.unnamed.ensures (it w is))) c.give.ensures

pub returns-in-Shut : goal.returns-in-Shut
returns-in-Shut c = IfOk-from c.shut.result _ _ (λ news it w is. subst (λ e. IsPlainStep news c.shut.new.self (step w e)) (sym c.in-Shut.is)
    (subst (λ stream. IsPlainStep news c.shut.new.self (shuts_to w stream c.in-Shut.closing w.manager)) c.unnamed-in-Shut.ensures (it w is))) c.shut.ensures

pub returns-in-GiveOn : goal.returns-in-GiveOn
returns-in-GiveOn c = IfOk-from c.give-in-GiveOn.result _ _ (λ news it w is. subst (λ e. IsPlainStep news c.give-in-GiveOn.new.self (step w e)) (sym c.in-GiveOn.is) (it w is)) c.give-in-GiveOn.ensures

pub returns-in-ShutOn : goal.returns-in-ShutOn
returns-in-ShutOn c = IfOk-from c.shut-in-ShutOn.result _ _ (λ news it w is. subst (λ e. IsPlainStep news c.shut-in-ShutOn.new.self (step w e)) (sym c.in-ShutOn.is) (it w is)) c.shut-in-ShutOn.ensures

pub returns-in-Return : goal.returns-in-Return
returns-in-Return c = IfOk-from c.answer.result _ _ (λ news it w is. subst (λ e. IsPlainStep news c.answer.new.self (step w e)) (sym c.in-Return.is) (it w is)) c.answer.ensures
