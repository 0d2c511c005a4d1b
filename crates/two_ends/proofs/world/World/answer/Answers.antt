use Rattle.std.proofs.Common.{◌∙◌, ◌<◌, ap, subst, sym, length, slice_get}
use Rattle.bosh_client.specs.Machine.{answer}
use Rattle.world_laws.specs.Steps.{returned}
use Rattle.two_ends.specs.Worlds.{IsPlainStep}
use Rattle.two_ends.proofs.ReturnLemmas.{return_none, return_some}
use Rattle.two_ends.proofs.TurnLemmas.{IfOk-from, some_of}
use Rattle.two_ends.proofs.world.World.answer.Goals as goal

pub returns-in_ok-body-in-Some : goal.returns-in_ok-body-in-Some
returns-in_ok-body-in-Some c = IfOk-from c.answered.result _ _ (λ news it w is.
    let written = c.written_at-written.result.now in
    return_some c.args.self.now w is c.args.number c.in-Some.place written (some_of _ _ _ c.in-Some.is c.place_of.ensures.some).0
    (ap (λ l. slice_get l c.in-Some.place) (sym c.as_slice-in-Some.ensures.value) ∙ c.written_at-written.ensures) news c.answered.new.self
    (subst (λ b. IsPlainStep news c.answered.new.self (returned w written.rid (answer w.client written.rid b w.moment))) c.in_ok-body-in-Some.ensures (it w is))) c.answered.ensures

pub returns-in-None : goal.returns-in-None
returns-in-None c = IfOk-from c.only.result _ _ (λ news it w is.
    return_none c.args.self.now w is c.args.number (subst (λ l. 0 < c.args.number → length l < c.args.number) c.as_slice.ensures.value (c.place_of.ensures.none c.in-None.is)) news it) c.only.ensures
