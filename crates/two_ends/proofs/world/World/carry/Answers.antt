use Rattle.std.proofs.Common.{◌∙◌, ◌+◌, ◌≤◌, ap, subst, sym, length, slice_get}
use Rattle.std.specs.Prelude.{Some}
use Rattle.two_ends.proofs.CopyLemmas.{carry_none, carry_some}
use Rattle.two_ends.proofs.TurnLemmas.{IfOk-from, some_of}
use Rattle.two_ends.proofs.world.World.carry.Goals as goal

pub returns-in_ok-body-in-Some : goal.returns-in_ok-body-in-Some
returns-in_ok-body-in-Some c = IfOk-from c.carried.result _ _ (λ news it w is.
    carry_some c.args.self.now w is c.args.rid c.in-Some.place c.in_ok-body-in-Some.body (some_of _ _ _ c.in-Some.is c.place_in.ensures.some).0
    (ap (λ l. slice_get l c.in-Some.place) (sym c.as_slice-in-Some.ensures.value) ∙ c.body_at.ensures ∙ ap Some (sym c.in_ok-body-in-Some.ensures)) news _ (it w is)) c.carried.ensures

pub returns-in-None : goal.returns-in-None
returns-in-None c = IfOk-from c.only.result _ _ (λ news it w is.
    carry_none c.args.self.now w is c.args.rid (subst (λ l. c.args.self.now.first ≤ c.args.rid → c.args.self.now.first + length l ≤ c.args.rid) c.as_slice.ensures.value (c.place_in.ensures.none c.in-None.is)) news it) c.only.ensures
