use Rattle.std.proofs.Common.{◌≡◌, ◌∙◌, ℕ, true, false, ap, map, subst, sym}
use Rattle.script_text.specs.declared.line.BadKind.TheVariants.{Copy, Time}
use Rattle.session_laws.proofs.Tests.{if_false, if_true}
use Rattle.world_laws.specs.declared.event.WorldEvent.{WorldEvent}
use Rattle.world_laws.specs.Steps as worlds
use Rattle.two_ends.specs.Worlds.{IsWorld}
use Rattle.world_laws.specs.World.{PlainWorld}
use Rattle.pair_text.specs.declared.report.PairReport.TheVariants.{Saw}
use Rattle.pair_text.specs.Script.{PairStep, Goes, Meeting, bad_step, event_step, is_no_copy, is_past, seen_step}
use Rattle.pair_text.specs.Stands.{Does}
use Rattle.pair_text.proofs.LoadSteps.{ok_map}
use Rattle.pair_text.proofs.run.happens.Goals as goal

-- what an event does, by the two tests
past : (w : PlainWorld) (n : ℕ) (event : WorldEvent) → is_past w event ≡ true → event_step w n event ≡ bad_step n Time
past w n event is = if_true (is_past w event) (bad_step n Time) (seen_step n (worlds.step w event)) is

not_past : (w : PlainWorld) (n : ℕ) (event : WorldEvent) → is_past w event ≡ false → event_step w n event ≡ seen_step n (worlds.step w event)
not_past w n event is = if_false (is_past w event) (bad_step n Time) (seen_step n (worlds.step w event)) is

no_copy : (n : ℕ) (step : worlds.Step) → is_no_copy step.seen ≡ true → seen_step n step ≡ bad_step n Copy
no_copy n step is = if_true (is_no_copy step.seen) (bad_step n Copy) (record { lines = map Saw step.seen; next = Goes (Meeting step.after) }) is

a_copy : (n : ℕ) (step : worlds.Step) → is_no_copy step.seen ≡ false → seen_step n step ≡ record { lines = map Saw step.seen; next = Goes (Meeting step.after) }
a_copy n step is = if_false (is_no_copy step.seen) (bad_step n Copy) (record { lines = map Saw step.seen; next = Goes (Meeting step.after) }) is

pub step-requires : goal.step-requires
step-requires c = c.requires

pub returns-then-is_past : goal.returns-then-is_past
returns-then-is_past c = ok_map c.bad.result _ _
    (λ effect does w is. subst (Does effect) (sym (past w c.args.n c.args.event (sym (c.is_past.ensures w (subst (λ x. IsWorld x w) (sym c.deref.ensures) is)) ∙ c.if-is_past.true))) does) c.bad.ensures

pub returns-then-is_no_copy : goal.returns-then-is_no_copy
returns-then-is_no_copy c = ok_map c.bad-then-is_no_copy.result _ _
    (λ effect does w is. subst (Does effect)
    (sym (not_past w c.args.n c.args.event (sym (c.is_past.ensures w (subst (λ x. IsWorld x w) (sym c.deref.ensures) is)) ∙ c.if-is_past.false)
    ∙ no_copy c.args.n (worlds.step w c.args.event)
    (ap is_no_copy (sym (c.as_slice.ensures ∙ (c.in_ok-seen.ensures w (subst (λ x. IsWorld x w) (sym c.deref_mut.ensures.value) is)).seen_is)) ∙ sym c.is_no_copy.ensures ∙ c.if-is_no_copy.true)))
    does) c.bad-then-is_no_copy.ensures

pub returns : goal.returns
returns c = λ w is.
    let stepped = c.in_ok-seen.ensures w (subst (λ x. IsWorld x w) (sym c.deref_mut.ensures.value) is) in
    subst (Does _)
    (sym (not_past w c.args.n c.args.event (sym (c.is_past.ensures w (subst (λ x. IsWorld x w) (sym c.deref.ensures) is)) ∙ c.if-is_past.false)
    ∙ a_copy c.args.n (worlds.step w c.args.event)
    (ap is_no_copy (sym (c.as_slice.ensures ∙ stepped.seen_is)) ∙ sym c.is_no_copy.ensures ∙ c.if-is_no_copy.false)))
    (record { lines = c.in_ok-lines.ensures ∙ ap (map Saw) stepped.seen_is; next = stepped.world_is })
