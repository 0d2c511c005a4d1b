use Rattle.std.proofs.Common.{◌+◌, ◌<◌, ◌∙◌, arith, drop, length, subst, sym}
use Rattle.world_laws.specs.Setup.{IsAllowed}
use Rattle.world_laws.specs.Steps.{after, step}
use Rattle.world_laws.specs.World.{new_world}
use Rattle.two_ends.specs.Worlds.{IsWorld}
use Rattle.two_ends.proofs.TimingLemmas.{IsSoFar, event_place, from_first, none_past, so_far_all, so_far_late, so_far_more}
use Rattle.two_ends.proofs.world.World.all_in_time.Goals as goal

pub returns-then-not-is_in_time : goal.returns-then-not-is_in_time
returns-then-not-is_in_time c = λ host greeting setup begins is.
    let w = new_world host greeting setup in
    let events = c.args.events.now in
    let i = c.loop-event.event-index in
    let item = c.event-item.result in
    let on : IsSoFar c.loop-event.self w events _ =
    subst (IsSoFar c.loop-event.self w events) (event_place events i item (omega (arith, c.loop-event-test.true)) c.event-item.is) (c.loop-event.invariant host greeting setup begins is) in
    let v = after w on.done in
    let from = from_first setup v (c.every_world_keeps_both_prefixes.ensures.sound host greeting setup on.done begins on.allowed) in
    so_far_late c.loop-event.self w events (drop (i + 1) events) item on (sym (c.is_in_time.ensures v on.world_is from) ∙ c.if-not-is_in_time.true)

pub loop-event-preserved : goal.loop-event-preserved
loop-event-preserved c = λ host greeting setup begins is.
    let w = new_world host greeting setup in
    let events = c.args.events.now in
    let i = c.loop-event.event-index in
    let item = c.event-item.result in
    let within : i < length events = omega (arith, c.loop-event-test.true) in
    let on : IsSoFar c.loop-event.self w events _ = subst (IsSoFar c.loop-event.self w events) (event_place events i item within c.event-item.is) (c.loop-event.invariant host greeting setup begins is) in
    let v = after w on.done in
    let from = from_first setup v (c.every_world_keeps_both_prefixes.ensures.sound host greeting setup on.done begins on.allowed) in
    so_far_more c.loop-event.self c.step.new.self w events (drop (i + 1) events) item (subst IsAllowed (sym c.event-item.is) (c.requires i item within)) on
    (sym (c.is_in_time.ensures v on.world_is from) ∙ c.if-not-is_in_time.false)
    (subst (λ e. IsWorld c.step.new.self (step v e).after) c.in_ok-event.ensures (c.in_ok-step.ensures v on.world_is).world_is)

pub returns : goal.returns
returns c = λ host greeting setup begins is.
    let w = new_world host greeting setup in
    so_far_all c.loop-event.self w c.args.events.now
    (subst (IsSoFar c.loop-event.self w c.args.events.now) (none_past c.args.events.now c.loop-event.event-index (omega (arith, c.loop-event-test.false))) (c.loop-event.invariant host greeting setup begins is))
