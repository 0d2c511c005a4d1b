use Rattle.std.proofs.Common.{◌≡◌, ◌∙◌, arith, subst, sym}
use Rattle.std.specs.Prelude.{All}
use Rattle.std.proofs.lemmas.Grind.{common_steps}
use Rattle.std.proofs.lemmas.List.Elements.{All-head, All-tail}
use Rattle.std.specs.Vec.Iter.{into_iter_items}
use Rattle.world_laws.specs.Setup.{IsAllowed}
use Rattle.world_laws.specs.Steps.{after, report}
use Rattle.world_laws.specs.World.{PlainWorld, new_world}
use Rattle.two_ends.specs.Worlds.{IsWorld}
use Rattle.two_ends.proofs.RunningLemmas.{RunsOn, no_event_left, run_shows, runs_end, runs_more}
use Rattle.two_ends.proofs.world.World.run.Goals as goal

pub step-requires : goal.step-requires
step-requires c = All-head IsAllowed c.in-Some.event (into_iter_items c.next.new.self) (subst (λ l. All IsAllowed l) (c.in-Some.ensures.steps).0 c.loop-event.invariant.1)

pub loop-event-preserved : goal.loop-event-preserved
loop-event-preserved c =
    let rest = into_iter_items c.next.new.self in (
      λ w is.
          subst (λ seen. RunsOn c.step.new.self seen rest w c.args.events.items) (sym c.in_ok-push.ensures.items)
          (runs_more c.loop-event.self c.step.new.self c.loop-event.report.items c.in-Some.event rest w c.args.events.items c.in_ok-seen.seen c.in_ok-seen.ensures
          (subst (λ l. RunsOn c.loop-event.self c.loop-event.report.items l w c.args.events.items) (c.in-Some.ensures.steps).0 (c.loop-event.invariant.0 w is))),
      All-tail IsAllowed c.in-Some.event rest (subst (λ l. All IsAllowed l) (c.in-Some.ensures.steps).0 c.loop-event.invariant.1),
    )

-- the whole run, from any plain world that the world stood for
pub returns : goal.returns
returns c =
    let none = no_event_left (into_iter_items c.loop-event.event-iterator) (grind (arith, common_steps, (c.in-None.ensures.steps).0)) in
    let done : (w : PlainWorld) → IsWorld c.args.self.now w → (c.loop-event.report.items ≡ report w c.args.events.items) × IsWorld c.loop-event.self (after w c.args.events.items) = λ w is.
    runs_end c.loop-event.self c.loop-event.report.items w c.args.events.items
    (subst (λ l. RunsOn c.loop-event.self c.loop-event.report.items l w c.args.events.items) none (c.loop-event.invariant.0 w is)) in
    record {
      run = λ w is. record { report_is = c.from_vec.ensures ∙ (done w is).0; world_is = (done w is).1 };
      prefixes = λ host greeting setup begins is.
          let w = new_world host greeting setup in
          run_shows w c.args.events.items _ (c.from_vec.ensures ∙ (done w is).0)
          (c.every_world_keeps_both_prefixes.ensures.shown host greeting setup c.args.events.items begins c.requires)
          (c.every_world_keeps_both_prefixes.ensures.prefixes host greeting setup c.args.events.items begins c.requires);
      complete = λ host greeting setup begins is timely. c.timely_worlds_are_complete.ensures.complete host greeting setup c.args.events.items begins c.requires timely;
    }
