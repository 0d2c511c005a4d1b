use Rattle.std.proofs.Common.{refl, arith, sym, subst}
use Rattle.std.proofs.lemmas.Grind.{common_steps}
use Rattle.std.specs.Vec.Iter.{into_iter_items}
use Rattle.script_text.specs.declared.event.Event.TheVariants.{Passes}
use Rattle.script_text.specs.Live.{turn_at}
use Rattle.script_text.proofs.ManagerLemmas.{PassesAway, PassesOn, away_end, away_more, passes_more, passes_end, nothing_left}
use Rattle.script_text.proofs.RestLemmas.{rest_of}
use Rattle.script_text.proofs.manager.Manager.pass_all.Goals as goal

pub loop-live-preserved : goal.loop-live-preserved
loop-live-preserved c = λ whole are. (
  subst (λ lines. PassesOn c.args.now c.sooner-soonest.result lines c.keep_live.new.kept.items (into_iter_items c.next.new.self) whole) (sym c.in_ok-push_all.ensures)
      (passes_more c.args.now c.loop-live.soonest c.sooner-soonest.result _ c.loop-live.kept.items _ _ c.in-Some.live c.in_ok-turned.turned.lines.items whole
      (subst (λ rest. PassesOn c.args.now c.loop-live.soonest c.loop-live.lines.items c.loop-live.kept.items rest whole) (c.in-Some.ensures.steps).0 (c.loop-live.invariant whole are).0)
      c.sooner-soonest.ensures.first
      (λ s is.
      let turn = c.in_ok-turned.ensures s is in
      let after = (turn_at c.args.now Passes s).after in
      (turn.lines, λ through are_kept. c.in_ok-keep_live.ensures.live after turn.live through are_kept, rest_of c.due.result _ after (c.due.ensures after turn.live) c.sooner-soonest.ensures.other))),
  away_more c.args.now c.loop-live.over.items _ _ c.in-Some.live whole
      (subst (λ rest. PassesAway c.args.now c.loop-live.over.items rest whole) (c.in-Some.ensures.steps).0 (c.loop-live.invariant whole are).1)
      (λ s is. c.in_ok-keep_live.ensures.over (turn_at c.args.now Passes s).after (c.in_ok-turned.ensures s is).live),
)

pub returns : goal.returns
returns c = λ m is.
    let none = nothing_left (into_iter_items c.loop-live.live-iterator) (grind (arith, common_steps, (c.in-None.ensures.steps).0)) in
    let all = passes_end c.args.now _ _ _ m.live (subst (λ rest. PassesOn c.args.now c.loop-live.soonest c.loop-live.lines.items c.loop-live.kept.items rest m.live) none (c.loop-live.invariant m.live is.live).0) in
    record {
      lines = all.0;
      over = away_end c.args.now _ m.live (subst (λ rest. PassesAway c.args.now c.loop-live.over.items rest m.live) none (c.loop-live.invariant m.live is.live).1);
      manager = record { hosts = is.hosts; moment = refl; begun = is.begun; opened = is.opened; live = all.1; rest = all.2 };
    }
