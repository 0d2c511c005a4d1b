use Rattle.std.proofs.Common.{arith, sym, subst}
use Rattle.std.proofs.lemmas.Grind.{common_steps}
use Rattle.std.specs.Vec.Iter.{into_iter_items}
use Rattle.script_text.proofs.ManagerLemmas.{ClosesOn, closes_more, closes_end, none_live, nothing_left}
use Rattle.script_text.proofs.RestLemmas.{rest_closed}
use Rattle.script_text.proofs.manager.Manager.close.Goals as goal

pub loop-live-preserved : goal.loop-live-preserved
loop-live-preserved c = λ whole are.
    subst (λ kept. ClosesOn c.args.conn kept (into_iter_items c.next.new.self) whole) (sym c.in_ok-push.ensures.items)
    (closes_more c.args.conn _ _ c.in-Some.live c.close.result whole
    (subst (λ rest. ClosesOn c.args.conn c.loop-live.kept.items rest whole) (c.in-Some.ensures.steps).0 (c.loop-live.invariant whole are)) c.close.ensures)

pub returns : goal.returns
returns c = λ m is.
    let none = nothing_left (into_iter_items c.loop-live.live-iterator) (grind (arith, common_steps, (c.in-None.ensures.steps).0)) in
    record {
      lines = c.new.ensures.items;
      over = none_live _ c.new-2.ensures.items;
      manager = record {
        hosts = is.hosts;
        moment = is.moment;
        begun = is.begun;
        opened = is.opened;
        live = closes_end c.args.conn _ m.live (subst (λ rest. ClosesOn c.args.conn c.loop-live.kept.items rest m.live) none (c.loop-live.invariant m.live is.live));
        rest = rest_closed c.args.self.soonest c.args.conn m.live is.rest;
      };
    }
