use Rattle.std.proofs.Common.{◌∙◌, arith, subst}
use Rattle.std.specs.Prelude.{Option}
use Rattle.xmpp_stream.specs.declared.incoming.Came.{Came}
use Rattle.xmpp_stream.specs.Wire.{Steps}
use Rattle.xmpp_stream.proofs.ReadLemmas.{took_more}
use Rattle.xmpp_stream.proofs.ScanLemmas.{none_is, ok_is}
use Rattle.xmpp_stream.proofs.WireLemmas.{keeps_on}
use Rattle.xmpp_stream.proofs.incoming.Incoming.poll.Goals as goal

pub returns-in-Some-clause-ok : goal.returns-in-Some-clause-ok
returns-in-Some-clause-ok g c = λ start elements h.
    let after = g.L.Link.left c.step.new.link in
    let told : Steps c.in_ok-came.field-0 start after c.step.new.self elements =
    ok_is (λ (came : Option Came). Steps came start after c.step.new.self elements) c.step.result c.in_ok-came.field-0 c.in_ok-came.was (c.step.ensures.ok start elements (c.loop.invariant.read start elements h)) in
    subst (λ (came : Option Came). Steps came start after c.step.new.self elements) c.in-Some.is told

pub loop-preserved : goal.loop-preserved
loop-preserved g c = record {
  read = λ start elements h.
      let after = g.L.Link.left c.step.new.link in
      let told : Steps c.in_ok-came.field-0 start after c.step.new.self elements =
      ok_is (λ (came : Option Came). Steps came start after c.step.new.self elements) c.step.result c.in_ok-came.field-0 c.in_ok-came.was (c.step.ensures.ok start elements (c.loop.invariant.read start elements h)) in
      subst (λ (came : Option Came). Steps came start after c.step.new.self elements) c.in-None.is told;
  given = keeps_on (g.L.Link.given c.args.link.now) (g.L.Link.given c.loop.link) (g.L.Link.given c.step.new.link) c.loop.invariant.given c.step.ensures.given;
  faults = omega (arith, c.loop.invariant.faults, c.step.ensures.faults);
  idle = none_is c.in_ok-came.field-0 c.in-None.is c.in_ok-came.ensures.still ∙ c.loop.invariant.idle;
  more = took_more (g.L.Link.left c.args.link.now) (g.L.Link.left c.loop.link) (g.L.Link.left c.step.new.link) c.loop.counter c.loop.invariant.more (none_is c.in_ok-came.field-0 c.in-None.is c.in_ok-came.ensures.more);
}
