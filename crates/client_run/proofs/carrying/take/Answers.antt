use Rattle.std.proofs.Common.{subst, sym, ◌∙◌, ap}
use Rattle.std.specs.Prelude.{Ok}
use Rattle.server_ports.specs.Events.{Retires}
use Rattle.parked_gate.specs.Passes.{known}
use Rattle.bosh_client.specs.declared.replies.Answered.TheVariants.{Again, Done, Stale, Unmade}
use Rattle.client_run.specs.Asking.{AnswersBy}
use Rattle.client_run.specs.Working.{NamesUpTo, row_passed, setting_of, wire_of}
use Rattle.client_run.proofs.MoveLemmas.{broken, counted_none, settled, wanted}
use Rattle.client_run.proofs.carrying.take.Goals as goal

pub returns-in-Broken-clause-tries : goal.returns-in-Broken-clause-tries
returns-in-Broken-clause-tries g c = λ start old body again row exchanges moves.
    broken (setting_of (g.C.Clock.moment c.args.site.now.clock.now) c.args.site.now.port) start (known c.args.pass.now) (known c.give.new.pass) (g.N.Network.events c.args.network.now) (g.N.Network.counts c.args.network.now) old
    (wire_of (g.N.Link.Link.left c.args.line.link) (g.N.Link.Link.given c.args.line.link) c.args.line.reader) c.args.rid body c.args.answer again row exchanges moves
    (g.N.Network.events c.retire.new.self) (g.N.Network.counts c.retire.new.self) c.in-Broken.field-0
    (subst (λ a. AnswersBy (setting_of (g.C.Clock.moment c.args.site.now.clock.now) c.args.site.now.port) c.args.rid c.args.answer (known c.args.pass.now) (known c.give.new.pass) (Ok a)) c.in-Broken.is c.in-Ok.ensures.answers)
    (subst (λ link. Retires (g.N.Network.events c.args.network.now) (g.N.Network.events c.retire.new.self) (g.N.Link.Link.left link) (g.N.Link.Link.given link)) c.into_link.ensures c.retire.ensures.events)
    (counted_none _ _ _ c.retire.ensures.faults (ap (λ link. g.N.Link.Link.faults link) c.into_link.ensures ∙ c.requires.faultless) c.retire.ensures.others)

pub returns-in-Again-clause-names : goal.returns-in-Again-clause-names
returns-in-Again-clause-names g c = subst (NamesUpTo c.args.rid) c.in-Again.is c.in-Ok.ensures.names

pub returns-in-Again-clause-tries : goal.returns-in-Again-clause-tries
returns-in-Again-clause-tries g c = λ start old body again row exchanges moves.
    settled (setting_of (g.C.Clock.moment c.args.site.now.clock.now) c.args.site.now.port) start (known c.args.pass.now) (known c.give.new.pass) (g.N.Network.events c.args.network.now) (g.N.Network.counts c.args.network.now) old
    (wire_of (g.N.Link.Link.left c.args.line.link) (g.N.Link.Link.given c.args.line.link) c.args.line.reader) c.args.rid body c.args.answer again row exchanges moves (Again c.in-Again.first c.in-Again.last)
    (subst (λ a. AnswersBy (setting_of (g.C.Clock.moment c.args.site.now.clock.now) c.args.site.now.port) c.args.rid c.args.answer (known c.args.pass.now) (known c.give.new.pass) (Ok a)) c.in-Again.is c.in-Ok.ensures.answers)

pub returns-in-Done-clause-tries : goal.returns-in-Done-clause-tries
returns-in-Done-clause-tries g c = λ start old body again row exchanges moves.
    settled (setting_of (g.C.Clock.moment c.args.site.now.clock.now) c.args.site.now.port) start (known c.args.pass.now) (known c.give.new.pass) (g.N.Network.events c.args.network.now) (g.N.Network.counts c.args.network.now) old
    (wire_of (g.N.Link.Link.left c.args.line.link) (g.N.Link.Link.given c.args.line.link) c.args.line.reader) c.args.rid body c.args.answer again row exchanges moves Done
    (subst (λ a. AnswersBy (setting_of (g.C.Clock.moment c.args.site.now.clock.now) c.args.site.now.port) c.args.rid c.args.answer (known c.args.pass.now) (known c.give.new.pass) (Ok a)) c.in-Done.is c.in-Ok.ensures.answers)

pub returns-in-Unmade-clause-tries : goal.returns-in-Unmade-clause-tries
returns-in-Unmade-clause-tries g c = λ start old body again row exchanges moves.
    settled (setting_of (g.C.Clock.moment c.args.site.now.clock.now) c.args.site.now.port) start (known c.args.pass.now) (known c.give.new.pass) (g.N.Network.events c.args.network.now) (g.N.Network.counts c.args.network.now) old
    (wire_of (g.N.Link.Link.left c.args.line.link) (g.N.Link.Link.given c.args.line.link) c.args.line.reader) c.args.rid body c.args.answer again row exchanges moves Unmade
    (subst (λ a. AnswersBy (setting_of (g.C.Clock.moment c.args.site.now.clock.now) c.args.site.now.port) c.args.rid c.args.answer (known c.args.pass.now) (known c.give.new.pass) (Ok a)) c.in-Unmade.is c.in-Ok.ensures.answers)

pub returns-in-Stale-clause-tries : goal.returns-in-Stale-clause-tries
returns-in-Stale-clause-tries g c = λ start old body again row exchanges moves.
    settled (setting_of (g.C.Clock.moment c.args.site.now.clock.now) c.args.site.now.port) start (known c.args.pass.now) (known c.give.new.pass) (g.N.Network.events c.args.network.now) (g.N.Network.counts c.args.network.now) old
    (wire_of (g.N.Link.Link.left c.args.line.link) (g.N.Link.Link.given c.args.line.link) c.args.line.reader) c.args.rid body c.args.answer again row exchanges moves Stale
    (subst (λ a. AnswersBy (setting_of (g.C.Clock.moment c.args.site.now.clock.now) c.args.site.now.port) c.args.rid c.args.answer (known c.args.pass.now) (known c.give.new.pass) (Ok a)) c.in-Stale.is c.in-Ok.ensures.answers)

pub returns-in-Err-clause-tries : goal.returns-in-Err-clause-tries
returns-in-Err-clause-tries g c = λ start old body again row exchanges moves. (
  row_passed row,
  wanted (setting_of (g.C.Clock.moment c.args.site.now.clock.now) c.args.site.now.port) start (known c.args.pass.now) (known c.give.new.pass) (g.N.Network.events c.args.network.now) (g.N.Network.counts c.args.network.now) old
      (wire_of (g.N.Link.Link.left c.args.line.link) (g.N.Link.Link.given c.args.line.link) c.args.line.reader) c.args.rid body c.args.answer again row exchanges moves
      (g.N.Network.events c.retire-in-Err.new.self) (g.N.Network.counts c.retire-in-Err.new.self) c.in-Err.field-0 c.in-Err.ensures.answers
      (subst (λ link. Retires (g.N.Network.events c.args.network.now) (g.N.Network.events c.retire-in-Err.new.self) (g.N.Link.Link.left link) (g.N.Link.Link.given link)) c.into_link-in-Err.ensures c.retire-in-Err.ensures.events)
      (counted_none _ _ _ c.retire-in-Err.ensures.faults (ap (λ link. g.N.Link.Link.faults link) c.into_link-in-Err.ensures ∙ c.requires.faultless) c.retire-in-Err.ensures.others),
)
