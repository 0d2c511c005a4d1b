use Rattle.std.proofs.Common.{subst, sym, ◌∙◌, ap, ◌<◌}
use Rattle.server_ports.specs.Events.{Retires}
use Rattle.client_run.specs.Working.{Exchanges, Refuses, Tries, row_passed, wire_of}
use Rattle.client_run.proofs.MoveLemmas.{counted_fault, counted_none, failed, refused_with, unanswered}
use Rattle.client_run.proofs.carrying.try_once.Goals as goal

pub returns-in-Body-clause-tries : goal.returns-in-Body-clause-tries
returns-in-Body-clause-tries g c = λ start again row moves.
    c.take.ensures.tries start (wire_of (g.N.Link.Link.left c.in-Some.line.link) (g.N.Link.Link.given c.in-Some.line.link) c.in-Some.line.reader) c.args.body.now again row
    (subst (λ body. Exchanges (wire_of (g.N.Link.Link.left c.in-Some.line.link) (g.N.Link.Link.given c.in-Some.line.link) c.in-Some.line.reader) (wire_of (g.N.Link.Link.left c.exchange.new.self.link) (g.N.Link.Link.given c.exchange.new.self.link) c.exchange.new.self.reader) body c.in-Body.answer) c.as_slice.ensures (c.in-Body.ensures).0)
    (c.in-Some.ensures.opens _ start _ _ row moves)

pub returns-in-Refused-clause-tries : goal.returns-in-Refused-clause-tries
returns-in-Refused-clause-tries g c = λ start again row moves.
    refused_with _ start _ _ (g.N.Network.events c.retire.new.self) _ (g.N.Network.counts c.retire.new.self) (wire_of (g.N.Link.Link.left c.in-Some.line.link) (g.N.Link.Link.given c.in-Some.line.link) c.in-Some.line.reader) (wire_of (g.N.Link.Link.left c.exchange.new.self.link) (g.N.Link.Link.given c.exchange.new.self.link) c.exchange.new.self.reader) c.args.rid c.args.body.now again row c.in-Refused.status
    (subst (λ body. Refuses (wire_of (g.N.Link.Link.left c.in-Some.line.link) (g.N.Link.Link.given c.in-Some.line.link) c.in-Some.line.reader) (wire_of (g.N.Link.Link.left c.exchange.new.self.link) (g.N.Link.Link.given c.exchange.new.self.link) c.exchange.new.self.reader) body c.in-Refused.status) c.as_slice.ensures (c.in-Refused.ensures).0)
    (subst (λ link. Retires (g.N.Network.events c.open.new.network) (g.N.Network.events c.retire.new.self) (g.N.Link.Link.left link) (g.N.Link.Link.given link)) c.into_link.ensures c.retire.ensures.events)
    (counted_none _ _ _ c.retire.ensures.faults (ap (λ link. g.N.Link.Link.faults link) c.into_link.ensures ∙ (c.in-Refused.ensures).1) c.retire.ensures.others)
    (c.in-Some.ensures.opens _ start _ _ row moves)

pub returns-in-Nothing-clause-tries : goal.returns-in-Nothing-clause-tries
returns-in-Nothing-clause-tries g c = λ start again row moves.
    unanswered _ start _ _ _ _ _ _
    (wire_of (g.N.Link.Link.left c.exchange.new.self.link) (g.N.Link.Link.given c.exchange.new.self.link) c.exchange.new.self.reader) _ _ again row
    (subst (λ body. Tries (wire_of (g.N.Link.Link.left c.in-Some.line.link) (g.N.Link.Link.given c.in-Some.line.link) c.in-Some.line.reader) (wire_of (g.N.Link.Link.left c.exchange.new.self.link) (g.N.Link.Link.given c.exchange.new.self.link) c.exchange.new.self.reader) body) c.as_slice.ensures (c.in-Nothing.ensures).0)
    (subst (λ link. Retires (g.N.Network.events c.open.new.network) (g.N.Network.events c.retire-in-Nothing.new.self) (g.N.Link.Link.left link) (g.N.Link.Link.given link)) c.into_link-in-Nothing.ensures c.retire-in-Nothing.ensures.events)
    (c.in-Some.ensures.opens _ start _ _ row moves)
    (counted_none _ _ _ c.retire-in-Nothing.ensures.faults (ap (λ link. g.N.Link.Link.faults link) c.into_link-in-Nothing.ensures ∙ (c.in-Nothing.ensures).1) c.retire-in-Nothing.ensures.others)

pub returns-in-Fault-clause-tries : goal.returns-in-Fault-clause-tries
returns-in-Fault-clause-tries g c = λ start again row moves.
    failed _ start _ _ _ _ _ _
    (wire_of (g.N.Link.Link.left c.exchange.new.self.link) (g.N.Link.Link.given c.exchange.new.self.link) c.exchange.new.self.reader) _ _ again row
    (subst (λ body. Tries (wire_of (g.N.Link.Link.left c.in-Some.line.link) (g.N.Link.Link.given c.in-Some.line.link) c.in-Some.line.reader) (wire_of (g.N.Link.Link.left c.exchange.new.self.link) (g.N.Link.Link.given c.exchange.new.self.link) c.exchange.new.self.reader) body) c.as_slice.ensures (c.in-Fault.ensures).0)
    (subst (λ link. Retires (g.N.Network.events c.open.new.network) (g.N.Network.events c.retire-in-Fault.new.self) (g.N.Link.Link.left link) (g.N.Link.Link.given link)) c.into_link-in-Fault.ensures c.retire-in-Fault.ensures.events)
    (c.in-Some.ensures.opens _ start _ _ row moves)
    (counted_fault _ _ _ c.retire-in-Fault.ensures.faults (subst (λ link. 0 < g.N.Link.Link.faults link) (sym c.into_link-in-Fault.ensures) (c.in-Fault.ensures).1) c.retire-in-Fault.ensures.others)

pub returns-in-NoMemory-clause-tries : goal.returns-in-NoMemory-clause-tries
returns-in-NoMemory-clause-tries g c = λ start again row moves. (
  row_passed row,
  unanswered _ start _ _ _ _ _ _
      (wire_of (g.N.Link.Link.left c.exchange.new.self.link) (g.N.Link.Link.given c.exchange.new.self.link) c.exchange.new.self.reader) _ _ again row
      (subst (λ body. Tries (wire_of (g.N.Link.Link.left c.in-Some.line.link) (g.N.Link.Link.given c.in-Some.line.link) c.in-Some.line.reader) (wire_of (g.N.Link.Link.left c.exchange.new.self.link) (g.N.Link.Link.given c.exchange.new.self.link) c.exchange.new.self.reader) body) c.as_slice.ensures (c.in-NoMemory.ensures).0)
      (subst (λ link. Retires (g.N.Network.events c.open.new.network) (g.N.Network.events c.retire-in-NoMemory.new.self) (g.N.Link.Link.left link) (g.N.Link.Link.given link)) c.into_link-in-NoMemory.ensures c.retire-in-NoMemory.ensures.events)
      (c.in-Some.ensures.opens _ start _ _ row moves)
      (counted_none _ _ _ c.retire-in-NoMemory.ensures.faults (ap (λ link. g.N.Link.Link.faults link) c.into_link-in-NoMemory.ensures ∙ (c.in-NoMemory.ensures).1) c.retire-in-NoMemory.ensures.others),
)
