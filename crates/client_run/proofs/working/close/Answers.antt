use Rattle.std.proofs.Common.{◌≡◌, ◌∙◌, ap, subst}
use Rattle.std.specs.Prelude.{IfSome}
use Rattle.std.specs.Option.{option_map}
use Rattle.server_ports.specs.Events.{Retires}
use Rattle.client_run.specs.Working.{Moves, side_of, wire_of}
use Rattle.client_run.proofs.MoveLemmas.{closed, counted_none}
use Rattle.client_run.proofs.working.close.Goals as goal

pub returns-in-Some : goal.returns-in-Some
returns-in-Some g c = record {
  closes = λ setting start known hand row moves.
      closed setting start known (g.N.Network.events c.args.network.now) (g.N.Network.events c.retire.new.self) (g.N.Network.counts c.args.network.now) (g.N.Network.counts c.retire.new.self)
      (wire_of (g.N.Link.Link.left c.in-Some.line.link) (g.N.Link.Link.given c.in-Some.line.link) c.in-Some.line.reader) hand row
      (subst (λ link. Retires (g.N.Network.events c.args.network.now) (g.N.Network.events c.retire.new.self) (g.N.Link.Link.left link) (g.N.Link.Link.given link)) c.into_link.ensures c.retire.ensures.events)
      (counted_none _ _ _ c.retire.ensures.faults
      (ap (λ link. g.N.Link.Link.faults link) c.into_link.ensures ∙ subst (λ line. IfSome line (λ l. g.N.Link.Link.faults l.link ≡ 0)) c.in-Some.is c.requires)
      c.retire.ensures.others)
      (subst (λ line. Moves setting start (side_of known (g.N.Network.events c.args.network.now) (g.N.Network.counts c.args.network.now) (option_map (λ line. wire_of (g.N.Link.Link.left line.link) (g.N.Link.Link.given line.link) line.reader) line) hand row)) c.in-Some.is moves);
}
