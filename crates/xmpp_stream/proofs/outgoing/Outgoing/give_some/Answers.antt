use Rattle.std.proofs.Common.{ℕ, List, subst, take}
use Rattle.std.specs.Io.KnownBytes.{Appends}
use Rattle.xmpp_stream.proofs.WireLemmas.{gave_wrote, written_out}
use Rattle.xmpp_stream.proofs.outgoing.Outgoing.give_some.Goals as goal

pub returns-in-Wrote-clause-written : goal.returns-in-Wrote-clause-written
returns-in-Wrote-clause-written g c = λ start passed h.
    let old = g.L.Link.given c.args.link.now in
    let new = g.L.Link.given c.try_give.new.self in
    let k = gave_wrote old new c.as_slice.result.now c.in-Some.gave c.in-Wrote.count c.in-Wrote.is c.in-Some.ensures.gives in
    let a : Appends old new (take c.in-Wrote.count c.args.self.now.owed) = subst (λ (xs : List ℕ). Appends old new (take c.in-Wrote.count xs)) c.as_slice.ensures k.2 in
    written_out h new c.in-Wrote.count c.skip.new.self a c.skip.ensures
