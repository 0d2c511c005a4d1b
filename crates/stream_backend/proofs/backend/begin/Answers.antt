use Rattle.std.proofs.Common.{◌≢◌, List, refl, subst}
use Rattle.std.specs.Prelude.{All}
use Rattle.stream_backend.specs.Lines.{Line}
use Rattle.stream_backend.specs.Serving.{IsPlaceFor}
use Rattle.stream_backend.proofs.PollLemmas.{begins_behind, begins_there}
use Rattle.stream_backend.proofs.backend.begin.Goals as goal

pub returns-in-Some : goal.returns-in-Some
returns-in-Some g c =
    begins_there c.args.wire c.in-Some.at c.args.lists.now c.args.ends.outgoing.to (g.N.Network.counts c.args.network.now) (g.N.Network.counts c.begin_at.new.network) c.args.lines.now.items c.begin_at.new.line
    (subst (IsPlaceFor c.args.wire c.in-Some.at) c.deref.ensures.value c.in-Some.ensures.some) c.begin_at.ensures

pub returns-in-None : goal.returns-in-None
returns-in-None g c =
    begins_behind c.args.wire c.args.lists.now c.args.ends.outgoing.to (g.N.Network.counts c.args.network.now) (g.N.Network.counts c.dial-line.new.network) c.args.lines.now.items c.push_reserved.new.self.items c.dial-line.result
    c.push_reserved.ensures.items (subst (All (λ (l : Line). l.wire ≢ c.args.wire)) c.deref.ensures.value c.in-None.ensures.none)
    (record { mid = g.N.Network.counts c.args.network.now; dialled = refl; begins = c.dial-line.ensures })
