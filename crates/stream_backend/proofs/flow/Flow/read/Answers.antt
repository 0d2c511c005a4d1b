use Rattle.std.proofs.Common.{◌≡◌, refl}
use Rattle.bosh_ports.specs.Faults.{HasRisen}
use Rattle.xmpp_stream.specs.declared.incoming.Came.{Came}
use Rattle.xmpp_stream.specs.declared.incoming.Came.TheVariants as came
use Rattle.xmpp_stream.specs.Wire.{Comes, TakesAtLeast}
use Rattle.xmpp_stream.proofs.ScanLemmas.{ok_is}
use Rattle.stream_backend.proofs.FlowLemmas.{flow_heard}
use Rattle.stream_backend.proofs.flow.Flow.read.Goals as goal

pub invariant_of-self-2 : goal.invariant_of-self-2
invariant_of-self-2 g c =
    let what = c.in_ok-came.came in
    let link = c.self.inside.stream.link in
    let after = c.poll.new.link in
    let start = g.L.Link.left c.self.inside.start.value in
    let was = c.in_ok-came.was in
    (flow_heard _ _ c.self.invariant what (record {
      same = record { start_given = refl; start_left = refl; to = refl; passed = refl };
      outgoing = refl;
      came_is = c.note.ensures;
      given = c.poll.ensures.given;
      faults = c.poll.ensures.faults;
      idle = c.poll.ensures.never_falls;
      comes = λ elements r. ok_is (λ (w : Came). Comes w start (g.L.Link.left after) c.poll.new.self elements) c.poll.result what was (c.poll.ensures.ok start elements r);
      failed = ok_is (λ (w : Came). w ≡ came.Failed → HasRisen (g.L.Link.faults link) (g.L.Link.faults after)) c.poll.result what was c.poll.ensures.failed;
      waits = ok_is (λ (w : Came). w ≡ came.NotYet → HasRisen (g.L.PollLink.idle link) (g.L.PollLink.idle after)) c.poll.result what was c.poll.ensures.waits;
      busy = ok_is (λ (w : Came). w ≡ came.Busy → TakesAtLeast 128 (g.L.Link.left link) (g.L.Link.left after)) c.poll.result what was c.poll.ensures.busy;
    })).0

pub returns-clause-ok : goal.returns-clause-ok
returns-clause-ok g c =
    let what = c.in_ok-came.came in
    let link = c.self.inside.stream.link in
    let after = c.poll.new.link in
    let start = g.L.Link.left c.self.inside.start.value in
    let was = c.in_ok-came.was in
    rw (← c.self.view_is) (flow_heard _ _ c.self.invariant what (record {
      same = record { start_given = refl; start_left = refl; to = refl; passed = refl };
      outgoing = refl;
      came_is = c.note.ensures;
      given = c.poll.ensures.given;
      faults = c.poll.ensures.faults;
      idle = c.poll.ensures.never_falls;
      comes = λ elements r. ok_is (λ (w : Came). Comes w start (g.L.Link.left after) c.poll.new.self elements) c.poll.result what was (c.poll.ensures.ok start elements r);
      failed = ok_is (λ (w : Came). w ≡ came.Failed → HasRisen (g.L.Link.faults link) (g.L.Link.faults after)) c.poll.result what was c.poll.ensures.failed;
      waits = ok_is (λ (w : Came). w ≡ came.NotYet → HasRisen (g.L.PollLink.idle link) (g.L.PollLink.idle after)) c.poll.result what was c.poll.ensures.waits;
      busy = ok_is (λ (w : Came). w ≡ came.Busy → TakesAtLeast 128 (g.L.Link.left link) (g.L.Link.left after)) c.poll.result what was c.poll.ensures.busy;
    })).1
