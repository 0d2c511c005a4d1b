use Rattle.std.proofs.Common.{◌≡◌, ◌≤◌, ℕ, List}
use Rattle.std.specs.Prelude.{Option}
use Rattle.std.specs.Io.KnownBytes.{Keeps}
use Rattle.xmpp_stream.specs.Wire.{IsRead, TakesAtLeast}
use Rattle.xmpp_stream.proofs.incoming.Incoming.poll.Given as goal

-- more was taken, and no element came
abbrev pub invariant-loop : goal.invariant-loop
invariant-loop g l = record {
  read : (start : Option (List ℕ)) (elements : List (List ℕ)) → IsRead start (g.L.Link.left l.fn.link) l.fn.self elements → IsRead start (g.L.Link.left l.link) l.self elements;
  given : Keeps (g.L.Link.given l.fn.link) (g.L.Link.given l.link);
  faults : g.L.Link.faults l.fn.link ≤ g.L.Link.faults l.link;
  idle : g.L.PollLink.idle l.link ≡ g.L.PollLink.idle l.fn.link;
  more : TakesAtLeast l.counter (g.L.Link.left l.fn.link) (g.L.Link.left l.link);
}
