use Rattle.std.proofs.Common.{◌≡◌, ◌+◌, ◌-◌, length}
use Rattle.std.specs.Io.KnownBytes.{Keeps}
use Rattle.bosh_http.specs.Message.{longest_head, longest_content}
use Rattle.bosh_http.specs.Taking.{TakesMore}
use Rattle.bosh_http.proofs.reader.Reader.next.Given as goal

abbrev pub invariant-loop-body : goal.invariant-loop-body
invariant-loop-body g l = record {
  takes : TakesMore (g.L.Link.left l.fn.link) (g.L.Link.left l.link) l.fn.self l.self;
  given : Keeps (g.L.Link.given l.fn.link) (g.L.Link.given l.link);
  faults : g.L.Link.faults l.link ≡ g.L.Link.faults l.fn.link;
}

abbrev pub decreases-loop-body : goal.decreases-loop-body
decreases-loop-body g l = longest_head + longest_content - length l.self
