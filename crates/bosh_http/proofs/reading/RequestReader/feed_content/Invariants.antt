use Rattle.std.proofs.Common.{◌≡◌}
use Rattle.std.specs.Io.KnownBytes.{Keeps}
use Rattle.bosh_http.proofs.FeedingLemmas.{Feeding}
use Rattle.bosh_http.proofs.reading.RequestReader.feed_content.Given as goal

abbrev pub invariant-loop-left : goal.invariant-loop-left
invariant-loop-left g l = record {
  feeding : Feeding (g.L.Link.left l.fn.link) (g.L.Link.left l.link) l.fn.self l.self-inside.reader (g.F.Feed.fed l.feed) l.head.content l.left;
  given : Keeps (g.L.Link.given l.fn.link) (g.L.Link.given l.link);
  faults : g.L.Link.faults l.link ≡ g.L.Link.faults l.fn.link;
}

abbrev pub decreases-loop-left : goal.decreases-loop-left
decreases-loop-left g l = l.left
