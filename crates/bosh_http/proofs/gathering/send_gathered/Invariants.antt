use Rattle.std.proofs.Common.{◌≡◌, map, take}
use Rattle.std.specs.List.{concat}
use Rattle.std.specs.Io.KnownBytes.{Keeps}
use Rattle.bosh_http.proofs.GatheringLemmas.{SoFar}
use Rattle.bosh_http.proofs.gathering.send_gathered.Given as goal

abbrev pub invariant-loop-part : goal.invariant-loop-part
invariant-loop-part g l = record {
  so : SoFar (g.L.Link.given l.fn.link) (g.L.Link.given l.link) l.room.items (concat (map (λ part. part.now) (take l.part-index l.parts)));
  left : Keeps (g.L.Link.left l.fn.link) (g.L.Link.left l.link);
  faults : g.L.Link.faults l.link ≡ g.L.Link.faults l.fn.link;
}
