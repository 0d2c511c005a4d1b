use Rattle.std.proofs.Common.{◌≡◌, map, take}
use Rattle.std.specs.List.{concat}
use Rattle.std.specs.Io.KnownBytes.{Appends, Keeps}
use Rattle.bosh_ports.proofs.sending.send_parts.Given as goal

abbrev pub invariant-loop-part : goal.invariant-loop-part
invariant-loop-part g l = record {
  given : Appends (g.L.Link.given l.fn.link) (g.L.Link.given l.link) (concat (map (λ part. part.now) (take l.part-index l.parts)));
  left : Keeps (g.L.Link.left l.fn.link) (g.L.Link.left l.link);
  faults : g.L.Link.faults l.link ≡ g.L.Link.faults l.fn.link;
}
