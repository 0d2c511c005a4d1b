use Rattle.std.proofs.Common.{◌-◌, length}
use Rattle.bosh_http.specs.Scanning.{Scans, NoHeadEnds}
use Rattle.bosh_http.proofs.scan.Scan.is_due.Given as goal

abbrev pub invariant-loop-self : goal.invariant-loop-self
invariant-loop-self l = record {
  scans : Scans l.self.seen l.self.place l.bytes;
  none : NoHeadEnds l.fn.self.seen l.self.seen l.bytes;
}

abbrev pub decreases-loop-self : goal.decreases-loop-self
decreases-loop-self l = length l.bytes - l.self.seen
