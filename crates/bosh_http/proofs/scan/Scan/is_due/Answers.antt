use Rattle.std.proofs.Common.{◌∙◌, sym, ap}
use Rattle.bosh_http.proofs.ScanLemmas.{scans_on, none_on}
use Rattle.bosh_http.proofs.scan.Scan.is_due.Goals as goal

pub returns-then-is_due-clause-scans : goal.returns-then-is_due-clause-scans
returns-then-is_due-clause-scans c = rw c.step-place.ensures (scans_on _ _ _ _ _ c.loop-self-test.true c.loop-self.invariant.scans)

pub loop-self-preserved : goal.loop-self-preserved
loop-self-preserved c = record {
  scans = rw c.step-place.ensures (scans_on _ _ _ _ _ c.loop-self-test.true c.loop-self.invariant.scans);
  none = none_on _ _ _ _ _ c.loop-self-test.true c.args.self.now.seen c.loop-self.invariant.scans c.loop-self.invariant.none
      (ap (λ x. x.1) (sym c.step-place.ensures) ∙ c.if-is_due.false);
}
