use Rattle.bosh_http.specs.declared.scan.Place.TheVariants.{Before}
use Rattle.bosh_http.proofs.ScanLemmas.{scans_none}
use Rattle.bosh_http.proofs.scan.Scan.response.Goals as goal

pub returns-clause-scans : goal.returns-clause-scans
returns-clause-scans c = λ bytes. scans_none Before bytes
