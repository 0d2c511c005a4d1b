use Rattle.bosh_http.proofs.ReaderLemmas.{stands_anew}
use Rattle.bosh_http.proofs.reader.Reader.pass.Goals as goal

pub invariant_of-self : goal.invariant_of-self
invariant_of-self g c = stands_anew g.H.Heads.lacks c.scan.result c.pass.new.self (c.scan.ensures.scans c.pass.new.self) c.scan.ensures.none c.laws.ensures.empty_lacks
