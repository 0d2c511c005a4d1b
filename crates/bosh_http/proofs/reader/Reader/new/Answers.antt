use Rattle.bosh_http.proofs.ReaderLemmas.{stands_anew}
use Rattle.bosh_http.proofs.reader.Reader.new.Goals as goal

pub invariant_of-result : goal.invariant_of-result
invariant_of-result g c = stands_anew g.H.Heads.lacks c.scan.result c.new.result (c.scan.ensures.scans c.new.result) c.scan.ensures.none c.laws.ensures.empty_lacks
