use Rattle.std.proofs.Common.{sym, subst}
use Rattle.bosh_http.specs.Reader.{StandsAt}
use Rattle.bosh_http.proofs.ReaderLemmas.{stands_more}
use Rattle.bosh_http.proofs.reader.Reader.fill.Goals as goal

pub invariant_of-self : goal.invariant_of-self
invariant_of-self g c =
    let inside = c.self.inside in
    let more = c.fill.ensures.takes in
    subst (StandsAt g.H.Heads.reads g.H.Heads.lacks inside.stage) (sym more.2)
    (stands_more g.H.Heads.reads g.H.Heads.lacks inside.stage inside.taken more.0 (λ start content said. c.laws.ensures.reads_more inside.taken more.0 start content said) c.self.invariant)
