use Rattle.parked_gate.specs.Passes.{known}
use Rattle.trail_laws.proofs.ChainLemmas.{chain_asks, chain_sees}
use Rattle.trail_laws.proofs.EndLemmas.{served_adds, served_chain}
use Rattle.trail_laws.proofs.NameLemmas.{chain_names}
use Rattle.trail_laws.proofs.SupersedingLemmas.{superseded_by_others}
use Rattle.trail_laws.proofs.laws.each_trail_tells_the_directory.Goals as goal

pub returns : goal.returns
returns c = record {
  asks = λ site start left given added purse faults end serves.
      chain_asks site.limits (known start.purse.directory) (known purse.directory) added (served_chain site start left given added purse faults end serves);
  sees = λ site start left given added purse faults end serves.
      chain_sees site.limits (known start.purse.directory) (known purse.directory) added (served_chain site start left given added purse faults end serves);
  names = λ site start left given added purse faults end serves legal.
      chain_names site.limits (known start.purse.directory) (known purse.directory) added (served_chain site start left given added purse faults end serves) legal;
  superseded = superseded_by_others;
  grew = served_adds;
}
