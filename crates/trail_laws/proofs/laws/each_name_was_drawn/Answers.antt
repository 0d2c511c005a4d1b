use Rattle.parked_gate.specs.Passes.{known}
use Rattle.trail_laws.proofs.DrawnLemmas.{chain_drawn}
use Rattle.trail_laws.proofs.EndLemmas.{served_chain}
use Rattle.trail_laws.proofs.laws.each_name_was_drawn.Goals as goal

pub returns : goal.returns
returns c = λ site start left given added purse faults end serves old new drew.
    chain_drawn site.limits (known start.purse.directory) (known purse.directory) added (served_chain site start left given added purse faults end serves) old new drew
