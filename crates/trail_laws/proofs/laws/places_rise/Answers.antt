use Rattle.trail_laws.proofs.EndLemmas.{served_did}
use Rattle.trail_laws.proofs.HoldingLemmas.{holds_none}
use Rattle.trail_laws.proofs.RisingLemmas.{places_rise}
use Rattle.trail_laws.proofs.laws.places_rise.Goals as goal

pub returns : goal.returns
returns c = record {
  rise = λ site start left given added purse faults end serves holds legal. places_rise site start added purse (served_did site start left given added purse faults end serves) holds legal;
  at_first = holds_none;
}
