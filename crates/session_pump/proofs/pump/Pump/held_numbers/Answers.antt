use Rattle.std.proofs.Common.{◌∙◌, ap}
use Rattle.std.proofs.lemmas.Map.Iter.{iter_end}
use Rattle.std.specs.Map.{keys_of}
use Rattle.std.specs.Map.Iter.{deref_pair}
use Rattle.session_pump.proofs.DueLemmas.{keys_shown}
use Rattle.session_pump.proofs.pump.Pump.held_numbers.Goals as goal

pub returns : goal.returns
returns g c =
    c.loop-number.invariant ∙ keys_shown c.loop-number.yielded
    ∙ ap keys_of (iter_end deref_pair c.args.self.now.purse.sessions.entries c.loop-number.yielded _ _ _ _ c.into_iter-number-iterator.ensures.into_iter_gives.0 c.loop-number.yielded_by c.in-None.is c.next.ensures.steps).0
