use Rattle.std.proofs.Common.{◌≡◌, subst, sym}
use Rattle.two_ends.specs.Worlds.{IsWorld}
use Rattle.pair_text.specs.Load.{carries_some}
use Rattle.pair_text.specs.Loads.{IsLoad}
use Rattle.pair_text.proofs.LoadSteps.{on_ok_map}
use Rattle.pair_text.proofs.load.Load.carry_lowest.Goals as goal

pub returns : goal.returns
returns c = on_ok_map c.carry_some.result _ _
    (λ does plain is. subst (λ rid. IsLoad c.carry_some.new.self (carries_some rid plain)) (c.lowest_open-rid.ensures plain.world (subst (λ world. IsWorld world plain.world) (sym c.deref.ensures) is.world)) (does plain is))
    c.carry_some.ensures
