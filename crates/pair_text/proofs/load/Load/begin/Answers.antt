use Rattle.pair_text.proofs.LoadSteps.{on_ok_map}
use Rattle.pair_text.proofs.load.Load.begin.Goals as goal

pub returns : goal.returns
returns c = on_ok_map c.happens-2.result _ _
    (λ does plain is. does _ (c.in_ok-carry.ensures _ (c.in_ok-happens.ensures plain is))) c.happens-2.ensures
