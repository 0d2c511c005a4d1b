use Rattle.pair_text.proofs.LoadSteps.{on_ok_map}
use Rattle.pair_text.proofs.load.Load.round.Goals as goal

pub returns : goal.returns
returns c = on_ok_map c.return_lowest.result _ _
    (λ does plain is. does _ (c.in_ok-carry_greatest.ensures _ (c.in_ok-carry_lowest.ensures _ (c.in_ok-happens.ensures plain is)))) c.return_lowest.ensures
