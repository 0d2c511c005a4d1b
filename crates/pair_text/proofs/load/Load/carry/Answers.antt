use Rattle.std.proofs.Common.{◌≡◌, ◌∙◌, ◌+◌, ap}
use Rattle.two_ends.specs.Summed.{counted}
use Rattle.pair_text.proofs.LoadSteps.{on_ok_map}
use Rattle.pair_text.proofs.load.Load.carry.Goals as goal

pub returns : goal.returns
returns c = on_ok_map c.happens.result _ _
    (λ does plain is. does (record plain { copies = counted (plain.copies + 1) })
    (record { world = is.world; copies = c.saturating_add-self.ensures ∙ ap (λ n. counted (n + 1)) is.copies; puts = is.puts; gives = is.gives }))
    c.happens.ensures
