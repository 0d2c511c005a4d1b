use Rattle.std.proofs.Common.{◌≡◌, ◌∙◌, ◌+◌, ap, subst, sym}
use Rattle.two_ends.specs.Summed.{counted}
use Rattle.world_laws.specs.declared.event.WorldEvent.TheVariants.{At}
use Rattle.two_ends.specs.Worlds.{IsWorld}
use Rattle.pair_text.specs.Load.{happens}
use Rattle.pair_text.specs.Loads.{IsLoad}
use Rattle.pair_text.proofs.LoadSteps.{on_ok_map}
use Rattle.pair_text.proofs.load.Load.wait.Goals as goal

pub returns : goal.returns
returns c = on_ok_map c.happens.result _ _
    (λ does plain is.
    subst (λ moment. IsLoad c.happens.new.self (happens (At moment) plain))
    (c.from_millis-moment.ensures
    ∙ c.saturating_add.ensures
    ∙ ap (λ now. counted (now + c.from.result)) (c.millis-now.ensures ∙ c.moment.ensures plain.world (subst (λ world. IsWorld world plain.world) (sym c.deref.ensures) is.world))
    ∙ ap (λ millis. counted (plain.world.moment + millis)) c.from.ensures)
    (does plain is))
    c.happens.ensures
