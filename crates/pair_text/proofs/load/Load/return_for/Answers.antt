use Rattle.std.proofs.Common.{◌≡◌, ◌∙◌, subst, sym}
use Rattle.two_ends.specs.Worlds.{IsWorld}
use Rattle.pair_text.specs.Load.{returns_some}
use Rattle.pair_text.specs.Loads.{IsLoad}
use Rattle.pair_text.proofs.LoadSteps.{on_ok_map}
use Rattle.pair_text.proofs.load.Load.return_for.Goals as goal

pub returns-in-Some : goal.returns-in-Some
returns-in-Some c = on_ok_map c.happens.result _ _
    (λ does plain is. subst (λ number. IsLoad c.happens.new.self (returns_some number plain)) (sym c.in-Some.is ∙ c.last_answer.ensures plain.world (subst (λ world. IsWorld world plain.world) (sym c.deref.ensures) is.world)) (does plain is))
    c.happens.ensures

pub returns-in-None : goal.returns-in-None
returns-in-None c = λ plain is.
    subst (λ number. IsLoad c.args.self.now (returns_some number plain)) (sym c.in-None.is ∙ c.last_answer.ensures plain.world (subst (λ world. IsWorld world plain.world) (sym c.deref.ensures) is.world)) is
