use Rattle.std.proofs.Common.{◌≡◌, ◌∙◌, subst, sym}
use Rattle.two_ends.specs.Worlds.{IsWorld}
use Rattle.pair_text.specs.Load.{returns_for}
use Rattle.pair_text.specs.Loads.{IsLoad}
use Rattle.pair_text.proofs.LoadSteps.{on_ok_map}
use Rattle.pair_text.proofs.load.Load.return_lowest.Goals as goal

pub returns-in-Some : goal.returns-in-Some
returns-in-Some c = on_ok_map c.return_for.result _ _
    (λ does plain is. subst (λ rid. IsLoad c.return_for.new.self (returns_for rid plain)) (sym c.in-Some.is ∙ c.lowest_open.ensures plain.world (subst (λ world. IsWorld world plain.world) (sym c.deref.ensures) is.world)) (does plain is))
    c.return_for.ensures

pub returns-in-None : goal.returns-in-None
returns-in-None c = λ plain is.
    subst (λ rid. IsLoad c.args.self.now (returns_for rid plain)) (sym c.in-None.is ∙ c.lowest_open.ensures plain.world (subst (λ world. IsWorld world plain.world) (sym c.deref.ensures) is.world)) is
