use Rattle.std.proofs.Common.{◌≡◌, Some, None, subst, sym}
use Rattle.pair_text.specs.Load.{carries_some}
use Rattle.pair_text.specs.Loads.{IsLoad}
use Rattle.pair_text.proofs.LoadSteps.{on_ok_map}
use Rattle.pair_text.proofs.load.Load.carry_some.Goals as goal

pub returns-in-Some : goal.returns-in-Some
returns-in-Some c = on_ok_map c.carry.result _ _
    (λ does plain is. subst (λ rid. IsLoad c.carry.new.self (carries_some rid plain)) (sym c.in-Some.is) (does plain is)) c.carry.ensures

pub returns-in-None : goal.returns-in-None
returns-in-None c = λ plain is. subst (λ rid. IsLoad c.args.self.now (carries_some rid plain)) (sym c.in-None.is) is
