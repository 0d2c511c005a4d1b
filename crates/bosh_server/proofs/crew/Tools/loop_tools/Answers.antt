use Rattle.std.proofs.Common.{All, subst, sym}
use Rattle.std.proofs.lemmas.List.Elements.{All-nil}
use Rattle.parked_gate.specs.Passes.{known}
use Rattle.bosh_server.specs.Fates.{IsOfHistory}
use Rattle.bosh_server.proofs.crew.Tools.loop_tools.Goals as goal

pub invariant_of-result-clause-of_one : goal.invariant_of-result-clause-of_one
invariant_of-result-clause-of_one g c =
    let P = IsOfHistory (known c.args.pass).seen in
    ∣ subst (All P) (sym c.new-3.ensures) (All-nil P) ∣₁
