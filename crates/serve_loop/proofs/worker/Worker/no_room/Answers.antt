use Rattle.std.proofs.Common.{sym, subst}
use Rattle.std.proofs.lemmas.Result.{IfOk-weaker}
use Rattle.parked_gate.specs.Passes.{known}
use Rattle.serve_loop.specs.Answering.{ShowsDirectory}
use Rattle.serve_loop.proofs.AnswersLemmas.{shown_as}
use Rattle.serve_loop.proofs.worker.Worker.no_room.Goals as goal

pub returns-clause-line : goal.returns-clause-line
returns-clause-line c = IfOk-weaker c.refuse.result _ _ (λ answering adds.
    shown_as _ _ _ _ _ (λ by is. subst (ShowsDirectory (known c.args.self.now.purse.directory)) (sym is) c.evidence_of-evidence.ensures) adds) c.refuse.ensures.line
