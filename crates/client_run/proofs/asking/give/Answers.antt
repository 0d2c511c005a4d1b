use Rattle.std.proofs.Common.{subst}
use Rattle.std.specs.Prelude.{Ok}
use Rattle.parked_gate.specs.Passes.{known}
use Rattle.client_run.specs.declared.call.Call.TheVariants as calls
use Rattle.client_run.specs.Working.{Called}
use Rattle.client_run.proofs.CopyLemmas.{again_names}
use Rattle.client_run.proofs.asking.give.Goals as goal

pub returns-clause-names : goal.returns-clause-names
returns-clause-names g c =
    again_names c.args.rid c.now-now.result c.args.body c.answered_in.result (known c.args.pass.now) (known c.call.new.pass)
    (subst (λ reply. Called (calls.Answer c.args.rid c.args.body c.now-now.result) (Ok reply) (known c.args.pass.now) (known c.call.new.pass)) c.answered_in.ensures c.in_ok-reply.ensures.called)
