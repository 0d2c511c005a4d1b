use Rattle.client_run.proofs.HistoryLemmas.{step_replies}
use Rattle.client_run.proofs.object.ClientObjectObject.step.Goals as goal

pub returns : goal.returns
returns c = step_replies c.args.self.now c.make.new.self c.args.caller c.args.call c.make.result c.make.ensures.step c.make.ensures.err
