use Rattle.session_journal.proofs.ObjectLemmas.{step_replies}
use Rattle.session_journal.proofs.object.RecordedObject.step.Goals as goal

pub returns : goal.returns
returns c = step_replies c.args.self.now c.step.new.self c.args.caller c.args.call c.step.result c.step.ensures.step c.step.ensures.kind c.step.ensures.err
