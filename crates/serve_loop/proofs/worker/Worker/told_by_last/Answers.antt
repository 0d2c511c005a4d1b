use Rattle.serve_loop.proofs.LookingLemmas.{tells_since}
use Rattle.serve_loop.proofs.worker.Worker.told_by_last.Goals as goal

pub returns-clause-told : goal.returns-clause-told
returns-clause-told g c = λ x was.
    tells_since _ _ c.args.self.now.purse.sessions c.sees_ending-ended.new.purse.sessions c.let_go_if.new.purse.sessions c.args.session.number c.last_of-last.result.caller c.last_of-last.result.place
    c.args.session.sid c.sees_ending-ended.result x c.session_of.result.now c.session_of-2.result.now was c.session_of.ensures c.last_of-last.ensures.caller c.last_of-last.ensures.place
    c.sees_ending-ended.ensures.looked c.session_of-2.ensures c.enter.ensures c.let_go_if.ensures.held
