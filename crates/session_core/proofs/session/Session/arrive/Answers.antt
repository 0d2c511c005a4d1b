use Rattle.session_core.proofs.ModestLemmas.{modest}
use Rattle.session_core.proofs.session.Session.arrive.Goals as goal

pub arrive_live-requires : goal.arrive_live-requires
arrive_live-requires c = modest c.args.request.now c.args.body.now c.args.now c.requires
