use Rattle.std.proofs.Common.{◌∙◌}
use Rattle.session_core.proofs.CountedLemmas.{room_kept}
use Rattle.session_core.proofs.session.Session.enter.Goals as goal

pub returns : goal.returns
returns c = λ plain stands room.
    c.count.ensures _ (c.in_ok-apply_time.ensures plain stands) (room_kept plain c.args.now c.args.cost ∙ room)
