use Rattle.std.proofs.Common.{◌∙◌, ap}
use Rattle.std.proofs.lemmas.Map.Iter.{iter_end}
use Rattle.std.specs.Map.Iter.{deref_pair}
use Rattle.session_table.specs.Replies.{live_sessions}
use Rattle.session_table.proofs.ReplyLemmas.{listed_all}
use Rattle.session_table.proofs.directory.Directory.live.Goals as goal

pub returns : goal.returns
returns c =
    c.from_vec.ensures
    ∙ (c.loop-number.invariant
    ∙ (listed_all deref_pair c.loop-number.yielded c.self.inside.sessions.entries c.self.inside.entries c.self.inside.openings c.self.invariant
    (iter_end deref_pair c.self.inside.sessions.entries c.loop-number.yielded _ _ _ _ c.into_iter-number-iterator.ensures.into_iter_gives.0 c.loop-number.yielded_by c.in-None.is c.next.ensures.steps).0
    ∙ ap live_sessions c.self.view_is))
