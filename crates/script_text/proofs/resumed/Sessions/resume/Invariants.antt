use Rattle.std.specs.Vec.Iter.{into_iter_items}
use Rattle.script_text.proofs.ResumedLemmas.{ResumesOn}
use Rattle.script_text.proofs.resumed.Sessions.resume.Given as goal

-- those that were resumed, and the journals that are left, are all
abbrev pub invariant-loop-session : goal.invariant-loop-session
invariant-loop-session l = ResumesOn l.opened l.moment l.soonest l.live.items (into_iter_items l.session-iterator) l.fn.journals.items
