use Rattle.std.specs.Vec.Iter.{into_iter_items}
use Rattle.std.proofs.Common.{List}
use Rattle.script_text.specs.Live.{PlainLive}
use Rattle.script_text.specs.Stands.{AreLive}
use Rattle.script_text.proofs.ManagerLemmas.{PassesAway, PassesOn}
use Rattle.script_text.proofs.manager.Manager.pass_all.Given as goal

-- those for which time passed, and those that are left, are all
abbrev pub invariant-loop-live : goal.invariant-loop-live
invariant-loop-live l = (whole : List PlainLive) → AreLive l.fn.self.live.items whole → PassesOn l.fn.now l.soonest l.lines.items l.kept.items (into_iter_items l.live-iterator) whole
    × PassesAway l.fn.now l.over.items (into_iter_items l.live-iterator) whole
