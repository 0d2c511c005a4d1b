use Rattle.std.specs.Prelude.{All}
use Rattle.std.specs.Vec.Iter.{into_iter_items}
use Rattle.world_laws.specs.Setup.{IsAllowed}
use Rattle.world_laws.specs.World.{PlainWorld}
use Rattle.two_ends.specs.Worlds.{IsWorld}
use Rattle.two_ends.proofs.RunningLemmas.{RunsOn}
use Rattle.two_ends.proofs.world.World.run.Given as goal

-- what was seen, and what is left to see, is all
abbrev pub invariant-loop-event : goal.invariant-loop-event
invariant-loop-event l =
    ((w : PlainWorld) → IsWorld l.fn.self w → RunsOn l.self l.report.items (into_iter_items l.event-iterator) w l.fn.events.items) × All IsAllowed (into_iter_items l.event-iterator)
