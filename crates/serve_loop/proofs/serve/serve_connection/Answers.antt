use Rattle.std.proofs.Common.{refl, [], List, ℕ, sym, subst, rules, arith}
use Rattle.parked_gate.specs.Passes.{known}
use Rattle.serve_loop.specs.Connections.{Answered, EndsItself, IsServedBy, Stands, outside}
use Rattle.serve_loop.specs.Trail.{setting}
use Rattle.serve_loop.specs.declared.connection.ConnectionEnd.TheVariants as ends
use Rattle.serve_loop.specs.declared.connection.Stage.TheVariants as stages
use Rattle.serve_loop.proofs.ConnectionLemmas.{ends_so, nothing_yet}
use Rattle.serve_loop.proofs.DrawingLemmas.{draws_none, draws_on}
use Rattle.serve_loop.proofs.EffectLemmas.{drops_removed}
use Rattle.serve_loop.proofs.serve.serve_connection.Goals as goal

pub loop-init : goal.loop-init
loop-init g c =
    let port = g.L.Link in
    let link = c.args.link.now in
    let trail = c.args.worker.now.trail in
    let site = setting c.args.site.now.hosts.now c.args.site.now.limits (g.C.Clock.moment c.args.site.now.clock.now) in
    let purse = c.drop_removed.new.self in
    let new = c.new-connection in
    let start = outside [] (port.left link) (port.given link) trail purse (port.faults link) in
    record {
      next = tt;
      finite = tt;
      pass = c.drop_removed.ensures.pass;
      held = subst (IsServedBy purse.sessions) (sym new.ensures.stage) tt;
      first = purse;
      dropped = drops_removed c.args.worker.now.purse purse c.drop_removed.result c.drop_removed.ensures.grows c.drop_removed.ensures.asked c.drop_removed.ensures.live c.drop_removed.ensures.err;
      stands = subst (Stands site start (outside new.result.reader (port.left link) (port.given link) trail purse (port.faults link))) (sym new.ensures.stage)
          ([], subst (λ kept. Answered site start [] (outside kept (port.left link) (port.given link) trail purse (port.faults link))) (sym new.ensures.reader) (nothing_yet site start));
      drawn = draws_none (g.M.Names.drawn c.args.tools.now.names) (g.M.Names.drawn c.args.tools.now.names) (known c.args.worker.now.purse.directory) (known purse.directory) refl c.drop_removed.ensures.grows;
      silences = search rules;
      faults = search rules;
    }

pub returns-then-is_silent-clause-served : goal.returns-then-is_silent-clause-served
returns-then-is_silent-clause-served g c =
    let port = g.L.Link in
    let link = c.args.link.now in
    let site = setting c.args.site.now.hosts.now c.args.site.now.limits (g.C.Clock.moment c.args.site.now.clock.now) in
    let all = c.loop.invariant in
    let start = outside [] (port.left link) (port.given link) c.args.worker.now.trail all.first (port.faults link) in
    let new = c.step.new in
    let now = outside new.self.reader (port.left new.link) (port.given new.link) new.worker.trail new.worker.purse (port.faults new.link) in
    let stands = c.step.ensures.moves start all.stands in
    let waits = subst (Stands site start now) c.in-Waiting.is stands in
    let looked = subst (λ looked. Stands site start now (stages.Waiting c.in-Waiting.waiting c.in-Waiting.closing looked)) (c.is_silent.ensures.looked c.if-is_silent.true) waits in
    (new.self.reader, all.first, all.dropped, (c.in-Waiting.waiting, c.in-Waiting.closing, looked))

pub returns-in-Over-clause-served : goal.returns-in-Over-clause-served
returns-in-Over-clause-served g c =
    let port = g.L.Link in
    let link = c.args.link.now in
    let site = setting c.args.site.now.hosts.now c.args.site.now.limits (g.C.Clock.moment c.args.site.now.clock.now) in
    let all = c.loop.invariant in
    let start = outside [] (port.left link) (port.given link) c.args.worker.now.trail all.first (port.faults link) in
    let new = c.step.new in
    let now = outside new.self.reader (port.left new.link) (port.given new.link) new.worker.trail new.worker.purse (port.faults new.link) in
    let stands = c.step.ensures.moves start all.stands in
    (new.self.reader, all.first, all.dropped, ends_so site start now c.in-Over.end (subst (Stands site start now) c.in-Over.is stands))

pub returns-in-Over-clause-silent : goal.returns-in-Over-clause-silent
returns-in-Over-clause-silent g c silent =
    let port = g.L.Link in
    let link = c.args.link.now in
    let site = setting c.args.site.now.hosts.now c.args.site.now.limits (g.C.Clock.moment c.args.site.now.clock.now) in
    let all = c.loop.invariant in
    let start = outside [] (port.left link) (port.given link) c.args.worker.now.trail all.first (port.faults link) in
    let new = c.step.new in
    let now = outside new.self.reader (port.left new.link) (port.given new.link) new.worker.trail new.worker.purse (port.faults new.link) in
    let ended = subst (Stands site start now) c.in-Over.is (c.step.ensures.moves start all.stands) in
    let none = subst (EndsItself site start now) silent ended in
    elim none [ ]

pub returns-in-Over-clause-never_gone : goal.returns-in-Over-clause-never_gone
returns-in-Over-clause-never_gone g c gone =
    let port = g.L.Link in
    let link = c.args.link.now in
    let site = setting c.args.site.now.hosts.now c.args.site.now.limits (g.C.Clock.moment c.args.site.now.clock.now) in
    let all = c.loop.invariant in
    let start = outside [] (port.left link) (port.given link) c.args.worker.now.trail all.first (port.faults link) in
    let new = c.step.new in
    let now = outside new.self.reader (port.left new.link) (port.given new.link) new.worker.trail new.worker.purse (port.faults new.link) in
    let ended = subst (Stands site start now) c.in-Over.is (c.step.ensures.moves start all.stands) in
    let none = subst (EndsItself site start now) gone ended in
    elim none [ ]

pub loop-preserved-in-Waiting-1 : goal.loop-preserved-in-Waiting-1
loop-preserved-in-Waiting-1 g c =
    let port = g.L.Link in
    let link = c.args.link.now in
    let all = c.loop.invariant in
    let start = outside [] (port.left link) (port.given link) c.args.worker.now.trail all.first (port.faults link) in
    let stands = c.step.ensures.moves start all.stands in
    record { next = tt; finite = tt; pass = c.step.ensures.pass; held = c.step.ensures.held; first = all.first; dropped = all.dropped; stands = stands; drawn = draws_on _ _ _ _ _ _ all.drawn c.step.ensures.drawn; silences = omega (arith, c.loop.invariant.silences, c.step.ensures.silences, c.is_silent.ensures.never_falls); faults = omega (arith, c.loop.invariant.faults, c.step.ensures.faults) }

pub loop-preserved-in-Reading-connection : goal.loop-preserved-in-Reading-connection
loop-preserved-in-Reading-connection g c =
    let port = g.L.Link in
    let link = c.args.link.now in
    let all = c.loop.invariant in
    let start = outside [] (port.left link) (port.given link) c.args.worker.now.trail all.first (port.faults link) in
    let stands = c.step.ensures.moves start all.stands in
    record { next = tt; finite = tt; pass = c.step.ensures.pass; held = c.step.ensures.held; first = all.first; dropped = all.dropped; stands = stands; drawn = draws_on _ _ _ _ _ _ all.drawn c.step.ensures.drawn; silences = omega (arith, c.loop.invariant.silences, c.step.ensures.silences); faults = omega (arith, c.loop.invariant.faults, c.step.ensures.faults) }

pub loop-preserved-in-Asked-connection : goal.loop-preserved-in-Asked-connection
loop-preserved-in-Asked-connection g c =
    let port = g.L.Link in
    let link = c.args.link.now in
    let all = c.loop.invariant in
    let start = outside [] (port.left link) (port.given link) c.args.worker.now.trail all.first (port.faults link) in
    let stands = c.step.ensures.moves start all.stands in
    record { next = tt; finite = tt; pass = c.step.ensures.pass; held = c.step.ensures.held; first = all.first; dropped = all.dropped; stands = stands; drawn = draws_on _ _ _ _ _ _ all.drawn c.step.ensures.drawn; silences = omega (arith, c.loop.invariant.silences, c.step.ensures.silences); faults = omega (arith, c.loop.invariant.faults, c.step.ensures.faults) }

pub loop-preserved : goal.loop-preserved
loop-preserved g c =
    let port = g.L.Link in
    let link = c.args.link.now in
    let all = c.loop.invariant in
    let start = outside [] (port.left link) (port.given link) c.args.worker.now.trail all.first (port.faults link) in
    let stands = c.step.ensures.moves start all.stands in
    record { next = tt; finite = tt; pass = c.step.ensures.pass; held = c.step.ensures.held; first = all.first; dropped = all.dropped; stands = stands; drawn = draws_on _ _ _ _ _ _ all.drawn c.step.ensures.drawn; silences = omega (arith, c.loop.invariant.silences, c.step.ensures.silences); faults = omega (arith, c.loop.invariant.faults, c.step.ensures.faults) }

pub returns-then-is_silent-clause-drawn : goal.returns-then-is_silent-clause-drawn
returns-then-is_silent-clause-drawn g c = draws_on _ _ _ _ _ _ c.loop.invariant.drawn c.step.ensures.drawn

pub returns-in-Over-clause-drawn : goal.returns-in-Over-clause-drawn
returns-in-Over-clause-drawn g c = draws_on _ _ _ _ _ _ c.loop.invariant.drawn c.step.ensures.drawn
