use Rattle.std.proofs.Common.{rules, ◌+◌, refl, sym, subst, Some, None}
use Rattle.std.specs.Prelude.{Ok}
use Rattle.std.specs.Option.{option_map}
use Rattle.parked_gate.specs.Passes.{known}
use Rattle.client_run.specs.Worked.{TriesBy}
use Rattle.client_run.specs.Working.{Moves, holding, no_row, row_failed, row_of, row_passed, row_refused, setting_of, side_of, wire_of}
use Rattle.client_run.proofs.MoveLemmas.{with_line}
use Rattle.client_run.proofs.carrying.carry.Goals as goal

pub returns-in-Err-clause-carries : goal.returns-in-Err-clause-carries
returns-in-Err-clause-carries g c = λ start again moves.
    let tried = c.in-Err.ensures.tries start again (row_of c.loop.row c.loop.refusals c.loop.last) (with_line (λ line. wire_of (g.N.Link.Link.left line.link) (g.N.Link.Link.given line.link) line.reader) (setting_of (g.C.Clock.moment c.args.site.now.clock.now) c.args.site.now.port) start (known c.loop.pass) (g.N.Network.events c.loop.network) (g.N.Network.counts c.loop.network) (holding c.args.rid c.args.body.now again) (row_of c.loop.row c.loop.refusals c.loop.last) c.loop.line c.take.result c.take.ensures.value (c.loop.invariant.moves start again moves)) in
    (holding c.args.rid c.args.body.now again, tried.0, with_line (λ line. wire_of (g.N.Link.Link.left line.link) (g.N.Link.Link.given line.link) line.reader) (setting_of (g.C.Clock.moment c.args.site.now.clock.now) c.args.site.now.port) start (known c.try_once.new.pass) (g.N.Network.events c.try_once.new.network) (g.N.Network.counts c.try_once.new.network) (holding c.args.rid c.args.body.now again) tried.0 None c.take.new.self c.take.ensures.after (tried.1))

pub returns-in-Settled-clause-carries : goal.returns-in-Settled-clause-carries
returns-in-Settled-clause-carries g c = λ start again moves. subst (λ tried. TriesBy (λ line. wire_of (g.N.Link.Link.left line.link) (g.N.Link.Link.given line.link) line.reader) (setting_of (g.C.Clock.moment c.args.site.now.clock.now) c.args.site.now.port) start (side_of (known c.try_once.new.pass) (g.N.Network.events c.try_once.new.network) (g.N.Network.counts c.try_once.new.network) None (holding c.args.rid c.args.body.now again) (row_of c.loop.row c.loop.refusals c.loop.last)) (Ok tried)) c.in-Settled.is (c.in-Ok.ensures.tries start again (row_of c.loop.row c.loop.refusals c.loop.last) (with_line (λ line. wire_of (g.N.Link.Link.left line.link) (g.N.Link.Link.given line.link) line.reader) (setting_of (g.C.Clock.moment c.args.site.now.clock.now) c.args.site.now.port) start (known c.loop.pass) (g.N.Network.events c.loop.network) (g.N.Network.counts c.loop.network) (holding c.args.rid c.args.body.now again) (row_of c.loop.row c.loop.refusals c.loop.last) c.loop.line c.take.result c.take.ensures.value (c.loop.invariant.moves start again moves)))

pub returns-in-Again-clause-carries : goal.returns-in-Again-clause-carries
returns-in-Again-clause-carries g c = λ start again moves. subst (λ tried. TriesBy (λ line. wire_of (g.N.Link.Link.left line.link) (g.N.Link.Link.given line.link) line.reader) (setting_of (g.C.Clock.moment c.args.site.now.clock.now) c.args.site.now.port) start (side_of (known c.try_once.new.pass) (g.N.Network.events c.try_once.new.network) (g.N.Network.counts c.try_once.new.network) None (holding c.args.rid c.args.body.now again) (row_of c.loop.row c.loop.refusals c.loop.last)) (Ok tried)) c.in-Again.is (c.in-Ok.ensures.tries start again (row_of c.loop.row c.loop.refusals c.loop.last) (with_line (λ line. wire_of (g.N.Link.Link.left line.link) (g.N.Link.Link.given line.link) line.reader) (setting_of (g.C.Clock.moment c.args.site.now.clock.now) c.args.site.now.port) start (known c.loop.pass) (g.N.Network.events c.loop.network) (g.N.Network.counts c.loop.network) (holding c.args.rid c.args.body.now again) (row_of c.loop.row c.loop.refusals c.loop.last) c.loop.line c.take.result c.take.ensures.value (c.loop.invariant.moves start again moves)))

pub loop-preserved-in-Broken : goal.loop-preserved-in-Broken
loop-preserved-in-Broken g c = record {
  next = tt;
  finite = tt;
  pass = search rules;
  faultless = search rules;
  few = search rules;
  refused = search rules;
  silences = search rules;
  moves = λ start again moves. with_line (λ line. wire_of (g.N.Link.Link.left line.link) (g.N.Link.Link.given line.link) line.reader) (setting_of (g.C.Clock.moment c.args.site.now.clock.now) c.args.site.now.port) start (known c.try_once.new.pass) (g.N.Network.events c.try_once.new.network) (g.N.Network.counts c.try_once.new.network) (holding c.args.rid c.args.body.now again) no_row None c.take.new.self c.take.ensures.after (subst (λ tried. TriesBy (λ line. wire_of (g.N.Link.Link.left line.link) (g.N.Link.Link.given line.link) line.reader) (setting_of (g.C.Clock.moment c.args.site.now.clock.now) c.args.site.now.port) start (side_of (known c.try_once.new.pass) (g.N.Network.events c.try_once.new.network) (g.N.Network.counts c.try_once.new.network) None (holding c.args.rid c.args.body.now again) (row_of c.loop.row c.loop.refusals c.loop.last)) (Ok tried)) c.in-Broken.is (c.in-Ok.ensures.tries start again (row_of c.loop.row c.loop.refusals c.loop.last) (with_line (λ line. wire_of (g.N.Link.Link.left line.link) (g.N.Link.Link.given line.link) line.reader) (setting_of (g.C.Clock.moment c.args.site.now.clock.now) c.args.site.now.port) start (known c.loop.pass) (g.N.Network.events c.loop.network) (g.N.Network.counts c.loop.network) (holding c.args.rid c.args.body.now again) (row_of c.loop.row c.loop.refusals c.loop.last) c.loop.line c.take.result c.take.ensures.value (c.loop.invariant.moves start again moves))));
}

pub loop-preserved-in-Nothing : goal.loop-preserved-in-Nothing
loop-preserved-in-Nothing g c = record {
  next = tt;
  finite = tt;
  pass = search rules;
  faultless = search rules;
  few = search rules;
  refused = search rules;
  silences = search rules;
  moves = λ start again moves. with_line (λ line. wire_of (g.N.Link.Link.left line.link) (g.N.Link.Link.given line.link) line.reader) (setting_of (g.C.Clock.moment c.args.site.now.clock.now) c.args.site.now.port) start (known c.try_once.new.pass) (g.N.Network.events c.try_once.new.network) (g.N.Network.counts c.try_once.new.network) (holding c.args.rid c.args.body.now again) (row_passed (row_of c.loop.row c.loop.refusals c.loop.last)) None c.take.new.self c.take.ensures.after (subst (λ tried. TriesBy (λ line. wire_of (g.N.Link.Link.left line.link) (g.N.Link.Link.given line.link) line.reader) (setting_of (g.C.Clock.moment c.args.site.now.clock.now) c.args.site.now.port) start (side_of (known c.try_once.new.pass) (g.N.Network.events c.try_once.new.network) (g.N.Network.counts c.try_once.new.network) None (holding c.args.rid c.args.body.now again) (row_of c.loop.row c.loop.refusals c.loop.last)) (Ok tried)) c.in-Nothing.is (c.in-Ok.ensures.tries start again (row_of c.loop.row c.loop.refusals c.loop.last) (with_line (λ line. wire_of (g.N.Link.Link.left line.link) (g.N.Link.Link.given line.link) line.reader) (setting_of (g.C.Clock.moment c.args.site.now.clock.now) c.args.site.now.port) start (known c.loop.pass) (g.N.Network.events c.loop.network) (g.N.Network.counts c.loop.network) (holding c.args.rid c.args.body.now again) (row_of c.loop.row c.loop.refusals c.loop.last) c.loop.line c.take.result c.take.ensures.value (c.loop.invariant.moves start again moves))));
}

pub returns-then-refusals-eq-TRIES-clause-carries : goal.returns-then-refusals-eq-TRIES-clause-carries
returns-then-refusals-eq-TRIES-clause-carries g c = λ start again moves. (holding c.args.rid c.args.body.now again, row_refused (row_of c.loop.row c.loop.refusals c.loop.last) c.in-Refused.status, (c.if-refusals-eq-TRIES.true, refl), with_line (λ line. wire_of (g.N.Link.Link.left line.link) (g.N.Link.Link.given line.link) line.reader) (setting_of (g.C.Clock.moment c.args.site.now.clock.now) c.args.site.now.port) start (known c.try_once.new.pass) (g.N.Network.events c.try_once.new.network) (g.N.Network.counts c.try_once.new.network) (holding c.args.rid c.args.body.now again) (row_refused (row_of c.loop.row c.loop.refusals c.loop.last) c.in-Refused.status) None c.take.new.self c.take.ensures.after (subst (λ tried. TriesBy (λ line. wire_of (g.N.Link.Link.left line.link) (g.N.Link.Link.given line.link) line.reader) (setting_of (g.C.Clock.moment c.args.site.now.clock.now) c.args.site.now.port) start (side_of (known c.try_once.new.pass) (g.N.Network.events c.try_once.new.network) (g.N.Network.counts c.try_once.new.network) None (holding c.args.rid c.args.body.now again) (row_of c.loop.row c.loop.refusals c.loop.last)) (Ok tried)) c.in-Refused.is (c.in-Ok.ensures.tries start again (row_of c.loop.row c.loop.refusals c.loop.last) (with_line (λ line. wire_of (g.N.Link.Link.left line.link) (g.N.Link.Link.given line.link) line.reader) (setting_of (g.C.Clock.moment c.args.site.now.clock.now) c.args.site.now.port) start (known c.loop.pass) (g.N.Network.events c.loop.network) (g.N.Network.counts c.loop.network) (holding c.args.rid c.args.body.now again) (row_of c.loop.row c.loop.refusals c.loop.last) c.loop.line c.take.result c.take.ensures.value (c.loop.invariant.moves start again moves)))))

pub loop-preserved-in-Refused : goal.loop-preserved-in-Refused
loop-preserved-in-Refused g c = record {
  next = tt;
  finite = tt;
  pass = search rules;
  faultless = search rules;
  few = search rules;
  refused = search rules;
  silences = search rules;
  moves = λ start again moves. with_line (λ line. wire_of (g.N.Link.Link.left line.link) (g.N.Link.Link.given line.link) line.reader) (setting_of (g.C.Clock.moment c.args.site.now.clock.now) c.args.site.now.port) start (known c.try_once.new.pass) (g.N.Network.events c.try_once.new.network) (g.N.Network.counts c.try_once.new.network) (holding c.args.rid c.args.body.now again) (row_refused (row_of c.loop.row c.loop.refusals c.loop.last) c.in-Refused.status) None c.take.new.self c.take.ensures.after (subst (λ tried. TriesBy (λ line. wire_of (g.N.Link.Link.left line.link) (g.N.Link.Link.given line.link) line.reader) (setting_of (g.C.Clock.moment c.args.site.now.clock.now) c.args.site.now.port) start (side_of (known c.try_once.new.pass) (g.N.Network.events c.try_once.new.network) (g.N.Network.counts c.try_once.new.network) None (holding c.args.rid c.args.body.now again) (row_of c.loop.row c.loop.refusals c.loop.last)) (Ok tried)) c.in-Refused.is (c.in-Ok.ensures.tries start again (row_of c.loop.row c.loop.refusals c.loop.last) (with_line (λ line. wire_of (g.N.Link.Link.left line.link) (g.N.Link.Link.given line.link) line.reader) (setting_of (g.C.Clock.moment c.args.site.now.clock.now) c.args.site.now.port) start (known c.loop.pass) (g.N.Network.events c.loop.network) (g.N.Network.counts c.loop.network) (holding c.args.rid c.args.body.now again) (row_of c.loop.row c.loop.refusals c.loop.last) c.loop.line c.take.result c.take.ensures.value (c.loop.invariant.moves start again moves))));
}

pub returns-then-row-eq-TRIES-clause-carries : goal.returns-then-row-eq-TRIES-clause-carries
returns-then-row-eq-TRIES-clause-carries g c = λ start again moves. (holding c.args.rid c.args.body.now again, row_failed (row_of c.loop.row c.loop.refusals c.loop.last), c.if-row-eq-TRIES.true, with_line (λ line. wire_of (g.N.Link.Link.left line.link) (g.N.Link.Link.given line.link) line.reader) (setting_of (g.C.Clock.moment c.args.site.now.clock.now) c.args.site.now.port) start (known c.try_once.new.pass) (g.N.Network.events c.try_once.new.network) (g.N.Network.counts c.try_once.new.network) (holding c.args.rid c.args.body.now again) (row_failed (row_of c.loop.row c.loop.refusals c.loop.last)) None c.take.new.self c.take.ensures.after (subst (λ tried. TriesBy (λ line. wire_of (g.N.Link.Link.left line.link) (g.N.Link.Link.given line.link) line.reader) (setting_of (g.C.Clock.moment c.args.site.now.clock.now) c.args.site.now.port) start (side_of (known c.try_once.new.pass) (g.N.Network.events c.try_once.new.network) (g.N.Network.counts c.try_once.new.network) None (holding c.args.rid c.args.body.now again) (row_of c.loop.row c.loop.refusals c.loop.last)) (Ok tried)) c.in-Fault.is (c.in-Ok.ensures.tries start again (row_of c.loop.row c.loop.refusals c.loop.last) (with_line (λ line. wire_of (g.N.Link.Link.left line.link) (g.N.Link.Link.given line.link) line.reader) (setting_of (g.C.Clock.moment c.args.site.now.clock.now) c.args.site.now.port) start (known c.loop.pass) (g.N.Network.events c.loop.network) (g.N.Network.counts c.loop.network) (holding c.args.rid c.args.body.now again) (row_of c.loop.row c.loop.refusals c.loop.last) c.loop.line c.take.result c.take.ensures.value (c.loop.invariant.moves start again moves)))))

pub loop-preserved : goal.loop-preserved
loop-preserved g c = record {
  next = tt;
  finite = tt;
  pass = search rules;
  faultless = search rules;
  few = search rules;
  refused = search rules;
  silences = search rules;
  moves = λ start again moves. with_line (λ line. wire_of (g.N.Link.Link.left line.link) (g.N.Link.Link.given line.link) line.reader) (setting_of (g.C.Clock.moment c.args.site.now.clock.now) c.args.site.now.port) start (known c.try_once.new.pass) (g.N.Network.events c.try_once.new.network) (g.N.Network.counts c.try_once.new.network) (holding c.args.rid c.args.body.now again) (row_failed (row_of c.loop.row c.loop.refusals c.loop.last)) None c.take.new.self c.take.ensures.after (subst (λ tried. TriesBy (λ line. wire_of (g.N.Link.Link.left line.link) (g.N.Link.Link.given line.link) line.reader) (setting_of (g.C.Clock.moment c.args.site.now.clock.now) c.args.site.now.port) start (side_of (known c.try_once.new.pass) (g.N.Network.events c.try_once.new.network) (g.N.Network.counts c.try_once.new.network) None (holding c.args.rid c.args.body.now again) (row_of c.loop.row c.loop.refusals c.loop.last)) (Ok tried)) c.in-Fault.is (c.in-Ok.ensures.tries start again (row_of c.loop.row c.loop.refusals c.loop.last) (with_line (λ line. wire_of (g.N.Link.Link.left line.link) (g.N.Link.Link.given line.link) line.reader) (setting_of (g.C.Clock.moment c.args.site.now.clock.now) c.args.site.now.port) start (known c.loop.pass) (g.N.Network.events c.loop.network) (g.N.Network.counts c.loop.network) (holding c.args.rid c.args.body.now again) (row_of c.loop.row c.loop.refusals c.loop.last) c.loop.line c.take.result c.take.ensures.value (c.loop.invariant.moves start again moves))));
}
