use Rattle.std.proofs.Common.{◌∙◌, refl, rules}
use Rattle.session_pump.proofs.TurnLemmas.{closes_all, closes_more, closes_none}
use Rattle.session_pump.proofs.TurnedLemmas.{still_held}
use Rattle.session_pump.proofs.turn.close_each.Goals as goal

pub loop-side-init : goal.loop-side-init
loop-side-init g c = record {
  held = c.requires;
  others = λ other differs. refl;
  directory = refl;
  silences = refl;
  closes = closes_none (g.C.Clock.moment c.args.clock.now) c.args.closing _ _ c.requires;
}

pub loop-side-preserved : goal.loop-side-preserved
loop-side-preserved g c = record {
  held = still_held _ _ _ _ c.close_stream.ensures.closes;
  others = λ other differs. c.close_stream.ensures.others other differs ∙ c.loop-side.invariant.others other differs;
  directory = c.close_stream.ensures.directory ∙ c.loop-side.invariant.directory;
  silences = c.close_stream.ensures.silences ∙ c.loop-side.invariant.silences;
  closes = closes_more (g.C.Clock.moment c.args.clock.now) c.args.closing _ _ _ _ _ _ _ _ _ _ c.side-item.result c.both-closed.ensures c.deref-side-items.ensures.value c.loop-side-test.true
      c.side-item.is c.loop-side.invariant.closes c.close_stream.ensures.closes;
}

pub returns-clause-closes : goal.returns-clause-closes
returns-clause-closes g c = closes_all (g.C.Clock.moment c.args.clock.now) c.args.closing _ _ _ _ _ _ (search rules) c.loop-side.invariant.closes
