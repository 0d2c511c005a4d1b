use Rattle.std.proofs.Common.{◌∙◌, refl, rules}
use Rattle.session_pump.specs.Pumping.{none_yet}
use Rattle.session_pump.proofs.TurnLemmas.{each_all, each_more}
use Rattle.session_pump.proofs.pump.Pump.serve_all.Goals as goal

pub loop-session-init : goal.loop-session-init
loop-session-init g c = record { pass = c.requires; silences = refl; each = none_yet }

pub loop-session-preserved : goal.loop-session-preserved
loop-session-preserved g c = record {
  pass = c.serve.ensures.pass;
  silences = c.serve.ensures.silences ∙ c.loop-session.invariant.silences;
  each = each_more _ _ _ _ c.session-item.result c.both-served.ensures (search rules) c.loop-session-test.true c.session-item.is c.loop-session.invariant.each c.serve.ensures.serves;
}

pub returns-clause-each : goal.returns-clause-each
returns-clause-each g c = each_all _ _ (search rules) c.loop-session.invariant.each
