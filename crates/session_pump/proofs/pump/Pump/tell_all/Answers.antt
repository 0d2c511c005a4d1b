use Rattle.std.proofs.Common.{◌∙◌, refl, rules}
use Rattle.session_pump.specs.Pumping.{none_yet}
use Rattle.session_pump.proofs.TurnLemmas.{each_all, each_more}
use Rattle.session_pump.proofs.pump.Pump.tell_all.Goals as goal

pub loop-session-init : goal.loop-session-init
loop-session-init g c = record { directory = refl; silences = refl; each = none_yet }

pub loop-session-preserved : goal.loop-session-preserved
loop-session-preserved g c = record {
  directory = c.tell_of_failure.ensures.directory ∙ c.loop-session.invariant.directory;
  silences = c.tell_of_failure.ensures.silences ∙ c.loop-session.invariant.silences;
  each = each_more _ _ _ _ c.session-item.result c.both-told.ensures (search rules) c.loop-session-test.true c.session-item.is c.loop-session.invariant.each c.tell_of_failure.ensures.tells;
}

pub returns-clause-each : goal.returns-clause-each
returns-clause-each g c = each_all _ _ (search rules) c.loop-session.invariant.each
