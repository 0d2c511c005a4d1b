use Rattle.std.proofs.Common.{◌∙◌, refl, rules}
use Rattle.session_pump.specs.Pumping.{none_yet}
use Rattle.session_pump.proofs.NumberedLemmas.{each_at}
use Rattle.session_pump.proofs.TurnLemmas.{each_all}
use Rattle.session_pump.proofs.pump.Pump.serve_numbers.Goals as goal

pub loop-number-init : goal.loop-number-init
loop-number-init g c = record { pass = c.requires; silences = refl; each = none_yet }

pub loop-number-preserved : goal.loop-number-preserved
loop-number-preserved g c = record {
  pass = c.serve_number.ensures.pass;
  silences = c.serve_number.ensures.silences ∙ c.loop-number.invariant.silences;
  each = each_at _ _ _ _ c.both-served.ensures c.loop-number-test.true c.loop-number.invariant.each c.serve_number.ensures.serves;
}

pub returns-clause-each : goal.returns-clause-each
returns-clause-each g c = each_all _ _ (search rules) c.loop-number.invariant.each
