use Rattle.std.proofs.Common.{◌∙◌, refl}
use Rattle.session_pump.specs.Pumping.{no_place}
use Rattle.session_pump.proofs.TurnLemmas.{each_place_more}
use Rattle.session_pump.proofs.pump.Pump.poll_all.Goals as goal

pub loop-place-init : goal.loop-place-init
loop-place-init g c = record { directory = refl; hosts = refl; silences = refl; each = no_place }

pub loop-place-preserved : goal.loop-place-preserved
loop-place-preserved g c = record {
  directory = c.poll_at.ensures.directory ∙ c.loop-place.invariant.directory;
  hosts = c.poll_at.ensures.hosts ∙ c.loop-place.invariant.hosts;
  silences = c.poll_at.ensures.silences ∙ c.loop-place.invariant.silences;
  each = each_place_more _ _ c.both-polled.ensures c.loop-place.invariant.each c.poll_at.ensures.polls;
}
