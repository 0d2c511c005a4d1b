use Rattle.pair_text.proofs.TellLemmas.{script_tells}
use Rattle.pair_text.proofs.laws.reports_tell_of_one_world.Goals as goal

pub returns : goal.returns
returns c = record {
  told = script_tells (record { prefixes = c.every_world_keeps_both_prefixes.ensures.prefixes; shown = c.every_world_keeps_both_prefixes.ensures.shown });
}
