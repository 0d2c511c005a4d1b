use Rattle.std.proofs.Common.{◌∙◌, sym}
use Rattle.body_cutter.proofs.RunsRead.{plain_run, run_none}
use Rattle.body_cutter.proofs.run.skipped.Goals as goal

pub returns-then-not-is_whole : goal.returns-then-not-is_whole
returns-then-not-is_whole c = run_none _ _ _

pub returns-in-None : goal.returns-in-None
returns-in-None c = run_none _ _ _

pub returns-in-Some : goal.returns-in-Some
returns-in-Some c = plain_run _ c.in-Some.stops _ _ _ (sym c.is_whole.ensures ∙ c.if-not-is_whole.false) (sym c.stops_of.ensures ∙ c.in-Some.is) c.plain_blocks.ensures.within c.plain_blocks.ensures.each
