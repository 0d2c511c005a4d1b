use Rattle.std.proofs.Common.{rules, sym, ◌∙◌}
use Rattle.body_writer.proofs.Refusals.{refusal_is}
use Rattle.body_writer.proofs.refusal.write_refusal.Goals as goal

pub returns-clause-text : goal.returns-clause-text
returns-clause-text c = search (rules, refusal_is)
