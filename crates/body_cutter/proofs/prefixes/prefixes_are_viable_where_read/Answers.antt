use Rattle.body_cutter.proofs.CompletionViable.{body_completed, stanza_completed, body_viable, stanza_viable}
use Rattle.body_cutter.proofs.prefixes.prefixes_are_viable_where_read.Goals as goal

pub returns-clause-completed_body : goal.returns-clause-completed_body
returns-clause-completed_body c = body_completed

pub returns-clause-completed_stanza : goal.returns-clause-completed_stanza
returns-clause-completed_stanza c = stanza_completed

pub returns-clause-body : goal.returns-clause-body
returns-clause-body c = body_viable

pub returns-clause-stanza : goal.returns-clause-stanza
returns-clause-stanza c = stanza_viable
