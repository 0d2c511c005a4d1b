use Rattle.body_cutter.proofs.Readings.{body_is_read, stanza_is_read}
use Rattle.body_cutter.proofs.CompletionViable.{body_accepted, stanza_accepted}
use Rattle.body_cutter.proofs.laws.reader_takes_the_grammar.Goals as goal

pub returns-clause-body : goal.returns-clause-body
returns-clause-body c = λ text. (body_accepted text, body_is_read text)

pub returns-clause-stanza : goal.returns-clause-stanza
returns-clause-stanza c = λ text. (stanza_accepted text, stanza_is_read text)
