use Rattle.body_cutter.proofs.Utf8Allowed.{table_is, allowed_of, allowed_is}
use Rattle.body_cutter.proofs.Utf8Bodies.{body_allowed, element_allowed}
use Rattle.body_cutter.proofs.characters.texts_are_allowed_characters.Goals as goal

pub returns-clause-table : goal.returns-clause-table
returns-clause-table c = table_is

pub returns-clause-allowed : goal.returns-clause-allowed
returns-clause-allowed c = λ text. (λ h. allowed_of text h.0 (record { are = h.1 }), allowed_is text)

pub returns-clause-body : goal.returns-clause-body
returns-clause-body c = body_allowed

pub returns-clause-stanza : goal.returns-clause-stanza
returns-clause-stanza c = element_allowed
