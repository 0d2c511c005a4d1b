use Rattle.body_cutter.proofs.Readings.{one_body, one_element}
use Rattle.body_cutter.proofs.laws.a_text_has_one_reading.Goals as goal

pub returns-clause-body : goal.returns-clause-body
returns-clause-body c = λ text one other h g. one_body text one other h g

pub returns-clause-stanza : goal.returns-clause-stanza
returns-clause-stanza c = λ text one other h g. one_element text one other h g
