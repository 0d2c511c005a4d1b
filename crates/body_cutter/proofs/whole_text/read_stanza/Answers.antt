use Rattle.std.proofs.Common.{sym}
use Rattle.body_cutter.specs.BodyText.{IsElementText, HasElementParts, IsStanza}
use Rattle.body_cutter.proofs.Bodies.{stanza_tells, result_cut, result_refused, unit_answers, unit_refused, unit_stanza}
use Rattle.body_cutter.proofs.Readings.{stanza_answer}
use Rattle.body_cutter.specs.Cutting.{stanza_read_of}
use Rattle.body_cutter.specs.Viable.{Anything}
use Rattle.body_cutter.proofs.CompletionTable.{stanza_row, result_row, unit_row}
use Rattle.body_cutter.proofs.whole_text.read_stanza.Goals as goal

pub returns-clause-answer : goal.returns-clause-answer
unfolding stanza_read_of
returns-clause-answer c =
    rw c.without_parts.ensures (unit_answers c.parts_of-parts.result _ c.parts_of-parts.ensures)

pub returns-clause-stanza : goal.returns-clause-stanza
returns-clause-stanza c =
    let text = c.args.text.now in
    rw c.without_parts.ensures (unit_stanza (IsStanza text) c.parts_of-parts.result (result_cut IsElementText HasElementParts 1000000 text (λ _. IsStanza text) c.parts_of-parts.result _ c.parts_of-parts.ensures (stanza_tells text)))

pub returns-clause-refused : goal.returns-clause-refused
returns-clause-refused c =
    let text = c.args.text.now in
    rw c.without_parts.ensures (unit_refused IsElementText HasElementParts 1000000 text (λ _. IsStanza text) c.parts_of-parts.result (result_refused IsElementText HasElementParts 1000000 text (λ _. IsStanza text) c.parts_of-parts.result _ c.parts_of-parts.ensures (stanza_tells text)))

pub returns-clause-parts : goal.returns-clause-parts
returns-clause-parts c = λ parts h within.
    rw (c.without_parts.ensures, sym (stanza_answer c.args.text.now parts h within)) (unit_answers c.parts_of-parts.result _ c.parts_of-parts.ensures)

pub returns-clause-row : goal.returns-clause-row
returns-clause-row c =
    rw c.without_parts.ensures (unit_row IsElementText Anything c.args.text.now c.parts_of-parts.result (result_row IsElementText Anything c.args.text.now c.parts_of-parts.result _ c.parts_of-parts.ensures (stanza_row c.args.text.now)))
