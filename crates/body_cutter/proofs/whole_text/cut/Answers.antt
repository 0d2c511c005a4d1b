use Rattle.std.proofs.Common.{subst}
use Rattle.body_cutter.specs.Cutting.{Answers}
use Rattle.body_cutter.specs.BodyText.{IsBodyText, HasBodyParts, IsBody}
use Rattle.body_cutter.proofs.Bodies.{body_tells, result_cut, result_refused}
use Rattle.body_cutter.proofs.Readings.{body_answer}
use Rattle.body_cutter.specs.Viable.{NamesBody}
use Rattle.body_cutter.proofs.CompletionTable.{body_row, result_row}
use Rattle.body_cutter.proofs.whole_text.cut.Goals as goal

pub returns-clause-body : goal.returns-clause-body
returns-clause-body c = result_cut IsBodyText HasBodyParts 1048576 c.args.text.now (IsBody c.args.text.now) c.parts_of.result _ c.parts_of.ensures (body_tells c.args.text.now)

pub returns-clause-refused : goal.returns-clause-refused
returns-clause-refused c = result_refused IsBodyText HasBodyParts 1048576 c.args.text.now (IsBody c.args.text.now) c.parts_of.result _ c.parts_of.ensures (body_tells c.args.text.now)

pub returns-clause-parts : goal.returns-clause-parts
returns-clause-parts c = λ parts h within. subst (λ answer. Answers c.parts_of.result answer) (body_answer c.args.text.now parts h within) c.parts_of.ensures

pub returns-clause-row : goal.returns-clause-row
returns-clause-row c = result_row IsBodyText NamesBody c.args.text.now c.parts_of.result _ c.parts_of.ensures (body_row c.args.text.now)
