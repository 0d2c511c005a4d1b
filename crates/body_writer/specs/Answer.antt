-- The text of an answer.
use Rattle.std.specs.Prelude.{ℕ, List, ◌++◌, codes}
use Rattle.body_writer.specs.declared.answer.AnswerParts.{AnswerParts}
use Rattle.body_writer.specs.AnswerRows.{answer_attributes}
use Rattle.body_writer.specs.Attribute.{closed_with}
use Rattle.body_writer.specs.Rows.{rows_text}

-- its attributes in their order, then its payloads
unfoldable pub answer_text : AnswerParts → List ℕ
answer_text parts = codes "<body" ++ rows_text (answer_attributes parts) ++ closed_with parts.payloads
