-- The text of an answer, piece by piece.
use Rattle.std.proofs.Common.{◌≡◌, ℕ, List, [], ◌∷◌, ◌++◌, refl, ap, ◌∙◌, append-nil}
use Rattle.std.specs.Prelude.{None, Some, codes}
use Rattle.body_writer.specs.declared.answer.AnswerParts.{AnswerParts}
use Rattle.body_writer.specs.declared.answer.Created.{Created}
use Rattle.body_writer.specs.Answer.{answer_text}
use Rattle.body_writer.specs.AnswerRows.{answer_attributes, xmpp_rows, stream_rows, kind_rows, terms_rows, created_rows, ack_rows, report_rows, restart_rows}
use Rattle.body_writer.specs.Attribute.{attribute, escaped, closed_with}
use Rattle.body_writer.specs.Rows.{rows_text, text_row, httpbind_row, named_rows}
use Rattle.body_writer.proofs.RowsTexts.{begun, after, rows_append}

pub answer_pieces : (parts : AnswerParts) →
    answer_text parts ≡
    codes "<body" ++ rows_text (httpbind_row ∷ []) ++ rows_text (xmpp_rows parts.created) ++ rows_text (stream_rows parts.created parts.payloads)
    ++ rows_text (kind_rows parts.kind parts.condition) ++ rows_text (created_rows parts.created) ++ rows_text (named_rows parts.stream)
    ++ rows_text (ack_rows parts.ack) ++ rows_text (report_rows parts.report) ++ rows_text (restart_rows parts.created) ++ closed_with parts.payloads
unfolding answer_text answer_attributes
answer_pieces parts =
    ap (λ (t : List ℕ). t ++ closed_with parts.payloads)
    (after (after (after (after (after (after (after (after (begun (httpbind_row ∷ [])) (xmpp_rows parts.created)) (stream_rows parts.created parts.payloads))
    (kind_rows parts.kind parts.condition)) (created_rows parts.created)) (named_rows parts.stream)) (ack_rows parts.ack)) (report_rows parts.report)) (restart_rows parts.created)).is

pub created_pieces : (created : Created) →
    rows_text (created_rows (Some created)) ≡ attribute (codes "sid") (escaped created.sid) ++ rows_text (terms_rows created.terms) ++ attribute (codes "from") (escaped created.from)
unfolding created_rows
created_pieces created =
    rows_append (text_row (codes "sid") created.sid ∷ terms_rows created.terms) (text_row (codes "from") created.from ∷ [])
    ∙ ap (λ (t : List ℕ). attribute (codes "sid") (escaped created.sid) ++ rows_text (terms_rows created.terms) ++ t) (append-nil (attribute (codes "from") (escaped created.from)))

pub created_none : rows_text (created_rows None) ≡ []
unfolding created_rows
created_none = refl
