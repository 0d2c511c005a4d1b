-- The text of a request, piece by piece.
use Rattle.std.proofs.Common.{◌≡◌, ℕ, List, [], ◌∷◌, ◌++◌, ◌∙◌, refl, sym, ap, append_assoc, append-nil}
use Rattle.std.specs.Prelude.{codes}
use Rattle.std.specs.Fmt.{decimal}
use Rattle.body_writer.specs.declared.request.RequestParts.{RequestParts}
use Rattle.body_writer.specs.Request.{request_text}
use Rattle.body_writer.specs.RequestRows.{request_attributes, xmpp_rows, sid_rows, creation_rows, host_rows, number_rows, key_rows, terminate_rows, version_rows, restart_rows}
use Rattle.body_writer.specs.Attribute.{attribute, escaped, closed_with}
use Rattle.body_writer.specs.Rows.{rows_text, number_row, httpbind_row, named_rows}
use Rattle.body_writer.proofs.RowsTexts.{begun, after, after_one}

pub request_pieces : (parts : RequestParts) →
    request_text parts ≡
    codes "<body" ++ rows_text (httpbind_row ∷ []) ++ rows_text (xmpp_rows parts.creation parts.restart) ++ attribute (codes "rid") (decimal parts.rid)
    ++ rows_text (sid_rows parts.sid) ++ rows_text (named_rows parts.stream) ++ rows_text (host_rows parts.creation parts.to) ++ rows_text (number_rows (codes "ack") parts.ack)
    ++ rows_text (key_rows (codes "key") parts.key) ++ rows_text (key_rows (codes "newkey") parts.newkey) ++ rows_text (number_rows (codes "pause") parts.pause)
    ++ rows_text (terminate_rows parts.terminate) ++ rows_text (version_rows parts.creation) ++ rows_text (restart_rows parts.restart)
    ++ closed_with parts.payloads
unfolding request_text request_attributes
request_pieces parts =
    ap (λ (t : List ℕ). t ++ closed_with parts.payloads)
    (after (after (after (after (after (after (after (after (after (after (after_one (after (begun (httpbind_row ∷ [])) (xmpp_rows parts.creation parts.restart))
    (number_row (codes "rid") parts.rid)) (sid_rows parts.sid)) (named_rows parts.stream)) (host_rows parts.creation parts.to)) (number_rows (codes "ack") parts.ack))
    (key_rows (codes "key") parts.key)) (key_rows (codes "newkey") parts.newkey)) (number_rows (codes "pause") parts.pause)) (terminate_rows parts.terminate))
    (version_rows parts.creation)) (restart_rows parts.restart)).is

six : (a b c d e f : List ℕ) → a ++ (b ++ (c ++ (d ++ (e ++ (f ++ []))))) ≡ a ++ b ++ c ++ d ++ e ++ f
six a b c d e f =
    ap (λ (t : List ℕ). a ++ (b ++ (c ++ (d ++ (e ++ t))))) (append-nil f)
    ∙ sym (append_assoc (a ++ b ++ c ++ d) e f ∙ append_assoc (a ++ b ++ c) d (e ++ f) ∙ append_assoc (a ++ b) c (d ++ (e ++ f)) ∙ append_assoc a b (c ++ (d ++ (e ++ f))))

pub creation_pieces : (to : List ℕ) (wait hold : ℕ) →
    rows_text (creation_rows (to, wait, hold)) ≡
    attribute (codes "to") (escaped to) ++ attribute (codes "xml:lang") (codes "en") ++ attribute (codes "wait") (decimal wait)
    ++ attribute (codes "hold") (decimal hold) ++ attribute (codes "ver") (codes "1.11") ++ attribute (codes "content") (codes "text/xml; charset=utf-8")
unfolding creation_rows
creation_pieces to wait hold =
    six (attribute (codes "to") (escaped to)) (attribute (codes "xml:lang") (codes "en")) (attribute (codes "wait") (decimal wait))
    (attribute (codes "hold") (decimal hold)) (attribute (codes "ver") (codes "1.11")) (attribute (codes "content") (codes "text/xml; charset=utf-8"))
