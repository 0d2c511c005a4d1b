-- The attributes of an answer with their values, in order.
use Rattle.std.specs.Prelude.{ℕ, List, [], ◌∷◌, ◌++◌, Option, None, Some, codes}
use Rattle.std.specs.Fmt.{decimal}
use Rattle.bosh_types.specs.Condition.{name_of}
use Rattle.bosh_types.specs.declared.condition.Condition.{Condition}
use Rattle.bosh_types.specs.declared.terms.Terms.{Terms}
use Rattle.body_cutter.specs.Built.{Written}
use Rattle.body_writer.specs.declared.answer.AnswerKind.{AnswerKind}
use Rattle.body_writer.specs.declared.answer.AnswerKind.TheVariants.{Usual, Terminate, Error}
use Rattle.body_writer.specs.declared.answer.AnswerParts.{AnswerParts}
use Rattle.body_writer.specs.declared.answer.Created.{Created}
use Rattle.body_writer.specs.Rows.{value_row, number_row, text_row, httpbind_row, xbosh_row, stream_row, xmpp_version_row, named_rows}

-- the namespaces of a creation's answer, and of payloads
unfoldable pub xmpp_rows : Option Created → List Written
xmpp_rows None = []
xmpp_rows (Some created) = xbosh_row ∷ []

unfoldable pub stream_rows : Option Created → List (List ℕ) → List Written
stream_rows None [] = []
stream_rows None (payload ∷ payloads) = stream_row ∷ []
stream_rows (Some created) payloads = stream_row ∷ []

-- a terminal answer, and what it names as its reason; or that the request counts as not received, XEP-0124 section 17.3
unfoldable pub kind_rows : AnswerKind → Option Condition → List Written
kind_rows Usual condition = []
kind_rows Terminate None = value_row (codes "type") (codes "terminate") ∷ []
kind_rows Terminate (Some condition) = value_row (codes "type") (codes "terminate") ∷ value_row (codes "condition") (name_of condition) ∷ []
kind_rows Error condition = value_row (codes "type") (codes "error") ∷ []

-- the version of the protocol
unfoldable pub version_value : ℕ × ℕ → List ℕ
version_value (major, minor) = decimal major ++ codes "." ++ decimal minor

-- what was agreed, XEP-0124 section 7
unfoldable pub terms_rows : Terms → List Written
terms_rows terms =
    number_row (codes "wait") terms.wait
    ∷ number_row (codes "requests") terms.requests
    ∷ number_row (codes "inactivity") terms.inactivity
    ∷ number_row (codes "polling") terms.polling
    ∷ number_row (codes "maxpause") terms.maxpause
    ∷ number_row (codes "hold") terms.hold
    ∷ value_row (codes "ver") (version_value terms.version)
    ∷ []

unfoldable pub created_rows : Option Created → List Written
created_rows None = []
created_rows (Some created) = text_row (codes "sid") created.sid ∷ terms_rows created.terms ++ text_row (codes "from") created.from ∷ []

unfoldable pub ack_rows : Option ℕ → List Written
ack_rows None = []
ack_rows (Some rid) = number_row (codes "ack") rid ∷ []

-- a report of a missing answer, XEP-0124 section 9
unfoldable pub report_rows : Option (ℕ × ℕ) → List Written
report_rows None = []
report_rows (Some (rid, millis)) = number_row (codes "report") rid ∷ number_row (codes "time") millis ∷ []

-- what XEP-0206 adds to a creation's answer
unfoldable pub restart_rows : Option Created → List Written
restart_rows None = []
restart_rows (Some created) = xmpp_version_row ∷ value_row (codes "xmpp:restartlogic") (codes "true") ∷ []

-- the attributes of an answer
unfoldable pub answer_attributes : AnswerParts → List Written
answer_attributes parts =
    httpbind_row
    ∷ xmpp_rows parts.created
    ++ stream_rows parts.created parts.payloads
    ++ kind_rows parts.kind parts.condition
    ++ created_rows parts.created
    ++ named_rows parts.stream
    ++ ack_rows parts.ack
    ++ report_rows parts.report
    ++ restart_rows parts.created
