-- The attributes of an answer, block by block.
use Rattle.std.proofs.Common.{◌≡◌, ℕ, suc, zero, true, List, [], ◌∷◌, ◌++◌, refl, arith}
use Rattle.std.specs.Prelude.{Option, None, Some, codes, IfSome}
use Rattle.std.specs.Fmt.{decimal}
use Rattle.bosh_types.specs.Condition.{name_of}
use Rattle.bosh_types.specs.declared.condition.Condition.{Condition}
use Rattle.bosh_types.specs.declared.condition.Condition.TheVariants.{BadRequest, HostUnknown, ImproperAddressing, ItemNotFound, OtherRequest, PolicyViolation, RemoteConnectionFailed, RemoteStreamError, SystemShutdown, UndefinedCondition}
use Rattle.bosh_types.specs.declared.terms.Terms.{Terms}
use Rattle.body_cutter.specs.Built.{built_text}
use Rattle.body_writer.specs.declared.answer.AnswerKind.{AnswerKind}
use Rattle.body_writer.specs.declared.answer.AnswerKind.TheVariants.{Usual, Terminate, Error}
use Rattle.body_writer.specs.declared.answer.AnswerParts.{AnswerParts}
use Rattle.body_writer.specs.declared.answer.Created.{Created}
use Rattle.stream_names.specs.Streams as names
use Rattle.body_writer.specs.Rows.{httpbind_row, xmpp_version_row, named_rows}
use Rattle.body_writer.specs.Answer.{answer_text}
use Rattle.body_writer.specs.AnswerRows.{answer_attributes, xmpp_rows, stream_rows, kind_rows, version_value, terms_rows, created_rows, ack_rows, report_rows, restart_rows}
use Rattle.body_writer.specs.ReadBack.{IsAnswer, IsCreated, IsStream, AreTerms, IsWord, ReadsAs}
use Rattle.body_writer.proofs.Plain.{all_plain, plain-append, decimal_plain}
use Rattle.body_writer.proofs.Blocks.{Block, block_none, block_plain, block_value, block_number, block_text, block_both}
use Rattle.body_writer.proofs.ReadBacks.{rows_built, rows_read}

pub block_httpbind : {Holds : Type 0} → Block Holds (httpbind_row ∷ []) (codes "xmlns" ∷ [])
block_httpbind = block_value (codes "xmlns") (codes "http://jabber.org/protocol/httpbind") refl refl

pub block_version : {Holds : Type 0} → Block Holds (xmpp_version_row ∷ []) (codes "xmpp:version" ∷ [])
block_version = block_value (codes "xmpp:version") (codes "1.0") refl refl

name_plain : (stream : ℕ) → IsStream stream → all_plain (names.name_of stream) ≡ true
name_plain zero is = refl
name_plain (suc zero) is = refl
name_plain (suc (suc zero)) is = refl
name_plain (suc (suc (suc zero))) is = refl
name_plain (suc (suc (suc (suc zero)))) is = refl
name_plain (suc (suc (suc (suc (suc zero))))) is = refl
name_plain (suc (suc (suc (suc (suc (suc zero)))))) is = refl
name_plain (suc (suc (suc (suc (suc (suc (suc zero))))))) is = refl
name_plain (suc (suc (suc (suc (suc (suc (suc (suc stream)))))))) is = absurd (omega (arith, is))

-- the name of a stream
pub block_named : {Holds : Type 0} (stream : Option ℕ) → (Holds → IfSome stream IsStream) → Block Holds (named_rows stream) (codes "stream" ∷ [])
unfolding named_rows
block_named None is = block_none _
block_named (Some stream) is = block_plain (codes "stream") (names.name_of stream) refl (λ h. name_plain stream (is h))

xmpp_block : {Holds : Type 0} (created : Option Created) → Block Holds (xmpp_rows created) (codes "xmlns:xmpp" ∷ [])
unfolding xmpp_rows
xmpp_block None = block_none _
xmpp_block (Some created) = block_value (codes "xmlns:xmpp") (codes "urn:xmpp:xbosh") refl refl

stream_block : {Holds : Type 0} (created : Option Created) (payloads : List (List ℕ)) → Block Holds (stream_rows created payloads) (codes "xmlns:stream" ∷ [])
unfolding stream_rows
stream_block None [] = block_none _
stream_block None (payload ∷ payloads) = block_value (codes "xmlns:stream") (codes "http://etherx.jabber.org/streams") refl refl
stream_block (Some created) payloads = block_value (codes "xmlns:stream") (codes "http://etherx.jabber.org/streams") refl refl

condition_plain : (condition : Condition) → all_plain (name_of condition) ≡ true
condition_plain BadRequest = refl
condition_plain HostUnknown = refl
condition_plain ImproperAddressing = refl
condition_plain ItemNotFound = refl
condition_plain OtherRequest = refl
condition_plain PolicyViolation = refl
condition_plain RemoteConnectionFailed = refl
condition_plain RemoteStreamError = refl
condition_plain SystemShutdown = refl
condition_plain UndefinedCondition = refl

type_block : {Holds : Type 0} (condition : Option Condition) → Block Holds (kind_rows Terminate condition) (codes "type" ∷ codes "condition" ∷ [])
unfolding kind_rows
type_block None = block_both (block_value (codes "type") (codes "terminate") refl refl) (block_none (codes "condition" ∷ []))
type_block (Some condition) = block_both (block_value (codes "type") (codes "terminate") refl refl) (block_value (codes "condition") (name_of condition) refl (condition_plain condition))

kind_block : {Holds : Type 0} (kind : AnswerKind) (condition : Option Condition) → Block Holds (kind_rows kind condition) (codes "type" ∷ codes "condition" ∷ [])
unfolding kind_rows
kind_block Usual condition = block_none _
kind_block Terminate condition = type_block condition
kind_block Error condition = block_both (block_value (codes "type") (codes "error") refl refl) (block_none (codes "condition" ∷ []))

version_plain : (terms : Terms) → AreTerms terms → all_plain (version_value terms.version) ≡ true
unfolding version_value
version_plain terms are =
    plain-append (decimal terms.version.0 ++ codes ".") _ (plain-append (decimal terms.version.0) _ (decimal_plain terms.version.0 are.6) refl)
    (decimal_plain terms.version.1 are.7)

terms_block : {Holds : Type 0} (terms : Terms) → (Holds → AreTerms terms) →
    Block Holds (terms_rows terms) (codes "wait" ∷ codes "requests" ∷ codes "inactivity" ∷ codes "polling" ∷ codes "maxpause" ∷ codes "hold" ∷ codes "ver" ∷ [])
unfolding terms_rows
terms_block terms are =
    block_both (block_both (block_both (block_both (block_both (block_both
    (block_number (codes "wait") terms.wait refl (λ h. (are h).0))
    (block_number (codes "requests") terms.requests refl (λ h. (are h).1)))
    (block_number (codes "inactivity") terms.inactivity refl (λ h. (are h).2)))
    (block_number (codes "polling") terms.polling refl (λ h. (are h).3)))
    (block_number (codes "maxpause") terms.maxpause refl (λ h. (are h).4)))
    (block_number (codes "hold") terms.hold refl (λ h. (are h).5)))
    (block_plain (codes "ver") (version_value terms.version) refl (λ h. version_plain terms (are h)))

abbrev created_names : List (List ℕ)
created_names =
    codes "sid" ∷ codes "wait" ∷ codes "requests" ∷ codes "inactivity" ∷ codes "polling" ∷ codes "maxpause" ∷ codes "hold" ∷ codes "ver"
    ∷ codes "from" ∷ []

created_block : {Holds : Type 0} (created : Option Created) → (Holds → IfSome created IsCreated) → Block Holds (created_rows created) created_names
unfolding created_rows
created_block None is = block_none _
created_block (Some created) is =
    block_both (block_both (block_text (codes "sid") created.sid refl (λ h. (is h).0)) (terms_block created.terms (λ h. (is h).1))) (block_text (codes "from") created.from refl (λ h. (is h).2))

ack_block : {Holds : Type 0} (ack : Option ℕ) → (Holds → IfSome ack IsWord) → Block Holds (ack_rows ack) (codes "ack" ∷ [])
unfolding ack_rows
ack_block None is = block_none _
ack_block (Some rid) is = block_number (codes "ack") rid refl is

report_block : {Holds : Type 0} (report : Option (ℕ × ℕ)) → (Holds → IfSome report (λ r. IsWord r.0 × IsWord r.1)) → Block Holds (report_rows report) (codes "report" ∷ codes "time" ∷ [])
unfolding report_rows
report_block None is = block_none _
report_block (Some (rid, millis)) is = block_both (block_number (codes "report") rid refl (λ h. (is h).0)) (block_number (codes "time") millis refl (λ h. (is h).1))

restart_block : {Holds : Type 0} (created : Option Created) → Block Holds (restart_rows created) (codes "xmpp:version" ∷ codes "xmpp:restartlogic" ∷ [])
unfolding restart_rows
restart_block None = block_none _
restart_block (Some created) = block_both block_version (block_value (codes "xmpp:restartlogic") (codes "true") refl refl)

abbrev answer_names : List (List ℕ)
answer_names =
    codes "xmlns" ∷ codes "xmlns:xmpp" ∷ codes "xmlns:stream" ∷ codes "type" ∷ codes "condition" ∷ codes "sid" ∷ codes "wait" ∷ codes "requests"
    ∷ codes "inactivity" ∷ codes "polling" ∷ codes "maxpause" ∷ codes "hold" ∷ codes "ver" ∷ codes "from" ∷ codes "stream" ∷ codes "ack" ∷ codes "report"
    ∷ codes "time" ∷ codes "xmpp:version" ∷ codes "xmpp:restartlogic" ∷ []

answer_blocks : (parts : AnswerParts) → Block (IsAnswer parts) (answer_attributes parts) answer_names
unfolding answer_attributes
answer_blocks parts =
    block_both (block_both (block_both (block_both (block_both (block_both (block_both (block_both block_httpbind
    (xmpp_block parts.created))
    (stream_block parts.created parts.payloads))
    (kind_block parts.kind parts.condition))
    (created_block parts.created (λ is. is.created)))
    (block_named parts.stream (λ is. is.stream)))
    (ack_block parts.ack (λ is. is.ack)))
    (report_block parts.report (λ is. is.report)))
    (restart_block parts.created)

pub answer_built : (parts : AnswerParts) → answer_text parts ≡ built_text (answer_attributes parts) parts.payloads
unfolding answer_text
answer_built parts = rows_built (answer_attributes parts) parts.payloads

pub answer_reads : (parts : AnswerParts) → IsAnswer parts → ReadsAs (answer_text parts) (answer_attributes parts) parts.payloads
unfolding answer_text
answer_reads parts is = rows_read (answer_blocks parts) parts.payloads is refl (omega arith) is.payloads is.fits
