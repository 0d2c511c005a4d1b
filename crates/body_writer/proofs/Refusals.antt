-- The text of a refusal is an answer's.
use Rattle.std.proofs.Common.{◌≡◌, refl}
use Rattle.std.specs.Prelude.{Some}
use Rattle.bosh_types.specs.declared.condition.Condition.{Condition}
use Rattle.bosh_types.specs.declared.condition.Condition.TheVariants.{BadRequest, HostUnknown, ImproperAddressing, ItemNotFound, OtherRequest, PolicyViolation, RemoteConnectionFailed, RemoteStreamError, SystemShutdown, UndefinedCondition}
use Rattle.body_writer.specs.declared.answer.AnswerKind.TheVariants.{Terminate}
use Rattle.body_writer.specs.Answer.{answer_text}
use Rattle.body_writer.specs.AnswerRows.{answer_attributes, xmpp_rows, stream_rows, kind_rows, created_rows, ack_rows, report_rows, restart_rows}
use Rattle.body_writer.specs.Attribute.{attribute, closed_with}
use Rattle.body_writer.specs.Rows.{named_rows}
use Rattle.body_writer.specs.Refusal.{bare_parts, refusal_text}

pub refusal_is : (condition : Condition) → refusal_text condition ≡ answer_text (bare_parts Terminate (Some condition))
unfolding refusal_text answer_text answer_attributes xmpp_rows stream_rows kind_rows created_rows named_rows ack_rows report_rows restart_rows attribute closed_with
refusal_is BadRequest = refl
refusal_is HostUnknown = refl
refusal_is ImproperAddressing = refl
refusal_is ItemNotFound = refl
refusal_is OtherRequest = refl
refusal_is PolicyViolation = refl
refusal_is RemoteConnectionFailed = refl
refusal_is RemoteStreamError = refl
refusal_is SystemShutdown = refl
refusal_is UndefinedCondition = refl
