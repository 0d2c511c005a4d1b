-- What the text of an answer tells the client that reads it.
use Rattle.std.specs.Prelude.{ℕ, ◌≤◌, Bool, true, false, Option, None, Some, is_some, IfSome}
use Rattle.std.specs.Option.{option_map}
use Rattle.bosh_types.specs.Rid.{IsRid}
use Rattle.bosh_types.specs.declared.condition.Condition.{Condition}
use Rattle.body_writer.specs.declared.answer.AnswerKind.{AnswerKind}
use Rattle.body_writer.specs.declared.answer.AnswerKind.TheVariants.{Usual, Terminate, Error}
use Rattle.body_writer.specs.declared.answer.AnswerParts.{AnswerParts}
use Rattle.body_writer.specs.declared.answer.Created.{Created}
use Rattle.bosh_client.specs.declared.replies.ClientEnd.{ClientEnd}
use Rattle.bosh_client.specs.declared.told.Naming.{Naming}
use Rattle.bosh_client.specs.declared.told.Naming.TheVariants.{Unnamed, Stream}
use Rattle.bosh_client.specs.declared.told.Told.{Told}

-- the greatest number of 9 digits
abbrev pub greatest_number : ℕ
greatest_number = 999999999

-- the terms have at most 9 digits, and an acknowledgement is a request id
pub record IsInForm (parts : AnswerParts) : Type 0 where
  pub requests : IfSome parts.created (λ (c : Created). c.terms.requests ≤ greatest_number)
  pub polling : IfSome parts.created (λ (c : Created). c.terms.polling ≤ greatest_number)
  pub maxpause : IfSome parts.created (λ (c : Created). c.terms.maxpause ≤ greatest_number)
  pub ack : IfSome parts.ack IsRid

abbrev pub end_in : AnswerKind → Option ℕ → Option Condition → Option ClientEnd
end_in Usual stream condition = None
end_in Terminate None condition = Some (record { condition = condition })
end_in Terminate (Some stream) condition = None
end_in Error stream condition = None

abbrev pub naming_in : Option ℕ → Naming
naming_in None = Unnamed
naming_in (Some stream) = Stream stream

abbrev pub is_error_kind : AnswerKind → Bool
is_error_kind Usual = false
is_error_kind Terminate = false
is_error_kind Error = true

-- what an answer with these parts tells
abbrev pub told_of : AnswerParts → Told
told_of parts = record {
  end = end_in parts.kind parts.stream parts.condition;
  error = is_error_kind parts.kind;
  sid = option_map (λ (c : Created). c.sid) parts.created;
  requests = option_map (λ (c : Created). c.terms.requests) parts.created;
  polling = option_map (λ (c : Created). c.terms.polling) parts.created;
  maxpause = option_map (λ (c : Created). c.terms.maxpause) parts.created;
  acknowledges = is_some parts.ack;
  stream = naming_in parts.stream;
  payloads = parts.payloads;
}
