-- Bodies that say only what they mean for their session, and refusals among them.
use Rattle.std.specs.Prelude.{ℕ, List, [], ◌++◌, Option, None, codes}
use Rattle.bosh_types.specs.Condition.{name_of}
use Rattle.bosh_types.specs.declared.condition.Condition.{Condition}
use Rattle.body_writer.specs.declared.answer.AnswerKind.{AnswerKind}
use Rattle.body_writer.specs.declared.answer.AnswerParts.{AnswerParts}

-- the parts of a body without payloads that says nothing else
abbrev pub bare_parts : AnswerKind → Option Condition → AnswerParts
bare_parts kind condition = record { created = None; kind = kind; condition = condition; stream = None; ack = None; report = None; payloads = [] }

-- a terminal body with its condition, XEP-0124 section 17.2
unfoldable pub refusal_text : Condition → List ℕ
refusal_text condition = codes "<body xmlns='http://jabber.org/protocol/httpbind' type='terminate' condition='" ++ name_of condition ++ codes "'/>"
