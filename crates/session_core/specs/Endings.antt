-- What the ending of a session gives to the requests that are open then, XEP-0124 sections 13 and 17.
use Rattle.std.specs.Prelude.{ℕ, ◌+◌, ◌==◌, List, [], Option, Some, None, if◌then◌else◌}
use Rattle.bosh_types.specs.declared.condition.Condition.{Condition}
use Rattle.bosh_types.specs.declared.condition.Condition.TheVariants as conditions
use Rattle.bosh_types.specs.declared.ending.Closing.{Closing}
use Rattle.bosh_types.specs.declared.ending.Closing.TheVariants.{Plain, RemoteConnectionFailed, RemoteStreamError, SystemShutdown}
use Rattle.bosh_types.specs.declared.ending.Ending.{Ending}
use Rattle.bosh_types.specs.declared.ending.Ending.TheVariants.{Terminated, Stale, Above, WrongKey, UnknownStream, PauseTooLong, Overactive, Silent, Closed, JournalFull}
use Rattle.body_writer.specs.declared.answer.AnswerKind.TheVariants.{Usual, Terminate, Error}
use Rattle.body_writer.specs.declared.answer.AnswerParts.{AnswerParts}
use Rattle.body_writer.specs.Answer.{answer_text}
use Rattle.session_core.specs.State.{PlainSession}

-- a terminal body, with its condition if there is one
abbrev pub terminal : Option Condition → AnswerParts
terminal condition = record { created = None; kind = Terminate; condition = condition; stream = None; ack = None; report = None; payloads = [] }

-- a body that says nothing
abbrev pub nothing : AnswerParts
nothing = record { created = None; kind = Usual; condition = None; stream = None; ack = None; report = None; payloads = [] }

-- the request counts as not received, and the client repeats it with all earlier ones that have no answer, XEP-0124 section 17.3
abbrev pub error_parts : AnswerParts
error_parts = record { created = None; kind = Error; condition = None; stream = None; ack = None; report = None; payloads = [] }

abbrev pub error_text : List ℕ
error_text = answer_text error_parts

-- what the client is told of a closing, XEP-0206 section 8
abbrev pub closing_condition : Closing → Option Condition
closing_condition Plain = None
closing_condition RemoteConnectionFailed = Some conditions.RemoteConnectionFailed
closing_condition RemoteStreamError = Some conditions.RemoteStreamError
closing_condition SystemShutdown = Some conditions.SystemShutdown

-- another request broke the session
abbrev pub other_request : AnswerParts
other_request = terminal (Some conditions.OtherRequest)

-- what the open requests are given after a closing
abbrev pub word_at_closing : Closing → AnswerParts
word_at_closing Plain = nothing
word_at_closing RemoteConnectionFailed = other_request
word_at_closing RemoteStreamError = other_request
word_at_closing SystemShutdown = other_request

-- what the copy that broke the session is given, where it is the open request with this id, and what any other one is
abbrev pub word_if_breaker : ℕ → ℕ → Condition → AnswerParts
word_if_breaker breaker id condition = if id == breaker then terminal (Some condition) else other_request

-- what the ending gives to the open request with this id, where ids up to this one were answered; a terminate is told to the
-- oldest held one
abbrev pub word_for : ℕ → Ending → ℕ → AnswerParts
word_for answered (Terminated rid) id = if id == answered + 1 then terminal None else nothing
word_for answered (Stale rid lowest) id = other_request
word_for answered (Above rid last requests) id = other_request
word_for answered (WrongKey rid) id = word_if_breaker rid id conditions.ItemNotFound
word_for answered (UnknownStream rid) id = word_if_breaker rid id conditions.ItemNotFound
word_for answered (PauseTooLong rid pause maxpause) id = word_if_breaker rid id conditions.PolicyViolation
word_for answered (Overactive rid apart) id = word_if_breaker rid id conditions.PolicyViolation
word_for answered (Silent since now) id = terminal (Some conditions.ItemNotFound)
word_for answered (Closed closing rid) id = word_at_closing closing
word_for answered (JournalFull counted cost) id = other_request

abbrev pub last_word : ℕ → Ending → ℕ → List ℕ
last_word answered ending id = answer_text (word_for answered ending id)

-- the session ends: each request that is open has its last word, and nothing is answered later
abbrev pub ended : Ending → PlainSession → PlainSession
ended ending s = record s { ending = Some ending }
