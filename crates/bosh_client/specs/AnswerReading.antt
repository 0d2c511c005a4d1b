-- How an answer is read.
use Rattle.std.specs.Prelude.{◌≡◌, ℕ, Bool, true, false, List, map, Option, None, Some, is_some, Result, Ok, Err, if◌then◌else◌}
use Rattle.std.specs.Option.{ok_or, option_map}
use Rattle.bosh_types.specs.Rid.{rid_of}
use Rattle.body_cutter.specs.Cutting.{body_cut_of}
use Rattle.body_cutter.specs.Pieces.{bytes_at}
use Rattle.body_cutter.specs.declared.parts.Cut.{Cut}
use Rattle.body_cutter.specs.declared.parts.CutRefusal.{CutRefusal}
use Rattle.body_cutter.specs.declared.parts.Span.{Span}
use Rattle.session_attrs.specs.Forms.{number_of, says_httpbind}
use Rattle.bosh_client.specs.declared.replies.ClientEnd.{ClientEnd}
use Rattle.bosh_client.specs.declared.replies.Why.{Why}
use Rattle.bosh_client.specs.declared.replies.Why.TheVariants as whys
use Rattle.bosh_client.specs.declared.reading.AnswerError.{AnswerError}
use Rattle.bosh_client.specs.declared.reading.AnswerError.TheVariants.{Memory, Broken}
use Rattle.bosh_client.specs.declared.said.AnswerType.{AnswerType}
use Rattle.bosh_client.specs.declared.said.AnswerType.TheVariants.{Terminate, Error}
use Rattle.bosh_client.specs.declared.said.Said.{Said}
use Rattle.bosh_client.specs.declared.told.Told.{Told}
use Rattle.bosh_client.specs.AnswerMeaning.{condition_of, naming_of, type_of}
use Rattle.bosh_client.specs.AnswerValues.{AnswerValues, values_of}

-- first this, then the rest, unless a value is out of form
infixl 10 ◌>>=◌
abbrev pub ◌>>=◌ : {A B : Type 0} → Option A → (A → Option B) → Option B
None >>= f = None
(Some x) >>= f = f x

-- what an optional value says; none where it is out of form
abbrev pub said : {X : Type 0} → (List ℕ → Option X) → Option (List ℕ) → Option (Option X)
said read None = Some None
said read (Some text) = option_map Some (read text)

-- the attributes that have a form; none where one is out of form
unfoldable pub said_in : AnswerValues → Option Said
said_in v = do
  kind ← said type_of v.type
  ack ← said rid_of v.ack
  requests ← said number_of v.requests
  polling ← said number_of v.polling
  maxpause ← said number_of v.maxpause
  Some (record { kind = kind; ack = ack; requests = requests; polling = polling; maxpause = maxpause })

-- how a terminal answer ends the client, which names no stream; another one's condition is not looked at
abbrev pub end_with : Option (List ℕ) → Option (List ℕ) → Option ClientEnd
end_with condition None = Some (record { condition = option_map condition_of condition })
end_with condition (Some stream) = None

abbrev pub end_by : Option (List ℕ) → Option (List ℕ) → Option AnswerType → Option ClientEnd
end_by condition stream None = None
end_by condition stream (Some Terminate) = end_with condition stream
end_by condition stream (Some Error) = None

-- whether it says that its request counts as not received
abbrev pub is_error : Option AnswerType → Bool
is_error None = false
is_error (Some Terminate) = false
is_error (Some Error) = true

-- what an answer tells that says this
abbrev pub told_from : AnswerValues → List (List ℕ) → Said → Told
told_from v payloads s = record {
  end = end_by v.condition v.stream s.kind;
  error = is_error s.kind;
  sid = v.sid;
  requests = s.requests;
  polling = s.polling;
  maxpause = s.maxpause;
  acknowledges = is_some s.ack;
  stream = naming_of v.stream;
  payloads = payloads;
}

-- what they say in the namespace of the protocol
unfoldable pub answer_with : AnswerValues → List (List ℕ) → Result Told Why
answer_with v payloads = if says_httpbind v.xmlns then ok_or (option_map (told_from v payloads) (said_in v)) whys.Attribute else Err whys.Namespace

-- the children of a body as their exact bytes
abbrev pub payloads_at : List ℕ → List Span → List (List ℕ)
payloads_at text spans = map (λ span. bytes_at text span) spans

abbrev pub answer_in : List ℕ → Result Cut CutRefusal → Result Told Why
answer_in text (Ok cut) = answer_with (values_of text cut.attrs) (payloads_at text cut.children)
answer_in text (Err refusal) = Err (whys.Cut refusal)

-- what this body tells a client, or the first reason for which it is no answer
unfoldable pub answer_of : List ℕ → Result Told Why
answer_of text = answer_in text (body_cut_of text)

-- what was read is this, unless memory ran out
abbrev pub IsRead : Result Told AnswerError → Result Told Why → Type 0
IsRead (Ok tells) answer = answer ≡ Ok tells
IsRead (Err Memory) answer = Unit {0}
IsRead (Err (Broken why)) answer = answer ≡ Err why
