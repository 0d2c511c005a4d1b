-- What the lines of a trace tell, each kind in its order.
use Rattle.std.specs.Prelude.{ℕ, List, [], ◌∷◌, ◌++◌, flat_map, Option, None, Some, option_map, if◌then◌else◌}
use Rattle.trace_audit.specs.declared.bodies.Posted.{Posted}
use Rattle.trace_audit.specs.declared.bodies.Reply.{Reply}
use Rattle.trace_audit.specs.declared.line.Item.{Item}
use Rattle.trace_audit.specs.declared.line.TraceLine.{TraceLine}
use Rattle.trace_audit.specs.declared.line.TraceLine.TheVariants.{Gave, Sent, Came, In, Answer, Took, Got}
use Rattle.trace_audit.specs.Bodies.{posted_of, reply_of}

abbrev pub if_some : {X : Type 0} → Option X → List X
if_some None = []
if_some (Some x) = x ∷ []

-- an answer with a `type` counts for nothing, whatever the type is
abbrev pub if_untyped : Option Reply → List Reply
if_untyped None = []
if_untyped (Some reply) = if reply.typed then [] else reply ∷ []

-- the stanzas that were given, the requests that were sent, the ids of those that came, the items that went inward, the answers
-- without a type, the ids of answers that were taken, and the stanzas that were got
abbrev pub given_by : TraceLine → List (List ℕ)
given_by (Gave stanza) = stanza ∷ []
given_by line = []

abbrev pub sent_by : TraceLine → List Posted
sent_by (Sent body) = if_some (posted_of body)
sent_by line = []

abbrev pub came_by : TraceLine → List ℕ
came_by (Came body) = if_some (option_map (λ (posted : Posted). posted.rid) (posted_of body))
came_by line = []

abbrev pub passed_by : TraceLine → List Item
passed_by (In item) = item ∷ []
passed_by line = []

abbrev pub answered_by : TraceLine → List Reply
answered_by (Answer rid body) = if_untyped (reply_of rid body)
answered_by line = []

abbrev pub taken_by : TraceLine → List ℕ
taken_by (Took rid) = rid ∷ []
taken_by line = []

abbrev pub got_by : TraceLine → List (List ℕ)
got_by (Got stanza) = stanza ∷ []
got_by line = []

-- all that lines tell
pub record Told : Type 0 where
  pub gave : List (List ℕ)
  pub sent : List Posted
  pub came : List ℕ
  pub passed : List Item
  pub answered : List Reply
  pub took : List ℕ
  pub got : List (List ℕ)

abbrev pub told : List TraceLine → Told
told lines = record {
  gave = flat_map given_by lines;
  sent = flat_map sent_by lines;
  came = flat_map came_by lines;
  passed = flat_map passed_by lines;
  answered = flat_map answered_by lines;
  took = flat_map taken_by lines;
  got = flat_map got_by lines;
}

-- what is told with one line more
abbrev pub after : Told → TraceLine → Told
after t line = record {
  gave = t.gave ++ given_by line;
  sent = t.sent ++ sent_by line;
  came = t.came ++ came_by line;
  passed = t.passed ++ passed_by line;
  answered = t.answered ++ answered_by line;
  took = t.took ++ taken_by line;
  got = t.got ++ got_by line;
}
