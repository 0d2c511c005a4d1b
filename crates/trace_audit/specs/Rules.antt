-- The rules of a trace: what each line is tested for, over what the lines before it tell.
use Rattle.std.specs.Prelude.{◌≡◌, ℕ, ◌+◌, ◌-◌, ◌&&◌, Bool, true, false, not, ◌==◌, is_none, List, [], ◌∷◌, ◌++◌, drop, length, slice_get, Option, None, Some, option_map, if◌then◌else◌}
use Rattle.std.specs.List.{find}
use Rattle.std.specs.Str.{bytes_eq}
use Rattle.trace_audit.specs.declared.bodies.Posted.{Posted}
use Rattle.trace_audit.specs.declared.bodies.Reply.{Reply}
use Rattle.trace_audit.specs.declared.line.Item.{Item}
use Rattle.trace_audit.specs.declared.line.Item.TheVariants.{Stanza, Restart}
use Rattle.trace_audit.specs.declared.line.TraceLine.{TraceLine}
use Rattle.trace_audit.specs.declared.line.TraceLine.TheVariants.{Gave, Sent, Came, In, Answer, Took, Got, End}
use Rattle.trace_audit.specs.declared.outcome.Rule.{Rule}
use Rattle.trace_audit.specs.declared.outcome.Rule.TheVariants.{Body, Number, Altered, Inward, Order, Changed, Payload, Took as TookRule, Got as GotRule}
use Rattle.trace_audit.specs.Bodies.{posted_of, reply_of}
use Rattle.trace_audit.specs.Run.{has_id, inward_of, counted, answer_at, handed, taken}
use Rattle.trace_audit.specs.Told.{Told, told}

-- one test of a line: the rule that it belongs to, and whether the line breaks it
abbrev pub Test : Type 0
Test = Rule × Bool

-- exactly the first is a creation
abbrev pub is_begun_well : List Posted → Bool → Bool
is_begun_well [] creates = creates
is_begun_well (first ∷ others) creates = not creates

abbrev pub last_of : List Posted → Option Posted
last_of sent = slice_get sent (length sent - 1)

-- its id is one more than that of the last; the first may have any
abbrev pub follows : Option Posted → ℕ → Bool
follows None rid = true
follows (Some last) rid = last.rid + 1 == rid

abbrev pub sent_tests : List Posted → Option Posted → List Test
sent_tests sent None = (Body, true) ∷ []
sent_tests sent (Some posted) = (Body, not (is_begun_well sent posted.creates)) ∷ (Number, not (follows (last_of sent) posted.rid)) ∷ []

-- what was sent with this id
abbrev pub sent_at : List Posted → ℕ → Option Posted
sent_at sent rid = find (λ (posted : Posted). posted.rid == rid) sent

abbrev pub has_body : Option Posted → List ℕ → Bool
has_body None body = false
has_body (Some posted) body = bytes_eq posted.body body

-- it has the bytes that were sent with its id
abbrev pub is_as_sent : List Posted → Option Posted → Bool
is_as_sent sent None = false
is_as_sent sent (Some came) = has_body (sent_at sent came.rid) came.body

abbrev pub same_item : Item → Item → Bool
same_item (Stanza one) (Stanza other) = bytes_eq one other
same_item (Stanza one) Restart = false
same_item Restart (Stanza other) = false
same_item Restart Restart = true

-- what stands after so many is this
abbrev pub is_next : {X : Type 0} → (X → X → Bool) → List X → ℕ → X → Bool
is_next same xs count x = elim (slice_get xs count) [ None ↦ false | Some next ↦ same next x ]

-- what stands at the front are these
abbrev pub are_next : List (List ℕ) → List (List ℕ) → Bool
are_next xs [] = true
are_next [] (y ∷ ys) = false
are_next (x ∷ xs) (y ∷ ys) = bytes_eq x y && are_next xs ys

-- the lowest id that was sent and has no answer that counts is this
abbrev pub is_lowest : List Posted → List Reply → ℕ → Bool
is_lowest sent replies rid =
    elim (find (λ (posted : Posted). is_none (answer_at replies posted.rid)) sent) [ None ↦ false | Some posted ↦ posted.rid == rid ]

abbrev pub counted_tests : Told → Reply → Option Reply → List Test
counted_tests t reply (Some earlier) = (Changed, not (bytes_eq earlier.body reply.body)) ∷ []
counted_tests t reply None =
    (Order, not (is_lowest t.sent (counted t) reply.rid))
    ∷ (Payload, not (are_next (drop (length (handed t)) t.gave) reply.payloads)) ∷ []

-- where it has a `type` only the first
abbrev pub reply_tests : Told → Option Reply → List Test
reply_tests t None = (Body, true) ∷ []
reply_tests t (Some reply) =
    (Order, not (has_id t.came reply.rid)) ∷ (if reply.typed then [] else counted_tests t reply (answer_at (counted t) reply.rid))

-- the tests of a line, in their order
abbrev pub tests_of : Told → TraceLine → List Test
tests_of t (Gave stanza) = []
tests_of t (Sent body) = sent_tests t.sent (posted_of body)
tests_of t (Came body) = (Altered, not (is_as_sent t.sent (posted_of body))) ∷ []
tests_of t (In item) = (Inward, not (is_next same_item (inward_of t) (length t.passed) item)) ∷ []
tests_of t (Answer rid body) = reply_tests t (reply_of rid body)
tests_of t (Took rid) = (TookRule, is_none (answer_at (counted t) rid)) ∷ []
tests_of t (Got stanza) = (GotRule, not (is_next bytes_eq (taken t) (length t.got) stanza)) ∷ []
tests_of t End = []

-- the first of them that the line breaks
abbrev pub first_failed : List Test → Option Rule
first_failed tests = option_map (λ (test : Test). test.0) (find (λ (test : Test). test.1) tests)

-- the first rule that a line breaks over what the lines before it tell
unfoldable pub broken_by : Told → TraceLine → Option Rule
broken_by t line = first_failed (tests_of t line)

-- a trace holds: no line of it breaks a rule over the lines before it
abbrev pub Holds : List TraceLine → Type 0
Holds lines = (before : List TraceLine) (line : TraceLine) (after : List TraceLine) → lines ≡ before ++ line ∷ after → broken_by (told before) line ≡ None

-- the line after these is the first that breaks a rule, and this is the first that it breaks
abbrev pub IsFirstBroken : List TraceLine → TraceLine → Rule → Type 0
IsFirstBroken before line rule = Holds before × (broken_by (told before) line ≡ Some rule)
