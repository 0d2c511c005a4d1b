-- What came without a gap, which answers count, and what of them was handed out and taken.
use Rattle.std.specs.Prelude.{ℕ, Bool, false, ◌==◌, List, [], ◌∷◌, ◌++◌, flat_map, Option, None, Some, if◌then◌else◌}
use Rattle.std.specs.List.{find, list_any}
use Rattle.trace_audit.specs.declared.bodies.Posted.{Posted}
use Rattle.trace_audit.specs.declared.bodies.Reply.{Reply}
use Rattle.trace_audit.specs.declared.line.Item.{Item}
use Rattle.trace_audit.specs.Told.{Told}

abbrev pub has_id : List ℕ → ℕ → Bool
has_id ids rid = list_any (λ id. id == rid) ids

-- the front of a list, as long as each passes; none follows one that closes
abbrev pub run_by : {X : Type 0} → (X → Bool) → (X → Bool) → List X → List X
run_by passes closes [] = []
run_by passes closes (x ∷ xs) = if passes x then x ∷ (if closes x then [] else run_by passes closes xs) else []

-- its request came
abbrev pub has_come : List ℕ → Posted → Bool
has_come came posted = has_id came posted.rid

-- the run: the requests from the first one on, in the order of their ids, as long as each came; none follows a terminate
abbrev pub run_in : List ℕ → List Posted → List Posted
run_in came sent = run_by (has_come came) (λ posted. posted.terminate) sent

abbrev pub items_of : List Posted → List Item
items_of run = flat_map (λ (posted : Posted). posted.items) run

-- what may go inward: the items of the run
abbrev pub inward_of : Told → List Item
inward_of t = items_of (run_in t.came t.sent)

-- the one that counts for this id
abbrev pub answer_at : List Reply → ℕ → Option Reply
answer_at replies rid = find (λ (reply : Reply). reply.rid == rid) replies

-- with one more, unless its id has one
abbrev pub with_reply : List Reply → Reply → List Reply
with_reply replies reply = elim (answer_at replies reply.rid) [ None ↦ replies ++ reply ∷ [] | Some earlier ↦ replies ]

abbrev pub firsts_after : List Reply → List Reply → List Reply
firsts_after replies [] = replies
firsts_after replies (reply ∷ others) = firsts_after (with_reply replies reply) others

-- the answers that count: of those without a type the first for each id
abbrev pub counted : Told → List Reply
counted t = firsts_after [] t.answered

abbrev pub payloads_of : List Reply → List (List ℕ)
payloads_of replies = flat_map (λ (reply : Reply). reply.payloads) replies

-- what was handed out: the payloads of the answers that count
abbrev pub handed : Told → List (List ℕ)
handed t = payloads_of (counted t)

-- its answer was taken
abbrev pub was_taken : List ℕ → Reply → Bool
was_taken took reply = has_id took reply.rid

-- what of it may be got: the payloads of those up to the first that wasn't taken
abbrev pub taken_in : List ℕ → List Reply → List (List ℕ)
taken_in took replies = payloads_of (run_by (was_taken took) (λ reply. false) replies)

abbrev pub taken : Told → List (List ℕ)
taken t = taken_in t.took (counted t)
