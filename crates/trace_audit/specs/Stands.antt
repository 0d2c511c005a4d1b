-- What the audit keeps stands for what the lines so far tell.
use Rattle.std.specs.Prelude.{◌≡◌, ℕ, ◌+◌, ◌≤◌, ◌==◌, Bool, true, false, List, [], ◌∷◌, ◌++◌, ⊤, flat_map, length, map, slice_get, is_some, Option, None, Some, if◌then◌else◌}
use Rattle.std.specs.List.{find}
use Rattle.trace_audit.specs.declared.bodies.Posted.{Posted}
use Rattle.trace_audit.specs.declared.bodies.Reply.{Reply}
use Rattle.trace_audit.specs.declared.heard.Heard.{Heard}
use Rattle.trace_audit.specs.declared.heard.Place.{Place}
use Rattle.trace_audit.specs.declared.line.TraceLine.{TraceLine}
use Rattle.trace_audit.specs.declared.outcome.Rule.{Rule}
use Rattle.trace_audit.specs.declared.outcome.Rule.TheVariants.{Changed}
use Rattle.trace_audit.specs.Rules.{broken_by}
use Rattle.trace_audit.specs.Run.{run_by, has_id, has_come, was_taken, counted, payloads_of}
use Rattle.trace_audit.specs.Told.{Told, after}

-- so much of the first is behind
abbrev pub IsWithin : {X A : Type 0} → (X → List A) → List X → ℕ → Type 0
IsWithin f [] offset = offset ≡ 0
IsWithin f (x ∷ xs) offset = offset ≤ length (f x)

-- each of these passes, and none closes
abbrev pub ArePassed : {X : Type 0} → (X → Bool) → (X → Bool) → List X → Type 0
ArePassed passes closes [] = ⊤
ArePassed passes closes (x ∷ xs) = (passes x ≡ true) × (closes x ≡ false) × ArePassed passes closes xs

-- a place in a list of lists: so much of what lies before it is behind, and all of that passed
pub record IsAt {X A : Type 0} (passes closes : X → Bool) (f : X → List A) (xs : List X) (place : Place) (count : ℕ) : Type 0 where
  pub front : List X
  pub back : List X
  pub parts : xs ≡ front ++ back
  pub index : place.index ≡ length front
  pub passed : ArePassed passes closes front
  pub within : IsWithin f back place.offset
  pub count_is : count ≡ length (flat_map f front) + place.offset

-- nothing comes next
abbrev pub HasNoneAt : {X A : Type 0} → (X → Bool) → (X → Bool) → (X → List A) → List X → ℕ → Type 0
HasNoneAt passes closes f xs count = slice_get (flat_map f (run_by passes closes xs)) count ≡ None

-- this comes next, and this is the place after it
abbrev pub IsNextAt : {X A : Type 0} → (X → Bool) → (X → Bool) → (X → List A) → List X → ℕ → A → Place → Type 0
IsNextAt passes closes f xs count next place =
    (slice_get (flat_map f (run_by passes closes xs)) count ≡ Some next) × IsAt passes closes f xs place (count + 1)

-- the place of the next item
abbrev pub IsInwardAt : List ℕ → List Posted → Place → ℕ → Type 0
IsInwardAt came sent place count = IsAt (has_come came) (λ posted. posted.terminate) (λ (posted : Posted). posted.items) sent place count

-- the place of the next payload that may be got
abbrev pub IsOutwardAt : List ℕ → List Reply → Place → ℕ → Type 0
IsOutwardAt took replies place count = IsAt (was_taken took) (λ reply. false) (λ (reply : Reply). reply.payloads) replies place count

-- the ids go on by one from the first
abbrev pub AreFrom : {X : Type 0} → (X → ℕ) → ℕ → List X → Type 0
AreFrom rid first [] = ⊤
AreFrom rid first (x ∷ xs) = (rid x ≡ first) × AreFrom rid (first + 1) xs

-- the ids of requests go on by one, and the answers that count are those of the first so many of them, in their order
pub record AreNumbered (sent : List Posted) (replies : List Reply) : Type 0 where
  pub first : ℕ
  pub sent_from : AreFrom (λ (posted : Posted). posted.rid) first sent
  pub replies_from : AreFrom (λ (reply : Reply). reply.rid) first replies
  pub few : length replies ≤ length sent

-- a mark for each, whether its id is one of these; and each of these is the id of one
pub record Marks {X : Type 0} (rid : X → ℕ) (ids : List ℕ) (xs : List X) (marks : List Bool) : Type 0 where
  pub marks_are : marks ≡ map (λ x. has_id ids (rid x)) xs
  pub known : (id : ℕ) → has_id ids id ≡ true → is_some (find (λ x. rid x == id) xs) ≡ true

-- a mark for each request, whether it came
abbrev pub MarksCome : List ℕ → List Posted → List Bool → Type 0
MarksCome came sent marks = Marks (λ (posted : Posted). posted.rid) came sent marks

-- a mark for each answer, whether it was taken
abbrev pub MarksTaken : List ℕ → List Reply → List Bool → Type 0
MarksTaken took replies marks = Marks (λ (reply : Reply). reply.rid) took replies marks

-- the lists and numbers that are kept are those of what was given, the requests that were sent, the ids that came, how many items went
-- inward, the answers that count, the ids of those that were taken, and how many stanzas were got
pub record Hears (gave : List (List ℕ)) (sent : List Posted) (came : List Bool) (inward : Place) (replies : List Reply) (out : ℕ) (took : List Bool) (outward : Place)
    (all_given : List (List ℕ)) (all_sent : List Posted) (all_came : List ℕ) (passed : ℕ) (all_replies : List Reply) (all_taken : List ℕ) (got : ℕ) : Type 0 where
  pub gave_is : gave ≡ all_given
  pub sent_is : sent ≡ all_sent
  pub came_is : MarksCome all_came all_sent came
  pub inward_at : IsInwardAt all_came all_sent inward passed
  pub replies_are : replies ≡ all_replies
  pub out_is : out ≡ length (payloads_of all_replies)
  pub took_is : MarksTaken all_taken all_replies took
  pub outward_at : IsOutwardAt all_taken all_replies outward got
  pub numbered : AreNumbered all_sent all_replies

abbrev pub Stands : Heard → Told → Type 0
Stands h t = Hears h.gave.items h.sent.items h.came.items h.inward h.counted.items h.handed h.took.items h.outward
    t.gave t.sent t.came (length t.passed) (counted t) t.took (length t.got)

-- the rule is the first that the line breaks, and where it breaks none it was heard
abbrev pub Judges : Option Rule → Heard → Told → TraceLine → Type 0
Judges broken new t line = (broken ≡ broken_by t line) × (broken ≡ None → Stands new (after t line))

-- the rule that a repeated answer breaks
abbrev pub is_changed : Bool → Option Rule
is_changed same = if same then None else Some Changed
