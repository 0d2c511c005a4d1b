-- Line by line, a trace that holds keeps both prefixes.
use Rattle.std.proofs.Common.{◌≡◌, ℕ, Bool, true, false, List, [], ◌∷◌, ◌++◌, Option, Some, None, length, refl, sym, ◌∙◌, ap, subst, append_assoc, append-nil, if◌then◌else◌}
use Rattle.std.specs.Prelude.{◌==◌, ◌||◌, not, flat_map, slice_get}
use Rattle.std.specs.Str.{bytes_eq}
use Rattle.std.proofs.lemmas.Grind.{flat_map-append}
use Rattle.std.proofs.lemmas.List.Folds.{list_any-append}
use Rattle.std.proofs.lemmas.Slice.Eq.{bytes_eq-Decides}
use Rattle.trace_audit.specs.declared.bodies.Posted.{Posted}
use Rattle.trace_audit.specs.declared.bodies.Reply.{Reply}
use Rattle.trace_audit.specs.declared.line.Item.{Item}
use Rattle.trace_audit.specs.declared.line.Item.TheVariants.{Stanza, Restart}
use Rattle.trace_audit.specs.declared.line.TraceLine.{TraceLine}
use Rattle.trace_audit.specs.declared.line.TraceLine.TheVariants.{Gave, Sent, Came, In, Answer, Took, Got, End}
use Rattle.trace_audit.specs.declared.outcome.Rule.{Rule}
use Rattle.trace_audit.specs.declared.outcome.Rule.TheVariants.{Inward, Order, Payload}
use Rattle.trace_audit.specs.Bodies.{reply_of}
use Rattle.trace_audit.specs.Prefixes.{Begins, KeepsBothPrefixes}
use Rattle.trace_audit.specs.Rules.{Holds, broken_by, first_failed, same_item, is_lowest, counted_tests, reply_tests}
use Rattle.trace_audit.specs.Run.{has_id, has_come, was_taken, run_by, inward_of, answer_at, with_reply, firsts_after, counted, payloads_of, handed, taken}
use Rattle.trace_audit.specs.Told.{Told, told, after, given_by, sent_by, came_by, passed_by, answered_by, taken_by, got_by, if_untyped}
use Rattle.trace_audit.proofs.PrefixLemmas.{begins_same, none_begins, begins_more, begins_trans, begins_flat, begins_next, begins_many, run_grows, run_begins}

-- One line more.

one_more : {A : Type 0} (f : TraceLine → List A) (lines : List TraceLine) (line : TraceLine) → flat_map f (lines ++ line ∷ []) ≡ flat_map f lines ++ f line
one_more f lines line = flat_map-append f lines (line ∷ []) ∙ ap (λ l. flat_map f lines ++ l) (append-nil (f line))

abbrev made : List (List ℕ) → List Posted → List ℕ → List Item → List Reply → List ℕ → List (List ℕ) → Told
made gave sent came passed answered took got = record { gave = gave; sent = sent; came = came; passed = passed; answered = answered; took = took; got = got }

pub told_more : (lines : List TraceLine) (line : TraceLine) → told (lines ++ line ∷ []) ≡ after (told lines) line
told_more lines line =
    let more : List TraceLine = lines ++ line ∷ [] in
    let t : Told = told lines in
    ap (λ x. made x (flat_map sent_by more) (flat_map came_by more) (flat_map passed_by more) (flat_map answered_by more) (flat_map taken_by more) (flat_map got_by more)) (one_more given_by lines line)
    ∙ ap (λ x. made (t.gave ++ given_by line) x (flat_map came_by more) (flat_map passed_by more) (flat_map answered_by more) (flat_map taken_by more) (flat_map got_by more)) (one_more sent_by lines line)
    ∙ ap (λ x. made (t.gave ++ given_by line) (t.sent ++ sent_by line) x (flat_map passed_by more) (flat_map answered_by more) (flat_map taken_by more) (flat_map got_by more)) (one_more came_by lines line)
    ∙ ap (λ x. made (t.gave ++ given_by line) (t.sent ++ sent_by line) (t.came ++ came_by line) x (flat_map answered_by more) (flat_map taken_by more) (flat_map got_by more)) (one_more passed_by lines line)
    ∙ ap (λ x. made (t.gave ++ given_by line) (t.sent ++ sent_by line) (t.came ++ came_by line) (t.passed ++ passed_by line) x (flat_map taken_by more) (flat_map got_by more)) (one_more answered_by lines line)
    ∙ ap (λ x. made (t.gave ++ given_by line) (t.sent ++ sent_by line) (t.came ++ came_by line) (t.passed ++ passed_by line) (t.answered ++ answered_by line) x (flat_map got_by more)) (one_more taken_by lines line)
    ∙ ap (λ x. made (t.gave ++ given_by line) (t.sent ++ sent_by line) (t.came ++ came_by line) (t.passed ++ passed_by line) (t.answered ++ answered_by line) (t.took ++ taken_by line) x) (one_more got_by lines line)

-- Tests that a line passed.

one_passed : (rule : Rule) (b : Bool) → first_failed ((rule, not b) ∷ []) ≡ None → b ≡ true
one_passed rule true none = refl
one_passed rule false none = cc

has_next : {X : Type 0} (same : X → X → Bool) (x : X) → ((y : X) → same y x ≡ true → y ≡ x) → (o : Option X) → (elim o [ None ↦ false | Some next ↦ same next x ]) ≡ true → o ≡ Some x
has_next same x decides None is = cc
has_next same x decides (Some y) is = ap (λ z. Some z) (decides y is)

same_items : (one other : Item) → same_item one other ≡ true → one ≡ other
same_items (Stanza one) (Stanza other) is = ap (λ s. Stanza s) ((bytes_eq-Decides one other).0 is)
same_items (Stanza one) Restart is = cc
same_items Restart (Stanza other) is = cc
same_items Restart Restart is = refl

-- Answers that count.

pub firsts_more : (replies others : List Reply) (more : List Reply) → firsts_after replies (others ++ more) ≡ firsts_after (firsts_after replies others) more
firsts_more replies [] more = refl
firsts_more replies (reply ∷ others) more = firsts_more (with_reply replies reply) others more

with_grows : (replies : List Reply) (reply : Reply) (o : Option Reply) → Begins replies (elim o [ None ↦ replies ++ reply ∷ [] | Some earlier ↦ replies ])
with_grows replies reply None = begins_more replies (reply ∷ [])
with_grows replies reply (Some earlier) = begins_same replies replies refl

firsts_grow : (replies more : List Reply) → Begins replies (firsts_after replies more)
firsts_grow replies [] = begins_same replies replies refl
firsts_grow replies (reply ∷ more) = begins_trans replies (with_reply replies reply) (firsts_after (with_reply replies reply) more) (with_grows replies reply (answer_at replies reply.rid)) (firsts_grow (with_reply replies reply) more)

pub counted_grows : (t : Told) (more : List Reply) → Begins (counted t) (firsts_after [] (t.answered ++ more))
counted_grows t more = subst (Begins (counted t)) (sym (firsts_more [] t.answered more)) (firsts_grow (counted t) more)

or_true : (a b : Bool) → a ≡ true → (a || b) ≡ true
or_true true b is = refl
or_true false b is = cc

pub has_more : (ids more : List ℕ) (rid : ℕ) → has_id ids rid ≡ true → has_id (ids ++ more) rid ≡ true
has_more ids more rid has = list_any-append (λ id. id == rid) ids more ∙ or_true (has_id ids rid) (has_id more rid) has

-- What holds of a trace at each of its lines.
record Keeps (t : Told) : Type 0 where
  pub inward : Begins t.passed (inward_of t)
  pub handed_is : Begins (handed t) t.gave
  pub got_is : Begins t.got (taken t)

module _ (t : Told) (line : TraceLine) where
  inward_grows : Begins (inward_of t) (inward_of (after t line))
  inward_grows = begins_flat (λ (posted : Posted). posted.items) _ _
      (run_grows (has_come t.came) (has_come (t.came ++ came_by line)) (λ posted. posted.terminate) (λ posted. has_more t.came (came_by line) posted.rid) t.sent (sent_by line))

  taken_grows : Begins (taken t) (taken (after t line))
  taken_grows =
      let grown = counted_grows t (answered_by line) in
      begins_flat (λ (reply : Reply). reply.payloads) _ _
      (subst (λ (l : List Reply). Begins (run_by (was_taken t.took) (λ reply. false) (counted t)) (run_by (was_taken (t.took ++ taken_by line)) (λ reply. false) l)) (sym grown.1)
      (run_grows (was_taken t.took) (was_taken (t.took ++ taken_by line)) (λ reply. false) (λ reply. has_more t.took (taken_by line) reply.rid) (counted t) grown.0))

passed_same : {X : Type 0} (xs all : List X) → Begins xs all → Begins (xs ++ []) all
passed_same xs all begins = subst (λ l. Begins l all) (sym (append-nil xs)) begins

passed_on : (t : Told) (line : TraceLine) → broken_by t line ≡ None → Begins t.passed (inward_of t) → Begins (t.passed ++ passed_by line) (inward_of t)
unfolding broken_by
passed_on t (In item) holds begins =
    begins_next t.passed (inward_of t) item begins
    (has_next same_item item (λ y. same_items y item) (slice_get (inward_of t) (length t.passed)) (one_passed Inward _ holds))
passed_on t (Gave stanza) holds begins = passed_same t.passed _ begins
passed_on t (Sent body) holds begins = passed_same t.passed _ begins
passed_on t (Came body) holds begins = passed_same t.passed _ begins
passed_on t (Answer rid body) holds begins = passed_same t.passed _ begins
passed_on t (Took rid) holds begins = passed_same t.passed _ begins
passed_on t (Got stanza) holds begins = passed_same t.passed _ begins
passed_on t End holds begins = passed_same t.passed _ begins

got_on : (t : Told) (line : TraceLine) → broken_by t line ≡ None → Begins t.got (taken t) → Begins (t.got ++ got_by line) (taken t)
unfolding broken_by
got_on t (Got stanza) holds begins =
    begins_next t.got (taken t) stanza begins
    (has_next bytes_eq stanza (λ y. (bytes_eq-Decides y stanza).0) (slice_get (taken t) (length t.got)) (one_passed _ _ holds))
got_on t (Gave stanza) holds begins = passed_same t.got _ begins
got_on t (Sent body) holds begins = passed_same t.got _ begins
got_on t (Came body) holds begins = passed_same t.got _ begins
got_on t (In item) holds begins = passed_same t.got _ begins
got_on t (Answer rid body) holds begins = passed_same t.got _ begins
got_on t (Took rid) holds begins = passed_same t.got _ begins
got_on t End holds begins = passed_same t.got _ begins

-- What an answer hands out.

payload_passed : (a h b : Bool) → first_failed ((Order, not h) ∷ (Order, not a) ∷ (Payload, not b) ∷ []) ≡ None → b ≡ true
payload_passed true true true none = refl
payload_passed true true false none = cc
payload_passed false true b none = cc
payload_passed a false b none = cc

module _ (t : Told) (reply : Reply) (h : Bool) (begins : Begins (handed t) t.gave) where
  handed_counted : (o : Option Reply) → first_failed ((Order, not h) ∷ counted_tests t reply o) ≡ None
      → Begins (payloads_of (elim o [ None ↦ counted t ++ reply ∷ [] | Some earlier ↦ counted t ])) t.gave
  handed_counted (Some earlier) none = begins
  handed_counted None none =
      subst (λ l. Begins l t.gave) (sym (flat_map-append (λ (r : Reply). r.payloads) (counted t) (reply ∷ []) ∙ ap (λ l. handed t ++ l) (append-nil reply.payloads)))
      (begins_many (handed t) t.gave reply.payloads begins (payload_passed (is_lowest t.sent (counted t) reply.rid) h _ none))

  handed_typed : (typed : Bool) → first_failed ((Order, not h) ∷ (if typed then [] else counted_tests t reply (answer_at (counted t) reply.rid))) ≡ None
      → Begins (payloads_of (firsts_after [] (t.answered ++ (if typed then [] else reply ∷ [])))) t.gave
  handed_typed true none = subst (λ (l : List Reply). Begins (payloads_of (firsts_after [] l)) t.gave) (sym (append-nil t.answered)) begins
  handed_typed false none =
      subst (λ (l : List Reply). Begins (payloads_of l) t.gave) (sym (firsts_more [] t.answered (reply ∷ [])))
      (handed_counted (answer_at (counted t) reply.rid) none)

handed_answer : (t : Told) (o : Option Reply) → first_failed (reply_tests t o) ≡ None → Begins (handed t) t.gave → Begins (payloads_of (firsts_after [] (t.answered ++ if_untyped o))) t.gave
handed_answer t None none begins = cc
handed_answer t (Some reply) none begins = handed_typed t reply (has_id t.came reply.rid) begins reply.typed none

handed_same : (t : Told) → Begins (handed t) t.gave → Begins (payloads_of (firsts_after [] (t.answered ++ []))) t.gave
handed_same t begins = subst (λ (l : List Reply). Begins (payloads_of (firsts_after [] l)) t.gave) (sym (append-nil t.answered)) begins

handed_on : (t : Told) (line : TraceLine) → broken_by t line ≡ None → Begins (handed t) t.gave → Begins (handed (after t line)) t.gave
unfolding broken_by
handed_on t (Answer rid body) holds begins = handed_answer t (reply_of rid body) holds begins
handed_on t (Gave stanza) holds begins = handed_same t begins
handed_on t (Sent body) holds begins = handed_same t begins
handed_on t (Came body) holds begins = handed_same t begins
handed_on t (In item) holds begins = handed_same t begins
handed_on t (Took rid) holds begins = handed_same t begins
handed_on t (Got stanza) holds begins = handed_same t begins
handed_on t End holds begins = handed_same t begins

-- a line that breaks no rule
keeps_on : (t : Told) (line : TraceLine) → broken_by t line ≡ None → Keeps t → Keeps (after t line)
keeps_on t line holds keeps = record {
  inward = begins_trans _ _ _ (passed_on t line holds keeps.inward) (inward_grows t line);
  handed_is = begins_trans _ _ _ (handed_on t line holds keeps.handed_is) (begins_more t.gave (given_by line));
  got_is = begins_trans _ _ _ (got_on t line holds keeps.got_is) (taken_grows t line);
}

keeps_all : (before lines : List TraceLine) → Keeps (told before)
    → ((xs : List TraceLine) (line : TraceLine) (ys : List TraceLine) → lines ≡ xs ++ line ∷ ys → broken_by (told (before ++ xs)) line ≡ None)
    → Keeps (told (before ++ lines))
keeps_all before [] keeps holds = subst (λ (b : List TraceLine). Keeps (told b)) (sym (append-nil before)) keeps
keeps_all before (line ∷ lines) keeps holds =
    let here : broken_by (told before) line ≡ None = subst (λ (b : List TraceLine). broken_by (told b) line ≡ None) (append-nil before) (holds [] line lines refl) in
    subst (λ (b : List TraceLine). Keeps (told b)) (append_assoc before (line ∷ []) lines)
    (keeps_all (before ++ line ∷ []) lines (subst Keeps (sym (told_more before line)) (keeps_on (told before) line here keeps))
    (λ xs next ys is. subst (λ (b : List TraceLine). broken_by (told b) next ≡ None) (sym (append_assoc before (line ∷ []) xs)) (holds (line ∷ xs) next ys (ap (λ (m : List TraceLine). line ∷ m) is))))

-- a trace that holds
pub keeps_both : (lines : List TraceLine) → Holds lines → KeepsBothPrefixes lines
keeps_both lines holds =
    let keeps : Keeps (told lines) = keeps_all [] lines (record { inward = none_begins _; handed_is = none_begins _; got_is = none_begins _ }) holds in
    record {
      inward_is = begins_trans _ _ _ keeps.inward (begins_flat (λ (posted : Posted). posted.items) _ _ (run_begins (has_come (told lines).came) (λ posted. posted.terminate) (told lines).sent));
      got_is = begins_trans _ _ _ keeps.got_is (begins_trans _ _ _ (begins_flat (λ (reply : Reply). reply.payloads) _ _ (run_begins (was_taken (told lines).took) (λ reply. false) (counted (told lines)))) keeps.handed_is);
    }
