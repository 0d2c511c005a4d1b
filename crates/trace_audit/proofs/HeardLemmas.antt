-- What is kept goes on to stand for what the lines tell, and the rule that is found is the first that the line breaks.
use Rattle.std.proofs.Common.{◌≡◌, ℕ, ◌+◌, ◌≤◌, ◌<◌, Bool, true, false, List, [], ◌∷◌, ◌++◌, Option, Some, None, length, drop, set, refl, sym, ◌∙◌, ap, subst, append-nil, length-append, if◌then◌else◌}
use Rattle.std.specs.Prelude.{not, is_none, option_map, slice_get}
use Rattle.std.specs.Str.{bytes_eq}
use Rattle.std.proofs.lemmas.Grind.{flat_map-append}
use Rattle.std.proofs.lemmas.Option.{slice_get_past, slice_get_within}
use Rattle.trace_audit.specs.declared.bodies.Posted.{Posted}
use Rattle.trace_audit.specs.declared.bodies.Reply.{Reply}
use Rattle.trace_audit.specs.declared.heard.Place.{Place}
use Rattle.trace_audit.specs.declared.line.Item.{Item}
use Rattle.trace_audit.specs.declared.line.TraceLine.{TraceLine}
use Rattle.trace_audit.specs.declared.line.TraceLine.TheVariants.{Gave, Sent, Came, In, Answer, Took, Got, End}
use Rattle.trace_audit.specs.declared.outcome.Rule.{Rule}
use Rattle.trace_audit.specs.declared.outcome.Rule.TheVariants as rules
use Rattle.trace_audit.specs.Bodies.{posted_of, reply_of}
use Rattle.trace_audit.specs.Ids.{distance, first_id, has_at, is_marked, stands_at}
use Rattle.trace_audit.specs.Rules.{are_next, broken_by, counted_tests, first_failed, follows, has_body, is_as_sent, is_begun_well, is_lowest, last_of, reply_tests, same_item, sent_at, sent_tests}
use Rattle.trace_audit.specs.Run.{answer_at, counted, firsts_after, handed, has_come, has_id, inward_of, payloads_of, taken, was_taken}
use Rattle.trace_audit.specs.Stands.{HasNoneAt, Hears, IsInwardAt, IsNextAt, IsOutwardAt, MarksCome, MarksTaken, is_changed}
use Rattle.trace_audit.specs.Told.{Told, after, if_some, if_untyped}
use Rattle.trace_audit.proofs.IdLemmas.{answer_there, lowest_there, marked_is, marks_come, marks_more, marks_taken, new_id, not_known, reply_numbered, sent_numbered, sent_there, some_there}
use Rattle.trace_audit.proofs.KeepsLemmas.{firsts_more, has_more}
use Rattle.trace_audit.proofs.PlaceLemmas.{at_more}

ended : {X : Type 0} (xs : List X) → xs ≡ xs ++ []
ended xs = sym (append-nil xs)

ended_length : {X : Type 0} (xs : List X) → length xs ≡ length (xs ++ [])
ended_length xs = ap length (ended xs)

one_longer : {X : Type 0} (xs : List X) (x : X) → length xs + 1 ≡ length (xs ++ x ∷ [])
one_longer xs x = sym (length-append xs (x ∷ []))

-- the same, where what was told is said otherwise
module _ {gave : List (List ℕ)} {sent : List Posted} {came : List Bool} {inward : Place} {replies : List Reply} {out : ℕ} {took : List Bool} {outward : Place} where
  hears_as : {g g' : List (List ℕ)} {s s' : List Posted} {c c' : List ℕ} {p p' : ℕ} {r r' : List Reply} {k k' : List ℕ} {n n' : ℕ}
      → Hears gave sent came inward replies out took outward g s c p r k n → g ≡ g' → s ≡ s' → c ≡ c' → p ≡ p' → r ≡ r' → k ≡ k' → n ≡ n'
      → Hears gave sent came inward replies out took outward g' s' c' p' r' k' n'
  hears_as {g = g} {g' = g'} {s = s} {s' = s'} {c = c} {c' = c'} {p = p} {p' = p'} {r = r} {r' = r'} {k = k} {k' = k'} {n = n} {n' = n'} h gs ss cs ps rs ks ns =
      subst (λ x. Hears gave sent came inward replies out took outward g' s' c' p' r' k' x) ns
      (subst (λ x. Hears gave sent came inward replies out took outward g' s' c' p' r' x n) ks
      (subst (λ x. Hears gave sent came inward replies out took outward g' s' c' p' x k n) rs
      (subst (λ x. Hears gave sent came inward replies out took outward g' s' c' x r k n) ps
      (subst (λ x. Hears gave sent came inward replies out took outward g' s' x p r k n) cs
      (subst (λ x. Hears gave sent came inward replies out took outward g' x c p r k n) ss
      (subst (λ x. Hears gave sent came inward replies out took outward x s c p r k n) gs h))))))

abbrev one_test : Rule → Bool → Option Rule
one_test rule b = first_failed ((rule, not b) ∷ [])

if_none : {X : Type 0} (b : Bool) (x : X) → None ≡ (if b then Some x else None) → b ≡ false
if_none true x is = cc
if_none false x is = refl

if_some_is : {X : Type 0} (b : Bool) (x y : X) → Some y ≡ (if b then Some x else None) → (b ≡ true) × (y ≡ x)
if_some_is true x y is = (refl, cc)
if_some_is false x y is = cc

-- What one line adds to what is kept.
module _ (gave : List (List ℕ)) (sent : List Posted) (came : List Bool) (inward : Place) (replies : List Reply) (out : ℕ) (took : List Bool) (outward : Place)
    (g : List (List ℕ)) (s : List Posted) (c : List ℕ) (p : ℕ) (r : List Reply) (k : List ℕ) (n : ℕ)
    (h : Hears gave sent came inward replies out took outward g s c p r k n) where
  one_given : (stanza : List ℕ) → Hears (gave ++ stanza ∷ []) sent came inward replies out took outward (g ++ stanza ∷ []) s c p r k n
  one_given stanza = record {
    gave_is = ap (λ l. l ++ stanza ∷ []) h.gave_is;
    sent_is = h.sent_is;
    came_is = h.came_is;
    inward_at = h.inward_at;
    replies_are = h.replies_are;
    out_is = h.out_is;
    took_is = h.took_is;
    outward_at = h.outward_at;
    numbered = h.numbered;
  }

  one_sent : (x : Posted) → follows (last_of s) x.rid ≡ true → Hears gave (sent ++ x ∷ []) (came ++ false ∷ []) inward replies out took outward g (s ++ x ∷ []) c p r k n
  one_sent x goes_on = record {
    gave_is = h.gave_is;
    sent_is = ap (λ l. l ++ x ∷ []) h.sent_is;
    came_is = marks_more (λ (posted : Posted). posted.rid) c s came h.came_is x
        (not_known (λ (posted : Posted). posted.rid) c s came h.came_is x.rid (new_id s r h.numbered x goes_on));
    inward_at = at_more (has_come c) (λ posted. posted.terminate) (λ (posted : Posted). posted.items) (has_come c) (λ posted is. is) s (x ∷ []) inward p h.inward_at;
    replies_are = h.replies_are;
    out_is = h.out_is;
    took_is = h.took_is;
    outward_at = h.outward_at;
    numbered = sent_numbered s r h.numbered x goes_on;
  }

  distance_as : (id : ℕ) (o : Option ℕ) → distance (first_id sent) id ≡ o → distance (first_id s) id ≡ o
  distance_as id o is = ap (λ l. distance (first_id l) id) (sym h.sent_is) ∙ is

  one_came : (id place : ℕ) → distance (first_id sent) id ≡ Some place → place < length sent
      → Hears gave sent (set came place true) inward replies out took outward g s (c ++ id ∷ []) p r k n
  one_came id place there within = record {
    gave_is = h.gave_is;
    sent_is = h.sent_is;
    came_is = marks_come s r h.numbered c came h.came_is id place (distance_as id (Some place) there) (subst (λ (l : List Posted). place < length l) h.sent_is within);
    inward_at = subst (λ (l : List Posted). IsInwardAt (c ++ id ∷ []) l inward p) (append-nil s)
        (at_more (has_come c) (λ posted. posted.terminate) (λ (posted : Posted). posted.items) (has_come (c ++ id ∷ [])) (λ posted. has_more c (id ∷ []) posted.rid) s [] inward p h.inward_at);
    replies_are = h.replies_are;
    out_is = h.out_is;
    took_is = h.took_is;
    outward_at = h.outward_at;
    numbered = h.numbered;
  }

  one_passed : (place : Place) (m : ℕ) → IsInwardAt c s place m → Hears gave sent came place replies out took outward g s c m r k n
  one_passed place m at = record {
    gave_is = h.gave_is;
    sent_is = h.sent_is;
    came_is = h.came_is;
    inward_at = at;
    replies_are = h.replies_are;
    out_is = h.out_is;
    took_is = h.took_is;
    outward_at = h.outward_at;
    numbered = h.numbered;
  }

  one_answered : (x : Reply) (more : ℕ) → answer_at r x.rid ≡ None → has_at s (length r) x.rid ≡ true → more ≡ out + length x.payloads
      → Hears gave sent came inward (replies ++ x ∷ []) more (took ++ false ∷ []) outward g s c p (r ++ x ∷ []) k n
  one_answered x more first lowest is = record {
    gave_is = h.gave_is;
    sent_is = h.sent_is;
    came_is = h.came_is;
    inward_at = h.inward_at;
    replies_are = ap (λ l. l ++ x ∷ []) h.replies_are;
    out_is = is ∙ ap (λ m. m + length x.payloads) h.out_is
        ∙ sym (ap length (flat_map-append (λ (reply : Reply). reply.payloads) r (x ∷ []) ∙ ap (λ l. payloads_of r ++ l) (append-nil x.payloads)) ∙ length-append (payloads_of r) x.payloads);
    took_is = marks_more (λ (reply : Reply). reply.rid) k r took h.took_is x (not_known (λ (reply : Reply). reply.rid) k r took h.took_is x.rid first);
    outward_at = at_more (was_taken k) (λ reply. false) (λ (reply : Reply). reply.payloads) (was_taken k) (λ reply is. is) r (x ∷ []) outward n h.outward_at;
    numbered = reply_numbered s r x h.numbered lowest;
  }

  one_taken : (id place : ℕ) → distance (first_id sent) id ≡ Some place → place < length replies
      → Hears gave sent came inward replies out (set took place true) outward g s c p r (k ++ id ∷ []) n
  one_taken id place there within = record {
    gave_is = h.gave_is;
    sent_is = h.sent_is;
    came_is = h.came_is;
    inward_at = h.inward_at;
    replies_are = h.replies_are;
    out_is = h.out_is;
    took_is = marks_taken s r h.numbered k took h.took_is id place (distance_as id (Some place) there) (subst (λ (l : List Reply). place < length l) h.replies_are within);
    outward_at = subst (λ (l : List Reply). IsOutwardAt (k ++ id ∷ []) l outward n) (append-nil r)
        (at_more (was_taken k) (λ reply. false) (λ (reply : Reply). reply.payloads) (was_taken (k ++ id ∷ [])) (λ reply. has_more k (id ∷ []) reply.rid) r [] outward n h.outward_at);
    numbered = h.numbered;
  }

  one_got : (place : Place) (m : ℕ) → IsOutwardAt k r place m → Hears gave sent came inward replies out took place g s c p r k m
  one_got place m at = record {
    gave_is = h.gave_is;
    sent_is = h.sent_is;
    came_is = h.came_is;
    inward_at = h.inward_at;
    replies_are = h.replies_are;
    out_is = h.out_is;
    took_is = h.took_is;
    outward_at = at;
    numbered = h.numbered;
  }

  -- what the places of ids say
  sent_was : (id : ℕ) → sent_at s id ≡ stands_at sent (distance (first_id sent) id)
  sent_was id = sent_there s r id h.numbered ∙ ap (λ l. stands_at l (distance (first_id l) id)) (sym h.sent_is)

  answer_was : (id : ℕ) → answer_at r id ≡ stands_at replies (distance (first_id sent) id)
  answer_was id = answer_there s r id h.numbered ∙ ap (λ l. stands_at r (distance (first_id l) id)) (sym h.sent_is) ∙ ap (λ l. stands_at l (distance (first_id sent) id)) (sym h.replies_are)

  come_none : (id : ℕ) → distance (first_id sent) id ≡ None → has_id c id ≡ false
  come_none id none = not_known (λ (posted : Posted). posted.rid) c s came h.came_is id (sent_was id ∙ ap (λ o. stands_at sent o) none)

  come_as : (id place : ℕ) (b : Bool) → distance (first_id sent) id ≡ Some place → is_marked came place ≡ b → has_id c id ≡ b
  come_as id place b there known =
      sym (marked_is (λ (posted : Posted). posted.rid) c s came h.came_is id place (sent_there s r id h.numbered ∙ ap (λ o. stands_at s o) (distance_as id (Some place) there))) ∙ known

  lowest_as : (id : ℕ) (b : Bool) → has_at sent (length replies) id ≡ b → is_lowest s r id ≡ b
  lowest_as id b known = lowest_there s r id h.numbered ∙ ap (λ l. has_at l (length r) id) (sym h.sent_is) ∙ ap (λ (l : List Reply). has_at sent (length l) id) (sym h.replies_are) ∙ known

  has_as : (id : ℕ) → has_at sent (length replies) id ≡ true → has_at s (length r) id ≡ true
  has_as id known = ap (λ l. has_at l (length r) id) (sym h.sent_is) ∙ ap (λ (l : List Reply). has_at sent (length l) id) (sym h.replies_are) ∙ known

-- The rule of each kind of line.
module _ (gave : List (List ℕ)) (sent : List Posted) (came : List Bool) (inward : Place) (replies : List Reply) (out : ℕ) (took : List Bool) (outward : Place) (t : Told)
    (h : Hears gave sent came inward replies out took outward t.gave t.sent t.came (length t.passed) (counted t) t.took (length t.got)) where
  abbrev Heard_after : TraceLine → List (List ℕ) → List Posted → List Bool → Place → List Reply → ℕ → List Bool → Place → Type 0
  Heard_after line gave' sent' came' inward' replies' out' took' outward' =
      Hears gave' sent' came' inward' replies' out' took' outward'
      (after t line).gave (after t line).sent (after t line).came (length (after t line).passed) (counted (after t line)) (after t line).took (length (after t line).got)

  unanswered : counted t ≡ firsts_after [] (t.answered ++ [])
  unanswered = ap (λ l. firsts_after [] l) (ended t.answered)

  pub gave_well : (stanza : List ℕ) → (None ≡ broken_by t (Gave stanza)) × Heard_after (Gave stanza) (gave ++ stanza ∷ []) sent came inward replies out took outward
  unfolding broken_by
  gave_well stanza = (refl, hears_as (one_given _ _ _ _ _ _ _ _ _ _ _ _ _ _ _ h stanza) refl (ended t.sent) (ended t.came) (ended_length t.passed) unanswered (ended t.took) (ended_length t.got))

  pub end_well : (None ≡ broken_by t End) × Heard_after End gave sent came inward replies out took outward
  unfolding broken_by
  end_well = (refl, hears_as h (ended t.gave) (ended t.sent) (ended t.came) (ended_length t.passed) unanswered (ended t.took) (ended_length t.got))

  -- `sent`
  pub sent_unread : (body : List ℕ) → posted_of body ≡ None → Some rules.Body ≡ broken_by t (Sent body)
  unfolding broken_by
  sent_unread body is = sym (ap (λ o. first_failed (sent_tests t.sent o)) is)

  module _ (body : List ℕ) (x : Posted) (is : posted_of body ≡ Some x) where
    begun_as : (b : Bool) → is_begun_well sent x.creates ≡ b → is_begun_well t.sent x.creates ≡ b
    begun_as b known = ap (λ l. is_begun_well l x.creates) (sym h.sent_is) ∙ known

    follows_as : (b : Bool) → follows (last_of sent) x.rid ≡ b → follows (last_of t.sent) x.rid ≡ b
    follows_as b known = ap (λ l. follows (last_of l) x.rid) (sym h.sent_is) ∙ known

    sent_by_tests : (a b : Bool) → is_begun_well sent x.creates ≡ a → follows (last_of sent) x.rid ≡ b
        → broken_by t (Sent body) ≡ first_failed ((rules.Body, not a) ∷ (rules.Number, not b) ∷ [])
    unfolding broken_by
    sent_by_tests a b begun goes_on =
        ap (λ o. first_failed (sent_tests t.sent o)) is
        ∙ ap (λ y. first_failed ((rules.Body, not y) ∷ (rules.Number, not (follows (last_of t.sent) x.rid)) ∷ [])) (begun_as a begun)
        ∙ ap (λ y. first_failed ((rules.Body, not a) ∷ (rules.Number, not y) ∷ [])) (follows_as b goes_on)

    pub sent_misplaced : is_begun_well sent x.creates ≡ false → Some rules.Body ≡ broken_by t (Sent body)
    sent_misplaced misplaced = sym (sent_by_tests false (follows (last_of sent) x.rid) misplaced refl)

    pub sent_apart : is_begun_well sent x.creates ≡ true → follows (last_of sent) x.rid ≡ false → Some rules.Number ≡ broken_by t (Sent body)
    sent_apart begun apart = sym (sent_by_tests true false begun apart)

    pub sent_well : is_begun_well sent x.creates ≡ true → follows (last_of sent) x.rid ≡ true
        → (None ≡ broken_by t (Sent body)) × Heard_after (Sent body) gave (sent ++ x ∷ []) (came ++ false ∷ []) inward replies out took outward
    sent_well begun goes_on = (
      sym (sent_by_tests true true begun goes_on),
      hears_as (one_sent _ _ _ _ _ _ _ _ _ _ _ _ _ _ _ h x (follows_as true goes_on)) (ended t.gave) (ap (λ o. t.sent ++ if_some o) (sym is)) (ended t.came) (ended_length t.passed) unanswered (ended t.took) (ended_length t.got),
    )

  -- `came`
  pub came_unread : (body : List ℕ) → posted_of body ≡ None → Some rules.Altered ≡ broken_by t (Came body)
  unfolding broken_by
  came_unread body is = sym (ap (λ o. one_test rules.Altered (is_as_sent t.sent o)) is)

  module _ (body : List ℕ) (x : Posted) (is : posted_of body ≡ Some x) where
    came_by_test : (o : Option ℕ) (q : Option Posted) → distance (first_id sent) x.rid ≡ o → stands_at sent o ≡ q → broken_by t (Came body) ≡ one_test rules.Altered (has_body q x.body)
    unfolding broken_by
    came_by_test o q there found =
        ap (λ o. one_test rules.Altered (is_as_sent t.sent o)) is
        ∙ ap (λ o. one_test rules.Altered (has_body o x.body)) (sent_was _ _ _ _ _ _ _ _ _ _ _ _ _ _ _ h x.rid ∙ ap (λ o. stands_at sent o) there ∙ found)

    pub came_lower : distance (first_id sent) x.rid ≡ None → Some rules.Altered ≡ broken_by t (Came body)
    came_lower none = sym (came_by_test None None none refl)

    pub came_unsent : (place : ℕ) → distance (first_id sent) x.rid ≡ Some place → slice_get sent place ≡ None → Some rules.Altered ≡ broken_by t (Came body)
    came_unsent place there none = sym (came_by_test (Some place) None there none)

    pub came_other : (place : ℕ) (q : Posted) → distance (first_id sent) x.rid ≡ Some place → slice_get sent place ≡ Some q → bytes_eq q.body x.body ≡ false → Some rules.Altered ≡ broken_by t (Came body)
    came_other place q there found other = sym (came_by_test (Some place) (Some q) there found ∙ ap (λ b. one_test rules.Altered b) other)

    pub came_well : (place : ℕ) (q : Posted) → distance (first_id sent) x.rid ≡ Some place → slice_get sent place ≡ Some q → bytes_eq q.body x.body ≡ true
        → (None ≡ broken_by t (Came body)) × Heard_after (Came body) gave sent (set came place true) inward replies out took outward
    came_well place q there found same = (
      sym (came_by_test (Some place) (Some q) there found ∙ ap (λ b. one_test rules.Altered b) same),
      hears_as (one_came _ _ _ _ _ _ _ _ _ _ _ _ _ _ _ h x.rid place there (slice_get_within sent place q found))
          (ended t.gave) (ended t.sent) (ap (λ o. t.came ++ if_some (option_map (λ (posted : Posted). posted.rid) o)) (sym is)) (ended_length t.passed) unanswered (ended t.took) (ended_length t.got),
    )

  -- `in`
  pub in_none : (item : Item) → slice_get (inward_of t) (length t.passed) ≡ None → Some rules.Inward ≡ broken_by t (In item)
  unfolding broken_by
  in_none item none = sym (ap (λ o. one_test rules.Inward (elim o [ None ↦ false | Some next ↦ same_item next item ])) none)

  pub in_other : (item next : Item) → slice_get (inward_of t) (length t.passed) ≡ Some next → same_item next item ≡ false → Some rules.Inward ≡ broken_by t (In item)
  unfolding broken_by
  in_other item next is other = sym (ap (λ o. one_test rules.Inward (elim o [ None ↦ false | Some next ↦ same_item next item ])) is ∙ ap (λ b. one_test rules.Inward b) other)

  pub in_well : (item next : Item) (place : Place) → slice_get (inward_of t) (length t.passed) ≡ Some next → same_item next item ≡ true
      → IsInwardAt t.came t.sent place (length t.passed + 1)
      → (None ≡ broken_by t (In item)) × Heard_after (In item) gave sent came place replies out took outward
  unfolding broken_by
  in_well item next place is same at = (
    sym (ap (λ o. one_test rules.Inward (elim o [ None ↦ false | Some next ↦ same_item next item ])) is ∙ ap (λ b. one_test rules.Inward b) same),
    hears_as (one_passed _ _ _ _ _ _ _ _ _ _ _ _ _ _ _ h place (length t.passed + 1) at)
        (ended t.gave) (ended t.sent) (ended t.came) (one_longer t.passed item) unanswered (ended t.took) (ended_length t.got),
  )

  -- `got`
  pub got_none : (stanza : List ℕ) → slice_get (taken t) (length t.got) ≡ None → Some rules.Got ≡ broken_by t (Got stanza)
  unfolding broken_by
  got_none stanza none = sym (ap (λ o. one_test rules.Got (elim o [ None ↦ false | Some next ↦ bytes_eq next stanza ])) none)

  pub got_other : (stanza next : List ℕ) → slice_get (taken t) (length t.got) ≡ Some next → bytes_eq next stanza ≡ false → Some rules.Got ≡ broken_by t (Got stanza)
  unfolding broken_by
  got_other stanza next is other = sym (ap (λ o. one_test rules.Got (elim o [ None ↦ false | Some next ↦ bytes_eq next stanza ])) is ∙ ap (λ b. one_test rules.Got b) other)

  pub got_well : (stanza next : List ℕ) (place : Place) → slice_get (taken t) (length t.got) ≡ Some next → bytes_eq next stanza ≡ true
      → IsOutwardAt t.took (counted t) place (length t.got + 1)
      → (None ≡ broken_by t (Got stanza)) × Heard_after (Got stanza) gave sent came inward replies out took place
  unfolding broken_by
  got_well stanza next place is same at = (
    sym (ap (λ o. one_test rules.Got (elim o [ None ↦ false | Some next ↦ bytes_eq next stanza ])) is ∙ ap (λ b. one_test rules.Got b) same),
    hears_as (one_got _ _ _ _ _ _ _ _ _ _ _ _ _ _ _ h place (length t.got + 1) at)
        (ended t.gave) (ended t.sent) (ended t.came) (ended_length t.passed) unanswered (ended t.took) (one_longer t.got stanza),
  )

  -- `took`
  took_by_test : (id : ℕ) (o : Option ℕ) (q : Option Reply) → distance (first_id sent) id ≡ o → stands_at replies o ≡ q → broken_by t (Took id) ≡ first_failed ((rules.Took, is_none q) ∷ [])
  unfolding broken_by
  took_by_test id o q there found =
      ap (λ (o : Option Reply). first_failed ((rules.Took, is_none o) ∷ [])) (answer_was _ _ _ _ _ _ _ _ _ _ _ _ _ _ _ h id ∙ ap (λ o. stands_at replies o) there ∙ found)

  pub took_lower : (id : ℕ) → distance (first_id sent) id ≡ None → Some rules.Took ≡ broken_by t (Took id)
  took_lower id none = sym (took_by_test id None None none refl)

  pub took_higher : (id place : ℕ) → distance (first_id sent) id ≡ Some place → length replies ≤ place → Some rules.Took ≡ broken_by t (Took id)
  took_higher id place there past = sym (took_by_test id (Some place) None there (slice_get_past replies place past))

  pub took_well : (id place : ℕ) → distance (first_id sent) id ≡ Some place → place < length replies
      → (None ≡ broken_by t (Took id)) × Heard_after (Took id) gave sent came inward replies out (set took place true) outward
  took_well id place there within = (
    sym (took_by_test id (Some place) (slice_get replies place) there refl ∙ ap (λ b. first_failed ((rules.Took, b) ∷ [])) (some_there replies place within)),
    hears_as (one_taken _ _ _ _ _ _ _ _ _ _ _ _ _ _ _ h id place there within)
        (ended t.gave) (ended t.sent) (ended t.came) (ended_length t.passed) unanswered refl (ended_length t.got),
  )

-- Answers.
module _ (gave : List (List ℕ)) (sent : List Posted) (came : List Bool) (inward : Place) (replies : List Reply) (out : ℕ) (took : List Bool) (outward : Place) (t : Told)
    (h : Hears gave sent came inward replies out took outward t.gave t.sent t.came (length t.passed) (counted t) t.took (length t.got)) (rid : ℕ) (body : List ℕ) where
  pub answer_unread : reply_of rid body ≡ None → Some rules.Body ≡ broken_by t (Answer rid body)
  unfolding broken_by
  answer_unread is = sym (ap (λ o. first_failed (reply_tests t o)) is)

  module _ (x : Reply) (is : reply_of rid body ≡ Some x) where
    broken_as : (has : Bool) → has_id t.came x.rid ≡ has → broken_by t (Answer rid body) ≡ first_failed ((rules.Order, not has) ∷ (if x.typed then [] else counted_tests t x (answer_at (counted t) x.rid)))
    unfolding broken_by
    broken_as has known =
        ap (λ o. first_failed (reply_tests t o)) is
        ∙ ap (λ b. first_failed ((rules.Order, not b) ∷ (if x.typed then [] else counted_tests t x (answer_at (counted t) x.rid)))) known

    pub answer_lower : distance (first_id sent) x.rid ≡ None → Some rules.Order ≡ broken_by t (Answer rid body)
    answer_lower none = sym (broken_as false (come_none _ _ _ _ _ _ _ _ _ _ _ _ _ _ _ h x.rid none))

    module _ (place : ℕ) (there : distance (first_id sent) x.rid ≡ Some place) where
      pub answer_early : is_marked came place ≡ false → Some rules.Order ≡ broken_by t (Answer rid body)
      answer_early unmarked = sym (broken_as false (come_as _ _ _ _ _ _ _ _ _ _ _ _ _ _ _ h x.rid place false there unmarked))

      module _ (marked : is_marked came place ≡ true) where
        has : has_id t.came x.rid ≡ true
        has = come_as _ _ _ _ _ _ _ _ _ _ _ _ _ _ _ h x.rid place true there marked

        pub typed_well : x.typed ≡ true → (None ≡ broken_by t (Answer rid body)) × Heard_after gave sent came inward replies out took outward t h (Answer rid body) gave sent came inward replies out took outward
        typed_well typed = (
          sym (broken_as true has ∙ ap (λ b. first_failed ((rules.Order, false) ∷ (if b then [] else counted_tests t x (answer_at (counted t) x.rid)))) typed),
          hears_as h (ended t.gave) (ended t.sent) (ended t.came) (ended_length t.passed)
              (ap (λ l. firsts_after [] l) (ended t.answered) ∙ sym (ap (λ o. firsts_after [] (t.answered ++ if_untyped o)) is ∙ ap (λ b. firsts_after [] (t.answered ++ (if b then [] else x ∷ []))) typed))
              (ended t.took) (ended_length t.got),
        )

        module _ (untyped : x.typed ≡ false) where
          found_as : (o : Option Reply) → slice_get replies place ≡ o → answer_at (counted t) x.rid ≡ o
          found_as o found = answer_was _ _ _ _ _ _ _ _ _ _ _ _ _ _ _ h x.rid ∙ ap (λ o. stands_at replies o) there ∙ found

          broken_untyped : (o : Option Reply) → slice_get replies place ≡ o → broken_by t (Answer rid body) ≡ first_failed ((rules.Order, false) ∷ counted_tests t x o)
          broken_untyped o found =
              broken_as true has ∙ ap (λ b. first_failed ((rules.Order, false) ∷ (if b then [] else counted_tests t x (answer_at (counted t) x.rid)))) untyped
              ∙ ap (λ o. first_failed ((rules.Order, false) ∷ counted_tests t x o)) (found_as o found)

          counted_with : (o : Option Reply) → slice_get replies place ≡ o
              → counted (after t (Answer rid body)) ≡ (elim o [ None ↦ counted t ++ x ∷ [] | Some earlier ↦ counted t ])
          counted_with o found =
              ap (λ o. firsts_after [] (t.answered ++ if_untyped o)) is
              ∙ ap (λ b. firsts_after [] (t.answered ++ (if b then [] else x ∷ []))) untyped
              ∙ firsts_more [] t.answered (x ∷ [])
              ∙ ap (λ o. elim o [ None ↦ counted t ++ x ∷ [] | Some earlier ↦ counted t ]) (found_as o found)

          pub repeat_well : (earlier : Reply) → slice_get replies place ≡ Some earlier
              → (is_changed (bytes_eq earlier.body x.body) ≡ broken_by t (Answer rid body)) × Heard_after gave sent came inward replies out took outward t h (Answer rid body) gave sent came inward replies out took outward
          repeat_well earlier found = (
            changes (bytes_eq earlier.body x.body) ∙ sym (broken_untyped (Some earlier) found),
            hears_as h (ended t.gave) (ended t.sent) (ended t.came) (ended_length t.passed) (sym (counted_with (Some earlier) found)) (ended t.took) (ended_length t.got),
          ) where
            changes : (b : Bool) → is_changed b ≡ first_failed ((rules.Order, false) ∷ (rules.Changed, not b) ∷ [])
            changes true = refl
            changes false = refl

          module _ (first : slice_get replies place ≡ None) where
            broken_first : (a b : Bool) → has_at sent (length replies) x.rid ≡ a → are_next (drop out gave) x.payloads ≡ b
                → broken_by t (Answer rid body) ≡ first_failed ((rules.Order, false) ∷ (rules.Order, not a) ∷ (rules.Payload, not b) ∷ [])
            broken_first a b lowest next =
                broken_untyped None first
                ∙ ap (λ y. first_failed ((rules.Order, false) ∷ (rules.Order, not y) ∷ (rules.Payload, not (are_next (drop (length (handed t)) t.gave) x.payloads)) ∷ []))
                (lowest_as _ _ _ _ _ _ _ _ _ _ _ _ _ _ _ h x.rid a lowest)
                ∙ ap (λ y. first_failed ((rules.Order, false) ∷ (rules.Order, not a) ∷ (rules.Payload, not y) ∷ []))
                (ap (λ m. are_next (drop m t.gave) x.payloads) (sym h.out_is) ∙ ap (λ l. are_next (drop out l) x.payloads) (sym h.gave_is) ∙ next)

            pub answer_unlowest : has_at sent (length replies) x.rid ≡ false → Some rules.Order ≡ broken_by t (Answer rid body)
            answer_unlowest higher = sym (broken_first false (are_next (drop out gave) x.payloads) higher refl)

            pub answer_ungiven : has_at sent (length replies) x.rid ≡ true → None ≡ (if are_next (drop out gave) x.payloads then Some (out + length x.payloads) else None) → Some rules.Payload ≡ broken_by t (Answer rid body)
            answer_ungiven lowest none = sym (broken_first true false lowest (if_none _ _ none))

            pub answer_well : (more : ℕ) → has_at sent (length replies) x.rid ≡ true → Some more ≡ (if are_next (drop out gave) x.payloads then Some (out + length x.payloads) else None)
                → (None ≡ broken_by t (Answer rid body)) × Heard_after gave sent came inward replies out took outward t h (Answer rid body) gave sent came inward (replies ++ x ∷ []) more (took ++ false ∷ []) outward
            answer_well more lowest some =
                let known = if_some_is _ _ _ some in (
                  sym (broken_first true true lowest known.0),
                  hears_as (one_answered _ _ _ _ _ _ _ _ _ _ _ _ _ _ _ h x more (found_as None first) (has_as _ _ _ _ _ _ _ _ _ _ _ _ _ _ _ h x.rid lowest) known.1)
                      (ended t.gave) (ended t.sent) (ended t.came) (ended_length t.passed) (sym (counted_with None first)) (ended t.took) (ended_length t.got),
                )

-- What a method ends with.

-- a rule is broken
pub breaks : (b : Option Rule) (rule : Rule) (X : Type 0) → Some rule ≡ b → (Some rule ≡ b) × (Some rule ≡ None → X)
breaks b rule X is = (is, λ none. absurd (not_none rule none)) where
  not_none : (rule : Rule) → Some rule ≡ None → ⊥
  not_none rule none = cc

-- the lists that are kept are these
pub heard : {gave gave' : List (List ℕ)} {sent sent' : List Posted} {came came' : List Bool} {inward : Place} {replies replies' : List Reply} {out : ℕ} {took took' : List Bool} {outward : Place}
    {g : List (List ℕ)} {s : List Posted} {c : List ℕ} {p : ℕ} {r : List Reply} {k : List ℕ} {n : ℕ} (b b' : Option Rule)
    → (b ≡ b') × Hears gave sent came inward replies out took outward g s c p r k n
    → gave ≡ gave' → sent ≡ sent' → came ≡ came' → replies ≡ replies' → took ≡ took'
    → (b ≡ b') × (b ≡ None → Hears gave' sent' came' inward replies' out took' outward g s c p r k n)
heard {g = g} {s = s} {c = c} {p = p} {r = r} {k = k} {n = n} b b' judged gs ss cs rs ks = (
  judged.0,
  λ _. record {
    gave_is = sym gs ∙ judged.1.gave_is;
    sent_is = sym ss ∙ judged.1.sent_is;
    came_is = subst (λ l. MarksCome c s l) cs judged.1.came_is;
    inward_at = judged.1.inward_at;
    replies_are = sym rs ∙ judged.1.replies_are;
    out_is = judged.1.out_is;
    took_is = subst (λ l. MarksTaken k r l) ks judged.1.took_is;
    outward_at = judged.1.outward_at;
    numbered = judged.1.numbered;
  },
)

-- two texts that were compared
pub same_bytes : (xs ys us vs : List ℕ) (differ : Bool) → differ ≡ not (bytes_eq xs ys) → xs ≡ us → ys ≡ vs → differ ≡ false → bytes_eq us vs ≡ true
same_bytes xs ys us vs differ is xs_are ys_are equal = ap (λ l. bytes_eq l vs) (sym xs_are) ∙ ap (λ l. bytes_eq xs l) (sym ys_are) ∙ was (bytes_eq xs ys) (sym is ∙ equal) where
  was : (b : Bool) → not b ≡ false → b ≡ true
  was true is = refl
  was false is = cc

pub other_bytes : (xs ys us vs : List ℕ) (differ : Bool) → differ ≡ not (bytes_eq xs ys) → xs ≡ us → ys ≡ vs → differ ≡ true → bytes_eq us vs ≡ false
other_bytes xs ys us vs differ is xs_are ys_are apart = ap (λ l. bytes_eq l vs) (sym xs_are) ∙ ap (λ l. bytes_eq xs l) (sym ys_are) ∙ was (bytes_eq xs ys) (sym is ∙ apart) where
  was : (b : Bool) → not b ≡ true → b ≡ false
  was true is = cc
  was false is = refl

-- What comes next, by what is kept.
module _ (gave : List (List ℕ)) (sent : List Posted) (came : List Bool) (inward : Place) (replies : List Reply) (out : ℕ) (took : List Bool) (outward : Place) (t : Told)
    (h : Hears gave sent came inward replies out took outward t.gave t.sent t.came (length t.passed) (counted t) t.took (length t.got)) where
  module _ (sent' : List Posted) (came' : List Bool) (sent_same : sent' ≡ sent) (came_same : came' ≡ came) where
    inward_marks : MarksCome t.came sent' came'
    inward_marks = subst (λ l. MarksCome t.came sent' l) (sym came_same) (subst (λ l. MarksCome t.came l came) (sym (sent_same ∙ h.sent_is)) h.came_is)

    inward_there : IsInwardAt t.came sent' inward (length t.passed)
    inward_there = subst (λ l. IsInwardAt t.came l inward (length t.passed)) (sym (sent_same ∙ h.sent_is)) h.inward_at

    pub next_inward : (next : Item) (place : Place)
        → ((ids : List ℕ) (count : ℕ) → MarksCome ids sent' came' → IsInwardAt ids sent' inward count
        → IsNextAt (has_come ids) (λ (posted : Posted). posted.terminate) (λ (posted : Posted). posted.items) sent' count next place)
        → (slice_get (inward_of t) (length t.passed) ≡ Some next) × IsInwardAt t.came t.sent place (length t.passed + 1)
    next_inward next place found =
        subst (λ l. IsNextAt (has_come t.came) (λ (posted : Posted). posted.terminate) (λ (posted : Posted). posted.items) l (length t.passed) next place) (sent_same ∙ h.sent_is)
        (found t.came (length t.passed) inward_marks inward_there)

    pub none_inward : ((ids : List ℕ) (count : ℕ) → MarksCome ids sent' came' → IsInwardAt ids sent' inward count
        → HasNoneAt (has_come ids) (λ (posted : Posted). posted.terminate) (λ (posted : Posted). posted.items) sent' count)
        → slice_get (inward_of t) (length t.passed) ≡ None
    none_inward found =
        subst (λ l. HasNoneAt (has_come t.came) (λ (posted : Posted). posted.terminate) (λ (posted : Posted). posted.items) l (length t.passed)) (sent_same ∙ h.sent_is)
        (found t.came (length t.passed) inward_marks inward_there)

  module _ (replies' : List Reply) (took' : List Bool) (replies_same : replies' ≡ replies) (took_same : took' ≡ took) where
    outward_marks : MarksTaken t.took replies' took'
    outward_marks = subst (λ l. MarksTaken t.took replies' l) (sym took_same) (subst (λ l. MarksTaken t.took l took) (sym (replies_same ∙ h.replies_are)) h.took_is)

    outward_there : IsOutwardAt t.took replies' outward (length t.got)
    outward_there = subst (λ l. IsOutwardAt t.took l outward (length t.got)) (sym (replies_same ∙ h.replies_are)) h.outward_at

    pub next_outward : (next : List ℕ) (place : Place)
        → ((ids : List ℕ) (count : ℕ) → MarksTaken ids replies' took' → IsOutwardAt ids replies' outward count
        → IsNextAt (was_taken ids) (λ (reply : Reply). false) (λ (reply : Reply). reply.payloads) replies' count next place)
        → (slice_get (taken t) (length t.got) ≡ Some next) × IsOutwardAt t.took (counted t) place (length t.got + 1)
    next_outward next place found =
        subst (λ l. IsNextAt (was_taken t.took) (λ (reply : Reply). false) (λ (reply : Reply). reply.payloads) l (length t.got) next place) (replies_same ∙ h.replies_are)
        (found t.took (length t.got) outward_marks outward_there)

    pub none_outward : ((ids : List ℕ) (count : ℕ) → MarksTaken ids replies' took' → IsOutwardAt ids replies' outward count
        → HasNoneAt (was_taken ids) (λ (reply : Reply). false) (λ (reply : Reply). reply.payloads) replies' count)
        → slice_get (taken t) (length t.got) ≡ None
    none_outward found =
        subst (λ l. HasNoneAt (was_taken t.took) (λ (reply : Reply). false) (λ (reply : Reply). reply.payloads) l (length t.got)) (replies_same ∙ h.replies_are)
        (found t.took (length t.got) outward_marks outward_there)

-- what was handed out, by what is kept
pub handed_as : (gave gave' payloads payloads' : List (List ℕ)) (out : ℕ) (found o : Option ℕ) → found ≡ (if are_next (drop out gave') payloads' then Some (out + length payloads') else None) → gave' ≡ gave → payloads' ≡ payloads
    → found ≡ o → o ≡ (if are_next (drop out gave) payloads then Some (out + length payloads) else None)
handed_as gave gave' payloads payloads' out found o is gave_same payloads_same known =
    sym known ∙ is ∙ ap (λ l. if are_next (drop out l) payloads' then Some (out + length payloads') else None) gave_same
    ∙ ap (λ l. if are_next (drop out gave) l then Some (out + length l) else None) payloads_same

-- what stands there has the id, by what is kept
pub has_at_as : (sent sent' : List Posted) (count count' id : ℕ) (is_there b : Bool) → is_there ≡ has_at sent' count' id → sent' ≡ sent → count' ≡ count → is_there ≡ b → has_at sent count id ≡ b
has_at_as sent sent' count count' id is_there b is sent_same count_same known =
    ap (λ l. has_at l count id) (sym sent_same) ∙ ap (λ n. has_at sent' n id) (sym count_same) ∙ sym is ∙ known
