-- Ids that go on by one: each is found by its distance to the first, and a mark stands where its id does.
use Rattle.std.proofs.Common.{◌≡◌, ℕ, zero, suc, ◌+◌, ◌-◌, ◌≤◌, ◌<◌, Bool, true, false, List, [], ◌∷◌, ◌++◌, Option, Some, None, length, map, set, refl, sym, ◌∙◌, ap, subst, length-append, arith, if◌then◌else◌}
use Rattle.std.specs.Prelude.{◌==◌, ◌||◌, nat_lt, is_none, is_some, option_map, slice_get}
use Rattle.std.specs.List.{find}
use Rattle.std.proofs.lemmas.Bool.Decides.{nat_tests}
use Rattle.std.proofs.lemmas.List.{map-append}
use Rattle.std.proofs.lemmas.List.Folds.{list_any-append}
use Rattle.std.proofs.lemmas.Option.{slice_get-map, slice_get_past, slice_get_within}
use Rattle.trace_audit.specs.declared.bodies.Posted.{Posted}
use Rattle.trace_audit.specs.declared.bodies.Reply.{Reply}
use Rattle.trace_audit.specs.Ids.{distance, first_id, has_at, is_marked, stands_at}
use Rattle.trace_audit.specs.Rules.{follows, is_lowest, last_of, sent_at}
use Rattle.trace_audit.specs.Run.{answer_at, has_id}
use Rattle.trace_audit.specs.Stands.{AreFrom, AreNumbered, Marks, MarksCome, MarksTaken}

-- Numbers.

same_is : (n m : ℕ) → n ≡ m → (n == m) ≡ true
same_is n m same = grind (arith, nat_tests)

apart_is : (n m : ℕ) → m < n → (n == m) ≡ false
apart_is n m higher = grind (arith, nat_tests)

other_is : (n m : ℕ) → n < m → (n == m) ≡ false
other_is n m lower = grind (arith, nat_tests)

same_was : (n m : ℕ) → (n == m) ≡ true → n ≡ m
same_was n m is = grind (arith, nat_tests)

below_is : (n m : ℕ) → n < m → nat_lt n m ≡ true
below_is n m lower = grind (arith, nat_tests)

reached_is : (n m : ℕ) → m ≤ n → nat_lt n m ≡ false
reached_is n m higher = grind (arith, nat_tests)

below_was : (n m : ℕ) → nat_lt n m ≡ true → n < m
below_was n m is = grind (arith, nat_tests)

reached_was : (n m : ℕ) → nat_lt n m ≡ false → m ≤ n
reached_was n m is = grind (arith, nat_tests)

-- Elements by their ids.

get_next : {X : Type 0} (x : X) (xs : List X) (n m : ℕ) → n ≡ m + 1 → slice_get (x ∷ xs) n ≡ slice_get xs m
get_next x xs n m is = ap (λ k. slice_get (x ∷ xs) k) (is ∙ plus_one m) where
  plus_one : (m : ℕ) → m + 1 ≡ suc m
  plus_one m = omega arith

get_first : {X : Type 0} (x : X) (xs : List X) (n : ℕ) → n ≡ 0 → slice_get (x ∷ xs) n ≡ Some x
get_first x xs n is = ap (λ k. slice_get (x ∷ xs) k) is

pub some_there : {X : Type 0} (xs : List X) (k : ℕ) → k < length xs → is_none (slice_get xs k) ≡ false
some_there [] k within = absurd (omega (arith, within))
some_there (x ∷ xs) zero within = refl
some_there (x ∷ xs) (suc k) within = some_there xs k (omega (arith, within))

is_there : {X : Type 0} (xs : List X) (k : ℕ) → k < length xs → is_some (slice_get xs k) ≡ true
is_there [] k within = absurd (omega (arith, within))
is_there (x ∷ xs) zero within = refl
is_there (x ∷ xs) (suc k) within = is_there xs k (omega (arith, within))

none_within : {X : Type 0} (xs : List X) (k : ℕ) → slice_get xs k ≡ None → k < length xs → ⊥
none_within [] k none within = omega (arith, within)
none_within (x ∷ xs) zero none within = cc
none_within (x ∷ xs) (suc k) none within = none_within xs k none (omega (arith, within))

module _ {X : Type 0} (rid : X → ℕ) where
  -- the id at a place
  id_at : (xs : List X) (first place : ℕ) (x : X) → AreFrom rid first xs → slice_get xs place ≡ Some x → rid x ≡ first + place
  id_at [] first place x from is = cc
  id_at (y ∷ ys) first zero x from is = omega (arith, from.0, ap rid (some_same y x is)) where
    some_same : (x y : X) → Some x ≡ Some y → x ≡ y
    some_same x y is = cc
  id_at (y ∷ ys) first (suc place) x from is = omega (arith, id_at ys (first + 1) place x from.1 is)

  -- none is below the first
  none_lower : (xs : List X) (first id : ℕ) → AreFrom rid first xs → id < first → find (λ x. rid x == id) xs ≡ None
  none_lower [] first id from lower = refl
  none_lower (x ∷ xs) first id from lower =
      ap (λ b. if b then Some x else find (λ x. rid x == id) xs) (not_it (rid x) from.0)
      ∙ none_lower xs (first + 1) id from.1 (omega (arith, lower)) where
        not_it : (n : ℕ) → n ≡ first → (n == id) ≡ false
        not_it n is = grind (arith, nat_tests)

  find_higher : (xs : List X) (first place : ℕ) → AreFrom rid first xs → find (λ x. rid x == first + place) xs ≡ slice_get xs place
  find_higher [] first place from = refl
  find_higher (x ∷ xs) first zero from = ap (λ b. if b then Some x else find (λ x. rid x == first + 0) xs) (same_is (rid x) (first + 0) (omega (arith, from.0)))
  find_higher (x ∷ xs) first (suc place) from =
      ap (λ b. if b then Some x else find (λ x. rid x == first + suc place) xs) (other_is (rid x) (first + suc place) (omega (arith, from.0)))
      ∙ ap (λ id. find (λ x. rid x == id) xs) (further first place)
      ∙ find_higher xs (first + 1) place from.1 where
        further : (first place : ℕ) → first + suc place ≡ first + 1 + place
        further first place = omega arith

  -- each is found by its distance to the first
  find_from : (xs : List X) (first id : ℕ) → AreFrom rid first xs → find (λ x. rid x == id) xs ≡ stands_at xs (distance (Some first) id)
  find_from xs first id from = by_side (nat_lt id first) refl where
    by_side : (b : Bool) → nat_lt id first ≡ b → find (λ x. rid x == id) xs ≡ stands_at xs (if b then None else Some (id - first))
    by_side true is = none_lower xs first id from (below_was id first is)
    by_side false is = ap (λ n. find (λ x. rid x == n) xs) (apart (reached_was id first is)) ∙ find_higher xs first (id - first) from where
      apart : first ≤ id → id ≡ first + (id - first)
      apart higher = omega (arith, higher)

  -- what is found has the id
  found_has : (xs : List X) (id : ℕ) (x : X) → find (λ x. rid x == id) xs ≡ Some x → rid x ≡ id
  found_has [] id x is = cc
  found_has (y ∷ ys) id x is = by_test (rid y == id) refl is (λ found. found_has ys id x found) where
    by_test : (b : Bool) → (rid y == id) ≡ b → (if b then Some y else find (λ x. rid x == id) ys) ≡ Some x → (find (λ x. rid x == id) ys ≡ Some x → rid x ≡ id) → rid x ≡ id
    by_test true here is further = ap rid (sym (some_same y x is)) ∙ same_was (rid y) id here where
      some_same : (x y : X) → Some x ≡ Some y → x ≡ y
      some_same x y is = cc
    by_test false apart is further = further is

  -- one more, with the next id
  from_more : (xs : List X) (first : ℕ) (x : X) → AreFrom rid first xs → rid x ≡ first + length xs → AreFrom rid first (xs ++ x ∷ [])
  from_more [] first x from is = (omega (arith, is), tt)
  from_more (y ∷ ys) first x from is = (from.0, from_more ys (first + 1) x from.1 (omega (arith, is)))

-- The ids of requests and answers.

none_there : {X : Type 0} (xs : List X) → length xs ≤ 0 → xs ≡ []
none_there [] few = refl
none_there (x ∷ xs) few = absurd (omega (arith, few))

pub sent_there : (sent : List Posted) (replies : List Reply) (rid : ℕ) → AreNumbered sent replies → sent_at sent rid ≡ stands_at sent (distance (first_id sent) rid)
sent_there [] replies rid numbered = refl
sent_there (p ∷ ps) replies rid numbered =
    find_from (λ (posted : Posted). posted.rid) (p ∷ ps) numbered.first rid numbered.sent_from
    ∙ ap (λ f. stands_at (p ∷ ps) (distance (Some f) rid)) (sym numbered.sent_from.0)

pub answer_there : (sent : List Posted) (replies : List Reply) (rid : ℕ) → AreNumbered sent replies → answer_at replies rid ≡ stands_at replies (distance (first_id sent) rid)
answer_there [] replies rid numbered = ap (λ (l : List Reply). answer_at l rid) (none_there replies numbered.few)
answer_there (p ∷ ps) replies rid numbered =
    find_from (λ (reply : Reply). reply.rid) replies numbered.first rid numbered.replies_from
    ∙ ap (λ f. stands_at replies (distance (Some f) rid)) (sym numbered.sent_from.0)

-- The lowest id without an answer.

module _ (replies : List Reply) (first : ℕ) (from : AreFrom (λ (reply : Reply). reply.rid) first replies) where
  answered_there : (place id : ℕ) → id ≡ first + place → answer_at replies id ≡ slice_get replies place
  answered_there place id is = ap (λ n. answer_at replies n) is ∙ find_higher (λ (reply : Reply). reply.rid) replies first place from

  unanswered_from : (sent : List Posted) (place : ℕ) → AreFrom (λ (posted : Posted). posted.rid) (first + place) sent → place ≤ length replies
      → find (λ (posted : Posted). is_none (answer_at replies posted.rid)) sent ≡ slice_get sent (length replies - place)
  unanswered_from [] place sent_from within = refl
  unanswered_from (p ∷ ps) place sent_from within = by_side (nat_lt place (length replies)) refl (λ from' within'. unanswered_from ps (place + 1) from' within') where
    here : (b : Bool) → is_none (slice_get replies place) ≡ b → is_none (answer_at replies p.rid) ≡ b
    here b is = ap (λ (o : Option Reply). is_none o) (answered_there place p.rid sent_from.0) ∙ is

    by_side : (b : Bool) → nat_lt place (length replies) ≡ b
        → (AreFrom (λ (posted : Posted). posted.rid) (first + (place + 1)) ps → place + 1 ≤ length replies → find (λ (posted : Posted). is_none (answer_at replies posted.rid)) ps ≡ slice_get ps (length replies - (place + 1)))
        → find (λ (posted : Posted). is_none (answer_at replies posted.rid)) (p ∷ ps) ≡ slice_get (p ∷ ps) (length replies - place)
    by_side true is further =
        ap (λ b. if b then Some p else find (λ (posted : Posted). is_none (answer_at replies posted.rid)) ps) (here false (some_there replies place (below_was place (length replies) is)))
        ∙ further (subst (λ n. AreFrom (λ (posted : Posted). posted.rid) n ps) (add_assoc first place) sent_from.1) (omega (arith, below_was place (length replies) is))
        ∙ sym (get_next p ps (length replies - place) (length replies - (place + 1)) (omega (arith, below_was place (length replies) is))) where
          add_assoc : (n m : ℕ) → n + m + 1 ≡ n + (m + 1)
          add_assoc n m = omega arith
    by_side false is further =
        ap (λ b. if b then Some p else find (λ (posted : Posted). is_none (answer_at replies posted.rid)) ps)
        (here true (ap (λ (o : Option Reply). is_none o) (slice_get_past replies place (reached_was place (length replies) is))))
        ∙ sym (get_first p ps (length replies - place) (omega (arith, within, reached_was place (length replies) is)))

pub lowest_there : (sent : List Posted) (replies : List Reply) (rid : ℕ) → AreNumbered sent replies → is_lowest sent replies rid ≡ has_at sent (length replies) rid
lowest_there sent replies rid numbered =
    ap (λ (o : Option Posted). elim o [ None ↦ false | Some posted ↦ posted.rid == rid ])
    (unanswered_from replies numbered.first numbered.replies_from sent 0 (subst (λ n. AreFrom (λ (posted : Posted). posted.rid) n sent) (plus_zero numbered.first) numbered.sent_from) (omega arith)
    ∙ ap (λ n. slice_get sent n) (less_zero (length replies))) where
      plus_zero : (n : ℕ) → n ≡ n + 0
      plus_zero n = omega arith

      less_zero : (n : ℕ) → n - 0 ≡ n
      less_zero n = omega arith

-- One more request.

module _ (sent : List Posted) (replies : List Reply) (numbered : AreNumbered sent replies) (p : Posted) (goes_on : follows (last_of sent) p.rid ≡ true) where
  next_id : 0 < length sent → p.rid ≡ numbered.first + length sent
  next_id some = by_last (slice_get sent (length sent - 1)) refl where
    by_last : (o : Option Posted) → slice_get sent (length sent - 1) ≡ o → p.rid ≡ numbered.first + length sent
    by_last None none = absurd (none_within sent (length sent - 1) none (omega (arith, some)))
    by_last (Some last) is = omega (arith, some, same_was (last.rid + 1) p.rid (sym (ap (λ (o : Option Posted). follows o p.rid) is) ∙ goes_on), id_at (λ (posted : Posted). posted.rid) sent numbered.first (length sent - 1) last numbered.sent_from is)

  pub new_id : sent_at sent p.rid ≡ None
  new_id = by_sent (nat_lt 0 (length sent)) refl where
    by_sent : (b : Bool) → nat_lt 0 (length sent) ≡ b → sent_at sent p.rid ≡ None
    by_sent false is = ap (λ (l : List Posted). sent_at l p.rid) (none_there sent (reached_was 0 (length sent) is))
    by_sent true is =
        ap (λ n. sent_at sent n) (next_id (below_was 0 (length sent) is)) ∙ find_higher (λ (posted : Posted). posted.rid) sent numbered.first (length sent) numbered.sent_from
        ∙ slice_get_past sent (length sent) (omega arith)

  pub sent_numbered : AreNumbered (sent ++ p ∷ []) replies
  sent_numbered = by_sent (nat_lt 0 (length sent)) refl where
    by_sent : (b : Bool) → nat_lt 0 (length sent) ≡ b → AreNumbered (sent ++ p ∷ []) replies
    by_sent false is =
        let unsent : length sent ≤ 0 = reached_was 0 (length sent) is in
        record {
          first = p.rid;
          sent_from = subst (λ (l : List Posted). AreFrom (λ (posted : Posted). posted.rid) p.rid (l ++ p ∷ [])) (sym (none_there sent unsent)) (refl, tt);
          replies_from = subst (λ (l : List Reply). AreFrom (λ (reply : Reply). reply.rid) p.rid l) (sym (none_there replies (omega (arith, unsent, numbered.few)))) tt;
          few = omega (arith, numbered.few, length-append sent (p ∷ []));
        }
    by_sent true is = record {
      first = numbered.first;
      sent_from = from_more (λ (posted : Posted). posted.rid) sent numbered.first p numbered.sent_from (next_id (below_was 0 (length sent) is));
      replies_from = numbered.replies_from;
      few = omega (arith, numbered.few, length-append sent (p ∷ []));
    }

-- One more answer that counts.
pub reply_numbered : (sent : List Posted) (replies : List Reply) (r : Reply) → AreNumbered sent replies → has_at sent (length replies) r.rid ≡ true → AreNumbered sent (replies ++ r ∷ [])
reply_numbered sent replies r numbered has = by_next (slice_get sent (length replies)) refl has where
  by_next : (o : Option Posted) → slice_get sent (length replies) ≡ o → (elim o [ None ↦ false | Some posted ↦ posted.rid == r.rid ]) ≡ true → AreNumbered sent (replies ++ r ∷ [])
  by_next None none has = cc
  by_next (Some p) is has = record {
    first = numbered.first;
    sent_from = numbered.sent_from;
    replies_from = from_more (λ (reply : Reply). reply.rid) replies numbered.first r numbered.replies_from
        (sym (same_was p.rid r.rid has) ∙ id_at (λ (posted : Posted). posted.rid) sent numbered.first (length replies) p numbered.sent_from is);
    few = omega (arith, slice_get_within sent (length replies) p is, length-append replies (r ∷ []));
  }

-- Marks.

or_false : (a b : Bool) → b ≡ false → (a || b) ≡ a
or_false true b is = refl
or_false false b is = is

or_any : (a b : Bool) → b ≡ true → (a || b) ≡ true
or_any true b is = refl
or_any false b is = is

one_id : (id n : ℕ) (b : Bool) → (id == n) ≡ b → has_id (id ∷ []) n ≡ b
one_id id n true is = ap (λ b. b || false) is
one_id id n false is = ap (λ b. b || false) is

this_id : (ids : List ℕ) (id n : ℕ) → (id == n) ≡ true → has_id (ids ++ id ∷ []) n ≡ true
this_id ids id n is = list_any-append (λ i. i == n) ids (id ∷ []) ∙ or_any (has_id ids n) (has_id (id ∷ []) n) (one_id id n true is)

other_id : (ids : List ℕ) (id n : ℕ) → (id == n) ≡ false → has_id (ids ++ id ∷ []) n ≡ has_id ids n
other_id ids id n is = list_any-append (λ i. i == n) ids (id ∷ []) ∙ or_false (has_id ids n) (has_id (id ∷ []) n) (one_id id n false is)

find_more : {X : Type 0} (test : X → Bool) (xs more : List X) → is_some (find test xs) ≡ true → is_some (find test (xs ++ more)) ≡ true
find_more test [] more is = cc
find_more test (x ∷ xs) more is = by_test (test x) is (find_more test xs more) where
  by_test : (b : Bool) → is_some (if b then Some x else find test xs) ≡ true → (is_some (find test xs) ≡ true → is_some (find test (xs ++ more)) ≡ true) → is_some (if b then Some x else find test (xs ++ more)) ≡ true
  by_test true is further = refl
  by_test false is further = further is

module _ {X : Type 0} (rid : X → ℕ) (ids : List ℕ) (id : ℕ) where
  same_past : (xs : List X) (first : ℕ) → AreFrom rid first xs → id < first → map (λ x. has_id (ids ++ id ∷ []) (rid x)) xs ≡ map (λ x. has_id ids (rid x)) xs
  same_past [] first from lower = refl
  same_past (x ∷ xs) first from lower =
      ap (λ b. b ∷ map (λ y. has_id (ids ++ id ∷ []) (rid y)) xs) (other_id ids id (rid x) (other_is id (rid x) (omega (arith, lower, from.0))))
      ∙ ap (λ l. has_id ids (rid x) ∷ l) (same_past xs (first + 1) from.1 (omega (arith, lower)))

  mark_from : (xs : List X) (first place : ℕ) → AreFrom rid first xs → id ≡ first + place → map (λ x. has_id (ids ++ id ∷ []) (rid x)) xs ≡ set (map (λ x. has_id ids (rid x)) xs) place true
  mark_from [] first place from is = refl
  mark_from (x ∷ xs) first zero from is =
      ap (λ b. b ∷ map (λ y. has_id (ids ++ id ∷ []) (rid y)) xs) (this_id ids id (rid x) (same_is id (rid x) (omega (arith, is, from.0))))
      ∙ ap (λ l. true ∷ l) (same_past xs (first + 1) from.1 (omega (arith, is)))
  mark_from (x ∷ xs) first (suc place) from is =
      ap (λ b. b ∷ map (λ y. has_id (ids ++ id ∷ []) (rid y)) xs) (other_id ids id (rid x) (apart_is id (rid x) (omega (arith, is, from.0))))
      ∙ ap (λ l. has_id ids (rid x) ∷ l) (mark_from xs (first + 1) place from.1 (omega (arith, is)))

module _ {X : Type 0} (rid : X → ℕ) (ids : List ℕ) (xs : List X) (marks : List Bool) (m : Marks rid ids xs marks) where
  abbrev says : Option X → Bool
  says o = elim o [ None ↦ false | Some x ↦ has_id ids (rid x) ]

  marked_says : (place : ℕ) → is_marked marks place ≡ says (slice_get xs place)
  marked_says place =
      ap (λ l. is_marked l place) m.marks_are ∙ ap (λ o. elim o [ None ↦ false | Some mark ↦ mark ]) (slice_get-map (λ x. has_id ids (rid x)) xs place) ∙ by_got (slice_get xs place) where
        by_got : (o : Option X) → (elim (option_map (λ x. has_id ids (rid x)) o) [ None ↦ false | Some mark ↦ mark ]) ≡ says o
        by_got None = refl
        by_got (Some x) = refl

  -- of an element its mark says whether its id is there
  pub marked_at : (place : ℕ) (x : X) → slice_get xs place ≡ Some x → is_marked marks place ≡ has_id ids (rid x)
  marked_at place x is = marked_says place ∙ ap says is

  pub marked_as : (place : ℕ) (x : X) → slice_get xs place ≡ Some x → (b : Bool) → is_marked marks place ≡ b → has_id ids (rid x) ≡ b
  marked_as place x is b known = sym (marked_at place x is) ∙ known

  -- an id that none has is not there
  pub not_known : (id : ℕ) → find (λ x. rid x == id) xs ≡ None → has_id ids id ≡ false
  not_known id none = by_has (has_id ids id) refl where
    by_has : (b : Bool) → has_id ids id ≡ b → has_id ids id ≡ false
    by_has false is = is
    by_has true is = absurd (not_some (find (λ x. rid x == id) xs) none (m.known id is)) where
      not_some : (o : Option X) → o ≡ None → is_some o ≡ true → ⊥
      not_some None none some = cc
      not_some (Some x) none some = cc

  -- where an id stands its mark says whether it is there
  pub marked_is : (id place : ℕ) → find (λ x. rid x == id) xs ≡ slice_get xs place → is_marked marks place ≡ has_id ids id
  marked_is id place there = marked_says place ∙ ap says (sym there) ∙ by_found (find (λ x. rid x == id) xs) refl where
    by_found : (o : Option X) → find (λ x. rid x == id) xs ≡ o → says o ≡ has_id ids id
    by_found None none = sym (not_known id none)
    by_found (Some x) some = ap (λ n. has_id ids n) (found_has rid xs id x some)

  -- one more, whose id isn't there
  pub marks_more : (x : X) → has_id ids (rid x) ≡ false → Marks rid ids (xs ++ x ∷ []) (marks ++ false ∷ [])
  marks_more x apart = record {
    marks_are = ap (λ l. l ++ false ∷ []) m.marks_are ∙ ap (λ b. map (λ y. has_id ids (rid y)) xs ++ b ∷ []) (sym apart) ∙ sym (map-append (λ y. has_id ids (rid y)) xs (x ∷ []));
    known = λ id has. find_more (λ y. rid y == id) xs (x ∷ []) (m.known id has);
  }

  -- one more id is there
  pub marks_set : (first id place : ℕ) → AreFrom rid first xs → id ≡ first + place → place < length xs → Marks rid (ids ++ id ∷ []) xs (set marks place true)
  marks_set first id place from is within = record {
    marks_are = ap (λ l. set l place true) m.marks_are ∙ sym (mark_from rid ids id xs first place from is);
    known = λ other has. by_id other (id == other) refl has;
  } where
    by_id : (other : ℕ) (b : Bool) → (id == other) ≡ b → has_id (ids ++ id ∷ []) other ≡ true → is_some (find (λ x. rid x == other) xs) ≡ true
    by_id other false apart has = m.known other (sym (other_id ids id other apart) ∙ has)
    by_id other true same has =
        ap (λ n. is_some (find (λ x. rid x == n) xs)) (sym (same_was id other same) ∙ is) ∙ ap (λ (o : Option X). is_some o) (find_higher rid xs first place from) ∙ is_there xs place within

-- One more id that came, and one more that was taken.

place_is : (first id place : ℕ) → distance (Some first) id ≡ Some place → id ≡ first + place
place_is first id place there = by_side (nat_lt id first) refl there where
  by_side : (b : Bool) → nat_lt id first ≡ b → (if b then None else Some (id - first)) ≡ Some place → id ≡ first + place
  by_side true is there = cc
  by_side false is there = omega (arith, reached_was id first is, some_same (id - first) place there) where
    some_same : (n m : ℕ) → Some n ≡ Some m → n ≡ m
    some_same n m is = cc

first_place : (sent : List Posted) (replies : List Reply) (numbered : AreNumbered sent replies) (id place : ℕ) → distance (first_id sent) id ≡ Some place → id ≡ numbered.first + place
first_place [] replies numbered id place there = cc
first_place (p ∷ ps) replies numbered id place there = place_is p.rid id place there ∙ ap (λ n. n + place) numbered.sent_from.0

module _ (sent : List Posted) (replies : List Reply) (numbered : AreNumbered sent replies) (ids : List ℕ) (marks : List Bool) where
  pub marks_come : MarksCome ids sent marks → (id place : ℕ) → distance (first_id sent) id ≡ Some place → place < length sent → MarksCome (ids ++ id ∷ []) sent (set marks place true)
  marks_come m id place there within = marks_set (λ (posted : Posted). posted.rid) ids sent marks m numbered.first id place numbered.sent_from (first_place sent replies numbered id place there) within

  pub marks_taken : MarksTaken ids replies marks → (id place : ℕ) → distance (first_id sent) id ≡ Some place → place < length replies → MarksTaken (ids ++ id ∷ []) replies (set marks place true)
  marks_taken m id place there within = marks_set (λ (reply : Reply). reply.rid) ids replies marks m numbered.first id place numbered.replies_from (first_place sent replies numbered id place there) within
