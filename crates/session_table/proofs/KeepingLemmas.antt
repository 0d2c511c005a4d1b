-- What a directory keeps, as its history goes on.
use Rattle.std.proofs.Common.{◌≡◌, ◌⊎◌, ◌≤◌, ◌<◌, ◌+◌, ℕ, zero, suc, Bool, true, false, cond, List, [], ◌∷◌, ◌++◌, length, map, filter, All, Option, Some, None, refl, sym, ◌∙◌, ap, subst, inl, inr, length-append, arith}
use Rattle.std.specs.Prelude.{Contains, bytes_eq}
use Rattle.std.specs.BTreeMap.{insert_entry, is_at}
use Rattle.std.specs.List.{cons_option, filter_map, slice_index_or}
use Rattle.std.specs.Map.{lookup, remove_entry, set_value}
use Rattle.std.specs.Option.{option_map}
use Rattle.std.specs.Ordering.{nat_cmp}
use Rattle.std.proofs.lemmas.List.{append-nil, map-append}
use Rattle.std.proofs.lemmas.List.Elements.{All-append, All-contains, All-filter, All-head, All-tail, Contains-append_left, filter_map-append}
use Rattle.std.proofs.lemmas.List.Folds.{list_any_none}
use Rattle.std.proofs.lemmas.Slice.Eq.{bytes_eq-Decides}
use Rattle.std.specs.Arc.{arc_value}
use Rattle.parked_gate.specs.Passes.{GateId, gate_of}
use Rattle.session_table.specs.Handles.{IsOfSame}
use Rattle.session_table.specs.declared.entry.Entry.{Entry}
use Rattle.session_table.specs.declared.handle.SessionHandle.{SessionHandle}
use Rattle.session_table.specs.History.{IsLegal, live_at, live_of, opening_in, openings_of, removal_in, removals_of}
use Rattle.session_table.specs.Keeping.{Keeps, session_of}
use Rattle.session_table.specs.Sessions.{OpenedSession, by_number, is_removed, live_among, numbered_from, sids}
use Rattle.session_table.specs.Sids.{IsSidOf, highest_number}
use Rattle.session_table.proofs.LiveLists.{AllBelow, AllNumberedBy, Ascends, at_same, filter_ascends, filter_below, inserted_last, length-numbered_from, live_after_opening, live_after_removal, named_all, named_by_number, named_has, none_above, numbered_from-append, numbers_ascend, numbers_below, removed_by_number, tested, with_name, without}
use Rattle.session_table.proofs.MapLists.{insert-seen, lookup-seen, remove-seen, set-seen}
use Rattle.session_table.proofs.SidLemmas.{one_number}

-- ---- one more entry

told_more : {X : Type 0} (f : Entry → Option X) (log : List Entry) (e : Entry) (o : Option X) → f e ≡ o → filter_map f (log ++ e ∷ []) ≡ filter_map f log ++ cons_option o []
told_more f log e o is = filter_map-append f log (e ∷ []) ∙ ap (λ p. filter_map f log ++ cons_option p []) is

not_told : {X : Type 0} (f : Entry → Option X) (log : List Entry) (e : Entry) → f e ≡ None → filter_map f (log ++ e ∷ []) ≡ filter_map f log
not_told f log e is = told_more f log e None is ∙ append-nil (filter_map f log)

pub opened_more : (log : List Entry) (e : Entry) (x : OpenedSession) → opening_in e ≡ Some (x.sid, x.gate) → x.number ≡ length (openings_of log) + 1
    → openings_of (log ++ e ∷ []) ≡ openings_of log ++ x ∷ []
opened_more log e x tells number =
    let xs : List (List ℕ × GateId) = filter_map opening_in log in
    let next : 1 + length xs ≡ x.number = omega (arith, length-numbered_from 1 xs, number) in
    ap (numbered_from 1) (told_more opening_in log e (Some (x.sid, x.gate)) tells)
    ∙ (numbered_from-append 1 xs ((x.sid, x.gate) ∷ []) ∙ ap (λ n. openings_of log ++ record { sid = x.sid; number = n; gate = x.gate } ∷ []) next)

-- ---- numbers of live sessions

opened_ascend : (log : List Entry) → Ascends 1 (live_of log)
opened_ascend log = filter_ascends _ 1 (openings_of log) (numbers_ascend 1 (filter_map opening_in log))

pub opened_below : (log : List Entry) → AllBelow (length (openings_of log) + 1) (openings_of log)
opened_below log =
    let xs : List (List ℕ × GateId) = filter_map opening_in log in
    subst (λ n. AllBelow n (openings_of log)) (count (length xs) (length (openings_of log)) (length-numbered_from 1 xs)) (numbers_below 1 xs)
  where
    count : (n m : ℕ) → m ≡ n → 1 + n ≡ m + 1
    count n m same = omega arith

same_bytes : (xs ys : List ℕ) → bytes_eq xs ys ≡ true → xs ≡ ys
same_bytes xs ys is = (bytes_eq-Decides xs ys).0 is

-- what the number at the end of a name tells: the name is of no other number
abbrev pub Numbers : List ℕ → Option ℕ → Type 0
Numbers sid found = (number : ℕ) → number ≤ highest_number → IsSidOf sid number → found ≡ Some number

some_same : {A : Type 0} (a b : A) → Some a ≡ Some b → a ≡ b
some_same a b e = cc

abbrev IsNamed : OpenedSession → Type 0
IsNamed s = IsSidOf s.sid s.number

-- so the live session of that name has that number
numbered_by : (sid : List ℕ) (n top : ℕ) (found : Option ℕ) (ss : List OpenedSession) → top ≤ highest_number → found ≡ Some n → Numbers sid found
    → AllBelow (top + 1) ss → All IsNamed ss → AllNumberedBy sid n ss
numbered_by sid n top found [] few is numbers low names = tt
numbered_by sid n top found (s ∷ ss) few is numbers low names = (
  λ same. some_same _ _ (sym (numbers s.number (omega (arith, low.0)) (subst (λ t. IsSidOf t s.number) (same_bytes s.sid sid same) (All-head IsNamed s ss names))) ∙ is),
  numbered_by sid n top found ss few is numbers low.1 (All-tail IsNamed s ss names),
)

live_numbered : (log : List Entry) (sid : List ℕ) (n : ℕ) (found : Option ℕ) → IsLegal log → found ≡ Some n → Numbers sid found → AllNumberedBy sid n (live_of log)
live_numbered log sid n found legal is numbers =
    numbered_by sid n (length (openings_of log)) found (live_of log) legal.few_opened is numbers
    (filter_below _ _ (openings_of log) (opened_below log)) (All-filter _ IsNamed (openings_of log) legal.named)

-- ---- names among those that were opened

contains_later : {X : Type 0} (x y : X) (xs : List X) → Contains xs y → Contains (x ∷ xs) y
contains_later x y xs c = (suc c.0, omega (arith, c.1), c.2)

all_none : {X : Type 0} (P : X → Type 0) → All P []
all_none P k d in_it = absurd (omega (arith, in_it))

all_cons : {X : Type 0} (P : X → Type 0) (x : X) (xs : List X) → P x → All P xs → All P (x ∷ xs)
all_cons P x xs px pxs zero d in_it = px
all_cons P x xs px pxs (suc k) d in_it = pxs k d (omega arith)

abbrev pub NumberedBelow : ℕ → List ℕ → Type 0
NumberedBelow top sid = (n : ℕ) × (n < top) × IsSidOf sid n

all_numbered : (top : ℕ) (os : List OpenedSession) → AllBelow top os → All IsNamed os → All (NumberedBelow top) (sids os)
all_numbered top [] low names = λ k d in_it. absurd (omega (arith, in_it))
all_numbered top (s ∷ os) low names =
    all_cons (NumberedBelow top) s.sid (sids os) (s.number, low.0, All-head IsNamed s os names) (all_numbered top os low.1 (All-tail IsNamed s os names))

numbered_name : (top : ℕ) (os : List OpenedSession) (sid : List ℕ) → AllBelow top os → All IsNamed os → Contains (sids os) sid → NumberedBelow top sid
numbered_name top os sid low names was = All-contains (NumberedBelow top) (sids os) sid (all_numbered top os low names) was

-- who is found among the live ones was opened
found_was_opened : (p : OpenedSession → Bool) (n : ℕ) (os : List OpenedSession) (x : OpenedSession)
    → lookup (is_at (nat_cmp n)) (by_number (filter p os)) ≡ Some x → Contains (sids os) x.sid
found_was_opened p n [] x is = absurd (cc)
found_was_opened p n (s ∷ os) x is = by (p s) is (λ rest. contains_later s.sid x.sid (sids os) (found_was_opened p n os x rest))
  where
    by : (b : Bool) → lookup (is_at (nat_cmp n)) (by_number (cond b (s ∷ filter p os) (filter p os))) ≡ Some x
        → (lookup (is_at (nat_cmp n)) (by_number (filter p os)) ≡ Some x → Contains (sids (s ∷ os)) x.sid) → Contains (sids (s ∷ os)) x.sid
    by false is later = later is
    by true is later = at_head (tested (is_at (nat_cmp n) s.number)) is later
      where
        at_head : (is_at (nat_cmp n) s.number ≡ true) ⊎ (is_at (nat_cmp n) s.number ≡ false)
            → cond (is_at (nat_cmp n) s.number) (Some s) (lookup (is_at (nat_cmp n)) (by_number (filter p os))) ≡ Some x
            → (lookup (is_at (nat_cmp n)) (by_number (filter p os)) ≡ Some x → Contains (sids (s ∷ os)) x.sid) → Contains (sids (s ∷ os)) x.sid
        at_head (inl same) is later =
            let it : s ≡ x = some_same s x (sym (ap (λ b. cond b (Some s) (lookup (is_at (nat_cmp n)) (by_number (filter p os)))) same) ∙ is) in
            subst (λ (y : OpenedSession). Contains (sids (s ∷ os)) y.sid) it (0, omega arith, refl)
        at_head (inr other) is later =
            later (sym (ap (λ b. cond b (Some s) (lookup (is_at (nat_cmp n)) (by_number (filter p os)))) other) ∙ is)

pub all_below : (n : ℕ) (ss : List OpenedSession) → AllBelow n ss → All (λ s. s.number < n) ss
all_below n [] low = all_none (λ (s : OpenedSession). s.number < n)
all_below n (s ∷ ss) low = all_cons (λ (s : OpenedSession). s.number < n) s ss low.0 (all_below n ss low.1)

-- who is looked up by a number has it
found_number : (n : ℕ) (ss : List OpenedSession) (x : OpenedSession) → lookup (is_at (nat_cmp n)) (by_number ss) ≡ Some x → x.number ≡ n
found_number n [] x is = absurd (cc)
found_number n (s ∷ ss) x is = by (tested (is_at (nat_cmp n) s.number)) is (λ later. found_number n ss x later)
  where
    by : (is_at (nat_cmp n) s.number ≡ true) ⊎ (is_at (nat_cmp n) s.number ≡ false)
        → cond (is_at (nat_cmp n) s.number) (Some s) (lookup (is_at (nat_cmp n)) (by_number ss)) ≡ Some x
        → (lookup (is_at (nat_cmp n)) (by_number ss) ≡ Some x → x.number ≡ n) → x.number ≡ n
    by (inl here) is later =
        let it : s ≡ x = some_same s x (sym (ap (λ b. cond b (Some s) (lookup (is_at (nat_cmp n)) (by_number ss))) here) ∙ is) in
        sym (ap (λ (y : OpenedSession). y.number) it) ∙ sym (at_same n s.number here)
    by (inr other) is later = later (sym (ap (λ b. cond b (Some s) (lookup (is_at (nat_cmp n)) (by_number ss))) other) ∙ is)

number_there : (o : Option OpenedSession) (n : ℕ) → Some n ≡ option_map (λ (s : OpenedSession). s.number) o → (x : OpenedSession) × (o ≡ Some x) × (x.number ≡ n)
number_there None n is = absurd (cc)
number_there (Some x) n is = (x, refl, some_same x.number n (sym is))

map_there : (o : Option SessionHandle) (x : OpenedSession) → option_map session_of o ≡ Some x → (h : SessionHandle) × (o ≡ Some h) × (session_of h ≡ x)
map_there None x is = absurd (cc)
map_there (Some h) x is = (h, refl, some_same (session_of h) x is)

pub keeps_nothing : (handles : List (ℕ × SessionHandle)) (log : List Entry) → handles ≡ [] → log ≡ [] → Keeps handles log 0
keeps_nothing handles log none nothing =
    subst (λ hs. Keeps hs log 0) (sym none) (subst (λ l. Keeps [] l 0) (sym nothing) (record {
      live = refl;
      openings_are = refl;
      legal = record { named = all_none _; opened = all_none _; few_opened = omega arith };
    }))

-- ---- a search by name

module _ (handles : List (ℕ × SessionHandle)) (log : List Entry) (openings : ℕ) (keeps : Keeps handles log openings) where
  by_its_number : (n : ℕ) → lookup (is_at (nat_cmp n)) (by_number (live_of log)) ≡ option_map session_of (lookup (is_at (nat_cmp n)) handles)
  by_its_number n = ap (lookup (is_at (nat_cmp n))) (sym keeps.live) ∙ lookup-seen session_of (is_at (nat_cmp n)) handles

  pub found_by_number : (sid : List ℕ) (n : ℕ) (found : Option ℕ) → found ≡ Some n → Numbers sid found
      → live_at log sid ≡ with_name sid (option_map session_of (lookup (is_at (nat_cmp n)) handles))
  found_by_number sid n found is numbers =
      named_by_number sid n 1 (live_of log) (opened_ascend log) (live_numbered log sid n found keeps.legal is numbers)
      ∙ ap (with_name sid) (by_its_number n)

  pub found_nowhere : (sid : List ℕ) (found : Option ℕ) → found ≡ None → Numbers sid found → live_at log sid ≡ None
  found_nowhere sid found is numbers =
      named_by_number sid 0 1 (live_of log) (opened_ascend log) (live_numbered log sid 0 (Some 0) keeps.legal refl nobody)
      ∙ ap (with_name sid) (none_above 0 1 (live_of log) (omega arith) (opened_ascend log))
    where
      nobody : Numbers sid (Some 0)
      nobody number few is_sid = absurd (none_is_some (sym is ∙ numbers number few is_sid))
        where
          none_is_some : {k : ℕ} → None ≡ Some k → ⊥
          none_is_some e = cc

  -- ---- by the number at the end of a name

  module _ (sid : List ℕ) (n : ℕ) (found : Option ℕ) (is : found ≡ Some n) (numbers : Numbers sid found) where
    looked_up : (o : Option SessionHandle) → lookup (is_at (nat_cmp n)) handles ≡ o → live_at log sid ≡ with_name sid (option_map session_of o)
    looked_up o o_is = found_by_number sid n found is numbers ∙ ap (λ p. with_name sid (option_map session_of p)) o_is

    pub number_none : lookup (is_at (nat_cmp n)) handles ≡ None → None ≡ option_map (λ (s : OpenedSession). s.number) (live_at log sid)
    number_none none = sym (ap (option_map (λ (s : OpenedSession). s.number)) (looked_up None none))

    pub number_apart : (h : SessionHandle) → lookup (is_at (nat_cmp n)) handles ≡ Some h → bytes_eq h.sid sid ≡ false
        → None ≡ option_map (λ (s : OpenedSession). s.number) (live_at log sid)
    number_apart h here apart =
        sym (ap (option_map (λ (s : OpenedSession). s.number)) (looked_up (Some h) here ∙ ap (λ b. cond b (Some (session_of h)) None) apart))

    pub number_here : (h : SessionHandle) → lookup (is_at (nat_cmp n)) handles ≡ Some h → bytes_eq h.sid sid ≡ true
        → Some n ≡ option_map (λ (s : OpenedSession). s.number) (live_at log sid)
    number_here h here same =
        ap Some (sym (found_number n (live_of log) (session_of h) (by_its_number n ∙ ap (option_map session_of) here)))
        ∙ sym (ap (option_map (λ (s : OpenedSession). s.number)) (looked_up (Some h) here ∙ ap (λ b. cond b (Some (session_of h)) None) same))

  -- a live session's handle is there under its number
  pub live_has : (sid : List ℕ) (x : OpenedSession) → live_at log sid ≡ Some x
      → (h : SessionHandle) × (lookup (is_at (nat_cmp x.number)) handles ≡ Some h) × (session_of h ≡ x)
  live_has sid x is =
      let there = named_has sid 1 (live_of log) x (opened_ascend log) is in
      map_there (lookup (is_at (nat_cmp x.number)) handles) x (sym (by_its_number x.number) ∙ there.0)

  -- a handle that is seen as it was changes nothing
  pub keeps_same : (test : ℕ → Bool) (v w : SessionHandle) (later : List (ℕ × SessionHandle)) → lookup test handles ≡ Some v → session_of w ≡ session_of v
      → later ≡ set_value test handles w → Keeps later log openings
  keeps_same test v w later found same later_is = record {
    live = ap (map (λ h. (h.0, session_of h.1))) later_is ∙ (set-seen session_of test handles v w found same ∙ keeps.live);
    openings_are = keeps.openings_are;
    legal = keeps.legal;
  }

  -- a session is opened under the next number
  module _ (e : Entry) (h : SessionHandle) (opens : opening_in e ≡ Some (h.sid, (session_of h).gate)) (stays : removal_in e ≡ None)
      (number : h.number ≡ openings + 1) (is_sid : IsSidOf h.sid h.number)
      (not_spent : openings < highest_number) where
    next_number : h.number ≡ length (openings_of log) + 1
    next_number = number ∙ ap (λ n. n + 1) keeps.openings_are

    opened_then : openings_of (log ++ e ∷ []) ≡ openings_of log ++ session_of h ∷ []
    opened_then = opened_more log e (session_of h) opens next_number

    removed_then : removals_of (log ++ e ∷ []) ≡ removals_of log
    removed_then = not_told removal_in log e stays

    -- what was removed had other names
    other_name : (removed : List ℕ) → Contains (sids (openings_of log)) removed → bytes_eq h.sid removed ≡ false
    other_name removed was = by (tested (bytes_eq h.sid removed))
      where
        had : (n : ℕ) × (n < length (openings_of log) + 1) × IsSidOf removed n
        had = numbered_name (length (openings_of log) + 1) (openings_of log) removed (opened_below log) keeps.legal.named was

        by : (bytes_eq h.sid removed ≡ true) ⊎ (bytes_eq h.sid removed ≡ false) → bytes_eq h.sid removed ≡ false
        by (inr other) = other
        by (inl same) =
            let one : h.number ≡ had.0 =
            one_number removed h.number had.0 (omega (arith, not_spent, number)) (omega (arith, had.1, keeps.openings_are, not_spent))
            (subst (λ t. IsSidOf t h.number) (same_bytes h.sid removed same) is_sid) had.2 in
            absurd (omega (arith, had.1, next_number, one))

    not_removed : is_removed (removals_of log) (session_of h) ≡ false
    not_removed = list_any_none (bytes_eq h.sid) (removals_of log) (λ k d in_it. other_name _ (keeps.legal.opened k d in_it))

    live_then : live_of (log ++ e ∷ []) ≡ live_of log ++ session_of h ∷ []
    live_then =
        ap (λ rs. live_among rs (openings_of (log ++ e ∷ []))) removed_then
        ∙ (ap (live_among (removals_of log)) opened_then ∙ live_after_opening (removals_of log) (openings_of log) (session_of h) not_removed)

    below : AllBelow h.number (live_of log)
    below = subst (λ n. AllBelow n (live_of log)) (sym next_number) (filter_below _ _ (openings_of log) (opened_below log))

    sids_then : sids (openings_of (log ++ e ∷ [])) ≡ sids (openings_of log) ++ h.sid ∷ []
    sids_then = ap sids opened_then ∙ map-append (λ s. s.sid) (openings_of log) (session_of h ∷ [])

    legal_then : IsLegal (log ++ e ∷ [])
    legal_then = record {
      named = subst (All IsNamed) (sym opened_then)
          (All-append IsNamed (openings_of log) (session_of h ∷ []) keeps.legal.named (all_cons IsNamed (session_of h) [] is_sid (all_none IsNamed)));
      opened = subst (All (Contains (sids (openings_of (log ++ e ∷ []))))) (sym removed_then)
          (λ k d in_it. subst (λ l. Contains l (slice_index_or (removals_of log) k d)) (sym sids_then)
          (Contains-append_left (sids (openings_of log)) (h.sid ∷ []) _ (keeps.legal.opened k d in_it)));
      few_opened = subst (λ l. length l ≤ highest_number) (sym opened_then)
          (omega (arith, length-append (openings_of log) (session_of h ∷ []), not_spent, keeps.openings_are));
    }

    pub keeps_opened : (later : List (ℕ × SessionHandle)) → later ≡ insert_entry nat_cmp handles h.number h → Keeps later (log ++ e ∷ []) h.number
    keeps_opened later later_is = record {
      live =
          ap (map (λ h. (h.0, session_of h.1))) later_is
          ∙ (insert-seen session_of nat_cmp handles h.number h
          ∙ (ap (λ l. insert_entry nat_cmp l h.number (session_of h)) keeps.live
          ∙ (inserted_last (session_of h) (live_of log) below ∙ ap by_number (sym live_then))));
      openings_are = next_number ∙ (sym (length-append (openings_of log) (session_of h ∷ [])) ∙ ap length (sym opened_then));
      legal = legal_then;
    }

  -- the same, as the directory's value says it
  pub entered : (value : List Entry) → log ≡ value → (e : Entry) (h : SessionHandle) → opening_in e ≡ Some (h.sid, (session_of h).gate) → removal_in e ≡ None
      → h.number ≡ length (openings_of value) + 1 → IsSidOf h.sid h.number → length (openings_of value) < highest_number
      → (later : List (ℕ × SessionHandle)) → later ≡ insert_entry nat_cmp handles h.number h → (items : List Entry) → items ≡ log ++ e ∷ [] → Keeps later items h.number
  entered value is e h opens stays number is_sid not_spent later later_is items items_are =
      subst (λ l. Keeps later l h.number) (sym items_are)
      (keeps_opened e h opens stays
      (number ∙ (ap (λ l. length (openings_of l) + 1) (sym is) ∙ ap (λ n. n + 1) (sym keeps.openings_are)))
      is_sid
      (omega (arith, keeps.openings_are, ap (λ l. length (openings_of l)) is, not_spent))
      later later_is)

  -- a live session is removed
  module _ (e : Entry) (sid : List ℕ) (x : OpenedSession) (is : live_at log sid ≡ Some x) (stays : opening_in e ≡ None) (removes : removal_in e ≡ Some sid) where
    opened_still : openings_of (log ++ e ∷ []) ≡ openings_of log
    opened_still = ap (numbered_from 1) (not_told opening_in log e stays)

    removed_now : removals_of (log ++ e ∷ []) ≡ removals_of log ++ sid ∷ []
    removed_now = told_more removal_in log e (Some sid) removes

    live_now : live_of (log ++ e ∷ []) ≡ without sid (live_of log)
    live_now =
        ap (λ rs. live_among rs (openings_of (log ++ e ∷ []))) removed_now
        ∙ (ap (live_among (removals_of log ++ sid ∷ [])) opened_still ∙ live_after_removal (removals_of log) sid (openings_of log))

    in_live : (lookup (is_at (nat_cmp x.number)) (by_number (live_of log)) ≡ Some x) × (bytes_eq x.sid sid ≡ true)
    in_live = named_has sid 1 (live_of log) x (opened_ascend log) is

    its_sid : x.sid ≡ sid
    its_sid = same_bytes x.sid sid in_live.1

    is_sid_of : IsSidOf x.sid x.number
    is_sid_of = named_all IsNamed sid (live_of log) x (All-filter _ IsNamed (openings_of log) keeps.legal.named) is

    its_number : x.number < length (openings_of log) + 1
    its_number = named_all (λ (s : OpenedSession). s.number < length (openings_of log) + 1) sid (live_of log) x (all_below (length (openings_of log) + 1) (live_of log) (filter_below _ _ (openings_of log) (opened_below log))) is

    numbers : Numbers sid (Some x.number)
    numbers number few is_sid =
        ap Some (one_number sid x.number number (omega (arith, its_number, keeps.legal.few_opened)) few (subst (λ t. IsSidOf t x.number) its_sid is_sid_of) is_sid)

    was_opened : Contains (sids (openings_of log)) sid
    was_opened = subst (Contains (sids (openings_of log))) its_sid (found_was_opened _ x.number (openings_of log) x in_live.0)

    pub keeps_removed : (later : List (ℕ × SessionHandle)) → later ≡ remove_entry (is_at (nat_cmp x.number)) handles → Keeps later (log ++ e ∷ []) openings
    keeps_removed later later_is = record {
      live =
          ap (map (λ h. (h.0, session_of h.1))) later_is
          ∙ (remove-seen session_of (is_at (nat_cmp x.number)) handles
          ∙ (ap (remove_entry (is_at (nat_cmp x.number))) keeps.live
          ∙ (removed_by_number sid x.number 1 (live_of log) x (opened_ascend log) (live_numbered log sid x.number (Some x.number) keeps.legal refl numbers) in_live.0 in_live.1
          ∙ ap by_number (sym live_now))));
      openings_are = keeps.openings_are ∙ ap length (sym opened_still);
      legal = record {
        named = subst (All IsNamed) (sym opened_still) keeps.legal.named;
        opened = subst (λ rs. All (Contains (sids (openings_of (log ++ e ∷ [])))) rs) (sym removed_now)
            (subst (λ os. All (Contains (sids os)) (removals_of log ++ sid ∷ [])) (sym opened_still)
            (All-append (Contains (sids (openings_of log))) (removals_of log) (sid ∷ []) keeps.legal.opened (all_cons (Contains (sids (openings_of log))) sid [] was_opened (all_none (Contains (sids (openings_of log)))))));
        few_opened = subst (λ os. length os ≤ highest_number) (sym opened_still) keeps.legal.few_opened;
      };
    }

module _ (handles : List (ℕ × SessionHandle)) (log : List Entry) (openings : ℕ) (keeps : Keeps handles log openings) where
  pub removed : (value : List Entry) → log ≡ value → (e : Entry) (sid : List ℕ) (x : OpenedSession) → live_at value sid ≡ Some x → opening_in e ≡ None
      → removal_in e ≡ Some sid → (later : List (ℕ × SessionHandle)) → later ≡ remove_entry (is_at (nat_cmp x.number)) handles
      → (items : List Entry) → items ≡ log ++ e ∷ [] → Keeps later items openings
  removed value is e sid x live stays removes later later_is items items_are =
      subst (λ l. Keeps later l openings) (sym items_are)
      (keeps_removed handles log openings keeps e sid x (subst (λ l. live_at l sid ≡ Some x) (sym is) live) stays removes later later_is)

  -- who was found by the number
  module _ (value : List Entry) (is_value : log ≡ value) (sid : List ℕ) (n : ℕ) (is : Some n ≡ option_map (λ (s : OpenedSession). s.number) (live_at value sid)) where
    the_live : (x : OpenedSession) × (live_at value sid ≡ Some x) × (x.number ≡ n)
    the_live = number_there (live_at value sid) n is

    at_log : live_at log sid ≡ Some the_live.0
    at_log = subst (λ l. live_at l sid ≡ Some the_live.0) (sym is_value) the_live.1

    has : (h : SessionHandle) × (lookup (is_at (nat_cmp n)) handles ≡ Some h) × (session_of h ≡ the_live.0)
    has = subst (λ k. (h : SessionHandle) × (lookup (is_at (nat_cmp k)) handles ≡ Some h) × (session_of h ≡ the_live.0)) the_live.2
        (live_has handles log openings keeps sid the_live.0 at_log)

    pub reached : lookup (is_at (nat_cmp n)) handles ≡ None → ⊥
    reached none = cc (has.1)

    module _ (v : SessionHandle) (here : lookup (is_at (nat_cmp n)) handles ≡ Some v) where
      it_is : session_of v ≡ the_live.0
      it_is = ap session_of (some_same v has.0 (sym here ∙ has.1)) ∙ has.2

      pub found_live : live_at value sid ≡ Some (session_of v)
      found_live = the_live.1 ∙ ap Some (sym it_is)

      pub its_name : v.sid ≡ sid
      its_name = ap (λ (x : OpenedSession). x.sid) it_is ∙ same_bytes (the_live.0).sid sid (named_has sid 1 (live_of log) the_live.0 (opened_ascend log) at_log).1

      pub removed_here : (e : Entry) → opening_in e ≡ None → removal_in e ≡ Some sid → (later : List (ℕ × SessionHandle)) → later ≡ remove_entry (is_at (nat_cmp n)) handles
          → (items : List Entry) → items ≡ log ++ e ∷ [] → Keeps later items openings
      removed_here e stays removes later later_is items items_are =
          removed value is_value e sid the_live.0 the_live.1 stays removes later
          (later_is ∙ ap (λ k. remove_entry (is_at (nat_cmp k)) handles) (sym the_live.2)) items items_are

-- handles of one session are of the same opening
pub same_session : (x y : SessionHandle) → IsOfSame x y → session_of y ≡ session_of x
same_session x y is =
    ap (λ t. record { sid = t; number = y.number; gate = gate_of (arc_value y.gate) }) is.sid
    ∙ (ap (λ n. record { sid = x.sid; number = n; gate = gate_of (arc_value y.gate) }) is.number
    ∙ ap (λ (g : GateId). record { sid = x.sid; number = x.number; gate = g }) is.gate)

-- what two texts that were compared say of the names
pub names_apart : (text name sid : List ℕ) (r : Bool) → text ≡ name → r ≡ bytes_eq text sid → r ≡ false → bytes_eq name sid ≡ false
names_apart text name sid r text_is r_is no_ = ap (λ t. bytes_eq t sid) (sym text_is) ∙ (sym r_is ∙ no_)

pub names_same : (text name sid : List ℕ) (r : Bool) → text ≡ name → r ≡ bytes_eq text sid → r ≡ true → bytes_eq name sid ≡ true
names_same text name sid r text_is r_is yes_ = ap (λ t. bytes_eq t sid) (sym text_is) ∙ (sym r_is ∙ yes_)
