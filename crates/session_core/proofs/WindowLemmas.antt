-- The copies that stand, as a window has them.
use Rattle.std.proofs.Common.{◌≡◌, ◌≢◌, ℕ, ◌+◌, ◌<◌, ◌≤◌, ◌==◌, inl, inr, Bool, true, false, cond, nat_lt, List, [], ◌∷◌, map, length, Option, Some, None, All, refl, sym, ◌∙◌, ap, subst, arith, filter}
use Rattle.std.specs.Prelude.{IsTrue}
use Rattle.std.proofs.lemmas.Bool.{cases_lt}
use Rattle.std.proofs.lemmas.Bool.Decides.{nat_tests}
use Rattle.std.proofs.lemmas.List.Elements.{All-head, All-tail}
use Rattle.bosh_types.specs.ById.{at_id}
use Rattle.bosh_types.specs.Rid.{greatest_rid}
use Rattle.rid_window.specs.PlainWindow.{id_after, item_at, IsOpen}
use Rattle.session_core.specs.declared.copy.RequestCopy.{RequestCopy}
use Rattle.session_core.specs.Copy.{id_of, with_id}
use Rattle.session_core.specs.StandsFor.{IsLater}

passed_by : {X : Type 0} (a b : ℕ) (x : X) (rest : Option X) → a ≢ b → cond (a == b) (Some x) rest ≡ rest
passed_by a b x rest apart = grind (arith, nat_tests)

-- what stands at a later id doesn't hang on the creation
pub later_at : (creation : RequestCopy) (standing : List RequestCopy) (rid : ℕ) → id_of creation < rid
    → at_id (map with_id (creation ∷ standing)) rid ≡ at_id (map with_id standing) rid
later_at creation standing rid later =
    passed_by (id_of creation) rid creation (at_id (map with_id standing) rid) (λ same. absurd (omega arith))

-- nothing stands beyond the greatest id
pub none_beyond : (first : ℕ) (standing : List RequestCopy) (rid : ℕ) → All (IsLater first) standing → greatest_rid < rid
    → at_id (map with_id standing) rid ≡ None
none_beyond first [] rid ids beyond = refl
none_beyond first (copy ∷ copies) rid ids beyond =
    let is : IsLater first copy = All-head (IsLater first) copy copies ids in
    let small : id_of copy ≤ greatest_rid = is.within in
    passed_by (id_of copy) rid copy (at_id (map with_id copies) rid) (λ same. absurd (omega arith))
    ∙ none_beyond first copies rid (All-tail (IsLater first) copy copies ids) beyond

pub after_some : (last : ℕ) → last < greatest_rid → id_after last ≡ Some (last + 1)
after_some last more = grind (arith, nat_tests)

pub after_none : (last : ℕ) → greatest_rid ≤ last → id_after last ≡ None
after_none last most = grind (arith, nat_tests)

-- the first item of the window is the copy with the next id
pub next_at : (creation : RequestCopy) (standing : List RequestCopy) (last : ℕ) → All (IsLater (id_of creation)) standing
    → id_of creation ≤ last → item_at (id_after last) (map with_id (creation ∷ standing)) ≡ at_id (map with_id standing) (last + 1)
next_at creation standing last ids first = elim (cases_lt last greatest_rid) [
  | inl more ↦
      ap (λ (next : Option ℕ). item_at next (map with_id (creation ∷ standing))) (after_some last more)
      ∙ later_at creation standing (last + 1) (omega arith)
  | inr most ↦
      ap (λ (next : Option ℕ). item_at next (map with_id (creation ∷ standing))) (after_none last most)
      ∙ sym (none_beyond (id_of creation) standing (last + 1) ids (omega arith))
]

-- the copies beyond an id
abbrev pub above : ℕ → List RequestCopy → List RequestCopy
above last standing = filter (λ copy. nat_lt last (id_of copy)) standing

found : {X : Type 0} (a b : ℕ) (x : X) (rest : Option X) → a ≡ b → cond (a == b) (Some x) rest ≡ None → ⊥
found a b x rest same none = grind (arith, nat_tests)

not_found_later : {X : Type 0} (a b : ℕ) (x : X) (rest : Option X) → cond (a == b) (Some x) rest ≡ None → rest ≡ None
not_found_later a b x rest none = grind (arith, nat_tests)

kept_first : (last : ℕ) (copy : RequestCopy) (copies : List RequestCopy) → id_of copy ≤ last → above last (copy ∷ copies) ≡ above last copies
kept_first last copy copies low =
    let test : nat_lt last (id_of copy) ≡ false = grind (arith, nat_tests) in
    ap (λ (b : Bool). cond b (copy ∷ above last copies) (above last copies)) test

-- where no later id has a copy, none stands beyond
pub clear_beyond : (first last : ℕ) (standing : List RequestCopy) → All (IsLater first) standing
    → ((rid : ℕ) → last < rid → rid ≤ greatest_rid → at_id (map with_id standing) rid ≡ None) → above last standing ≡ []
clear_beyond first last [] ids none = refl
clear_beyond first last (copy ∷ copies) ids none =
    let is : IsLater first copy = All-head (IsLater first) copy copies ids in
    elim (cases_lt last (id_of copy)) [
      | inl beyond ↦ absurd (found (id_of copy) (id_of copy) copy (at_id (map with_id copies) (id_of copy)) refl (none (id_of copy) beyond is.within))
      | inr low ↦
          kept_first last copy copies low
          ∙ clear_beyond first last copies (All-tail (IsLater first) copy copies ids)
          (λ rid later small. not_found_later (id_of copy) rid copy (at_id (map with_id copies) rid) (none rid later small))
    ]

above_cons : (last : ℕ) (copy : RequestCopy) (copies : List RequestCopy) → above last (copy ∷ copies) ≡ [] → (id_of copy ≤ last) × (above last copies ≡ [])
above_cons last copy copies empty = elim (cases_lt last (id_of copy)) [
  | inl beyond ↦
      let test : nat_lt last (id_of copy) ≡ true = grind (arith, nat_tests) in
      let more : above last (copy ∷ copies) ≡ copy ∷ above last copies = ap (λ (b : Bool). cond b (copy ∷ above last copies) (above last copies)) test in
      absurd (cc)
  | inr low ↦ (low, sym (kept_first last copy copies low) ∙ empty)
]

-- where none stands beyond, no later id has a copy
pub beyond_clear : (last : ℕ) (standing : List RequestCopy) (rid : ℕ) → above last standing ≡ [] → last < rid → at_id (map with_id standing) rid ≡ None
beyond_clear last [] rid empty later = refl
beyond_clear last (copy ∷ copies) rid empty later =
    let both = above_cons last copy copies empty in
    let low : id_of copy ≤ last = both.0 in
    passed_by (id_of copy) rid copy (at_id (map with_id copies) rid) (λ same. absurd (omega arith))
    ∙ beyond_clear last copies rid both.1 later

-- the window is clear exactly where none stands beyond the last id
pub clear_is : (clear : Bool) (creation : RequestCopy) (standing : List RequestCopy) (last : ℕ) → All (IsLater (id_of creation)) standing
    → id_of creation ≤ last
    → (IsTrue clear → (rid : ℕ) → IsOpen (id_after last) rid → at_id (map with_id (creation ∷ standing)) rid ≡ None)
    → (((rid : ℕ) → IsOpen (id_after last) rid → at_id (map with_id (creation ∷ standing)) rid ≡ None) → IsTrue clear)
    → clear ≡ (length (above last standing) == 0)
clear_is true creation standing last ids first told shown =
    let none : above last standing ≡ [] = clear_beyond (id_of creation) last standing ids (λ rid later small.
    sym (later_at creation standing rid (omega arith)) ∙ told refl rid (subst (λ next. IsOpen next rid) (sym (after_some last (omega arith))) (omega arith))) in
    ap (λ (copies : List RequestCopy). length copies == 0) (sym none)
clear_is false creation standing last ids first told shown =
    not_clear (above last standing) (λ empty. shown (λ rid is.
    let later : last < rid = opened_later last rid is in
    later_at creation standing rid (omega arith) ∙ beyond_clear last standing rid empty later))
  where
    not_clear : (copies : List RequestCopy) → (copies ≡ [] → IsTrue false) → false ≡ (length copies == 0)
    not_clear [] holds = holds refl
    not_clear (copy ∷ copies) holds = grind (arith, nat_tests)

    opened_later : (last rid : ℕ) → IsOpen (id_after last) rid → last < rid
    opened_later last rid is = elim (cases_lt last greatest_rid) [
      | inl more ↦ (let at : IsOpen (Some (last + 1)) rid = subst (λ next. IsOpen next rid) (after_some last more) is in omega arith)
      | inr most ↦ absurd (subst (λ next. IsOpen next rid) (after_none last most) is)
    ]
