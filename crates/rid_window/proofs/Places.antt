-- The places of a window against the list of all that was placed.
use Rattle.std.proofs.Common.{◌≡◌, ◌≢◌, ℕ, zero, suc, ◌+◌, ◌-◌, ◌<◌, ◌≤◌, Bool, true, false, inl, inr, List, [], ◌∷◌, ◌++◌, Option, Some, None, is_some, is_none, length, set, drop, take, get_or, refl, sym, ◌∙◌, ap, subst, arith, IsTrue, ◌↔◌, get_or-set_same, get_or-set_other, length-append, length-set}
use Rattle.std.specs.List.{list_all}
use Rattle.std.specs.Option.{SomeIff}
use Rattle.std.proofs.lemmas.Bool.{cases_eq}
use Rattle.std.proofs.lemmas.Bool.Decides.{nat_tests}
use Rattle.bosh_types.specs.ById.{at_id}
use Rattle.bosh_types.specs.Rid.{greatest_rid}
use Rattle.bosh_types.proofs.Places.{get_or-push_none}
use Rattle.bosh_types.proofs.ById.{at_id-push_same, at_id-push_other}
use Rattle.rid_window.specs.PlainWindow.{PlainWindow, IsAbove, IsBelow, IsClear, IsOpen, IsWithin, after_ready, first_item, id_after, item_at, next_after, reach, ready, ready_at, with_item}
use Rattle.rid_window.specs.StandsFor.{Holds}

none_of : {T : Type 0} (o : Option T) → is_some o ≡ false → o ≡ None
none_of None e = refl
none_of (Some x) e = absurd (cc)

-- all places are empty exactly where each is
each_empty : {T : Type 0} (places : List (Option T)) (k : ℕ) → list_all is_none places ≡ true → get_or places k None ≡ None
each_empty [] k empty = refl
each_empty (Some x ∷ places) k empty = absurd (cc)
each_empty (None ∷ places) zero empty = refl
each_empty (None ∷ places) (suc k) empty = each_empty places k empty

all_empty : {T : Type 0} (places : List (Option T)) → ((k : ℕ) → get_or places k None ≡ None) → list_all is_none places ≡ true
all_empty [] each = refl
all_empty (Some x ∷ places) each =
    let first : Some x ≡ None = each 0 in
    absurd (cc)
all_empty (None ∷ places) each = all_empty places (λ k. each (suc k))

-- what `next` of an id is
pub id_after_is : (o : Option ℕ) (rid : ℕ) → SomeIff o (rid < greatest_rid) (rid + 1) → o ≡ id_after rid
id_after_is None rid next = grind (arith, nat_tests)
id_after_is (Some n) rid next = grind (arith, nat_tests)

id_after-some : (rid first : ℕ) → id_after rid ≡ Some first → first ≡ rid + 1
id_after-some rid first e = grind (arith, nat_tests)

-- the places once the first was emptied and moved to the end
abbrev pub moved_up : {T : Type 0} → List (Option T) → List (Option T)
moved_up places = drop 1 (set places 0 None) ++ take 1 (set places 0 None)

length-moved_up : {T : Type 0} (places : List (Option T)) → 0 < length places → length (moved_up places) ≡ length places
length-moved_up [] some = absurd (omega arith)
length-moved_up (place ∷ places) some = omega (arith, length-append places (None ∷ []))

get_or-moved_up : {T : Type 0} (places : List (Option T)) (k : ℕ) → 0 < length places → get_or (moved_up places) k None ≡ get_or places (suc k) None
get_or-moved_up [] k some = absurd (omega arith)
get_or-moved_up (place ∷ places) k some = get_or-push_none places k

same_some : {a b : ℕ} {o : Option ℕ} → o ≡ Some a → o ≡ Some b → a ≡ b
same_some p q = cc

-- there is a place for every id that the window reaches
pub reach-le : (width : ℕ) (extra : Bool) → reach width extra ≤ width + 1
reach-le width true = omega arith
reach-le width false = omega arith

module _ {T : Type 0} {next : Option ℕ} {places : List (Option T)} {plain : PlainWindow T} where
  pub below : (rid : ℕ) → Holds next places plain → IsBelow next rid → IsBelow plain.next rid
  below rid s h = subst (λ o. IsBelow o rid) s.next_is h

  pub within : (first ahead reach rid : ℕ) → Holds next places plain → next ≡ Some first → rid ≡ first + ahead → ahead < reach → IsWithin plain.next reach rid
  within first ahead reach rid s is here inside = subst (λ o. IsWithin o reach rid) (sym is ∙ s.next_is) (omega arith, omega arith)

  pub above : (first ahead reach rid : ℕ) → Holds next places plain → next ≡ Some first → rid ≡ first + ahead → reach ≤ ahead → IsAbove plain.next reach rid
  above first ahead reach rid s is here beyond =
      let far : first + reach ≤ rid = omega arith in
      subst (λ o. IsAbove o reach rid) (sym is ∙ s.next_is) far

  pub not_taken : (first ahead rid : ℕ) → Holds next places plain → next ≡ Some first → rid ≡ first + ahead → IsOpen plain.next rid
  not_taken first ahead rid s is here =
      let from : first ≤ rid = omega arith in
      subst (λ o. IsOpen o rid) (sym is ∙ s.next_is) from

  -- the place of an id
  pub at_place : (first ahead rid : ℕ) → Holds next places plain → next ≡ Some first → rid ≡ first + ahead → at_id plain.placed rid ≡ get_or places ahead None
  at_place first ahead rid s is here = ap (at_id plain.placed) here ∙ s.each first ahead is

  pub at_empty : (first ahead rid : ℕ) → Holds next places plain → next ≡ Some first → rid ≡ first + ahead → is_some (get_or places ahead None) ≡ false → at_id plain.placed rid ≡ None
  at_empty first ahead rid s is here empty = at_place first ahead rid s is here ∙ none_of _ empty

  -- after an item was placed
  pub Holds-place : (first ahead rid : ℕ) (item : T) → Holds next places plain → next ≡ Some first → rid ≡ first + ahead → ahead < length places → at_id plain.placed rid ≡ None → Holds next (set places ahead (Some item)) (record plain { placed = plain.placed ++ (rid, item) ∷ [] })
  Holds-place first ahead rid item s is here inside empty = record {
    next_is = s.next_is;
    room = length-set places ahead (Some item) ∙ s.room;
    each = λ n k e.
        let start : n ≡ first = same_some e is in
        elim (cases_eq (n + k) rid) [
          | inl same ↦
              let at : k ≡ ahead = omega arith in
              ap (at_id (plain.placed ++ (rid, item) ∷ [])) same ∙ at_id-push_same plain.placed rid item empty
              ∙ sym (ap (λ j. get_or (set places ahead (Some item)) j None) at ∙ get_or-set_same places ahead (Some item) None inside)
          | inr other ↦
              let elsewhere : k ≢ ahead = λ at. other (omega arith) in
              at_id-push_other plain.placed rid (n + k) item other ∙ s.each n k e
              ∙ sym (get_or-set_other places ahead k (Some item) None elsewhere)
        ];
  }

  first_place : (first : ℕ) → Holds next places plain → next ≡ Some first → at_id plain.placed first ≡ get_or places 0 None
  first_place first s is =
      let here : first ≡ first + 0 = omega arith in
      ap (at_id plain.placed) here ∙ s.each first 0 is

  ready_from : (first : ℕ) → Holds next places plain → next ≡ Some first → with_item first (at_id plain.placed first) ≡ ready plain
  ready_from first s is = ap (λ o. ready_at o plain.placed) (sym is ∙ s.next_is)

  -- nothing is ready where no id is left, or the first place is empty
  pub none_left : Holds next places plain → next ≡ None → None ≡ ready plain
  none_left s is = ap (λ o. ready_at o plain.placed) (sym is ∙ s.next_is)

  pub none_ready : (first : ℕ) → Holds next places plain → next ≡ Some first → get_or places 0 None ≡ None → None ≡ ready plain
  none_ready first s is empty = ap (with_item first) (sym (first_place first s is ∙ empty)) ∙ ready_from first s is

  pub some_ready : (first : ℕ) (item : T) → Holds next places plain → next ≡ Some first → get_or places 0 None ≡ Some item → Some (first, item) ≡ ready plain
  some_ready first item s is full = ap (with_item first) (sym (first_place first s is ∙ full)) ∙ ready_from first s is

  -- nothing changes where nothing is ready
  pub Holds-none : Holds next places plain → None ≡ ready plain → Holds next places (after_ready plain)
  Holds-none s none =
      let same : plain ≡ after_ready plain = ap (λ o. record plain { next = next_after plain o }) none in
      subst (λ p. Holds next places p) same s

  -- after the first item was taken
  pub Holds-take : (later : Option ℕ) (first : ℕ) (item : T) → Holds next places plain → next ≡ Some first → 0 < length places → Some (first, item) ≡ ready plain → later ≡ id_after first → Holds later (moved_up places) (after_ready plain)
  Holds-take later first item s is some full after = record {
    next_is = after ∙ ap (next_after plain) full;
    room = length-moved_up places some ∙ s.room;
    each = λ n k e.
        let start : n ≡ first + 1 = id_after-some first n (sym after ∙ e) in
        let there : n + k ≡ first + suc k = omega arith in
        ap (at_id plain.placed) there ∙ s.each first (suc k) is ∙ sym (get_or-moved_up places k some);
  }

  -- the item of the first place, and none where no id is left
  first_at : (first : ℕ) → Holds next places plain → next ≡ Some first → get_or places 0 None ≡ first_item plain
  first_at first s is = sym (first_place first s is) ∙ ap (λ o. item_at o plain.placed) (sym is ∙ s.next_is)

  pub first_none : Holds next places plain → next ≡ None → None ≡ first_item plain
  first_none s is = ap (λ o. item_at o plain.placed) (sym is ∙ s.next_is)

  clear_at : (first : ℕ) → Holds next places plain → next ≡ Some first → IsTrue (list_all is_none places) ↔ IsClear plain
  clear_at first s is = (
    λ empty rid open_.
        let from : first ≤ rid = subst (λ o. IsOpen o rid) (sym s.next_is ∙ is) open_ in
        at_place first (rid - first) rid s is (omega arith) ∙ each_empty places (rid - first) empty,
    λ clear. all_empty places
        (λ k.
        let from : first ≤ first + k = omega arith in
        sym (s.each first k is) ∙ clear (first + k) (subst (λ o. IsOpen o (first + k)) (sym is ∙ s.next_is) from)),
  )

  -- nothing stands where no id is left
  pub clear_past : Holds next places plain → next ≡ None → IsClear plain
  clear_past s is = λ rid open_. absurd (subst (λ o. IsOpen o rid) (sym s.next_is ∙ is) open_)

some_left : (next : Option ℕ) → is_some next ≡ true → (first : ℕ) × (next ≡ Some first)
some_left None e = absurd (cc)
some_left (Some first) e = (first, refl)

pub no_left : (next : Option ℕ) → is_some next ≡ false → next ≡ None
no_left None e = refl
no_left (Some first) e = absurd (cc)

module _ {T : Type 0} {next : Option ℕ} {places : List (Option T)} {plain : PlainWindow T} where
  pub first_is : is_some next ≡ true → Holds next places plain → get_or places 0 None ≡ first_item plain
  first_is left s = let first = some_left next left in first_at first.0 s first.1

  -- where an id is left, the places are empty exactly where nothing stands
  pub clear_is : is_some next ≡ true → Holds next places plain → IsTrue (list_all is_none places) ↔ IsClear plain
  clear_is left s = let first = some_left next left in clear_at first.0 s first.1
