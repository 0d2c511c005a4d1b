-- What is noted of open wires stays so when what is owed on one changes.
use Rattle.std.proofs.Common.{◌≡◌, ◌≢◌, ℕ, ◌+◌, ◌-◌, ◌==◌, ◌≤◌, ◌<◌, Bool, true, false, not, is_some, List, [], ◌∷◌, ◌++◌, length, take, drop, Option, Some, None, refl, sym, subst, ap, ◌∙◌, arith, true≢false, ne_eqb, if◌then◌else◌, sum_by, filter, slice_index_or}
use Rattle.std.specs.Prelude.{All, IsSome, ◌||◌}
use Rattle.std.specs.List.{count_by, list_any}
use Rattle.std.specs.BTreeMap.{BTreeMap}
use Rattle.std.proofs.lemmas.List.{length-append}
use Rattle.std.proofs.lemmas.Bool.{eqb-true, eqb-false, eq-eqb}
use Rattle.std.proofs.lemmas.List.Elements.{All-filter, All-append, All-push, All-weaker, filter_passes}
use Rattle.std.proofs.lemmas.List.Filters.{length-filter_both}
use Rattle.std.proofs.lemmas.List.Folds.{list_any-append}
use Rattle.std.proofs.lemmas.List.Sums.{sum_by-append, sum_by-cons, sum_by_push, length-filter, count_by-le-length}
use Rattle.std.proofs.lemmas.Map.Views.{any-filter_same}
use Rattle.bosh_types.specs.Limits.{most_waiting, waiting_bytes}
use Rattle.xmpp_backend.specs.Told.{has_wire, with_wire, without_wire}
use Rattle.xmpp_backend.specs.Dues.{Due, Dues, IsSound, bytes_left, bytes_of, bytes_on, has_room, held_by, hold_of, is_on, items_left, place_on}
use Rattle.xmpp_backend.specs.declared.hold.Place.{Place}
use Rattle.xmpp_backend.specs.declared.hold.Place.TheVariants as places
use Rattle.xmpp_backend.specs.declared.hold.Hold.{Hold}

-- ---- sums over what a filter keeps

module _ {X : Type 0} (f : X → ℕ) (p : X → Bool) where
  sum_none : ((x : X) → p x ≡ true → f x ≡ 0) → (xs : List X) → sum_by f (filter p xs) ≡ 0
  sum_none nothing [] = refl
  sum_none nothing (x ∷ xs) =
      let rest : sum_by f (filter p xs) ≡ 0 = sum_none nothing xs in
      elim (p x) as (λ b. p x ≡ b → sum_by f (if b then x ∷ filter p xs else filter p xs) ≡ 0) [
        | true ↦ λ is. let here : f x ≡ 0 = nothing x is in let sum : sum_by f (x ∷ filter p xs) ≡ f x + sum_by f (filter p xs) = sum_by-cons f x (filter p xs) in omega arith
        | false ↦ λ is. rest
      ] refl

  sum_same : ((x : X) → p x ≡ false → f x ≡ 0) → (xs : List X) → sum_by f (filter p xs) ≡ sum_by f xs
  sum_same nothing [] = refl
  sum_same nothing (x ∷ xs) =
      let rest : sum_by f (filter p xs) ≡ sum_by f xs = sum_same nothing xs in
      let whole : sum_by f (x ∷ xs) ≡ f x + sum_by f xs = sum_by-cons f x xs in
      elim (p x) as (λ b. p x ≡ b → sum_by f (if b then x ∷ filter p xs else filter p xs) ≡ sum_by f (x ∷ xs)) [
        | true ↦ λ is. let sum : sum_by f (x ∷ filter p xs) ≡ f x + sum_by f (filter p xs) = sum_by-cons f x (filter p xs) in omega arith
        | false ↦ λ is. let here : f x ≡ 0 = nothing x is in omega arith
      ] refl

pub shorter : (p : Due → Bool) (xs : List Due) → length (filter p xs) ≤ length xs
shorter p xs =
    let count : length (filter p xs) ≡ count_by p xs = length-filter p xs in
    let less : count_by p xs ≤ length xs = count_by-le-length p xs in
    omega arith

pub both_parts : (v : ℕ) (xs : List Due) → length (filter (is_on v) xs) + length (filter (λ due. not (is_on v due)) xs) ≡ length xs
both_parts v xs = length-filter_both (is_on v) (λ due. not (is_on v due)) (λ due. refl) xs

pub moved : (v : ℕ) (to from : List Due) → length (to ++ filter (is_on v) from) + length (filter (λ due. not (is_on v due)) from) ≡ length to + length from
moved v to from =
    let sum : length (to ++ filter (is_on v) from) ≡ length to + length (filter (is_on v) from) = length-append to (filter (is_on v) from) in
    let both : length (filter (is_on v) from) + length (filter (λ (due : Due). not (is_on v due)) from) ≡ length from = both_parts v from in
    omega arith

-- ---- what is on one wire isn't on another

off : (w v : ℕ) → w ≢ v → (due : Due) → is_on v due ≡ true → is_on w due ≡ false
off w v apart due is = ne_eqb due.0 w (λ e. apart (sym e ∙ eqb-true due.0 v is))

abbrev one_if : Bool → ℕ
one_if b = if b then 1 else 0

abbrev item_on : ℕ → Due → ℕ
item_on w due = one_if (is_on w due)

off_item : (w v : ℕ) → w ≢ v → (due : Due) → is_on v due ≡ true → item_on w due ≡ 0
off_item w v apart due is = ap one_if (off w v apart due is)

off_bytes : (w v : ℕ) → w ≢ v → (due : Due) → is_on v due ≡ true → bytes_on w due ≡ 0
off_bytes w v apart due is = ap (λ (b : Bool). if b then bytes_of due.1 else 0) (off w v apart due is)

not_true : (b : Bool) → not b ≡ false → b ≡ true
not_true true is = refl
not_true false is = absurd (true≢false is)

no_more : (f : Due → ℕ) (most : ℕ) (xs ys : List Due) → sum_by f ys ≡ 0 → most - sum_by f (xs ++ ys) ≡ most - sum_by f xs
no_more f most xs ys none =
    let sum : sum_by f (xs ++ ys) ≡ sum_by f xs + sum_by f ys = sum_by-append f xs ys in
    let same : sum_by f (xs ++ ys) ≡ sum_by f xs = omega arith in
    ap (λ n. most - n) same

no_more_one : (f : Due → ℕ) (most : ℕ) (xs : List Due) (x : Due) → f x ≡ 0 → most - sum_by f (xs ++ x ∷ []) ≡ most - sum_by f xs
no_more_one f most xs x none =
    let sum : sum_by f (xs ++ x ∷ []) ≡ sum_by f xs + f x = sum_by_push f xs x in
    let same : sum_by f (xs ++ x ∷ []) ≡ sum_by f xs = omega arith in
    ap (λ n. most - n) same

pub items_behind : (w v : ℕ) → w ≢ v → (kept owed : List Due) → items_left w (kept ++ filter (is_on v) owed) ≡ items_left w kept
items_behind w v apart kept owed =
    no_more (item_on w) most_waiting kept (filter (is_on v) owed)
    (sum_none (item_on w) (is_on v) (off_item w v apart) owed)

pub bytes_behind : (w v : ℕ) → w ≢ v → (kept owed : List Due) → bytes_left w (kept ++ filter (is_on v) owed) ≡ bytes_left w kept
bytes_behind w v apart kept owed =
    no_more (bytes_on w) waiting_bytes kept (filter (is_on v) owed) (sum_none (bytes_on w) (is_on v) (off_bytes w v apart) owed)

pub items_apart : (w v : ℕ) → w ≢ v → (kept : List Due) → items_left w (filter (λ due. not (is_on v due)) kept) ≡ items_left w kept
items_apart w v apart kept =
    ap (λ n. most_waiting - n)
    (sum_same (item_on w) (λ due. not (is_on v due)) (λ due is. off_item w v apart due (not_true (is_on v due) is)) kept)

pub bytes_apart : (w v : ℕ) → w ≢ v → (kept : List Due) → bytes_left w (filter (λ due. not (is_on v due)) kept) ≡ bytes_left w kept
bytes_apart w v apart kept =
    ap (λ n. waiting_bytes - n) (sum_same (bytes_on w) (λ due. not (is_on v due)) (λ due is. off_bytes w v apart due (not_true (is_on v due) is)) kept)

same_wire : (v : ℕ) → (v == v) ≡ true
same_wire v = eq-eqb v v refl

-- one more is kept for a wire, and for another
pub items_one : (v : ℕ) (due : Due) → due.0 ≡ v → (kept : List Due) → items_left v (kept ++ due ∷ []) ≡ items_left v kept - 1
items_one v due is kept =
    let one : item_on v due ≡ 1 = ap one_if (ap (λ n. n == v) is ∙ same_wire v) in
    let more : sum_by (item_on v) (kept ++ due ∷ []) ≡ sum_by (item_on v) kept + 1 = sum_by_push (item_on v) kept due ∙ ap (λ n. sum_by (item_on v) kept + n) one in
    ap (λ n. most_waiting - n) more ∙ minus most_waiting (sum_by (item_on v) kept) 1
  where
    minus : (a b c : ℕ) → a - (b + c) ≡ a - b - c
    minus a b c = omega arith

pub bytes_one : (v : ℕ) (due : Due) → due.0 ≡ v → (kept : List Due) → bytes_left v (kept ++ due ∷ []) ≡ bytes_left v kept - bytes_of due.1
bytes_one v due is kept =
    let some : bytes_on v due ≡ bytes_of due.1 = ap (λ (b : Bool). if b then bytes_of due.1 else 0) (ap (λ n. n == v) is ∙ same_wire v) in
    ap (λ n. waiting_bytes - n) (sum_by_push (bytes_on v) kept due ∙ ap (λ n. sum_by (bytes_on v) kept + n) some) ∙ minus waiting_bytes (sum_by (bytes_on v) kept) (bytes_of due.1)
  where
    minus : (a b c : ℕ) → a - (b + c) ≡ a - b - c
    minus a b c = omega arith

pub items_other : (w v : ℕ) → w ≢ v → (due : Due) → due.0 ≡ v → (kept : List Due) → items_left w (kept ++ due ∷ []) ≡ items_left w kept
items_other w v apart due is kept =
    no_more_one (item_on w) most_waiting kept due (off_item w v apart due (eq-eqb due.0 v is))

pub bytes_other : (w v : ℕ) → w ≢ v → (due : Due) → due.0 ≡ v → (kept : List Due) → bytes_left w (kept ++ due ∷ []) ≡ bytes_left w kept
bytes_other w v apart due is kept = no_more_one (bytes_on w) waiting_bytes kept due (off_bytes w v apart due (eq-eqb due.0 v is))

-- ---- wires

pub with_other : (w v : ℕ) → w ≢ v → (xs : List ℕ) → has_wire w (with_wire v xs) ≡ has_wire w xs
with_other w v apart xs =
    elim (has_wire v xs) as (λ b. has_wire w (if b then xs else xs ++ v ∷ []) ≡ has_wire w xs) [
      | true ↦ refl
      | false ↦ list_any-append (λ other. other == w) xs (v ∷ []) ∙ none (has_wire w xs) (v == w) (ne_eqb v w (λ e. apart (sym e)))
    ]
  where
    none : (a b : Bool) → b ≡ false → (a || (b || false)) ≡ a
    none true b is = refl
    none false true is = absurd (true≢false is)
    none false false is = refl

pub with_same : (v : ℕ) (xs : List ℕ) → has_wire v (with_wire v xs) ≡ true
with_same v xs =
    elim (has_wire v xs) as (λ b. has_wire v xs ≡ b → has_wire v (if b then xs else xs ++ v ∷ []) ≡ true) [
      | true ↦ λ is. is
      | false ↦ λ is. list_any-append (λ other. other == v) xs (v ∷ []) ∙ last (has_wire v xs) (v == v) (same_wire v)
    ] refl
  where
    last : (a b : Bool) → b ≡ true → (a || (b || false)) ≡ true
    last true b is = refl
    last false true is = refl
    last false false is = absurd (true≢false (sym is))

pub without_other : (w v : ℕ) → w ≢ v → (xs : List ℕ) → has_wire w (without_wire v xs) ≡ has_wire w xs
without_other w v apart xs =
    any-filter_same (λ other. other == w) (λ other. not (other == v)) true (λ k is. ap not (ne_eqb k v (λ e. apart (sym (eqb-true k w is) ∙ e)))) xs

pub without_same : (v : ℕ) (xs : List ℕ) → has_wire v (without_wire v xs) ≡ false
without_same v xs = any-filter_same (λ other. other == v) (λ other. not (other == v)) false (λ k is. ap not is) xs

pub held_push : (held : List ℕ) (entries : List (ℕ × Bool)) (wire : ℕ) (holds : Bool)
    → held_by held (entries ++ (wire, holds) ∷ []) ≡ (if holds then with_wire wire (held_by held entries) else without_wire wire (held_by held entries))
held_push held [] wire holds = refl
held_push held (entry ∷ entries) wire holds = held_push (if entry.1 then with_wire entry.0 held else without_wire entry.0 held) entries wire holds

pub held_less : (entries entries' : List (ℕ × Bool)) (wire : ℕ) → entries' ≡ entries ++ (wire, false) ∷ [] → held_by [] entries' ≡ without_wire wire (held_by [] entries)
held_less entries entries' wire is = ap (held_by []) is ∙ held_push [] entries wire false

pub held_more : (entries entries' : List (ℕ × Bool)) (wire : ℕ) → entries' ≡ entries ++ (wire, true) ∷ [] → held_by [] entries' ≡ with_wire wire (held_by [] entries)
held_more entries entries' wire is = ap (held_by []) is ∙ held_push [] entries wire true

-- ---- what is noted stays so

abbrev pub dues : List ℕ → List ℕ → List Due → List Due → Dues
dues wires held owed kept = record { wires = wires; held = held; owed = owed; kept = kept }

pub dues_same : (wires wires' held held' : List ℕ) (owed owed' kept kept' : List Due) → wires ≡ wires' → held ≡ held' → owed ≡ owed' → kept ≡ kept'
    → dues wires held owed kept ≡ dues wires' held' owed' kept'
dues_same wires wires' held held' owed owed' kept kept' a b c d =
    ap (λ x. dues x held owed kept) a ∙ ap (λ x. dues wires' x owed kept) b ∙ ap (λ x. dues wires' held' x kept) c ∙ ap (λ x. dues wires' held' owed' x) d

by_wire : (v w : ℕ) (P : ℕ → Type 0) → P v → (w ≢ v → P w) → P w
by_wire v w P here there =
    elim (w == v) as (λ b. (w == v) ≡ b → P w) [
      | true ↦ λ is. subst P (sym (eqb-true w v is)) here
      | false ↦ λ is. there (eqb-false w v is)
    ] refl

-- what is noted and owed of other wires stays
pub record OthersAs (v : ℕ) (holds holds' : BTreeMap ℕ Hold) (d d' : Dues) : Type 0 where
  pub noted : (w : ℕ) → w ≢ v → hold_of holds' w ≡ hold_of holds w
  pub wires : (w : ℕ) → w ≢ v → has_wire w d'.wires ≡ has_wire w d.wires
  pub held : (w : ℕ) → w ≢ v → has_wire w d'.held ≡ has_wire w d.held
  pub items : (w : ℕ) → w ≢ v → items_left w d'.kept ≡ items_left w d.kept
  pub bytes : (w : ℕ) → w ≢ v → bytes_left w d'.kept ≡ bytes_left w d.kept

-- what is noted of this one is so
pub record IsNoted (v : ℕ) (noted : Option Hold) (d : Dues) : Type 0 where
  pub tied : is_some noted ≡ has_wire v d.wires
  pub flags : (hold : Hold) → noted ≡ Some hold → hold.held ≡ has_wire v d.held
  pub items : (hold : Hold) → noted ≡ Some hold → hold.held ≡ true → hold.items ≡ items_left v d.kept
  pub bytes : (hold : Hold) → noted ≡ Some hold → hold.held ≡ true → hold.bytes ≡ bytes_left v d.kept

pub sound_after : (v : ℕ) (holds holds' : BTreeMap ℕ Hold) (d d' : Dues) → IsSound holds d → OthersAs v holds holds' d d' → IsNoted v (hold_of holds' v) d'
    → All (λ due. has_wire due.0 d'.held ≡ false) d'.owed → IsSound holds' d'
sound_after v holds holds' d d' sound others noted unheld = record {
  tied = λ w. by_wire v w (λ n. is_some (hold_of holds' n) ≡ has_wire n d'.wires) noted.tied
      (λ apart. ap is_some (others.noted w apart) ∙ sound.tied w ∙ sym (others.wires w apart));
  flags = λ w. by_wire v w (λ n. (hold : Hold) → hold_of holds' n ≡ Some hold → hold.held ≡ has_wire n d'.held) noted.flags
      (λ apart hold is. sound.flags w hold (sym (others.noted w apart) ∙ is) ∙ sym (others.held w apart));
  items = λ w. by_wire v w (λ n. (hold : Hold) → hold_of holds' n ≡ Some hold → hold.held ≡ true → hold.items ≡ items_left n d'.kept) noted.items
      (λ apart hold is holds. sound.items w hold (sym (others.noted w apart) ∙ is) holds ∙ sym (others.items w apart));
  bytes = λ w. by_wire v w (λ n. (hold : Hold) → hold_of holds' n ≡ Some hold → hold.held ≡ true → hold.bytes ≡ bytes_left n d'.kept) noted.bytes
      (λ apart hold is holds. sound.bytes w hold (sym (others.noted w apart) ∙ is) holds ∙ sym (others.bytes w apart));
  unheld = unheld;
}

no_hold : (hold : Hold) → None ≡ Some hold → ⊥
no_hold hold is = true≢false (sym (ap is_some is))

-- nothing is noted of a wire that isn't open
pub noted_none : (v : ℕ) (noted : Option Hold) (d : Dues) → noted ≡ None → has_wire v d.wires ≡ false → IsNoted v noted d
noted_none v noted d none closed = record {
  tied = ap is_some none ∙ sym closed;
  flags = λ hold is. absurd (no_hold hold (sym none ∙ is));
  items = λ hold is. absurd (no_hold hold (sym none ∙ is));
  bytes = λ hold is. absurd (no_hold hold (sym none ∙ is));
}

hold_is : (one other : Hold) → Some one ≡ Some other → one ≡ other
hold_is one other is = cc

-- this is noted of an open one
pub noted_some : (v : ℕ) (noted : Option Hold) (hold : Hold) (d : Dues) → noted ≡ Some hold → has_wire v d.wires ≡ true → hold.held ≡ has_wire v d.held
    → (hold.held ≡ true → hold.items ≡ items_left v d.kept) → (hold.held ≡ true → hold.bytes ≡ bytes_left v d.kept) → IsNoted v noted d
noted_some v noted hold d is opened flag items bytes = record {
  tied = ap is_some is ∙ sym opened;
  flags = λ other so. subst (λ (h : Hold). h.held ≡ has_wire v d.held) (hold_is hold other (sym is ∙ so)) flag;
  items = λ other so. subst (λ (h : Hold). h.held ≡ true → h.items ≡ items_left v d.kept) (hold_is hold other (sym is ∙ so)) items;
  bytes = λ other so. subst (λ (h : Hold). h.held ≡ true → h.bytes ≡ bytes_left v d.kept) (hold_is hold other (sym is ∙ so)) bytes;
}

-- this is noted where the wire is open
pub noted_where : (v : ℕ) (before noted : Option Hold) (hold : Hold) (d : Dues) → (IsSome before → noted ≡ Some hold) → (before ≡ None → noted ≡ None)
    → is_some before ≡ has_wire v d.wires → hold.held ≡ has_wire v d.held
    → (hold.held ≡ true → hold.items ≡ items_left v d.kept) → (hold.held ≡ true → hold.bytes ≡ bytes_left v d.kept) → IsNoted v noted d
noted_where v None noted hold d open_then closed_then tied flag items bytes = noted_none v noted d (closed_then refl) (sym tied)
noted_where v (Some before) noted hold d open_then closed_then tied flag items bytes = noted_some v noted hold d (open_then refl) (sym tied) flag items bytes

abbrev pub Unheld : List ℕ → List Due → Type 0
Unheld held owed = All (λ (due : Due). has_wire due.0 held ≡ false) owed

unheld_without : (v : ℕ) (held : List ℕ) (owed : List Due) → Unheld held owed → Unheld (without_wire v held) owed
unheld_without v held owed all =
    All-weaker (λ (due : Due). has_wire due.0 held ≡ false) (λ (due : Due). has_wire due.0 (without_wire v held) ≡ false)
    (λ due is. by_wire v due.0 (λ n. has_wire n (without_wire v held) ≡ false) (without_same v held) (λ apart. without_other due.0 v apart held ∙ is)) owed all

-- ---- a wire is closed, held or resumed

pub unheld_closed : (v : ℕ) (held : List ℕ) (owed : List Due) → Unheld held owed → Unheld (without_wire v held) (filter (λ due. not (is_on v due)) owed)
unheld_closed v held owed all =
    unheld_without v held (filter (λ due. not (is_on v due)) owed) (All-filter (λ (due : Due). not (is_on v due)) (λ (due : Due). has_wire due.0 held ≡ false) owed all)

pub unheld_resumed : (v : ℕ) (held : List ℕ) (owed kept : List Due) → Unheld held owed → Unheld (without_wire v held) (owed ++ filter (is_on v) kept)
unheld_resumed v held owed kept all =
    All-append (λ (due : Due). has_wire due.0 (without_wire v held) ≡ false) owed (filter (is_on v) kept) (unheld_without v held owed all)
    (All-weaker (λ (due : Due). is_on v due ≡ true) (λ (due : Due). has_wire due.0 (without_wire v held) ≡ false)
    (λ due is. subst (λ n. has_wire n (without_wire v held) ≡ false) (sym (eqb-true due.0 v is)) (without_same v held))
    (filter (is_on v) kept) (filter_passes (is_on v) kept))

pub unheld_held : (v : ℕ) (held : List ℕ) (owed : List Due) → Unheld held owed → Unheld (with_wire v held) (filter (λ due. not (is_on v due)) owed)
unheld_held v held owed all =
    let off_it : All (λ (due : Due). not (is_on v due) ≡ true) (filter (λ due. not (is_on v due)) owed) = filter_passes (λ (due : Due). not (is_on v due)) owed in
    let were : Unheld held (filter (λ due. not (is_on v due)) owed) = All-filter (λ (due : Due). not (is_on v due)) (λ (due : Due). has_wire due.0 held ≡ false) owed all in
    λ k d within. one (slice_index_or (filter (λ due. not (is_on v due)) owed) k d) (off_it k d within) (were k d within)
  where
    one : (due : Due) → not (is_on v due) ≡ true → has_wire due.0 held ≡ false → has_wire due.0 (with_wire v held) ≡ false
    one due apart is = with_other due.0 v (λ e. true≢false (sym apart ∙ ap not (eq-eqb due.0 v e))) held ∙ is

pub others_closed : (v : ℕ) (holds holds' : BTreeMap ℕ Hold) (d : Dues) → ((w : ℕ) → w ≢ v → hold_of holds' w ≡ hold_of holds w)
    → OthersAs v holds holds' d (dues (without_wire v d.wires) (without_wire v d.held) (filter (λ due. not (is_on v due)) d.owed) (filter (λ due. not (is_on v due)) d.kept))
others_closed v holds holds' d same = record {
  noted = same;
  wires = λ w apart. without_other w v apart d.wires;
  held = λ w apart. without_other w v apart d.held;
  items = λ w apart. items_apart w v apart d.kept;
  bytes = λ w apart. bytes_apart w v apart d.kept;
}

pub sound_closed : (v : ℕ) (holds holds' : BTreeMap ℕ Hold) (d : Dues) → IsSound holds d → hold_of holds' v ≡ None → ((w : ℕ) → w ≢ v → hold_of holds' w ≡ hold_of holds w)
    → IsSound holds' (dues (without_wire v d.wires) (without_wire v d.held) (filter (λ due. not (is_on v due)) d.owed) (filter (λ due. not (is_on v due)) d.kept))
sound_closed v holds holds' d sound none same =
    let d' : Dues = dues (without_wire v d.wires) (without_wire v d.held) (filter (λ due. not (is_on v due)) d.owed) (filter (λ due. not (is_on v due)) d.kept) in
    sound_after v holds holds' d d' sound (others_closed v holds holds' d same) (noted_none v (hold_of holds' v) d' none (without_same v d.wires)) (unheld_closed v d.held d.owed sound.unheld)

pub sound_held : (v : ℕ) (holds holds' : BTreeMap ℕ Hold) (d : Dues) (hold : Hold) → IsSound holds d
    → hold.held ≡ true → hold.items ≡ items_left v (d.kept ++ filter (is_on v) d.owed) → hold.bytes ≡ bytes_left v (d.kept ++ filter (is_on v) d.owed)
    → (IsSome (hold_of holds v) → hold_of holds' v ≡ Some hold) → (hold_of holds v ≡ None → hold_of holds' v ≡ None) → ((w : ℕ) → w ≢ v → hold_of holds' w ≡ hold_of holds w)
    → IsSound holds' (dues d.wires (with_wire v d.held) (filter (λ due. not (is_on v due)) d.owed) (d.kept ++ filter (is_on v) d.owed))
sound_held v holds holds' d hold sound flag items bytes open_then closed_then same =
    let d' : Dues = dues d.wires (with_wire v d.held) (filter (λ due. not (is_on v due)) d.owed) (d.kept ++ filter (is_on v) d.owed) in
    sound_after v holds holds' d d' sound (record {
      noted = same;
      wires = λ w apart. refl;
      held = λ w apart. with_other w v apart d.held;
      items = λ w apart. items_behind w v apart d.kept d.owed;
      bytes = λ w apart. bytes_behind w v apart d.kept d.owed;
    })
    (noted_where v (hold_of holds v) (hold_of holds' v) hold d' open_then closed_then (sound.tied v) (flag ∙ sym (with_same v d.held)) (λ is. items) (λ is. bytes))
    (unheld_held v d.held d.owed sound.unheld)

-- the wire is resumed, and maybe opened
resumed_with : (v : ℕ) (holds holds' : BTreeMap ℕ Hold) (d : Dues) (wires : List ℕ) → IsSound holds d
    → ((w : ℕ) → w ≢ v → has_wire w wires ≡ has_wire w d.wires) → ((w : ℕ) → w ≢ v → hold_of holds' w ≡ hold_of holds w)
    → IsNoted v (hold_of holds' v) (dues wires (without_wire v d.held) (d.owed ++ filter (is_on v) d.kept) (filter (λ due. not (is_on v due)) d.kept))
    → IsSound holds' (dues wires (without_wire v d.held) (d.owed ++ filter (is_on v) d.kept) (filter (λ due. not (is_on v due)) d.kept))
resumed_with v holds holds' d wires sound others same noted =
    let d' : Dues = dues wires (without_wire v d.held) (d.owed ++ filter (is_on v) d.kept) (filter (λ due. not (is_on v due)) d.kept) in
    sound_after v holds holds' d d' sound (record {
      noted = same;
      wires = others;
      held = λ w apart. without_other w v apart d.held;
      items = λ w apart. items_apart w v apart d.kept;
      bytes = λ w apart. bytes_apart w v apart d.kept;
    })
    noted (unheld_resumed v d.held d.owed d.kept sound.unheld)

isnt : (b : Bool) → b ≡ false → b ≡ true → ⊥
isnt b unset is = true≢false (sym is ∙ unset)

pub sound_resumed : (v : ℕ) (holds holds' : BTreeMap ℕ Hold) (d : Dues) (hold : Hold) → IsSound holds d → hold.held ≡ false
    → (IsSome (hold_of holds v) → hold_of holds' v ≡ Some hold) → (hold_of holds v ≡ None → hold_of holds' v ≡ None) → ((w : ℕ) → w ≢ v → hold_of holds' w ≡ hold_of holds w)
    → IsSound holds' (dues d.wires (without_wire v d.held) (d.owed ++ filter (is_on v) d.kept) (filter (λ due. not (is_on v due)) d.kept))
sound_resumed v holds holds' d hold sound flag open_then closed_then same =
    resumed_with v holds holds' d d.wires sound (λ w apart. refl) same
    (noted_where v (hold_of holds v) (hold_of holds' v) hold
    (dues d.wires (without_wire v d.held) (d.owed ++ filter (is_on v) d.kept) (filter (λ due. not (is_on v due)) d.kept))
    open_then closed_then (sound.tied v) (flag ∙ sym (without_same v d.held))
    (λ is. absurd (isnt hold.held flag is)) (λ is. absurd (isnt hold.held flag is)))

pub sound_opened : (v : ℕ) (holds holds' : BTreeMap ℕ Hold) (d : Dues) → IsSound holds d → (hold : Hold) × (hold_of holds' v ≡ Some hold) × (hold.held ≡ false)
    → ((w : ℕ) → w ≢ v → hold_of holds' w ≡ hold_of holds w)
    → IsSound holds' (dues (with_wire v d.wires) (without_wire v d.held) (d.owed ++ filter (is_on v) d.kept) (filter (λ due. not (is_on v due)) d.kept))
sound_opened v holds holds' d sound noted same =
    resumed_with v holds holds' d (with_wire v d.wires) sound (λ w apart. with_other w v apart d.wires) same
    (noted_some v (hold_of holds' v) noted.0
    (dues (with_wire v d.wires) (without_wire v d.held) (d.owed ++ filter (is_on v) d.kept) (filter (λ due. not (is_on v due)) d.kept))
    noted.1 (with_same v d.wires) (noted.2 ∙ sym (without_same v d.held))
    (λ is. absurd (isnt noted.0.held noted.2 is)) (λ is. absurd (isnt noted.0.held noted.2 is)))

-- it couldn't be entered, and nothing of what is noted changed
pub sound_still : (v : ℕ) (holds holds' : BTreeMap ℕ Hold) (d : Dues) → IsSound holds d → hold_of holds v ≡ None → hold_of holds' v ≡ None
    → ((w : ℕ) → w ≢ v → hold_of holds' w ≡ hold_of holds w) → IsSound holds' d
sound_still v holds holds' d sound was none same =
    sound_after v holds holds' d d sound (record { noted = same; wires = λ w apart. refl; held = λ w apart. refl; items = λ w apart. refl; bytes = λ w apart. refl })
    (noted_none v (hold_of holds' v) d none (sym (sound.tied v) ∙ ap is_some was)) sound.unheld

some_of : (o : Option Hold) → is_some o ≡ true → (hold : Hold) × (o ≡ Some hold)
some_of (Some hold) is = (hold, refl)
some_of None is = absurd (true≢false (sym is))

-- one more is kept
pub sound_kept : (v bytes : ℕ) (holds holds' : BTreeMap ℕ Hold) (d : Dues) (due : Due) → IsSound holds d → due.0 ≡ v → bytes ≡ bytes_of due.1
    → has_wire v d.wires ≡ true → has_wire v d.held ≡ true
    → ((hold : Hold) → hold_of holds v ≡ Some hold → hold_of holds' v ≡ Some (record hold { items = hold.items - 1; bytes = hold.bytes - bytes }))
    → ((w : ℕ) → w ≢ v → hold_of holds' w ≡ hold_of holds w)
    → IsSound holds' (dues d.wires d.held d.owed (d.kept ++ due ∷ []))
sound_kept v bytes holds holds' d due sound on size opened is_held kept same =
    let was : (hold : Hold) × (hold_of holds v ≡ Some hold) = some_of (hold_of holds v) (sound.tied v ∙ opened) in
    let flag : was.0.held ≡ true = sound.flags v was.0 was.1 ∙ is_held in
    let d' : Dues = dues d.wires d.held d.owed (d.kept ++ due ∷ []) in
    sound_after v holds holds' d d' sound (record {
      noted = same;
      wires = λ w apart. refl;
      held = λ w apart. refl;
      items = λ w apart. items_other w v apart due on d.kept;
      bytes = λ w apart. bytes_other w v apart due on d.kept;
    })
    (noted_some v (hold_of holds' v) (record was.0 { items = was.0.items - 1; bytes = was.0.bytes - bytes }) d' (kept was.0 was.1) opened (flag ∙ sym is_held)
    (λ is. ap (λ n. n - 1) (sound.items v was.0 was.1 flag) ∙ sym (items_one v due on d.kept))
    (λ is. ap (λ n. n - bytes) (sound.bytes v was.0 was.1 flag) ∙ ap (λ n. bytes_left v d.kept - n) size ∙ sym (bytes_one v due on d.kept)))
    sound.unheld

-- the wire is closed as failed, and its end is kept
pub sound_failed : (v : ℕ) (holds holds' : BTreeMap ℕ Hold) (d : Dues) (due : Due) → IsSound holds d → due.0 ≡ v → hold_of holds' v ≡ None
    → ((w : ℕ) → w ≢ v → hold_of holds' w ≡ hold_of holds w)
    → IsSound holds' (dues (without_wire v d.wires) d.held d.owed (d.kept ++ due ∷ []))
sound_failed v holds holds' d due sound on none same =
    let d' : Dues = dues (without_wire v d.wires) d.held d.owed (d.kept ++ due ∷ []) in
    sound_after v holds holds' d d' sound (record {
      noted = same;
      wires = λ w apart. without_other w v apart d.wires;
      held = λ w apart. refl;
      items = λ w apart. items_other w v apart due on d.kept;
      bytes = λ w apart. bytes_other w v apart due on d.kept;
    })
    (noted_none v (hold_of holds' v) d' none (without_same v d.wires)) sound.unheld

pub none_of : (o : Option Hold) → is_some o ≡ false → o ≡ None
none_of None is = refl
none_of (Some hold) is = absurd (true≢false is)

abbrev is_kept : Place → Bool
is_kept places.Nowhere = false
is_kept places.Owed = false
is_kept places.Kept = true
is_kept places.Refused = false

-- where a stanza is kept its wire is open and held
pub kept_place : (wire bytes : ℕ) (d : Dues) → place_on wire bytes d ≡ places.Kept → (has_wire wire d.wires ≡ true) × (has_wire wire d.held ≡ true)
kept_place wire bytes d is = by (has_wire wire d.wires) (has_wire wire d.held) (has_room wire bytes d.kept) is
  where
    by : (opened held room : Bool) → (if opened then (if held then (if room then places.Kept else places.Refused) else places.Owed) else places.Nowhere) ≡ places.Kept
        → (opened ≡ true) × (held ≡ true)
    by true true room is = (refl, refl)
    by true false room is = absurd (true≢false (sym (ap is_kept is)))
    by false held room is = absurd (true≢false (sym (ap is_kept is)))
