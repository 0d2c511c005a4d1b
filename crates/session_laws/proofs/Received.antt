-- What was received, of what came to the places of ids one after the other.
use Rattle.std.proofs.Common.{◌≡◌, ◌≢◌, ℕ, ◌<◌, List, [], ◌∷◌, ◌++◌, map, length, All, Some, get_or, refl, sym, ◌∙◌, ap, ap₂, arith, subst, append_assoc, length-append, ◌⊎◌, inl, inr}
use Rattle.std.proofs.lemmas.List.{get_or_at}
use Rattle.std.proofs.lemmas.List.Elements.{All-nil, All-pop, All-push}
use Rattle.session_core.specs.declared.copy.RequestCopy.{RequestCopy}
use Rattle.session_core.specs.Copy.{id_of}
use Rattle.session_core.specs.Run.{IsReceived, Lacks, id_in}
use Rattle.session_core.specs.State.{Placing, Stands, Strikes}

module _ {X : Type 0} where
  tail_is : (x y : X) (xs ys : List X) → x ∷ xs ≡ y ∷ ys → xs ≡ ys
  tail_is x y xs ys same = cc

  head_is : (x y : X) (xs ys : List X) → x ∷ xs ≡ y ∷ ys → x ≡ y
  head_is x y xs ys same = cc

  none_is : (before after : List X) (y : X) → [] ≡ before ++ y ∷ after → ⊥
  none_is before after y same = absurd (omega (arith, ap length same, length-append before (y ∷ after)))

  -- an element of a list with one more is that one, or one of those before it
  pub split_push : (before after xs : List X) (y x : X) → xs ++ x ∷ [] ≡ before ++ y ∷ after
      → ((before ≡ xs) × (y ≡ x) × (after ≡ [])) ⊎ ((rest : List X) × (after ≡ rest ++ x ∷ []) × (xs ≡ before ++ y ∷ rest))
  split_push [] after [] y x same = inl (refl, sym (head_is x y [] after same), sym (tail_is x y [] after same))
  split_push [] after (z ∷ xs) y x same =
      inr (xs, sym (tail_is z y (xs ++ x ∷ []) after same), ap (λ w. w ∷ xs) (head_is z y (xs ++ x ∷ []) after same))
  split_push (b ∷ before) after [] y x same = absurd (none_is before after y (tail_is x b [] (before ++ y ∷ after) same))
  split_push (b ∷ before) after (z ∷ xs) y x same =
      let first : z ≡ b = head_is z b (xs ++ x ∷ []) (before ++ y ∷ after) same in
      elim (split_push before after xs y x (tail_is z b (xs ++ x ∷ []) (before ++ y ∷ after) same)) [
        | inl last ↦ inl (ap₂ (λ w l. w ∷ l) (sym first) last.0, last.1, last.2)
        | inr earlier ↦ inr (earlier.0, earlier.1, ap₂ (λ w l. w ∷ l) first earlier.2)
      ]

pub same_copy : (one other : RequestCopy) → Stands one ≡ Stands other → one ≡ other
same_copy one other same = cc

pub no_strike : (copy : RequestCopy) (rid moment : ℕ) → Stands copy ≡ Strikes rid moment → ⊥
no_strike copy rid moment same = cc

-- what comes to another id changes nothing of what was received with this one
pub received_more : (placings : List Placing) (placing : Placing) (rid : ℕ) (copy : RequestCopy) → id_in placing ≢ rid → IsReceived placings rid copy → IsReceived (placings ++ placing ∷ []) rid copy
received_more placings placing rid copy other r = (
  r.0,
  r.1,
  r.2 ++ placing ∷ [],
  ap (λ l. l ++ placing ∷ []) r.3 ∙ append_assoc r.1 (Stands copy ∷ r.2) (placing ∷ []),
  All-push (λ p. id_in p ≢ rid) r.2 placing r.4 other,
)

-- what was received with one placing more was received before, or came just now
pub received_push : (placings : List Placing) (placing : Placing) (rid : ℕ) (copy : RequestCopy) → IsReceived (placings ++ placing ∷ []) rid copy
    → (Stands copy ≡ placing) ⊎ (IsReceived placings rid copy × (id_in placing ≢ rid))
received_push placings placing rid copy r = elim (split_push r.1 r.2 placings (Stands copy) placing r.3) [
  | inl last ↦ inl last.1
  | inr earlier ↦
      let rest = All-pop (λ p. id_in p ≢ rid) r.2 earlier.0 (Some placing) earlier.1 r.4 in
      inr ((r.0, r.1, earlier.0, earlier.2, rest.0), rest.1)
]

-- the copy that comes last is received
pub received_last : (placings : List Placing) (copy : RequestCopy) → IsReceived (placings ++ Stands copy ∷ []) (id_of copy) copy
received_last placings copy = (refl, placings, [], refl, All-nil (λ p. id_in p ≢ id_of copy))

-- no strike brings a copy
pub received_strike : (placings : List Placing) (rid moment other : ℕ) (copy : RequestCopy) → IsReceived (placings ++ Strikes rid moment ∷ []) other copy → IsReceived placings other copy × (rid ≢ other)
received_strike placings rid moment other copy r = elim (received_push placings (Strikes rid moment) other copy r) [
  | inl same ↦ absurd (no_strike copy rid moment same)
  | inr earlier ↦ earlier
]

pub received_strikes : (rids : List ℕ) (moment : ℕ) (placings : List Placing) (other : ℕ) (copy : RequestCopy)
    → IsReceived (placings ++ map (λ rid. Strikes rid moment) rids) other copy → IsReceived placings other copy
received_strikes [] moment placings other copy r = subst (λ l. IsReceived l other copy) (append_none placings) r
  where
    append_none : (xs : List Placing) → xs ++ [] ≡ xs
    append_none [] = refl
    append_none (x ∷ xs) = ap (λ rest. x ∷ rest) (append_none xs)
received_strikes (rid ∷ rids) moment placings other copy r =
    (received_strike placings rid moment other copy
    (received_strikes rids moment (placings ++ Strikes rid moment ∷ []) other copy
    (subst (λ l. IsReceived l other copy) (sym (append_assoc placings (Strikes rid moment ∷ []) (map (λ r. Strikes r moment) rids))) r))).0

-- what an id lacks it lacks after strikes
pub lacks_strikes : (rids : List ℕ) (moment : ℕ) (placings : List Placing) (rid : ℕ) → Lacks placings rid → Lacks (placings ++ map (λ rid. Strikes rid moment) rids) rid
lacks_strikes rids moment placings rid none copy r = none copy (received_strikes rids moment placings rid copy r)

-- The creation comes first.

pub received_after : (first : Placing) (placings : List Placing) (rid : ℕ) (copy : RequestCopy) → IsReceived placings rid copy → IsReceived (first ∷ placings) rid copy
received_after first placings rid copy r = (r.0, first ∷ r.1, r.2, ap (λ l. first ∷ l) r.3, r.4)

pub received_later : (creation : RequestCopy) (placings : List Placing) (rid : ℕ) (copy : RequestCopy) → id_of creation ≢ rid → IsReceived (Stands creation ∷ placings) rid copy → IsReceived placings rid copy
received_later creation placings rid copy other r = by r.1 r.3
  where
    by : (before : List Placing) → Stands creation ∷ placings ≡ before ++ Stands copy ∷ r.2 → IsReceived placings rid copy
    by [] same = absurd (other (ap id_of (same_copy creation copy (head_is (Stands creation) (Stands copy) placings r.2 same)) ∙ r.0))
    by (first ∷ before) same = (r.0, before, r.2, tail_is (Stands creation) first placings (before ++ Stands copy ∷ r.2) same, r.4)

pub received_first : (creation : RequestCopy) (placings : List Placing) → All (λ p. id_of creation < id_in p) placings → IsReceived (Stands creation ∷ placings) (id_of creation) creation
received_first creation placings later = (refl, [], placings, refl, (λ k d within same. absurd (omega (arith, later k d within, same))))

-- what is said of all is said of each
pub all_at : {X : Type 0} (P : X → Type 0) (before later all : List X) (x : X) → all ≡ before ++ x ∷ later → All P all → P x
all_at P before later all x split every =
    let within : length before < length all = omega (arith, ap length split, length-append before (x ∷ later)) in
    let here : get_or all (length before) x ≡ x = ap (λ l. get_or l (length before) x) split ∙ get_or_at before x later x (length before) refl in
    subst P here (every (length before) x within)

-- at most one copy is received with an id
pub one_received : (placings : List Placing) (rid : ℕ) (copy other : RequestCopy) → IsReceived placings rid copy → IsReceived placings rid other → copy ≡ other
one_received placings rid copy other r q = which_first r.1 q.1 (sym r.3 ∙ q.3)
  where
    which_first : (before before' : List Placing) → before ++ Stands copy ∷ r.2 ≡ before' ++ Stands other ∷ q.2 → copy ≡ other
    which_first [] [] same = same_copy copy other (head_is (Stands copy) (Stands other) r.2 q.2 same)
    which_first [] (x ∷ before') same =
        absurd (all_at (λ p. id_in p ≢ rid) before' q.2 r.2 (Stands other) (tail_is (Stands copy) x r.2 (before' ++ Stands other ∷ q.2) same) r.4 q.0)
    which_first (x ∷ before) [] same =
        absurd (all_at (λ p. id_in p ≢ rid) before r.2 q.2 (Stands copy) (sym (tail_is x (Stands other) (before ++ Stands copy ∷ r.2) q.2 same)) q.4 r.0)
    which_first (x ∷ before) (y ∷ before') same = which_first before before' (tail_is x y (before ++ Stands copy ∷ r.2) (before' ++ Stands other ∷ q.2) same)

-- what stood somewhere among these placings
pub stood_push : (placings : List Placing) (placing : Placing) (before after : List Placing) (copy : RequestCopy) → placings ++ placing ∷ [] ≡ before ++ Stands copy ∷ after
    → (Stands copy ≡ placing) ⊎ ((rest : List Placing) × (placings ≡ before ++ Stands copy ∷ rest))
stood_push placings placing before after copy same = elim (split_push before after placings (Stands copy) placing same) [
  | inl last ↦ inl last.1
  | inr earlier ↦ inr (earlier.0, earlier.2)
]
