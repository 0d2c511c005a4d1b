-- What is on one wire is moved from the front of a queue behind another, and the rest behind its own.
use Rattle.std.proofs.Common.{◌≡◌, ℕ, ◌+◌, ◌<◌, ◌≤◌, ◌==◌, true, false, not, List, [], ◌∷◌, ◌++◌, length, take, drop, filter, get_or, refl, sym, ap, ◌∙◌, arith, if◌then◌else◌}
use Rattle.std.proofs.lemmas.List.{append_assoc, append-nil, drop_more, length-append, length-take-le}
use Rattle.std.proofs.lemmas.List.Elements.{filter_more}
use Rattle.xmpp_backend.specs.Dues.{Due, is_on}
use Rattle.xmpp_backend.proofs.DuesLemmas.{shorter}

first_of : (xs : List Due) (i : ℕ) → i < length xs → Due
first_of [] i less = absurd (omega arith)
first_of (x ∷ xs) i less = x

-- there is room for one more
pub moves_within : (v i room : ℕ) (to xs : List Due) → i < length xs → length to + length xs ≤ room → length (to ++ filter (is_on v) (take i xs)) < room
moves_within v i room to xs less within =
    let sum : length (to ++ filter (is_on v) (take i xs)) ≡ length to + length (filter (is_on v) (take i xs)) = length-append to (filter (is_on v) (take i xs)) in
    let few : length (filter (is_on v) (take i xs)) ≤ length (take i xs) = shorter (is_on v) (take i xs) in
    let taken : length (take i xs) ≡ i = length-take-le i xs (omega arith) in
    omega arith

abbrev rest_off : ℕ → List Due → List Due
rest_off v xs = filter (λ due. not (is_on v due)) xs

pub moves_next : (v i : ℕ) (xs to from now from' now' : List Due) → i < length xs
    → from ≡ drop i xs ++ filter (λ due. not (is_on v due)) (take i xs) → now ≡ to ++ filter (is_on v) (take i xs)
    → ((due : Due) (rest : List Due) → from ≡ due ∷ rest → is_on v due ≡ true → (from' ≡ rest) × (now' ≡ now ++ due ∷ []))
    → ((due : Due) (rest : List Due) → from ≡ due ∷ rest → is_on v due ≡ false → (from' ≡ rest ++ due ∷ []) × (now' ≡ now))
    → (from' ≡ drop (i + 1) xs ++ filter (λ due. not (is_on v due)) (take (i + 1) xs)) × (now' ≡ to ++ filter (is_on v) (take (i + 1) xs))
moves_next v i xs to from now from' now' less was had on off =
    let d : Due = first_of xs i less in
    let x : Due = get_or xs i d in
    let rest : List Due = drop (i + 1) xs ++ rest_off v (take i xs) in
    let is : from ≡ x ∷ rest = was ∙ ap (λ ys. ys ++ rest_off v (take i xs)) (drop_more xs i d less) in
    let more : filter (is_on v) (take (i + 1) xs) ≡ filter (is_on v) (take i xs) ++ (if is_on v x then x ∷ [] else []) = filter_more (is_on v) xs i d less in
    let others : rest_off v (take (i + 1) xs) ≡ rest_off v (take i xs) ++ (if not (is_on v x) then x ∷ [] else []) = filter_more (λ due. not (is_on v due)) xs i d less in
    elim (is_on v x) as (λ b. is_on v x ≡ b → filter (is_on v) (take (i + 1) xs) ≡ filter (is_on v) (take i xs) ++ (if b then x ∷ [] else [])
    → rest_off v (take (i + 1) xs) ≡ rest_off v (take i xs) ++ (if not b then x ∷ [] else [])
    → (from' ≡ drop (i + 1) xs ++ rest_off v (take (i + 1) xs)) × (now' ≡ to ++ filter (is_on v) (take (i + 1) xs))) [
      | true ↦ λ so more others.
          let moved = on x rest is so in (
            moved.0 ∙ ap (λ ys. drop (i + 1) xs ++ ys) (sym (others ∙ append-nil (rest_off v (take i xs)))),
            moved.1 ∙ ap (λ ys. ys ++ x ∷ []) had ∙ append_assoc to (filter (is_on v) (take i xs)) (x ∷ []) ∙ ap (λ ys. to ++ ys) (sym more),
          )
      | false ↦ λ so more others.
          let moved = off x rest is so in (
            moved.0 ∙ append_assoc (drop (i + 1) xs) (rest_off v (take i xs)) (x ∷ []) ∙ ap (λ ys. drop (i + 1) xs ++ ys) (sym others),
            moved.1 ∙ had ∙ ap (λ ys. to ++ ys) (sym (more ∙ append-nil (filter (is_on v) (take i xs)))),
          )
    ] refl more others
