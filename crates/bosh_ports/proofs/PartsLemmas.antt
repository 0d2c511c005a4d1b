-- Giving some parts one after the other.
use Rattle.std.proofs.Common.{◌≡◌, ◌<◌, ℕ, ◌+◌, List, [], ◌∷◌, ◌++◌, Option, map, take, drop, length, get_or, sym, ◌∙◌, ap, append_assoc, append-nil, Result, Ok, Err, IsErr, true≢false}
use Rattle.std.specs.List.{concat}
use Rattle.std.proofs.lemmas.List.{take-append-drop, take_more, map-append}
use Rattle.std.proofs.lemmas.List.Folds.{concat-append}
use Rattle.std.proofs.KnownBytes.{Appends-trans}
use Rattle.std.specs.Io.KnownBytes.{Appends}
use Rattle.bosh_ports.specs.Sink.{AppendsFront, GivesAll}

-- the bytes of some parts
abbrev pub joined : {X : Type 0} → (X → List ℕ) → List X → List ℕ
joined bytes parts = concat (map bytes parts)

-- one more part
pub joined_more : {X : Type 0} → (bytes : X → List ℕ) (parts : List X) (i : ℕ) (none : X) → i < length parts → joined bytes (take (i + 1) parts) ≡ joined bytes (take i parts) ++ bytes (get_or parts i none)
joined_more bytes parts i none in_range =
    ap (joined bytes) (take_more parts i none in_range)
    ∙ ap concat (map-append bytes (take i parts) (get_or parts i none ∷ []))
    ∙ concat-append (map bytes (take i parts)) (bytes (get_or parts i none) ∷ [])
    ∙ ap (λ l. joined bytes (take i parts) ++ l) (append-nil (bytes (get_or parts i none)))

-- the first parts, and then the others
pub joined_split : {X : Type 0} → (bytes : X → List ℕ) (parts : List X) (n : ℕ) → joined bytes parts ≡ joined bytes (take n parts) ++ joined bytes (drop n parts)
joined_split bytes parts n =
    ap (joined bytes) (sym (take-append-drop n parts))
    ∙ ap concat (map-append bytes (take n parts) (drop n parts))
    ∙ concat-append (map bytes (take n parts)) (map bytes (drop n parts))

-- a front of a part after all the parts before it
pub front_of_parts : (old mid new : Option (List ℕ)) (whole before part others : List ℕ) → Appends old mid before → AppendsFront mid new part → whole ≡ (before ++ part) ++ others → AppendsFront old new whole
front_of_parts old mid new whole before part others has (front, rest, is, gave) is_whole = (
  before ++ front,
  rest ++ others,
  is_whole ∙ ap (λ p. (before ++ p) ++ others) is ∙ ap (λ l. l ++ others) (sym (append_assoc before front rest)) ∙ append_assoc (before ++ front) rest others,
  Appends-trans old mid new before front has gave,
)

-- the call failed
pub gives_fault : {T E : Type 0} → (result : Result T E) (old new : Option (List ℕ)) (bytes : List ℕ) → IsErr result → AppendsFront old new bytes → GivesAll result old new bytes
gives_fault (Ok x) old new bytes failed front = absurd (true≢false (sym failed))
gives_fault (Err e) old new bytes failed front = front
