-- How what is told changes.
use Rattle.std.proofs.Common.{◌≡◌, ◌∙◌, ℕ, List, [], ◌∷◌, ◌++◌, map, ap}
use Rattle.std.proofs.lemmas.List.{map-append}
use Rattle.bosh_types.specs.declared.inward.Inward.{Inward}
use Rattle.xmpp_backend.specs.Told.{Told}
use Rattle.xmpp_backend.specs.declared.backend.Given.{Given}

-- one wire more
pub one_more : (items items' : List (ℕ × ℕ)) (wire : ℕ) → items' ≡ items ++ (wire, wire) ∷ [] → map (λ (e : ℕ × ℕ). e.0) items' ≡ map (λ (e : ℕ × ℕ). e.0) items ++ wire ∷ []
one_more items items' wire is = ap (map (λ (e : ℕ × ℕ). e.0)) is ∙ map-append (λ (e : ℕ × ℕ). e.0) items ((wire, wire) ∷ [])

abbrev all_told : List (ℕ × List ℕ) → List (ℕ × Inward) → List (ℕ × Given) → List ℕ → List ℕ → Told
all_told opened passed given closed held = record { opened = opened; passed = passed; given = given; closed = closed; held = held }

-- the same lists
pub told_same : (o o' : List (ℕ × List ℕ)) (p : List (ℕ × Inward)) (g : List (ℕ × Given)) (c c' h h' : List ℕ) → o ≡ o' → c ≡ c' → h ≡ h' → all_told o p g c h ≡ all_told o' p g c' h'
told_same o o' p g c c' h h' e f k =
    ap (λ (x : List (ℕ × List ℕ)). all_told x p g c h) e ∙ ap (λ (x : List ℕ). all_told o' p g x h) f ∙ ap (λ (x : List ℕ). all_told o' p g c' x) k
