-- There is one longest run.
use Rattle.std.proofs.Common.{◌≡◌, ℕ, suc, ◌+◌, ◌<◌, List, [], ◌∷◌, Some, length, slice_get, refl, ap, ◌∙◌, arith, inl, inr}
use Rattle.std.proofs.lemmas.Bool.{cases_lt}
use Rattle.session_core.specs.declared.copy.RequestCopy.{RequestCopy}
use Rattle.session_core.specs.Run.{IsRun, Lacks, IsLongestRun}
use Rattle.session_core.specs.State.{Placing}
use Rattle.session_laws.proofs.Lists.{get_some}
use Rattle.session_laws.proofs.Received.{one_received}

-- lists with the same elements
pub same_elements : {X : Type 0} (xs ys : List X) → length xs ≡ length ys → ((k : ℕ) (x y : X) → slice_get xs k ≡ Some x → slice_get ys k ≡ Some y → x ≡ y) → xs ≡ ys
same_elements [] [] count each = refl
same_elements [] (y ∷ ys) count each = absurd (omega arith)
same_elements (x ∷ xs) [] count each = absurd (omega arith)
same_elements (x ∷ xs) (y ∷ ys) count each =
    ap (λ z. z ∷ xs) (each 0 x y refl refl) ∙ ap (λ l. y ∷ l) (same_elements xs ys (omega arith) (λ k a b at also. each (suc k) a b at also))

no_longer : (first : ℕ) (placings : List Placing) (run other : List RequestCopy) → Lacks placings (first + length run) → IsRun first placings other → length run < length other → ⊥
no_longer first placings run other none each longer =
    let c = get_some other (length run) longer in
    none c.0 (each (length run) c.0 c.1)

pub longest_run-one : (first : ℕ) (placings : List Placing) (run other : List RequestCopy) → IsLongestRun first placings run → IsLongestRun first placings other → run ≡ other
longest_run-one first placings run other longest also =
    let count : length run ≡ length other = elim (cases_lt (length run) (length other)) [
      | inl shorter ↦ absurd (no_longer first placings run other longest.ends also.each shorter)
      | inr within ↦ elim (cases_lt (length other) (length run)) [
        | inl longer ↦ absurd (no_longer first placings other run also.ends longest.each longer)
        | inr other_within ↦ omega arith
      ]
    ] in
    same_elements run other count (λ k x y at there. one_received placings (first + k) x y (longest.each k x at) (also.each k y there))
