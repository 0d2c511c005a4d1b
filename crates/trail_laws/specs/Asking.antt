-- How often a connection asked the directory.
use Rattle.std.specs.Prelude.{◌≡◌, ◌≤◌, ℕ, true, Bool, List, [], ◌∷◌, ◌++◌, filter, length, map, Option, Some}
use Rattle.std.specs.List.{filter_map}
use Rattle.parked_gate.specs.Passes.{Known}
use Rattle.session_table.specs.declared.entry.Entry.{Entry}
use Rattle.serve_loop.specs.declared.trail.Traced.{Traced}
use Rattle.trail_laws.specs.Told.{is_of_directory, seen_for}

-- the first is what is left of the second where items are left out
pub data IsLeftOf {A : Type 0} : List A → List A → Type 0 where
  left_none : IsLeftOf [] []
  left_in : {x : A} {xs ys : List A} → IsLeftOf xs ys → IsLeftOf (x ∷ xs) (x ∷ ys)
  left_out : {y : A} {xs ys : List A} → IsLeftOf xs ys → IsLeftOf xs (y ∷ ys)

-- it is true of each of these
abbrev pub Every : {A : Type 0} → (A → Type 0) → List A → Type 0
Every P [] = Unit {0}
Every P (x ∷ xs) = P x × Every P xs

abbrev pub of_directory : List Traced → List Traced
of_directory added = filter (λ t. is_of_directory t.line t.evidence) added

-- a line that the directory tells shows what was seen of it then
abbrev pub IsShown : Traced → Type 0
IsShown t = is_of_directory t.line t.evidence ≡ true → (log : List Entry) × (seen_for t ≡ Some log)

-- The directory's history was learnt anew once at least for each line that it tells: these were its lengths then, in the lines' order, among those
-- that were learnt in between
pub record AsksForEach (added : List Traced) (old new : Known Entry) : Type 0 where
  pub news : List ℕ
  pub learnt : new.learnt ≡ old.learnt ++ news
  pub shown : Every IsShown added
  pub lengths : IsLeftOf (map length (filter_map seen_for added)) news
  pub enough : length (of_directory added) ≤ length news
