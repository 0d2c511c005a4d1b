-- A file of records: an open gate, a length and so many bytes of content; and a closed gate behind the last record.
use Rattle.std.specs.Prelude.{◌≡◌, ◌⊎◌, ℕ, ◌<◌, ◌^◌, List, [], ◌∷◌, ◌++◌, length}
use Rattle.std.specs.List.{AllByRecursion}
use Rattle.std.specs.Int.{to_be_bytes, w32}

-- what has a length of four bytes
abbrev pub HasLength : List ℕ → Type 0
HasLength content = length content < 2 ^ 32

-- a number as four bytes, the greatest first
unfoldable pub number4 : ℕ → List ℕ
number4 n = to_be_bytes w32 n

-- a content with its length before it
abbrev pub framed : List ℕ → List ℕ
framed content = number4 (length content) ++ content

-- the record of a content: the gate is 1
abbrev pub record_of : List ℕ → List ℕ
record_of content = 1 ∷ framed content

abbrev pub records_of : List (List ℕ) → List ℕ
records_of [] = []
records_of (content ∷ contents) = record_of content ++ records_of contents

-- no record begins these bytes
abbrev pub BeginsNoRecord : List ℕ → Type 0
BeginsNoRecord bytes = (content rest : List ℕ) → HasLength content → bytes ≡ record_of content ++ rest → ⊥

-- The row of an image: it is the records of these contents and an end that begins with no record.
pub record IsRowOf (image : List ℕ) (contents : List (List ℕ)) : Type 0 where
  pub end : List ℕ
  pub split : image ≡ records_of contents ++ end
  pub lengths : AllByRecursion HasLength contents
  pub ended : BeginsNoRecord end

-- a whole file: the records, and a closed gate
abbrev pub file_of : List (List ℕ) → List ℕ
file_of contents = records_of contents ++ 0 ∷ []

-- the row is what it was, or has these contents too
abbrev pub IsBeforeOrAfter : List (List ℕ) → List (List ℕ) → List ℕ → Type 0
IsBeforeOrAfter contents added image = IsRowOf image contents ⊎ IsRowOf image (contents ++ added)

-- the row is what it was, or there is none
abbrev pub IsBeforeOrNone : List (List ℕ) → List ℕ → Type 0
IsBeforeOrNone contents image = IsRowOf image contents ⊎ IsRowOf image []
