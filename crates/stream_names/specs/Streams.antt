-- The streams of a session by their numbers and names, XEP-0124 section 16: at most eight, counted from 0.
use Rattle.std.specs.Prelude.{ℕ, zero, suc, ◌+◌, ◌==◌, ◌||◌, Bool, false, not, List, [], ◌∷◌, ◌++◌, filter, Option, codes, slice_index_or}
use Rattle.std.specs.List.{find, list_any}
use Rattle.std.specs.Str.{bytes_eq}
use Rattle.bosh_types.specs.Limits.{most_streams}

-- so many numbers from this one on
abbrev pub numbers_from : ℕ → ℕ → List ℕ
numbers_from number zero = []
numbers_from number (suc count) = number ∷ numbers_from (suc number) count

-- the streams of which this holds, in the order of their numbers
unfoldable pub those : (ℕ → Bool) → List ℕ
those holds = filter holds (numbers_from 0 most_streams)

-- those whose place has a mark
abbrev pub marked : List Bool → List ℕ
marked marks = those (λ stream. slice_index_or marks stream false)

-- a stream is one of these
abbrev pub is_among : List ℕ → ℕ → Bool
is_among streams stream = list_any (λ other. other == stream) streams

-- these, and one more
abbrev pub with_stream : List ℕ → ℕ → List ℕ
with_stream streams stream = those (λ other. is_among streams other || (other == stream))

-- these but for one
abbrev pub without : List ℕ → ℕ → List ℕ
without streams stream = filter (λ other. not (other == stream)) streams

-- these but for some
abbrev pub without_all : List ℕ → List ℕ → List ℕ
without_all streams others = filter (λ stream. not (is_among others stream)) streams

-- a stream's name: `t` and the digit of its number
abbrev pub name_of : ℕ → List ℕ
name_of stream = codes "t" ++ (48 + stream) ∷ []

-- the one of these streams that has the name
abbrev pub named : List ℕ → List ℕ → Option ℕ
named streams name = find (λ stream. bytes_eq (name_of stream) name) streams
