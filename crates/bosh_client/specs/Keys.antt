-- The keys of a client: one sequence after another, XEP-0124 sections 15.3 and 15.5.
use Rattle.std.specs.Prelude.{ℕ, ◌+◌, ◌-◌, ◌/◌, ◌%◌, ◌==◌, List, ◌++◌, codes, Option, None, Some, if◌then◌else◌}
use Rattle.std.specs.Fmt.{decimal}
use Rattle.key_sequence.specs.Chain.{key_of}

-- what sequence number i is made from, i from 0
abbrev pub seed_of : List ℕ → ℕ → List ℕ
seed_of seed i = seed ++ codes "-" ++ decimal i

-- what announces the keys of a sequence: its last one
abbrev pub announcement : List ℕ → ℕ → ℕ → List ℕ
announcement seed keys i = key_of (seed_of seed i) keys

-- which sequence the request has its key from that so many requests after the creation go before, and its number there: a
-- sequence has a key for one request less than it has keys, and they are sent downwards
abbrev pub sequence_at : ℕ → ℕ → ℕ
sequence_at keys later = later / (keys - 1)

abbrev pub number_at : ℕ → ℕ → ℕ
number_at keys later = keys - 1 - later % (keys - 1)

-- the key of that request
abbrev pub key_at : List ℕ → ℕ → ℕ → List ℕ
key_at seed keys later = key_of (seed_of seed (sequence_at keys later)) (number_at keys later)

-- the request with the first key of its sequence announces the next one
abbrev pub newkey_at : List ℕ → ℕ → ℕ → Option (List ℕ)
newkey_at seed keys later = if number_at keys later == 1 then Some (announcement seed keys (sequence_at keys later + 1)) else None
