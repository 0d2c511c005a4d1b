-- Where a client is in its keys: a place in one sequence after another.
use Rattle.std.specs.Prelude.{◌≡◌, ℕ, ◌+◌, ◌-◌, ◌==◌, ◌≤◌, ◌^◌, true, false, min, List, Option, None, Some, if◌then◌else◌}
use Rattle.key_sequence.specs.Chain.{key_of, keys_down}
use Rattle.key_sequence.specs.Unsent.{Unsent}
use Rattle.bosh_client.specs.Keys.{announcement, seed_of}

-- what the sequences are made from and how many keys each has; the sequence of the next key, and its number there
pub record KeyPlace : Type 0 where
  pub seed : List ℕ
  pub keys : ℕ
  pub sequence : ℕ
  pub number : ℕ

abbrev pub first_place : List ℕ → ℕ → KeyPlace
first_place seed keys = record { seed = seed; keys = keys; sequence = 0; number = keys - 1 }

-- the sequence that follows this one, of which there are fewer than a number of 64 bits counts
abbrev pub sequence_after : ℕ → ℕ
sequence_after sequence = min (sequence + 1) (2 ^ 64 - 1)

-- these keys are those of a sequence, all of them
pub record IsSequence (seed : List ℕ) (sequence keys : ℕ) (unsent : Unsent) : Type 0 where
  pub newkey_is : unsent.newkey ≡ announcement seed keys sequence
  pub left_are : unsent.left ≡ keys_down (seed_of seed sequence) (keys - 1)

-- the place after this one: downwards in the sequence, and then on to the next sequence
abbrev pub next_place : KeyPlace → KeyPlace
next_place p =
    if p.number == 1 then record p { sequence = sequence_after p.sequence; number = p.keys - 1 } else record p { number = p.number - 1 }

-- what has to follow once the key at this place was sent
abbrev pub NextSequence : KeyPlace → Option Unsent → Type 0
NextSequence p None = (p.number == 1) ≡ false
NextSequence p (Some unsent) = ((p.number == 1) ≡ true) × IsSequence p.seed (sequence_after p.sequence) p.keys unsent

-- the key, and the keys after it, are those of the place
pub record IsAtPlace (seed : List ℕ) (keys sequence number : ℕ) (key : List ℕ) (unsent : Unsent) : Type 0 where
  pub some : 2 ≤ keys
  pub few : keys ≤ 4096
  pub low : 1 ≤ number
  pub high : number ≤ keys - 1
  pub key_is : key ≡ key_of (seed_of seed sequence) number
  pub newkey_is : unsent.newkey ≡ announcement seed keys sequence
  pub left_are : unsent.left ≡ keys_down (seed_of seed sequence) (number - 1)

-- the same of a client that may have no keys
abbrev pub FollowsKeys : Option KeyPlace → Option Unsent → Type 0
FollowsKeys None unsent = unsent ≡ None
FollowsKeys (Some p) unsent = NextSequence p unsent

abbrev pub keys_turned : Option KeyPlace → Option KeyPlace
keys_turned None = None
keys_turned (Some p) = Some (next_place p)
