-- What became of a network's links, where it tells that.
use Rattle.std.specs.Prelude.{◌≡◌, ◌⊎◌, ℕ, ◌-◌, List, [], ◌∷◌, ◌++◌, Option, None, Some, ⊤, IfSome, IsSomeAnd, length, take}

-- a link began, with the port at which it was dialled, if it was, and the bytes that it has to be taken; or it was retired, with those
-- that were left, and those that it was given
pub data Event : Type 0 where
  Began : Option ℕ → List ℕ → Event
  Retired : List ℕ → List ℕ → Event

-- what a link carried
pub record Exchange : Type 0 where
  pub taken : List ℕ
  pub given : List ℕ

-- the exchanges, where the link that is out began with these bytes: those of the links that are retired before another begins
abbrev pub exchanges_after : Option (List ℕ) → List Event → List Exchange
exchanges_after out [] = []
exchanges_after out (Began dialled stream ∷ events) = exchanges_after (Some stream) events
exchanges_after None (Retired rest given ∷ events) = exchanges_after None events
exchanges_after (Some stream) (Retired rest given ∷ events) = record { taken = take (length stream - length rest) stream; given = given } ∷ exchanges_after None events

-- the bytes taken and given on each link that was retired, of a network whose links are out one at a time
abbrev pub exchanges : List Event → List Exchange
exchanges events = exchanges_after None events

-- told events grow by these; the telling may end, and doesn't begin
abbrev pub Grows : Option (List Event) → Option (List Event) → List Event → Type 0
Grows old None more = ⊤
Grows None (Some new) more = ⊥
Grows (Some old) (Some new) more = new ≡ old ++ more

-- a link began, dialled at this port, if it was, which tells what it has to be taken
abbrev pub Begins : Option (List Event) → Option (List Event) → Option ℕ → Option (List ℕ) → Type 0
Begins old new dialled left = IfSome new (λ _. IsSomeAnd left (λ stream. Grows old new (Began dialled stream ∷ [])))

-- a link was retired, which told what was left and what it was given
abbrev pub Retires : Option (List Event) → Option (List Event) → Option (List ℕ) → Option (List ℕ) → Type 0
Retires old new left given = IfSome new (λ _. IsSomeAnd left (λ rest. IsSomeAnd given (λ gave. Grows old new (Retired rest gave ∷ []))))

-- the events of a share were put to the others
abbrev pub Joins : Option (List Event) → Option (List Event) → Option (List Event) → Type 0
Joins old new share = IfSome new (λ _. IsSomeAnd share (λ theirs. Grows old new theirs))

-- there are none yet
abbrev pub IsWithout : Option (List Event) → Type 0
IsWithout events = IfSome events (λ told. told ≡ [])

-- nothing was given to a link yet, where it tells that; it does where its network tells these events
abbrev pub IsUngiven : Option (List Event) → Option (List ℕ) → Type 0
IsUngiven events given = (given ≡ Some []) ⊎ ((events ≡ None) × IfSome given (λ bytes. bytes ≡ []))

-- the first event is no retiring, so that no link was out before
abbrev pub BeginsInOrder : List Event → Type 0
BeginsInOrder [] = ⊤
BeginsInOrder (Began dialled stream ∷ events) = ⊤
BeginsInOrder (Retired rest given ∷ events) = ⊥

-- the ports at which links were dialled, in order
abbrev pub ports_dialled : List Event → List ℕ
ports_dialled [] = []
ports_dialled (Began (Some port) stream ∷ events) = port ∷ ports_dialled events
ports_dialled (Began None stream ∷ events) = ports_dialled events
ports_dialled (Retired rest given ∷ events) = ports_dialled events
