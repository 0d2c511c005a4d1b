-- The exchanges of events that follow others.
use Rattle.std.proofs.Common.{◌≡◌, ℕ, ◌-◌, List, [], ◌∷◌, ◌++◌, Option, None, Some, length, take, refl, ap, arith}
use Rattle.std.proofs.lemmas.Grind.{common_steps}
use Rattle.server_ports.specs.Events.{Event, Began, Retired, Exchange, BeginsInOrder, exchanges, exchanges_after}

-- what stands before the rest
front_of : (taken rest : List ℕ) → take (length (taken ++ rest) - length rest) (taken ++ rest) ≡ taken
front_of taken rest = grind (arith, common_steps)

retired_after : (out : Option (List ℕ)) (events : List Event) (dialled : Option ℕ) (taken rest given : List ℕ) → exchanges_after out ((events ++ Began dialled (taken ++ rest) ∷ []) ++ Retired rest given ∷ []) ≡ exchanges_after out events ++ record { taken = taken; given = given } ∷ []
retired_after out [] dialled taken rest given = ap (λ (front : List ℕ). record { taken = front; given = given } ∷ []) (front_of taken rest)
retired_after out (Began was stream ∷ events) dialled taken rest given = retired_after (Some stream) events dialled taken rest given
retired_after None (Retired left gave ∷ events) dialled taken rest given = retired_after None events dialled taken rest given
retired_after (Some stream) (Retired left gave ∷ events) dialled taken rest given = ap (λ (more : List Exchange). record { taken = take (length stream - length left) stream; given = gave } ∷ more) (retired_after None events dialled taken rest given)

pub retired_adds : (events : List Event) (dialled : Option ℕ) (taken rest given : List ℕ) → exchanges ((events ++ Began dialled (taken ++ rest) ∷ []) ++ Retired rest given ∷ []) ≡ exchanges events ++ record { taken = taken; given = given } ∷ []
retired_adds events dialled taken rest given = retired_after None events dialled taken rest given

-- a list that begins in order has the same exchanges whichever link was out
in_order : (out : Option (List ℕ)) (events : List Event) → BeginsInOrder events → exchanges_after out events ≡ exchanges events
in_order out [] fine = refl
in_order out (Began dialled stream ∷ events) fine = refl
in_order out (Retired rest given ∷ events) fine = absurd fine

share_after : (out : Option (List ℕ)) (mine theirs : List Event) → BeginsInOrder theirs → exchanges_after out (mine ++ theirs) ≡ exchanges_after out mine ++ exchanges theirs
share_after out [] theirs fine = in_order out theirs fine
share_after out (Began dialled stream ∷ mine) theirs fine = share_after (Some stream) mine theirs fine
share_after None (Retired left gave ∷ mine) theirs fine = share_after None mine theirs fine
share_after (Some stream) (Retired left gave ∷ mine) theirs fine = ap (λ (more : List Exchange). record { taken = take (length stream - length left) stream; given = gave } ∷ more) (share_after None mine theirs fine)

pub share_adds : (mine theirs : List Event) → BeginsInOrder theirs → exchanges (mine ++ theirs) ≡ exchanges mine ++ exchanges theirs
share_adds mine theirs fine = share_after None mine theirs fine
