-- The back ends of a host, in the order in which they stand behind it.
use Rattle.std.specs.Prelude.{◌≡◌, ℕ, List, [], ◌∷◌, ◌++◌, map, take, drop, Option, IfSome, option_map, slice_get}
use Rattle.bosh_types.specs.declared.inward.Inward.{Inward}
use Rattle.xmpp_backend.specs.Told.{Told, on_wire}
use Rattle.session_pump.specs.Ends.{End, Ends}
use Rattle.session_pump.specs.Hosts.{HostFacts}

-- it is true of each of these
abbrev pub Every : {A : Type 0} → (A → Type 0) → List A → Type 0
Every P [] = Unit {0}
Every P (x ∷ xs) = P x × Every P xs

-- those that failed and were exchanged, the one that stands there now, and the spares that weren't used
abbrev pub in_turn : Ends → List End
in_turn ends = take ends.used ends.spares ++ ends.standing ∷ drop ends.used ends.spares

-- what a back end was passed on a wire, where it tells that
abbrev pub passed_on : ℕ → End → Option (List Inward)
passed_on wire end = option_map (λ (told : Told). on_wire wire told.passed) end.told

-- and what each of a host's was
abbrev pub passed_in_turn : ℕ → Ends → List (Option (List Inward))
passed_in_turn wire ends = map (passed_on wire) (in_turn ends)

-- nothing was passed, where that is told
abbrev pub IsNothing : Option (List Inward) → Type 0
IsNothing passed = IfSome passed (λ items. items ≡ [])

-- these are the first of those
abbrev pub Begins : List Inward → List Inward → Type 0
Begins first all = (rest : List Inward) × (all ≡ first ++ rest)

-- one back end was passed what is said, where it tells that, and each other was passed nothing
pub record OneWas (Says : List Inward → Type 0) (passed : List (Option (List Inward))) : Type 0 where
  pub earlier : List (Option (List Inward))
  pub one : Option (List Inward)
  pub later : List (Option (List Inward))
  pub are : passed ≡ earlier ++ one ∷ later
  pub none_earlier : Every IsNothing earlier
  pub none_later : Every IsNothing later
  pub says : IfSome one Says

-- the back ends of the host at this place
abbrev pub ends_at : List HostFacts → ℕ → Option Ends
ends_at hosts place = option_map (λ (host : HostFacts). host.ends) (slice_get hosts place)
