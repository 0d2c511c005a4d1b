-- Places of which each is empty or has one thing.
use Rattle.std.proofs.Common.{◌≡◌, ℕ, suc, zero, ◌<◌, List, [], ◌∷◌, ◌++◌, Option, None, length, get_or, refl, sym, arith}

-- an empty place at the end is as good as none
pub get_or-push_none : {X : Type 0} (places : List (Option X)) (k : ℕ) → get_or (places ++ None ∷ []) k None ≡ get_or places k None
get_or-push_none [] zero = refl
get_or-push_none [] (suc k) = refl
get_or-push_none (place ∷ places) zero = refl
get_or-push_none (place ∷ places) (suc k) = get_or-push_none places k

-- a read of the first place, whatever it has
pub first_read : {X : Type 0} (places : List (Option X)) (o : Option X) → 0 < length places → o ≡ get_or places 0 o → get_or places 0 None ≡ o
first_read [] o some is = absurd (omega arith)
first_read (place ∷ places) o some is = sym is
