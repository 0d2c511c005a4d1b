-- What is taken for each stream of a session.
use Rattle.std.proofs.Common.{◌≡◌, ◌≢◌, ◌⊎◌, ℕ, zero, suc, Bool, true, false, cond, List, [], ◌∷◌, ◌++◌, filter, refl, sym, ◌∙◌, ap, subst, inl, inr, eqb-true, eq-eqb, ne_eqb, append-nil, true≢false}
use Rattle.std.specs.Prelude.{◌||◌, ◌==◌}
use Rattle.std.specs.List.{list_any}
use Rattle.std.proofs.lemmas.List.Elements.{filter-append}
use Rattle.bosh_types.specs.declared.inward.Inward.{Inward}
use Rattle.bosh_types.specs.declared.inward.Inward.TheVariants as inward
use Rattle.session_pump.specs.Sides.{is_for, is_opening, stream_of}
use Rattle.pump_laws.specs.CallsMade.{after_open, carried, opens, since_open}
use Rattle.pump_laws.proofs.KeepsLemmas.{WasBegun}

after_more : (q : ℕ) (xs ys : List Inward) → list_any (opens q) xs ≡ true → after_open q (xs ++ ys) ≡ after_open q xs ++ ys
after_more q [] ys is = absurd (true≢false (sym is))
after_more q (x ∷ xs) ys is = by (opens q x) is (λ later. after_more q xs ys later)
  where
    by : (b : Bool) → (b || list_any (opens q) xs) ≡ true → (list_any (opens q) xs ≡ true → after_open q (xs ++ ys) ≡ after_open q xs ++ ys)
        → cond b (xs ++ ys) (after_open q (xs ++ ys)) ≡ cond b xs (after_open q xs) ++ ys
    by true is next = refl
    by false is next = next is

after_first : (q : ℕ) (xs : List Inward) (y : Inward) → list_any (opens q) xs ≡ false → opens q y ≡ true → after_open q (xs ++ y ∷ []) ≡ []
after_first q [] y none is = ap (λ b. cond b [] []) is
after_first q (x ∷ xs) y none is = by (opens q x) none (λ rest. after_first q xs y rest is)
  where
    by : (b : Bool) → (b || list_any (opens q) xs) ≡ false → (list_any (opens q) xs ≡ false → after_open q (xs ++ y ∷ []) ≡ [])
        → cond b (xs ++ y ∷ []) (after_open q (xs ++ y ∷ [])) ≡ []
    by true none next = absurd (true≢false none)
    by false none next = next none

since_more : (q : ℕ) (xs ys : List Inward) → WasBegun q xs → since_open q (xs ++ ys) ≡ since_open q xs ++ ys
since_more zero xs ys begun = refl
since_more (suc q) xs ys (inl is) = absurd (cc)
since_more (suc q) xs ys (inr is) = after_more (suc q) xs ys is

since_first : (q : ℕ) (xs : List Inward) (y : Inward) → q ≢ 0 → list_any (opens q) xs ≡ false → opens q y ≡ true → since_open q (xs ++ y ∷ []) ≡ []
since_first zero xs y later none is = absurd (later refl)
since_first (suc q) xs y later none is = after_first (suc q) xs y none is

-- once it was begun, what is taken is carried too where it is for it
pub carried_more : (q : ℕ) (xs ys : List Inward) → WasBegun q xs → carried q (xs ++ ys) ≡ carried q xs ++ filter (is_for q) ys
carried_more q xs ys begun = ap (filter (is_for q)) (since_more q xs ys begun) ∙ filter-append (is_for q) (since_open q xs) ys

-- as it is opened nothing was
pub carried_first : (q : ℕ) (xs : List Inward) (y : Inward) → q ≢ 0 → list_any (opens q) xs ≡ false → opens q y ≡ true → carried q (xs ++ y ∷ []) ≡ []
carried_first q xs y later none is = ap (filter (is_for q)) (since_first q xs y later none is)

-- only an open item opens a stream, and only its own
pub opens_not : (q : ℕ) (item : Inward) → is_opening item ≡ false → opens q item ≡ false
opens_not q (inward.Item stream text) passes = refl
opens_not q (inward.Restart stream) passes = refl
opens_not q (inward.Open stream to) passes = absurd (true≢false passes)
opens_not q (inward.Close stream) passes = refl

pub opens_no_other : (q : ℕ) (item : Inward) → stream_of item ≢ q → opens q item ≡ false
opens_no_other q (inward.Item stream text) apart = refl
opens_no_other q (inward.Restart stream) apart = refl
opens_no_other q (inward.Open stream to) apart = ne_eqb stream q apart
opens_no_other q (inward.Close stream) apart = refl

pub nothing_carried : (q : ℕ) → carried q [] ≡ []
nothing_carried zero = refl
nothing_carried (suc q) = refl
