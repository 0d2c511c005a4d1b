-- What is noted of when sessions are due.
use Rattle.std.proofs.Common.{◌≡◌, Bor, map, ◌≢◌, ◌≤◌, ◌<◌, ◌+◌, ◌++◌, ◌∷◌, ◌⊎◌, [], ℕ, Bool, cond, List, Option, Some, None, IsSome, Equal, Result, Ok, Err, inl, inr, true, false, refl, sym, subst, ap, ◌∙◌, arith, nat_eq, ne_eqb, length, take, get_or, slice_index_or, true≢false, zero, suc}
use Rattle.std.proofs.lemmas.Bool.{eq-eqb, eqb-true}
use Rattle.std.proofs.lemmas.Bool.Decides.{eqb_tells}
use Rattle.std.proofs.lemmas.Cmp.{eq_by_cmp_equiv, nat_cmp_total}
use Rattle.std.proofs.lemmas.List.Elements.{Contains-append_cases, Contains-append_left, Contains-append_right, Contains-get_or}
use Rattle.std.proofs.lemmas.Map.Keys.{IsDistinct-from_sorted}
use Rattle.std.proofs.lemmas.Map.Views.{lookup-from_Contains}
use Rattle.std.proofs.lemmas.List.{take_all, take_more}
use Rattle.std.proofs.lemmas.Map.Views.{btree_map_contains_key_iff}
use Rattle.std.proofs.lemmas.Option.{none-some}
use Rattle.std.specs.Bool.{⊤}
use Rattle.std.specs.BTreeMap.{keys}
use Rattle.std.specs.List.{Contains}
use Rattle.std.specs.Result.{OnErr, OnOk}
use Rattle.std.specs.declared.alloc.AllocError.{AllocError}
use Rattle.std.specs.Map.{keys_of}
use Rattle.std.specs.Map.Iter.{deref_pair}
use Rattle.std.specs.Cmp.{unsigned_tied}
use Rattle.std.specs.Ordering.{is_eq, nat_cmp}
use Rattle.pause_rules.specs.NextDue.{IsByNumber, IsNextDue, moment_of}
use Rattle.parked_gate.specs.Passes.{Looks, known}
use Rattle.session_table.specs.declared.handle.SessionHandle.{SessionHandle}
use Rattle.session_table.specs.Purses.{Sessions, Turned, held}
use Rattle.session_pump.specs.Dues.{AskDues, AsksDue, Dues, IsDueOf, IsFirstDue, IsNoted, IsNotedAs, IsOver, IsTakenBy, asked, asked_none, asked_one, not_held, stays, was_due}

-- a pair of the index is the moment of its number
moment_is : (dues : Dues) (number moment : ℕ) → IsByNumber dues → Contains dues (number, moment) → moment_of dues number ≡ Some moment
moment_is dues number moment sorted within =
    lookup-from_Contains (eq_by_cmp_equiv nat_cmp_total) number moment dues (IsDistinct-from_sorted nat_cmp (keys_of dues) sorted) within

-- no moment of this number is noted any longer, and the others stay
abbrev pub IsCleared : Dues → Dues → ℕ → Type 0
IsCleared old new number = (other : ℕ) → moment_of new other ≡ cond (nat_eq number other) None (moment_of old other)

pub cleared_at : (old new : Dues) (number : ℕ) → IsCleared old new number → moment_of new number ≡ None
cleared_at old new number found = found number ∙ ap (λ (b : Bool). cond b None (moment_of old number)) (eq-eqb number number refl)

pub cleared_else : (old new : Dues) (number : ℕ) → IsCleared old new number → (other : ℕ) → other ≢ number → moment_of new other ≡ moment_of old other
cleared_else old new number found other apart =
    found other ∙ ap (λ (b : Bool). cond b None (moment_of old other)) (ne_eqb number other (λ e. apart (sym e)))

pub forgotten : (old new : Dues) (number : ℕ) → IsCleared old new number → IsNotedAs number None old new
forgotten old new number found = record { this = cleared_at old new number found; others = cleared_else old new number found }

-- the number that is due first was taken too
pub taken_more : (now : ℕ) (first old new : Dues) (numbers longer : List ℕ) (number : ℕ) → longer ≡ numbers ++ number ∷ [] → IsByNumber old → IsNextDue old now (Some number)
    → IsCleared old new number → ((other : ℕ) → IsTakenBy now first old numbers other) → (other : ℕ) → IsTakenBy now first new longer other
taken_more now first old new numbers longer number grown sorted next found before other = by (eqb_tells other number)
  where
    here : Contains longer number
    here = subst (λ (xs : List ℕ). Contains xs number) (sym grown) (Contains-append_right numbers (number ∷ []) number (Contains-get_or (number ∷ []) 0 number (omega arith)))

    it : IsTakenBy now first old numbers number → IsTakenBy now first new longer number
    it (stays is) = was_due next.0 (sym is ∙ moment_is old number next.0 sorted next.1) next.2 (cleared_at old new number found) here
    it (was_due moment is by_now gone within) = was_due moment is by_now (cleared_at old new number found) here

    another : other ≢ number → IsTakenBy now first old numbers other → IsTakenBy now first new longer other
    another apart (stays is) = stays (cleared_else old new number found other apart ∙ is)
    another apart (was_due moment is by_now gone within) =
        was_due moment is by_now (cleared_else old new number found other apart ∙ gone)
        (subst (λ (xs : List ℕ). Contains xs other) (sym grown) (Contains-append_left numbers (number ∷ []) other within))

    by : ((nat_eq other number ≡ true) × (other ≡ number)) ⊎ ((nat_eq other number ≡ false) × (other ≢ number)) → IsTakenBy now first new longer other
    by (inl (e, same)) = subst (λ (n : ℕ). IsTakenBy now first new longer n) (sym same) (it (before number))
    by (inr (e, apart)) = another apart (before other)

-- and those that were there before still are
pub still_within : (first numbers longer : List ℕ) (number : ℕ) → longer ≡ numbers ++ number ∷ [] → ((other : ℕ) → Contains first other → Contains numbers other)
    → (other : ℕ) → Contains first other → Contains longer other
still_within first numbers longer number grown before other within =
    subst (λ (xs : List ℕ). Contains xs other) (sym grown) (Contains-append_left numbers (number ∷ []) other (before other within))

-- ---- one session is noted

-- nobody is held under the number, and no moment is noted of it
pub noted_none : (number : ℕ) (sessions : Sessions) (old new : Dues) → held sessions number ≡ None → IsCleared old new number → IsNoted number sessions new
noted_none number sessions old new none found =
    subst (λ (o : Option SessionHandle). IsDueOf o (moment_of new number)) (sym none) (cleared_at old new number found)

-- the moment that the session answered is noted
pub noted_so : {T : Type 0} (number : ℕ) (old new : Sessions) (dues : Dues) (due : Option ℕ) (result : Result T AllocError) → Turned number old new (Looks (λ seen. IsFirstDue seen due))
    → OnOk result (moment_of dues number ≡ due) → OnOk result (IsNoted number new dues)
noted_so number old new dues due (Ok done) turned put =
    subst (λ (o : Option SessionHandle). IsDueOf o (moment_of dues number)) (sym turned.is) (subst (λ (d : Option ℕ). IsFirstDue (known turned.after.pass).seen d) (sym put) turned.says.says)
noted_so number old new dues due (Err error) turned put = tt

-- ---- sessions are asked

only : (other number : ℕ) → Contains (number ∷ []) other → other ≡ number
only other number one = by one.0 one.1 one.2
  where
    by : (k : ℕ) → k < 1 → slice_index_or (number ∷ []) k other ≡ other → other ≡ number
    by zero within is = sym is
    by (suc k) within is = absurd (omega (arith, within))

asked_apart : (number other : ℕ) (old new : Sessions) → other ≢ number → AsksDue number old new → held new other ≡ held old other
asked_apart number other old new apart (not_held none) = refl
asked_apart number other old new apart (asked due turned others) = others other apart

-- who isn't held isn't held after it
asked_still : (number other : ℕ) (old new : Sessions) → held old other ≡ None → AsksDue number old new → held new other ≡ None
asked_still number other old new none (not_held gone) = none
asked_still number other old new none (asked due turned others) = by (eqb_tells other number)
  where
    by : ((nat_eq other number ≡ true) × (other ≡ number)) ⊎ ((nat_eq other number ≡ false) × (other ≢ number)) → held new other ≡ None
    by (inl (e, same)) = absurd (none-some turned.before (sym (subst (λ (n : ℕ). held old n ≡ None) same none) ∙ turned.was))
    by (inr (e, apart)) = others other apart ∙ none

asked_none_held : (old : Sessions) (other : ℕ) {numbers : List ℕ} {new : Sessions} → held old other ≡ None → AskDues old numbers new → held new other ≡ None
asked_none_held old other none asked_none = none
asked_none_held old other none (asked_one number before asks) = asked_still number other _ _ (asked_none_held old other none before) asks

-- one more was asked
pub ask_more : (numbers : List ℕ) (i number : ℕ) (old l m : Sessions) → i < length numbers → number ≡ get_or numbers i number → AskDues old (take i numbers) l → AsksDue number l m
    → AskDues old (take (i + 1) numbers) m
ask_more numbers i number old l m within read before asks =
    subst (λ (xs : List ℕ). AskDues old xs m) (sym (take_more numbers i number within ∙ ap (λ (n : ℕ). take i numbers ++ n ∷ []) (sym read))) (asked_one number before asks)

-- another of these numbers stood before
earlier_among : (numbers : List ℕ) (i number other : ℕ) → i < length numbers → number ≡ get_or numbers i number → other ≢ number → Contains (take (i + 1) numbers) other
    → Contains (take i numbers) other
earlier_among numbers i number other within read apart among = among_these (Contains-append_cases (take i numbers) (number ∷ []) other
    (subst (λ (xs : List ℕ). Contains xs other) (take_more numbers i number within ∙ ap (λ (n : ℕ). take i numbers ++ n ∷ []) (sym read)) among))
  where
    among_these : Contains (take i numbers) other ⊎ Contains (number ∷ []) other → Contains (take i numbers) other
    among_these (inl here) = here
    among_these (inr one) = absurd (apart (only other number one))

-- those of these that are over stand among others, where one more was asked
pub over_more : (numbers : List ℕ) (i number : ℕ) (l m : Sessions) (old new : Dues) (first longer : List ℕ) → i < length numbers → number ≡ get_or numbers i number
    → ((other : ℕ) → Contains (take i numbers) other → IsOver other l old → Contains first other) → (IsOver number m new → Contains longer number)
    → ((other : ℕ) → Contains first other → Contains longer other) → AsksDue number l m → ((other : ℕ) → other ≢ number → moment_of new other ≡ moment_of old other)
    → (other : ℕ) → Contains (take (i + 1) numbers) other → IsOver other m new → Contains longer other
over_more numbers i number l m old new first longer within read before here kept asks stay other among over = by (eqb_tells other number)
  where
    by : ((nat_eq other number ≡ true) × (other ≡ number)) ⊎ ((nat_eq other number ≡ false) × (other ≢ number)) → Contains longer other
    by (inl (e, same)) = subst (λ (n : ℕ). Contains longer n) (sym same) (here (subst (λ (n : ℕ). IsOver n m new) same over))
    by (inr (e, apart)) = kept other (before other (earlier_among numbers i number other within read apart among)
        (subst (λ (o : Option SessionHandle). IsSome o) (asked_apart number other l m apart asks) over.0, sym (stay other apart) ∙ over.1))

pub over_first : (numbers : List ℕ) (sessions : Sessions) (dues : Dues) (longer : List ℕ) (other : ℕ) → Contains (take 0 numbers) other → IsOver other sessions dues → Contains longer other
over_first numbers sessions dues longer other among over = absurd (omega (arith, among.1))

-- all of these that are over stand among others
pub over_all : (numbers : List ℕ) (i : ℕ) (sessions : Sessions) (dues : Dues) (longer : List ℕ) → length numbers ≤ i
    → ((other : ℕ) → Contains (take i numbers) other → IsOver other sessions dues → Contains longer other)
    → (other : ℕ) → Contains numbers other → IsOver other sessions dues → Contains longer other
over_all numbers i sessions dues longer whole found other among = found other (subst (λ (xs : List ℕ). Contains xs other) (sym (take_all i numbers whole)) among)

-- what is noted of these, where one more is noted
pub noted_more : (numbers : List ℕ) (i number : ℕ) (l m : Sessions) (old new : Dues) → i < length numbers → number ≡ get_or numbers i number
    → ((other : ℕ) → Contains (take i numbers) other → IsNoted other l old) → IsNoted number m new → AsksDue number l m
    → ((other : ℕ) → other ≢ number → moment_of new other ≡ moment_of old other)
    → (other : ℕ) → Contains (take (i + 1) numbers) other → IsNoted other m new
noted_more numbers i number l m old new within read before is asks stay other among = by (eqb_tells other number)
  where
    earlier : other ≢ number → Contains (take i numbers) other
    earlier apart = among_these (Contains-append_cases (take i numbers) (number ∷ []) other
        (subst (λ (xs : List ℕ). Contains xs other) (take_more numbers i number within ∙ ap (λ (n : ℕ). take i numbers ++ n ∷ []) (sym read)) among))
      where
        among_these : Contains (take i numbers) other ⊎ Contains (number ∷ []) other → Contains (take i numbers) other
        among_these (inl here) = here
        among_these (inr one) = absurd (apart (only other number one))

    by : ((nat_eq other number ≡ true) × (other ≡ number)) ⊎ ((nat_eq other number ≡ false) × (other ≢ number)) → IsNoted other m new
    by (inl (e, same)) = subst (λ (n : ℕ). IsNoted n m new) (sym same) is
    by (inr (e, apart)) =
        subst (λ (o : Option SessionHandle). IsDueOf o (moment_of new other)) (sym (asked_apart number other l m apart asks))
        (subst (λ (d : Option ℕ). IsDueOf (held l other) d) (sym (stay other apart)) (before other (earlier apart)))

-- the others have what was noted of them
pub others_more : (numbers : List ℕ) (i number : ℕ) (first old new : Dues) → i < length numbers → number ≡ get_or numbers i number
    → ((other : ℕ) → (Contains numbers other → ⊥) → moment_of old other ≡ moment_of first other)
    → ((other : ℕ) → other ≢ number → moment_of new other ≡ moment_of old other)
    → (other : ℕ) → (Contains numbers other → ⊥) → moment_of new other ≡ moment_of first other
others_more numbers i number first old new within read before stay other outside =
    stay other (λ same. outside (subst (λ (n : ℕ). Contains numbers n) (sym same) (subst (λ (n : ℕ). Contains numbers n) (sym read) (Contains-get_or numbers i number within)))) ∙ before other outside

-- ---- all are noted

nat_cmp_exact : (x y : ℕ) → nat_cmp x y ≡ Equal → x ≡ y
nat_cmp_exact x y tied = eqb-true x y (sym (unsigned_tied x y) ∙ ap is_eq tied)

pub all_noted : (old new : Sessions) (dues : Dues) (result : Result ⊤ AllocError) → OnOk result ((number : ℕ) → Contains (keys old) number → IsNoted number new dues)
    → ((number : ℕ) → (Contains (keys old) number → ⊥) → moment_of dues number ≡ None) → OnOk result (AskDues old (keys old) new)
    → OnOk result ((number : ℕ) → IsNoted number new dues)
all_noted old new dues (Err error) noted others asks = tt
all_noted old new dues (Ok done) noted others asks = λ number. by number (held old number) refl
  where
    by : (number : ℕ) (o : Option SessionHandle) → held old number ≡ o → IsNoted number new dues
    by number (Some handle) is = noted number ((btree_map_contains_key_iff nat_cmp_total nat_cmp_exact old number).0 (subst IsSome (sym is) refl))
    by number None is =
        let outside : Contains (keys old) number → ⊥ = λ among. true≢false (sym (subst IsSome is ((btree_map_contains_key_iff nat_cmp_total nat_cmp_exact old number).1 among))) in
        subst (λ (o : Option SessionHandle). IsDueOf o (moment_of dues number)) (sym (asked_none_held old number is asks)) (others number outside)

-- ---- a list of numbers

-- an element is the same by whichever default it is read
pub read_at : (numbers : List ℕ) (i d : ℕ) → i < length numbers → get_or numbers i d ≡ get_or numbers i (get_or numbers i d)
read_at numbers i d within = by numbers i within (get_or numbers i d)
  where
    by : (xs : List ℕ) (i : ℕ) → i < length xs → (e : ℕ) → get_or xs i d ≡ get_or xs i e
    by [] i within e = absurd (omega (arith, within))
    by (x ∷ xs) zero within e = refl
    by (x ∷ xs) (suc i) within e = by xs i (omega (arith, within)) e

-- of none it is said
pub noted_first : (numbers : List ℕ) (sessions : Sessions) (dues : Dues) (number : ℕ) → Contains (take 0 numbers) number → IsNoted number sessions dues
noted_first numbers sessions dues number among = absurd (omega (arith, among.1))

pub noted_all_of : (numbers : List ℕ) (i : ℕ) (sessions : Sessions) (dues : Dues) → length numbers ≤ i
    → ((number : ℕ) → Contains (take i numbers) number → IsNoted number sessions dues) → (number : ℕ) → Contains numbers number → IsNoted number sessions dues
noted_all_of numbers i sessions dues whole noted =
    subst (λ (xs : List ℕ). (number : ℕ) → Contains xs number → IsNoted number sessions dues) (take_all i numbers whole) noted

pub all_asked : (numbers : List ℕ) (i : ℕ) (old new : Sessions) → length numbers ≤ i → AskDues old (take i numbers) new → AskDues old numbers new
all_asked numbers i old new whole asks = subst (λ (xs : List ℕ). AskDues old xs new) (take_all i numbers whole) asks

-- the numbers are those under which sessions are held
pub asked_so : (old new : Sessions) (items slice : List ℕ) (result : Result ⊤ AllocError) → slice ≡ items → items ≡ keys old → OnOk result (AskDues old slice new)
    → OnOk result (AskDues old (keys old) new)
asked_so old new items slice result same are asks = subst (λ (xs : List ℕ). OnOk result (AskDues old xs new)) (same ∙ are) asks

pub noted_all_so : (old new : Sessions) (items slice : List ℕ) (first dues : Dues) (result : Result ⊤ AllocError) → slice ≡ items → items ≡ keys old → first ≡ []
    → OnOk result ((number : ℕ) → Contains slice number → IsNoted number new dues)
    → ((number : ℕ) → (Contains slice number → ⊥) → moment_of dues number ≡ moment_of first number) → OnOk result (AskDues old slice new)
    → OnOk result ((number : ℕ) → IsNoted number new dues)
noted_all_so old new items slice first dues result same are nothing noted others asks =
    all_noted old new dues result
    (subst (λ (xs : List ℕ). OnOk result ((number : ℕ) → Contains xs number → IsNoted number new dues)) (same ∙ are) noted)
    (λ number outside. others number (λ among. outside (subst (λ (xs : List ℕ). Contains xs number) (same ∙ are) among)) ∙ ap (λ (d : Dues). moment_of d number) nothing)
    (asked_so old new items slice result same are asks)

-- the numbers of the entries that were shown are their keys
pub keys_shown : {V : Type 0} (shown : List (Bor ℕ × Bor V)) → map (λ e. e.0.now) shown ≡ keys_of (map deref_pair shown)
keys_shown [] = refl
keys_shown (e ∷ es) = ap (λ (ns : List ℕ). e.0.now ∷ ns) (keys_shown es)

-- these were asked before memory was wanted
pub asked_before : (result : Result ⊤ AllocError) (old new : Sessions) (numbers : List ℕ) → AskDues old numbers new → OnErr result ((asked : List ℕ) × AskDues old asked new)
asked_before (Ok done) old new numbers is = tt
asked_before (Err error) old new numbers is = (numbers, is)
