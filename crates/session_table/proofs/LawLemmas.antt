-- Sessions of one name are one.
use Rattle.std.proofs.Common.{◌≡◌, ◌⊎◌, ◌≤◌, ◌<◌, ◌+◌, ℕ, zero, suc, List, [], ◌∷◌, ◌++◌, length, All, Some, refl, sym, ◌∙◌, ap, subst, inl, inr, arith, length-append}
use Rattle.std.specs.Prelude.{Contains}
use Rattle.std.specs.List.{filter_map, slice_index_or}
use Rattle.std.proofs.lemmas.List.Elements.{All-cons, All-contains, All-filter, All-head, All-nil, All-tail, Contains-append_left, filter_map-append}
use Rattle.session_table.specs.declared.entry.Entry.{Entry}
use Rattle.session_table.specs.History.{IsLegal, live_at, live_of, opening_in, openings_of}
use Rattle.session_table.specs.Sessions.{OpenedSession, numbered_from}
use Rattle.session_table.specs.Sids.{IsSidOf}
use Rattle.session_table.proofs.KeepingLemmas.{opened_below, opened_more}
use Rattle.session_table.proofs.LiveLists.{AllBelow, Ascends, named_all, numbered_from-append, numbers_ascend}
use Rattle.session_table.proofs.SidLemmas.{one_number}

head_or_later : {X : Type 0} (s x : X) (ss : List X) → Contains (s ∷ ss) x → (s ≡ x) ⊎ Contains ss x
head_or_later s x ss (zero, in_it, is) = inl is
head_or_later s x ss (suc k, in_it, is) = inr (k, omega (arith, in_it), is)

above : (m : ℕ) (ss : List OpenedSession) (x : OpenedSession) → Ascends m ss → Contains ss x → m ≤ x.number
above m [] x up is = absurd (omega (arith, is.1))
above m (s ∷ ss) x up is = by (head_or_later s x ss is) (above (s.number + 1) ss x up.1)
  where
    by : (s ≡ x) ⊎ Contains ss x → (Contains ss x → s.number + 1 ≤ x.number) → m ≤ x.number
    by (inl here) later = subst (λ (y : OpenedSession). m ≤ y.number) here up.0
    by (inr there) later = omega (arith, up.0, later there)

below : (top : ℕ) (ss : List OpenedSession) (x : OpenedSession) → AllBelow top ss → Contains ss x → x.number < top
below top [] x low is = absurd (omega (arith, is.1))
below top (s ∷ ss) x low is = by (head_or_later s x ss is) (below top ss x low.1)
  where
    by : (s ≡ x) ⊎ Contains ss x → (Contains ss x → x.number < top) → x.number < top
    by (inl here) later = subst (λ (y : OpenedSession). y.number < top) here low.0
    by (inr there) later = later there

pub one_of_number : (m : ℕ) (ss : List OpenedSession) (x y : OpenedSession) → Ascends m ss → Contains ss x → Contains ss y → x.number ≡ y.number → x ≡ y
one_of_number m [] x y up is_x is_y same = absurd (omega (arith, is_x.1))
one_of_number m (s ∷ ss) x y up is_x is_y same =
    by (head_or_later s x ss is_x) (head_or_later s y ss is_y) (λ there there'. one_of_number (s.number + 1) ss x y up.1 there there' same)
  where
    by : (s ≡ x) ⊎ Contains ss x → (s ≡ y) ⊎ Contains ss y → (Contains ss x → Contains ss y → x ≡ y) → x ≡ y
    by (inl here) (inl here') later = sym here ∙ here'
    by (inl here) (inr there') later = absurd (omega (arith, above (s.number + 1) ss y up.1 there', ap (λ (z : OpenedSession). z.number) here, same))
    by (inr there) (inl here') later = absurd (omega (arith, above (s.number + 1) ss x up.1 there, ap (λ (z : OpenedSession). z.number) here', same))
    by (inr there) (inr there') later = later there there'

pub one_of_name : (log : List Entry) → IsLegal log → (x y : OpenedSession) → Contains (openings_of log) x → Contains (openings_of log) y → x.sid ≡ y.sid → x ≡ y
one_of_name log legal x y is_x is_y same =
    let few : (z : OpenedSession) → Contains (openings_of log) z → z.number < length (openings_of log) + 1 = λ z is. below _ (openings_of log) z (opened_below log) is in
    let names : (z : OpenedSession) → Contains (openings_of log) z → IsSidOf z.sid z.number = λ z is. All-contains (λ s. IsSidOf s.sid s.number) (openings_of log) z legal.named is in
    one_of_number 1 (openings_of log) x y (numbers_ascend 1 (filter_map opening_in log)) is_x is_y
    (one_number y.sid x.number y.number (omega (arith, few x is_x, legal.few_opened)) (omega (arith, few y is_y, legal.few_opened))
    (subst (λ t. IsSidOf t x.number) same (names x is_x)) (names y is_y))

openings_on : (log more : List Entry) → openings_of (log ++ more) ≡ openings_of log ++ numbered_from (1 + length (filter_map opening_in log)) (filter_map opening_in more)
openings_on log more = ap (numbered_from 1) (filter_map-append opening_in log more) ∙ numbered_from-append 1 (filter_map opening_in log) (filter_map opening_in more)

contains_later : {X : Type 0} (x y : X) (xs : List X) → Contains xs y → Contains (x ∷ xs) y
contains_later x y xs (k, in_it, is) = (suc k, omega (arith, in_it), is)

all_later : (s : OpenedSession) (ss xs : List OpenedSession) → All (Contains ss) xs → All (Contains (s ∷ ss)) xs
all_later s ss [] all = All-nil (Contains (s ∷ ss))
all_later s ss (x ∷ xs) all = All-cons (Contains (s ∷ ss)) x xs (contains_later s x ss (All-head (Contains ss) x xs all)) (all_later s ss xs (All-tail (Contains ss) x xs all))

all_contained : (ss : List OpenedSession) → All (Contains ss) ss
all_contained [] = All-nil (Contains [])
all_contained (s ∷ ss) = All-cons (Contains (s ∷ ss)) s ss (0, omega arith, refl) (all_later s ss ss (all_contained ss))

at_end : (ss : List OpenedSession) (x : OpenedSession) → Contains (ss ++ x ∷ []) x
at_end [] x = (0, omega arith, refl)
at_end (s ∷ ss) x = contains_later s x (ss ++ x ∷ []) (at_end ss x)

-- ---- openings, for who reads more and more of a history

-- two sessions of one number are one
pub one_numbered : (log : List Entry) (x y : OpenedSession) → Contains (openings_of log) x → Contains (openings_of log) y → x.number ≡ y.number → x ≡ y
one_numbered log x y = one_of_number 1 (openings_of log) x y (numbers_ascend 1 (filter_map opening_in log))

-- no number is higher than their count
pub number_within : (log : List Entry) (x : OpenedSession) → Contains (openings_of log) x → x.number ≤ length (openings_of log)
number_within log x is = omega (arith, below _ (openings_of log) x (opened_below log) is)

-- what was opened stays so
pub opened_on : (log more : List Entry) (x : OpenedSession) → Contains (openings_of log) x → Contains (openings_of (log ++ more)) x
opened_on log more x is =
    subst (λ (os : List OpenedSession). Contains os x) (sym (openings_on log more)) (Contains-append_left (openings_of log) (numbered_from (1 + length (filter_map opening_in log)) (filter_map opening_in more)) x is)

pub openings_grow : (log more : List Entry) → length (openings_of log) ≤ length (openings_of (log ++ more))
openings_grow log more =
    omega (arith, ap length (openings_on log more), length-append (openings_of log) (numbered_from (1 + length (filter_map opening_in log)) (filter_map opening_in more)))

-- a live session was opened
pub live_opened : (log : List Entry) (sid : List ℕ) (x : OpenedSession) → live_at log sid ≡ Some x → Contains (openings_of log) x
live_opened log sid x is =
    named_all (Contains (openings_of log)) sid (live_of log) x (All-filter _ (Contains (openings_of log)) (openings_of log) (all_contained (openings_of log))) is

-- and so was the one that an entry tells, which has the next number
pub opened_last : (log : List Entry) (e : Entry) (x : OpenedSession) → opening_in e ≡ Some (x.sid, x.gate) → x.number ≡ length (openings_of log) + 1 → Contains (openings_of (log ++ e ∷ [])) x
opened_last log e x tells number = subst (λ (os : List OpenedSession). Contains os x) (sym (opened_more log e x tells number)) (at_end (openings_of log) x)
