-- When time next has something to do.
use Rattle.std.proofs.Common.{◌≡◌, ℕ, zero, suc, ◌+◌, ◌*◌, ◌^◌, ◌<◌, ◌≤◌, ◌==◌, ◌&&◌, ◌||◌, Bool, true, false, cond, not, nat_lt, nat_le, List, [], ◌∷◌, ◌++◌, filter, map, get_or, length, max, min, take, Option, Some, None, refl, sym, ◌∙◌, ap, subst, arith, inl, inr, ◌⊎◌}
use Rattle.std.specs.Prelude.{IsTrue, IfSome, if◌then◌else◌}
use Rattle.std.specs.List.{list_any, slice_get}
use Rattle.std.proofs.lemmas.List.Folds.{list_any-append, list_any_more}
use Rattle.std.proofs.lemmas.Bool.Decides.{nat_tests}
use Rattle.bosh_types.specs.declared.terms.Terms.{Terms}
use Rattle.pause_rules.specs.Due.{IsFirstMoment, is_gap_due, is_silent_due, is_wait_due, within_moments}
use Rattle.session_core.specs.declared.copy.RequestCopy.{RequestCopy}
use Rattle.session_core.specs.declared.held.HeldRequest.{HeldRequest}
use Rattle.session_core.specs.declared.session.Session.{Session}
use Rattle.session_core.specs.Answers.{Items, Hold, Prompt, Report, Polling, gives_reason, has_reason, has_reason_for, reasons}
use Rattle.session_core.specs.Due.{earlier}
use Rattle.session_core.specs.Gap.{has_waited, ids_ahead, ids_from, is_to_strike, owes_errors}
use Rattle.session_core.specs.Processed.{Processed}
use Rattle.session_core.specs.StandsFor.{Holds, held_of}
use Rattle.session_core.specs.State.{PlainSession, beyond, held, is_over, last_of, standing, standing_at}
use Rattle.session_core.specs.Time.{at_moment, is_due, is_silent, owes_nothing_beyond, quiet_of}
use Rattle.session_core.proofs.StandingLemmas.{terms_is}
use Rattle.session_core.proofs.StruckLemmas.{empty_or_not, ids_more, owes_polled, to_strike_live}
use Rattle.session_core.proofs.WindowLemmas.{beyond_clear}

-- Which of two first moments comes first.

-- it is the first moment, and one of 64 bits
pub record IsFirst (test : ℕ → Bool) (first : Option ℕ) : Type 0 where
  pub first_is : IsFirstMoment test first
  pub small : IfSome first (λ moment. moment < 2 ^ 64)

or_true : (a b : Bool) → a ≡ true → (a || b) ≡ true
or_true true b is = refl
or_true false b is = absurd (cc)

or_true_right : (a b : Bool) → b ≡ true → (a || b) ≡ true
or_true_right true b is = refl
or_true_right false b is = is

or_false : (a b : Bool) → a ≡ false → b ≡ false → (a || b) ≡ false
or_false false b first none = none
or_false true b first none = absurd (cc)

either : (a b : Bool) → (a || b) ≡ true → (a ≡ true) ⊎ (b ≡ true)
either true b is = inl refl
either false b is = inr is

not_both : (b : Bool) → b ≡ true → b ≡ false → ⊥
not_both b holds fails = let never : true ≡ false = sym holds ∙ fails in cc never

-- where a test holds at no moment of 64 bits, it holds at none before a moment of 64 bits
late : (test : ℕ → Bool) (moment other : ℕ) → ((m : ℕ) → m < 2 ^ 64 → test m ≡ false) → moment < 2 ^ 64 → test other ≡ true → moment ≤ other
late test moment other none small is = elim (order other) [
  | inl early ↦ absurd (not_both (test other) is (none other early))
  | inr later ↦ omega (arith, small, later)
]
  where
    order : (n : ℕ) → (n < 2 ^ 64) ⊎ (2 ^ 64 ≤ n)
    order n = by (nat_lt n (2 ^ 64)) refl
      where
        by : (b : Bool) → nat_lt n (2 ^ 64) ≡ b → (n < 2 ^ 64) ⊎ (2 ^ 64 ≤ n)
        by true is = inl (grind (arith, nat_tests, is))
        by false is = inr (grind (arith, nat_tests, is))

pub earlier_is : (one other : ℕ → Bool) (a b : Option ℕ) → IsFirst one a → IsFirst other b → IsFirst (λ m. one m || other m) (earlier a b)
earlier_is one other None None first second = record {
  first_is = λ m small. or_false (one m) (other m) (first.first_is m small) (second.first_is m small);
  small = tt;
}
earlier_is one other None (Some b) first second = record {
  first_is = (
    or_true_right (one b) (other b) (second.first_is).0,
    λ m is. elim (either (one m) (other m) is) [
      | inl holds ↦ late one b m first.first_is second.small holds
      | inr holds ↦ (second.first_is).1 m holds
    ],
  );
  small = second.small;
}
earlier_is one other (Some a) None first second = record {
  first_is = (
    or_true (one a) (other a) (first.first_is).0,
    λ m is. elim (either (one m) (other m) is) [
      | inl holds ↦ (first.first_is).1 m holds
      | inr holds ↦ late other a m second.first_is first.small holds
    ],
  );
  small = first.small;
}
earlier_is one other (Some a) (Some b) first second = by (nat_le a b) refl
  where
    least : (m : ℕ) → (one m || other m) ≡ true → min a b ≤ m
    least m is = elim (either (one m) (other m) is) [
      | inl holds ↦ omega (arith, (first.first_is).1 m holds)
      | inr holds ↦ omega (arith, (second.first_is).1 m holds)
    ]

    by : (c : Bool) → nat_le a b ≡ c → IsFirst (λ m. one m || other m) (Some (min a b))
    by true le =
        let is : min a b ≡ a = grind (arith, nat_tests, le) in
        record {
          first_is = (ap (λ (n : ℕ). one n || other n) is ∙ or_true (one a) (other a) (first.first_is).0, least);
          small = omega (arith, first.small, second.small);
        }
    by false le =
        let is : min a b ≡ b = grind (arith, nat_tests, le) in
        record {
          first_is = (ap (λ (n : ℕ). one n || other n) is ∙ or_true_right (one b) (other b) (second.first_is).0, least);
          small = omega (arith, first.small, second.small);
        }

pub earlier_small : (a b : Option ℕ) → IfSome a (λ moment. moment < 2 ^ 64) → IfSome b (λ moment. moment < 2 ^ 64) → IfSome (earlier a b) (λ moment. moment < 2 ^ 64)
earlier_small None b one other = other
earlier_small (Some a) None one other = one
earlier_small (Some a) (Some b) one other = omega (arith, one, other)

-- two tests that agree have one first moment
pub first_as : (f g : ℕ → Bool) → ((m : ℕ) → f m ≡ g m) → (first : Option ℕ) → IsFirstMoment g first → IsFirstMoment f first
first_as f g same None none = λ m small. same m ∙ none m small
first_as f g same (Some a) is = (same a ∙ is.0, λ m holds. is.1 m (sym (same m) ∙ holds))

-- one request more
pub waits_more : (terms : Terms) (requests : List HeldRequest) (index : ℕ) (request d : HeldRequest) (a b : Option ℕ) → index < length requests → get_or requests index d ≡ request
    → IsFirst (λ now. list_any (λ held. is_wait_due terms held.arrived now) (take index requests)) a → IsFirst (is_wait_due terms request.arrived) b
    → IsFirst (λ now. list_any (λ held. is_wait_due terms held.arrived now) (take (index + 1) requests)) (earlier a b)
waits_more terms requests index request d a b within at first second =
    let both = earlier_is (λ now. list_any (λ held. is_wait_due terms held.arrived now) (take index requests)) (is_wait_due terms request.arrived) a b first second in
    record {
      first_is = first_as (λ now. list_any (λ held. is_wait_due terms held.arrived now) (take (index + 1) requests))
          (λ now. list_any (λ held. is_wait_due terms held.arrived now) (take index requests) || is_wait_due terms request.arrived now)
          (λ now. list_any_more (λ (held : HeldRequest). is_wait_due terms held.arrived now) requests index d within
          ∙ ap (λ (held : HeldRequest). list_any (λ held. is_wait_due terms held.arrived now) (take index requests) || is_wait_due terms held.arrived now) at)
          (earlier a b) both.first_is;
      small = both.small;
    }

-- a moment of 64 bits
pub moment_small : (millis : ℕ) (first : Option ℕ) → first ≡ within_moments millis → IfSome first (λ moment. moment < 2 ^ 64)
moment_small millis first is = subst (λ (o : Option ℕ). IfSome o (λ moment. moment < 2 ^ 64)) (sym is) (by (nat_lt millis (2 ^ 64)) refl)
  where
    by : (b : Bool) → nat_lt millis (2 ^ 64) ≡ b → IfSome (if b then Some millis else None) (λ moment. moment < 2 ^ 64)
    by true less = grind (arith, nat_tests, less)
    by false less = tt

pub none_first : (terms : Terms) → IsFirst (λ now. list_any (λ (held : HeldRequest). is_wait_due terms held.arrived now) []) None
none_first terms = record { first_is = λ m small. refl; small = tt }

-- What time alone changes in a session for which nothing is due at its own moment.

abbrev pressed : Bool → Bool → Bool → Bool → Bool → Bool → Bool
pressed a h w p r q = a || (h || (w || (p || (r || (q || false)))))

-- where no reason holds, a later moment has the one of waiting alone
pressed_later : (a h w later p r q : Bool) → pressed a h w p r q ≡ false → pressed a h later p r q ≡ later
pressed_later true h w later p r q none = absurd (cc)
pressed_later false true w later p r q none = absurd (cc)
pressed_later false false true later p r q none = absurd (cc)
pressed_later false false false later true r q none = absurd (cc)
pressed_later false false false later false true q none = absurd (cc)
pressed_later false false false later false false true none = absurd (cc)
pressed_later false false false true false false false none = refl
pressed_later false false false false false false false none = refl

none_waits : (a h w p r q : Bool) → pressed a h w p r q ≡ false → w ≡ false
none_waits true h w p r q none = absurd (cc)
none_waits false true w p r q none = absurd (cc)
none_waits false false true p r q none = absurd (cc)
none_waits false false false p r q none = refl

later_lt : (x now m : ℕ) → nat_lt x (max now 0) ≡ false → nat_lt x (max now m) ≡ nat_lt x m
later_lt x now m none = grind (arith, nat_tests, none)

later_le : (x now m : ℕ) → nat_le x (max now 0) ≡ false → nat_le x (max now m) ≡ nat_le x m
later_le x now m none = grind (arith, nat_tests, none)

or_parts : (a b : Bool) → (a || b) ≡ false → (a ≡ false) × (b ≡ false)
or_parts true b none = absurd (cc)
or_parts false b none = (refl, none)

-- none has waited its time now: then one has later where it has by that moment itself
waits_later : (terms : Terms) (now m : ℕ) (copies : List Processed) → list_any (λ copy. is_wait_due terms copy.copy.arrived (max now 0)) copies ≡ false
    → list_any (λ copy. is_wait_due terms copy.copy.arrived (max now m)) copies ≡ list_any (λ copy. is_wait_due terms copy.copy.arrived m) copies
waits_later terms now m [] none = refl
waits_later terms now m (copy ∷ copies) none =
    let parts = or_parts (is_wait_due terms copy.copy.arrived (max now 0)) _ none in
    (λ i. later_le (copy.copy.arrived + terms.wait * 1000) now m parts.0 i || waits_later terms now m copies parts.1 i)

-- what is due by time alone
abbrev pub timed : PlainSession → List Processed → ℕ → Bool
timed s [] m = is_silent_due s.period (quiet_of s) m
timed s (copy ∷ copies) m = list_any (λ copy. is_wait_due s.terms copy.copy.arrived m) (held s)

abbrev dues : PlainSession → List Processed → ℕ → Bool
dues s copies n = not (is_over s) && (has_reason_for (record s { now = n }) copies || ((length copies == 0) && is_silent_due s.period (quiet_of s) n))

some_held : (n : ℕ) → (suc n == 0) ≡ false
some_held n = grind (arith, nat_tests)

or_none : (a : Bool) → (a || false) ≡ a
or_none true = refl
or_none false = refl

live : (s : PlainSession) (b : Bool) → is_over s ≡ false → (not (is_over s) && b) ≡ b
live s b on = ap (λ (o : Bool). not o && b) on

-- a session that goes on with requests that are held, or with none
dues_none : (s : PlainSession) (n : ℕ) → is_over s ≡ false → dues s [] n ≡ is_silent_due s.period (quiet_of s) n
dues_none s n on = live s (is_silent_due s.period (quiet_of s) n) on

dues_some : (s : PlainSession) (copy : Processed) (copies : List Processed) (n : ℕ) → is_over s ≡ false
    → dues s (copy ∷ copies) n ≡ list_any (gives_reason (record s { now = n }) copy) reasons
dues_some s copy copies n on =
    live s _ on
    ∙ ap (λ (b : Bool). has_reason_for (record s { now = n }) (copy ∷ copies) || (b && is_silent_due s.period (quiet_of s) n)) (some_held (length copies))
    ∙ or_none (has_reason_for (record s { now = n }) (copy ∷ copies))
    ∙ live s (list_any (gives_reason (record s { now = n }) copy) reasons) on

dues_timed : (s : PlainSession) (copies : List Processed) → is_over s ≡ false → dues s copies (max s.now 0) ≡ false → (m : ℕ) → dues s copies (max s.now m) ≡ timed s copies m
dues_timed s [] on none m =
    dues_none s (max s.now m) on ∙ later_lt (quiet_of s + s.period * 1000) s.now m (sym (dues_none s (max s.now 0) on) ∙ none)
dues_timed s (copy ∷ copies) on none m =
    let quiet = sym (dues_some s copy copies (max s.now 0) on) ∙ none in
    dues_some s copy copies (max s.now m) on
    ∙ pressed_later (gives_reason s copy Items) (gives_reason s copy Hold) (list_any (λ copy. is_wait_due s.terms copy.copy.arrived (max s.now 0)) (held s)) (list_any (λ copy. is_wait_due s.terms copy.copy.arrived (max s.now m)) (held s)) (gives_reason s copy Prompt) (gives_reason s copy Report) (gives_reason s copy Polling) quiet
    ∙ waits_later s.terms s.now m (held s) (none_waits (gives_reason s copy Items) (gives_reason s copy Hold) (list_any (λ copy. is_wait_due s.terms copy.copy.arrived (max s.now 0)) (held s)) (gives_reason s copy Prompt) (gives_reason s copy Report) (gives_reason s copy Polling) quiet)

and_true : (b : Bool) → (b && true) ≡ b
and_true true = refl
and_true false = refl

-- where no copy beyond a gap has its error to come, none is struck, and silence hangs on what is held alone
due_simple : (s : PlainSession) → owes_nothing_beyond s ≡ true → ((n : ℕ) → owes_errors (record s { now = n }) ≡ false) → (m : ℕ) → is_due s m ≡ dues s (held s) (max s.now m)
due_simple s nothing never m =
    let n : ℕ = max s.now m in
    (λ i. not (is_over s) && ((has_reason_for (record s { now = n }) (held s) || never n i) || (((length (held s) == 0) && nothing i) && is_silent_due s.period (quiet_of s) n)))
    ∙ (λ i. not (is_over s) && (or_none (has_reason_for (record s { now = n }) (held s)) i || (and_true (length (held s) == 0) i && is_silent_due s.period (quiet_of s) n)))

-- nothing is due at the session's own moment: then time is due at just these moments
pub due_timed : (s : PlainSession) (copies : List Processed) → held s ≡ copies → is_over s ≡ false → owes_nothing_beyond s ≡ true
    → ((n : ℕ) → owes_errors (record s { now = n }) ≡ false) → is_due s 0 ≡ false → (m : ℕ) → is_due s m ≡ timed s copies m
due_timed s copies are on nothing never none m =
    due_simple s nothing never m ∙ ap (λ l. dues s l (max s.now m)) are
    ∙ dues_timed s copies on (sym (due_simple s nothing never 0 ∙ ap (λ l. dues s l (max s.now 0)) are) ∙ none) m

-- nothing is due after the ending
pub due_over : (s : PlainSession) (m : ℕ) → is_over s ≡ true → is_due s m ≡ false
due_over s m over = ap (λ (o : Bool). not o && ((has_reason (at_moment s m) || owes_errors (at_moment s m)) || is_silent (at_moment s m))) over

-- Where a copy beyond a gap has its error to come.

-- by a later moment a held request has a reason where it has waited its time by that moment
reason_timed : (s : PlainSession) (copies : List Processed) → is_over s ≡ false → held s ≡ copies → has_reason_for (record s { now = max s.now 0 }) copies ≡ false
    → (m : ℕ) → has_reason_for (record s { now = max s.now m }) copies ≡ list_any (λ copy. is_wait_due s.terms copy.copy.arrived m) (held s)
reason_timed s [] on are none m = sym (ap (list_any (λ (copy : Processed). is_wait_due s.terms copy.copy.arrived m)) are)
reason_timed s (copy ∷ copies) on are none m =
    let quiet = sym (live s (list_any (gives_reason (record s { now = max s.now 0 }) copy) reasons) on) ∙ none in
    live s (list_any (gives_reason (record s { now = max s.now m }) copy) reasons) on
    ∙ pressed_later (gives_reason s copy Items) (gives_reason s copy Hold) (list_any (λ copy. is_wait_due s.terms copy.copy.arrived (max s.now 0)) (held s)) (list_any (λ copy. is_wait_due s.terms copy.copy.arrived (max s.now m)) (held s)) (gives_reason s copy Prompt) (gives_reason s copy Report) (gives_reason s copy Polling) quiet
    ∙ waits_later s.terms s.now m (held s) (none_waits (gives_reason s copy Items) (gives_reason s copy Hold) (list_any (λ copy. is_wait_due s.terms copy.copy.arrived (max s.now 0)) (held s)) (gives_reason s copy Prompt) (gives_reason s copy Report) (gives_reason s copy Polling) quiet)

-- and so is a copy struck
test_timed : (s : PlainSession) (m : ℕ) (b : Bool) (o : Option RequestCopy) → (b && has_waited (record s { now = max s.now 0 }) o) ≡ false
    → (b && has_waited (record s { now = max s.now m }) o) ≡ (b && has_waited (record s { now = m }) o)
test_timed s m false o none = refl
test_timed s m true None none = refl
test_timed s m true (Some copy) none = later_le (copy.arrived + s.gap_waits * (s.terms.wait * 1000)) s.now m none

first_out : (b : Bool) (rid : ℕ) (rest : List ℕ) → cond b (rid ∷ rest) rest ≡ [] → (b ≡ false) × (rest ≡ [])
first_out true rid rest none = absurd (cc)
first_out false rid rest none = (refl, none)

strikes_timed : (s : PlainSession) (m : ℕ) (rids : List ℕ) → filter (is_to_strike (record s { now = max s.now 0 })) rids ≡ []
    → filter (is_to_strike (record s { now = max s.now m })) rids ≡ filter (is_to_strike (record s { now = m })) rids
strikes_timed s m [] none = refl
strikes_timed s m (rid ∷ rids) none =
    let parts = first_out (is_to_strike (record s { now = max s.now 0 }) rid) rid (filter (is_to_strike (record s { now = max s.now 0 })) rids) none in
    let test = test_timed s m (nat_lt (last_of s) rid) (standing_at s rid) parts.0 in
    let rest = strikes_timed s m rids parts.1 in
    (λ i. cond (test i) (rid ∷ rest i) (rest i))

owes_timed : (s : PlainSession) → owes_errors (record s { now = max s.now 0 }) ≡ false → (m : ℕ) → owes_errors (record s { now = max s.now m }) ≡ owes_errors (record s { now = m })
owes_timed s none m = by (is_over s || s.terms.polled) none
  where
    by : (b : Bool) → not (length (if b then [] else filter (is_to_strike (record s { now = max s.now 0 })) (ids_ahead s)) == 0) ≡ false
        → not (length (if b then [] else filter (is_to_strike (record s { now = max s.now m })) (ids_ahead s)) == 0)
        ≡ not (length (if b then [] else filter (is_to_strike (record s { now = m })) (ids_ahead s)) == 0)
    by true none = refl
    by false none =
        ap (λ (rids : List ℕ). not (length rids == 0))
        (strikes_timed s m (ids_ahead s) (empty_or_not (filter (is_to_strike (record s { now = max s.now 0 })) (ids_ahead s)) none))

-- what is due by time alone where a copy stands beyond a gap
abbrev pub timed_beyond : PlainSession → ℕ → Bool
timed_beyond s m = list_any (λ copy. is_wait_due s.terms copy.copy.arrived m) (held s) || owes_errors (record s { now = m })

never_silent : (a b c : Bool) → b ≡ false → ((a && b) && c) ≡ false
never_silent true b c none = ap (λ (b : Bool). b && c) none
never_silent false b c none = refl

due_waiting : (s : PlainSession) → is_over s ≡ false → owes_nothing_beyond s ≡ false → (m : ℕ) → is_due s m ≡ (has_reason (at_moment s m) || owes_errors (at_moment s m))
due_waiting s on owes m =
    live s ((has_reason (at_moment s m) || owes_errors (at_moment s m)) || is_silent (at_moment s m)) on
    ∙ ap (λ (b : Bool). (has_reason (at_moment s m) || owes_errors (at_moment s m)) || b) (never_silent (length (held s) == 0) (owes_nothing_beyond s) (is_silent_due s.period (quiet_of s) (max s.now m)) owes)
    ∙ or_none (has_reason (at_moment s m) || owes_errors (at_moment s m))

pub due_beyond : (s : PlainSession) → is_over s ≡ false → owes_nothing_beyond s ≡ false → is_due s 0 ≡ false → (m : ℕ) → is_due s m ≡ timed_beyond s m
due_beyond s on owes none m =
    let parts = or_parts (has_reason (at_moment s 0)) (owes_errors (at_moment s 0)) (sym (due_waiting s on owes 0) ∙ none) in
    due_waiting s on owes m
    ∙ (λ i. reason_timed s (held s) on refl parts.0 m i || owes_timed s parts.1 m i)

-- such a session doesn't poll
pub holds_beyond : (s : PlainSession) → owes_nothing_beyond s ≡ false → s.terms.polled ≡ false
holds_beyond s owes = (or_parts s.terms.polled (length (beyond s) == 0) owes).0

filter_never : (p : ℕ → Bool) (xs : List ℕ) → ((x : ℕ) → p x ≡ false) → filter p xs ≡ []
filter_never p [] never = refl
filter_never p (x ∷ xs) never = ap (λ (b : Bool). cond b (x ∷ filter p xs) (filter p xs)) (never x) ∙ filter_never p xs never

-- where no copy has its error to come, none is struck at any moment
pub owes_never : (s : PlainSession) → owes_nothing_beyond s ≡ true → (n : ℕ) → owes_errors (record s { now = n }) ≡ false
owes_never s nothing n = by (s.terms.polled) refl
  where
    waits : (b : Bool) (rid : ℕ) → nat_lt (last_of s) rid ≡ b → beyond s ≡ [] → (b && has_waited (record s { now = n }) (standing_at s rid)) ≡ false
    waits false rid is none = refl
    waits true rid is none =
        let later : last_of s < rid = grind (arith, nat_tests, is) in
        ap (has_waited (record s { now = n })) (beyond_clear (last_of s) (standing s) rid none later)

    ended : (b : Bool) (rids : List ℕ) → rids ≡ [] → not (length (if b then [] else rids) == 0) ≡ false
    ended true rids none = refl
    ended false rids none = ap (λ (l : List ℕ). not (length l == 0)) none

    clear : (length (beyond s) == 0) ≡ true → beyond s ≡ []
    clear is = empty_or_not (beyond s) (ap not is)

    by : (b : Bool) → s.terms.polled ≡ b → owes_errors (record s { now = n }) ≡ false
    by true polls = owes_polled (record s { now = n }) polls
    by false holds =
        let none : beyond s ≡ [] = clear (sym (ap (λ (b : Bool). b || (length (beyond s) == 0)) holds) ∙ nothing) in
        ended (is_over s || s.terms.polled) (filter (is_to_strike (record s { now = n })) (ids_ahead s))
        (filter_never (is_to_strike (record s { now = n })) (ids_ahead s) (λ rid. waits (nat_lt (last_of s) rid) rid refl none))

-- Of a session that stands for it.

any_map : (p : HeldRequest → Bool) (copies : List Processed) → list_any p (map held_of copies) ≡ list_any (λ copy. p (held_of copy)) copies
any_map p [] = refl
any_map p (copy ∷ copies) = ap (λ (b : Bool). p (held_of copy) || b) (any_map p copies)

module _ {s : Session} {plain : PlainSession} (h : Holds s plain) (on : is_over plain ≡ false) (nothing : owes_nothing_beyond plain ≡ true) (none : is_due plain 0 ≡ false) where
  -- where requests are held, time is due where one of them has waited its time
  pub due_waits : (oldest : HeldRequest) → slice_get s.held 0 ≡ Some oldest → (first : Option ℕ)
      → IsFirstMoment (λ now. list_any (λ held. is_wait_due s.deadlines.terms held.arrived now) s.held) first → IsFirstMoment (is_due plain) first
  due_waits oldest there first is = by (held plain) refl
    where
      agree : (copy : Processed) (copies : List Processed) → held plain ≡ copy ∷ copies → (m : ℕ)
          → is_due plain m ≡ list_any (λ held. is_wait_due s.deadlines.terms held.arrived m) s.held
      agree copy copies are m =
          due_timed plain (copy ∷ copies) are on nothing (owes_never plain nothing) none m
          ∙ sym (any_map (λ held. is_wait_due plain.terms held.arrived m) (held plain))
          ∙ sym (ap (list_any (λ (held : HeldRequest). is_wait_due plain.terms held.arrived m)) h.run.held_is)
          ∙ sym (ap (λ (terms : Terms). list_any (λ (held : HeldRequest). is_wait_due terms held.arrived m) s.held) (terms_is h))

      by : (copies : List Processed) → held plain ≡ copies → IsFirstMoment (is_due plain) first
      by [] are =
          let nothing : slice_get s.held 0 ≡ None = ap (λ (l : List HeldRequest). slice_get l 0) (h.run.held_is ∙ ap (map held_of) are) in
          absurd (let never : Some oldest ≡ None = sym there ∙ nothing in cc never)
      by (copy ∷ copies) are = first_as (is_due plain) _ (agree copy copies are) first is

  -- where none is, it is where the client has been silent for too long
  pub due_silent : slice_get s.held 0 ≡ None → (first : Option ℕ) → IsFirstMoment (is_silent_due plain.period (quiet_of plain)) first → IsFirstMoment (is_due plain) first
  due_silent there first is = by (held plain) refl
    where
      by : (copies : List Processed) → held plain ≡ copies → IsFirstMoment (is_due plain) first
      by [] are = first_as (is_due plain) (is_silent_due plain.period (quiet_of plain)) (due_timed plain [] are on nothing (owes_never plain nothing) none) first is
      by (copy ∷ copies) are =
          let something : slice_get s.held 0 ≡ Some (held_of copy) = ap (λ (l : List HeldRequest). slice_get l 0) (h.run.held_is ∙ ap (map held_of) are) in
          absurd (let never : Some (held_of copy) ≡ None = sym something ∙ there in cc never)

-- where a copy beyond a gap has its error to come, it is where a request has waited its time, or a copy is to be struck
pub due_struck : {s : Session} {plain : PlainSession} → Holds s plain → is_over plain ≡ false → owes_nothing_beyond plain ≡ false → is_due plain 0 ≡ false → (first second : Option ℕ)
    → IsFirst (λ now. list_any (λ held. is_wait_due s.deadlines.terms held.arrived now) s.held) first → IsFirst (λ now. owes_errors (record plain { now = now })) second
    → IsFirstMoment (is_due plain) (earlier first second)
due_struck {s = s} {plain = plain} h on owes none first second waits strikes =
    first_as (is_due plain) (λ now. list_any (λ held. is_wait_due s.deadlines.terms held.arrived now) s.held || owes_errors (record plain { now = now }))
    (λ m.
    due_beyond plain on owes none m
    ∙ ap (λ (b : Bool). b || owes_errors (record plain { now = m }))
    (sym (any_map (λ held. is_wait_due plain.terms held.arrived m) (held plain))
    ∙ sym (ap (list_any (λ (held : HeldRequest). is_wait_due plain.terms held.arrived m)) h.run.held_is)
    ∙ sym (ap (λ (terms : Terms). list_any (λ (held : HeldRequest). is_wait_due terms held.arrived m) s.held) (terms_is h))))
    (earlier first second)
    (earlier_is (λ now. list_any (λ held. is_wait_due s.deadlines.terms held.arrived now) s.held) (λ now. owes_errors (record plain { now = now })) first second waits strikes).first_is

-- Copies of ids one after the other.

-- so many of the first ids: whether one of them is to be struck
abbrev pub any_struck : PlainSession → ℕ → ℕ → Bool
any_struck s count now = list_any (is_to_strike (record s { now = now })) (ids_from (last_of s + 1) count)

pub none_struck : (s : PlainSession) → IsFirst (any_struck s 0) None
none_struck s = record { first_is = λ m small. refl; small = tt }

pub strikes_more : (s : PlainSession) (count rid : ℕ) (a b : Option ℕ) → rid ≡ last_of s + 1 + count → IsFirst (any_struck s count) a
    → IsFirst (λ now. is_to_strike (record s { now = now }) rid) b → IsFirst (any_struck s (count + 1)) (earlier a b)
strikes_more s count rid a b is first second =
    let both = earlier_is (any_struck s count) (λ now. is_to_strike (record s { now = now }) rid) a b first second in
    record {
      first_is = first_as (any_struck s (count + 1)) (λ now. any_struck s count now || is_to_strike (record s { now = now }) rid)
          (λ now.
          ap (list_any (is_to_strike (record s { now = now }))) (ids_more (last_of s + 1) count)
          ∙ list_any-append (is_to_strike (record s { now = now })) (ids_from (last_of s + 1) count) ((last_of s + 1 + count) ∷ [])
          ∙ ap (λ (b : Bool). any_struck s count now || b) (or_none (is_to_strike (record s { now = now }) (last_of s + 1 + count)))
          ∙ ap (λ (r : ℕ). any_struck s count now || is_to_strike (record s { now = now }) r) (sym is))
          (earlier a b) both.first_is;
      small = both.small;
    }

any_filtered : (p : ℕ → Bool) (xs : List ℕ) → list_any p xs ≡ not (length (filter p xs) == 0)
any_filtered p [] = refl
any_filtered p (x ∷ xs) = by (p x) (any_filtered p xs)
  where
    by : (b : Bool) → list_any p xs ≡ not (length (filter p xs) == 0) → (b || list_any p xs) ≡ not (length (cond b (x ∷ filter p xs) (filter p xs)) == 0)
    by true same = ap not (sym (some_held (length (filter p xs))))
    by false same = same

-- in a session that goes on and doesn't poll
pub owes_any : (s : PlainSession) → is_over s ≡ false → s.terms.polled ≡ false → (now : ℕ) → owes_errors (record s { now = now }) ≡ any_struck s (s.terms.requests + 1) now
owes_any s on holds now =
    ap (λ (rids : List ℕ). not (length rids == 0)) (to_strike_live (record s { now = now }) on holds)
    ∙ sym (any_filtered (is_to_strike (record s { now = now })) (ids_ahead s))

pub first_strike : (s : PlainSession) (first : Option ℕ) → is_over s ≡ false → s.terms.polled ≡ false → IsFirst (any_struck s (s.terms.requests + 1)) first
    → IsFirst (λ now. owes_errors (record s { now = now })) first
first_strike s first on holds is = record {
  first_is = first_as (λ now. owes_errors (record s { now = now })) (any_struck s (s.terms.requests + 1)) (owes_any s on holds) first is.first_is;
  small = is.small;
}

-- the copy of one id
pub strike_at : (s : PlainSession) (rid : ℕ) (copy : RequestCopy) (first : Option ℕ) → last_of s < rid → standing_at s rid ≡ Some copy
    → IsFirstMoment (is_gap_due s.terms s.gap_waits copy.arrived) first → IsFirstMoment (λ now. is_to_strike (record s { now = now }) rid) first
strike_at s rid copy first later stands is =
    let test : nat_lt (last_of s) rid ≡ true = grind (arith, nat_tests, later) in
    first_as (λ now. is_to_strike (record s { now = now }) rid) (is_gap_due s.terms s.gap_waits copy.arrived)
    (λ now. (λ i. test i && has_waited (record s { now = now }) (stands i))) first is

pub strike_at_none : (s : PlainSession) (rid : ℕ) → standing_at s rid ≡ None → (m : ℕ) → is_to_strike (record s { now = m }) rid ≡ false
strike_at_none s rid none m =
    ap (λ (o : Option RequestCopy). nat_lt (last_of s) rid && has_waited (record s { now = m }) o) none ∙ and_false (nat_lt (last_of s) rid)
  where
    and_false : (b : Bool) → (b && false) ≡ false
    and_false true = refl
    and_false false = refl
