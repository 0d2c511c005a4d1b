-- A turn over a list of numbers, step by step.
use Rattle.std.proofs.Common.{◌≡◌, ◌+◌, ◌<◌, ℕ, Bool, false, List, [], ◌∷◌, length, map, take, get_or, Option, Some, None, IfSome, IfNone, IsSome, Result, Ok, Err, refl, sym, subst, ap, ◌∙◌, true≢false}
use Rattle.std.proofs.lemmas.List.{take_more}
use Rattle.std.proofs.lemmas.List.Elements.{Contains-get_or}
use Rattle.std.proofs.lemmas.Option.{none-some}
use Rattle.std.specs.Bool.{⊤}
use Rattle.std.specs.List.{Contains, list_any}
use Rattle.std.specs.Result.{IsErr}
use Rattle.std.specs.declared.alloc.AllocError.{AllocError}
use Rattle.parked_gate.specs.Passes.{Looks}
use Rattle.session_table.specs.Purses.{Holds, Sessions, held}
use Rattle.session_pump.specs.NumberedTurns.{ServesNumber, TellsFailures, TurnsFor, asked_in_vain, failures_of, none_failed, not_begun, not_counted, told_nobody, turned_for}
use Rattle.session_pump.specs.Pumping.{AsksDirectory, Each, EachPlace, HostFacts, Pumping, Step, and_one, both}
use Rattle.session_pump.specs.Turns.{PollsAt}

-- how many of each host have failed, where each is known by something else
failures_are : {X : Type 0} (facts : X → HostFacts) (stands : List X) → failures_of (map facts stands) ≡ map (λ stand. (facts stand).ends.failures) stands
failures_are facts [] = refl
failures_are facts (stand ∷ stands) = ap (λ (counts : List ℕ). (facts stand).ends.failures ∷ counts) (failures_are facts stands)

-- ---- no memory

pub not_begun_so : {moment : Option ℕ} {numbers : List ℕ} (a : Pumping) (result : Result ⊤ AllocError) → IsErr result → TurnsFor moment numbers a a result
not_begun_so a (Ok done) err = absurd (true≢false (sym err))
not_begun_so a (Err error) err = not_begun error

pub in_vain_so : {moment : Option ℕ} {number : ℕ} (a b : Pumping) (result : Result ⊤ AllocError) → IsErr result → held a.sessions number ≡ None
    → AsksDirectory (Looks (λ log. Unit {0})) a b → ServesNumber moment number a b result
in_vain_so a b (Ok done) err not_held asked = absurd (true≢false (sym err))
in_vain_so a b (Err error) err not_held asked = asked_in_vain error not_held asked

pub not_counted_so : {moment : Option ℕ} {counted : List ℕ} (a : Pumping) (result : Result ⊤ AllocError) → IsErr result → TellsFailures moment counted a a result
not_counted_so a (Ok done) err = absurd (true≢false (sym err))
not_counted_so a (Err error) err = not_counted error

pub told_nobody_so : {moment : Option ℕ} {counted : List ℕ} (a b : Pumping) (result : Result ⊤ AllocError) → IsErr result
    → AsksDirectory (Looks (λ log. Unit {0})) a b → TellsFailures moment counted a b result
told_nobody_so a b (Ok done) err asked = absurd (true≢false (sym err))
told_nobody_so a b (Err error) err asked = told_nobody error asked

-- ---- who is served

pub if_none : {A : Type 0} {P : Type 0} (o : Option A) → o ≡ None → IfNone o P → P
if_none None is told = told
if_none (Some x) is told = absurd (none-some x (sym is))

pub some_is : {A : Type 0} (P : A → Type 0) (o : Option A) (x : A) → o ≡ Some x → IfSome o P → P x
some_is {A} P o x is told = subst (λ (y : Option A). IfSome y P) is told

-- a session is held by a copy of its name
pub holds_copy : (sessions : Sessions) (number : ℕ) (copy sid : List ℕ) → copy ≡ sid → Holds sessions number sid → Holds sessions number copy
holds_copy sessions number copy sid same holds = subst (λ (s : List ℕ). Holds sessions number s) (sym same) holds

pub is_held : (sessions : Sessions) (number : ℕ) (sid : List ℕ) → Holds sessions number sid → IsSome (held sessions number)
is_held sessions number sid holds = subst IsSome (sym holds.is) refl

pub among : {A : Type 0} (xs ys : List A) (x : A) → xs ≡ ys → Contains xs x → Contains ys x
among {A} xs ys x same within = subst (λ (zs : List A). Contains zs x) same within

pub none_among : {A : Type 0} (test : A → Bool) (xs ys : List A) → xs ≡ ys → list_any test xs ≡ false → list_any test ys ≡ false
none_among {A} test xs ys same none = subst (λ (zs : List A). list_any test zs ≡ false) same none

-- one more was tried, at its place in the list
pub each_at : {Does : ℕ → Step} {a b c : Pumping} {first next : Result ⊤ AllocError} (result : Result ⊤ AllocError) (xs : List ℕ) (i d : ℕ)
    → result ≡ both first next → i < length xs → Each Does a (take i xs) b first → Does (get_or xs i d) b c next → Each Does a (take (i + 1) xs) c result
each_at {Does} {a} {b} {c} {first} {next} result xs i d is within each does =
    subst (λ (r : Result ⊤ AllocError). Each Does a (take (i + 1) xs) c r) (sym is)
    (subst (λ (ys : List ℕ). Each Does a ys c (both first next)) (sym (take_more xs i d within)) (and_one (get_or xs i d) each does))

-- an item of a list is one of its elements
pub item_in : {A : Type 0} (xs ys : List A) (i : ℕ) (x : A) → ys ≡ xs → i < length ys → x ≡ get_or ys i x → Contains xs x
item_in {A} xs ys i x same inside item =
    subst (λ (zs : List A). Contains zs x) same (subst (λ (y : A). Contains ys y) (sym item) (Contains-get_or ys i x inside))

-- ---- the end

-- as many have failed as were counted
pub none_failed_so : {X : Type 0} {moment : Option ℕ} (facts : X → HostFacts) (stands : List X) (counts counted : List ℕ) (a : Pumping) → a.hosts ≡ map facts stands
    → counts ≡ map (λ stand. (facts stand).ends.failures) stands → counts ≡ counted → TellsFailures moment counted a a (Ok tt)
none_failed_so facts stands counts counted a hosts are same = none_failed (ap failures_of hosts ∙ failures_are facts stands ∙ sym are ∙ same)

pub turned_so : {X : Type 0} {moment : Option ℕ} {numbers : List ℕ} {b c d : Pumping} {served polled told : Result ⊤ AllocError} (facts : X → HostFacts) (stands : List X)
    (counts counted : List ℕ) (a : Pumping) (after result : Result ⊤ AllocError) → a.hosts ≡ map facts stands → counted ≡ counts
    → counts ≡ map (λ stand. (facts stand).ends.failures) stands → after ≡ both polled told → result ≡ both served after
    → Each (ServesNumber moment) a numbers b served → EachPlace (PollsAt moment) b (length b.hosts) c polled → TellsFailures moment counted c d told
    → TurnsFor moment numbers a d result
turned_so {X} {moment} {numbers} {b} {c} {d} {served} {polled} {told} facts stands counts counted a after result hosts copied are after_is is serves polls tells =
    subst (λ (r : Result ⊤ AllocError). TurnsFor moment numbers a d r) (sym (is ∙ ap (both served) after_is))
    (turned_for serves polls (subst (λ (n : List ℕ). TellsFailures moment n c d told) (copied ∙ are ∙ sym (failures_are facts stands) ∙ ap failures_of (sym hosts)) tells))
