-- The numbers of sessions: a session that was removed doesn't come again, nor does its number.
use Rattle.std.proofs.Common.{◌≡◌, ◌≢◌, ◌⊎◌, ◌≤◌, ◌<◌, ◌+◌, ℕ, zero, suc, Bool, true, false, cond, List, [], ◌∷◌, ◌++◌, length, map, filter, Some, None, refl, sym, ◌∙◌, ap, subst, inl, inr, true≢false, arith}
use Rattle.std.specs.Prelude.{Contains, bytes_eq, not, ◌||◌}
use Rattle.std.specs.List.{cons_option, filter_map, find, list_any}
use Rattle.std.proofs.lemmas.List.Elements.{All-contains, filter_map-append}
use Rattle.std.proofs.lemmas.Slice.Eq.{bytes_eq-Decides}
use Rattle.parked_gate.specs.Histories.{StartsWith}
use Rattle.parked_gate.specs.Passes.{GateId}
use Rattle.session_table.specs.declared.calls.LiveSession.{LiveSession}
use Rattle.session_table.specs.declared.entry.Entry.{Entry}
use Rattle.session_table.specs.History.{IsLegal, live_at, live_of, opening_in, openings_of, removal_in, removals_of}
use Rattle.session_table.specs.Purses.{IsNumberOf}
use Rattle.session_table.specs.Replies.{live_sessions}
use Rattle.session_table.specs.Sessions.{OpenedSession, is_removed, numbered_from}
use Rattle.session_table.specs.Sids.{IsSidOf}

-- ---- lists

abbrev pub Has : {A : Type 0} → List A → A → Type 0
Has [] x = ⊥
Has (y ∷ ys) x = (y ≡ x) ⊎ Has ys x

pub has_first : {A : Type 0} (xs ys : List A) (x : A) → Has xs x → Has (xs ++ ys) x
has_first [] ys x is = absurd is
has_first (z ∷ zs) ys x (inl here) = inl here
has_first (z ∷ zs) ys x (inr there) = inr (has_first zs ys x there)

pub has_last : {A : Type 0} (xs ys : List A) (x : A) → Has ys x → Has (xs ++ ys) x
has_last [] ys x is = is
has_last (z ∷ zs) ys x is = inr (has_last zs ys x is)

has_contains : {A : Type 0} (xs : List A) (x : A) → Has xs x → Contains xs x
has_contains [] x is = absurd is
has_contains (y ∷ ys) x (inl here) = (0, omega arith, here)
has_contains (y ∷ ys) x (inr there) =
    let c : Contains ys x = has_contains ys x there in
    (suc c.0, omega (arith, c.1), c.2)

head_or_later : {A : Type 0} (s x : A) (ss : List A) → Contains (s ∷ ss) x → (s ≡ x) ⊎ Contains ss x
head_or_later s x ss (zero, in_it, is) = inl is
head_or_later s x ss (suc k, in_it, is) = inr (k, omega (arith, in_it), is)

pub contains_has : {A : Type 0} (xs : List A) (x : A) → Contains xs x → Has xs x
contains_has [] x is = absurd (omega (arith, is.1))
contains_has (y ∷ ys) x is = by (head_or_later y x ys is) (λ later. contains_has ys x later)
  where
    by : (y ≡ x) ⊎ Contains ys x → (Contains ys x → Has ys x) → Has (y ∷ ys) x
    by (inl here) next = inl here
    by (inr there) next = inr (next there)

pub has_mapped : {A B : Type 0} (f : A → B) (xs : List A) (y : B) → Has (map f xs) y → (x : A) × Has xs x × (f x ≡ y)
has_mapped f [] y is = absurd is
has_mapped f (x ∷ xs) y (inl here) = (x, inl refl, here)
has_mapped f (x ∷ xs) y (inr there) =
    let r = has_mapped f xs y there in
    (r.0, inr r.1, r.2)

has_filtered : {A : Type 0} (p : A → Bool) (xs : List A) (x : A) → Has (filter p xs) x → Has xs x × (p x ≡ true)
has_filtered p [] x is = absurd is
has_filtered p (y ∷ ys) x is = by (p y) refl is (λ later. has_filtered p ys x later)
  where
    by : (b : Bool) → p y ≡ b → Has (cond b (y ∷ filter p ys) (filter p ys)) x → (Has (filter p ys) x → Has ys x × (p x ≡ true)) → Has (y ∷ ys) x × (p x ≡ true)
    by true says (inl here) next = (inl here, sym (ap p here) ∙ says)
    by true says (inr there) next = (inr (next there).0, (next there).1)
    by false says there next = (inr (next there).0, (next there).1)

filtered_has : {A : Type 0} (p : A → Bool) (xs : List A) (x : A) → Has xs x → p x ≡ true → Has (filter p xs) x
filtered_has p [] x is says = absurd is
filtered_has p (y ∷ ys) x (inl here) says = subst (λ b. Has (cond b (y ∷ filter p ys) (filter p ys)) x) (sym (ap p here ∙ says)) (inl here)
filtered_has p (y ∷ ys) x (inr there) says = by (p y) (filtered_has p ys x there says)
  where
    by : (b : Bool) → Has (filter p ys) x → Has (cond b (y ∷ filter p ys) (filter p ys)) x
    by true it = inr it
    by false it = it

any_first : {A : Type 0} (p : A → Bool) (xs ys : List A) → list_any p xs ≡ true → list_any p (xs ++ ys) ≡ true
any_first p [] ys is = absurd (true≢false (sym is))
any_first p (x ∷ xs) ys is = by (p x) is (λ later. any_first p xs ys later)
  where
    by : (b : Bool) → (b || list_any p xs) ≡ true → (list_any p xs ≡ true → list_any p (xs ++ ys) ≡ true) → (b || list_any p (xs ++ ys)) ≡ true
    by true is next = refl
    by false is next = next is

any_last : {A : Type 0} (p : A → Bool) (xs ys : List A) → list_any p ys ≡ true → list_any p (xs ++ ys) ≡ true
any_last p [] ys is = is
any_last p (x ∷ xs) ys is = by (p x) (any_last p xs ys is)
  where
    by : (b : Bool) → list_any p (xs ++ ys) ≡ true → (b || list_any p (xs ++ ys)) ≡ true
    by true next = refl
    by false next = next

-- ---- sessions that were opened

numbered_more : (n : ℕ) (xs ys : List (List ℕ × GateId)) → numbered_from n (xs ++ ys) ≡ numbered_from n xs ++ numbered_from (n + length xs) ys
numbered_more n [] ys = ap (λ k. numbered_from k ys) (as_it_is n)
  where
    as_it_is : (k : ℕ) → k ≡ k + 0
    as_it_is k = omega arith
numbered_more n (x ∷ xs) ys =
    ap (λ zs. record { sid = x.0; number = n; gate = x.1 } ∷ zs) (numbered_more (n + 1) xs ys ∙ ap (λ k. numbered_from (n + 1) xs ++ numbered_from k ys) (one_on n (length xs)))
  where
    one_on : (k m : ℕ) → k + 1 + m ≡ k + suc m
    one_on k m = omega arith

numbered_above : (n : ℕ) (xs : List (List ℕ × GateId)) (x : OpenedSession) → Has (numbered_from n xs) x → n ≤ x.number
numbered_above n [] x is = absurd is
numbered_above n (y ∷ ys) x (inl here) = omega (arith, ap (λ (z : OpenedSession). z.number) here)
numbered_above n (y ∷ ys) x (inr there) = omega (arith, numbered_above (n + 1) ys x there)

numbered_below : (n : ℕ) (xs : List (List ℕ × GateId)) (x : OpenedSession) → Has (numbered_from n xs) x → x.number < n + length (numbered_from n xs)
numbered_below n [] x is = absurd is
numbered_below n (y ∷ ys) x (inl here) = omega (arith, ap (λ (z : OpenedSession). z.number) here)
numbered_below n (y ∷ ys) x (inr there) = by (length (numbered_from (n + 1) ys)) (numbered_below (n + 1) ys x there)
  where
    by : (k : ℕ) → x.number < n + 1 + k → x.number < n + suc k
    by k less = omega (arith, less)

one_of_number : (n : ℕ) (xs : List (List ℕ × GateId)) (x y : OpenedSession) → Has (numbered_from n xs) x → Has (numbered_from n xs) y → x.number ≡ y.number → x ≡ y
one_of_number n [] x y is_x is_y same = absurd is_x
one_of_number n (z ∷ zs) x y (inl here) (inl also) same = sym here ∙ also
one_of_number n (z ∷ zs) x y (inl here) (inr there) same =
    absurd (omega (arith, numbered_above (n + 1) zs y there, ap (λ (z : OpenedSession). z.number) here, same))
one_of_number n (z ∷ zs) x y (inr there) (inl here) same =
    absurd (omega (arith, numbered_above (n + 1) zs x there, ap (λ (z : OpenedSession). z.number) here, same))
one_of_number n (z ∷ zs) x y (inr there) (inr also) same = one_of_number (n + 1) zs x y there also same

pub opening_stays : (log later : List Entry) (x : OpenedSession) → StartsWith later log → Has (openings_of log) x → Has (openings_of later) x
opening_stays log later x (rest, is) there =
    subst (λ l. Has (openings_of l) x) (sym is)
    (subst (λ os. Has os x) (sym (ap (numbered_from 1) (filter_map-append opening_in log rest) ∙ numbered_more 1 (filter_map opening_in log) (filter_map opening_in rest)))
    (has_first (openings_of log) (numbered_from (1 + length (filter_map opening_in log)) (filter_map opening_in rest)) x there))

removal_stays : (log later : List Entry) (x : OpenedSession) → StartsWith later log → is_removed (removals_of log) x ≡ true → is_removed (removals_of later) x ≡ true
removal_stays log later x (rest, is) there =
    subst (λ l. is_removed (removals_of l) x ≡ true) (sym is)
    (subst (λ rs. is_removed rs x ≡ true) (sym (filter_map-append removal_in log rest))
    (any_first (bytes_eq x.sid) (removals_of log) (filter_map removal_in rest) there))

-- a session was opened under this number and this name
pub record IsOpening (n : ℕ) (sid : List ℕ) (log : List Entry) : Type 0 where
  pub session : OpenedSession
  pub there : Has (openings_of log) session
  pub number : session.number ≡ n
  pub named : session.sid ≡ sid

-- and was removed
pub record IsGone (n : ℕ) (log : List Entry) : Type 0 where
  pub session : OpenedSession
  pub there : Has (openings_of log) session
  pub number : session.number ≡ n
  pub removed : is_removed (removals_of log) session ≡ true

pub opening_later : (n : ℕ) (sid : List ℕ) (log later : List Entry) → StartsWith later log → IsOpening n sid log → IsOpening n sid later
opening_later n sid log later starts o =
    record { session = o.session; there = opening_stays log later o.session starts o.there; number = o.number; named = o.named }

pub gone_later : (n : ℕ) (log later : List Entry) → StartsWith later log → IsGone n log → IsGone n later
gone_later n log later starts g = record {
  session = g.session;
  there = opening_stays log later g.session starts g.there;
  number = g.number;
  removed = removal_stays log later g.session starts g.removed;
}

one_opening : (log : List Entry) (x y : OpenedSession) → Has (openings_of log) x → Has (openings_of log) y → x.number ≡ y.number → x ≡ y
one_opening log x y is_x is_y same = one_of_number 1 (filter_map opening_in log) x y is_x is_y same

pub one_name : (n : ℕ) (log : List Entry) (sid other : List ℕ) → IsOpening n sid log → IsOpening n other log → sid ≡ other
one_name n log sid other o p =
    sym o.named ∙ (ap (λ (z : OpenedSession). z.sid) (one_opening log o.session p.session o.there p.there (o.number ∙ sym p.number)) ∙ p.named)

-- ---- live sessions

pub live_opened : (log : List Entry) (session : LiveSession) → Has (live_sessions log) session → IsOpening session.number session.sid log
live_opened log session is =
    let r = has_mapped (λ (s : OpenedSession). record { sid = s.sid; number = s.number }) (live_of log) session is in
    record {
      session = r.0;
      there = (has_filtered _ (openings_of log) r.0 r.1).0;
      number = ap (λ (s : LiveSession). s.number) r.2;
      named = ap (λ (s : LiveSession). s.sid) r.2;
    }

pub live_isnt_gone : (log : List Entry) (session : LiveSession) → Has (live_sessions log) session → IsGone session.number log → ⊥
live_isnt_gone log session is g =
    let r = has_mapped (λ (s : OpenedSession). record { sid = s.sid; number = s.number }) (live_of log) session is in
    let f = has_filtered (λ s. not (is_removed (removals_of log) s)) (openings_of log) r.0 r.1 in
    let same : g.session ≡ r.0 = one_opening log g.session r.0 g.there f.0 (g.number ∙ sym (ap (λ (s : LiveSession). s.number) r.2)) in
    true≢false (sym (f.1) ∙ ap not (sym (ap (is_removed (removals_of log)) same) ∙ g.removed))

-- ---- the numbers of live sessions are different

abbrev RisesBy : {A : Type 0} → (A → ℕ) → ℕ → List A → Type 0
RisesBy f n [] = Unit {0}
RisesBy f n (x ∷ xs) = (n ≤ f x) × RisesBy f (f x + 1) xs

rises_from : {A : Type 0} (f : A → ℕ) (n m : ℕ) (xs : List A) → n ≤ m → RisesBy f m xs → RisesBy f n xs
rises_from f n m [] less rises = tt
rises_from f n m (x ∷ xs) less rises = (omega (arith, less, rises.0), rises.1)

abbrev its_number : OpenedSession → ℕ
its_number s = s.number

rises_filtered : (p : OpenedSession → Bool) (n : ℕ) (xs : List OpenedSession) → RisesBy its_number n xs → RisesBy its_number n (filter p xs)
rises_filtered p n [] rises = tt
rises_filtered p n (x ∷ xs) rises = by (p x) (rises_filtered p (x.number + 1) xs rises.1)
  where
    by : (b : Bool) → RisesBy its_number (x.number + 1) (filter p xs) → RisesBy its_number n (cond b (x ∷ filter p xs) (filter p xs))
    by true rest = (rises.0, rest)
    by false rest = rises_from its_number n (x.number + 1) (filter p xs) (omega (arith, rises.0)) rest

rises_numbered : (n : ℕ) (xs : List (List ℕ × GateId)) → RisesBy its_number n (numbered_from n xs)
rises_numbered n [] = tt
rises_numbered n (x ∷ xs) = (omega arith, rises_numbered (n + 1) xs)

abbrev live_number : LiveSession → ℕ
live_number s = s.number

rises_told : (n : ℕ) (xs : List OpenedSession) → RisesBy its_number n xs
    → RisesBy live_number n (map (λ session. record { sid = session.sid; number = session.number }) xs)
rises_told n [] rises = tt
rises_told n (x ∷ xs) rises = (rises.0, rises_told (x.number + 1) xs rises.1)

rises_apart : {A : Type 0} (f : A → ℕ) (n : ℕ) (before after : List A) (x y : A) → RisesBy f n (before ++ x ∷ after) → Has before y → f y < f x
rises_apart f n [] after x y rises is = absurd is
rises_apart f n (z ∷ zs) after x y rises (inl here) = omega (arith, ap f here, above (f z + 1) zs rises.1)
  where
    above : (m : ℕ) (ws : List _) → RisesBy f m (ws ++ x ∷ after) → m ≤ f x
    above m [] up = up.0
    above m (w ∷ ws) up = omega (arith, up.0, above (f w + 1) ws up.1)
rises_apart f n (z ∷ zs) after x y rises (inr there) = rises_apart f (f z + 1) zs after x y rises.1 there

pub live_apart : (log : List Entry) (before after : List LiveSession) (x y : LiveSession) → live_sessions log ≡ before ++ x ∷ after → Has before y → y.number ≢ x.number
live_apart log before after x y is there same =
    let rises : RisesBy live_number 1 (live_sessions log) =
    rises_told 1 (live_of log) (rises_filtered _ 1 (openings_of log) (rises_numbered 1 (filter_map opening_in log))) in
    let less : y.number < x.number = rises_apart live_number 1 before after x y (subst (RisesBy live_number 1) is rises) there in
    omega (arith, less, same)

-- a name of a session that was opened tells its number
pub name_tells : (log final : List Entry) (sid : List ℕ) (n number : ℕ) → StartsWith final log → IsLegal final → IsOpening n sid log → IsNumberOf sid number → number ≡ n
name_tells log final sid n number starts legal o tells =
    let p : IsOpening n sid final = opening_later n sid log final starts o in
    let is_sid : IsSidOf p.session.sid p.session.number = All-contains (λ s. IsSidOf s.sid s.number) (openings_of final) p.session legal.named (has_contains (openings_of final) p.session p.there) in
    let below : p.session.number < 1 + length (openings_of final) = numbered_below 1 (filter_map opening_in final) p.session p.there in
    tells n (omega (arith, below, legal.few_opened, p.number)) (subst (λ k. IsSidOf sid k) p.number (subst (λ t. IsSidOf t p.session.number) p.named is_sid))

-- ---- removing

some_isnt : {A : Type 0} (x : A) → Some x ≡ None → ⊥
some_isnt x e = cc

none_named : (sid : List ℕ) (ss : List OpenedSession) (x : OpenedSession) → find (λ (session : OpenedSession). bytes_eq session.sid sid) ss ≡ None → Has ss x → x.sid ≡ sid → ⊥
none_named sid [] x is there same = there
none_named sid (s ∷ ss) x is (inl here) same =
    let it : bytes_eq s.sid sid ≡ true = (bytes_eq-Decides s.sid sid).1 (ap (λ (z : OpenedSession). z.sid) here ∙ same) in
    some_isnt s (ap (λ b. cond b (Some s) (find (λ (session : OpenedSession). bytes_eq session.sid sid) ss)) (sym it) ∙ is)
none_named sid (s ∷ ss) x is (inr there) same = by (bytes_eq s.sid sid) is (λ none. none_named sid ss x none there same)
  where
    by : (b : Bool) → cond b (Some s) (find (λ (session : OpenedSession). bytes_eq session.sid sid) ss) ≡ None
        → (find (λ (session : OpenedSession). bytes_eq session.sid sid) ss ≡ None → ⊥) → ⊥
    by true none next = some_isnt s none
    by false none next = next none

-- who was opened and isn't live was removed
pub not_live_is_gone : (n : ℕ) (sid : List ℕ) (log : List Entry) → IsOpening n sid log → live_at log sid ≡ None → IsGone n log
not_live_is_gone n sid log o unknown = record {
  session = o.session;
  there = o.there;
  number = o.number;
  removed = by (is_removed (removals_of log) o.session) refl;
}
  where
    by : (b : Bool) → is_removed (removals_of log) o.session ≡ b → is_removed (removals_of log) o.session ≡ true
    by true is = is
    by false is = absurd (none_named sid (live_of log) o.session unknown (filtered_has _ (openings_of log) o.session o.there (ap not is)) o.named)

pub removed_is_gone : (n : ℕ) (sid : List ℕ) (log later : List Entry) (entry : Entry) → IsOpening n sid log → removal_in entry ≡ Some sid → later ≡ log ++ entry ∷ [] → IsGone n later
removed_is_gone n sid log later entry o tells is =
    let p : IsOpening n sid later = opening_later n sid log later (entry ∷ [], is) o in
    record {
      session = p.session;
      there = p.there;
      number = p.number;
      removed = subst (λ l. is_removed (removals_of l) p.session ≡ true) (sym is)
          (subst (λ rs. is_removed rs p.session ≡ true) (sym (filter_map-append removal_in log (entry ∷ []) ∙ ap (λ o. removals_of log ++ cons_option o []) tells))
          (any_last (bytes_eq p.session.sid) (removals_of log) (sid ∷ [])
          (ap (λ b. b || false) ((bytes_eq-Decides p.session.sid sid).1 p.named))));
    }
