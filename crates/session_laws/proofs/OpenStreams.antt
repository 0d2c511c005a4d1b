-- Which streams are open after a copy was processed, and after an answer was given.
use Rattle.std.proofs.Common.{◌≡◌, ℕ, ◌+◌, ◌<◌, ◌≤◌, ◌==◌, ◌&&◌, ◌||◌, Bool, true, false, not, cond, nat_lt, List, [], ◌∷◌, ◌++◌, Option, Some, None, is_some, length, refl, sym, ◌∙◌, ap, arith, inl, inr}
use Rattle.std.specs.List.{list_all, list_any}
use Rattle.std.proofs.lemmas.Bool.{ltb-true}
use Rattle.std.proofs.lemmas.Bool.Decides.{nat_tests}
use Rattle.bosh_types.specs.Limits.{most_streams}
use Rattle.std.specs.Str.{bytes_eq}
use Rattle.stream_names.specs.Streams.{is_among, name_of, named}
use Rattle.stream_names.proofs.Named.{named_is, named_stream}
use Rattle.stream_names.proofs.Numbers.{all_those, among, among_all}
use Rattle.session_core.specs.declared.copy.RequestCopy.{RequestCopy}
use Rattle.session_core.specs.declared.opening.Opening.{Opening}
use Rattle.session_core.specs.declared.outward.Front.{Front}
use Rattle.session_core.specs.declared.outward.Front.TheVariants.{OfStanzas, OfClosing}
use Rattle.session_core.specs.Answers.{with_answer}
use Rattle.session_core.specs.Facts.{NamesOpen}
use Rattle.session_core.specs.Machine.{as_processed, opened, with_copy}
use Rattle.session_core.specs.Outward.{takes_closing}
use Rattle.session_core.specs.Processed.{Processed, closes, ends, targets_of}
use Rattle.session_core.specs.Rules.{names_none}
use Rattle.session_core.specs.State.{PlainSession, Answered, is_open_in, opened_in, running, running_in}
use Rattle.session_core.proofs.StreamLemmas.{any_same, found_among, opened_push}
use Rattle.session_laws.proofs.Moves.{takes_last}
use Rattle.session_laws.proofs.Tests.{both_true, not_false, not_true, true_false, which}

-- where one is among them, they are some
pub among_some : (xs : List ℕ) (n : ℕ) → is_among xs n ≡ true → (length xs == 0) ≡ false
among_some [] n is = absurd (true_false (sym is))
among_some (x ∷ xs) n is = grind (arith, nat_tests)

first_among : (x : ℕ) (xs : List ℕ) → is_among (x ∷ xs) x ≡ true
first_among x xs =
    let here : (x == x) ≡ true = grind (arith, nat_tests) in
    ap (λ (b : Bool). b || is_among xs x) here

later_among : (x n : ℕ) (xs : List ℕ) → is_among xs n ≡ true → is_among (x ∷ xs) n ≡ true
later_among x n xs is = ap (λ (b : Bool). (x == n) || b) is ∙ or_true (x == n)
  where
    or_true : (b : Bool) → (b || true) ≡ true
    or_true true = refl
    or_true false = refl

-- and where they are some, one is among them
pub some_among : (xs : List ℕ) → (length xs == 0) ≡ false → (n : ℕ) × (is_among xs n ≡ true)
some_among [] some = absurd (true_false some)
some_among (x ∷ xs) some = (x, first_among x xs)

-- not all are among others: one isn't
one_fails : (others xs : List ℕ) → list_all (is_among others) xs ≡ false → (n : ℕ) × (is_among xs n ≡ true) × (is_among others n ≡ false)
one_fails others [] none = absurd (true_false none)
one_fails others (x ∷ xs) none = by (is_among others x) refl none (one_fails others xs)
  where
    by : (b : Bool) → is_among others x ≡ b → (b && list_all (is_among others) xs) ≡ false
        → (list_all (is_among others) xs ≡ false → (n : ℕ) × (is_among xs n ≡ true) × (is_among others n ≡ false))
        → (n : ℕ) × (is_among (x ∷ xs) n ≡ true) × (is_among others n ≡ false)
    by false fails rest later = (x, first_among x xs, fails)
    by true holds rest later =
        let l = later rest in
        (l.0, later_among x l.0 xs l.1, l.2)

-- an open stream, by the lists
pub open_is : (processed : List Processed) (answers : List Answered) (n : ℕ) → is_among (running_in processed answers) n ≡ true → (n < most_streams) × (is_open_in processed answers n ≡ true)
open_is processed answers n is =
    let small : n < most_streams =
    among_all (λ m. m < most_streams) (running_in processed answers) n (all_those (is_open_in processed answers) (λ m. m < most_streams) (λ m low passes. low)) is in
    (small, sym (among (is_open_in processed answers) n small) ∙ is)

pub is_open : (processed : List Processed) (answers : List Answered) (n : ℕ) → n < most_streams → is_open_in processed answers n ≡ true → is_among (running_in processed answers) n ≡ true
is_open processed answers n small is = among (is_open_in processed answers) n small ∙ is

-- what makes it so
pub open_parts : (processed : List Processed) (answers : List Answered) (n : ℕ) → is_open_in processed answers n ≡ true
    → (nat_lt n (opened_in processed) ≡ true) × (list_any (closes n) processed ≡ false) × (list_any (λ answer. takes_closing n answer.front) answers ≡ false)
open_parts processed answers n is =
    let a = both_true (nat_lt n (opened_in processed)) _ is in
    let b = both_true (not (list_any (closes n) processed)) (not (list_any (λ answer. takes_closing n answer.front) answers)) a.1 in
    (a.0, not_true (list_any (closes n) processed) b.0, not_true (list_any (λ answer. takes_closing n answer.front) answers) b.1)

-- it stays open where a copy doesn't close it
copy_leaves : (processed : List Processed) (answers : List Answered) (one : Processed) (n : ℕ) → is_open_in processed answers n ≡ true → closes n one ≡ false
    → is_open_in (processed ++ one ∷ []) answers n ≡ true
copy_leaves processed answers one n is fails =
    let parts = open_parts processed answers n is in
    let less : nat_lt n (opened_in (processed ++ one ∷ [])) ≡ true = later (opened_in processed) (opened_in (processed ++ one ∷ [])) parts.0 (omega (arith, opened_push processed one)) in
    let closed : list_any (closes n) (processed ++ one ∷ []) ≡ false = any_same (closes n) processed one fails ∙ parts.1 in
    let taken : list_any (λ answer. takes_closing n answer.front) answers ≡ false = parts.2 in
    (λ i. less i && (not (closed i) && not (taken i)))
  where
    later : (low high : ℕ) → nat_lt n low ≡ true → low ≤ high → nat_lt n high ≡ true
    later low high less within =
        let below : n < low = ltb-true n low less in
        grind (arith, nat_tests, below)

answer_leaves : (processed : List Processed) (answers : List Answered) (answer : Answered) (n : ℕ) → is_open_in processed answers n ≡ true → takes_closing n answer.front ≡ false
    → is_open_in processed (answers ++ answer ∷ []) n ≡ true
answer_leaves processed answers answer n is fails =
    let parts = open_parts processed answers n is in
    let less : nat_lt n (opened_in processed) ≡ true = parts.0 in
    let closed : list_any (closes n) processed ≡ false = parts.1 in
    let taken : list_any (λ a. takes_closing n a.front) (answers ++ answer ∷ []) ≡ false = any_same (λ a. takes_closing n a.front) answers answer fails ∙ parts.2 in
    (λ i. less i && (not (closed i) && not (taken i)))

-- a copy that doesn't end the session leaves a stream open
pub copy_leaves_some : (s : PlainSession) (copy : RequestCopy) → (length (running s) == 0) ≡ false → ends (as_processed s copy) ≡ false → (length (running (with_copy s copy)) == 0) ≡ false
copy_leaves_some s copy some goes =
    let n = left copy.request.terminate refl in
    let open_now = open_is s.processed s.answered n.0 n.1 in
    among_some (running (with_copy s copy)) n.0
    (is_open (s.processed ++ as_processed s copy ∷ []) s.answered n.0 open_now.0 (copy_leaves s.processed s.answered (as_processed s copy) n.0 open_now.1 n.2))
  where
    left : (t : Bool) → copy.request.terminate ≡ t → (n : ℕ) × (is_among (running s) n ≡ true) × (closes n (as_processed s copy) ≡ false)
    left false is =
        let n = some_among (running s) some in
        (n.0, n.1, ap (λ (b : Bool). b && is_among (targets_of (as_processed s copy)) n.0) is)
    left true is =
        let not_all : list_all (is_among (targets_of (as_processed s copy))) (running s) ≡ false =
        sym (ap (λ (b : Bool). b && list_all (is_among (targets_of (as_processed s copy))) (running s)) is) ∙ goes in
        let n = one_fails (targets_of (as_processed s copy)) (running s) not_all in
        (n.0, n.1, ap (λ (b : Bool). b && is_among (targets_of (as_processed s copy)) n.0) is ∙ n.2)

-- and so does an answer that doesn't take the last closing
pub answer_leaves_some : (s : PlainSession) (one : Processed) (front : Front) → (length (running s) == 0) ≡ false → takes_last (with_answer s one front) front ≡ false
    → (length (running (with_answer s one front)) == 0) ≡ false
answer_leaves_some s one (OfStanzas items) some other =
    let n = some_among (running s) some in
    let open_now = open_is s.processed s.answered n.0 n.1 in
    among_some (running (with_answer s one (OfStanzas items))) n.0
    (is_open s.processed (with_answer s one (OfStanzas items)).answered n.0 open_now.0 (answer_leaves s.processed s.answered _ n.0 open_now.1 refl))
answer_leaves_some s one (OfClosing stream closing) some other = other

-- a session begins with one
pub opened_some : (o : Opening) → (length (running (opened o)) == 0) ≡ false
opened_some o = among_some (running (opened o)) 0 (is_open [] [] 0 (omega arith) refl)

-- The stream that a request names.

-- where an open one has the name
pub names_open : (s : PlainSession) (copy : RequestCopy) → names_none (running s) copy.request.stream ≡ false → NamesOpen s copy
names_open s copy is name named_so =
    let some : is_some (named (running s) name) ≡ true = not_false (is_some (named (running s) name)) (ap (names_none (running s)) (sym named_so) ∙ is) in
    elim (which (named (running s) name)) [
      | inl none ↦ absurd (true_false (sym some ∙ ap is_some none))
      | inr found ↦ (found.0, found_among (λ stream. bytes_eq (name_of stream) name) (running s) found.0 found.1, named_is (running s) name found.0 found.1)
    ]

-- and where none has
pub names_shut : (s : PlainSession) (copy : RequestCopy) → names_none (running s) copy.request.stream ≡ true → NamesOpen s copy → ⊥
names_shut s copy is opens = by copy.request.stream refl
  where
    by : (o : Option (List ℕ)) → copy.request.stream ≡ o → ⊥
    by None none = true_false (sym is ∙ ap (names_none (running s)) none)
    by (Some name) some =
        let open_one = opens name some in
        let small : open_one.0 < most_streams = (open_is s.processed s.answered open_one.0 open_one.1).0 in
        let found : named (running s) name ≡ Some open_one.0 =
        named_stream (is_open_in s.processed s.answered) open_one.0 name small (sym open_one.2) ∙ ap (λ (b : Bool). cond b (Some open_one.0) None) open_one.1 in
        true_false (sym is ∙ ap (names_none (running s)) some ∙ ap (λ (o : Option ℕ). not (is_some o)) found)
