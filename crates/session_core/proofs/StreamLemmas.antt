-- What a session knows of its streams stays true as copies are processed, as answers are given, and as the server gives.
use Rattle.std.proofs.Common.{◌≡◌, ◌≢◌, ℕ, suc, ◌+◌, ◌<◌, ◌≤◌, ◌==◌, ◌&&◌, ◌||◌, inl, inr, Bool, true, false, not, cond, List, [], ◌∷◌, ◌++◌, length, Option, Some, None, refl, sym, ◌∙◌, ap, subst, arith}
use Rattle.std.specs.Prelude.{nat_lt, is_some, option_to_list, if◌then◌else◌}
use Rattle.std.specs.List.{find, list_all, list_any}
use Rattle.std.specs.Str.{bytes_eq}
use Rattle.std.proofs.lemmas.Bool.{cases_eq, ne_eqb}
use Rattle.std.proofs.lemmas.Bool.Decides.{nat_tests}
use Rattle.std.proofs.lemmas.List.Folds.{list_any-append}
use Rattle.std.proofs.lemmas.List.Sums.{sum_by_push}
use Rattle.bosh_types.specs.Limits.{most_streams}
use Rattle.bosh_types.specs.declared.ending.Closing.{Closing}
use Rattle.stream_names.specs.PlainStreams.{PlainStreams, after_open, with_all_closed, with_closed, with_next}
use Rattle.stream_names.specs.Streams.{is_among, name_of, named, those, with_stream, without, without_all}
use Rattle.stream_names.proofs.Numbers.{all_those, among, among_all, those_same, with_is, without_all_is, without_is}
use Rattle.session_core.specs.declared.copy.RequestCopy.{RequestCopy}
use Rattle.session_core.specs.declared.outward.Outward.{Outward}
use Rattle.session_core.specs.declared.outward.Outward.TheVariants.{Stanza, Close}
use Rattle.session_core.specs.Copy.{is_add, is_pause, names_host}
use Rattle.session_core.specs.Outward.{OfStanzas, OfClosing, is_close_of, takes_closing}
use Rattle.session_core.specs.Processed.{Processed, closes, ends, targets_among, targets_of}
use Rattle.session_core.specs.StandsFor.{HoldsStreams}
use Rattle.session_core.specs.State.{Answered, is_open_in, opened_in, running_in}

or_false : (b : Bool) → (b || false) ≡ b
or_false true = refl
or_false false = refl

pub any_push : {X : Type 0} (p : X → Bool) (xs : List X) (x : X) → list_any p (xs ++ x ∷ []) ≡ (list_any p xs || p x)
any_push p xs x = list_any-append p xs (x ∷ []) ∙ ap (λ (b : Bool). list_any p xs || b) (or_false (p x))

pub any_same : {X : Type 0} (p : X → Bool) (xs : List X) (x : X) → p x ≡ false → list_any p (xs ++ x ∷ []) ≡ list_any p xs
any_same p xs x fails = any_push p xs x ∙ ap (λ (b : Bool). list_any p xs || b) fails ∙ or_false (list_any p xs)

pub opened_push : (processed : List Processed) (one : Processed) → opened_in (processed ++ one ∷ []) ≡ opened_in processed + (if is_some one.opened then 1 else 0)
opened_push processed one = omega (arith, sum_by_push (λ p. if is_some p.opened then 1 else 0) processed one)

-- a stream that wasn't opened isn't open
pub not_running : (processed : List Processed) (answers : List Answered) (m : ℕ) → opened_in processed ≤ m → is_among (running_in processed answers) m ≡ false
not_running processed answers m above = by (is_among (running_in processed answers) m) refl
  where
    below : (n : ℕ) → is_open_in processed answers n ≡ true → n < opened_in processed
    below n is = first (nat_lt n (opened_in processed)) _ refl is
      where
        first : (a b : Bool) → nat_lt n (opened_in processed) ≡ a → (a && b) ≡ true → n < opened_in processed
        first true b less is = grind (arith, nat_tests, less)
        first false b less is = absurd (cc)

    by : (b : Bool) → is_among (running_in processed answers) m ≡ b → b ≡ false
    by true same = absurd (omega (arith, above, among_all (λ n. n < opened_in processed) (running_in processed answers) m (all_those (is_open_in processed answers) _ (λ n small is. below n is)) same))
    by false other = refl

pub found_among : (test : ℕ → Bool) (xs : List ℕ) (n : ℕ) → find test xs ≡ Some n → is_among xs n ≡ true
found_among test [] n is = absurd (cc)
found_among test (x ∷ xs) n is = by (test x) is (found_among test xs n)
  where
    or_true : (b : Bool) → (b || true) ≡ true
    or_true true = refl
    or_true false = refl

    by : (b : Bool) → cond b (Some x) (find test xs) ≡ Some n → (find test xs ≡ Some n → is_among xs n ≡ true) → ((x == n) || is_among xs n) ≡ true
    by true is rest =
        let same : x ≡ n = cc in
        let yes : (x == n) ≡ true = grind (arith, nat_tests, same) in
        rw yes refl
    by false is rest = ap (λ (b : Bool). (x == n) || b) (rest is) ∙ or_true (x == n)

-- a copy is for open streams alone
pub target_runs : (running : List ℕ) (name : Option (List ℕ)) (m : ℕ) → is_among running m ≡ false → is_among (targets_among running name) m ≡ false
target_runs running None m fails = fails
target_runs running (Some name) m fails = by (named running name) refl
  where
    by : (found : Option ℕ) → named running name ≡ found → is_among (option_to_list found) m ≡ false
    by None is = refl
    by (Some n) is =
        let here : is_among running n ≡ true = found_among (λ stream. bytes_eq (name_of stream) name) running n is in
        let apart : n ≢ m = λ same. absurd (let never : true ≡ false = sym here ∙ ap (is_among running) same ∙ fails in cc) in
        ap (λ (b : Bool). b || false) (ne_eqb n m apart)

pub turned : (m stream : ℕ) → (m == stream) ≡ (stream == m)
turned m stream = elim (cases_eq m stream) [
  | inl same ↦ grind (arith, nat_tests, same)
  | inr other ↦ ne_eqb m stream other ∙ sym (ne_eqb stream m (λ same. other (sym same)))
]

module _ {s : PlainStreams} {processed : List Processed} {answers : List Answered} {given : List Outward} (h : HoldsStreams s processed answers given) where
  -- the server gave a stanza
  pub stanza_streams : (stream : ℕ) (bytes : List ℕ) → HoldsStreams s processed answers (given ++ Stanza stream bytes ∷ [])
  stanza_streams stream bytes = record {
    opened_is = h.opened_is;
    running_is = h.running_is;
    later = λ m above.
        let l = h.later m above in
        (l.0, l.1, any_same (is_close_of m) given (Stanza stream bytes) refl ∙ l.2);
  }

  -- it closed a stream that was opened
  pub closing_streams : (stream : ℕ) (closing : Closing) → stream < opened_in processed → HoldsStreams s processed answers (given ++ Close stream closing ∷ [])
  closing_streams stream closing opened = record {
    opened_is = h.opened_is;
    running_is = h.running_is;
    later = λ m above.
        let l = h.later m above in
        (l.0, l.1, any_same (is_close_of m) given (Close stream closing) (ne_eqb stream m (λ same. omega (arith, above, opened, same))) ∙ l.2);
  }

  -- an answer took stanzas, or nothing
  pub taken_streams : (answer : Answered) (items : List Outward) → answer.front ≡ OfStanzas items → HoldsStreams s processed (answers ++ answer ∷ []) given
  taken_streams answer items is =
      let takes : (m : ℕ) → takes_closing m answer.front ≡ false = λ m. ap (takes_closing m) is in
      let same : (m : ℕ) → list_any (λ a. takes_closing m a.front) (answers ++ answer ∷ []) ≡ list_any (λ a. takes_closing m a.front) answers = λ m. any_same (λ a. takes_closing m a.front) answers answer (takes m) in
      record {
        opened_is = h.opened_is;
        running_is =
            h.running_is
            ∙ those_same _ _ (λ m small. ap (λ (b : Bool). nat_lt m (opened_in processed) && (not (list_any (closes m) processed) && not b)) (sym (same m)));
        later = λ m above.
            let l = h.later m above in
            (l.0, same m ∙ l.1, l.2);
      }

  closed_too : (a c t e : Bool) → ((a && (not c && not t)) && not e) ≡ (a && (not c && not (t || e)))
  closed_too false c t e = refl
  closed_too true true t e = refl
  closed_too true false true e = refl
  closed_too true false false e = refl

  -- an answer took the closing of a stream that was opened
  pub shut_streams : (answer : Answered) (stream : ℕ) (closing : Closing) → answer.front ≡ OfClosing stream closing → stream < opened_in processed
      → HoldsStreams (with_closed s stream) processed (answers ++ answer ∷ []) given
  shut_streams answer stream closing is opened =
      let takes : (m : ℕ) → takes_closing m answer.front ≡ (stream == m) = λ m. ap (takes_closing m) is in
      let more : (m : ℕ) → list_any (λ a. takes_closing m a.front) (answers ++ answer ∷ []) ≡ (list_any (λ a. takes_closing m a.front) answers || (stream == m)) =
      λ m. any_push (λ a. takes_closing m a.front) answers answer ∙ ap (λ (b : Bool). list_any (λ a. takes_closing m a.front) answers || b) (takes m) in
      record {
        opened_is = h.opened_is;
        running_is =
            ap (λ (xs : List ℕ). without xs stream) h.running_is ∙ without_is (is_open_in processed answers) stream
            ∙ those_same _ _ (λ m small.
            ap (λ (b : Bool). is_open_in processed answers m && not b) (turned m stream)
            ∙ closed_too (nat_lt m (opened_in processed)) (list_any (closes m) processed) (list_any (λ a. takes_closing m a.front) answers) (stream == m)
            ∙ ap (λ (b : Bool). nat_lt m (opened_in processed) && (not (list_any (closes m) processed) && not b)) (sym (more m)));
        later = λ m above.
            let l = h.later m above in
            let apart : (stream == m) ≡ false = ne_eqb stream m (λ same. omega (arith, above, opened, same)) in
            (l.0, more m ∙ (λ i. l.1 i || apart i), l.2);
      }

  -- a copy was processed that neither opens a stream nor closes one
  pub passed_streams : (copy : RequestCopy) (running : List ℕ) → copy.request.terminate ≡ false
      → HoldsStreams s (processed ++ record { copy = copy; running = running; opened = None } ∷ []) answers given
  passed_streams copy running goes_on =
      let one : Processed = record { copy = copy; running = running; opened = None } in
      let count : opened_in (processed ++ one ∷ []) ≡ opened_in processed = opened_push processed one ∙ omega arith in
      let none : (m : ℕ) → closes m one ≡ false = λ m. ap (λ (b : Bool). b && is_among (targets_of one) m) goes_on in
      let same : (m : ℕ) → list_any (closes m) (processed ++ one ∷ []) ≡ list_any (closes m) processed = λ m. any_same (closes m) processed one (none m) in
      record {
        opened_is = h.opened_is ∙ sym count;
        running_is = h.running_is ∙ those_same _ _ (λ m small. (λ i. nat_lt m (sym count i) && (not (sym (same m) i) && not (list_any (λ a. takes_closing m a.front) answers))));
        later = λ m above.
            let l = h.later m (omega (arith, above, count)) in
            (same m ∙ l.0, l.1, l.2);
      }

  -- an add was processed that opened the next stream
  pub opened_streams : (copy : RequestCopy) (running : List ℕ) (stream : ℕ) → copy.request.terminate ≡ false
      → HoldsStreams (with_next s) (processed ++ record { copy = copy; running = running; opened = Some stream } ∷ []) answers given
  opened_streams copy running stream goes_on =
      let one : Processed = record { copy = copy; running = running; opened = Some stream } in
      let count : opened_in (processed ++ one ∷ []) ≡ opened_in processed + 1 = opened_push processed one in
      let none : (m : ℕ) → closes m one ≡ false = λ m. ap (λ (b : Bool). b && is_among (targets_of one) m) goes_on in
      let same : (m : ℕ) → list_any (closes m) (processed ++ one ∷ []) ≡ list_any (closes m) processed = λ m. any_same (closes m) processed one (none m) in
      let after : (m : ℕ) → is_open_in (processed ++ one ∷ []) answers m ≡ (nat_lt m (opened_in processed + 1) && (not (list_any (closes m) processed) && not (list_any (λ a. takes_closing m a.front) answers))) =
      λ m i. nat_lt m (count i) && (not (same m i) && not (list_any (λ a. takes_closing m a.front) answers)) in
      record {
        opened_is = ap (λ (n : ℕ). n + 1) h.opened_is ∙ sym count;
        running_is =
            (λ i. with_stream (h.running_is i) (h.opened_is i)) ∙ with_is (is_open_in processed answers) (opened_in processed)
            ∙ those_same _ _ (λ m small. at m ∙ sym (after m));
        later = λ m above.
            let l = h.later m (omega (arith, above, count)) in
            (same m ∙ l.0, l.1, l.2);
      }
    where
      or_true : (b : Bool) → (b || true) ≡ true
      or_true true = refl
      or_true false = refl

      at : (m : ℕ) → (is_open_in processed answers m || (m == opened_in processed))
          ≡ (nat_lt m (opened_in processed + 1) && (not (list_any (closes m) processed) && not (list_any (λ a. takes_closing m a.front) answers)))
      at m = elim (cases_eq m (opened_in processed)) [
        | inl same ↦
            let l = h.later m (omega (arith, same)) in
            let yes : (m == opened_in processed) ≡ true = grind (arith, nat_tests, same) in
            let less : nat_lt m (opened_in processed + 1) ≡ true = grind (arith, nat_tests, same) in
            ap (λ (b : Bool). is_open_in processed answers m || b) yes ∙ or_true (is_open_in processed answers m)
            ∙ sym (λ i. less i && (not (l.0 i) && not (l.1 i)))
        | inr other ↦
            let alike : nat_lt m (opened_in processed) ≡ nat_lt m (opened_in processed + 1) = grind (arith, nat_tests, other) in
            ap (λ (b : Bool). is_open_in processed answers m || b) (ne_eqb m (opened_in processed) other) ∙ or_false (is_open_in processed answers m)
            ∙ ap (λ (b : Bool). b && (not (list_any (closes m) processed) && not (list_any (λ a. takes_closing m a.front) answers))) alike
      ]

  closed_by : (a c t e : Bool) → ((a && (not c && not t)) && not e) ≡ (a && (not (c || e) && not t))
  closed_by false c t e = refl
  closed_by true true t e = refl
  closed_by true false true true = refl
  closed_by true false true false = refl
  closed_by true false false true = refl
  closed_by true false false false = refl

  -- a terminate was processed
  pub ended_streams : (copy : RequestCopy) → copy.request.terminate ≡ true
      → HoldsStreams (with_all_closed s (targets_among s.running copy.request.stream)) (processed ++ record { copy = copy; running = running_in processed answers; opened = None } ∷ []) answers given
  ended_streams copy ends =
      let one : Processed = record { copy = copy; running = running_in processed answers; opened = None } in
      let count : opened_in (processed ++ one ∷ []) ≡ opened_in processed = opened_push processed one ∙ omega arith in
      let closes_is : (m : ℕ) → closes m one ≡ is_among (targets_of one) m = λ m. ap (λ (b : Bool). b && is_among (targets_of one) m) ends in
      let more : (m : ℕ) → list_any (closes m) (processed ++ one ∷ []) ≡ (list_any (closes m) processed || is_among (targets_of one) m) =
      λ m. any_push (closes m) processed one ∙ ap (λ (b : Bool). list_any (closes m) processed || b) (closes_is m) in
      record {
        opened_is = h.opened_is ∙ sym count;
        running_is =
            (λ i. without_all (h.running_is i) (targets_among (h.running_is i) copy.request.stream)) ∙ without_all_is (is_open_in processed answers) (targets_of one)
            ∙ those_same _ _ (λ m small.
            closed_by (nat_lt m (opened_in processed)) (list_any (closes m) processed) (list_any (λ a. takes_closing m a.front) answers) (is_among (targets_of one) m)
            ∙ (λ i. nat_lt m (sym count i) && (not (sym (more m) i) && not (list_any (λ a. takes_closing m a.front) answers))));
        later = λ m above.
            let beyond : opened_in processed ≤ m = omega (arith, above, count) in
            let l = h.later m beyond in
            (more m ∙ (λ i. l.0 i || target_runs (running_in processed answers) copy.request.stream m (not_running processed answers m beyond) i), l.1, l.2);
      }

-- a terminate adds nothing
pub not_add : (copy : RequestCopy) → copy.request.terminate ≡ true → is_add copy ≡ false
not_add copy ends = ap (λ (t : Bool). (((length copy.request.stanzas == 0) && not (is_pause copy)) && not (t || copy.request.restart)) && names_host copy) ends ∙ none ((length copy.request.stanzas == 0) && not (is_pause copy))
  where
    none : (b : Bool) → ((b && false) && names_host copy) ≡ false
    none true = refl
    none false = refl

-- the stream that a copy opens, and what it leaves of the streams
abbrev pub opened_for : PlainStreams → RequestCopy → Option ℕ
opened_for s copy = if is_add copy && nat_lt s.opened most_streams then Some s.opened else None

abbrev pub streams_after : PlainStreams → RequestCopy → PlainStreams
streams_after s copy =
    if copy.request.terminate then with_all_closed (if is_add copy then after_open s else s) (targets_among s.running copy.request.stream)
    else (if is_add copy then after_open s else s)

pub processed_streams : {s : PlainStreams} {processed : List Processed} {answers : List Answered} {given : List Outward} → HoldsStreams s processed answers given → (copy : RequestCopy)
    → HoldsStreams (streams_after s copy) (processed ++ record {
      copy = copy;
      running = running_in processed answers;
      opened = if is_add copy && nat_lt (opened_in processed) most_streams then Some (opened_in processed) else None;
    } ∷ []) answers given
processed_streams {s = s} {processed = processed} {answers = answers} {given = given} h copy =
    subst (λ (n : ℕ). HoldsStreams (streams_after s copy) (processed ++ record {
      copy = copy;
      running = running_in processed answers;
      opened = if is_add copy && nat_lt n most_streams then Some (opened_in processed) else None;
    } ∷ []) answers given) h.opened_is
    (by copy.request.terminate (is_add copy) (nat_lt s.opened most_streams) refl refl)
  where
    by : (t a l : Bool) → copy.request.terminate ≡ t → is_add copy ≡ a
        → HoldsStreams (if t then with_all_closed (if a then (if l then with_next s else s) else s) (targets_among s.running copy.request.stream) else (if a then (if l then with_next s else s) else s))
        (processed ++ record { copy = copy; running = running_in processed answers; opened = if a && l then Some (opened_in processed) else None } ∷ []) answers given
    by true true l ends adds = absurd (let never : true ≡ false = sym adds ∙ not_add copy ends in cc)
    by true false l ends adds = ended_streams h copy ends
    by false true true ends adds = opened_streams h copy (running_in processed answers) (opened_in processed) ends
    by false true false ends adds = passed_streams h copy (running_in processed answers) ends
    by false false l ends adds = passed_streams h copy (running_in processed answers) ends

-- a terminate ends the session exactly where it leaves no stream open
none_left : (others xs : List ℕ) → (length (without_all xs others) == 0) ≡ list_all (is_among others) xs
none_left others [] = refl
none_left others (x ∷ xs) = by (is_among others x) (none_left others xs)
  where
    some : (n : ℕ) → (suc n == 0) ≡ false
    some n = grind (arith, nat_tests)

    by : (b : Bool) → (length (without_all xs others) == 0) ≡ list_all (is_among others) xs
        → (length (cond (not b) (x ∷ without_all xs others) (without_all xs others)) == 0) ≡ (b && list_all (is_among others) xs)
    by true rest = rest
    by false rest = some (length (without_all xs others))

pub ends_is : (copy : RequestCopy) (running : List ℕ) (opened : Option ℕ)
    → ends (record { copy = copy; running = running; opened = opened }) ≡ (copy.request.terminate && (length (without_all running (targets_among running copy.request.stream)) == 0))
ends_is copy running opened = ap (λ (b : Bool). copy.request.terminate && b) (sym (none_left (targets_among running copy.request.stream) running))

-- by what is open after it
pub ends_at : {s : PlainStreams} {processed : List Processed} {answers : List Answered} {given : List Outward} → HoldsStreams s processed answers given → (copy : RequestCopy) (opened : Option ℕ) (running : List ℕ)
    → copy.request.terminate ≡ true → opened ≡ None
    → running ≡ running_in (processed ++ record { copy = copy; running = running_in processed answers; opened = opened } ∷ []) answers
    → ends (record { copy = copy; running = running_in processed answers; opened = opened }) ≡ (length running == 0)
ends_at {processed = processed} {answers = answers} h copy opened running ends none is =
    let left : without_all (running_in processed answers) (targets_among (running_in processed answers) copy.request.stream) ≡ running_in (processed ++ record { copy = copy; running = running_in processed answers; opened = opened } ∷ []) answers =
    (λ i. without_all (sym h.running_is i) (targets_among (sym h.running_is i) copy.request.stream)) ∙ (ended_streams h copy ends).running_is
    ∙ ap (λ (o : Option ℕ). running_in (processed ++ record { copy = copy; running = running_in processed answers; opened = o } ∷ []) answers) (sym none) in
    ends_is copy (running_in processed answers) opened
    ∙ ap (λ (b : Bool). b && (length (without_all (running_in processed answers) (targets_among (running_in processed answers) copy.request.stream)) == 0)) ends
    ∙ ap (λ (xs : List ℕ). length xs == 0) (left ∙ sym is)
