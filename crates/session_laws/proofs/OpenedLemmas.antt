-- Which streams were open for a copy, by the copies before it and the answers that were given.
use Rattle.std.proofs.Common.{◌≡◌, ◌≢◌, ◌↔◌, ℕ, zero, suc, ◌+◌, ◌<◌, ◌≤◌, ◌==◌, ◌&&◌, ◌||◌, Bool, true, false, not, nat_lt, List, [], ◌∷◌, ◌++◌, Option, Some, None, is_some, get_or, length, min, take, slice_get, IsTrue, refl, sym, ◌∙◌, ap, ap₂, arith, subst, if◌then◌else◌, inl, inr}
use Rattle.std.specs.Prelude.{option_to_list}
use Rattle.std.specs.List.{list_all, list_any, sum_by}
use Rattle.std.proofs.lemmas.Bool.{eqb-true, ltb-false, ltb-true}
use Rattle.std.proofs.lemmas.Bool.Decides.{nat_tests}
use Rattle.std.proofs.lemmas.List.{length-take-le}
use Rattle.bosh_types.specs.Limits.{most_streams}
use Rattle.bosh_types.specs.declared.ending.Ending.{Ending}
use Rattle.stream_names.specs.Streams.{is_among, name_of, named}
use Rattle.stream_names.proofs.Named.{named_is}
use Rattle.session_core.specs.declared.copy.RequestCopy.{RequestCopy}
use Rattle.session_core.specs.Copy.{is_add}
use Rattle.session_core.specs.Journal.{Entry, Journal, IsJournal, state_of}
use Rattle.session_core.specs.Outward.{takes_closing}
use Rattle.session_core.specs.Processed.{Processed, closes, copies_of, ends, targets_among, targets_of}
use Rattle.session_core.specs.Rules.{Asks, asked_with, broken_rule, names_none}
use Rattle.session_core.specs.Run.{Completes, key_after, state_testing}
use Rattle.session_core.specs.State.{PlainSession, Answered, is_open_in, opened_in, running_in}
use Rattle.session_core.proofs.StreamLemmas.{opened_push}
use Rattle.session_laws.specs.RunEnded.{BreaksNoRule, opens_after}
use Rattle.session_laws.specs.Streams.{IsClosedBy, IsOpenAt, IsShutBy, opened_before}
use Rattle.session_laws.proofs.AckLemmas.{complete_one}
use Rattle.session_laws.proofs.AloneLemmas.{any_at, get_take}
use Rattle.session_laws.proofs.Counts.{sum_by_push}
use Rattle.session_laws.proofs.Lists.{copies_push, copy_at, get_copies, get_some, get_within}
use Rattle.session_laws.proofs.OneEndedRun.{take_more}
use Rattle.session_laws.proofs.OpenStreams.{is_open, open_is, open_parts}
use Rattle.session_laws.proofs.RuleLemmas.{rule-by}
use Rattle.session_laws.proofs.RunAtEnd.{every_ruled}
use Rattle.session_laws.proofs.Tests.{both_true, is_or_not, neither, none_some, not_false, some_is, true_false, which}

module _ {X : Type 0} where
  -- of what one is, some one of them is
  pub any_some : (p : X → Bool) (xs : List X) → list_any p xs ≡ true → (k : ℕ) × (x : X) × (slice_get xs k ≡ Some x) × (p x ≡ true)
  any_some p [] is = absurd (true_false (sym is))
  any_some p (x ∷ xs) is = by (p x) refl is (any_some p xs)
    where
      by : (b : Bool) → p x ≡ b → (b || list_any p xs) ≡ true → (list_any p xs ≡ true → (k : ℕ) × (y : X) × (slice_get xs k ≡ Some y) × (p y ≡ true))
          → (k : ℕ) × (y : X) × (slice_get (x ∷ xs) k ≡ Some y) × (p y ≡ true)
      by true here any later = (0, x, refl, here)
      by false here any later =
          let l = later any in
          (suc l.0, l.1, l.2, l.3)

-- How many were opened.

-- one more copy: an add opens the next stream, where fewer than eight were opened
more_opened : (opened adds : ℕ) (add : Bool) → opened ≡ min most_streams (1 + adds)
    → opened + (if is_some (if add && nat_lt opened most_streams then Some opened else None) then 1 else 0) ≡ min most_streams (1 + (adds + (if add then 1 else 0)))
more_opened opened adds false is = omega (arith, is)
more_opened opened adds true is = by (nat_lt opened most_streams) refl
  where
    by : (less : Bool) → nat_lt opened most_streams ≡ less → opened + (if is_some (if true && less then Some opened else None) then 1 else 0) ≡ min most_streams (1 + (adds + 1))
    by true below = omega (arith, is, ltb-true opened most_streams below)
    by false above = omega (arith, is, ltb-false opened most_streams above)

abbrev adds_of : List RequestCopy → ℕ
adds_of copies = sum_by (λ copy. if is_add copy then 1 else 0) copies

module _ (processed : List Processed) (opens : (k : ℕ) (one : Processed) → slice_get processed k ≡ Some one → one.opened ≡ opens_after (take k processed) one.copy) where
  pub opened_is : (k : ℕ) → k ≤ length processed → opened_in (take k processed) ≡ opened_before (copies_of (take k processed))
  opened_is zero within = refl
  opened_is (suc k) within =
      let lower : List Processed = take k processed in
      let x = get_some processed k (omega (arith, within)) in
      let more : take (suc k) processed ≡ lower ++ x.0 ∷ [] = take_more processed k x.0 x.1 in
      let opened : x.0.opened ≡ opens_after lower x.0.copy = opens k x.0 x.1 in
      let before : opened_in lower ≡ opened_before (copies_of lower) = opened_is k (omega (arith, within)) in
      ap opened_in more ∙ opened_push lower x.0 ∙ ap (λ (o : Option ℕ). opened_in lower + (if is_some o then 1 else 0)) opened
      ∙ more_opened (opened_in lower) (adds_of (copies_of lower)) (is_add x.0.copy) before
      ∙ ap (λ (n : ℕ). min most_streams (1 + n)) (sym (sum_by_push (λ (copy : RequestCopy). if is_add copy then 1 else 0) (copies_of lower) x.0.copy))
      ∙ ap opened_before (sym (copies_push lower x.0)) ∙ ap (λ (l : List Processed). opened_before (copies_of l)) (sym more)

-- What closes a stream.

-- all of them are among them
all_in : (xs ys : List ℕ) → ((n : ℕ) → is_among ys n ≡ true → is_among xs n ≡ true) → list_all (is_among xs) ys ≡ true
all_in xs [] inside = refl
all_in xs (y ∷ ys) inside =
    let here : is_among xs y ≡ true = inside y (first y ys) in
    let rest : list_all (is_among xs) ys ≡ true = all_in xs ys (λ n is. inside n (later y n ys is)) in
    (λ i. here i && rest i)
  where
    first : (y : ℕ) (ys : List ℕ) → is_among (y ∷ ys) y ≡ true
    first y ys =
        let same : (y == y) ≡ true = grind (arith, nat_tests) in
        ap (λ (b : Bool). b || is_among ys y) same

    or_true : (b : Bool) → (b || true) ≡ true
    or_true true = refl
    or_true false = refl

    later : (y n : ℕ) (ys : List ℕ) → is_among ys n ≡ true → is_among (y ∷ ys) n ≡ true
    later y n ys is = ap (λ (b : Bool). (y == n) || b) is ∙ or_true (y == n)

-- two streams of one name are one
same_stream : (one other : ℕ) → name_of one ≡ name_of other → one ≡ other
same_stream one other same =
    let digits : 48 + one ≡ 48 + other = ap (λ (name : List ℕ). get_or name 1 0) same in
    omega (arith, digits)

alone_among : (n stream : ℕ) → is_among (n ∷ []) stream ≡ true → n ≡ stream
alone_among n stream is = eqb-true n stream (by (n == stream) is)
  where
    by : (b : Bool) → (b || false) ≡ true → b ≡ true
    by true is = refl
    by false is = absurd (true_false (sym is))

-- a terminate that doesn't end the session closes the stream that it names, and no other
closes_named : (one : Processed) (stream : ℕ) → ends one ≡ false → closes stream one ≡ true → (one.copy.request.terminate ≡ true) × (one.copy.request.stream ≡ Some (name_of stream))
closes_named one stream goes is =
    let both = both_true one.copy.request.terminate (is_among (targets_of one) stream) is in
    (both.0, by one.copy.request.stream refl both.0 both.1)
  where
    by : (o : Option (List ℕ)) → one.copy.request.stream ≡ o → one.copy.request.terminate ≡ true → is_among (targets_of one) stream ≡ true → one.copy.request.stream ≡ Some (name_of stream)
    by None none terminates among =
        let all : list_all (is_among (targets_of one)) one.running ≡ true =
        ap (λ (o : Option (List ℕ)). list_all (is_among (targets_among one.running o)) one.running) none ∙ all_in one.running one.running (λ n is_one. is_one) in
        absurd (true_false (sym (λ i. terminates i && all i) ∙ goes))
    by (Some name) some terminates among =
        elim (which (named one.running name)) [
          | inl nowhere ↦
              absurd (true_false (sym among ∙ ap (λ (o : Option (List ℕ)). is_among (targets_among one.running o) stream) some ∙ ap (λ (o : Option ℕ). is_among (option_to_list o) stream) nowhere))
          | inr found ↦
              let at : is_among (found.0 ∷ []) stream ≡ true =
              sym (ap (λ (o : Option (List ℕ)). is_among (targets_among one.running o) stream) some ∙ ap (λ (o : Option ℕ). is_among (option_to_list o) stream) found.1) ∙ among in
              some ∙ ap Some (sym (named_is one.running name found.0 found.1) ∙ ap name_of (alone_among found.0 stream at))
        ]

-- one that breaks no rule closes what it names
named_closes : (one : Processed) (stream : ℕ) → names_none one.running one.copy.request.stream ≡ false → one.copy.request.terminate ≡ true → one.copy.request.stream ≡ Some (name_of stream) → closes stream one ≡ true
named_closes one stream known terminates names =
    let some : is_some (named one.running (name_of stream)) ≡ true =
    not_false (is_some (named one.running (name_of stream))) (ap (names_none one.running) (sym names) ∙ known) in
    elim (which (named one.running (name_of stream))) [
      | inl none ↦ absurd (true_false (sym some ∙ ap is_some none))
      | inr found ↦
          let same : found.0 ≡ stream = same_stream found.0 stream (named_is one.running (name_of stream) found.0 found.1) in
          let targets : targets_of one ≡ stream ∷ [] =
          ap (targets_among one.running) names ∙ ap option_to_list found.1 ∙ ap (λ (n : ℕ). n ∷ []) same in
          let here : (stream == stream) ≡ true = grind (arith, nat_tests) in
          (λ i. terminates i && is_among (targets i) stream) ∙ ap (λ (b : Bool). b || false) here
    ]

-- a copy that breaks no rule names an open stream, if any
known_of : (asks : Asks) (copy : RequestCopy) → broken_rule asks copy ≡ None → names_none asks.running copy.request.stream ≡ false
known_of asks copy unbroken = rule-by asks copy (λ o. o ≡ None → names_none asks.running copy.request.stream ≡ false) (record {
  wrong_key = λ wrong is. absurd (some_none _ is);
  no_stream = λ key stream is. absurd (some_none _ is);
  too_long = λ key stream seconds asked longer is. stream;
  too_active = λ key stream short active is. stream;
  allowed = λ key stream short calm is. stream;
}) unbroken
  where
    some_none : (ending : Ending) → Some ending ≡ None → ⊥
    some_none ending is = cc

module _ (journal : Journal) (rules : BreaksNoRule journal (state_of journal).processed) (k : ℕ) (one : Processed) (at : slice_get (state_of journal).processed k ≡ Some one) where
  abbrev processed : List Processed
  processed = (state_of journal).processed

  abbrev lower : List Processed
  lower = take k processed

  within : k < length processed
  within = get_within processed k one at

  -- an earlier one ended nothing, and named an open stream, if any
  earlier : (j : ℕ) (x : Processed) → slice_get lower j ≡ Some x → (ends x ≡ false) × (names_none x.running x.copy.request.stream ≡ false)
  earlier j x there =
      let here : slice_get processed j ≡ Some x = get_take k processed j x there in
      let count : length lower ≡ k = length-take-le k processed (omega (arith, within)) in
      let below : j < k = omega (arith, get_within lower j x there, count) in
      let t = rules.tried j x here in
      let goes : ends x ≡ false = elim (is_or_not (ends x)) [
        | inl last ↦ absurd (omega (arith, rules.terminate j x here last, below, within))
        | inr other ↦ other
      ] in (
        goes,
        sym (ap (λ (xs : List ℕ). names_none xs x.copy.request.stream) t.7)
            ∙ known_of (asked_with (state_testing journal.opening t.0 t.1) (key_after journal.opening.request.newkey (copies_of (take j processed))) (take j processed)) x.copy t.6,
      )

  shut_forth : (stream : ℕ) → list_any (closes stream) lower ≡ false → IsShutBy (copies_of lower) stream → ⊥
  shut_forth stream none shut =
      let x = copy_at lower shut.0 shut.1 shut.2 in
      let known = earlier shut.0 x.0 x.1 in
      let closed : closes stream x.0 ≡ true =
      named_closes x.0 stream known.1 (ap (λ (c : RequestCopy). c.request.terminate) x.2 ∙ shut.3) (ap (λ (c : RequestCopy). c.request.stream) x.2 ∙ shut.4) in
      true_false (sym closed ∙ any_at (closes stream) lower shut.0 x.0 none x.1)

  shut_back : (stream : ℕ) → (IsShutBy (copies_of lower) stream → ⊥) → list_any (closes stream) lower ≡ false
  shut_back stream never = elim (is_or_not (list_any (closes stream) lower)) [
    | inl any ↦
        let x = any_some (closes stream) lower any in
        let names = closes_named x.1 stream (earlier x.0 x.1 x.2).0 x.3 in
        absurd (never (x.0, x.1.copy, get_copies lower x.0 x.1 x.2, names.0, names.1))
    | inr none ↦ none
  ]

  closed_back : (answers : List Answered) (stream : ℕ) → (IsClosedBy answers stream → ⊥) → list_any (λ answer. takes_closing stream answer.front) answers ≡ false
  closed_back answers stream never = elim (is_or_not (list_any (λ answer. takes_closing stream answer.front) answers)) [
    | inl any ↦ absurd (never (any_some (λ answer. takes_closing stream answer.front) answers any))
    | inr none ↦ none
  ]

  opened_count : opened_in lower ≡ opened_before (copies_of lower)
  opened_count = opened_is processed rules.opens k (omega (arith, within))

  -- the streams with which the copy was processed are those that are open for it
  pub open_for : (before : List Entry) (entry : Entry) (after : List Entry) → IsJournal journal → journal.entries ≡ before ++ entry ∷ after → Completes journal.opening before entry k
      → (stream : ℕ) → IsTrue (is_among one.running stream) ↔ IsOpenAt (state_testing journal.opening before entry) (copies_of lower) stream
  open_for before entry after made split completes stream = (
    λ is.
        let parts = open_is lower answers stream (ap (λ (xs : List ℕ). is_among xs stream) running_is ∙ is) in
        let facts = open_parts lower answers stream parts.1 in
        record {
          opened = omega (arith, ltb-true stream (opened_in lower) facts.0, opened_count);
          unshut = shut_forth stream facts.1;
          unclosed = λ closed. true_false (sym closed.3 ∙ any_at (λ answer. takes_closing stream answer.front) answers closed.0 closed.1 facts.2 closed.2);
        },
    λ open_now.
        let less : nat_lt stream (opened_in lower) ≡ true = grind (arith, nat_tests, opened_count, open_now.opened) in
        let shut : list_any (closes stream) lower ≡ false = shut_back stream open_now.unshut in
        let closed : list_any (λ answer. takes_closing stream answer.front) answers ≡ false = closed_back answers stream open_now.unclosed in
        let here : is_open_in lower answers stream ≡ true = (λ i. less i && (not (shut i) && not (closed i))) in
        sym (ap (λ (xs : List ℕ). is_among xs stream) running_is) ∙ is_open lower answers stream (omega (arith, open_now.opened)) here,
  )
    where
      answers : List Answered
      answers = (state_testing journal.opening before entry).answered

      running_is : running_in lower answers ≡ one.running
      running_is =
          let t = rules.tried k one at in
          let count : length lower ≡ k = length-take-le k processed (omega (arith, within)) in
          let same = complete_one journal.opening journal.entries (length lower) before entry after t.0 t.1 t.2 made.1 split t.3 (subst (Completes journal.opening before entry) (sym count) completes) t.4 in
          ap₂ (λ b e. running_in lower (state_testing journal.opening b e).answered) same.0 same.1 ∙ t.7

  -- an add opens the next stream, where fewer than eight were opened, and no other copy opens one
  pub opens_next : (stream : ℕ) → (one.opened ≡ Some stream) ↔ ((is_add one.copy ≡ true) × (stream ≡ opened_before (copies_of lower)) × (stream < most_streams))
  opens_next stream = (λ is. forth (is_add one.copy) (nat_lt (opened_in lower) most_streams) refl refl (sym opened ∙ is), λ parts. opened ∙ back parts)
    where
      opened : one.opened ≡ opens_after lower one.copy
      opened = rules.opens k one at

      forth : (add less : Bool) → is_add one.copy ≡ add → nat_lt (opened_in lower) most_streams ≡ less → (if add && less then Some (opened_in lower) else None) ≡ Some stream
          → (is_add one.copy ≡ true) × (stream ≡ opened_before (copies_of lower)) × (stream < most_streams)
      forth false less adds below is = absurd (none_some None stream refl is)
      forth true false adds below is = absurd (none_some None stream refl is)
      forth true true adds below is =
          let same : opened_in lower ≡ stream = some_is (opened_in lower) stream is in
          (adds, sym same ∙ opened_count, omega (arith, same, ltb-true (opened_in lower) most_streams below))

      back : (is_add one.copy ≡ true) × (stream ≡ opened_before (copies_of lower)) × (stream < most_streams) → opens_after lower one.copy ≡ Some stream
      back parts =
          let same : opened_in lower ≡ stream = opened_count ∙ sym parts.1 in
          let less : nat_lt (opened_in lower) most_streams ≡ true = grind (arith, nat_tests, same, parts.2) in
          ap₂ (λ (a l : Bool). if a && l then Some (opened_in lower) else None) parts.0 less ∙ ap Some same

pub every_open_for : (journal : Journal) → IsJournal journal → (k : ℕ) (one : Processed) (before : List Entry) (entry : Entry) (after : List Entry) → slice_get (state_of journal).processed k ≡ Some one
    → journal.entries ≡ before ++ entry ∷ after → Completes journal.opening before entry k
    → (stream : ℕ) → IsTrue (is_among one.running stream) ↔ IsOpenAt (state_testing journal.opening before entry) (copies_of (take k (state_of journal).processed)) stream
every_open_for journal made k one before entry after at split completes stream = open_for journal (every_ruled journal made).0 k one at before entry after made split completes stream

pub every_opens_next : (journal : Journal) → IsJournal journal → (k : ℕ) (one : Processed) → slice_get (state_of journal).processed k ≡ Some one
    → (stream : ℕ) → (one.opened ≡ Some stream) ↔ ((is_add one.copy ≡ true) × (stream ≡ opened_before (copies_of (take k (state_of journal).processed))) × (stream < most_streams))
every_opens_next journal made k one at stream = opens_next journal (every_ruled journal made).0 k one at stream
