-- What goes inward on a stream is a beginning of what the copies of the run carry for it, from the one that adds it to the one that closes it.
use Rattle.std.proofs.Common.{◌≡◌, ◌≢◌, ◌⊎◌, inl, inr, ℕ, ◌+◌, ◌<◌, ◌≤◌, ◌==◌, ◌&&◌, ◌||◌, Bool, true, false, not, cond, List, [], ◌∷◌, ◌++◌, filter, map, length, Option, Some, None, refl, sym, ◌∙◌, ap, subst, arith, append_assoc}
use Rattle.std.specs.Prelude.{All, nat_lt, is_some, option_to_list, if◌then◌else◌}
use Rattle.std.specs.List.{list_all, list_any}
use Rattle.std.specs.Str.{bytes_eq}
use Rattle.std.proofs.lemmas.Bool.{cases_eq, cases_lt, ltb-true, ne_eqb}
use Rattle.std.proofs.lemmas.Bool.Decides.{nat_tests}
use Rattle.std.proofs.lemmas.List.{append-nil}
use Rattle.std.proofs.lemmas.List.Elements.{All-cons, All-nil, filter-append}
use Rattle.std.proofs.lemmas.Slice.Eq.{bytes_eq-Decides}
use Rattle.bosh_types.specs.Limits.{most_streams}
use Rattle.bosh_types.specs.declared.inward.Inward.{Inward}
use Rattle.bosh_types.specs.declared.inward.Inward.TheVariants.{Item, Restart, Open, Close}
use Rattle.stream_names.specs.PlainStreams.{PlainStreams, AreSound, after_open, begun, with_closed, with_next}
use Rattle.stream_names.specs.Streams.{is_among, name_of, named, numbers_from, those, with_stream, without}
use Rattle.stream_names.proofs.Named.{named_is, named_stream}
use Rattle.stream_names.proofs.Numbers.{all_those, among, among_all, one_alone, sound_next, sound_without, those_same}
use Rattle.session_core.specs.declared.copy.RequestCopy.{RequestCopy}
use Rattle.session_core.specs.Answers.{with_answer}
use Rattle.session_core.specs.Copy.{is_add, is_empty, stanzas_of}
use Rattle.session_core.specs.Journal.{IsJournal, Journal, state_of}
use Rattle.session_core.specs.Machine.{as_processed, opened, with_copy}
use Rattle.session_core.specs.Outward.{takes_closing}
use Rattle.session_core.specs.Passed.{stream_of}
use Rattle.session_core.specs.Processed.{Processed, as_creation, close_items, closes, copies_of, ends, items_by, items_of, items_of_all, open_items, restart_items, stanza_items, targets_among, targets_of}
use Rattle.session_core.specs.State.{Answered, PlainSession, inward, is_open_in, opened_in, running, running_in}
use Rattle.session_core.proofs.StreamLemmas.{any_push, not_add, opened_push, target_runs}
use Rattle.session_laws.proofs.Grows.{items_append, steady-all}
use Rattle.session_laws.proofs.Lists.{copies_push}
use Rattle.session_laws.proofs.Moves.{Steady}
use Rattle.session_laws.proofs.OpenStreams.{is_open, open_is, open_parts}
use Rattle.session_laws.proofs.Tests.{both_true, neither, not_true, split, true_false}
use Rattle.bosh_client.specs.Promises.{Begins}
use Rattle.world_laws.specs.Promises.{content_on, is_content}

-- What a copy carries for a stream.

-- what names this is for the stream: its name, or none
abbrev pub is_named : ℕ → Option (List ℕ) → Bool
is_named stream None = true
is_named stream (Some name) = bytes_eq (name_of stream) name

abbrev pub body_on : ℕ → RequestCopy → List Inward
body_on stream copy = map (Item stream) (stanzas_of copy) ++ (if copy.request.restart then Restart stream ∷ [] else [])

abbrev pub carries_on : ℕ → RequestCopy → List Inward
carries_on stream copy = if is_named stream copy.request.stream then body_on stream copy else []

-- The streams after copies.

abbrev pub with_found_closed : PlainStreams → Option ℕ → PlainStreams
with_found_closed streams None = streams
with_found_closed streams (Some stream) = with_closed streams stream

abbrev pub with_named_closed : PlainStreams → Option (List ℕ) → PlainStreams
with_named_closed streams None = streams
with_named_closed streams (Some name) = with_found_closed streams (named (numbers_from 0 most_streams) name)

-- an add opens the next one, and a terminate closes the one that it names
abbrev pub copy_streams : PlainStreams → RequestCopy → PlainStreams
copy_streams streams copy =
    if is_add copy then after_open streams
    else if copy.request.terminate then with_named_closed streams copy.request.stream
    else streams

abbrev pub streams_of : PlainStreams → List RequestCopy → PlainStreams
streams_of streams [] = streams
streams_of streams (copy ∷ copies) = streams_of (copy_streams streams copy) copies

-- what copies carry for a stream while it is open
abbrev pub carried_while : PlainStreams → ℕ → List RequestCopy → List Inward
carried_while streams stream [] = []
carried_while streams stream (copy ∷ copies) =
    (if is_among streams.running stream then carries_on stream copy else []) ++ carried_while (copy_streams streams copy) stream copies

-- One more copy.

streams_push : (streams : PlainStreams) (copies : List RequestCopy) (copy : RequestCopy) → streams_of streams (copies ++ copy ∷ []) ≡ copy_streams (streams_of streams copies) copy
streams_push streams [] copy = refl
streams_push streams (first ∷ copies) copy = streams_push (copy_streams streams first) copies copy

abbrev new_on : PlainStreams → ℕ → RequestCopy → List Inward
new_on streams stream copy = if is_among streams.running stream then carries_on stream copy else []

carried_push : (streams : PlainStreams) (stream : ℕ) (copies : List RequestCopy) (copy : RequestCopy)
    → carried_while streams stream (copies ++ copy ∷ []) ≡ carried_while streams stream copies ++ new_on (streams_of streams copies) stream copy
carried_push streams stream [] copy = append-nil (new_on streams stream copy)
carried_push streams stream (first ∷ copies) copy =
    ap (λ (l : List Inward). new_on streams stream first ++ l) (carried_push (copy_streams streams first) stream copies copy)
    ∙ sym (append_assoc (new_on streams stream first) (carried_while (copy_streams streams first) stream copies) (new_on (streams_of (copy_streams streams first) copies) stream copy))

-- What lies on a stream of what a copy passes on.

filter_twice : (f g : ℕ → Bool) (xs : List ℕ) → filter g (filter f xs) ≡ filter (λ x. f x && g x) xs
filter_twice f g [] = refl
filter_twice f g (x ∷ xs) = by (f x) (filter_twice f g xs)
  where
    by : (b : Bool) → filter g (filter f xs) ≡ filter (λ x. f x && g x) xs
        → filter g (cond b (x ∷ filter f xs) (filter f xs)) ≡ cond (b && g x) (x ∷ filter (λ x. f x && g x) xs) (filter (λ x. f x && g x) xs)
    by true rest = ap (λ (ys : List ℕ). cond (g x) (x ∷ ys) ys) rest
    by false rest = rest

none_pass : those (λ n. false) ≡ []
unfolding those
none_pass = refl

-- of some streams just the one
one_of : (f : ℕ → Bool) (stream : ℕ) → stream < most_streams → filter (λ n. n == stream) (those f) ≡ cond (is_among (those f) stream) (stream ∷ []) []
unfolding those
one_of f stream small =
    filter_twice f (λ n. n == stream) (numbers_from 0 most_streams)
    ∙ by (f stream) refl
    ∙ ap (λ (b : Bool). cond b (stream ∷ []) []) (sym (among f stream small))
  where
    by : (b : Bool) → f stream ≡ b → those (λ n. f n && (n == stream)) ≡ cond b (stream ∷ []) []
    by true is = those_same _ (λ n. n == stream) (λ n low. elim (cases_eq n stream) [
      | inl same ↦
          let passes : f n ≡ true = ap f same ∙ is in
          ap (λ (b : Bool). b && (n == stream)) passes
      | inr other ↦
          let no : (n == stream) ≡ false = ne_eqb n stream other in
          ap (λ (b : Bool). f n && b) no ∙ and_false (f n) ∙ sym no
    ]) ∙ one_alone stream small
      where
        and_false : (b : Bool) → (b && false) ≡ false
        and_false true = refl
        and_false false = refl
    by false is = those_same _ (λ n. false) (λ n low. elim (cases_eq n stream) [
      | inl same ↦
          let fails : f n ≡ false = ap f same ∙ is in
          ap (λ (b : Bool). b && (n == stream)) fails
      | inr other ↦
          let no : (n == stream) ≡ false = ne_eqb n stream other in
          ap (λ (b : Bool). f n && b) no ∙ and_false (f n)
    ]) ∙ none_pass
      where
        and_false : (b : Bool) → (b && false) ≡ false
        and_false true = refl
        and_false false = refl

abbrev nothing : List Inward
nothing = []

-- where one isn't among them
none_of : (xs : List ℕ) (n : ℕ) → is_among xs n ≡ false → filter (λ m. m == n) xs ≡ []
none_of [] n none = refl
none_of (x ∷ xs) n none =
    let parts = neither (x == n) (is_among xs n) none in
    ap (λ (b : Bool). cond b (x ∷ filter (λ m. m == n) xs) (filter (λ m. m == n) xs)) parts.0 ∙ none_of xs n parts.1

-- the same of the streams that a request is for
HasOne : ℕ → List ℕ → Type 0
HasOne stream streams = filter (λ n. n == stream) streams ≡ cond (is_among streams stream) (stream ∷ []) []

all_one : (f : ℕ → Bool) (stream : ℕ) → HasOne stream (those f)
unfolding HasOne
all_one f stream = by (is_among (those f) stream) refl
  where
    by : (b : Bool) → is_among (those f) stream ≡ b → filter (λ n. n == stream) (those f) ≡ cond (is_among (those f) stream) (stream ∷ []) []
    by true is = one_of f stream (among_all (λ m. m < most_streams) (those f) stream (all_those f (λ m. m < most_streams) (λ m low passes. low)) is)
    by false is = none_of (those f) stream is ∙ sym (ap (λ (b : Bool). cond b (stream ∷ []) []) is)

targets_one : (f : ℕ → Bool) (stream : ℕ) (name : Option (List ℕ)) → HasOne stream (targets_among (those f) name)
unfolding HasOne
targets_one f stream None = all_one f stream
targets_one f stream (Some name) = by (named (those f) name)
  where
    by : (o : Option ℕ) → filter (λ n. n == stream) (option_to_list o) ≡ cond (is_among (option_to_list o) stream) (stream ∷ []) []
    by None = refl
    by (Some n) = elim (cases_eq n stream) [
      | inl same ↦
          let yes : (n == stream) ≡ true = grind (arith, nat_tests, same) in
          ap (λ (b : Bool). cond b (n ∷ []) []) yes ∙ ap (λ (m : ℕ). m ∷ []) same ∙ sym (ap (λ (b : Bool). cond (b || false) (stream ∷ []) []) yes)
      | inr other ↦
          let no : (n == stream) ≡ false = ne_eqb n stream other in
          ap (λ (b : Bool). cond b (n ∷ []) []) no ∙ sym (ap (λ (b : Bool). cond (b || false) (stream ∷ []) []) no)
    ]

module _ (stream : ℕ) (streams : List ℕ) (one : HasOne stream streams) where
  abbrev here : Bool
  here = is_among streams stream

  items_filtered : (stanza : List ℕ) (xs : List ℕ) → content_on stream (map (λ n. Item n stanza) xs) ≡ map (λ n. Item n stanza) (filter (λ n. n == stream) xs)
  items_filtered stanza [] = refl
  items_filtered stanza (x ∷ xs) = by (x == stream) (items_filtered stanza xs)
    where
      by : (b : Bool) → content_on stream (map (λ n. Item n stanza) xs) ≡ map (λ n. Item n stanza) (filter (λ n. n == stream) xs)
          → cond b (Item x stanza ∷ content_on stream (map (λ n. Item n stanza) xs)) (content_on stream (map (λ n. Item n stanza) xs))
          ≡ map (λ n. Item n stanza) (cond b (x ∷ filter (λ n. n == stream) xs) (filter (λ n. n == stream) xs))
      by true rest = ap (λ (l : List Inward). Item x stanza ∷ l) rest
      by false rest = rest

  restarts_filtered : (xs : List ℕ) → content_on stream (map Restart xs) ≡ map Restart (filter (λ n. n == stream) xs)
  restarts_filtered [] = refl
  restarts_filtered (x ∷ xs) = by (x == stream) (restarts_filtered xs)
    where
      by : (b : Bool) → content_on stream (map Restart xs) ≡ map Restart (filter (λ n. n == stream) xs)
          → cond b (Restart x ∷ content_on stream (map Restart xs)) (content_on stream (map Restart xs)) ≡ map Restart (cond b (x ∷ filter (λ n. n == stream) xs) (filter (λ n. n == stream) xs))
      by true rest = ap (λ (l : List Inward). Restart x ∷ l) rest
      by false rest = rest

  closes_filtered : (xs : List ℕ) → content_on stream (map Close xs) ≡ []
  closes_filtered [] = refl
  closes_filtered (x ∷ xs) = closes_filtered xs

  stanza_on : (stanza : List ℕ) → content_on stream (map (λ n. Item n stanza) streams) ≡ cond here (Item stream stanza ∷ []) []
  unfolding HasOne
  stanza_on stanza = items_filtered stanza streams ∙ ap (map (λ n. Item n stanza)) one ∙ by here
    where
      by : (b : Bool) → map (λ n. Item n stanza) (cond b (stream ∷ []) []) ≡ cond b (Item stream stanza ∷ []) []
      by true = refl
      by false = refl

  stanzas_on : (stanzas : List (List ℕ)) → content_on stream (stanza_items streams stanzas) ≡ cond here (map (Item stream) stanzas) []
  stanzas_on [] = by here
    where
      by : (b : Bool) → [] ≡ cond b (map (Item stream) []) []
      by true = refl
      by false = refl
  stanzas_on (stanza ∷ stanzas) =
      filter-append (λ item. is_content item && (stream_of item == stream)) (map (λ n. Item n stanza) streams) (stanza_items streams stanzas)
      ∙ ap (λ (l : List Inward). l ++ content_on stream (stanza_items streams stanzas)) (stanza_on stanza)
      ∙ ap (λ (l : List Inward). cond here (Item stream stanza ∷ []) [] ++ l) (stanzas_on stanzas)
      ∙ by here
    where
      by : (b : Bool) → cond b (Item stream stanza ∷ []) [] ++ cond b (map (Item stream) stanzas) [] ≡ cond b (map (Item stream) (stanza ∷ stanzas)) []
      by true = refl
      by false = refl

  restart_on : (restart : Bool) → content_on stream (restart_items streams restart) ≡ cond here (if restart then Restart stream ∷ [] else []) []
  unfolding HasOne
  restart_on true = restarts_filtered streams ∙ ap (map Restart) one ∙ by here
    where
      by : (b : Bool) → map Restart (cond b (stream ∷ []) []) ≡ cond b (Restart stream ∷ []) []
      by true = refl
      by false = refl
  restart_on false = by here
    where
      by : (b : Bool) → nothing ≡ cond b nothing nothing
      by true = refl
      by false = refl

  close_on : (copy : RequestCopy) → content_on stream (close_items streams copy) ≡ []
  close_on copy = split (λ (l : List Inward). content_on stream l ≡ []) (copy.request.terminate && is_some copy.request.stream) (map Close streams) [] (λ is. closes_filtered streams) (λ is. refl)

  open_on : (opened : Option ℕ) (to : Option (List ℕ)) → content_on stream (open_items opened to) ≡ []
  open_on None to = refl
  open_on (Some new) None = refl
  open_on (Some new) (Some to) = refl

  items_on : (copy : RequestCopy) (new : Option ℕ) → content_on stream (items_by copy streams new) ≡ cond here (body_on stream copy) []
  items_on copy new =
      let test : Inward → Bool = λ item. is_content item && (stream_of item == stream) in
      let one : List Inward = stanza_items streams (stanzas_of copy) in
      let two : List Inward = restart_items streams copy.request.restart in
      let three : List Inward = close_items streams copy in
      let four : List Inward = open_items new copy.request.to in
      let both : content_on stream (one ++ two) ≡ cond here (body_on stream copy) [] =
      filter-append test one two
      ∙ (λ i. stanzas_on (stanzas_of copy) i ++ restart_on copy.request.restart i)
      ∙ by here (map (Item stream) (stanzas_of copy)) (if copy.request.restart then Restart stream ∷ [] else []) in
      filter-append test ((one ++ two) ++ three) four
      ∙ (λ i. content_on stream ((one ++ two) ++ three) ++ open_on new copy.request.to i)
      ∙ append-nil (content_on stream ((one ++ two) ++ three))
      ∙ filter-append test (one ++ two) three
      ∙ (λ i. content_on stream (one ++ two) ++ close_on copy i)
      ∙ append-nil (content_on stream (one ++ two))
      ∙ both
    where
      by : (b : Bool) (xs ys : List Inward) → cond b xs [] ++ cond b ys [] ≡ cond b (xs ++ ys) []
      by true xs ys = refl
      by false xs ys = refl

-- Which streams are open.

among_without : (xs : List ℕ) (n m : ℕ) → is_among xs m ≡ true → m ≢ n → is_among (without xs n) m ≡ true
among_without [] n m is other = absurd (true_false (sym is))
among_without (x ∷ xs) n m is other = elim (cases_eq x m) [
  | inl same ↦
      let kept : not (x == n) ≡ true = ap not (ne_eqb x n (λ here. other (sym same ∙ here))) in
      let here : (x == m) ≡ true = grind (arith, nat_tests, same) in
      ap (λ (b : Bool). is_among (cond b (x ∷ without xs n) (without xs n)) m) kept ∙ ap (λ (b : Bool). b || is_among (without xs n) m) here
  | inr apart ↦ either_way (not (x == n)) (among_without xs n m (sym (ap (λ (b : Bool). b || is_among xs m) (ne_eqb x m apart)) ∙ is) other)
]
  where
    or_true : (b : Bool) → (b || true) ≡ true
    or_true true = refl
    or_true false = refl

    either_way : (b : Bool) → is_among (without xs n) m ≡ true → is_among (cond b (x ∷ without xs n) (without xs n)) m ≡ true
    either_way true rest = ap (λ (c : Bool). (x == m) || c) rest ∙ or_true (x == m)
    either_way false rest = rest

-- the streams that copies left, the first one open before them
abbrev pub left_by : List Processed → PlainStreams
left_by processed = streams_of begun (copies_of processed)

-- what is known of a session beside the copies that were processed: as many streams were opened; each open one is open by the copies; what
-- lies on a stream begins what they carry for it, and is all of that where the stream is open, or isn't yet opened
pub record Sending (processed : List Processed) (answered : List Answered) (stream : ℕ) : Type 0 where
  pub sound : AreSound (left_by processed)
  pub opened_is : (left_by processed).opened ≡ opened_in processed
  pub within : is_among (running_in processed answered) stream ≡ true → is_among (left_by processed).running stream ≡ true
  pub front : Begins (content_on stream (items_of_all processed)) (carried_while begun stream (copies_of processed))
  pub whole : (is_among (running_in processed answered) stream ≡ true) ⊎ (opened_in processed ≤ stream)
      → content_on stream (items_of_all processed) ≡ carried_while begun stream (copies_of processed)
  -- one that a copy closed was opened, and isn't open by the copies, where none of them ended the session
  pub low : list_any (closes stream) processed ≡ true → stream < opened_in processed
  pub shut : list_any ends processed ≡ false → list_any (closes stream) processed ≡ true → is_among (left_by processed).running stream ≡ false

abbrev pub Sends : ℕ → PlainSession → Type 0
Sends stream s = Sending s.processed s.answered stream

-- Names of streams.

no_stream : (stream : ℕ) → None ≡ Some stream → ⊥
no_stream stream is = cc

same_name : {m : ℕ} (n : ℕ) → name_of n ≡ name_of m → n ≡ m
same_name {m} n same = elim (cases_eq n m) [
  | inl one ↦ one
  | inr other ↦
      let unlike : bytes_eq (name_of n) (name_of m) ≡ false = grind (arith, nat_tests, other) in
      absurd (true_false (sym ((bytes_eq-Decides (name_of n) (name_of m)).1 same) ∙ unlike))
]

found_number : (n : ℕ) (name : List ℕ) → n < most_streams → name ≡ name_of n → named (numbers_from 0 most_streams) name ≡ Some n
unfolding those
found_number n name small is = named_stream (λ m. true) n name small is ∙ ap (λ (b : Bool). cond b (Some n) None) (among (λ m. true) n small)

all_among : (xs : List ℕ) → list_all (is_among xs) xs ≡ true
all_among xs = every xs (λ x is. is)
  where
    or_true : (b : Bool) → (b || true) ≡ true
    or_true true = refl
    or_true false = refl

    every : (ys : List ℕ) → ((y : ℕ) → is_among ys y ≡ true → is_among xs y ≡ true) → list_all (is_among xs) ys ≡ true
    every [] within = refl
    every (y ∷ ys) within =
        let itself : (y == y) ≡ true = grind (arith, nat_tests) in
        let here : is_among xs y ≡ true = within y (ap (λ (b : Bool). b || is_among ys y) itself) in
        let later : list_all (is_among xs) ys ≡ true = every ys (λ z is. within z (ap (λ (b : Bool). (y == z) || b) is ∙ or_true (y == z))) in
        (λ i. here i && later i)

-- A copy is processed.

module _ (s : PlainSession) (stream : ℕ) (h : Sends stream s) (copy : RequestCopy) where
  abbrev one : Processed
  one = as_processed s copy

  abbrev before : PlainStreams
  before = left_by s.processed

  abbrev after : PlainStreams
  after = left_by (s.processed ++ one ∷ [])

  abbrev opens : Bool
  opens = is_add copy && nat_lt (opened_in s.processed) most_streams

  after_is : after ≡ copy_streams before copy
  after_is = ap (streams_of begun) (copies_push s.processed one) ∙ streams_push begun (copies_of s.processed) copy

  -- an open stream is one that the copy is for where it is for that stream
  name_found : (name : List ℕ) → is_among (running s) stream ≡ true → is_among (option_to_list (named (running s) name)) stream ≡ bytes_eq (name_of stream) name
  name_found name is = by (bytes_eq (name_of stream) name) refl
    where
      by : (b : Bool) → bytes_eq (name_of stream) name ≡ b → is_among (option_to_list (named (running s) name)) stream ≡ b
      by true same =
          let name_is : name ≡ name_of stream = sym ((bytes_eq-Decides (name_of stream) name).0 same) in
          let small : stream < most_streams = (open_is s.processed s.answered stream is).0 in
          let found : named (running s) name ≡ Some stream =
          named_stream (is_open_in s.processed s.answered) stream name small name_is ∙ ap (λ (b : Bool). cond b (Some stream) None) is in
          let yes : (stream == stream) ≡ true = grind (arith, nat_tests) in
          ap (λ (o : Option ℕ). is_among (option_to_list o) stream) found ∙ ap (λ (b : Bool). b || false) yes
      by false other = found_by (named (running s) name) refl
        where
          found_by : (o : Option ℕ) → named (running s) name ≡ o → is_among (option_to_list o) stream ≡ false
          found_by None is = refl
          found_by (Some n) found = ap (λ (b : Bool). b || false) (ne_eqb n stream (λ same.
              let itself : bytes_eq (name_of stream) name ≡ true =
              (bytes_eq-Decides (name_of stream) name).1 (ap name_of (sym same) ∙ named_is (running s) name n found) in
              true_false (sym itself ∙ other)))

  target_is : is_among (running s) stream ≡ true → is_among (targets_of one) stream ≡ is_named stream copy.request.stream
  target_is is = by copy.request.stream
    where
      by : (o : Option (List ℕ)) → is_among (targets_among (running s) o) stream ≡ is_named stream o
      by None = is
      by (Some name) = name_found name is

  content_one : content_on stream (items_of one) ≡ cond (is_among (targets_of one) stream) (body_on stream copy) []
  content_one = items_on stream (targets_of one) (targets_one (is_open_in s.processed s.answered) stream copy.request.stream) copy one.opened

  -- where it is open, both have the same more
  same_more : is_among (running s) stream ≡ true → content_on stream (items_of one) ≡ new_on before stream copy
  same_more is =
      let there : is_among before.running stream ≡ true = h.within is in
      content_one ∙ ap (λ (b : Bool). cond b (body_on stream copy) []) (target_is is) ∙ sym (ap (λ (b : Bool). cond b (carries_on stream copy) []) there)

  -- where it isn't, nothing more lies on it
  none_more : is_among (running s) stream ≡ false → content_on stream (items_of one) ≡ []
  none_more fails = content_one ∙ ap (λ (b : Bool). cond b (body_on stream copy) []) (target_runs (running s) copy.request.stream stream fails)

  content_after : content_on stream (items_of_all (s.processed ++ one ∷ [])) ≡ content_on stream (items_of_all s.processed) ++ content_on stream (items_of one)
  content_after =
      ap (content_on stream) (items_append s.processed (one ∷ []) ∙ ap (λ (l : List Inward). items_of_all s.processed ++ l) (append-nil (items_of one)))
      ∙ filter-append (λ item. is_content item && (stream_of item == stream)) (items_of_all s.processed) (items_of one)

  carried_after : carried_while begun stream (copies_of (s.processed ++ one ∷ [])) ≡ carried_while begun stream (copies_of s.processed) ++ new_on before stream copy
  carried_after = ap (carried_while begun stream) (copies_push s.processed one) ∙ carried_push begun stream (copies_of s.processed) copy

  -- what it does to the streams
  data Turned : Type 0 where
    Opens : is_add copy ≡ true → opened_in s.processed < most_streams → copy_streams before copy ≡ with_next before → one.opened ≡ Some (opened_in s.processed) → Turned
    Shuts : (name : List ℕ) (n : ℕ) → copy.request.terminate ≡ true → copy.request.stream ≡ Some name → name_of n ≡ name
        → copy_streams before copy ≡ with_closed before n → one.opened ≡ None → Turned
    Stays : (copy.request.terminate ≡ true → (copy.request.stream ≡ None) ⊎ ((name : List ℕ) × (copy.request.stream ≡ Some name) × (named (numbers_from 0 most_streams) name ≡ None)))
        → copy_streams before copy ≡ before → one.opened ≡ None → Turned

  abbrev rest : PlainStreams
  rest = if copy.request.terminate then with_named_closed before copy.request.stream else before

  turned : Turned
  turned = by_add (is_add copy) refl
    where
      not_opened : is_add copy ≡ false → one.opened ≡ None
      not_opened other = ap (λ (b : Bool). if b && nat_lt (opened_in s.processed) most_streams then Some (opened_in s.processed) else None) other

      by_name : (o : Option ℕ) (name : List ℕ) → is_add copy ≡ false → copy.request.terminate ≡ true → copy.request.stream ≡ Some name
          → named (numbers_from 0 most_streams) name ≡ o → Turned
      by_name None name other ends says found = Stays (λ it. inr (name, says, found))
          (ap (λ (b : Bool). if b then after_open before else rest) other
          ∙ ap (λ (b : Bool). if b then with_named_closed before copy.request.stream else before) ends
          ∙ ap (with_named_closed before) says ∙ ap (with_found_closed before) found)
          (not_opened other)
      by_name (Some n) name other ends says found = Shuts name n ends says (named_is (numbers_from 0 most_streams) name n found)
          (ap (λ (b : Bool). if b then after_open before else rest) other
          ∙ ap (λ (b : Bool). if b then with_named_closed before copy.request.stream else before) ends
          ∙ ap (with_named_closed before) says ∙ ap (with_found_closed before) found)
          (not_opened other)

      by_stream : (o : Option (List ℕ)) → is_add copy ≡ false → copy.request.terminate ≡ true → copy.request.stream ≡ o → Turned
      by_stream None other ends says = Stays (λ it. inl says)
          (ap (λ (b : Bool). if b then after_open before else rest) other
          ∙ ap (λ (b : Bool). if b then with_named_closed before copy.request.stream else before) ends
          ∙ ap (with_named_closed before) says)
          (not_opened other)
      by_stream (Some name) other ends says = by_name (named (numbers_from 0 most_streams) name) name other ends says refl

      by_end : (b : Bool) → is_add copy ≡ false → copy.request.terminate ≡ b → Turned
      by_end true other ends = by_stream copy.request.stream other ends refl
      by_end false other goes = Stays (λ it. absurd (true_false (sym it ∙ goes)))
          (ap (λ (b : Bool). if b then after_open before else rest) other ∙ ap (λ (b : Bool). if b then with_named_closed before copy.request.stream else before) goes)
          (not_opened other)

      by_room : (r : Bool) → is_add copy ≡ true → nat_lt (opened_in s.processed) most_streams ≡ r → Turned
      by_room true adds room = Opens adds (ltb-true (opened_in s.processed) most_streams room)
          (ap (λ (b : Bool). if b then after_open before else rest) adds
          ∙ ap (λ (b : Bool). if b then with_next before else before) (ap (λ (n : ℕ). nat_lt n most_streams) h.opened_is ∙ room))
          (λ i. if adds i && room i then Some (opened_in s.processed) else None)
      by_room false adds room = Stays (λ it. absurd (true_false (sym adds ∙ not_add copy it)))
          (ap (λ (b : Bool). if b then after_open before else rest) adds
          ∙ ap (λ (b : Bool). if b then with_next before else before) (ap (λ (n : ℕ). nat_lt n most_streams) h.opened_is ∙ room))
          (λ i. if adds i && room i then Some (opened_in s.processed) else None)

      by_add : (a : Bool) → is_add copy ≡ a → Turned
      by_add true adds = by_room (nat_lt (opened_in s.processed) most_streams) adds refl
      by_add false other = by_end copy.request.terminate other refl

  count_opened : (n : ℕ) → one.opened ≡ Some n → opened_in (s.processed ++ one ∷ []) ≡ opened_in s.processed + 1
  count_opened n is = opened_push s.processed one ∙ ap (λ (o : Option ℕ). opened_in s.processed + (if is_some o then 1 else 0)) is

  count_same : one.opened ≡ None → opened_in (s.processed ++ one ∷ []) ≡ opened_in s.processed
  count_same is = opened_push s.processed one ∙ ap (λ (o : Option ℕ). opened_in s.processed + (if is_some o then 1 else 0)) is ∙ omega arith

  sound_after : AreSound after
  sound_after = subst AreSound (sym after_is) (by turned)
    where
      by : Turned → AreSound (copy_streams before copy)
      by (Opens adds room is new) = subst AreSound (sym is) (sound_next before h.sound (omega (arith, room, h.opened_is)))
      by (Shuts name n ends says named_so is old) = subst AreSound (sym is) (sound_without before n h.sound)
      by (Stays only is old) = subst AreSound (sym is) h.sound

  opened_after : after.opened ≡ opened_in (s.processed ++ one ∷ [])
  opened_after = ap (λ (x : PlainStreams). x.opened) after_is ∙ by turned
    where
      by : Turned → (copy_streams before copy).opened ≡ opened_in (s.processed ++ one ∷ [])
      by (Opens adds room is new) = ap (λ (x : PlainStreams). x.opened) is ∙ ap (λ (n : ℕ). n + 1) h.opened_is ∙ sym (count_opened (opened_in s.processed) new)
      by (Shuts name n ends says named_so is old) = ap (λ (x : PlainStreams). x.opened) is ∙ h.opened_is ∙ sym (count_same old)
      by (Stays only is old) = ap (λ (x : PlainStreams). x.opened) is ∙ h.opened_is ∙ sym (count_same old)

  -- one that is open after it, and was opened before, was open, and isn't closed by it
  was_open : stream < opened_in s.processed → is_among (running (with_copy s copy)) stream ≡ true → (is_among (running s) stream ≡ true) × (closes stream one ≡ false)
  was_open less is =
      let open_now = open_is (s.processed ++ one ∷ []) s.answered stream is in
      let parts = open_parts (s.processed ++ one ∷ []) s.answered stream open_now.1 in
      let unshut = neither (list_any (closes stream) s.processed) (closes stream one) (sym (any_push (closes stream) s.processed one) ∙ parts.1) in
      let below : nat_lt stream (opened_in s.processed) ≡ true = grind (arith, nat_tests, less) in
      (is_open s.processed s.answered stream open_now.0 (λ i. below i && (not (unshut.0 i) && not (parts.2 i))), unshut.1)

  below_after : is_among (running (with_copy s copy)) stream ≡ true → stream < opened_in (s.processed ++ one ∷ [])
  below_after is =
      let open_now = open_is (s.processed ++ one ∷ []) s.answered stream is in
      ltb-true stream (opened_in (s.processed ++ one ∷ [])) (open_parts (s.processed ++ one ∷ []) s.answered stream open_now.1).0

  within_after : is_among (running (with_copy s copy)) stream ≡ true → is_among after.running stream ≡ true
  within_after is = ap (λ (x : PlainStreams). is_among x.running stream) after_is ∙ by turned
    where
      small : stream < most_streams
      small = (open_is (s.processed ++ one ∷ []) s.answered stream is).0

      or_true : (b : Bool) → (b || true) ≡ true
      or_true true = refl
      or_true false = refl

      by : Turned → is_among (copy_streams before copy).running stream ≡ true
      by (Opens adds room turn new) =
          ap (λ (x : PlainStreams). is_among x.running stream) turn ∙ among (λ m. is_among before.running m || (m == before.opened)) stream small
          ∙ elim (cases_lt stream (opened_in s.processed)) [
            | inl less ↦ ap (λ (b : Bool). b || (stream == before.opened)) (h.within (was_open less is).0)
            | inr more ↦
                let last : stream ≡ before.opened = omega (arith, more, below_after is, count_opened (opened_in s.processed) new, h.opened_is) in
                let yes : (stream == before.opened) ≡ true = grind (arith, nat_tests, last) in
                ap (λ (b : Bool). is_among before.running stream || b) yes ∙ or_true (is_among before.running stream)
          ]
      by (Shuts name n ends says named_so turn old) =
          let was = was_open (omega (arith, below_after is, count_same old)) is in
          let apart : stream ≢ n = λ same.
          let for_it : is_among (targets_of one) stream ≡ true =
          target_is was.0 ∙ ap (is_named stream) says ∙ (bytes_eq-Decides (name_of stream) name).1 (ap name_of same ∙ named_so) in
          true_false (sym (λ i. ends i && for_it i) ∙ was.1) in
          ap (λ (x : PlainStreams). is_among x.running stream) turn ∙ among_without before.running n stream (h.within was.0) apart
      by (Stays only turn old) = ap (λ (x : PlainStreams). is_among x.running stream) turn ∙ h.within (was_open (omega (arith, below_after is, count_same old)) is).0

  -- a stream that isn't opened yet isn't open by the copies
  not_yet : opened_in s.processed ≤ stream → is_among before.running stream ≡ false
  not_yet later = by (is_among before.running stream) refl
    where
      by : (b : Bool) → is_among before.running stream ≡ b → b ≡ false
      by true is = absurd (omega (arith, later, h.opened_is, among_all (λ m. m < before.opened) before.running stream h.sound.opened_once is))
      by false is = refl

  -- a copy closes what is open
  closes_running : closes stream one ≡ true → is_among (running s) stream ≡ true
  closes_running is = by (is_among (running s) stream) refl
    where
      by : (b : Bool) → is_among (running s) stream ≡ b → b ≡ true
      by true holds = refl
      by false fails = absurd (true_false (sym (both_true copy.request.terminate (is_among (targets_of one) stream) is).1 ∙ target_runs (running s) copy.request.stream stream fails))

  low_after : list_any (closes stream) (s.processed ++ one ∷ []) ≡ true → stream < opened_in (s.processed ++ one ∷ [])
  low_after is = by (list_any (closes stream) s.processed) refl
    where
      by : (b : Bool) → list_any (closes stream) s.processed ≡ b → stream < opened_in (s.processed ++ one ∷ [])
      by true before_it = omega (arith, h.low before_it, opened_push s.processed one)
      by false not_before =
          let now : closes stream one ≡ true = ap (λ (b : Bool). b || closes stream one) (sym not_before) ∙ sym (any_push (closes stream) s.processed one) ∙ is in
          let open_now = open_is s.processed s.answered stream (closes_running now) in
          omega (arith, ltb-true stream (opened_in s.processed) (open_parts s.processed s.answered stream open_now.1).0, opened_push s.processed one)

  shut_after : list_any ends (s.processed ++ one ∷ []) ≡ false → list_any (closes stream) (s.processed ++ one ∷ []) ≡ true → is_among after.running stream ≡ false
  shut_after none is = ap (λ (x : PlainStreams). is_among x.running stream) after_is ∙ by (list_any (closes stream) s.processed) refl turned
    where
      goes : (list_any ends s.processed ≡ false) × (ends one ≡ false)
      goes = neither (list_any ends s.processed) (ends one) (sym (any_push ends s.processed one) ∙ none)

      closed_now : list_any (closes stream) s.processed ≡ false → closes stream one ≡ true
      closed_now not_before = ap (λ (b : Bool). b || closes stream one) (sym not_before) ∙ sym (any_push (closes stream) s.processed one) ∙ is

      -- an add is no terminate
      add_goes : is_add copy ≡ true → copy.request.terminate ≡ true → ⊥
      add_goes adds ends_it = true_false (sym adds ∙ not_add copy ends_it)

      gone : (n : ℕ) → is_among (without before.running n) n ≡ false
      gone n = by_any (is_among (without before.running n) n) refl
        where
          by_any : (b : Bool) → is_among (without before.running n) n ≡ b → b ≡ false
          by_any true holds = absurd (among_all (λ m. m ≢ n) (without before.running n) n (All-filter_test before.running) holds refl)
            where
              All-filter_test : (xs : List ℕ) → All (λ m. m ≢ n) (without xs n)
              All-filter_test [] = All-nil (λ m. m ≢ n)
              All-filter_test (x ∷ xs) = elim (cases_eq x n) [
                | inl same ↦
                    let out : not (x == n) ≡ false = grind (arith, nat_tests, same) in
                    subst (λ (b : Bool). All (λ m. m ≢ n) (cond b (x ∷ without xs n) (without xs n))) (sym out) (All-filter_test xs)
                | inr other ↦
                    let kept : not (x == n) ≡ true = ap not (ne_eqb x n other) in
                    subst (λ (b : Bool). All (λ m. m ≢ n) (cond b (x ∷ without xs n) (without xs n))) (sym kept) (All-cons (λ m. m ≢ n) x (without xs n) other (All-filter_test xs))
              ]
          by_any false fails = refl

      still_gone : (n : ℕ) → is_among before.running stream ≡ false → is_among (without before.running n) stream ≡ false
      still_gone n fails = by_any (is_among (without before.running n) stream) refl
        where
          by_any : (b : Bool) → is_among (without before.running n) stream ≡ b → b ≡ false
          by_any true holds = absurd (true_false (sym (in_all before.running holds) ∙ fails))
            where
              or_true : (b : Bool) → (b || true) ≡ true
              or_true true = refl
              or_true false = refl

              in_all : (xs : List ℕ) → is_among (without xs n) stream ≡ true → is_among xs stream ≡ true
              in_all [] holds = holds
              in_all (x ∷ xs) holds = of (not (x == n)) holds (in_all xs)
                where
                  of : (b : Bool) → is_among (cond b (x ∷ without xs n) (without xs n)) stream ≡ true → (is_among (without xs n) stream ≡ true → is_among xs stream ≡ true) → is_among (x ∷ xs) stream ≡ true
                  of true holds rest = first (x == stream) holds
                    where
                      first : (b : Bool) → (b || is_among (without xs n) stream) ≡ true → (b || is_among xs stream) ≡ true
                      first true holds = refl
                      first false holds = rest holds
                  of false holds rest = ap (λ (b : Bool). (x == stream) || b) (rest holds) ∙ or_true (x == stream)
          by_any false fails = refl

      by : (b : Bool) → list_any (closes stream) s.processed ≡ b → Turned → is_among (copy_streams before copy).running stream ≡ false
      by true before_it (Opens adds room turn new) =
          let small : stream < most_streams = omega (arith, h.low before_it, room) in
          let other : (stream == before.opened) ≡ false = ne_eqb stream before.opened (λ same. omega (arith, same, h.low before_it, h.opened_is)) in
          ap (λ (x : PlainStreams). is_among x.running stream) turn ∙ among (λ m. is_among before.running m || (m == before.opened)) stream small
          ∙ (λ i. h.shut goes.0 before_it i || other i)
      by true before_it (Shuts name n ends_it says named_so turn old) =
          ap (λ (x : PlainStreams). is_among x.running stream) turn ∙ still_gone n (h.shut goes.0 before_it)
      by true before_it (Stays only turn old) = ap (λ (x : PlainStreams). is_among x.running stream) turn ∙ h.shut goes.0 before_it
      by false not_before (Opens adds room turn new) =
          absurd (add_goes adds (both_true copy.request.terminate (is_among (targets_of one) stream) (closed_now not_before)).0)
      by false not_before (Shuts name n ends_it says named_so turn old) =
          let closed = closed_now not_before in
          let for_it : is_named stream (Some name) ≡ true =
          ap (is_named stream) (sym says) ∙ sym (target_is (closes_running closed)) ∙ (both_true copy.request.terminate (is_among (targets_of one) stream) closed).1 in
          let same : n ≡ stream = same_name n (named_so ∙ sym ((bytes_eq-Decides (name_of stream) name).0 for_it)) in
          ap (λ (x : PlainStreams). is_among x.running stream) turn ∙ ap (λ (m : ℕ). is_among (without before.running m) stream) same ∙ gone stream
      by false not_before (Stays only turn old) = absurd (only_stays (closed_now not_before) only)
        where
          -- what closes it, and names no stream, closes all, and so ends the session
          only_stays : closes stream one ≡ true → (copy.request.terminate ≡ true → (copy.request.stream ≡ None) ⊎ ((name : List ℕ) × (copy.request.stream ≡ Some name) × (named (numbers_from 0 most_streams) name ≡ None))) → ⊥
          only_stays closed how = elim (how (both_true copy.request.terminate (is_among (targets_of one) stream) closed).0) [
            | inl none_named ↦
                let all : list_all (is_among (targets_of one)) (running s) ≡ true = ap (λ (o : Option (List ℕ)). list_all (is_among (targets_among (running s) o)) (running s)) none_named ∙ all_among (running s) in
                let ends_so : ends one ≡ true = λ i. (both_true copy.request.terminate (is_among (targets_of one) stream) closed).0 i && all i in
                true_false (sym ends_so ∙ goes.1)
            | inr unknown ↦
                let for_it : is_named stream (Some unknown.0) ≡ true =
                ap (is_named stream) (sym unknown.1) ∙ sym (target_is (closes_running closed)) ∙ (both_true copy.request.terminate (is_among (targets_of one) stream) closed).1 in
                let small : stream < most_streams = (open_is s.processed s.answered stream (closes_running closed)).0 in
                let found : named (numbers_from 0 most_streams) unknown.0 ≡ Some stream = found_number stream unknown.0 small (sym ((bytes_eq-Decides (name_of stream) unknown.0).0 for_it)) in
                no_stream stream (sym unknown.2 ∙ found)
          ]

  more_opened : opened_in s.processed ≤ opened_in (s.processed ++ one ∷ [])
  more_opened = omega (arith, opened_push s.processed one)

  sends_after : Sends stream (with_copy s copy)
  sends_after = record {
    sound = sound_after;
    opened_is = opened_after;
    within = within_after;
    front = front_by (is_among (running s) stream) refl;
    whole = λ cases. whole_by (is_among (running s) stream) refl cases;
    low = low_after;
    shut = shut_after;
  }
    where
      same_now : is_among (running s) stream ≡ true → content_on stream (items_of_all (s.processed ++ one ∷ [])) ≡ carried_while begun stream (copies_of (s.processed ++ one ∷ []))
      same_now is =
          content_after ∙ ap (λ (l : List Inward). l ++ content_on stream (items_of one)) (h.whole (inl is))
          ∙ ap (λ (l : List Inward). carried_while begun stream (copies_of s.processed) ++ l) (same_more is) ∙ sym carried_after

      old_content : is_among (running s) stream ≡ false → content_on stream (items_of_all (s.processed ++ one ∷ [])) ≡ content_on stream (items_of_all s.processed)
      old_content fails =
          content_after ∙ ap (λ (l : List Inward). content_on stream (items_of_all s.processed) ++ l) (none_more fails) ∙ append-nil (content_on stream (items_of_all s.processed))

      front_by : (b : Bool) → is_among (running s) stream ≡ b → Begins (content_on stream (items_of_all (s.processed ++ one ∷ []))) (carried_while begun stream (copies_of (s.processed ++ one ∷ [])))
      front_by true is = ([], sym (same_now is) ∙ sym (append-nil (content_on stream (items_of_all (s.processed ++ one ∷ [])))))
      front_by false fails =
          let xs = content_on stream (items_of_all s.processed) in
          let new = new_on before stream copy in (
            h.front.0 ++ new,
            carried_after ∙ ap (λ (l : List Inward). l ++ new) h.front.1 ∙ append_assoc xs h.front.0 new
                ∙ ap (λ (l : List Inward). l ++ (h.front.0 ++ new)) (sym (old_content fails)),
          )

      whole_by : (b : Bool) → is_among (running s) stream ≡ b → (is_among (running (with_copy s copy)) stream ≡ true) ⊎ (opened_in (s.processed ++ one ∷ []) ≤ stream)
          → content_on stream (items_of_all (s.processed ++ one ∷ [])) ≡ carried_while begun stream (copies_of (s.processed ++ one ∷ []))
      whole_by true is cases = same_now is
      whole_by false fails cases = elim (cases_lt stream (opened_in s.processed)) [
        | inl less ↦ elim cases [
          | inl runs ↦ absurd (true_false (sym (was_open less runs).0 ∙ fails))
          | inr later ↦ absurd (omega (arith, less, later, more_opened))
        ]
        | inr later ↦
            let nothing_new : new_on before stream copy ≡ [] = ap (λ (b : Bool). if b then carries_on stream copy else []) (not_yet later) in
            old_content fails ∙ h.whole (inr later) ∙ sym (append-nil (carried_while begun stream (copies_of s.processed)))
            ∙ ap (λ (l : List Inward). carried_while begun stream (copies_of s.processed) ++ l) (sym nothing_new) ∙ sym carried_after
      ]

-- An answer is given.

fewer_run : (processed : List Processed) (answered : List Answered) (answer : Answered) (stream : ℕ) → is_among (running_in processed (answered ++ answer ∷ [])) stream ≡ true → is_among (running_in processed answered) stream ≡ true
fewer_run processed answered answer stream is =
    let open_now = open_is processed (answered ++ answer ∷ []) stream is in
    let parts = open_parts processed (answered ++ answer ∷ []) stream open_now.1 in
    let untaken = neither (list_any (λ a. takes_closing stream a.front) answered) (takes_closing stream answer.front) (sym (any_push (λ (a : Answered). takes_closing stream a.front) answered answer) ∙ parts.2) in
    is_open processed answered stream open_now.0 (λ i. parts.0 i && (not (parts.1 i) && not (untaken.0 i)))

sends_steady : (stream : ℕ) → Steady (Sends stream)
sends_steady stream = record {
  ends = λ t ending on p. p;
  aside = λ t tickets now last_arrival passed counted p. p;
  answers = λ t oldest later front is on reason taken p. record {
    sound = p.sound;
    opened_is = p.opened_is;
    within = λ runs. p.within (fewer_run t.processed t.answered _ stream runs);
    front = p.front;
    whole = λ cases. elim cases [
      | inl runs ↦ p.whole (inl (fewer_run t.processed t.answered _ stream runs))
      | inr later ↦ p.whole (inr later)
    ];
    low = p.low;
    shut = p.shut;
  };
  processes = λ t copy on stands broken p. sends_after t stream p copy;
  stands = λ t copy above none small p. p;
  strikes = λ t rid on is p. p;
  gives = λ t item p. p;
}

-- a session begins with the first stream
sends_first : (stream : ℕ) → Sending [] [] stream
sends_first stream = record {
  sound = record { some = omega arith; few = omega arith; opened_once = All-cons (λ n. n < 1) 0 [] (omega arith) (All-nil (λ n. n < 1)) };
  opened_is = refl;
  within = λ runs.
      let open_now = open_is [] [] stream runs in
      let less : stream < 1 = ltb-true stream 1 (open_parts [] [] stream open_now.1).0 in
      let first : stream ≡ 0 = omega (arith, less) in
      ap (λ (n : ℕ). is_among (0 ∷ []) n) first;
  front = ([], refl);
  whole = λ cases. refl;
  low = λ is. absurd (true_false (sym is));
  shut = λ none is. absurd (true_false (sym is));
}

-- what lies on a stream of what goes inward begins with what the creation carries, and goes on with a beginning of what the others carry
pub sent_on : (journal : Journal) → IsJournal journal → (stream : ℕ)
    → Begins (content_on stream (inward (state_of journal)))
    (content_on stream (items_of (as_creation (state_of journal).creation)) ++ carried_while begun stream (copies_of (state_of journal).processed))
sent_on journal made stream =
    let s : PlainSession = state_of journal in
    let sends : Sends stream s = steady-all (Sends stream) (sends_steady stream) (opened journal.opening) journal.entries made.1 (sends_first stream) in
    let creation = content_on stream (items_of (as_creation s.creation)) in
    let items = content_on stream (items_of_all s.processed) in
    let split_so : content_on stream (inward s) ≡ creation ++ items =
    filter-append (λ item. is_content item && (stream_of item == stream)) (items_of (as_creation s.creation)) (items_of_all s.processed) in
    (sends.front.0, ap (λ (l : List Inward). creation ++ l) sends.front.1 ∙ sym (append_assoc creation items sends.front.0) ∙ ap (λ (l : List Inward). l ++ sends.front.0) (sym split_so))

-- which streams are open by the copies of a session that no terminate ended: those that were opened and that no copy closed
pub left_open : (journal : Journal) → IsJournal journal → (stream : ℕ) → list_any ends (state_of journal).processed ≡ false
    → is_among (left_by (state_of journal).processed).running stream ≡ true → (stream < opened_in (state_of journal).processed) × (list_any (closes stream) (state_of journal).processed ≡ false)
left_open journal made stream none is =
    let s : PlainSession = state_of journal in
    let sends : Sends stream s = steady-all (Sends stream) (sends_steady stream) (opened journal.opening) journal.entries made.1 (sends_first stream) in
    (omega (arith, sends.opened_is, among_all (λ m. m < (left_by s.processed).opened) (left_by s.processed).running stream sends.sound.opened_once is), by (list_any (closes stream) s.processed) refl sends)
  where
    by : (b : Bool) → list_any (closes stream) (state_of journal).processed ≡ b → Sends stream (state_of journal) → b ≡ false
    by true closed sends = absurd (true_false (sym is ∙ sends.shut none closed))
    by false open_now sends = refl

-- a creation without stanzas carries nothing
pub bare_creation : (copy : RequestCopy) (stream : ℕ) → stanzas_of copy ≡ [] → copy.request.restart ≡ false → content_on stream (items_of (as_creation copy)) ≡ []
bare_creation copy stream none plain =
    let f : ℕ → Bool = λ n. is_among [] n || (n == 0) in
    let alone : those f ≡ 0 ∷ [] = one_alone 0 (omega arith) in
    let one : HasOne stream (targets_among (0 ∷ []) copy.request.stream) = subst (λ (l : List ℕ). HasOne stream (targets_among l copy.request.stream)) alone (targets_one f stream copy.request.stream) in
    items_on stream (targets_among (0 ∷ []) copy.request.stream) one copy None
    ∙ (λ i. cond (is_among (targets_among (0 ∷ []) copy.request.stream) stream) (map (Item stream) (none i) ++ (if plain i then Restart stream ∷ [] else [])) [])
    ∙ both (is_among (targets_among (0 ∷ []) copy.request.stream) stream)
  where
    both : (b : Bool) → cond b nothing nothing ≡ nothing
    both true = refl
    both false = refl
