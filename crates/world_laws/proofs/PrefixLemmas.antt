-- What a copy of a client's request carries for each stream is what the client made for it, and what copies of its first requests carry is
-- a beginning of all that it made.
use Rattle.std.proofs.Common.{◌≡◌, ◌≢◌, ℕ, zero, suc, ◌+◌, ◌<◌, ◌==◌, ◌&&◌, ◌||◌, Bool, true, false, not, cond, inl, inr, List, [], ◌∷◌, ◌++◌, map, length, take, Option, Some, None, slice_get, refl, sym, ◌∙◌, ap, subst, arith, append_assoc}
use Rattle.std.specs.Prelude.{IfSome, is_some, if◌then◌else◌}
use Rattle.std.specs.List.{flat_map, list_all, list_any}
use Rattle.std.specs.Option.{option_map}
use Rattle.std.specs.Str.{bytes_eq}
use Rattle.std.proofs.lemmas.Bool.{and_parts, cases_eq, eqb-true}
use Rattle.std.proofs.lemmas.Bool.Decides.{nat_tests}
use Rattle.std.proofs.lemmas.List.{append-nil, length-map}
use Rattle.body_cutter.specs.Pieces.{bytes_at}
use Rattle.bosh_types.specs.Limits.{most_streams}
use Rattle.bosh_types.specs.declared.inward.Inward.{Inward}
use Rattle.bosh_types.specs.declared.inward.Inward.TheVariants as inwards
use Rattle.stream_names.specs.PlainStreams.{PlainStreams, after_open, with_closed}
use Rattle.stream_names.specs.Streams.{is_among, name_of, named, numbers_from, those}
use Rattle.stream_names.proofs.Named.{named_stream}
use Rattle.stream_names.proofs.Numbers.{among}
use Rattle.session_core.specs.declared.copy.RequestCopy.{RequestCopy}
use Rattle.session_core.specs.Copy.{is_add, stanzas_of}
use Rattle.session_laws.proofs.Tests.{true_false}
use Rattle.bosh_client.specs.declared.outgoing.Outgoing.{Outgoing}
use Rattle.bosh_client.specs.declared.outgoing.Outgoing.TheVariants.{Stanza, Restart, Pause, Add, Close, Terminate}
use Rattle.bosh_client.specs.Outgoing.{host_in, is_restart, is_stanza, lie_together, pause_in, same_stream, stanzas_in, stream_in, stream_of, streams_after, streams_with, terminates}
use Rattle.bosh_client.specs.PlainClient.{Made}
use Rattle.bosh_client.specs.Promises.{Begins, IsAlone}
use Rattle.bosh_client.proofs.Fronts.{stanzas_host, stanzas_restart, stanzas_terminate}
use Rattle.world_laws.specs.Promises.{is_for, sent_on, sent_while}
use Rattle.world_laws.proofs.OpenForLemmas.{after-append}
use Rattle.world_laws.proofs.SentLemmas.{body_on, carried_while, carries_on, copy_streams, is_named, streams_of, with_named_closed}

-- the copy says what a request says that takes these
pub record Copies (items : List Outgoing) (copy : RequestCopy) : Type 0 where
  pub stanzas_are : stanzas_of copy ≡ stanzas_in items
  pub restart_is : copy.request.restart ≡ list_any is_restart items
  pub stream_is : copy.request.stream ≡ option_map name_of (stream_in items)
  pub to_is : copy.request.to ≡ host_in items
  pub terminate_is : copy.request.terminate ≡ list_any terminates items
  pub pause_is : copy.request.pause ≡ pause_in items

-- and a stream that it names is one of the eight
pub record Fits (items : List Outgoing) (copy : RequestCopy) : Type 0 where
  pub copies : Copies items copy
  pub alone : IsAlone items
  pub small : IfSome (stream_in items) (λ stream. stream < most_streams)

-- For which streams.

names_eq : (a b : ℕ) → bytes_eq (name_of a) (name_of b) ≡ (b == a)
names_eq a b = elim (cases_eq a b) [
  | inl same ↦ grind (arith, nat_tests, same)
  | inr other ↦ grind (arith, nat_tests, other)
]

for_named : (stream : ℕ) (on : Option ℕ) → is_named stream (option_map name_of on) ≡ is_for stream on
for_named stream None = refl
for_named stream (Some other) = names_eq stream other

same_is : (on other : Option ℕ) → same_stream on other ≡ true → on ≡ other
same_is None None is = refl
same_is None (Some other) is = absurd (true_false (sym is))
same_is (Some stream) None is = absurd (true_false (sym is))
same_is (Some stream) (Some other) is = ap Some (eqb-true stream other is)

module _ (items : List Outgoing) (copy : RequestCopy) (h : Copies items copy) where
  count_is : length copy.request.stanzas ≡ length (stanzas_in items)
  count_is = sym (length-map copy.request.stanzas (bytes_at copy.body)) ∙ ap length h.stanzas_are

  -- what it adds, by what it takes
  add_is : is_add copy
      ≡ ((((length (stanzas_in items) == 0) && not (is_some (pause_in items) && not (list_any terminates items))) && not (list_any terminates items || list_any is_restart items))
      && (is_some (host_in items) && not (is_some (option_map name_of (stream_in items)))))
  add_is = λ i.
      ((((count_is i == 0) && not (is_some (h.pause_is i) && not (h.terminate_is i))) && not (h.terminate_is i || h.restart_is i))
      && (is_some (h.to_is i) && not (is_some (h.stream_is i))))

  turn_is : (streams : PlainStreams) → copy_streams streams copy
      ≡ (if is_add copy then after_open streams else if list_any terminates items then with_named_closed streams (option_map name_of (stream_in items)) else streams)
  turn_is streams = λ i. if is_add copy then after_open streams else if h.terminate_is i then with_named_closed streams (h.stream_is i) else streams

  carry_is : (stream : ℕ) → carries_on stream copy
      ≡ (if is_for stream (stream_in items) then map (inwards.Item stream) (stanzas_in items) ++ (if list_any is_restart items then inwards.Restart stream ∷ [] else []) else [])
  carry_is stream =
      (λ i. if is_named stream (h.stream_is i) then map (inwards.Item stream) (h.stanzas_are i) ++ (if h.restart_is i then inwards.Restart stream ∷ [] else []) else [])
      ∙ ap (λ (b : Bool). if b then map (inwards.Item stream) (stanzas_in items) ++ (if list_any is_restart items then inwards.Restart stream ∷ [] else []) else []) (for_named stream (stream_in items))

-- One item.

found : (n : ℕ) → n < most_streams → named (numbers_from 0 most_streams) (name_of n) ≡ Some n
unfolding those
found n small =
    named_stream (λ m. true) n (name_of n) small refl
    ∙ ap (λ (b : Bool). cond b (Some n) None) (among (λ m. true) n small)

one_turns : (item : Outgoing) (copy : RequestCopy) (streams : PlainStreams) → Copies (item ∷ []) copy → IfSome (stream_of item) (λ n. n < most_streams)
    → copy_streams streams copy ≡ streams_with streams item
one_turns (Stanza on bytes) copy streams h small =
    turn_is (Stanza on bytes ∷ []) copy h streams ∙ ap (λ (b : Bool). if b then after_open streams else streams) (add_is (Stanza on bytes ∷ []) copy h)
one_turns Restart copy streams h small = turn_is (Restart ∷ []) copy h streams ∙ ap (λ (b : Bool). if b then after_open streams else streams) (add_is (Restart ∷ []) copy h)
one_turns (Pause seconds) copy streams h small =
    turn_is (Pause seconds ∷ []) copy h streams ∙ ap (λ (b : Bool). if b then after_open streams else streams) (add_is (Pause seconds ∷ []) copy h)
one_turns (Add to) copy streams h small = turn_is (Add to ∷ []) copy h streams ∙ ap (λ (b : Bool). if b then after_open streams else streams) (add_is (Add to ∷ []) copy h)
one_turns (Close stream) copy streams h small =
    let closed : PlainStreams = with_named_closed streams (Some (name_of stream)) in
    turn_is (Close stream ∷ []) copy h streams ∙ ap (λ (b : Bool). if b then after_open streams else closed) (add_is (Close stream ∷ []) copy h)
    ∙ ap (λ (o : Option ℕ). elim o as (λ _. PlainStreams) [ None ↦ streams | Some n ↦ with_closed streams n ]) (found stream small)
one_turns Terminate copy streams h small = turn_is (Terminate ∷ []) copy h streams ∙ ap (λ (b : Bool). if b then after_open streams else streams) (add_is (Terminate ∷ []) copy h)

abbrev none_sent : List Inward
none_sent = []

abbrev while_open : PlainStreams → ℕ → List Inward → List Inward
while_open streams stream items = if is_among streams.running stream then items else []

one_sends : (item : Outgoing) (copy : RequestCopy) (stream : ℕ) → Copies (item ∷ []) copy → carries_on stream copy ≡ sent_on stream item
one_sends (Stanza on bytes) copy stream h = carry_is (Stanza on bytes ∷ []) copy h stream
one_sends Restart copy stream h = carry_is (Restart ∷ []) copy h stream
one_sends (Pause seconds) copy stream h = carry_is (Pause seconds ∷ []) copy h stream
one_sends (Add to) copy stream h = carry_is (Add to ∷ []) copy h stream
one_sends (Close other) copy stream h = carry_is (Close other ∷ []) copy h stream ∙ both (is_for stream (Some other))
  where
    both : (b : Bool) → (if b then none_sent else none_sent) ≡ none_sent
    both true = refl
    both false = refl
one_sends Terminate copy stream h = carry_is (Terminate ∷ []) copy h stream

-- Stanzas for the same stream.

stanzas_turn : (items : List Outgoing) (streams : PlainStreams) → list_all is_stanza items ≡ true → streams_after streams items ≡ streams
stanzas_turn [] streams all = refl
stanzas_turn (Stanza on bytes ∷ items) streams all = stanzas_turn items streams all
stanzas_turn (Restart ∷ items) streams all = absurd (true_false (sym all))
stanzas_turn (Pause seconds ∷ items) streams all = absurd (true_false (sym all))
stanzas_turn (Add to ∷ items) streams all = absurd (true_false (sym all))
stanzas_turn (Close stream ∷ items) streams all = absurd (true_false (sym all))
stanzas_turn (Terminate ∷ items) streams all = absurd (true_false (sym all))

stanzas_send : (items : List Outgoing) (on : Option ℕ) (streams : PlainStreams) (stream : ℕ) → list_all is_stanza items ≡ true → list_all (λ item. same_stream on (stream_of item)) items ≡ true
    → sent_while streams stream items ≡ while_open streams stream (if is_for stream on then map (inwards.Item stream) (stanzas_in items) else [])
stanzas_send [] on streams stream all same = by (is_among streams.running stream) (is_for stream on)
  where
    by : (b c : Bool) → none_sent ≡ (if b then (if c then none_sent else none_sent) else none_sent)
    by true true = refl
    by true false = refl
    by false c = refl
stanzas_send (Stanza other bytes ∷ items) on streams stream all same =
    let parts = and_parts (same_stream on other) (list_all (λ item. same_stream on (stream_of item)) items) same in
    ap (λ (o : Option ℕ). while_open streams stream (if is_for stream o then inwards.Item stream bytes ∷ [] else []) ++ sent_while streams stream items) (sym (same_is on other parts.0))
    ∙ ap (λ (l : List Inward). while_open streams stream (if is_for stream on then inwards.Item stream bytes ∷ [] else []) ++ l) (stanzas_send items on streams stream all parts.1)
    ∙ by (is_among streams.running stream) (is_for stream on)
  where
    by : (b c : Bool)
        → (if b then (if c then inwards.Item stream bytes ∷ [] else []) else []) ++ (if b then (if c then map (inwards.Item stream) (stanzas_in items) else []) else [])
        ≡ (if b then (if c then map (inwards.Item stream) (stanzas_in (Stanza other bytes ∷ items)) else []) else [])
    by true true = refl
    by true false = refl
    by false c = refl
stanzas_send (Restart ∷ items) on streams stream all same = absurd (true_false (sym all))
stanzas_send (Pause seconds ∷ items) on streams stream all same = absurd (true_false (sym all))
stanzas_send (Add to ∷ items) on streams stream all same = absurd (true_false (sym all))
stanzas_send (Close other ∷ items) on streams stream all same = absurd (true_false (sym all))
stanzas_send (Terminate ∷ items) on streams stream all same = absurd (true_false (sym all))

-- What a copy makes of the streams, and what it carries, is what its request took.

pub turns_as_made : (items : List Outgoing) (copy : RequestCopy) (streams : PlainStreams) → Fits items copy → copy_streams streams copy ≡ streams_after streams items
turns_as_made items copy streams f = elim f.alone [
  | inl all ↦
      let none : list_any terminates items ≡ false = sym (stanzas_terminate items all.0) in
      let no_host : host_in items ≡ None = sym (stanzas_host items all.0) in
      let no_add : is_add copy ≡ false =
      add_is items copy f.copies ∙ ap (λ (o : Option (List ℕ)). first && (is_some o && not (is_some (option_map name_of (stream_in items))))) no_host ∙ and_false first in
      turn_is items copy f.copies streams ∙ (λ i. if no_add i then after_open streams else if none i then with_named_closed streams (option_map name_of (stream_in items)) else streams)
      ∙ sym (stanzas_turn items streams all.0)
  | inr one ↦
      let single : Copies (one.0 ∷ []) copy = subst (λ (l : List Outgoing). Copies l copy) one.1 f.copies in
      let small : IfSome (stream_of one.0) (λ n. n < most_streams) = subst (λ (l : List Outgoing). IfSome (stream_in l) (λ n. n < most_streams)) one.1 f.small in
      one_turns one.0 copy streams single small ∙ ap (streams_after streams) (sym one.1)
]
  where
    first : Bool
    first = ((length (stanzas_in items) == 0) && not (is_some (pause_in items) && not (list_any terminates items))) && not (list_any terminates items || list_any is_restart items)

    and_false : (b : Bool) → (b && false) ≡ false
    and_false true = refl
    and_false false = refl

pub sends_as_made : (items : List Outgoing) (copy : RequestCopy) (streams : PlainStreams) (stream : ℕ) → Fits items copy → while_open streams stream (carries_on stream copy) ≡ sent_while streams stream items
sends_as_made items copy streams stream f = elim f.alone [
  | inl all ↦
      let none : list_any is_restart items ≡ false = sym (stanzas_restart items all.0) in
      ap (while_open streams stream)
      (carry_is items copy f.copies stream
      ∙ ap (λ (b : Bool). if is_for stream (stream_in items) then map (inwards.Item stream) (stanzas_in items) ++ (if b then inwards.Restart stream ∷ [] else []) else []) none
      ∙ ap (λ (l : List Inward). if is_for stream (stream_in items) then l else []) (append-nil (map (inwards.Item stream) (stanzas_in items))))
      ∙ sym (stanzas_send items (stream_in items) streams stream all.0 all.1)
  | inr one ↦
      let single : Copies (one.0 ∷ []) copy = subst (λ (l : List Outgoing). Copies l copy) one.1 f.copies in
      ap (while_open streams stream) (one_sends one.0 copy stream single) ∙ sym (append-nil (while_open streams stream (sent_on stream one.0))) ∙ ap (sent_while streams stream) (sym one.1)
]

-- All of them.

abbrev pub taken_by : List Made → List Outgoing
taken_by requests = flat_map (λ (request : Made). request.items) requests

pub sent-append : (streams : PlainStreams) (stream : ℕ) (xs ys : List Outgoing) → sent_while streams stream (xs ++ ys) ≡ sent_while streams stream xs ++ sent_while (streams_after streams xs) stream ys
sent-append streams stream [] ys = refl
sent-append streams stream (x ∷ xs) ys =
    ap (λ (l : List Inward). while_open streams stream (sent_on stream x) ++ l) (sent-append (streams_with streams x) stream xs ys)
    ∙ sym (append_assoc (while_open streams stream (sent_on stream x)) (sent_while (streams_with streams x) stream xs) (sent_while (streams_after (streams_with streams x) xs) stream ys))

-- each copy is of the request with its place
abbrev pub AreCopies : List RequestCopy → List Made → Type 0
AreCopies copies requests = (k : ℕ) (copy : RequestCopy) → slice_get copies k ≡ Some copy → (request : Made) × (slice_get requests k ≡ Some request) × Fits request.items copy

pub copies_begin_made : (copies : List RequestCopy) (requests : List Made) (streams : PlainStreams) (stream : ℕ) → AreCopies copies requests
    → Begins (carried_while streams stream copies) (sent_while streams stream (taken_by requests))
copies_begin_made [] requests streams stream are = (sent_while streams stream (taken_by requests), refl)
copies_begin_made (copy ∷ copies) [] streams stream are = absurd (cc_none (are 0 copy refl))
  where
    cc_none : (request : Made) × (None ≡ Some request) × Fits request.items copy → ⊥
    cc_none is = no_request is.0 is.1
      where
        no_request : (request : Made) → None ≡ Some request → ⊥
        no_request request is = cc
copies_begin_made (copy ∷ copies) (request ∷ requests) streams stream are =
    let here = are 0 copy refl in
    let fits : Fits request.items copy = subst (λ (r : Made). Fits r.items copy) (sym (some_request here.1)) here.2 in
    let later = copies_begin_made copies requests (copy_streams streams copy) stream (λ k other at. are (suc k) other at) in
    let now = while_open streams stream (carries_on stream copy) in
    let rest = carried_while (copy_streams streams copy) stream copies in (
      later.0,
      sent-append streams stream request.items (taken_by requests)
          ∙ sym (λ i. sends_as_made request.items copy streams stream fits i ++ sent_while (turns_as_made request.items copy streams fits i) stream (taken_by requests))
          ∙ ap (λ (l : List Inward). now ++ l) later.1 ∙ sym (append_assoc now rest later.0),
    )
  where
    some_request : {r s : Made} → Some r ≡ Some s → r ≡ s
    some_request is = cc

-- the streams that copies leave are those that their requests leave
pub copies_turn_as_made : (copies : List RequestCopy) (requests : List Made) (streams : PlainStreams) → AreCopies copies requests
    → streams_of streams copies ≡ streams_after streams (taken_by (take (length copies) requests))
copies_turn_as_made [] requests streams are = refl
copies_turn_as_made (copy ∷ copies) [] streams are = absurd (no_request (are 0 copy refl).0 (are 0 copy refl).1)
  where
    no_request : (request : Made) → None ≡ Some request → ⊥
    no_request request is = cc
copies_turn_as_made (copy ∷ copies) (request ∷ requests) streams are =
    let here = are 0 copy refl in
    let fits : Fits request.items copy = subst (λ (r : Made). Fits r.items copy) (sym (some_request here.1)) here.2 in
    copies_turn_as_made copies requests (copy_streams streams copy) (λ k other at. are (suc k) other at)
    ∙ ap (λ (s : PlainStreams). streams_after s (taken_by (take (length copies) requests))) (turns_as_made request.items copy streams fits)
    ∙ sym (after-append streams request.items (taken_by (take (length copies) requests)))
  where
    some_request : {r s : Made} → Some r ≡ Some s → r ≡ s
    some_request is = cc
