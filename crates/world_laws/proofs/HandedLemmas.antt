-- What the client hands out on a stream is a beginning of what the server gave on it: each answer that it took is the one answer of its id,
-- which carries the next items that the server gave, all of one stream and that stream named, or it carries nothing.
use Rattle.std.proofs.Common.{◌≡◌, ℕ, zero, suc, ◌+◌, ◌≤◌, ◌==◌, Bool, true, false, cond, List, [], ◌∷◌, ◌++◌, length, filter, map, take, drop, slice_get, inl, inr, refl, sym, ◌∙◌, ap, subst, arith, append_assoc}
use Rattle.std.specs.Prelude.{None, Some, Option, Ok, All, is_none}
use Rattle.std.specs.List.{flat_map, take_while}
use Rattle.std.specs.Option.{option_map, option_or}
use Rattle.std.proofs.lemmas.Bool.{eqb-true}
use Rattle.std.proofs.lemmas.List.{map-append, take-append-drop}
use Rattle.std.proofs.lemmas.List.Elements.{All-head, All-tail, filter-append}
use Rattle.std.proofs.lemmas.List.Sums.{take_while-cons}
use Rattle.bosh_types.specs.ById.{at_id}
use Rattle.bosh_types.specs.Rid.{greatest_rid}
use Rattle.bosh_types.specs.declared.ending.Ending.{Ending}
use Rattle.bosh_types.specs.declared.kept.KeptAnswer.{KeptAnswer}
use Rattle.session_core.specs.declared.outward.Outward.{Outward}
use Rattle.session_core.specs.declared.outward.Outward.TheVariants.{Close, Stanza}
use Rattle.session_core.specs.Endings.{last_word}
use Rattle.session_core.specs.Journal.{IsJournal}
use Rattle.session_core.specs.Kept.{kept_answer}
use Rattle.session_core.specs.Machine.{bytes_for, first_answer}
use Rattle.session_core.specs.Outward.{items_in, stanzas_in}
use Rattle.session_core.specs.Passed.{given_in, given_of, is_on, items_taken}
use Rattle.session_core.specs.State.{Answered, PlainSession, answered_of, answers, first_of, last_of, waiting}
use Rattle.session_laws.proofs.Followed.{every_creation}
use Rattle.session_laws.proofs.Lists.{copies_length}
use Rattle.session_laws.proofs.Tests.{some_is, split}
use Rattle.bosh_client.specs.declared.setup.ClientSetup.{ClientSetup}
use Rattle.bosh_client.specs.declared.told.Told.{Told}
use Rattle.bosh_client.specs.AnswerReading.{answer_of}
use Rattle.bosh_client.specs.PlainClient.{Made, PlainClient, Taken, deliverable, goes_on, id_of, lies_on, on_stream, payloads_for, stream_named, taken, was_handed}
use Rattle.bosh_client.specs.Promises.{Begins, HasForm}
use Rattle.world_laws.specs.Manager.{PlainManager, session}
use Rattle.world_laws.specs.Promises.{given_at, lying_on, was_given}
use Rattle.world_laws.specs.Sound.{IsAnswerTo, IsSound, body_taken}
use Rattle.world_laws.specs.World.{PlainWorld}
use Rattle.world_laws.proofs.Below.{Below}
use Rattle.world_laws.proofs.EventLemmas.{formed, manager_of}
use Rattle.world_laws.proofs.InwardLemmas.{from, rid_is, sound, stands}
use Rattle.world_laws.proofs.MomentLemmas.{every_moment}
use Rattle.world_laws.proofs.NameLemmas.{all_told, setup_same, taken_holds}
use Rattle.world_laws.proofs.PlaceLemmas.{all_at, at_place, id_at, past_place}
use Rattle.world_laws.proofs.ProperLemmas.{every_proper, fronts_proper}
use Rattle.world_laws.proofs.ReadingLemmas.{IsRead, LiesOn, created_read, greeting_lies, read_payloads, shaped_read, terminal_ends, word_payloads}
use Rattle.world_laws.proofs.ShapeLemmas.{IsShaped, every_shape}

-- What answers took, one after the other.

stanzas-append : (one other : List Outward) → stanzas_in (one ++ other) ≡ stanzas_in one ++ stanzas_in other
stanzas-append [] other = refl
stanzas-append (Stanza stream bytes ∷ one) other = ap (λ (l : List (List ℕ)). bytes ∷ l) (stanzas-append one other)
stanzas-append (Close stream closing ∷ one) other = stanzas-append one other

-- the stanzas among these that lie on a stream
abbrev stanzas_on : ℕ → List Outward → List (List ℕ)
stanzas_on stream items = stanzas_in (filter (is_on stream) items)

stanzas_on-append : (stream : ℕ) (one other : List Outward) → stanzas_on stream (one ++ other) ≡ stanzas_on stream one ++ stanzas_on stream other
stanzas_on-append stream one other = ap stanzas_in (filter-append (is_on stream) one other) ∙ stanzas-append (filter (is_on stream) one) (filter (is_on stream) other)

lying-append : (stream : ℕ) (one other : List (ℕ × List ℕ)) → lying_on stream (one ++ other) ≡ lying_on stream one ++ lying_on stream other
lying-append stream one other =
    let here : ℕ × List ℕ → Bool = λ payload. payload.0 == stream in
    let bytes : ℕ × List ℕ → List ℕ = λ payload. payload.1 in
    ap (map bytes) (filter-append here one other) ∙ map-append bytes (filter here one) (filter here other)

-- stanzas that lie on one stream are payloads that lie there
stanzas_lie : (stream on : ℕ) (items : List Outward) → All (LiesOn on) items → lying_on stream (on_stream on (stanzas_in items)) ≡ stanzas_on stream items
stanzas_lie stream on [] lie = refl
stanzas_lie stream on (Close other closing ∷ items) lie = by (other == stream) (stanzas_lie stream on items (All-tail (LiesOn on) (Close other closing) items lie))
  where
    by : (b : Bool) → lying_on stream (on_stream on (stanzas_in items)) ≡ stanzas_on stream items
        → lying_on stream (on_stream on (stanzas_in items)) ≡ stanzas_in (cond b (Close other closing ∷ filter (is_on stream) items) (filter (is_on stream) items))
    by true later = later
    by false later = later
stanzas_lie stream on (Stanza other bytes ∷ items) lie =
    subst (λ (n : ℕ). lying_on stream ((on, bytes) ∷ on_stream on (stanzas_in items)) ≡ stanzas_in (cond (n == stream) (Stanza other bytes ∷ filter (is_on stream) items) (filter (is_on stream) items)))
    (sym (All-head (LiesOn on) (Stanza other bytes) items lie))
    (by (on == stream) (stanzas_lie stream on items (All-tail (LiesOn on) (Stanza other bytes) items lie)))
  where
    payloads : List (ℕ × List ℕ)
    payloads = filter (λ (payload : ℕ × List ℕ). payload.0 == stream) (on_stream on (stanzas_in items))

    by : (b : Bool) → lying_on stream (on_stream on (stanzas_in items)) ≡ stanzas_on stream items
        → map (λ (payload : ℕ × List ℕ). payload.1) (cond b ((on, bytes) ∷ payloads) payloads) ≡ stanzas_in (cond b (Stanza other bytes ∷ filter (is_on stream) items) (filter (is_on stream) items))
    by true later = ap (λ (l : List (List ℕ)). bytes ∷ l) later
    by false later = later

begins_then : (xs ys zs : List (List ℕ)) → Begins xs ys → Begins ys zs → Begins xs zs
begins_then xs ys zs one two = (one.0 ++ two.0, two.1 ∙ ap (λ (l : List (List ℕ)). l ++ two.0) one.1 ∙ append_assoc xs one.0 two.0)

later_begins : (front xs ys : List (List ℕ)) → Begins xs ys → Begins (front ++ xs) (front ++ ys)
later_begins front xs ys b = (b.0, ap (λ (l : List (List ℕ)). front ++ l) b.1 ∙ sym (append_assoc front xs b.0))

-- what was handed out is a beginning of what can be
take_lies : (stream n : ℕ) (xs : List (ℕ × List ℕ)) → Begins (lying_on stream (take n xs)) (lying_on stream xs)
take_lies stream n xs = (lying_on stream (drop n xs), ap (lying_on stream) (sym (take-append-drop n xs)) ∙ lying-append stream (take n xs) (drop n xs))

abbrev delivered : PlainClient → List Made → List (ℕ × List ℕ)
delivered c requests = flat_map (payloads_for c) (take_while (goes_on c) requests)

while_is : (c : PlainClient) (request : Made) (requests : List Made) (b : Bool) → goes_on c request ≡ b → take_while (goes_on c) (request ∷ requests) ≡ cond b (request ∷ take_while (goes_on c) requests) []
while_is c request requests b on = take_while-cons (goes_on c) request requests ∙ ap (λ (b : Bool). cond b (request ∷ take_while (goes_on c) requests) []) on

-- the stanzas of a stream that the answer at a place took, if there is one
abbrev took_on : ℕ → Option Answered → List (List ℕ)
took_on stream None = []
took_on stream (Some answer) = stanzas_on stream (items_in answer.front)

module _ (c : PlainClient) (stream : ℕ) where
  -- each request that was answered, and after whose answer the client goes on, has on the stream what the answer at its place took of it
  abbrev Each : List Made → List Answered → Type 0
  Each requests given = (k : ℕ) (request : Made) → slice_get requests k ≡ Some request → goes_on c request ≡ true → lying_on stream (payloads_for c request) ≡ took_on stream (slice_get given k)

  one_more : (request : Made) (requests : List Made) (front rest : List (List ℕ)) → goes_on c request ≡ true → lying_on stream (payloads_for c request) ≡ front
      → Begins (lying_on stream (delivered c requests)) rest → Begins (lying_on stream (delivered c (request ∷ requests))) (front ++ rest)
  one_more request requests front rest on here later =
      let goes : lying_on stream (delivered c (request ∷ requests)) ≡ front ++ lying_on stream (delivered c requests) =
      ap (λ (l : List Made). lying_on stream (flat_map (payloads_for c) l)) (while_is c request requests true on)
      ∙ lying-append stream (payloads_for c request) (delivered c requests) ∙ ap (λ (l : List (List ℕ)). l ++ lying_on stream (delivered c requests)) here in
      subst (λ (l : List (List ℕ)). Begins l (front ++ rest)) (sym goes) (later_begins front (lying_on stream (delivered c requests)) rest later)

  deliver_begins : (requests : List Made) (given : List Answered) → Each requests given → Begins (lying_on stream (delivered c requests)) (stanzas_on stream (items_taken given))
  deliver_begins [] given each = (stanzas_on stream (items_taken given), refl)
  deliver_begins (request ∷ requests) given each = by (goes_on c request) refl given each (deliver_begins requests)
    where
      by : (b : Bool) → goes_on c request ≡ b → (given : List Answered) → Each (request ∷ requests) given
          → ((others : List Answered) → Each requests others → Begins (lying_on stream (delivered c requests)) (stanzas_on stream (items_taken others)))
          → Begins (lying_on stream (delivered c (request ∷ requests))) (stanzas_on stream (items_taken given))
      by false on given each later =
          subst (λ (l : List Made). Begins (lying_on stream (flat_map (payloads_for c) l)) (stanzas_on stream (items_taken given))) (sym (while_is c request requests false on)) (stanzas_on stream (items_taken given), refl)
      by true on [] each later = one_more request requests [] [] on (each 0 request refl on) (later [] (λ k r is goes. each (suc k) r is goes))
      by true on (answer ∷ given) each later =
          let front = stanzas_on stream (items_in answer.front) in
          subst (Begins (lying_on stream (delivered c (request ∷ requests)))) (sym (stanzas_on-append stream (items_in answer.front) (items_taken given)))
          (one_more request requests front (stanzas_on stream (items_taken given)) on (each 0 request refl on) (later given (λ k r is goes. each (suc k) r is goes)))

no_end : {X : Type 0} (o : Option X) → is_none o ≡ true → o ≡ None
no_end None is = refl
no_end (Some x) is = absurd (cc)

module _ (below : Below) (setup : ClientSetup) (w : PlainWorld) (h : IsSound setup w) (m : PlainManager) (is : w.manager ≡ Some m) where
  abbrev pub s : PlainSession
  s = session m

  pub made : IsJournal m.journal
  made = (sound below setup w h m is).made

  -- Numbers.

  first_is : first_of s ≡ setup.first
  first_is = ap (λ copy. copy.request.rid) (every_creation m.journal made) ∙ rid_is below setup w h m is

  last_few : last_of s ≤ greatest_rid
  last_few =
      let last = stands below setup w h m is (length s.processed) (omega (arith, copies_length s.processed)) in
      let form = all_at (λ (request : Made). HasForm setup request.parts) w.client.requests (length s.processed) last.request (formed below setup w h) last.here in
      let id = id_at setup.first w.client.requests (length s.processed) last.request (from below setup w h m is) last.here in
      omega (arith, form.form.rid.1, id, first_is)

  answered_few : answered_of s ≤ greatest_rid
  answered_few = omega (arith, last_few, (below.journals m.journal made).answers_processed)

  -- Each answer reads back.

  pub answer_read : (k : ℕ) (answer : Answered) → slice_get (answers s) k ≡ Some answer → IsRead answer.bytes (items_in answer.front)
  answer_read zero answer at =
      let same : first_answer m.journal.opening ≡ answer = sym (below.journals m.journal made).created ∙ some_is s.created answer at in
      subst (λ (a : Answered). IsRead a.bytes (items_in a.front)) same
      (created_read below setup h.begins.client h.begins.first m.journal.opening made.0 (sound below setup w h m is).opened)
  answer_read (suc k) answer at =
      let early = all_at (λ (a : Answered). a.moment ≤ w.moment) s.answered k answer (every_moment w.moment m.journal made (sound below setup w h m is).early) at in
      let some : 1 ≤ first_of s = omega (arith, first_is, (h.begins.first).0) in
      shaped_read below (first_of s) (last_of s) (answered_of s) answer some last_few answered_few (omega (arith, early, h.time))
      (fronts_proper (answers s) (waiting s) (given_in m.journal) (below.journals m.journal made).given (every_proper m.journal made) (suc k) answer at)
      (all_at (IsShaped (first_of s) (last_of s) (answered_of s)) s.answered k answer (every_shape m.journal made) at)

  -- the items of the first are the greeting, which lies on the first stream
  first_lies : (answer : Answered) → slice_get (answers s) 0 ≡ Some answer → All (LiesOn 0) (items_in answer.front)
  first_lies answer at =
      let same : first_answer m.journal.opening ≡ answer = sym (below.journals m.journal made).created ∙ some_is s.created answer at in
      subst (λ (a : Answered). All (LiesOn 0) (items_in a.front)) same (greeting_lies m.journal.opening.greeting)

  -- What an id was given.

  numbers : (k : ℕ) (answer : Answered) → slice_get (answers s) k ≡ Some answer → (kept_answer answer).0 ≡ setup.first + k
  numbers k answer at = (below.journals m.journal made).answer_ids k answer at ∙ ap (λ (n : ℕ). n + k) (rid_is below setup w h m is)

  abbrev given_with : Option KeptAnswer → Option Ending → ℕ → Option (List ℕ)
  given_with kept ending rid = option_or (option_map (λ (k : KeptAnswer). k.bytes) kept) (option_map (λ e. last_word (answered_of s) e rid) ending)

  was_answered : (k : ℕ) (answer : Answered) → slice_get (answers s) k ≡ Some answer → (body : List ℕ) → bytes_for s (setup.first + k) ≡ Some body → body ≡ answer.bytes
  was_answered k answer at body given =
      let found = at_place kept_answer setup.first (answers s) numbers k answer at in
      some_is body answer.bytes (sym given ∙ ap (λ (o : Option KeptAnswer). given_with o s.ending (setup.first + k)) found)

  had_word : (k : ℕ) → slice_get (answers s) k ≡ None → (body : List ℕ) → bytes_for s (setup.first + k) ≡ Some body → (ending : Ending) × (body ≡ last_word (answered_of s) ending (setup.first + k))
  had_word k none body given = by s.ending (sym (ap (λ (o : Option KeptAnswer). given_with o s.ending (setup.first + k)) found) ∙ given)
    where
      found : at_id (map kept_answer (answers s)) (setup.first + k) ≡ None
      found = past_place kept_answer setup.first (answers s) numbers k none

      by : (ending : Option Ending) → given_with None ending (setup.first + k) ≡ Some body → (ending : Ending) × (body ≡ last_word (answered_of s) ending (setup.first + k))
      by None is = absurd (cc)
      by (Some ending) is = (ending, sym (some_is (last_word (answered_of s) ending (setup.first + k)) body is))

  -- What the client took for it.

  -- what the answer at a place took lies where the client takes its payloads to lie
  lies_there : (k : ℕ) (answer : Answered) (tells : Told) → slice_get (answers s) k ≡ Some answer → All (LiesOn (stream_named tells.stream)) (items_in answer.front)
      → All (LiesOn (lies_on setup (setup.first + k) tells)) (items_in answer.front)
  lies_there k answer tells at lie = split (λ (n : ℕ). All (LiesOn n) (items_in answer.front)) (setup.first + k == setup.first) 0 (stream_named tells.stream)
      (λ created.
      let id : setup.first + k ≡ setup.first = eqb-true (setup.first + k) setup.first created in
      let place : k ≡ 0 = omega (arith, id) in
      first_lies answer (ap (slice_get (answers s)) (sym place) ∙ at))
      (λ later. lie)

  abbrev payloads_by : ℕ → Taken → List (ℕ × List ℕ)
  payloads_by rid t = on_stream (lies_on setup rid t.tells) t.tells.payloads

  module _ (stream : ℕ) where
    payloads_given : (k : ℕ) (t : Taken) → answer_of t.body ≡ Ok t.tells → bytes_for s (setup.first + k) ≡ Some t.body → (o : Option Answered) → slice_get (answers s) k ≡ o
        → lying_on stream (payloads_by (setup.first + k) t) ≡ took_on stream o
    payloads_given k t reads given None none =
        let word = had_word k none t.body given in
        let empty = word_payloads below (answered_of s) word.0 (setup.first + k) t.tells (sym (ap answer_of word.1) ∙ reads) in
        ap (λ (l : List (List ℕ)). lying_on stream (on_stream (lies_on setup (setup.first + k) t.tells) l)) empty
    payloads_given k t reads given (Some answer) at =
        let same = was_answered k answer at t.body given in
        let items = items_in answer.front in
        let read = read_payloads below answer.bytes items (answer_read k answer at) t.tells (sym (ap answer_of same) ∙ reads) in
        let on : ℕ = lies_on setup (setup.first + k) t.tells in
        ap (λ (l : List (List ℕ)). lying_on stream (on_stream on l)) read.payloads_are ∙ stanzas_lie stream on items (lies_there k answer t.tells at read.lie)

    payloads_taken : (k : ℕ) (t : Taken) → answer_of t.body ≡ Ok t.tells → t.tells.end ≡ None → IsAnswerTo s (setup.first + k, t.body)
        → lying_on stream (payloads_by (setup.first + k) t) ≡ took_on stream (slice_get (answers s) k)
    payloads_taken k t reads on answer = elim answer [
      | inl given ↦ payloads_given k t reads given (slice_get (answers s) k) refl
      | inr word ↦ absurd (terminal_ends below word.0 t.tells (sym (ap answer_of word.1) ∙ reads) on)
    ]

    each : Each w.client stream w.client.requests (answers s)
    each k request at = by (taken w.client (id_of request)) refl
      where
        id : id_of request ≡ setup.first + k
        id = id_at setup.first w.client.requests k request (from below setup w h m is) at

        same : w.client.setup ≡ setup
        same = setup_same below setup h.begins.client h.begins.first w.client h.client

        by : (o : Option Taken) → taken w.client (id_of request) ≡ o → (elim o as (λ _. Bool) [ None ↦ false | Some answer ↦ is_none answer.tells.end ]) ≡ true
            → lying_on stream (elim o as (λ _. List (ℕ × List ℕ)) [ None ↦ [] | Some answer ↦ on_stream (lies_on w.client.setup (id_of request) answer.tells) answer.tells.payloads ])
            ≡ took_on stream (slice_get (answers s) k)
        by None found on = absurd (cc)
        by (Some t) found on =
            let there : at_id w.client.answers (setup.first + k) ≡ Some t = ap (at_id w.client.answers) (sym id) ∙ found in
            let answer = taken_holds (λ answer. IsAnswerTo s (body_taken answer)) w.client.answers (setup.first + k) t (sound below setup w h m is).taken_are there in
            let reads = taken_holds (λ (answer : ℕ × Taken). answer_of answer.1.body ≡ Ok answer.1.tells) w.client.answers (setup.first + k) t
            (all_told below setup h.begins.client h.begins.first w.client h.client) there in
            ap (λ (u : ClientSetup). lying_on stream (on_stream (lies_on u (id_of request) t.tells) t.tells.payloads)) same
            ∙ ap (λ (rid : ℕ). lying_on stream (payloads_by rid t)) id ∙ payloads_taken k t reads (no_end t.tells.end on) answer

    pub delivered_begins : Begins (lying_on stream (was_handed w.client)) (stanzas_in (given_of m.journal stream))
    delivered_begins =
        let laws = below.journals m.journal made in
        let all : stanzas_on stream (given_in m.journal) ≡ stanzas_on stream (items_taken (answers s)) ++ stanzas_on stream (waiting s) =
        ap (stanzas_on stream) (sym laws.given) ∙ stanzas_on-append stream (items_taken (answers s)) (waiting s) in
        begins_then (lying_on stream (was_handed w.client)) (lying_on stream (deliverable w.client)) (stanzas_on stream (given_in m.journal)) (take_lies stream w.client.handed_out (deliverable w.client))
        (begins_then (lying_on stream (deliverable w.client)) (stanzas_on stream (items_taken (answers s))) (stanzas_on stream (given_in m.journal))
        (deliver_begins w.client stream w.client.requests (answers s) each) (stanzas_on stream (waiting s), all))

-- before anything was answered nothing is handed out
none_taken : (c : PlainClient) → c.answers ≡ [] → (request : Made) → goes_on c request ≡ false
none_taken c none request = ap (λ (l : List (ℕ × Taken)). elim (at_id l (id_of request)) as (λ _. Bool) [ None ↦ false | Some answer ↦ is_none answer.tells.end ]) none

none_handed : (c : PlainClient) (requests : List Made) → c.answers ≡ [] → flat_map (payloads_for c) (take_while (goes_on c) requests) ≡ []
none_handed c [] none = refl
none_handed c (request ∷ requests) none =
    ap (flat_map (payloads_for c)) (take_while-cons (goes_on c) request requests ∙ ap (λ (b : Bool). cond b (request ∷ take_while (goes_on c) requests) []) (none_taken c none request))

pub handed_begins : Below → (setup : ClientSetup) (w : PlainWorld) → IsSound setup w → (stream : ℕ) → Begins (lying_on stream (was_handed w.client)) (was_given w stream)
handed_begins below setup w h stream = by w.manager refl
  where
    by : (o : Option PlainManager) → w.manager ≡ o → Begins (lying_on stream (was_handed w.client)) (given_at o stream)
    by None is =
        let empty : deliverable w.client ≡ [] = none_handed w.client w.client.requests (manager_of below setup w h None is).1 in
        ([], empty_take w.client.handed_out (deliverable w.client) empty)
      where
        empty_take : (n : ℕ) (xs : List (ℕ × List ℕ)) → xs ≡ [] → [] ≡ lying_on stream (take n xs) ++ []
        empty_take zero [] empty = refl
        empty_take (suc n) [] empty = refl
        empty_take n (x ∷ xs) empty = absurd (cc)
    by (Some m) is = delivered_begins below setup w h m is stream
