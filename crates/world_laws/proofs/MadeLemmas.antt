-- What holds of each request that a client made after its creation.
use Rattle.std.proofs.Common.{◌≡◌, ◌≢◌, ℕ, zero, suc, ◌+◌, ◌-◌, ◌<◌, ◌≤◌, ◌==◌, ◌&&◌, ◌||◌, inl, inr, Bool, true, false, cond, min, List, [], ◌∷◌, ◌++◌, length, take, slice_get, refl, sym, ◌∙◌, ap, subst, arith}
use Rattle.std.specs.Prelude.{Option, None, Some, All, nat_lt, nat_le, not, is_some, ⊤}
use Rattle.std.specs.List.{list_all, list_any}
use Rattle.std.specs.Option.{option_map}
use Rattle.std.proofs.lemmas.Bool.{and_parts, leb-true}
use Rattle.std.proofs.lemmas.Bool.Decides.{nat_tests}
use Rattle.std.proofs.lemmas.List.Elements.{All-append, All-cons, All-drop, All-head, All-nil, All-tail}
use Rattle.bosh_types.specs.Limits.{longest_stanza, most_children}
use Rattle.bosh_types.proofs.ById.{at_id-push_other}
use Rattle.body_writer.specs.declared.request.RequestParts.{RequestParts}
use Rattle.rid_window.specs.PlainWindow.{reach}
use Rattle.stream_names.specs.PlainStreams.{begun}
use Rattle.session_laws.proofs.Lists.{get_push}
use Rattle.session_laws.proofs.Tests.{some_is}
use Rattle.bosh_client.specs.declared.agreed.Agreed.{Agreed}
use Rattle.bosh_client.specs.declared.outgoing.Outgoing.{Outgoing}
use Rattle.bosh_client.specs.declared.outgoing.Outgoing.TheVariants as items
use Rattle.bosh_client.specs.declared.setup.ClientSetup.{ClientSetup}
use Rattle.bosh_client.specs.Keys.{key_at, newkey_at}
use Rattle.bosh_client.specs.Machine.{allows_pause, has_rested, is_due, is_due_by, is_due_of, new_client, next_made, with_answer, with_request}
use Rattle.bosh_client.specs.Outgoing.{fit_one_body, front_of, host_in, is_restart, is_stanza, longest_front, pause_in, same_stream, stanzas_in, stream_in, terminates}
use Rattle.bosh_client.specs.PlainClient.{Made, PlainClient, Taken, id_of, items_made, lowest, next_id, queued, streams, taken}
use Rattle.bosh_client.specs.Requests.{agreed, agreed_by, creation_parts, with_keys}
use Rattle.bosh_client.specs.Runs.{Add, Answer, Call, CloseStream, HandOut, NextRequest, Pause, Put, PutOn, Restart, Terminate, after, step}
use Rattle.bosh_client.specs.StandsFor.{AreFrom}
use Rattle.bosh_client.proofs.Fronts.{fits_is, fits_parts, longest_fits}
use Rattle.bosh_client.proofs.DueLemmas.{known_lower}
use Rattle.bosh_client.proofs.RequestLemmas.{none_left}
use Rattle.bosh_client.proofs.RunLemmas.{IsClient, MayQueue, step_is, step_with, still_taken}
use Rattle.world_laws.proofs.OpenForLemmas.{AreForOpen, IsForOpen, open_push}
use Rattle.world_laws.proofs.LowestLemmas.{answers_lowest, below_lowest, lowest_next, requests_lowest}

-- What a manager looks at.

-- a pause or a terminate, for which one request more may be open
abbrev pub is_extra : RequestParts → Bool
is_extra parts = is_some parts.pause || parts.terminate

abbrev pub is_pause : RequestParts → Bool
is_pause parts = is_some parts.pause && not parts.terminate

-- it carries nothing
abbrev pub is_empty : RequestParts → Bool
is_empty parts = ((length parts.payloads == 0) && not (is_pause parts)) && not (parts.terminate || parts.restart)

-- and adds no stream
abbrev pub is_poll : RequestParts → Bool
is_poll parts = is_empty parts && not (is_some parts.to && not (is_some parts.stream))

-- What may be queued: a stanza that one body may take, and a pause that is no longer than was agreed.

abbrev pub IsQueued : Option Agreed → Outgoing → Type 0
IsQueued agreed (items.Stanza on bytes) = length bytes ≤ longest_stanza
IsQueued agreed items.Restart = ⊤
IsQueued agreed (items.Pause seconds) = (a : Agreed) × (agreed ≡ Some a) × (seconds ≤ a.maxpause)
IsQueued agreed (items.Add to) = ⊤
IsQueued agreed (items.Close stream) = ⊤
IsQueued agreed items.Terminate = ⊤

-- all lower ids were answered
abbrev pub AllBelow : PlainClient → ℕ → Type 0
AllBelow c rid = (id : ℕ) → c.setup.first ≤ id → id < rid → is_some (taken c id) ≡ true

-- the request at this place after the creation, of a client that agreed on this
pub record IsKeeping (c : PlainClient) (a : Agreed) (k : ℕ) (request : Made) : Type 0 where
  pub near : id_of request < lowest c + reach a.requests (is_extra request.parts)
  pub short : (seconds : ℕ) → request.parts.pause ≡ Some seconds → seconds ≤ a.maxpause
  pub alone : is_poll request.parts ≡ true → AllBelow c (id_of request)
  pub later : request.parts.creation ≡ None
  pub key : request.parts.key ≡ with_keys c.setup (Some (key_at c.setup.seed c.setup.keys k))
  pub newkey : request.parts.newkey ≡ with_keys c.setup (newkey_at c.setup.seed c.setup.keys k)

abbrev pub Keeps : PlainClient → ℕ → Made → Type 0
Keeps c k request = (a : Agreed) × (agreed c ≡ Some a) × IsKeeping c a k request

pub record AllKeep (c : PlainClient) : Type 0 where
  pub queue : All (IsQueued (agreed c)) c.accepted
  pub open_for : AreForOpen begun c.accepted
  pub first : (request : Made) → slice_get c.requests 0 ≡ Some request → request.parts ≡ creation_parts c.setup
  pub each : (k : ℕ) (request : Made) → slice_get c.requests (suc k) ≡ Some request → Keeps c k request

-- What is agreed stays.

agreed_stays : (c : PlainClient) (rid : ℕ) (t : Taken) (a : Agreed) → taken c rid ≡ None → agreed c ≡ Some a → agreed (with_answer c rid t) ≡ Some a
agreed_stays c rid t a none is = by (taken c c.setup.first) refl is
  where
    by : (o : Option Taken) → taken c c.setup.first ≡ o → option_map (λ (answer : Taken). agreed_by c.setup answer.tells) o ≡ Some a → agreed (with_answer c rid t) ≡ Some a
    by None here is = absurd (cc)
    by (Some answer) here is =
        let other : c.setup.first ≢ rid = λ same.
        let one : is_some (taken c c.setup.first) ≡ true = ap is_some here in
        let two : is_some (taken c c.setup.first) ≡ false = ap (λ n. is_some (taken c n)) same ∙ ap is_some none in
        cc in
        ap (option_map (λ (x : Taken). agreed_by c.setup x.tells)) (at_id-push_other c.answers rid c.setup.first t other ∙ here) ∙ is

queue_stays : (c : PlainClient) (rid : ℕ) (t : Taken) (item : Outgoing) → taken c rid ≡ None → IsQueued (agreed c) item → IsQueued (agreed (with_answer c rid t)) item
queue_stays c rid t (items.Stanza on bytes) none is = is
queue_stays c rid t items.Restart none is = tt
queue_stays c rid t (items.Pause seconds) none is = (is.0, agreed_stays c rid t is.0 none is.1, is.2)
queue_stays c rid t (items.Add to) none is = tt
queue_stays c rid t (items.Close stream) none is = tt
queue_stays c rid t items.Terminate none is = tt

all_stays : (c : PlainClient) (rid : ℕ) (t : Taken) (items : List Outgoing) → taken c rid ≡ None → All (IsQueued (agreed c)) items → All (IsQueued (agreed (with_answer c rid t))) items
all_stays c rid t [] none all = All-nil (IsQueued (agreed (with_answer c rid t)))
all_stays c rid t (item ∷ items) none all =
    All-cons (IsQueued (agreed (with_answer c rid t))) item items (queue_stays c rid t item none (All-head (IsQueued (agreed c)) item items all))
    (all_stays c rid t items none (All-tail (IsQueued (agreed c)) item items all))

-- A request that was made goes on to keep to it.

still_keeps : (c d : PlainClient) (a : Agreed) (k : ℕ) (request : Made) → d.setup ≡ c.setup → lowest c ≤ lowest d → ((id : ℕ) → is_some (taken c id) ≡ true → is_some (taken d id) ≡ true)
    → IsKeeping c a k request → IsKeeping d a k request
still_keeps c d a k request setup low still keeps = record {
  near = omega (arith, keeps.near, low);
  short = keeps.short;
  alone = λ empty id from to. still id (keeps.alone empty id (subst (λ (s : ClientSetup). s.first ≤ id) setup from) to);
  later = keeps.later;
  key = subst (λ (s : ClientSetup). request.parts.key ≡ with_keys s (Some (key_at s.seed s.keys k))) (sym setup) keeps.key;
  newkey = subst (λ (s : ClientSetup). request.parts.newkey ≡ with_keys s (newkey_at s.seed s.keys k)) (sym setup) keeps.newkey;
}

-- What a new request takes of the queue.

no_pause : (items : List Outgoing) → list_all is_stanza items ≡ true → pause_in items ≡ None
no_pause [] all = refl
no_pause (items.Stanza on bytes ∷ more) all = no_pause more all
no_pause (items.Restart ∷ more) all = absurd (cc)
no_pause (items.Pause seconds ∷ more) all = absurd (cc)
no_pause (items.Add to ∷ more) all = absurd (cc)
no_pause (items.Close stream ∷ more) all = absurd (cc)
no_pause (items.Terminate ∷ more) all = absurd (cc)

not_zero : (n : ℕ) → (suc n == 0) ≡ false
not_zero n = grind (arith, nat_tests)

-- a stanza that fits is taken
takes_first : (most : ℕ) (on : Option ℕ) (bytes : List ℕ) (more : List Outgoing) → 1 ≤ most → length bytes ≤ longest_stanza
    → (length (stanzas_in (longest_front most (items.Stanza on bytes ∷ more))) == 0) ≡ false
takes_first zero on bytes more some short = absurd (omega (arith, some))
takes_first (suc zero) on bytes more some short =
    let fits : fit_one_body (take 1 (items.Stanza on bytes ∷ more)) ≡ true = fits_is (items.Stanza on bytes ∷ []) refl (omega (arith, short)) (itself on) in
    ap (λ (b : Bool). length (stanzas_in (cond b (take 1 (items.Stanza on bytes ∷ more)) [])) == 0) fits
  where
    itself : (on : Option ℕ) → same_stream on on && true ≡ true
    itself None = refl
    itself (Some stream) =
        let same : (stream == stream) ≡ true = grind (arith, nat_tests) in
        ap (λ (b : Bool). b && true) same
takes_first (suc (suc most)) on bytes more some short = by (fit_one_body (take (suc (suc most)) (items.Stanza on bytes ∷ more))) (takes_first (suc most) on bytes more (omega arith) short)
  where
    by : (b : Bool) → (length (stanzas_in (longest_front (suc most) (items.Stanza on bytes ∷ more))) == 0) ≡ false
        → (length (stanzas_in (cond b (take (suc (suc most)) (items.Stanza on bytes ∷ more)) (longest_front (suc most) (items.Stanza on bytes ∷ more)))) == 0) ≡ false
    by true rest = not_zero (length (stanzas_in (take (suc most) more)))
    by false rest = rest

reach_least : (requests : ℕ) (extra : Bool) → requests ≤ reach requests extra
reach_least requests true = omega arith
reach_least requests false = omega arith

module _ (c : PlainClient) (a : Agreed) (now : ℕ) (some : 1 ≤ a.requests) (few : lowest c ≤ next_id c) where
  -- few ids are open
  near_of : (queue : List Outgoing) → is_due_of c a queue now ≡ true → next_id c < lowest c + reach a.requests (is_some (pause_in (front_of queue)) || list_any terminates (front_of queue))
  near_of [] due =
      let none : (next_id c - lowest c == 0) ≡ true = (and_parts (next_id c - lowest c == 0) (has_rested c a now) due).0 in
      let same : next_id c - lowest c ≡ 0 = grind (arith, nat_tests, none) in
      omega (arith, same, some, few)
  near_of (items.Stanza on bytes ∷ more) due =
      let front = front_of (items.Stanza on bytes ∷ more) in
      let less : next_id c < lowest c + a.requests = grind (arith, nat_tests, due, some, few) in
      omega (arith, less, reach_least a.requests (is_some (pause_in front) || list_any terminates front))
  near_of (items.Restart ∷ more) due = grind (arith, nat_tests, due, some, few)
  near_of (items.Pause seconds ∷ more) due = grind (arith, nat_tests, due, some, few)
  near_of (items.Add to ∷ more) due = grind (arith, nat_tests, due, some, few)
  near_of (items.Close stream ∷ more) due = grind (arith, nat_tests, due, some, few)
  near_of (items.Terminate ∷ more) due = grind (arith, nat_tests, due, some, few)

-- the pause is one that was queued
short_of : (a : Agreed) (queue : List Outgoing) → All (IsQueued (Some a)) queue → (seconds : ℕ) → pause_in (front_of queue) ≡ Some seconds → seconds ≤ a.maxpause
short_of a [] all seconds is = absurd (cc)
short_of a (items.Stanza on bytes ∷ more) all seconds is =
    let queue = items.Stanza on bytes ∷ more in
    let front = longest_front (min most_children (length queue)) queue in
    absurd (
    let none : pause_in front ≡ None = no_pause front (fits_parts front (longest_fits (min most_children (length queue)) queue)).0 in
    cc)
short_of a (items.Restart ∷ more) all seconds is = absurd (cc)
short_of a (items.Pause other ∷ more) all seconds is =
    let queued = All-head (IsQueued (Some a)) (items.Pause other) more all in
    let same : a ≡ queued.0 = some_is a queued.0 queued.1 in
    let one : other ≡ seconds = some_is other seconds is in
    omega (arith, queued.2, ap (λ (x : Agreed). x.maxpause) same, one)
short_of a (items.Add to ∷ more) all seconds is = absurd (cc)
short_of a (items.Close stream ∷ more) all seconds is = absurd (cc)
short_of a (items.Terminate ∷ more) all seconds is = absurd (cc)

-- a request that carries nothing and adds no stream is made where nothing is queued

-- it takes these payloads and this front of the queue
abbrev polls_with : List (List ℕ) → List Outgoing → Bool
polls_with payloads front =
    (((length payloads == 0) && not (is_some (pause_in front) && not (list_any terminates front))) && not (list_any terminates front || list_any is_restart front))
    && not (is_some (host_in front) && not (is_some (stream_in front)))

polls_parts : (payloads : List (List ℕ)) (front : List Outgoing) → polls_with payloads front ≡ true
    → ((length payloads == 0) ≡ true) × (not (is_some (pause_in front) && not (list_any terminates front)) ≡ true) × (not (list_any terminates front || list_any is_restart front) ≡ true)
    × (not (is_some (host_in front) && not (is_some (stream_in front))) ≡ true)
polls_parts payloads front polls =
    let one = and_parts (((length payloads == 0) && not (is_some (pause_in front) && not (list_any terminates front))) && not (list_any terminates front || list_any is_restart front)) (not (is_some (host_in front) && not (is_some (stream_in front)))) polls in
    let two = and_parts ((length payloads == 0) && not (is_some (pause_in front) && not (list_any terminates front))) (not (list_any terminates front || list_any is_restart front)) one.0 in
    let three = and_parts (length payloads == 0) (not (is_some (pause_in front) && not (list_any terminates front))) two.0 in
    (three.0, three.1, two.1, one.1)

no_truth : false ≡ true → ⊥
no_truth is = absurd (cc)

pub empty_of : (o : Option Agreed) (queue : List Outgoing) → All (IsQueued o) queue → (payloads : List (List ℕ)) → payloads ≡ stanzas_in (front_of queue)
    → polls_with payloads (front_of queue) ≡ true → queue ≡ []
empty_of o [] all payloads are polls = refl
empty_of o (items.Stanza on bytes ∷ more) all payloads are polls =
    let queue = items.Stanza on bytes ∷ more in
    let some : (length payloads == 0) ≡ false = ap (λ (l : List (List ℕ)). length l == 0) are ∙ takes_first (min most_children (length queue)) on bytes more (omega arith) (All-head (IsQueued o) (items.Stanza on bytes) more all) in
    absurd (no_truth (sym some ∙ (polls_parts payloads (front_of queue) polls).0))
empty_of o (items.Restart ∷ more) all payloads are polls = absurd (no_truth (polls_parts payloads (items.Restart ∷ []) polls).2)
empty_of o (items.Pause seconds ∷ more) all payloads are polls = absurd (no_truth (polls_parts payloads (items.Pause seconds ∷ []) polls).1)
empty_of o (items.Add to ∷ more) all payloads are polls = absurd (no_truth (polls_parts payloads (items.Add to ∷ []) polls).3)
empty_of o (items.Close stream ∷ more) all payloads are polls = absurd (no_truth (polls_parts payloads (items.Close stream ∷ []) polls).2)
empty_of o (items.Terminate ∷ more) all payloads are polls = absurd (no_truth (polls_parts payloads (items.Terminate ∷ []) polls).2)

pub alone_of : (c : PlainClient) (a : Agreed) (now : ℕ) (queue : List Outgoing) → lowest c ≤ next_id c → queue ≡ [] → is_due_of c a queue now ≡ true → next_id c ≤ lowest c
alone_of c a now [] few empty due =
    let none : (next_id c - lowest c == 0) ≡ true = (and_parts (next_id c - lowest c == 0) (has_rested c a now) due).0 in
    let same : next_id c - lowest c ≡ 0 = grind (arith, nat_tests, none) in
    omega (arith, same)
alone_of c a now (item ∷ more) few empty due = absurd (cc)

-- One more request.

agreed_some : (c : PlainClient) (a : Agreed) → agreed c ≡ Some a → 1 ≤ a.requests
agreed_some c a is = by (taken c c.setup.first) is
  where
    by : (o : Option Taken) → option_map (λ (answer : Taken). agreed_by c.setup answer.tells) o ≡ Some a → 1 ≤ a.requests
    by None is = absurd (cc)
    by (Some answer) is =
        let same : agreed_by c.setup answer.tells ≡ a = some_is (agreed_by c.setup answer.tells) a is in
        omega (arith, ap (λ (x : Agreed). x.requests) same)

pub all_queued : (c : PlainClient) → All (IsQueued (agreed c)) c.accepted → All (IsQueued (agreed c)) (queued c)
all_queued c all = All-drop (IsQueued (agreed c)) (length (items_made c)) c.accepted all

next_keeps : (c : PlainClient) (a : Agreed) (now k : ℕ) → AreFrom c.setup.first c.requests → All (IsQueued (agreed c)) c.accepted → agreed c ≡ Some a → is_due_of c a (queued c) now ≡ true
    → length c.requests ≡ suc k → IsKeeping (with_request c (next_made c (Some a))).0 a k (next_made c (Some a))
next_keeps c a now k ids all is due place =
    let request = next_made c (Some a) in
    let few : lowest c ≤ next_id c = lowest_next c ids in
    let queue : All (IsQueued (Some a)) (queued c) = subst (λ (o : Option Agreed). All (IsQueued o) (queued c)) is (all_queued c all) in
    let low = requests_lowest c request refl in
    let here : length c.requests - 1 ≡ k = omega (arith, place) in
    record {
      near = omega (arith, low, near_of c a now (agreed_some c a is) few (queued c) due);
      short = short_of a (queued c) queue;
      alone = λ empty id from to.
          let none = alone_of c a now (queued c) few (empty_of (Some a) (queued c) queue request.parts.payloads refl empty) due in
          below_lowest c ids id from (omega (arith, to, none));
      later = refl;
      key = ap (λ (n : ℕ). with_keys c.setup (Some (key_at c.setup.seed c.setup.keys n))) here;
      newkey = ap (λ (n : ℕ). with_keys c.setup (newkey_at c.setup.seed c.setup.keys n)) here;
    }

-- Call by call.

with_made : (c : PlainClient) (request : Made) → id_of request ≡ next_id c → AllKeep c
    → (length c.requests ≡ 0 → request.parts ≡ creation_parts c.setup) → ((k : ℕ) → length c.requests ≡ suc k → Keeps (record c { requests = c.requests ++ request ∷ [] }) k request)
    → AllKeep (record c { requests = c.requests ++ request ∷ [] })
with_made c request id h creation later = record {
  queue = h.queue;
  open_for = h.open_for;
  first = λ r is. elim (get_push c.requests request 0 r is) [
    | inl there ↦ h.first r there
    | inr last ↦ ap (λ (x : Made). x.parts) (sym last.1) ∙ creation (sym last.0)
  ];
  each = λ k r is. elim (get_push c.requests request (suc k) r is) [
    | inl there ↦
        let was = h.each k r there in
        (was.0, was.1, still_keeps c (record c { requests = c.requests ++ request ∷ [] }) was.0 k r refl (requests_lowest c request id) (λ n taken. taken) was.2)
    | inr last ↦ subst (λ (x : Made). Keeps (record c { requests = c.requests ++ request ∷ [] }) k x) last.1 (later k (sym last.0))
  ];
}

-- the creation's answer was taken only if it was made
agreed_made : (setup : ClientSetup) (c : PlainClient) (a : Agreed) → IsClient setup c → agreed c ≡ Some a → length c.requests ≡ 0 → ⊥
agreed_made setup c a client is none = by (taken c c.setup.first) refl is
  where
    by : (o : Option Taken) → taken c c.setup.first ≡ o → option_map (λ (answer : Taken). agreed_by c.setup answer.tells) o ≡ Some a → ⊥
    by None here is = cc
    by (Some answer) here is = omega (arith, known_lower c.answers c.setup.first (next_id c) answer here client.known, none)

next_all : (setup : ClientSetup) (c : PlainClient) (now : ℕ) → IsClient setup c → is_due c now ≡ true → AllKeep c → AllKeep (with_request c (next_made c (agreed c))).0
next_all setup c now client due h = by (agreed c) refl due
  where
    by : (o : Option Agreed) → agreed c ≡ o → is_due_by c o now ≡ true → AllKeep (with_request c (next_made c o)).0
    by None is due =
        let none : c.requests ≡ [] = none_left c.requests due in
        with_made c (next_made c None) (omega (arith, ap length none)) h (λ empty. refl) (λ k place. absurd (omega (arith, ap length none, place)))
    by (Some a) is due =
        with_made c (next_made c (Some a)) refl h (λ empty. absurd (agreed_made setup c a client is empty))
        (λ k place. (a, is, next_keeps c a now k client.ids h.queue is due place))

answers_all : (setup : ClientSetup) (c : PlainClient) (rid : ℕ) (t : Taken) → IsClient setup c → taken c rid ≡ None → AllKeep c → AllKeep (with_answer c rid t)
answers_all setup c rid t client none h = record {
  queue = all_stays c rid t c.accepted none h.queue;
  open_for = h.open_for;
  first = h.first;
  each = λ k r is.
      let was = h.each k r is in
      (was.0, agreed_stays c rid t was.0 none was.1, still_keeps c (with_answer c rid t) was.0 k r refl (answers_lowest c rid t client.ids none) (λ id taken. still_taken c rid id t none taken) was.2);
}

-- what a client is asked to send
abbrev pub IsShortCall : Call → Type 0
IsShortCall (Put stanza) = length stanza ≤ longest_stanza
IsShortCall (PutOn stream stanza) = length stanza ≤ longest_stanza
IsShortCall (Add to) = ⊤
IsShortCall (CloseStream stream) = ⊤
IsShortCall Restart = ⊤
IsShortCall (Pause seconds) = ⊤
IsShortCall Terminate = ⊤
IsShortCall (NextRequest now) = ⊤
IsShortCall (Answer rid body now) = ⊤
IsShortCall HandOut = ⊤

pause_within : (c : PlainClient) (seconds : ℕ) → allows_pause (agreed c) seconds ≡ true → IsQueued (agreed c) (items.Pause seconds)
pause_within c seconds allows = by (agreed c) allows
  where
    by : (o : Option Agreed) → allows_pause o seconds ≡ true → (a : Agreed) × (o ≡ Some a) × (seconds ≤ a.maxpause)
    by None allows = absurd (cc)
    by (Some a) allows = (a, refl, leb-true seconds a.maxpause (and_parts (nat_lt 0 seconds) (nat_le seconds a.maxpause) allows).1)

-- what is queued with a call
abbrev IsNew : PlainClient → Outgoing → Type 0
IsNew c item = IsQueued (agreed c) item × IsForOpen (streams c) item

queues : (c : PlainClient) (call : Call) → IsShortCall call → MayQueue c (IsNew c) call
queues c (Put stanza) short = (short, tt)
queues c (PutOn stream stanza) short = λ has. (short, has)
queues c (Add to) short = λ room. (tt, tt)
queues c (CloseStream stream) short = λ has. (tt, has)
queues c Restart short = (tt, tt)
queues c (Pause seconds) short = λ allows. (pause_within c seconds allows, tt)
queues c Terminate short = (tt, tt)
queues c (NextRequest now) short = tt
queues c (Answer rid body now) short = tt
queues c HandOut short = tt

keep_step : (setup : ClientSetup) (c : PlainClient) (call : Call) → IsShortCall call → IsClient setup c → AllKeep c → AllKeep (step c call).0
keep_step setup c call short client h =
    step_with c (IsNew c) (λ p. AllKeep p.0) (λ reply quiet. h)
    (λ item such. record {
      queue = All-append (IsQueued (agreed c)) c.accepted (item ∷ []) h.queue (All-cons (IsQueued (agreed c)) item [] such.0 (All-nil (IsQueued (agreed c))));
      open_for = open_push begun c.accepted item h.open_for such.1;
      first = h.first;
      each = λ k r is.
          let was = h.each k r is in
          (was.0, was.1, still_keeps c (record c { accepted = c.accepted ++ item ∷ [] }) was.0 k r refl (omega arith) (λ id taken. taken) was.2);
    })
    (λ now due left next. next_all setup c now client due h) (λ rid t made none reads fine. answers_all setup c rid t client none h)
    (λ payload next. record {
      queue = h.queue;
      open_for = h.open_for;
      first = h.first;
      each = λ k r is.
          let was = h.each k r is in
          (was.0, was.1, still_keeps c (record c { handed_out = c.handed_out + 1 }) was.0 k r refl (omega arith) (λ id taken. taken) was.2);
    }) call (queues c call short)

pub keep_after : (setup : ClientSetup) (c : PlainClient) (calls : List Call) → All IsShortCall calls → IsClient setup c → AllKeep c → AllKeep (after c calls)
keep_after setup c [] all client h = h
keep_after setup c (call ∷ calls) all client h =
    keep_after setup (step c call).0 calls (All-tail IsShortCall call calls all) (step_is setup c call client) (keep_step setup c call (All-head IsShortCall call calls all) client h)

pub new_keeps : (setup : ClientSetup) → AllKeep (new_client setup)
new_keeps setup = record {
  queue = All-nil (IsQueued None);
  open_for = tt;
  first = λ request is. absurd (cc);
  each = λ k request is. absurd (cc);
}
