-- What holds of a client after any calls.
use Rattle.std.proofs.Common.{◌≡◌, ◌≢◌, ℕ, zero, suc, ◌+◌, ◌-◌, ◌<◌, ◌≤◌, inl, inr, Bool, true, false, ◌&&◌, ◌||◌, cond, List, [], ◌∷◌, ◌++◌, length, take, drop, Some, None, refl, sym, ◌∙◌, ap, subst, arith, length-append, append_assoc, append-nil}
use Rattle.std.specs.Prelude.{Option, Result, Ok, Err, ◌==◌, nat_lt, not, is_none, is_some, IfSome, ⊤, slice_get, filter, if◌then◌else◌}
use Rattle.std.specs.List.{All, find, flat_map, take_while}
use Rattle.std.specs.Option.{option_map, option_or, unwrap_or}
use Rattle.std.proofs.lemmas.Bool.{cases_lt}
use Rattle.std.proofs.lemmas.Bool.Decides.{nat_tests}
use Rattle.std.proofs.lemmas.Grind.{flat_map-append}
use Rattle.std.proofs.lemmas.List.{drop-append-le, drop-drop, take-append-drop, take-append-le}
use Rattle.std.proofs.lemmas.List.Elements.{All-append, All-cons, All-head, All-nil, All-tail}
use Rattle.std.proofs.lemmas.List.Folds.{find-append}
use Rattle.std.proofs.lemmas.List.Sums.{take_while-cons}
use Rattle.std.proofs.lemmas.Option.{slice_get_within}
use Rattle.bosh_types.specs.Limits.{most_streams}
use Rattle.bosh_types.specs.Rid.{greatest_rid}
use Rattle.bosh_types.proofs.ById.{at_id-push_other}
use Rattle.bosh_client.specs.declared.agreed.Agreed.{Agreed}
use Rattle.bosh_client.specs.declared.outgoing.Outgoing.{Outgoing}
use Rattle.bosh_client.specs.declared.outgoing.Outgoing.TheVariants as items
use Rattle.bosh_client.specs.declared.replies.Answered.TheVariants as answerings
use Rattle.bosh_client.specs.declared.replies.Next.TheVariants as nexts
use Rattle.bosh_client.specs.declared.replies.Queued.TheVariants as queueings
use Rattle.bosh_client.specs.declared.replies.Why.{Why}
use Rattle.bosh_client.specs.declared.setup.ClientSetup.{ClientSetup}
use Rattle.bosh_client.specs.declared.told.Told.{Told}
use Rattle.bosh_client.specs.AnswerReading.{answer_of}
use Rattle.bosh_client.specs.Machine.{new_client, accept, add, allows_pause, answer, close_stream, copy, handed, has_stream, is_due, is_due_by, is_full, is_over, lacks_sid, misnames, next_made, next_request, pause, put, put_for, put_on, restart, take_answer, terminate, with_answer, with_request}
use Rattle.bosh_client.specs.Outgoing.{front_of, is_of_stream}
use Rattle.bosh_client.specs.PlainClient.{Made, Taken, PlainClient, bytes_of, deliverable, goes_on, has_ended, id_of, is_answered, items_made, lies_on, lowest, next_id, on_stream, payloads_for, queued, request_at, streams, taken, was_handed, was_made, was_put}
use Rattle.bosh_client.specs.Promises.{Acknowledges, AllTaken, Begins, is_queued, payloads_in}
use Rattle.bosh_client.specs.Requests.{agreed}
use Rattle.bosh_client.specs.Runs.{Call, Put, PutOn, Add, CloseStream, Restart, Pause, Terminate, NextRequest, Answer, HandOut, Reply, ToQueue, ToNext, ToAnswer, ToHandOut, after, called, client_after, replies, step}
use Rattle.bosh_client.specs.StandsFor.{AreFrom}
use Rattle.bosh_client.proofs.FoundLemmas.{unmade_high, unmade_low}
use Rattle.bosh_client.proofs.Fronts.{front_take}
use Rattle.bosh_client.proofs.RequestLemmas.{from-push}

-- Which way a call goes.

pub by_if : {X : Type 0} (Q : X → Type 0) (b : Bool) (x y : X) → (b ≡ true → Q x) → (b ≡ false → Q y) → Q (if b then x else y)
by_if Q true x y this other = this refl
by_if Q false x y this other = other refl

both_of : (a b : Bool) → (a || b) ≡ false → (a ≡ false) × (b ≡ false)
both_of true b is = absurd (cc)
both_of false b is = (refl, is)

pub not_false : (b : Bool) → not b ≡ false → b ≡ true
not_false true is = refl
not_false false is = absurd (cc)

-- what the call may queue is such, a pause where it is allowed, and what is for a stream where there is that stream
abbrev pub MayQueue : PlainClient → (Outgoing → Type 0) → Call → Type 0
MayQueue c Such (Put stanza) = Such (items.Stanza None stanza)
MayQueue c Such (PutOn stream stanza) = has_stream c stream ≡ true → Such (items.Stanza (Some stream) stanza)
MayQueue c Such (Add to) = nat_lt (streams c).opened most_streams ≡ true → Such (items.Add to)
MayQueue c Such (CloseStream stream) = has_stream c stream ≡ true → Such (items.Close stream)
MayQueue c Such Restart = Such items.Restart
MayQueue c Such (Pause seconds) = allows_pause (agreed c) seconds ≡ true → Such (items.Pause seconds)
MayQueue c Such Terminate = Such items.Terminate
MayQueue c Such (NextRequest now) = ⊤
MayQueue c Such (Answer rid body now) = ⊤
MayQueue c Such HandOut = ⊤

-- what a call does, where nothing comes of it, and where something does
module _ (c : PlainClient) (Such : Outgoing → Type 0) (P : PlainClient × Reply → Type 0)
    (same : (reply : Reply) → payloads_in (reply ∷ []) ≡ [] → P (c, reply))
    (accepts : (item : Outgoing) → Such item → P (called ToQueue (accept c item)))
    (requests : (now : ℕ) → is_due c now ≡ true → next_id c ≤ greatest_rid → next_request c now ≡ with_request c (next_made c (agreed c)) → P (called ToNext (with_request c (next_made c (agreed c)))))
    (answers : (rid : ℕ) (t : Taken) → is_some (request_at c rid) ≡ true → taken c rid ≡ None → answer_of t.body ≡ Ok t.tells → t.tells.error ≡ false → P (with_answer c rid t, ToAnswer answerings.Done))
    (hands : (payload : ℕ × List ℕ) → slice_get (deliverable c) c.handed_out ≡ Some payload → P (record c { handed_out = c.handed_out + 1 }, ToHandOut (Some payload))) where
  put_for_by : (on : Option ℕ) (stanza : List ℕ) → Such (items.Stanza on stanza) → P (called ToQueue (put_for c on stanza))
  put_for_by on stanza such = by_if (λ p. P (called ToQueue p)) (is_full c) _ _ (λ _. same (ToQueue queueings.Full) refl) (λ _. accepts (items.Stanza on stanza) such)

  put_by : (stanza : List ℕ) → Such (items.Stanza None stanza) → P (called ToQueue (put c stanza))
  put_by stanza such = by_if (λ p. P (called ToQueue p)) (is_over c) _ _ (λ _. same (ToQueue queueings.Over) refl) (λ _. put_for_by None stanza such)

  put_on_by : (stream : ℕ) (stanza : List ℕ) → (has_stream c stream ≡ true → Such (items.Stanza (Some stream) stanza)) → P (called ToQueue (put_on c stream stanza))
  put_on_by stream stanza such =
      by_if (λ p. P (called ToQueue p)) (is_over c) _ _ (λ _. same (ToQueue queueings.Over) refl)
      (λ _. by_if (λ p. P (called ToQueue p)) (has_stream c stream) _ _ (λ has. put_for_by (Some stream) stanza (such has)) (λ _. same (ToQueue queueings.NoStream) refl))

  add_by : (to : List ℕ) → (nat_lt (streams c).opened most_streams ≡ true → Such (items.Add to)) → P (called ToQueue (add c to))
  add_by to such =
      by_if (λ p. P (called ToQueue p)) (is_over c) _ _ (λ _. same (ToQueue queueings.Over) refl)
      (λ _. by_if (λ p. P (called ToQueue p)) (nat_lt (streams c).opened most_streams) _ _ (λ room. accepts (items.Add to) (such room)) (λ _. same (ToQueue queueings.Full) refl))

  close_by : (stream : ℕ) → (has_stream c stream ≡ true → Such (items.Close stream)) → P (called ToQueue (close_stream c stream))
  close_by stream such =
      by_if (λ p. P (called ToQueue p)) (is_over c) _ _ (λ _. same (ToQueue queueings.Over) refl)
      (λ _. by_if (λ p. P (called ToQueue p)) (has_stream c stream) _ _ (λ has. accepts (items.Close stream) (such has)) (λ _. same (ToQueue queueings.NoStream) refl))

  restart_by : Such items.Restart → P (called ToQueue (restart c))
  restart_by such = by_if (λ p. P (called ToQueue p)) (is_over c) _ _ (λ _. same (ToQueue queueings.Over) refl) (λ _. accepts items.Restart such)

  terminate_by : Such items.Terminate → P (called ToQueue (terminate c))
  terminate_by such = by_if (λ p. P (called ToQueue p)) (is_over c) _ _ (λ _. same (ToQueue queueings.Over) refl) (λ _. accepts items.Terminate such)

  pause_by : (seconds : ℕ) → (allows_pause (agreed c) seconds ≡ true → Such (items.Pause seconds)) → P (called ToQueue (pause c seconds))
  pause_by seconds such =
      by_if (λ p. P (called ToQueue p)) (is_over c) _ _ (λ _. same (ToQueue queueings.Over) refl)
      (λ _. by_if (λ p. P (called ToQueue p)) (allows_pause (agreed c) seconds) _ _ (λ allows. accepts (items.Pause seconds) (such allows)) (λ _. same (ToQueue queueings.TooLong) refl))

  next_by : (now : ℕ) → P (called ToNext (next_request c now))
  next_by now =
      by_if (λ p. next_request c now ≡ p → P (called ToNext p)) (has_ended c || not (is_due c now)) _ _ (λ _ is. same (ToNext nexts.Nothing) refl)
      (λ due. by_if (λ p. next_request c now ≡ p → P (called ToNext p)) (nat_lt greatest_rid (next_id c)) _ _ (λ _ is. same (ToNext nexts.RidsSpent) refl)
      (λ left is. requests now (not_false (is_due c now) (both_of (has_ended c) (not (is_due c now)) due).1) (grind (arith, nat_tests, left)) is)) refl

  taken_by : (rid : ℕ) (body : List ℕ) (now : ℕ) (told : Result Told Why) → is_some (request_at c rid) ≡ true → taken c rid ≡ None → answer_of body ≡ told → P (called ToAnswer (take_answer c rid body now told))
  taken_by rid body now (Err why) made none reads = same (ToAnswer (answerings.Broken why)) refl
  taken_by rid body now (Ok tells) made none reads =
      by_if (λ p. P (called ToAnswer p)) (misnames c rid tells) _ _ (λ _. same (ToAnswer (answerings.Broken _)) refl)
      (λ _. by_if (λ p. P (called ToAnswer p)) tells.error _ _ (λ _. same (ToAnswer (answerings.Again _ _)) refl)
      (λ fine. by_if (λ p. P (called ToAnswer p)) (lacks_sid c rid tells) _ _ (λ _. same (ToAnswer (answerings.Broken _)) refl)
      (λ _. answers rid (record { body = body; tells = tells; moment = now }) made none reads fine)))

  absent : {X : Type 0} (o : Option X) → is_some o ≡ false → o ≡ None
  absent None is = refl
  absent (Some x) is = absurd (cc)

  answer_by : (rid : ℕ) (body : List ℕ) (now : ℕ) → P (called ToAnswer (answer c rid body now))
  answer_by rid body now =
      by_if (λ p. P (called ToAnswer p)) (is_none (request_at c rid)) _ _ (λ _. same (ToAnswer answerings.Unmade) refl)
      (λ made. by_if (λ p. P (called ToAnswer p)) (is_some (taken c rid)) _ _ (λ _. same (ToAnswer answerings.Stale) refl)
      (λ none. taken_by rid body now (answer_of body) (not_false (is_some (request_at c rid)) made) (absent (taken c rid) none) refl))

  handed_by : (o : Option (ℕ × List ℕ)) → slice_get (deliverable c) c.handed_out ≡ o → P (called ToHandOut (handed c o))
  handed_by None is = same (ToHandOut None) refl
  handed_by (Some payload) is = hands payload is

  pub step_with : (call : Call) → MayQueue c Such call → P (step c call)
  step_with (Put stanza) such = put_by stanza such
  step_with (PutOn stream stanza) such = put_on_by stream stanza such
  step_with (Add to) such = add_by to such
  step_with (CloseStream stream) such = close_by stream such
  step_with Restart such = restart_by such
  step_with (Pause seconds) such = pause_by seconds such
  step_with Terminate such = terminate_by such
  step_with (NextRequest now) such = next_by now
  step_with (Answer rid body now) such = answer_by rid body now
  step_with HandOut such = handed_by (slice_get (deliverable c) c.handed_out) refl

anything : (c : PlainClient) (call : Call) → MayQueue c (λ item. ⊤) call
anything c (Put stanza) = tt
anything c (PutOn stream stanza) = λ has. tt
anything c (Add to) = λ room. tt
anything c (CloseStream stream) = λ has. tt
anything c Restart = tt
anything c (Pause seconds) = λ allows. tt
anything c Terminate = tt
anything c (NextRequest now) = tt
anything c (Answer rid body now) = tt
anything c HandOut = tt

-- the same, whatever is queued
pub step_by : (c : PlainClient) (P : PlainClient × Reply → Type 0)
    → ((reply : Reply) → payloads_in (reply ∷ []) ≡ [] → P (c, reply))
    → ((item : Outgoing) → P (called ToQueue (accept c item)))
    → ((now : ℕ) → is_due c now ≡ true → next_id c ≤ greatest_rid → next_request c now ≡ with_request c (next_made c (agreed c)) → P (called ToNext (with_request c (next_made c (agreed c)))))
    → ((rid : ℕ) (t : Taken) → is_some (request_at c rid) ≡ true → taken c rid ≡ None → answer_of t.body ≡ Ok t.tells → t.tells.error ≡ false → P (with_answer c rid t, ToAnswer answerings.Done))
    → ((payload : ℕ × List ℕ) → slice_get (deliverable c) c.handed_out ≡ Some payload → P (record c { handed_out = c.handed_out + 1 }, ToHandOut (Some payload)))
    → (call : Call) → P (step c call)
step_by c P same accepts requests answers hands call = step_with c (λ item. ⊤) P same (λ item such. accepts item) requests answers hands call (anything c call)

-- What may be handed out only grows.

begins-self : {X : Type 0} (xs : List X) → Begins xs xs
begins-self xs = ([], sym (append-nil xs))

begins-none : {X : Type 0} (xs : List X) → Begins [] xs
begins-none xs = (xs, refl)

begins-cons : {X : Type 0} (front xs ys : List X) → Begins xs ys → Begins (front ++ xs) (front ++ ys)
begins-cons front xs ys b = (b.0, ap (λ rest. front ++ rest) b.1 ∙ sym (append_assoc front xs b.0))

begins-trans : {X : Type 0} (xs ys zs : List X) → Begins xs ys → Begins ys zs → Begins xs zs
begins-trans xs ys zs one two = (one.0 ++ two.0, two.1 ∙ ap (λ front. front ++ two.0) one.1 ∙ append_assoc xs one.0 two.0)

grows : (c d : PlainClient) (xs ys : List Made) → ((x : Made) → goes_on c x ≡ true → (goes_on d x ≡ true) × (payloads_for c x ≡ payloads_for d x))
    → Begins (flat_map (payloads_for c) (take_while (goes_on c) xs)) (flat_map (payloads_for d) (take_while (goes_on d) (xs ++ ys)))
grows c d [] ys keeps = begins-none _
grows c d (x ∷ xs) ys keeps = by (goes_on c x) refl (grows c d xs ys keeps)
  where
    by : (b : Bool) → goes_on c x ≡ b → Begins (flat_map (payloads_for c) (take_while (goes_on c) xs)) (flat_map (payloads_for d) (take_while (goes_on d) (xs ++ ys)))
        → Begins (flat_map (payloads_for c) (take_while (goes_on c) (x ∷ xs))) (flat_map (payloads_for d) (take_while (goes_on d) (x ∷ xs ++ ys)))
    by true on rest =
        let also = keeps x on in
        let left : take_while (goes_on c) (x ∷ xs) ≡ x ∷ take_while (goes_on c) xs = take_while-cons (goes_on c) x xs ∙ ap (λ b. cond b (x ∷ take_while (goes_on c) xs) []) on in
        let right : take_while (goes_on d) (x ∷ xs ++ ys) ≡ x ∷ take_while (goes_on d) (xs ++ ys) =
        take_while-cons (goes_on d) x (xs ++ ys) ∙ ap (λ b. cond b (x ∷ take_while (goes_on d) (xs ++ ys)) []) also.0 in
        rw (left, right, also.1) (begins-cons (payloads_for d x) _ _ rest)
    by false on rest =
        let left : take_while (goes_on c) (x ∷ xs) ≡ [] = take_while-cons (goes_on c) x xs ∙ ap (λ b. cond b (x ∷ take_while (goes_on c) xs) []) on in
        rw left (begins-none _)

grows_requests : (c : PlainClient) (request : Made) → Begins (deliverable c) (deliverable (record c { requests = c.requests ++ request ∷ [] }))
grows_requests c request = grows c (record c { requests = c.requests ++ request ∷ [] }) c.requests (request ∷ []) (λ x on. (on, refl))

grows_answers : (c : PlainClient) (rid : ℕ) (t : Taken) → taken c rid ≡ None → Begins (deliverable c) (deliverable (with_answer c rid t))
grows_answers c rid t none =
    subst (λ (xs : List Made). Begins (deliverable c) (flat_map (payloads_for (with_answer c rid t)) (take_while (goes_on (with_answer c rid t)) xs))) (append-nil c.requests)
    (grows c (with_answer c rid t) c.requests [] keeps)
  where
    has : (x : Made) (o : Option Taken) → (elim o as (λ _. Bool) [ None ↦ false | Some a ↦ not (is_some a.tells.end) ]) ≡ true → is_some o ≡ true
    has x None on = absurd (cc)
    has x (Some a) on = refl

    keeps : (x : Made) → goes_on c x ≡ true → (goes_on (with_answer c rid t) x ≡ true) × (payloads_for c x ≡ payloads_for (with_answer c rid t) x)
    keeps x on =
        let other : id_of x ≢ rid = λ same.
        let one : is_some (taken c (id_of x)) ≡ true = has x (taken c (id_of x)) on in
        let two : is_some (taken c (id_of x)) ≡ false = ap (λ n. is_some (taken c n)) same ∙ ap is_some none in
        cc in
        let is : taken (with_answer c rid t) (id_of x) ≡ taken c (id_of x) = at_id-push_other c.answers rid (id_of x) t other in (
          ap (λ (o : Option Taken). elim o as (λ _. Bool) [ None ↦ false | Some a ↦ not (is_some a.tells.end) ]) is ∙ on,
          sym (ap (λ (o : Option Taken). elim o as (λ _. List (ℕ × List ℕ)) [ None ↦ [] | Some a ↦ on_stream (lies_on c.setup (id_of x) a.tells) a.tells.payloads ]) is),
        )

-- What was taken up to an acknowledged id stays taken.

pub still_taken : (c : PlainClient) (rid id : ℕ) (t : Taken) → taken c rid ≡ None → is_some (taken c id) ≡ true → is_some (taken (with_answer c rid t) id) ≡ true
still_taken c rid id t none has =
    let other : id ≢ rid = λ same.
    let absent : is_some (taken c id) ≡ false = ap (λ n. is_some (taken c n)) same ∙ ap is_some none in
    cc in
    ap is_some (at_id-push_other c.answers rid id t other) ∙ has

still_acknowledges : (c : PlainClient) (rid : ℕ) (t : Taken) (request : Made) → taken c rid ≡ None → Acknowledges c request → Acknowledges (with_answer c rid t) request
still_acknowledges c rid t request none holds = by request.parts.creation request.parts.ack holds
  where
    of_ack : (ack : Option ℕ) → IfSome ack (λ n. (n < id_of request) × AllTaken c n) → IfSome ack (λ n. (n < id_of request) × AllTaken (with_answer c rid t) n)
    of_ack None holds = tt
    of_ack (Some n) holds = (holds.0, λ id low high. still_taken c rid id t none (holds.1 id low high))

    by : (creation : Option (List ℕ × ℕ × ℕ)) (ack : Option ℕ) → (elim creation as (λ _. Type 0) [ None ↦ IfSome ack (λ n. (n < id_of request) × AllTaken c n) | Some x ↦ ⊤ ])
        → (elim creation as (λ _. Type 0) [ None ↦ IfSome ack (λ n. (n < id_of request) × AllTaken (with_answer c rid t) n) | Some x ↦ ⊤ ])
    by None ack holds = of_ack ack holds
    by (Some creation) ack holds = tt

all_still : (c : PlainClient) (rid : ℕ) (t : Taken) (xs : List Made) → taken c rid ≡ None → All (Acknowledges c) xs → All (Acknowledges (with_answer c rid t)) xs
all_still c rid t [] none all = All-nil (Acknowledges (with_answer c rid t))
all_still c rid t (x ∷ xs) none all =
    All-cons (Acknowledges (with_answer c rid t)) x xs (still_acknowledges c rid t x none (All-head (Acknowledges c) x xs all))
    (all_still c rid t xs none (All-tail (Acknowledges c) x xs all))

-- What a new request takes of the queue, and what it acknowledges.

front_prefix : (queue : List Outgoing) → front_of queue ++ drop (length (front_of queue)) queue ≡ queue
front_prefix queue =
    let n = length (front_of queue) in
    ap (λ front. front ++ drop n queue) (front_take queue) ∙ take-append-drop n queue

taken_below : (c : PlainClient) (rid next id : ℕ) (xs : List Made) → AreFrom rid xs → next ≡ rid + length xs → rid ≤ id → id < unwrap_or (option_map id_of (find (λ request. not (is_answered c request)) xs)) next → is_some (taken c id) ≡ true
taken_below c rid next id [] are is low high = absurd (omega (arith, is))
taken_below c rid next id (x ∷ xs) are is low high = by (is_some (taken c (id_of x))) refl high (λ above. taken_below c (rid + 1) next id xs are.1 (omega (arith, is)) above)
  where
    by : (b : Bool) → is_some (taken c (id_of x)) ≡ b → id < unwrap_or (option_map id_of (cond (not b) (Some x) (find (λ request. not (is_answered c request)) xs))) next
        → (rid + 1 ≤ id → id < unwrap_or (option_map id_of (find (λ request. not (is_answered c request)) xs)) next → is_some (taken c id) ≡ true) → is_some (taken c id) ≡ true
    by false has high later = absurd (omega (arith, are.0, low, high))
    by true has high later = elim (cases_lt rid id) [
      | inl above ↦ later (omega arith) high
      | inr here ↦
          let same : id ≡ id_of x = omega (arith, are.0, low, here) in
          ap (λ n. is_some (taken c n)) same ∙ has
    ]

-- the lowest id without an answer is no higher than another one
pub lowest_at_most : (c : PlainClient) (rid : ℕ) → AreFrom c.setup.first c.requests → is_some (request_at c rid) ≡ true → is_some (taken c rid) ≡ false → lowest c ≤ rid
lowest_at_most c rid ids made none = elim (cases_lt rid (lowest c)) [
  | inl below ↦
      let has : is_some (taken c rid) ≡ true = taken_below c c.setup.first (next_id c) rid c.requests ids refl low below in
      absurd (cc)
  | inr above ↦ above
]
  where
    low : c.setup.first ≤ rid
    low = elim (cases_lt rid c.setup.first) [
      | inl below ↦
          let no : is_some (request_at c rid) ≡ false = unmade_low c rid ids below in
          absurd (cc)
      | inr above ↦ above
    ]

new_acknowledges : (c : PlainClient) (a : Agreed) → 1 ≤ c.setup.first → AreFrom c.setup.first c.requests → Acknowledges c (next_made c (Some a))
new_acknowledges c a some ids = by (a.acks && nat_lt (lowest c) (next_id c)) refl
  where
    and_second : (x y : Bool) → (x && y) ≡ true → y ≡ true
    and_second true y is = is
    and_second false y is = absurd (cc)

    by : (b : Bool) → (a.acks && nat_lt (lowest c) (next_id c)) ≡ b → IfSome (if b then Some (lowest c - 1) else None) (λ ack. (ack < next_id c) × AllTaken c ack)
    by false is = tt
    by true is =
        let test : nat_lt (lowest c) (next_id c) ≡ true = and_second a.acks _ is in
        let lower : lowest c < next_id c = grind (arith, nat_tests, test) in
        (omega arith, λ id low high. taken_below c c.setup.first (next_id c) id c.requests ids refl low (omega (arith, some, low, high)))

-- What holds of a client that began with a setup, after any calls.

pub record IsClient (setup : ClientSetup) (c : PlainClient) : Type 0 where
  pub begins : c.setup ≡ setup
  pub first : 1 ≤ c.setup.first
  pub all : items_made c ++ queued c ≡ c.accepted
  pub ids : AreFrom c.setup.first c.requests
  pub known : All (λ (a : ℕ × Taken). a.0 < next_id c) c.answers
  pub within : c.handed_out ≤ length (deliverable c)
  pub acks : All (Acknowledges c) c.requests
  pub reads : All (λ (a : ℕ × Taken). answer_of a.1.body ≡ Ok a.1.tells) c.answers
  pub no_errors : All (λ (a : ℕ × Taken). a.1.tells.error ≡ false) c.answers

begins_long : {X : Type 0} (xs ys : List X) → Begins xs ys → length xs ≤ length ys
begins_long xs ys b = omega (arith, ap length b.1, length-append xs b.0)

pub new_is : (setup : ClientSetup) → 1 ≤ setup.first → IsClient setup (new_client setup)
new_is setup some = record {
  begins = refl;
  first = some;
  all = refl;
  ids = tt;
  known = All-nil (λ (a : ℕ × Taken). a.0 < setup.first + 0);
  within = omega arith;
  acks = All-nil (Acknowledges (new_client setup));
  reads = All-nil (λ (a : ℕ × Taken). answer_of a.1.body ≡ Ok a.1.tells);
  no_errors = All-nil (λ (a : ℕ × Taken). a.1.tells.error ≡ false);
}

accepts_is : (setup : ClientSetup) (c : PlainClient) (item : Outgoing) → IsClient setup c → IsClient setup (record c { accepted = c.accepted ++ item ∷ [] })
accepts_is setup c item h =
    let few : length (items_made c) ≤ length c.accepted = omega (arith, ap length h.all, length-append (items_made c) (queued c)) in
    record {
      begins = h.begins;
      first = h.first;
      all =
          ap (λ (rest : List Outgoing). items_made c ++ rest) (drop-append-le (length (items_made c)) c.accepted (item ∷ []) few)
          ∙ sym (append_assoc (items_made c) (queued c) (item ∷ [])) ∙ ap (λ (front : List Outgoing). front ++ item ∷ []) h.all;
      ids = h.ids;
      known = h.known;
      within = h.within;
      acks = h.acks;
      reads = h.reads;
      no_errors = h.no_errors;
    }

known_more : (answers : List (ℕ × Taken)) (n m : ℕ) → n ≤ m → All (λ (a : ℕ × Taken). a.0 < n) answers → All (λ (a : ℕ × Taken). a.0 < m) answers
known_more [] n m within known = All-nil (λ (a : ℕ × Taken). a.0 < m)
known_more (answer ∷ answers) n m within known =
    let lower : answer.0 < n = All-head (λ (a : ℕ × Taken). a.0 < n) answer answers known in
    All-cons (λ (a : ℕ × Taken). a.0 < m) answer answers (omega arith) (known_more answers n m within (All-tail (λ (a : ℕ × Taken). a.0 < n) answer answers known))

-- a request that takes a front of the queue, has the next id, and acknowledges what was taken
requests_is : (setup : ClientSetup) (c : PlainClient) (request : Made) → IsClient setup c → id_of request ≡ next_id c → request.items ++ drop (length request.items) (queued c) ≡ queued c → Acknowledges c request
    → IsClient setup (record c { requests = c.requests ++ request ∷ [] })
requests_is setup c request h id front acks =
    let d : PlainClient = record c { requests = c.requests ++ request ∷ [] } in
    let made : items_made d ≡ items_made c ++ request.items =
    flat_map-append (λ (r : Made). r.items) c.requests (request ∷ []) ∙ ap (λ xs. items_made c ++ xs) (append-nil request.items) in
    let left : queued d ≡ drop (length request.items) (queued c) =
    ap (λ n. drop n c.accepted) (ap length made ∙ length-append (items_made c) request.items) ∙ sym (drop-drop (length request.items) (length (items_made c)) c.accepted) in
    record {
      begins = h.begins;
      first = h.first;
      all = ap (λ xs. xs ++ queued d) made ∙ ap (λ xs. (items_made c ++ request.items) ++ xs) left ∙ append_assoc (items_made c) request.items (drop (length request.items) (queued c)) ∙ ap (λ xs. items_made c ++ xs) front ∙ h.all;
      ids = from-push c.setup.first c.requests request h.ids id;
      known = known_more c.answers (next_id c) (c.setup.first + length (c.requests ++ request ∷ [])) (omega (arith, length-append c.requests (request ∷ []))) h.known;
      within = omega (arith, h.within, begins_long (deliverable c) (deliverable d) (grows_requests c request));
      acks = All-append (Acknowledges d) c.requests (request ∷ []) h.acks (All-cons (Acknowledges d) request [] acks (All-nil (Acknowledges d)));
      reads = h.reads;
      no_errors = h.no_errors;
    }

made_lower : (c : PlainClient) (rid : ℕ) → AreFrom c.setup.first c.requests → is_some (request_at c rid) ≡ true → rid < next_id c
made_lower c rid ids made = elim (cases_lt rid (next_id c)) [
  | inl below ↦ below
  | inr above ↦
      let no : is_some (request_at c rid) ≡ false = unmade_high c rid ids above in
      absurd (cc)
]

answers_is : (setup : ClientSetup) (c : PlainClient) (rid : ℕ) (t : Taken) → IsClient setup c → is_some (request_at c rid) ≡ true → taken c rid ≡ None → answer_of t.body ≡ Ok t.tells → t.tells.error ≡ false
    → IsClient setup (with_answer c rid t)
answers_is setup c rid t h made none reads fine =
    let P : ℕ × Taken → Type 0 = λ a. a.0 < next_id c in
    let R : ℕ × Taken → Type 0 = λ a. answer_of a.1.body ≡ Ok a.1.tells in
    let E : ℕ × Taken → Type 0 = λ a. a.1.tells.error ≡ false in
    record {
      begins = h.begins;
      first = h.first;
      all = h.all;
      ids = h.ids;
      known = All-append P c.answers ((rid, t) ∷ []) h.known (All-cons P (rid, t) [] (made_lower c rid h.ids made) (All-nil P));
      within = omega (arith, h.within, begins_long (deliverable c) (deliverable (with_answer c rid t)) (grows_answers c rid t none));
      acks = all_still c rid t c.requests none h.acks;
      reads = All-append R c.answers ((rid, t) ∷ []) h.reads (All-cons R (rid, t) [] reads (All-nil R));
      no_errors = All-append E c.answers ((rid, t) ∷ []) h.no_errors (All-cons E (rid, t) [] fine (All-nil E));
    }

hands_is : (setup : ClientSetup) (c : PlainClient) (payload : ℕ × List ℕ) → IsClient setup c → slice_get (deliverable c) c.handed_out ≡ Some payload → IsClient setup (record c { handed_out = c.handed_out + 1 })
hands_is setup c payload h next = record {
  begins = h.begins;
  first = h.first;
  all = h.all;
  ids = h.ids;
  known = h.known;
  within = omega (arith, slice_get_within (deliverable c) c.handed_out payload next);
  acks = h.acks;
  reads = h.reads;
  no_errors = h.no_errors;
}

-- the request that comes next is such a one
next_is_made : (setup : ClientSetup) (c : PlainClient) (now : ℕ) → IsClient setup c → is_due c now ≡ true → IsClient setup (with_request c (next_made c (agreed c))).0
next_is_made setup c now h due = by (agreed c) refl due
  where
    by : (o : Option Agreed) → agreed c ≡ o → is_due_by c o now ≡ true → IsClient setup (with_request c (next_made c o)).0
    by None is due =
        let none : length c.requests ≡ 0 = grind (arith, nat_tests, due) in
        requests_is setup c (next_made c None) h (omega (arith, none)) refl tt
    by (Some a) is due = requests_is setup c (next_made c (Some a)) h refl (front_prefix (queued c)) (new_acknowledges c a h.first h.ids)

pub step_is : (setup : ClientSetup) (c : PlainClient) (call : Call) → IsClient setup c → IsClient setup (step c call).0
step_is setup c call h =
    step_by c (λ p. IsClient setup p.0) (λ reply quiet. h) (λ item. accepts_is setup c item h) (λ now due left next. next_is_made setup c now h due)
    (λ rid t made none reads fine. answers_is setup c rid t h made none reads fine) (λ payload next. hands_is setup c payload h next) call

pub after_is : (setup : ClientSetup) (c : PlainClient) (calls : List Call) → IsClient setup c → IsClient setup (after c calls)
after_is setup c [] h = h
after_is setup c (call ∷ calls) h = after_is setup (step c call).0 calls (step_is setup c call h)

pub client_is : (setup : ClientSetup) (calls : List Call) → 1 ≤ setup.first → IsClient setup (client_after setup calls)
client_is setup calls some = after_is setup (new_client setup) calls (new_is setup some)

-- What was put is what was made, and then what is queued.

filter-append : (p : Outgoing → Bool) (xs ys : List Outgoing) → filter p (xs ++ ys) ≡ filter p xs ++ filter p ys
filter-append p [] ys = refl
filter-append p (x ∷ xs) ys = by (p x) (filter-append p xs ys)
  where
    by : (b : Bool) → filter p (xs ++ ys) ≡ filter p xs ++ filter p ys → cond b (x ∷ filter p (xs ++ ys)) (filter p (xs ++ ys)) ≡ cond b (x ∷ filter p xs) (filter p xs) ++ filter p ys
    by true rest = ap (λ zs. x ∷ zs) rest
    by false rest = rest

pub put_is_made : (setup : ClientSetup) (c : PlainClient) → IsClient setup c → was_made c ++ is_queued c ≡ was_put c
put_is_made setup c h = sym (filter-append is_of_stream (items_made c) (queued c)) ∙ ap (filter is_of_stream) h.all

-- What was handed out is the payloads of the replies.

take-same : {X : Type 0} (n : ℕ) (xs ys : List X) → Begins xs ys → n ≤ length xs → take n ys ≡ take n xs
take-same n xs ys b within = ap (take n) b.1 ∙ take-append-le n xs b.0 within

take-next : {X : Type 0} (n : ℕ) (xs : List X) (x : X) → slice_get xs n ≡ Some x → take (n + 1) xs ≡ take n xs ++ x ∷ []
take-next n [] x is = absurd (cc)
take-next zero (y ∷ ys) x is =
    let same : y ≡ x = cc in
    ap (λ z. z ∷ []) same
take-next (suc n) (y ∷ ys) x is =
    let same : suc n + 1 ≡ suc (n + 1) = omega arith in
    ap (λ m. take m (y ∷ ys)) same ∙ ap (λ zs. y ∷ zs) (take-next n ys x is)

handed_step : (setup : ClientSetup) (c : PlainClient) (call : Call) → IsClient setup c → was_handed (step c call).0 ≡ was_handed c ++ payloads_in ((step c call).1 ∷ [])
handed_step setup c call h =
    let P : PlainClient × Reply → Type 0 = λ p. was_handed p.0 ≡ was_handed c ++ payloads_in (p.1 ∷ []) in
    step_by c P (λ reply quiet. sym (append-nil (was_handed c)) ∙ ap (λ ps. was_handed c ++ ps) (sym quiet)) (λ item. sym (append-nil (was_handed c)))
    (λ now due left next.
    let request = next_made c (agreed c) in
    take-same c.handed_out (deliverable c) _ (grows_requests c request) h.within ∙ sym (append-nil (was_handed c)))
    (λ rid t made none reads fine. take-same c.handed_out (deliverable c) _ (grows_answers c rid t none) h.within ∙ sym (append-nil (was_handed c)))
    (λ payload next. take-next c.handed_out (deliverable c) payload next) call

payloads_cons : (reply : Reply) (rest : List Reply) → payloads_in (reply ∷ rest) ≡ payloads_in (reply ∷ []) ++ payloads_in rest
payloads_cons (ToQueue reply) rest = refl
payloads_cons (ToNext reply) rest = refl
payloads_cons (ToAnswer reply) rest = refl
payloads_cons (ToHandOut None) rest = refl
payloads_cons (ToHandOut (Some payload)) rest = refl

pub handed_after : (setup : ClientSetup) (c : PlainClient) (calls : List Call) → IsClient setup c → was_handed (after c calls) ≡ was_handed c ++ payloads_in (replies c calls)
handed_after setup c [] h = sym (append-nil (was_handed c))
handed_after setup c (call ∷ calls) h =
    handed_after setup (step c call).0 calls (step_is setup c call h) ∙ ap (λ ps. ps ++ payloads_in (replies (step c call).0 calls)) (handed_step setup c call h)
    ∙ append_assoc (was_handed c) (payloads_in ((step c call).1 ∷ [])) (payloads_in (replies (step c call).0 calls))
    ∙ ap (λ ps. was_handed c ++ ps) (sym (payloads_cons (step c call).1 (replies (step c call).0 calls)))

pub grows_step : (c : PlainClient) (call : Call) → Begins (deliverable c) (deliverable (step c call).0)
grows_step c call =
    step_by c (λ p. Begins (deliverable c) (deliverable p.0)) (λ reply quiet. begins-self (deliverable c)) (λ item. begins-self (deliverable c))
    (λ now due left next. grows_requests c (next_made c (agreed c))) (λ rid t made none reads fine. grows_answers c rid t none) (λ payload next. begins-self (deliverable c)) call

pub grows_after : (c : PlainClient) (calls : List Call) → Begins (deliverable c) (deliverable (after c calls))
grows_after c [] = begins-self (deliverable c)
grows_after c (call ∷ calls) = begins-trans (deliverable c) (deliverable (step c call).0) (deliverable (after (step c call).0 calls)) (grows_step c call) (grows_after (step c call).0 calls)

-- A request stays what it is.

fixed_step : (c : PlainClient) (call : Call) (rid : ℕ) (request : Made) → request_at c rid ≡ Some request → request_at (step c call).0 rid ≡ Some request
fixed_step c call rid request at =
    step_by c (λ p. request_at p.0 rid ≡ Some request) (λ reply quiet. at) (λ item. at)
    (λ now due left next. find-append (λ r. id_of r == rid) c.requests (next_made c (agreed c) ∷ []) ∙ ap (λ o. option_or o (find (λ r. id_of r == rid) (next_made c (agreed c) ∷ []))) at)
    (λ other t made none reads fine. at) (λ payload next. at) call

pub fixed_after : (c : PlainClient) (calls : List Call) (rid : ℕ) (request : Made) → request_at c rid ≡ Some request → request_at (after c calls) rid ≡ Some request
fixed_after c [] rid request at = at
fixed_after c (call ∷ calls) rid request at = fixed_after (step c call).0 calls rid request (fixed_step c call rid request at)

copy_bytes : (c : PlainClient) (rid : ℕ) (request : Made) (body : List ℕ) → request_at c rid ≡ Some request → copy c rid ≡ Some body → body ≡ bytes_of request
copy_bytes c rid request body at is = by (is_some (taken c rid)) (ap (λ (o : Option Made). if is_some (taken c rid) then None else option_map bytes_of o) (sym at) ∙ is)
  where
    by : (b : Bool) → (if b then None else Some (bytes_of request)) ≡ Some body → body ≡ bytes_of request
    by true is = absurd (cc)
    by false is = cc

pub copies_after : (c : PlainClient) (calls : List Call) (rid : ℕ) (request : Made) (body : List ℕ) → request_at c rid ≡ Some request → copy (after c calls) rid ≡ Some body → body ≡ bytes_of request
copies_after c calls rid request body at is = copy_bytes (after c calls) rid request body (fixed_after c calls rid request at) is
