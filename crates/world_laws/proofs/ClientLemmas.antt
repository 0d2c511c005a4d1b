-- The calls that a world makes of its client.
use Rattle.std.proofs.Common.{◌≡◌, ℕ, zero, suc, ◌+◌, ◌-◌, ◌≤◌, ◌||◌, List, [], ◌∷◌, ◌++◌, length, refl, sym, ◌∙◌, ap, subst, arith}
use Rattle.std.specs.Prelude.{false, Option, None, Some, Ok, Err, Result, is_none, is_some, nat_lt, not}
use Rattle.std.proofs.lemmas.List.Elements.{All-append, All-cons, All-nil}
use Rattle.bosh_types.specs.Rid.{greatest_rid}
use Rattle.bosh_types.specs.Limits.{most_streams}
use Rattle.bosh_client.specs.declared.outgoing.Outgoing.{Outgoing}
use Rattle.bosh_client.specs.declared.outgoing.Outgoing.TheVariants as outgoing
use Rattle.bosh_client.specs.declared.replies.Answered.{Answered}
use Rattle.bosh_client.specs.declared.replies.Answered.TheVariants as answerings
use Rattle.bosh_client.specs.declared.replies.Next.{Next}
use Rattle.bosh_client.specs.declared.replies.Next.TheVariants as nexts
use Rattle.bosh_client.specs.declared.replies.Queued.{Queued}
use Rattle.bosh_client.specs.declared.replies.Queued.TheVariants as queueings
use Rattle.bosh_client.specs.declared.replies.Why.{Why}
use Rattle.bosh_client.specs.declared.setup.ClientSetup.{ClientSetup}
use Rattle.bosh_client.specs.declared.told.Told.{Told}
use Rattle.bosh_client.specs.AnswerReading.{answer_of}
use Rattle.bosh_client.specs.Machine.{accept, add, allows_pause, answer, close_stream, handed, has_stream, is_due, is_full, is_over, lacks_sid, misnames, new_client, next_made, next_request, pause, put, put_for, put_on, restart, take_answer, terminate, with_answer, with_request}
use Rattle.bosh_client.specs.PlainClient.{PlainClient, Taken, deliverable, has_ended, lowest, next_id, request_at, streams, taken}
use Rattle.bosh_client.specs.Requests.{agreed}
use Rattle.bosh_client.specs.Runs.{Call, HandOut, IsAllowed, after, step}
use Rattle.session_laws.proofs.Lists.{get_some}
use Rattle.session_laws.proofs.Tests.{split}
use Rattle.world_laws.specs.Sound.{IsRunClient}
use Rattle.world_laws.specs.Steps.{all_handed}

after_push : (c : PlainClient) (calls : List Call) (call : Call) → after c (calls ++ call ∷ []) ≡ (step (after c calls) call).0
after_push c [] call = refl
after_push c (first ∷ calls) call = after_push (step c first).0 calls call

-- one call more
pub called_client : (setup : ClientSetup) (c : PlainClient) (call : Call) → IsAllowed call → IsRunClient setup c → IsRunClient setup (step c call).0
called_client setup c call allowed run = record {
  calls = run.calls ++ call ∷ [];
  allowed = All-append IsAllowed run.calls (call ∷ []) run.allowed (All-cons IsAllowed call [] allowed (All-nil IsAllowed));
  is = ap (λ (d : PlainClient). (step d call).0) run.is ∙ sym (after_push (new_client setup) run.calls call);
}

-- What is queued changes neither the requests nor the answers.

pub record Queues (c d : PlainClient) : Type 0 where
  pub requests_are : d.requests ≡ c.requests
  pub answers_are : d.answers ≡ c.answers
  pub handed_is : d.handed_out ≡ c.handed_out
  pub setup_is : d.setup ≡ c.setup

same : (c : PlainClient) → Queues c c
same c = record { requests_are = refl; answers_are = refl; handed_is = refl; setup_is = refl }

accepted : (c : PlainClient) (item : Outgoing) → Queues c (accept c item).0
accepted c item = record { requests_are = refl; answers_are = refl; handed_is = refl; setup_is = refl }

put_for_queues : (c : PlainClient) (on : Option ℕ) (stanza : List ℕ) → Queues c (put_for c on stanza).0
put_for_queues c on stanza = split (λ (p : PlainClient × Queued). Queues c p.0) (is_full c) (c, queueings.Full) (accept c (outgoing.Stanza on stanza)) (λ _. same c) (λ _. accepted c (outgoing.Stanza on stanza))

pub put_queues : (c : PlainClient) (stanza : List ℕ) → Queues c (put c stanza).0
put_queues c stanza = split (λ (p : PlainClient × Queued). Queues c p.0) (is_over c) (c, queueings.Over) (put_for c None stanza) (λ _. same c) (λ _. put_for_queues c None stanza)

pub put_on_queues : (c : PlainClient) (stream : ℕ) (stanza : List ℕ) → Queues c (put_on c stream stanza).0
put_on_queues c stream stanza =
    let Q : PlainClient × Queued → Type 0 = λ p. Queues c p.0 in
    split Q (is_over c) (c, queueings.Over) _ (λ _. same c)
    (λ _. split Q (has_stream c stream) (put_for c (Some stream) stanza) (c, queueings.NoStream) (λ _. put_for_queues c (Some stream) stanza) (λ _. same c))

pub add_queues : (c : PlainClient) (to : List ℕ) → Queues c (add c to).0
add_queues c to =
    let Q : PlainClient × Queued → Type 0 = λ p. Queues c p.0 in
    split Q (is_over c) (c, queueings.Over) _ (λ _. same c)
    (λ _. split Q (nat_lt (streams c).opened most_streams) (accept c (outgoing.Add to)) (c, queueings.Full) (λ _. accepted c (outgoing.Add to)) (λ _. same c))

pub close_queues : (c : PlainClient) (stream : ℕ) → Queues c (close_stream c stream).0
close_queues c stream =
    let Q : PlainClient × Queued → Type 0 = λ p. Queues c p.0 in
    split Q (is_over c) (c, queueings.Over) _ (λ _. same c)
    (λ _. split Q (has_stream c stream) (accept c (outgoing.Close stream)) (c, queueings.NoStream) (λ _. accepted c (outgoing.Close stream)) (λ _. same c))

pub restart_queues : (c : PlainClient) → Queues c (restart c).0
restart_queues c = split (λ (p : PlainClient × Queued). Queues c p.0) (is_over c) (c, queueings.Over) (accept c outgoing.Restart) (λ _. same c) (λ _. record { requests_are = refl; answers_are = refl; handed_is = refl; setup_is = refl })

pub terminate_queues : (c : PlainClient) → Queues c (terminate c).0
terminate_queues c = split (λ (p : PlainClient × Queued). Queues c p.0) (is_over c) (c, queueings.Over) (accept c outgoing.Terminate) (λ _. same c) (λ _. record { requests_are = refl; answers_are = refl; handed_is = refl; setup_is = refl })

pub pause_queues : (c : PlainClient) (seconds : ℕ) → Queues c (pause c seconds).0
pause_queues c seconds =
    let Q : PlainClient × Queued → Type 0 = λ p. Queues c p.0 in
    split Q (is_over c) (c, queueings.Over) _ (λ _. same c)
    (λ _. split Q (allows_pause (agreed c) seconds) (accept c (outgoing.Pause seconds)) (c, queueings.TooLong) (λ _. record { requests_are = refl; answers_are = refl; handed_is = refl; setup_is = refl }) (λ _. same c))

-- A request is made, or none.

pub next_by : (c : PlainClient) (now : ℕ) (P : PlainClient × Next → Type 0) → P (c, nexts.Nothing) → P (c, nexts.RidsSpent) → P (with_request c (next_made c (agreed c))) → P (next_request c now)
next_by c now P nothing spent made =
    split P (has_ended c || not (is_due c now)) (c, nexts.Nothing) _ (λ _. nothing)
    (λ _. split P (nat_lt greatest_rid (next_id c)) (c, nexts.RidsSpent) (with_request c (next_made c (agreed c))) (λ _. spent) (λ _. made))

-- An answer is taken, or not.

module _ (c : PlainClient) (rid : ℕ) (body : List ℕ) (now : ℕ) (P : PlainClient × Answered → Type 0) where
  -- it tells this, and is no error
  abbrev pub IsTaken : Taken → Type 0
  IsTaken t = (t.body ≡ body) × (answer_of t.body ≡ Ok t.tells) × (t.tells.error ≡ false)

  taken_by : P (c, answerings.Again (lowest c) rid) → ((why : Why) → P (c, answerings.Broken why)) → ((t : Taken) → IsTaken t → P (with_answer c rid t, answerings.Done))
      → (told : Result Told Why) → answer_of body ≡ told → P (take_answer c rid body now told)
  taken_by again broken done (Err why) reads = broken why
  taken_by again broken done (Ok tells) reads =
      split P (misnames c rid tells) (c, answerings.Broken _) _ (λ _. broken _)
      (λ _. split P tells.error (c, answerings.Again (lowest c) rid) _ (λ _. again)
      (λ fine. split P (lacks_sid c rid tells) (c, answerings.Broken _) _ (λ _. broken _) (λ _. done (record { body = body; tells = tells; moment = now }) (refl, reads, fine))))

  pub answer_by : P (c, answerings.Unmade) → P (c, answerings.Stale) → P (c, answerings.Again (lowest c) rid) → ((why : Why) → P (c, answerings.Broken why))
      → ((t : Taken) → IsTaken t → P (with_answer c rid t, answerings.Done)) → P (answer c rid body now)
  answer_by unmade stale again broken done =
      split P (is_none (request_at c rid)) (c, answerings.Unmade) _ (λ _. unmade)
      (λ _. split P (is_some (taken c rid)) (c, answerings.Stale) _ (λ _. stale) (λ _. taken_by again broken done (answer_of body) refl))

-- All that can be handed out is handed out, one call after the other.

handing : (setup : ClientSetup) (left : ℕ) (c : PlainClient) → c.handed_out + left ≡ length (deliverable c) → IsRunClient setup c → IsRunClient setup (all_handed c)
handing setup zero c is run =
    let all : c.handed_out ≡ length (deliverable c) = omega (arith, is) in
    subst (IsRunClient setup) (ap (λ (n : ℕ). record c { handed_out = n }) all) run
handing setup (suc left) c is run =
    let next = get_some (deliverable c) c.handed_out (omega (arith, is)) in
    let d : PlainClient = record c { handed_out = c.handed_out + 1 } in
    let called : (step c HandOut).0 ≡ d = ap (λ (o : Option (ℕ × List ℕ)). (handed c o).0) next.1 in
    handing setup left d (omega (arith, is)) (subst (IsRunClient setup) called (called_client setup c HandOut tt run))

pub handed_client : (setup : ClientSetup) (c : PlainClient) → c.handed_out ≤ length (deliverable c) → IsRunClient setup c → IsRunClient setup (all_handed c)
handed_client setup c within run = handing setup (length (deliverable c) - c.handed_out) c (omega (arith, within)) run
