-- Worlds in which no copy came late are complete.
use Rattle.std.proofs.Common.{◌≡◌, ℕ, zero, suc, ◌≤◌, false, max, ◌+◌, List, [], ◌∷◌, length, map, slice_get, inl, inr, refl, sym, ◌∙◌, ap, subst, arith}
use Rattle.std.specs.Prelude.{Option, None, Some, Ok, All, IfSome, is_some}
use Rattle.std.specs.Option.{option_map, option_or}
use Rattle.std.proofs.lemmas.List.Elements.{All-head, All-nil, All-tail}
use Rattle.bosh_types.specs.ById.{at_id}
use Rattle.bosh_types.specs.declared.condition.Condition.{Condition}
use Rattle.bosh_types.specs.declared.ending.Closing.{Closing}
use Rattle.bosh_types.specs.declared.ending.Ending.{Ending}
use Rattle.bosh_types.specs.declared.kept.KeptAnswer.{KeptAnswer}
use Rattle.body_cutter.specs.declared.parts.Span.{Span}
use Rattle.body_writer.specs.declared.request.RequestParts.{RequestParts}
use Rattle.session_attrs.specs.declared.admission.Admitted.{Admitted}
use Rattle.session_attrs.specs.declared.admission.Admitted.TheVariants as admitted
use Rattle.session_attrs.specs.declared.request.Creation.{Creation}
use Rattle.session_attrs.specs.declared.request.Kind.{Kind}
use Rattle.session_attrs.specs.declared.request.Kind.TheVariants as kinds
use Rattle.session_attrs.specs.declared.request.Request.{Request}
use Rattle.session_attrs.specs.Admission.{admitted_of}
use Rattle.session_core.specs.declared.opening.Opening.{Opening}
use Rattle.session_core.specs.declared.replies.Arrived.{Arrived}
use Rattle.session_core.specs.declared.replies.Arrived.TheVariants as arrivals
use Rattle.session_core.specs.declared.replies.Ticked.{Ticked}
use Rattle.session_core.specs.declared.replies.Ticked.TheVariants as ticks
use Rattle.session_core.specs.Copy.{unnamed}
use Rattle.session_core.specs.Endings.{last_word}
use Rattle.session_core.specs.Journal.{Arrive, Back, BackClosed, IsJournal, IsReadFrom, Tick, none as nothing_entered}
use Rattle.session_core.specs.Kept.{kept_answer}
use Rattle.session_core.specs.Machine.{arrive, tick}
use Rattle.session_core.specs.Outward.{items_in}
use Rattle.session_core.specs.ReadBack.{asked_by}
use Rattle.session_core.specs.State.{PlainSession, answered_of, answers, is_over}
use Rattle.session_journal.specs.Entries.{request_in}
use Rattle.session_laws.proofs.Carried.{one_reading}
use Rattle.session_laws.proofs.Tests.{none_some, some_is}
use Rattle.session_calls.specs.After.{after_call}
use Rattle.bosh_client.specs.declared.replies.Queued.{Queued as QueuedReply}
use Rattle.bosh_client.specs.declared.setup.ClientSetup.{ClientSetup}
use Rattle.bosh_client.specs.declared.told.Told.{Told}
use Rattle.bosh_client.specs.AnswerReading.{answer_of}
use Rattle.bosh_client.specs.Machine.{add, answer, close_stream, next_request, pause, put, put_on, restart, terminate}
use Rattle.bosh_client.specs.PlainClient.{Made, PlainClient, Taken, taken}
use Rattle.bosh_client.specs.Promises.{HasForm}
use Rattle.bosh_client.specs.Requests.{agreed, agreed_by, creation_parts}
use Rattle.world_laws.specs.declared.event.WorldEvent.{WorldEvent}
use Rattle.world_laws.specs.declared.event.WorldEvent.TheVariants as events
use Rattle.world_laws.specs.declared.seen.Word.{Word}
use Rattle.world_laws.specs.declared.seen.Word.TheVariants as words
use Rattle.world_laws.specs.declared.told.Told.{Told as ToldThing}
use Rattle.world_laws.specs.declared.told.Told.TheVariants as tells
use Rattle.world_laws.specs.Complete.{EndsWell, IsComplete, IsLeft, IsNoRefusal, TellsNoRefusal}
use Rattle.world_laws.specs.Manager.{PlainManager, arrived, gives, not_found, opens, session, ticked, turned, with_journal, with_parked}
use Rattle.world_laws.specs.Setup.{IsAllowed}
use Rattle.world_laws.specs.Sound.{IsAnswerTo, IsSound, TellsNoPlace, body_taken}
use Rattle.world_laws.specs.Steps.{admits, after, at, carried, carries_to, comes, gives_to, host_of, opening, passes_to, queues, returned, returns, returns_to, sends, shuts_to, step}
use Rattle.world_laws.specs.Timely.{IsInTime, IsTimely}
use Rattle.world_laws.specs.World.{PlainWorld, new_world}
use Rattle.world_laws.proofs.AckedLemmas.{all_of}
use Rattle.world_laws.proofs.AdmittedLemmas.{admitted_here}
use Rattle.world_laws.proofs.Below.{Below}
use Rattle.world_laws.proofs.ClientLemmas.{Queues, add_queues, close_queues, pause_queues, put_on_queues, put_queues, restart_queues, terminate_queues}
use Rattle.world_laws.proofs.CourseLemmas.{IsOnCourse, IsRested, answer_at, answered_course, later_course, made_course, next_due, same_course, settled_ending, turned_course}
use Rattle.world_laws.proofs.EventLemmas.{at_sound, formed, gives_request, manager_of, opening_allowed, step_sound}
use Rattle.world_laws.proofs.HandedLemmas.{answer_read}
use Rattle.world_laws.proofs.NameLemmas.{all_told}
use Rattle.world_laws.proofs.PlaceLemmas.{all_at, found_place}
use Rattle.world_laws.proofs.ReadingLemmas.{read_refuses_not, terminal_refuses_not, word_refuses_not}
use Rattle.world_laws.proofs.RequestLemmas.{IsOf, asked_rid, creation_is, given_read, reads_back, sent_is_of}
use Rattle.world_laws.proofs.StoodLemmas.{keeping}
use Rattle.world_laws.proofs.UnbrokenLemmas.{every_unbroken}

-- the world is on its course
abbrev pub IsCourse : PlainWorld → Type 0
IsCourse w = IsOnCourse w.client w.moment w.manager

pub new_course : (host : List ℕ) (greeting : List (List ℕ)) (setup : ClientSetup) → IsCourse (new_world host greeting setup)
new_course host greeting setup = record { past = omega arith; rested = tt; ends = tt }

-- The client.

queued_course : (w : PlainWorld) (word : Word) (p : PlainClient × QueuedReply) → Queues w.client p.0 → IsCourse w → IsCourse (queues w word p).after
queued_course w word p q course =
    same_course w.client p.0 w.moment w.manager (record { requests_are = q.requests_are; answers_are = q.answers_are; setup_is = q.setup_is }) course

module _ (below : Below) (setup : ClientSetup) where
  sent_course : (w : PlainWorld) → IsSound setup w → IsCourse w → IsCourse (sends w (next_request w.client w.moment)).after
  sent_course w h course = next_due w.client w.moment (λ p. IsCourse (sends w p).after) course course (λ due. made_course below setup w h w.manager refl course due)

  returned_course : (w : PlainWorld) → IsSound setup w → IsCourse w → (rid : ℕ) (body : List ℕ) → IsCourse (returned w rid (answer w.client rid body w.moment)).after
  returned_course w h course rid body =
      answer_at w.client rid body w.moment (λ p. IsCourse (returned w rid p).after) course course course (λ why. course)
      (λ t moment. same_course _ _ w.moment w.manager (record { requests_are = refl; answers_are = refl; setup_is = refl }) (answered_course below setup w h w.manager refl course rid t moment))

  returns_to_course : (w : PlainWorld) → IsSound setup w → IsCourse w → (o : Option (ℕ × List ℕ)) → IsCourse (returns_to w o).after
  returns_to_course w h course None = course
  returns_to_course w h course (Some (rid, body)) = returned_course w h course rid body

  returns_course : (w : PlainWorld) → IsSound setup w → IsCourse w → (number : ℕ) → IsCourse (returns w number).after
  returns_course w h course zero = course
  returns_course w h course (suc index) = returns_to_course w h course (slice_get w.written index)

  -- The manager.

  module _ (w : PlainWorld) (h : IsSound setup w) (course : IsCourse w) where
    course_at : (o : Option PlainManager) → w.manager ≡ o → IsOnCourse w.client w.moment o
    course_at o is = subst (IsOnCourse w.client w.moment) is course

    ticked_course : (m : PlainManager) → w.manager ≡ Some m → (reply : Ticked) → IsOnCourse w.client w.moment (Some (ticked m (with_journal m (after_call m.journal (Tick w.moment))) reply).after)
    ticked_course m is ticks.Quiet = course_at (Some m) is
    ticked_course m is ticks.Changed =
        turned_course below setup w h m is (course_at (Some m) is) (Tick w.moment) tt (omega arith) tt tt (is_over (session m)) (with_journal m (after_call m.journal (Tick w.moment))) [] refl

    passes_to_course : (o : Option PlainManager) → w.manager ≡ o → IsCourse (passes_to w o).after
    passes_to_course None is = course
    passes_to_course (Some m) is = ticked_course m is (tick (session m) w.moment).1

    gives_to_course : (stream : ℕ) (stanza : List ℕ) → IsAllowed (events.GiveOn stream stanza) → (o : Option PlainManager) → w.manager ≡ o → IsCourse (gives_to w stream stanza o).after
    gives_to_course stream stanza allowed None is = course
    gives_to_course stream stanza allowed (Some m) is =
        turned_course below setup w h m is (course_at (Some m) is) (Back stream stanza w.moment) allowed (omega arith) tt tt (is_over (session m)) (with_journal m (after_call m.journal (Back stream stanza w.moment))) [] refl

    shuts_to_course : (stream : ℕ) (closing : Closing) (o : Option PlainManager) → w.manager ≡ o → IsCourse (shuts_to w stream closing o).after
    shuts_to_course stream closing None is = course
    shuts_to_course stream closing (Some m) is =
        turned_course below setup w h m is (course_at (Some m) is) (BackClosed stream closing w.moment) tt (omega arith) tt tt (is_over (session m)) (with_journal m (after_call m.journal (BackClosed stream closing w.moment))) [] refl

    -- A copy comes.

    arrived_course : (m : PlainManager) → w.manager ≡ Some m → (request : Request) (body : List ℕ) → IsReadFrom body request → ((sid : List ℕ) × (request.kind ≡ kinds.Later sid))
        → at_id w.sent request.rid ≡ Some body → taken w.client request.rid ≡ None → (reply : Arrived)
        → IsOnCourse w.client w.moment (Some (arrived (is_over (session m)) (with_journal m (after_call m.journal (Arrive request body w.moment))) request.rid reply).after)
    arrived_course m is request body read later sent timely reply = by reply
      where
        of : (n : PlainManager) (told : List ToldThing) → n.journal ≡ after_call m.journal (Arrive request body w.moment) → IsOnCourse w.client w.moment (Some (turned (is_over (session m)) n told).after)
        of n told journal =
            turned_course below setup w h m is (course_at (Some m) is) (Arrive request body w.moment) (read, later) (sent, omega arith) timely refl (is_over (session m)) n told journal

        by : (reply : Arrived) → IsOnCourse w.client w.moment (Some (arrived (is_over (session m)) (with_journal m (after_call m.journal (Arrive request body w.moment))) request.rid reply).after)
        by (arrivals.Answer bytes) = of (with_journal m (after_call m.journal (Arrive request body w.moment))) (tells.Answer request.rid bytes ∷ []) refl
        by (arrivals.Parked ticket) = of (with_parked (with_journal m (after_call m.journal (Arrive request body w.moment))) ticket request.rid) [] refl
        by arrivals.Over = of (with_journal m (after_call m.journal (Arrive request body w.moment))) (not_found request.rid ∷ []) refl

    -- before anything was answered nothing was agreed, and nothing but the creation made
    opened_course : (o : Opening) → w.client.answers ≡ [] → IsJournal (record { opening = o; entries = [] }) → IsOnCourse w.client w.moment (Some (opens o).after)
    opened_course o none made = record { past = course.past; rested = λ on. rested; ends = ends }
      where
        rested : IsRested w.client w.moment (session (opens o).after)
        rested = record {
          came = λ k copy at has. absurd (
              let nothing : is_some (taken w.client (w.client.setup.first + suc k)) ≡ false = ap (λ (l : List (ℕ × Taken)). is_some (at_id l (w.client.setup.first + suc k))) none in
              cc);
          rested = λ k copy request at here empty polling. absurd (
              let kept = (keeping below setup w h).each (suc k) request here in
              let nothing : agreed w.client ≡ None = ap (λ (l : List (ℕ × Taken)). option_map (λ (answer : Taken). agreed_by w.client.setup answer.tells) (at_id l w.client.setup.first)) none in
              none_some (agreed w.client) kept.0 nothing kept.1);
        }

        ends : EndsWell w.client (Some (opens o).after)
        ends = subst (λ (e : Option Ending). IfSome e (IsLeft w.client (session (opens o).after))) (sym (settled_ending below w.sent w.moment (record { journal = record { opening = o; entries = [] }; parked = [] }) made)) tt

    comes_course : (body : List ℕ) (request : Request) → IsReadFrom body request → at_id w.sent request.rid ≡ Some body → taken w.client request.rid ≡ None
        → ((creation : Creation) → request.kind ≡ kinds.Creation creation → (children : List Span) × (request ≡ asked_by (creation_parts setup) children))
        → (kind : Kind) → request.kind ≡ kind → (o : Option PlainManager) → w.manager ≡ o → IsCourse (comes w body request kind o).after
    comes_course body request read sent timely creates (kinds.Creation creation) kind None is =
        let asked = creates creation kind in
        let to : request.to ≡ Some setup.to = ap (λ (r : Request). r.to) asked.1 in
        let named : 1 ≤ length setup.to = subst (λ (l : List ℕ). 1 ≤ length l) (sym h.begins.to) (h.begins.host_is).1 in
        let here : admitted_of request.to (host_of w ∷ []) ≡ admitted.Host 0 =
        ap (λ (o : Option (List ℕ)). admitted_of o (host_of w ∷ [])) to ∙ admitted_here setup.to w.host w.greeting named (sym h.begins.to) in
        let o : Opening = opening w request body creation in
        subst (λ (a : Admitted). IsCourse (admits w body request creation a).after) (sym here)
        (opened_course o (manager_of below setup w h None is).1 (opening_allowed below setup w h body request creation read kind, nothing_entered))
    comes_course body request read sent timely creates (kinds.Creation creation) kind (Some m) is = course
    comes_course body request read sent timely creates (kinds.Later sid) kind None is = course
    comes_course body request read sent timely creates (kinds.Later sid) kind (Some m) is =
        arrived_course m is request body read (sid, kind) sent timely (arrive (session m) request body w.moment).1

    carried_course : (rid : ℕ) (body : List ℕ) → at_id w.sent rid ≡ Some body → IsOf w.client.requests rid body → taken w.client rid ≡ None → (o : Option Request) → request_in body ≡ o → IsCourse (carried w rid body o).after
    carried_course rid body there found timely None gives = absurd (gives_request below setup w h rid body found gives)
    carried_course rid body there found timely (Some request) gives =
        let parts = found.request.parts in
        let form = all_at (λ (r : Made). HasForm setup r.parts) w.client.requests found.place found.request (formed below setup w h) found.here in
        let back = reads_back below setup parts h.begins.client form in
        let read = given_read body request gives in
        let same : request ≡ asked_by parts back.children =
        one_reading body request (asked_by parts back.children) read (subst (λ (b : List ℕ). IsReadFrom b (asked_by parts back.children)) found.body_is back.read) in
        let rid_is : request.rid ≡ rid = ap (λ (r : Request). r.rid) same ∙ asked_rid parts back.children ∙ found.id_is in
        comes_course body request read (ap (at_id w.sent) rid_is ∙ there) (ap (taken w.client) rid_is ∙ timely)
        (λ creation kind.
        let creates = creation_is setup parts back.children creation form (sym (ap (λ (r : Request). r.kind) same) ∙ kind) in
        (back.children, same ∙ ap (λ (p : RequestParts). asked_by p back.children) creates))
        request.kind refl w.manager refl

    carries_to_course : (rid : ℕ) → taken w.client rid ≡ None → (o : Option (List ℕ)) → at_id w.sent rid ≡ o → IsCourse (carries_to w rid o).after
    carries_to_course rid timely None there = course
    carries_to_course rid timely (Some body) there =
        carried_course rid body there (sent_is_of w.client.requests rid body (ap (λ (l : List (ℕ × List ℕ)). at_id l rid) (sym h.sent_is) ∙ there)) timely (request_in body) refl

  -- an event
  step_course : (w : PlainWorld) → IsSound setup w → IsCourse w → (event : WorldEvent) → IsAllowed event → IsInTime w event → IsCourse (step w event).after
  step_course w h course (events.At moment) allowed timely =
      passes_to_course (at w moment) (at_sound below setup w moment allowed h) (later_course w.client w.moment (max w.moment moment) w.manager (omega arith) course) w.manager refl
  step_course w h course (events.Put stanza) allowed timely = queued_course w words.Put (put w.client stanza) (put_queues w.client stanza) course
  step_course w h course (events.PutOn stream stanza) allowed timely = queued_course w words.PutOn (put_on w.client stream stanza) (put_on_queues w.client stream stanza) course
  step_course w h course (events.Add to) allowed timely = queued_course w words.Add (add w.client to) (add_queues w.client to) course
  step_course w h course (events.StopOn stream) allowed timely = queued_course w words.StopOn (close_stream w.client stream) (close_queues w.client stream) course
  step_course w h course events.Restart allowed timely = queued_course w words.Restart (restart w.client) (restart_queues w.client) course
  step_course w h course (events.Pause seconds) allowed timely = queued_course w words.Pause (pause w.client seconds) (pause_queues w.client seconds) course
  step_course w h course events.Stop allowed timely = queued_course w words.Stop (terminate w.client) (terminate_queues w.client) course
  step_course w h course events.Send allowed timely = sent_course w h course
  step_course w h course (events.Carry rid) allowed timely = carries_to_course w h course rid timely (at_id w.sent rid) refl
  step_course w h course (events.Give stanza) allowed timely = gives_to_course w h course unnamed stanza allowed w.manager refl
  step_course w h course (events.GiveOn stream stanza) allowed timely = gives_to_course w h course stream stanza allowed w.manager refl
  step_course w h course (events.Shut closing) allowed timely = shuts_to_course w h course unnamed closing w.manager refl
  step_course w h course (events.ShutOn stream closing) allowed timely = shuts_to_course w h course stream closing w.manager refl
  step_course w h course (events.Return number) allowed timely = returns_course w h course number

  -- and many
  pub after_course : (w : PlainWorld) → IsSound setup w → IsCourse w → (list : List WorldEvent) → All IsAllowed list → IsTimely w list → IsCourse (after w list)
  after_course w h course [] allowed timely = course
  after_course w h course (event ∷ list) allowed timely =
      let here = All-head IsAllowed event list allowed in
      after_course (step w event).after (step_sound below setup w h event here) (step_course w h course event here timely.0) list (All-tail IsAllowed event list allowed) timely.1

  -- No answer refuses a request.

  no_place : (condition : Option Condition) → TellsNoPlace condition → IsNoRefusal condition
  no_place condition is = elim is [
    | inl found ↦ subst IsNoRefusal (sym found) refl
    | inr limit ↦ subst IsNoRefusal (sym limit) refl
  ]

  module _ (w : PlainWorld) (h : IsSound setup w) (m : PlainManager) (is : w.manager ≡ Some m) where
    abbrev s : PlainSession
    s = session m

    given_refuses_not : (rid : ℕ) (body : List ℕ) (tells : Told) → answer_of body ≡ Ok tells → (found : Option KeptAnswer) → at_id (map kept_answer (answers s)) rid ≡ found → (ending : Option Ending)
        → option_or (option_map (λ (k : KeptAnswer). k.bytes) found) (option_map (λ e. last_word (answered_of s) e rid) ending) ≡ Some body → TellsNoRefusal tells
    given_refuses_not rid body tells reads (Some kept) there ending given =
        let of = found_place kept_answer (answers s) rid kept there in
        let bytes : (of.1).bytes ≡ body = ap (λ (k : KeptAnswer). k.bytes) of.4 ∙ some_is kept.bytes body given in
        read_refuses_not below (of.1).bytes (items_in (of.1).front) (answer_read below setup w h m is of.0 of.1 of.2) tells (ap answer_of bytes ∙ reads)
    given_refuses_not rid body tells reads None there None given = absurd (cc)
    given_refuses_not rid body tells reads None there (Some ending) given =
        word_refuses_not below (answered_of s) ending rid tells (ap answer_of (some_is (last_word (answered_of s) ending rid) body given) ∙ reads)

    taken_refuses_not : All (λ (answer : ℕ × Taken). TellsNoRefusal answer.1.tells) w.client.answers
    taken_refuses_not = all_of (λ (answer : ℕ × Taken). TellsNoRefusal answer.1.tells) w.client.answers
        (λ k answer at.
        let reads = all_at (λ (a : ℕ × Taken). answer_of a.1.body ≡ Ok a.1.tells) w.client.answers k answer (all_told below setup h.begins.client h.begins.first w.client h.client) at in
        elim (all_at (λ (a : ℕ × Taken). IsAnswerTo s (body_taken a)) w.client.answers k answer (manager_of below setup w h (Some m) is).taken_are at) [
          | inl given ↦ given_refuses_not answer.0 answer.1.body answer.1.tells reads (at_id (map kept_answer (answers s)) answer.0) refl s.ending given
          | inr word ↦ terminal_refuses_not below word.0 (no_place word.0 word.3) answer.1.body word.1 answer.1.tells reads
        ])

  pub none_refused : (w : PlainWorld) → IsSound setup w → All (λ (answer : ℕ × Taken). TellsNoRefusal answer.1.tells) w.client.answers
  none_refused w h = by w.manager refl
    where
      by : (o : Option PlainManager) → w.manager ≡ o → All (λ (answer : ℕ × Taken). TellsNoRefusal answer.1.tells) w.client.answers
      by None is = subst (λ (l : List (ℕ × Taken)). All (λ (answer : ℕ × Taken). TellsNoRefusal answer.1.tells) l) (sym (manager_of below setup w h None is).1) (All-nil (λ (answer : ℕ × Taken). TellsNoRefusal answer.1.tells))
      by (Some m) is = taken_refuses_not w h m is

  pub complete : (w : PlainWorld) → IsSound setup w → IsCourse w → IsComplete w
  complete w h course = record { ending = course.ends; taken = none_refused w h; unbroken = every_unbroken below setup w h }
