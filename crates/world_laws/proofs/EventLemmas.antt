-- Every event leaves a world sound.
use Rattle.std.proofs.Common.{◌≡◌, ℕ, zero, suc, ◌<◌, ◌≤◌, ◌^◌, max, inl, inr, true, false, List, [], ◌∷◌, ◌++◌, length, map, slice_get, refl, sym, ◌∙◌, ap, subst, arith}
use Rattle.std.specs.Prelude.{None, Some, Ok, Option, All}
use Rattle.std.proofs.lemmas.List.{map-append}
use Rattle.std.proofs.lemmas.List.Elements.{All-append, All-cons, All-head, All-nil, All-tail}
use Rattle.std.proofs.lemmas.Str.{IsUtf8-from_is_utf8}
use Rattle.bosh_types.specs.ById.{at_id}
use Rattle.bosh_types.specs.declared.ending.Closing.{Closing}
use Rattle.body_cutter.specs.BodyText.{IsText}
use Rattle.body_cutter.specs.declared.parts.Span.{Span}
use Rattle.body_cutter.proofs.Rows.{cuts_compute}
use Rattle.body_writer.specs.declared.request.RequestParts.{RequestParts}
use Rattle.body_writer.specs.Answer.{answer_text}
use Rattle.session_attrs.specs.declared.admission.Admitted.{Admitted}
use Rattle.session_attrs.specs.declared.admission.Admitted.TheVariants as admitted
use Rattle.session_attrs.specs.declared.request.Creation.{Creation}
use Rattle.session_attrs.specs.declared.request.Kind.{Kind}
use Rattle.session_attrs.specs.declared.request.Kind.TheVariants as kinds
use Rattle.session_attrs.specs.declared.request.Request.{Request}
use Rattle.session_attrs.specs.Admission.{admitted_of}
use Rattle.session_core.specs.Copy.{unnamed}
use Rattle.session_core.specs.Copy as copies
use Rattle.session_core.specs.Journal.{IsOpening, IsReadFrom, Journal, none as nothing_entered}
use Rattle.session_core.specs.Machine.{back, back_closed, created_parts, creation_of, opened}
use Rattle.session_core.specs.declared.opening.Opening.{Opening}
use Rattle.session_core.specs.ReadBack.{asked_by}
use Rattle.session_core.specs.Endings.{error_parts}
use Rattle.session_core.specs.State.{PlainSession}
use Rattle.session_core.specs.Run.{arrivals_of}
use Rattle.session_journal.specs.Entries.{request_in}
use Rattle.session_laws.proofs.Carried.{one_reading}
use Rattle.session_laws.proofs.Lists.{at_id-push_still}
use Rattle.session_laws.proofs.Tests.{none_some}
use Rattle.bosh_client.specs.declared.replies.Queued.{Queued}
use Rattle.bosh_client.specs.declared.setup.ClientSetup.{ClientSetup}
use Rattle.bosh_client.specs.declared.told.Told.{Told}
use Rattle.bosh_client.specs.AnswerReading.{answer_of}
use Rattle.bosh_client.specs.Machine.{add, answer, close_stream, next_made, next_request, pause, put, put_on, restart, terminate, with_answer}
use Rattle.bosh_client.specs.PlainClient.{Made, PlainClient, Taken, deliverable}
use Rattle.bosh_client.specs.ReadBack.{told_of}
use Rattle.bosh_client.specs.Promises.{HasForm, IsNamed}
use Rattle.bosh_client.specs.Requests.{agreed, creation_parts}
use Rattle.bosh_client.specs.Runs as calls
use Rattle.bosh_client.specs.Runs.{client_after}
use Rattle.world_laws.specs.declared.event.WorldEvent.{WorldEvent}
use Rattle.world_laws.specs.declared.event.WorldEvent.TheVariants as events
use Rattle.world_laws.specs.declared.seen.SeenItem.{SeenItem}
use Rattle.world_laws.specs.declared.seen.Word.{Word}
use Rattle.world_laws.specs.declared.seen.Word.TheVariants as words
use Rattle.world_laws.specs.declared.told.Told.TheVariants as tells
use Rattle.world_laws.specs.Manager.{PlainManager, Turn, arrives, gives, opens, passes, session, shuts}
use Rattle.world_laws.specs.Setup.{IsAllowed, IsWorldSetup}
use Rattle.world_laws.specs.Sound.{IsAnswerTo, IsWrittenTo, IsOpenedBy, IsParkedAt, IsRunClient, IsSent, IsSound, IsSoundEnd, body_taken, sent_of}
use Rattle.world_laws.specs.Steps.{admits, after, at, carried, carries_to, comes, gives_to, host_of, name, opening, passes_to, queues, returned, returns, returns_to, sends, shuts_to, step, taken_refusals, turns}
use Rattle.world_laws.specs.World.{PlainWorld, new_world}
use Rattle.world_laws.proofs.AdmittedLemmas.{admitted_here, read_given}
use Rattle.world_laws.proofs.Below.{Below}
use Rattle.world_laws.proofs.ClientLemmas.{Queues, add_queues, answer_by, called_client, close_queues, handed_client, next_by, pause_queues, put_on_queues, put_queues, restart_queues, terminate_queues}
use Rattle.world_laws.proofs.NameLemmas.{created_bytes, error_form, error_is, is_named, tells_same, unnamed_yet}
use Rattle.world_laws.proofs.PlaceLemmas.{all_at}
use Rattle.world_laws.proofs.RequestLemmas.{IsOf, asked_rid, creation_is, given_read, reads_back, sent_is_of}
use Rattle.world_laws.proofs.TurnLemmas.{IsSoundTurn, all_follow, arrives_sound, gives_sound, passes_sound, shuts_sound, turned_sound}

name_text : IsText name
unfolding cuts_compute
name_text = (IsUtf8-from_is_utf8 name refl, refl)

-- a new world is sound
pub new_sound : (host : List ℕ) (greeting : List (List ℕ)) (setup : ClientSetup) → IsWorldSetup host greeting setup → IsSound setup (new_world host greeting setup)
new_sound host greeting setup begins = record {
  begins = begins;
  client = record { calls = []; allowed = All-nil calls.IsAllowed; is = refl };
  sent_is = refl;
  time = omega arith;
  manager = (refl, refl);
}

module _ (below : Below) (setup : ClientSetup) where
  pub manager_of : (w : PlainWorld) → IsSound setup w → (o : Option PlainManager) → w.manager ≡ o → IsSoundEnd setup w.sent w.written w.client.answers w.moment o
  manager_of w h o is = subst (IsSoundEnd setup w.sent w.written w.client.answers w.moment) is h.manager

  -- The client.

  queue_sound : (w : PlainWorld) (word : Word) (p : PlainClient × Queued) → IsSound setup w → IsRunClient setup p.0 → Queues w.client p.0 → IsSound setup (queues w word p).after
  queue_sound w word p h run q = record {
    begins = h.begins;
    client = run;
    sent_is = h.sent_is ∙ ap (map sent_of) (sym q.requests_are);
    time = h.time;
    manager = subst (λ (answers : List (ℕ × Taken)). IsSoundEnd setup w.sent w.written answers w.moment w.manager) (sym q.answers_are) h.manager;
  }

  -- one more request is in the network
  more_sent : (sent written : List (ℕ × List ℕ)) (answers : List (ℕ × Taken)) (moment : ℕ) (new : ℕ × List ℕ) (o : Option PlainManager) → IsSoundEnd setup sent written answers moment o → IsSoundEnd setup (sent ++ new ∷ []) written answers moment o
  more_sent sent written answers moment new None h = h
  more_sent sent written answers moment new (Some m) h = record {
    made = h.made;
    opened = h.opened;
    arrived = all_follow (IsSent sent) (IsSent (sent ++ new ∷ [])) (arrivals_of m.journal) (λ copy is. at_id-push_still sent new (copies.id_of copy) copy.body is) h.arrived;
    parked_at = h.parked_at;
    written_are = h.written_are;
    taken_are = h.taken_are;
    early = h.early;
  }

  send_sound : (w : PlainWorld) → IsSound setup w → IsSound setup (sends w (next_request w.client w.moment)).after
  send_sound w h =
      let request = next_made w.client (agreed w.client) in
      next_by w.client w.moment (λ p. IsRunClient setup p.0 → IsSound setup (sends w p).after) (λ run. h) (λ run. h)
      (λ run. record {
        begins = h.begins;
        client = run;
        sent_is = ap (λ l. l ++ sent_of request ∷ []) h.sent_is ∙ sym (map-append sent_of w.client.requests (request ∷ []));
        time = h.time;
        manager = more_sent w.sent w.written w.client.answers w.moment (sent_of request) w.manager h.manager;
      })
      (called_client setup w.client (calls.NextRequest w.moment) tt h.client)

  -- what the client takes is no error
  no_error : (s : PlainSession) (rid : ℕ) (t : Taken) → answer_of t.body ≡ Ok t.tells → t.tells.error ≡ false → IsWrittenTo s (rid, t.body) → IsAnswerTo s (rid, t.body)
  no_error s rid t reads fine written = elim written [
    | inl is ↦ is
    | inr error ↦
        let same : t.tells ≡ told_of error_parts = tells_same t.body error_parts t.tells reads error (below.answer_read error_parts error_is error_form) in
        let yes_ : t.tells.error ≡ true = ap (λ (tells : Told). tells.error) same in
        absurd (cc)
  ]

  -- an answer that was written is taken
  more_taken : (sent written : List (ℕ × List ℕ)) (answers : List (ℕ × Taken)) (moment index rid : ℕ) (t : Taken) → answer_of t.body ≡ Ok t.tells → t.tells.error ≡ false
      → slice_get written index ≡ Some (rid, t.body) → (o : Option PlainManager)
      → IsSoundEnd setup sent written answers moment o → IsSoundEnd setup sent written (answers ++ (rid, t) ∷ []) moment o
  more_taken sent written answers moment index rid t reads fine is None h = absurd (cc (ap (λ (l : List (ℕ × List ℕ)). slice_get l index) (sym h.0) ∙ is))
  more_taken sent written answers moment index rid t reads fine is (Some m) h =
      let P : ℕ × Taken → Type 0 = λ answer. IsAnswerTo (session m) (body_taken answer) in
      record {
        made = h.made;
        opened = h.opened;
        arrived = h.arrived;
        parked_at = h.parked_at;
        written_are = h.written_are;
        taken_are = All-append P answers ((rid, t) ∷ []) h.taken_are (All-cons P (rid, t) [] (no_error (session m) rid t reads fine (all_at (IsWrittenTo (session m)) written index (rid, t.body) h.written_are is)) (All-nil P));
        early = h.early;
      }

  pub handed_within : (c : PlainClient) → 1 ≤ setup.first → IsRunClient setup c → c.handed_out ≤ length (deliverable c)
  handed_within c some run = subst (λ (d : PlainClient). d.handed_out ≤ length (deliverable d)) (sym run.is) (below.handed setup run.calls some)

  return_sound : (w : PlainWorld) → IsSound setup w → (index rid : ℕ) (body : List ℕ) → slice_get w.written index ≡ Some (rid, body) → IsSound setup (returned w rid (answer w.client rid body w.moment)).after
  return_sound w h index rid body is =
      answer_by w.client rid body w.moment (λ p. IsRunClient setup p.0 → IsSound setup (returned w rid p).after) (λ run. h) (λ run. h) (λ run. h) (λ why run. h)
      (λ t took run. record {
        begins = h.begins;
        client = handed_client setup (with_answer w.client rid t) (handed_within (with_answer w.client rid t) (h.begins.first).0 run) run;
        sent_is = h.sent_is;
        time = h.time;
        manager = more_taken w.sent w.written w.client.answers w.moment index rid t took.1 took.2 (is ∙ ap (λ (b : List ℕ). Some (rid, b)) (sym took.0)) w.manager h.manager;
      })
      (called_client setup w.client (calls.Answer rid body w.moment) tt h.client)

  returns_to_sound : (w : PlainWorld) → IsSound setup w → (index : ℕ) (o : Option (ℕ × List ℕ)) → slice_get w.written index ≡ o → IsSound setup (returns_to w o).after
  returns_to_sound w h index None is = h
  returns_to_sound w h index (Some (rid, body)) is = return_sound w h index rid body is

  returns_sound : (w : PlainWorld) → IsSound setup w → (number : ℕ) → IsSound setup (returns w number).after
  returns_sound w h zero = h
  returns_sound w h (suc index) = returns_to_sound w h index (slice_get w.written index) refl

  -- The manager.

  turns_sound : (w : PlainWorld) → IsSound setup w → (seen : List SeenItem) (turn : Turn) → IsSoundTurn setup w.sent w.written w.client.answers w.moment turn → IsSound setup (turns w seen turn).after
  turns_sound w h seen turn sound = record { begins = h.begins; client = h.client; sent_is = h.sent_is; time = h.time; manager = sound }

  later_sound : (sent written : List (ℕ × List ℕ)) (answers : List (ℕ × Taken)) (moment later : ℕ) → moment ≤ later → (o : Option PlainManager) → IsSoundEnd setup sent written answers moment o → IsSoundEnd setup sent written answers later o
  later_sound sent written answers moment later before None h = h
  later_sound sent written answers moment later before (Some m) h = record {
    made = h.made;
    opened = h.opened;
    arrived = h.arrived;
    parked_at = h.parked_at;
    written_are = h.written_are;
    taken_are = h.taken_are;
    early = omega (arith, h.early, before);
  }

  pub at_sound : (w : PlainWorld) (moment : ℕ) → moment < 2 ^ 64 → IsSound setup w → IsSound setup (at w moment)
  at_sound w moment word h = record {
    begins = h.begins;
    client = h.client;
    sent_is = h.sent_is;
    time = omega (arith, h.time, word);
    manager = later_sound w.sent w.written w.client.answers w.moment (max w.moment moment) (omega arith) w.manager h.manager;
  }

  passes_to_sound : (w : PlainWorld) → IsSound setup w → (o : Option PlainManager) → w.manager ≡ o → IsSound setup (passes_to w o).after
  passes_to_sound w h None is = h
  passes_to_sound w h (Some m) is = turns_sound w h [] (passes m w.moment) (passes_sound below setup w.sent w.written w.client.answers w.moment m w.moment (omega arith) (manager_of w h (Some m) is))

  gives_to_sound : (w : PlainWorld) → IsSound setup w → (stream : ℕ) (stanza : List ℕ) → IsAllowed (events.GiveOn stream stanza) → (o : Option PlainManager) → w.manager ≡ o → IsSound setup (gives_to w stream stanza o).after
  gives_to_sound w h stream stanza allowed None is = h
  gives_to_sound w h stream stanza allowed (Some m) is =
      turns_sound w h (taken_refusals words.Give (back (session m) stream stanza w.moment).1) (gives m stream stanza w.moment) (gives_sound below setup w.sent w.written w.client.answers w.moment m stream stanza w.moment (omega arith) allowed (manager_of w h (Some m) is))

  shuts_to_sound : (w : PlainWorld) → IsSound setup w → (stream : ℕ) (closing : Closing) (o : Option PlainManager) → w.manager ≡ o → IsSound setup (shuts_to w stream closing o).after
  shuts_to_sound w h stream closing None is = h
  shuts_to_sound w h stream closing (Some m) is =
      turns_sound w h (taken_refusals words.Shut (back_closed (session m) stream closing w.moment).1) (shuts m stream closing w.moment) (shuts_sound below setup w.sent w.written w.client.answers w.moment m stream closing w.moment (omega arith) (manager_of w h (Some m) is))

  -- The creation opens the session.

  opens_sound : (sent : List (ℕ × List ℕ)) (moment : ℕ) (o : Opening) → o.at ≤ moment → IsOpening o → IsOpenedBy setup o → at_id sent o.request.rid ≡ Some o.body → IsSoundTurn setup sent [] [] moment (opens o)
  opens_sound sent moment o by is by_client body =
      let journal : Journal = record { opening = o; entries = [] } in
      let m : PlainManager = record { journal = journal; parked = [] } in
      let answered : ℕ × List ℕ = (o.request.rid, answer_text (created_parts o)) in
      let P = IsAnswerTo (opened o) in
      let W = IsWrittenTo (opened o) in
      turned_sound below setup sent [] [] moment false m (tells.Answer o.request.rid (answer_text (created_parts o)) ∷ [])
      (All-cons W answered [] (inl (inl (created_bytes (opened o) o refl))) (All-nil W))
      (record {
        made = (is, nothing_entered);
        opened = by_client;
        arrived = All-cons (IsSent sent) (creation_of o) [] body (All-nil (IsSent sent));
        parked_at = All-nil (IsParkedAt (opened o));
        written_are = All-nil W;
        taken_are = All-nil (λ (answer : ℕ × Taken). P (body_taken answer));
        early = by;
      })

  -- A copy comes.

  module _ (w : PlainWorld) (h : IsSound setup w) where
    named_by : (o : Option PlainManager) → w.manager ≡ o → IsNamed w.client
    named_by None is = unnamed_yet w.client (manager_of w h None is).1
    named_by (Some m) is = is_named below setup h.begins.client h.begins.first w.sent w.written w.moment m w.client h.client (manager_of w h (Some m) is)

    pub formed : All (λ (request : Made). HasForm setup request.parts) w.client.requests
    formed =
        let run = h.client in
        subst (λ (c : PlainClient). All (λ (request : Made). HasForm setup request.parts) c.requests) (sym run.is)
        (below.forms setup run.calls h.begins.client (h.begins.first).0 run.allowed (subst IsNamed run.is (named_by w.manager refl)))

    pub opening_allowed : (body : List ℕ) (request : Request) (creation : Creation) → IsReadFrom body request → request.kind ≡ kinds.Creation creation → IsOpening (opening w request body creation)
    opening_allowed body request creation read kind = record {
      read = read;
      creation = (creation, kind, refl);
      sid = (name_text, omega arith, omega arith);
      host = h.begins.host_is;
      gap = (omega arith, omega arith);
      greeting = (h.begins.stanzas, h.begins.few, h.begins.short);
    }

    comes_sound : (body : List ℕ) (request : Request) → IsReadFrom body request → at_id w.sent request.rid ≡ Some body
        → ((creation : Creation) → request.kind ≡ kinds.Creation creation → (children : List Span) × (request ≡ asked_by (creation_parts setup) children))
        → (kind : Kind) → request.kind ≡ kind → (o : Option PlainManager) → w.manager ≡ o → IsSound setup (comes w body request kind o).after
    comes_sound body request read sent creates (kinds.Creation creation) kind None is =
        let asked = creates creation kind in
        let to : request.to ≡ Some setup.to = ap (λ (r : Request). r.to) asked.1 in
        let named : 1 ≤ length setup.to = subst (λ (l : List ℕ). 1 ≤ length l) (sym h.begins.to) (h.begins.host_is).1 in
        let here : admitted_of request.to (host_of w ∷ []) ≡ admitted.Host 0 =
        ap (λ (o : Option (List ℕ)). admitted_of o (host_of w ∷ [])) to ∙ admitted_here setup.to w.host w.greeting named (sym h.begins.to) in
        let o : Opening = opening w request body creation in
        let by_client : IsOpenedBy setup o = record { children = asked.0; request_is = asked.1; sid_is = refl; host_is = sym h.begins.to } in
        let none = manager_of w h None is in
        let turn = opens_sound w.sent w.moment o (omega arith) (opening_allowed body request creation read kind) by_client sent in
        subst (λ (a : Admitted). IsSound setup (admits w body request creation a).after) (sym here)
        (turns_sound w h [] (opens o)
        (subst (λ (answers : List (ℕ × Taken)). IsSoundTurn setup w.sent w.written answers w.moment (opens o)) (sym none.1)
        (subst (λ (written : List (ℕ × List ℕ)). IsSoundTurn setup w.sent written [] w.moment (opens o)) (sym none.0) turn)))
    comes_sound body request read sent creates (kinds.Creation creation) kind (Some m) is = h
    comes_sound body request read sent creates (kinds.Later sid) kind None is = h
    comes_sound body request read sent creates (kinds.Later sid) kind (Some m) is =
        turns_sound w h [] (arrives m request body w.moment) (arrives_sound below setup w.sent w.written w.client.answers w.moment m request body w.moment (read, (sid, kind)) (manager_of w h (Some m) is) (sent, omega arith))

    -- a body of the network gives a request
    pub gives_request : (rid : ℕ) (body : List ℕ) → IsOf w.client.requests rid body → request_in body ≡ None → ⊥
    gives_request rid body found gives =
        let parts = found.request.parts in
        let form = all_at (λ (r : Made). HasForm setup r.parts) w.client.requests found.place found.request formed found.here in
        let back = reads_back below setup parts h.begins.client form in
        none_some (request_in body) (asked_by parts back.children) gives (read_given body (asked_by parts back.children) (subst (λ (b : List ℕ). IsReadFrom b (asked_by parts back.children)) found.body_is back.read))

    -- what is read from a body of the network is the request whose body it is
    carried_sound : (rid : ℕ) (body : List ℕ) → at_id w.sent rid ≡ Some body → IsOf w.client.requests rid body → (o : Option Request) → request_in body ≡ o → IsSound setup (carried w rid body o).after
    carried_sound rid body there found None gives = absurd (gives_request rid body found gives)
    carried_sound rid body there found (Some request) gives =
        let parts = found.request.parts in
        let form = all_at (λ (r : Made). HasForm setup r.parts) w.client.requests found.place found.request formed found.here in
        let back = reads_back below setup parts h.begins.client form in
        let read = given_read body request gives in
        let same : request ≡ asked_by parts back.children =
        one_reading body request (asked_by parts back.children) read (subst (λ (b : List ℕ). IsReadFrom b (asked_by parts back.children)) found.body_is back.read) in
        let rid_is : request.rid ≡ rid = ap (λ (r : Request). r.rid) same ∙ asked_rid parts back.children ∙ found.id_is in
        comes_sound body request read (ap (at_id w.sent) rid_is ∙ there)
        (λ creation kind.
        let creates = creation_is setup parts back.children creation form (sym (ap (λ (r : Request). r.kind) same) ∙ kind) in
        (back.children, same ∙ ap (λ (p : RequestParts). asked_by p back.children) creates))
        request.kind refl w.manager refl

    carries_to_sound : (rid : ℕ) (o : Option (List ℕ)) → at_id w.sent rid ≡ o → IsSound setup (carries_to w rid o).after
    carries_to_sound rid None there = h
    carries_to_sound rid (Some body) there =
        carried_sound rid body there (sent_is_of w.client.requests rid body (ap (λ (l : List (ℕ × List ℕ)). at_id l rid) (sym h.sent_is) ∙ there)) (request_in body) refl

    pub step_sound : (event : WorldEvent) → IsAllowed event → IsSound setup (step w event).after
    step_sound (events.At moment) allowed = passes_to_sound (at w moment) (at_sound w moment allowed h) w.manager refl
    step_sound (events.Put stanza) allowed =
        queue_sound w words.Put (put w.client stanza) h (called_client setup w.client (calls.Put stanza) allowed h.client) (put_queues w.client stanza)
    step_sound (events.PutOn stream stanza) allowed =
        queue_sound w words.PutOn (put_on w.client stream stanza) h (called_client setup w.client (calls.PutOn stream stanza) allowed h.client) (put_on_queues w.client stream stanza)
    step_sound (events.Add to) allowed = queue_sound w words.Add (add w.client to) h (called_client setup w.client (calls.Add to) allowed h.client) (add_queues w.client to)
    step_sound (events.StopOn stream) allowed =
        queue_sound w words.StopOn (close_stream w.client stream) h (called_client setup w.client (calls.CloseStream stream) tt h.client) (close_queues w.client stream)
    step_sound events.Restart allowed = queue_sound w words.Restart (restart w.client) h (called_client setup w.client calls.Restart tt h.client) (restart_queues w.client)
    step_sound (events.Pause seconds) allowed =
        queue_sound w words.Pause (pause w.client seconds) h (called_client setup w.client (calls.Pause seconds) tt h.client) (pause_queues w.client seconds)
    step_sound events.Stop allowed = queue_sound w words.Stop (terminate w.client) h (called_client setup w.client calls.Terminate tt h.client) (terminate_queues w.client)
    step_sound events.Send allowed = send_sound w h
    step_sound (events.Carry rid) allowed = carries_to_sound rid (at_id w.sent rid) refl
    step_sound (events.Give stanza) allowed = gives_to_sound w h unnamed stanza allowed w.manager refl
    step_sound (events.GiveOn stream stanza) allowed = gives_to_sound w h stream stanza allowed w.manager refl
    step_sound (events.Shut closing) allowed = shuts_to_sound w h unnamed closing w.manager refl
    step_sound (events.ShutOn stream closing) allowed = shuts_to_sound w h stream closing w.manager refl
    step_sound (events.Return number) allowed = returns_sound w h number

  -- and so do many
  pub after_sound : (w : PlainWorld) → IsSound setup w → (list : List WorldEvent) → All IsAllowed list → IsSound setup (after w list)
  after_sound w h [] allowed = h
  after_sound w h (event ∷ list) allowed =
      after_sound (step w event).after (step_sound w h event (All-head IsAllowed event list allowed)) list (All-tail IsAllowed event list allowed)
