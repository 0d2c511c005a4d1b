-- Event by event, what is seen shows just what went inward and what was handed out.
use Rattle.std.proofs.Common.{◌≡◌, ℕ, zero, suc, ◌≤◌, false, List, [], ◌∷◌, ◌++◌, length, map, take, slice_get, refl, sym, ◌∙◌, ap, ap₂, subst, arith, append_assoc, append-nil}
use Rattle.std.specs.Prelude.{None, Some, Option, All}
use Rattle.std.specs.List.{flat_map}
use Rattle.std.proofs.lemmas.List.{take-append-drop, take-append-le}
use Rattle.std.proofs.lemmas.List.Elements.{All-head, All-tail}
use Rattle.bosh_types.specs.ById.{at_id}
use Rattle.bosh_types.specs.declared.condition.Condition.{Condition}
use Rattle.bosh_types.specs.declared.condition.Condition.TheVariants.{BadRequest, HostUnknown, ImproperAddressing}
use Rattle.bosh_types.specs.declared.ending.Closing.{Closing}
use Rattle.bosh_types.specs.declared.inward.Inward.{Inward}
use Rattle.body_writer.specs.Answer.{answer_text}
use Rattle.session_attrs.specs.declared.admission.Admitted.{Admitted}
use Rattle.session_attrs.specs.declared.admission.Admitted.TheVariants as admitted
use Rattle.session_attrs.specs.declared.request.Creation.{Creation}
use Rattle.session_attrs.specs.declared.request.Kind.{Kind}
use Rattle.session_attrs.specs.declared.request.Kind.TheVariants as kinds
use Rattle.session_attrs.specs.declared.request.Request.{Request}
use Rattle.session_attrs.specs.Admission.{admitted_of}
use Rattle.session_core.specs.declared.replies.Taken.{Taken}
use Rattle.session_core.specs.declared.replies.Taken.TheVariants as takings
use Rattle.session_core.specs.Copy.{unnamed}
use Rattle.session_core.specs.Journal.{IsOpening, IsReadFrom, Journal, none as nothing_entered}
use Rattle.session_core.specs.Machine.{back, back_closed, created_parts}
use Rattle.session_core.specs.declared.opening.Opening.{Opening}
use Rattle.session_journal.specs.Entries.{request_in}
use Rattle.bosh_client.specs.declared.replies.ClientEnd.{ClientEnd}
use Rattle.bosh_client.specs.declared.replies.Queued.{Queued}
use Rattle.bosh_client.specs.declared.replies.Queued.TheVariants as queueings
use Rattle.bosh_client.specs.declared.setup.ClientSetup.{ClientSetup}
use Rattle.bosh_client.specs.Machine.{add, answer, close_stream, next_made, next_request, pause, put, put_on, restart, terminate, with_answer, with_request}
use Rattle.bosh_client.specs.PlainClient.{PlainClient, bytes_of, deliverable, end_of, id_of, lowest, was_handed}
use Rattle.bosh_client.specs.Promises.{Begins}
use Rattle.bosh_client.specs.Requests.{agreed}
use Rattle.bosh_client.specs.Runs as calls
use Rattle.world_laws.specs.declared.event.WorldEvent.{WorldEvent}
use Rattle.world_laws.specs.declared.event.WorldEvent.TheVariants as events
use Rattle.world_laws.specs.declared.seen.SeenItem.{SeenItem}
use Rattle.world_laws.specs.declared.seen.SeenItem.TheVariants as seen
use Rattle.world_laws.specs.declared.seen.Word.{Word}
use Rattle.world_laws.specs.declared.seen.Word.TheVariants as words
use Rattle.world_laws.specs.declared.told.Told.TheVariants as tells
use Rattle.world_laws.specs.Manager.{PlainManager, Turn, arrives, gives, opens, passes, session, shuts}
use Rattle.world_laws.specs.Promises.{ShowsAll, handed_in, inward_at, passed_in, seen_handed, seen_inward}
use Rattle.world_laws.specs.Setup.{IsAllowed}
use Rattle.world_laws.specs.Sound.{IsSound, IsSoundManager}
use Rattle.world_laws.specs.Steps.{Step, admits, after, all_handed, at, carried, carries_to, comes, ended_seen, gives_to, got, host_of, left_of, numbered, opening, passes_to, queues, refusals, refuses, report, returned, returns, returns_to, sends, shuts_to, step, taken_refusals}
use Rattle.world_laws.specs.World.{PlainWorld}
use Rattle.world_laws.proofs.Below.{Below}
use Rattle.world_laws.proofs.ClientLemmas.{Queues, add_queues, answer_by, close_queues, next_by, pause_queues, put_on_queues, put_queues, restart_queues, terminate_queues}
use Rattle.world_laws.proofs.EventLemmas.{at_sound, handed_within, manager_of, opening_allowed, step_sound}
use Rattle.world_laws.proofs.RequestLemmas.{given_read}
use Rattle.world_laws.proofs.SeenLemmas.{AllPassed, IsPassedTurn, arrives_passed, gives_passed, numbered_handed, numbered_inward, passed_told, picked-append, shuts_passed, time_passed, turned_passed}

abbrev ShownAt : Option PlainManager → List Inward → Type 0
ShownAt None items = items ≡ []
ShownAt (Some m) items = AllPassed (session m) items

-- these things were seen of a world with this client and this manager
record Shown (c : PlainClient) (o : Option PlainManager) (items : List SeenItem) : Type 0 where
  handed : seen_handed items ≡ was_handed c
  inward : ShownAt o (seen_inward items)

-- so it is after a step, with what is seen of it
abbrev ShowsStep : List SeenItem → Step → Type 0
ShowsStep items s = Shown s.after.client s.after.manager (items ++ s.seen)

-- nothing is passed on or handed out
record Quiet (items : List SeenItem) : Type 0 where
  handed : seen_handed items ≡ []
  inward : seen_inward items ≡ []

more_handed : (items more : List SeenItem) → Quiet more → seen_handed (items ++ more) ≡ seen_handed items
more_handed items more q = picked-append handed_in items more ∙ ap (λ (l : List (ℕ × List ℕ)). seen_handed items ++ l) q.handed ∙ append-nil (seen_handed items)

more_inward : (items more : List SeenItem) → Quiet more → seen_inward (items ++ more) ≡ seen_inward items
more_inward items more q = picked-append passed_in items more ∙ ap (λ (l : List Inward). seen_inward items ++ l) q.inward ∙ append-nil (seen_inward items)

-- and so all is shown as before
quietly : (c d : PlainClient) (o : Option PlainManager) (items more : List SeenItem) → Quiet more → was_handed d ≡ was_handed c → Shown c o items → Shown d o (items ++ more)
quietly c d o items more q same h = record {
  handed = more_handed items more q ∙ h.handed ∙ sym same;
  inward = subst (ShownAt o) (sym (more_inward items more q)) h.inward;
}

unseen_is : (c : PlainClient) (o : Option PlainManager) (items : List SeenItem) → Shown c o items → Shown c o (items ++ [])
unseen_is c o items h = quietly c c o items [] (record { handed = refl; inward = refl }) refl h

refused : (word : Word) (queued : Queued) → Quiet (refusals word queued)
refused word queueings.Done = record { handed = refl; inward = refl }
refused word queueings.Over = record { handed = refl; inward = refl }
refused word queueings.Full = record { handed = refl; inward = refl }
refused word queueings.NoStream = record { handed = refl; inward = refl }
refused word queueings.TooLong = record { handed = refl; inward = refl }

not_taken : (word : Word) (taken : Taken) → Quiet (taken_refusals word taken)
not_taken word takings.Done = record { handed = refl; inward = refl }
not_taken word takings.Full = record { handed = refl; inward = refl }
not_taken word takings.Over = record { handed = refl; inward = refl }

end_quiet : (before end : Option ClientEnd) → Quiet (ended_seen before end)
end_quiet (Some b) end = record { handed = refl; inward = refl }
end_quiet None None = record { handed = refl; inward = refl }
end_quiet None (Some e) = record { handed = refl; inward = refl }

all_got : (items : List (ℕ × List ℕ)) → seen_handed (map got items) ≡ items
all_got [] = refl
all_got ((zero, stanza) ∷ items) = ap (λ (l : List (ℕ × List ℕ)). (0, stanza) ∷ l) (all_got items)
all_got ((suc stream, stanza) ∷ items) = ap (λ (l : List (ℕ × List ℕ)). (suc stream, stanza) ∷ l) (all_got items)

none_in : (items : List (ℕ × List ℕ)) → seen_inward (map got items) ≡ []
none_in [] = refl
none_in ((zero, stanza) ∷ items) = none_in items
none_in ((suc stream, stanza) ∷ items) = none_in items

-- what a manager tells is seen
turn_shown : (c : PlainClient) (o : Option PlainManager) (items first : List SeenItem) (count : ℕ) (turn : Turn) → Quiet first → Shown c o items → IsPassedTurn (seen_inward items) turn
    → Shown c (Some turn.after) (items ++ (first ++ numbered count turn.told))
turn_shown c o items first count turn q h passed = record {
  handed =
      picked-append handed_in items (first ++ numbered count turn.told)
      ∙ ap (λ (l : List (ℕ × List ℕ)). seen_handed items ++ l) (picked-append handed_in first (numbered count turn.told) ∙ ap₂ (λ (x y : List (ℕ × List ℕ)). x ++ y) q.handed (numbered_handed count turn.told))
      ∙ append-nil (seen_handed items) ∙ h.handed;
  inward = subst (AllPassed (session turn.after)) (sym all) passed;
}
  where
    all : seen_inward (items ++ (first ++ numbered count turn.told)) ≡ seen_inward items ++ passed_told turn.told
    all = picked-append passed_in items (first ++ numbered count turn.told)
        ∙ ap (λ (l : List Inward). seen_inward items ++ l) (picked-append passed_in first (numbered count turn.told) ∙ ap₂ (λ (x y : List Inward). x ++ y) q.inward (numbered_inward count turn.told))

nothing_first : Quiet []
nothing_first = record { handed = refl; inward = refl }

module _ (below : Below) (setup : ClientSetup) where
  -- what was handed out stays the same
  handed_same : (c d : PlainClient) → c.handed_out ≤ length (deliverable c) → d.handed_out ≡ c.handed_out → Begins (deliverable c) (deliverable d) → was_handed d ≡ was_handed c
  handed_same c d within count begins =
      ap₂ (λ (n : ℕ) (l : List (ℕ × List ℕ)). take n l) count begins.1 ∙ take-append-le c.handed_out (deliverable c) begins.0 within

  module _ (w : PlainWorld) (h : IsSound setup w) (items : List SeenItem) (shown : Shown w.client w.manager items) where
    within : w.client.handed_out ≤ length (deliverable w.client)
    within = handed_within below setup w.client (h.begins.first).0 h.client

    -- The client.

    queue_shown : (word : Word) (call : calls.Call) (p : PlainClient × Queued) → (calls.step w.client call).0 ≡ p.0 → Queues w.client p.0 → ShowsStep items (queues w word p)
    queue_shown word call p is q =
        quietly w.client p.0 w.manager items (refusals word p.1) (refused word p.1)
        (handed_same w.client p.0 within q.handed_is (subst (λ (d : PlainClient). Begins (deliverable w.client) (deliverable d)) is (below.grows w.client (call ∷ [])))) shown

    send_shown : ShowsStep items (sends w (next_request w.client w.moment))
    send_shown =
        let quiet : (item : SeenItem) → Quiet (item ∷ []) → Shown w.client w.manager (items ++ item ∷ []) = λ item q. quietly w.client w.client w.manager items (item ∷ []) q refl shown in
        next_by w.client w.moment (λ p. Begins (deliverable w.client) (deliverable p.0) → ShowsStep items (sends w p))
        (λ begins. quiet seen.Nothing (record { handed = refl; inward = refl }))
        (λ begins. quiet seen.Spent (record { handed = refl; inward = refl }))
        (λ begins.
        let request = next_made w.client (agreed w.client) in
        let c : PlainClient = (with_request w.client request).0 in
        quietly w.client c w.manager items (seen.Req (id_of request) (bytes_of request) ∷ []) (record { handed = refl; inward = refl }) (handed_same w.client c within refl begins) shown)
        (below.grows w.client (calls.NextRequest w.moment ∷ []))

    -- what is left is handed out, and then all was
    all_out : (c : PlainClient) → was_handed c ++ left_of c ≡ was_handed (all_handed c)
    all_out c = take-append-drop c.handed_out (deliverable c) ∙ sym (take_all (deliverable c))
      where
        take_all : (xs : List (ℕ × List ℕ)) → take (length xs) xs ≡ xs
        take_all [] = refl
        take_all (x ∷ xs) = ap (λ (l : List (ℕ × List ℕ)). x ∷ l) (take_all xs)

    got_shown : (c : PlainClient) (end : List SeenItem) → Quiet end → was_handed c ≡ was_handed w.client → Shown (all_handed c) w.manager (items ++ (map got (left_of c) ++ end))
    got_shown c end q same = record {
      handed =
          picked-append handed_in items (map got (left_of c) ++ end)
          ∙ ap₂ (λ (x y : List (ℕ × List ℕ)). x ++ y) (shown.handed ∙ sym same)
          (picked-append handed_in (map got (left_of c)) end ∙ ap₂ (λ (x y : List (ℕ × List ℕ)). x ++ y) (all_got (left_of c)) q.handed ∙ append-nil (left_of c))
          ∙ all_out c;
      inward = subst (ShownAt w.manager) (sym inward) shown.inward;
    }
      where
        inward : seen_inward (items ++ (map got (left_of c) ++ end)) ≡ seen_inward items
        inward = picked-append passed_in items (map got (left_of c) ++ end)
            ∙ ap (λ (l : List Inward). seen_inward items ++ l)
            (picked-append passed_in (map got (left_of c)) end ∙ ap₂ (λ (x y : List Inward). x ++ y) (none_in (left_of c)) q.inward)
            ∙ append-nil (seen_inward items)

    return_shown : (rid : ℕ) (body : List ℕ) → ShowsStep items (returned w rid (answer w.client rid body w.moment))
    return_shown rid body =
        let quiet : (more : List SeenItem) → Quiet more → Shown w.client w.manager (items ++ more) = λ more q. quietly w.client w.client w.manager items more q refl shown in
        answer_by w.client rid body w.moment (λ p. Begins (deliverable w.client) (deliverable p.0) → ShowsStep items (returned w rid p))
        (λ begins. quiet [] nothing_first)
        (λ begins. quiet (seen.Stale rid ∷ []) (record { handed = refl; inward = refl }))
        (λ begins. quiet (seen.Again (lowest w.client) rid ∷ []) (record { handed = refl; inward = refl }))
        (λ why begins. quiet (seen.Broken rid ∷ []) (record { handed = refl; inward = refl }))
        (λ t same begins.
        let c : PlainClient = with_answer w.client rid t in
        got_shown c (ended_seen (end_of w.client) (end_of c)) (end_quiet (end_of w.client) (end_of c)) (handed_same w.client c within refl begins))
        (below.grows w.client (calls.Answer rid body w.moment ∷ []))

    no_copy : Shown w.client w.manager (items ++ seen.NoCopy ∷ [])
    no_copy = quietly w.client w.client w.manager items (seen.NoCopy ∷ []) (record { handed = refl; inward = refl }) refl shown

    returns_to_shown : (o : Option (ℕ × List ℕ)) → ShowsStep items (returns_to w o)
    returns_to_shown None = no_copy
    returns_to_shown (Some (rid, body)) = return_shown rid body

    returns_shown : (number : ℕ) → ShowsStep items (returns w number)
    returns_shown zero = no_copy
    returns_shown (suc index) = returns_to_shown (slice_get w.written index)

    -- The manager.

    shown_at : (o : Option PlainManager) → w.manager ≡ o → Shown w.client o items
    shown_at o is = subst (λ (m : Option PlainManager). Shown w.client m items) is shown

    journal_made : (m : PlainManager) → w.manager ≡ Some m → IsSoundManager setup w.sent w.written w.client.answers w.moment m
    journal_made m is = manager_of below setup w h (Some m) is

    passes_to_shown : (o : Option PlainManager) → w.manager ≡ o → ShowsStep items (passes_to w o)
    passes_to_shown None is = unseen_is w.client w.manager items shown
    passes_to_shown (Some m) is =
        turn_shown w.client (Some m) items [] (length w.written) (passes m w.moment) nothing_first (shown_at (Some m) is)
        (time_passed below m (seen_inward items) (journal_made m is).made (shown_at (Some m) is).inward w.moment)

    gives_to_shown : (stream : ℕ) (stanza : List ℕ) → IsAllowed (events.GiveOn stream stanza) → (o : Option PlainManager) → w.manager ≡ o → ShowsStep items (gives_to w stream stanza o)
    gives_to_shown stream stanza allowed None is = quietly w.client w.client w.manager items _ (record { handed = refl; inward = refl }) refl shown
    gives_to_shown stream stanza allowed (Some m) is =
        let taken = (back (session m) stream stanza w.moment).1 in
        turn_shown w.client (Some m) items (taken_refusals words.Give taken) (length w.written) (gives m stream stanza w.moment) (not_taken words.Give taken) (shown_at (Some m) is)
        (gives_passed below m (seen_inward items) (journal_made m is).made (shown_at (Some m) is).inward stream stanza w.moment allowed)

    shuts_to_shown : (stream : ℕ) (closing : Closing) (o : Option PlainManager) → w.manager ≡ o → ShowsStep items (shuts_to w stream closing o)
    shuts_to_shown stream closing None is = quietly w.client w.client w.manager items _ (record { handed = refl; inward = refl }) refl shown
    shuts_to_shown stream closing (Some m) is =
        let taken = (back_closed (session m) stream closing w.moment).1 in
        turn_shown w.client (Some m) items (taken_refusals words.Shut taken) (length w.written) (shuts m stream closing w.moment) (not_taken words.Shut taken) (shown_at (Some m) is)
        (shuts_passed below m (seen_inward items) (journal_made m is).made (shown_at (Some m) is).inward stream closing w.moment)

    opens_passed : (o : Opening) → IsOpening o → seen_inward items ≡ [] → IsPassedTurn (seen_inward items) (opens o)
    opens_passed o is none =
        let journal : Journal = record { opening = o; entries = [] } in
        let m : PlainManager = record { journal = journal; parked = [] } in
        subst (λ (l : List Inward). IsPassedTurn l (opens o)) (sym none)
        (turned_passed below false m (tells.Answer o.request.rid (answer_text (created_parts o)) ∷ []) [] refl (is, nothing_entered) (record { are = refl; within = omega arith }))

    refuses_shown : (rid : ℕ) (condition : Condition) → ShowsStep items (refuses w rid condition)
    refuses_shown rid condition = quietly w.client w.client w.manager items _ (record { handed = refl; inward = refl }) refl shown

    admits_shown : (body : List ℕ) (request : Request) (creation : Creation) → IsReadFrom body request → request.kind ≡ kinds.Creation creation → w.manager ≡ None → (a : Admitted)
        → ShowsStep items (admits w body request creation a)
    admits_shown body request creation read kind is (admitted.Host place) =
        let o : Opening = opening w request body creation in
        turn_shown w.client None items [] (length w.written) (opens o) nothing_first (shown_at None is)
        (opens_passed o (opening_allowed below setup w h body request creation read kind) (shown_at None is).inward)
    admits_shown body request creation read kind is admitted.Improper = refuses_shown request.rid ImproperAddressing
    admits_shown body request creation read kind is admitted.Unknown = refuses_shown request.rid HostUnknown

    comes_shown : (body : List ℕ) (request : Request) → IsReadFrom body request → (kind : Kind) → request.kind ≡ kind → (o : Option PlainManager) → w.manager ≡ o
        → ShowsStep items (comes w body request kind o)
    comes_shown body request read (kinds.Creation creation) kind None is = admits_shown body request creation read kind is (admitted_of request.to (host_of w ∷ []))
    comes_shown body request read (kinds.Creation creation) kind (Some m) is = quietly w.client w.client w.manager items _ (record { handed = refl; inward = refl }) refl shown
    comes_shown body request read (kinds.Later sid) kind None is = unseen_is w.client w.manager items shown
    comes_shown body request read (kinds.Later sid) kind (Some m) is =
        turn_shown w.client (Some m) items [] (length w.written) (arrives m request body w.moment) nothing_first (shown_at (Some m) is)
        (arrives_passed below m (seen_inward items) (journal_made m is).made (shown_at (Some m) is).inward request body w.moment (read, (sid, kind)))

    carried_shown : (rid : ℕ) (body : List ℕ) (o : Option Request) → request_in body ≡ o → ShowsStep items (carried w rid body o)
    carried_shown rid body None gives = refuses_shown rid BadRequest
    carried_shown rid body (Some request) gives = comes_shown body request (given_read body request gives) request.kind refl w.manager refl

    carries_to_shown : (rid : ℕ) (o : Option (List ℕ)) → ShowsStep items (carries_to w rid o)
    carries_to_shown rid None = no_copy
    carries_to_shown rid (Some body) = carried_shown rid body (request_in body) refl

  -- an event
  step_shown : (w : PlainWorld) (h : IsSound setup w) (items : List SeenItem) → Shown w.client w.manager items → (event : WorldEvent) → IsAllowed event → ShowsStep items (step w event)
  step_shown w h items shown (events.At moment) allowed = passes_to_shown (at w moment) (at_sound below setup w moment allowed h) items shown w.manager refl
  step_shown w h items shown (events.Put stanza) allowed = queue_shown w h items shown words.Put (calls.Put stanza) (put w.client stanza) refl (put_queues w.client stanza)
  step_shown w h items shown (events.PutOn stream stanza) allowed =
      queue_shown w h items shown words.PutOn (calls.PutOn stream stanza) (put_on w.client stream stanza) refl (put_on_queues w.client stream stanza)
  step_shown w h items shown (events.Add to) allowed = queue_shown w h items shown words.Add (calls.Add to) (add w.client to) refl (add_queues w.client to)
  step_shown w h items shown (events.StopOn stream) allowed =
      queue_shown w h items shown words.StopOn (calls.CloseStream stream) (close_stream w.client stream) refl (close_queues w.client stream)
  step_shown w h items shown events.Restart allowed = queue_shown w h items shown words.Restart calls.Restart (restart w.client) refl (restart_queues w.client)
  step_shown w h items shown (events.Pause seconds) allowed = queue_shown w h items shown words.Pause (calls.Pause seconds) (pause w.client seconds) refl (pause_queues w.client seconds)
  step_shown w h items shown events.Stop allowed = queue_shown w h items shown words.Stop calls.Terminate (terminate w.client) refl (terminate_queues w.client)
  step_shown w h items shown events.Send allowed = send_shown w h items shown
  step_shown w h items shown (events.Carry rid) allowed = carries_to_shown w h items shown rid (at_id w.sent rid)
  step_shown w h items shown (events.Give stanza) allowed = gives_to_shown w h items shown unnamed stanza allowed w.manager refl
  step_shown w h items shown (events.GiveOn stream stanza) allowed = gives_to_shown w h items shown stream stanza allowed w.manager refl
  step_shown w h items shown (events.Shut closing) allowed = shuts_to_shown w h items shown unnamed closing w.manager refl
  step_shown w h items shown (events.ShutOn stream closing) allowed = shuts_to_shown w h items shown stream closing w.manager refl
  step_shown w h items shown (events.Return number) allowed = returns_shown w h items shown number

  -- and many
  after_shown : (w : PlainWorld) → IsSound setup w → (items : List SeenItem) → Shown w.client w.manager items → (list : List WorldEvent) → All IsAllowed list
      → Shown (after w list).client (after w list).manager (items ++ flat_map (λ (things : List SeenItem). things) (report w list))
  after_shown w h items shown [] allowed = unseen_is w.client w.manager items shown
  after_shown w h items shown (event ∷ list) allowed =
      let one = step w event in
      let here = All-head IsAllowed event list allowed in
      let rest = flat_map (λ (things : List SeenItem). things) (report one.after list) in
      subst (Shown (after one.after list).client (after one.after list).manager) (append_assoc items one.seen rest)
      (after_shown one.after (step_sound below setup w h event here) (items ++ one.seen) (step_shown w h items shown event here) list (All-tail IsAllowed event list allowed))

shows_at : (o : Option PlainManager) (items : List Inward) → ShownAt o items → items ≡ inward_at o
shows_at None items is = is
shows_at (Some m) items is = is.are

-- from the beginning of a world on
pub all_shown : (below : Below) (setup : ClientSetup) (w : PlainWorld) → IsSound setup w → w.manager ≡ None → w.client.handed_out ≡ 0 → (list : List WorldEvent) → All IsAllowed list
    → ShowsAll (after w list) (flat_map (λ (things : List SeenItem). things) (report w list))
all_shown below setup w h none nothing list allowed =
    let start : Shown w.client w.manager [] = record {
      handed = sym (ap (λ (n : ℕ). take n (deliverable w.client)) nothing);
      inward = subst (λ (o : Option PlainManager). ShownAt o []) (sym none) refl;
    } in
    let shown = after_shown below setup w h [] start list allowed in
    record { inward_is = shows_at (after w list).manager _ shown.inward; handed_is = shown.handed }
