-- What is seen of an event counts what it did.
use Rattle.std.proofs.Common.{◌≡◌, ℕ, zero, suc, ◌+◌, ◌≤◌, Bool, true, false, List, [], ◌∷◌, ◌++◌, Option, Some, None, length, map, slice_get, cond, refl, sym, ◌∙◌, ap, subst, arith, length-append, if◌then◌else◌}
use Rattle.std.specs.Prelude.{IsTrue, nat_lt}
use Rattle.std.specs.List.{count_by}
use Rattle.std.proofs.lemmas.List.{length-drop}
use Rattle.std.proofs.lemmas.List.Sums.{sum_by-append, sum_by-cons}
use Rattle.bosh_types.specs.ById.{at_id}
use Rattle.bosh_types.specs.declared.condition.Condition.{Condition}
use Rattle.bosh_types.specs.declared.condition.Condition.TheVariants.{BadRequest, HostUnknown, ImproperAddressing}
use Rattle.bosh_types.specs.declared.ending.Closing.{Closing}
use Rattle.bosh_types.specs.Limits.{most_streams}
use Rattle.session_attrs.specs.declared.admission.Admitted.{Admitted}
use Rattle.session_attrs.specs.declared.admission.Admitted.TheVariants as admitted
use Rattle.session_attrs.specs.declared.request.Creation.{Creation}
use Rattle.session_attrs.specs.declared.request.Kind.{Kind}
use Rattle.session_attrs.specs.declared.request.Kind.TheVariants as kinds
use Rattle.session_attrs.specs.declared.request.Request.{Request}
use Rattle.session_attrs.specs.Admission.{admitted_of}
use Rattle.session_core.specs.declared.replies.Taken.{Taken}
use Rattle.session_core.specs.declared.replies.Taken.TheVariants as takings
use Rattle.session_core.specs.Copy.{unnamed}
use Rattle.session_core.specs.Machine.{back, back_closed}
use Rattle.session_journal.specs.Entries.{request_in}
use Rattle.session_laws.proofs.Tests.{split}
use Rattle.bosh_client.specs.declared.outgoing.Outgoing.{Outgoing}
use Rattle.bosh_client.specs.declared.outgoing.Outgoing.TheVariants as outgoing
use Rattle.bosh_client.specs.declared.replies.ClientEnd.{ClientEnd}
use Rattle.bosh_client.specs.declared.replies.Queued.{Queued}
use Rattle.bosh_client.specs.declared.replies.Queued.TheVariants as queueings
use Rattle.bosh_client.specs.Machine.{accept, add, allows_pause, answer, close_stream, has_stream, is_full, is_over, next_made, next_request, pause, put, put_for, put_on, restart, terminate, with_answer, with_request}
use Rattle.bosh_client.specs.Outgoing.{is_stanza}
use Rattle.bosh_client.specs.PlainClient.{PlainClient, deliverable, end_of, lowest, streams}
use Rattle.bosh_client.specs.Promises.{Begins}
use Rattle.bosh_client.specs.Requests.{agreed}
use Rattle.bosh_client.specs.Runs as calls
use Rattle.world_laws.specs.declared.event.WorldEvent.{WorldEvent}
use Rattle.world_laws.specs.declared.event.WorldEvent.TheVariants as events
use Rattle.world_laws.specs.declared.seen.SeenItem.{SeenItem}
use Rattle.world_laws.specs.declared.seen.SeenItem.TheVariants as seen
use Rattle.world_laws.specs.declared.seen.Word.{Word}
use Rattle.world_laws.specs.declared.seen.Word.TheVariants as words
use Rattle.world_laws.specs.declared.told.Told.{Told}
use Rattle.world_laws.specs.declared.told.Told.TheVariants as tells
use Rattle.world_laws.specs.Manager.{PlainManager, Turn, arrives, gives, opens, passes, refusal_to, session, shuts}
use Rattle.world_laws.specs.Setup.{IsAllowed}
use Rattle.world_laws.specs.Steps.{Step, admits, all_handed, at, carried, carries_to, comes, ended_seen, gives_to, got, host_of, left_of, numbered, opening, passes_to, queues, refusals, refuses, returned, returns, returns_to, sends, shuts_to, step, taken_refusals, turns}
use Rattle.world_laws.specs.Sums.{given_sum, is_inward_stanza}
use Rattle.world_laws.specs.World.{PlainWorld}
use Rattle.world_laws.proofs.Below.{Below}
use Rattle.world_laws.proofs.ClientLemmas.{answer_by, next_by}
use Rattle.world_laws.proofs.RequestLemmas.{given_read}
use Rattle.world_laws.proofs.SeenLemmas.{passed_told}
use Rattle.two_ends.specs.Serves.{serves}
use Rattle.two_ends.specs.Summed.{given_by, given_since, is_got, is_passed_stanza, is_refused, put_by, unless_refused}
use Rattle.two_ends.specs.Counting.{Grows, IsMadeEnd, IsPassedOn}
use Rattle.two_ends.proofs.GivenLemmas.{taken_one}
use Rattle.two_ends.proofs.OpenLemmas.{may_open}
use Rattle.two_ends.proofs.TurnSums.{TurnGrows, arrives_grows, gives_grows, opens_grows, passes_grows, shuts_grows}

-- Counting what is seen.

passed-append : (one other : List SeenItem) → count_by is_passed_stanza (one ++ other) ≡ count_by is_passed_stanza one + count_by is_passed_stanza other
passed-append one other = sum_by-append (λ x. cond (is_passed_stanza x) 1 0) one other

got-append : (one other : List SeenItem) → count_by is_got (one ++ other) ≡ count_by is_got one + count_by is_got other
got-append one other = sum_by-append (λ x. cond (is_got x) 1 0) one other

unless_none : (items : List SeenItem) → unless_refused items 0 ≡ 0
unless_none items = by (is_refused items) 0
  where
    by : (b : Bool) (n : ℕ) → (if b then n else n) ≡ n
    by true n = refl
    by false n = refl

same_given : (o : Option PlainManager) (greeting : List (List ℕ)) (given : ℕ) → given_since o o greeting given ≡ given
same_given None greeting given = refl
same_given (Some m) greeting given = refl

-- a manager that nothing came to
none_given : (o : Option PlainManager) (greeting : List (List ℕ)) (items : List SeenItem) → given_sum o ≡ given_sum o + unless_refused items (given_since o o greeting 0)
none_given o greeting items = omega (arith, ap (unless_refused items) (same_given o greeting 0), unless_none items)

-- what a manager tells
numbered_passed : (count : ℕ) (told : List Told) → count_by is_passed_stanza (numbered count told) ≡ count_by is_inward_stanza (passed_told told)
numbered_passed count [] = refl
numbered_passed count (tells.Passed item ∷ told) =
    sum_by-cons (λ x. cond (is_passed_stanza x) 1 0) (seen.In item) (numbered count told)
    ∙ ap (λ (n : ℕ). cond (is_inward_stanza item) 1 0 + n) (numbered_passed count told)
    ∙ sym (sum_by-cons (λ x. cond (is_inward_stanza x) 1 0) item (passed_told told))
numbered_passed count (tells.Answer rid body ∷ told) = omega (arith, sum_by-cons (λ x. cond (is_passed_stanza x) 1 0) (seen.Ans (count + 1) rid body) (numbered (count + 1) told), numbered_passed (count + 1) told)
numbered_passed count (tells.Gone rid ∷ told) = omega (arith, sum_by-cons (λ x. cond (is_passed_stanza x) 1 0) (seen.Gone rid) (numbered count told), numbered_passed count told)
numbered_passed count (tells.Over ending ∷ told) = omega (arith, sum_by-cons (λ x. cond (is_passed_stanza x) 1 0) (seen.Over ending) (numbered count told), numbered_passed count told)

numbered_got : (count : ℕ) (told : List Told) → count_by is_got (numbered count told) ≡ 0
numbered_got count [] = refl
numbered_got count (tells.Passed item ∷ told) = omega (arith, sum_by-cons (λ x. cond (is_got x) 1 0) (seen.In item) (numbered count told), numbered_got count told)
numbered_got count (tells.Answer rid body ∷ told) = omega (arith, sum_by-cons (λ x. cond (is_got x) 1 0) (seen.Ans (count + 1) rid body) (numbered (count + 1) told), numbered_got (count + 1) told)
numbered_got count (tells.Gone rid ∷ told) = omega (arith, sum_by-cons (λ x. cond (is_got x) 1 0) (seen.Gone rid) (numbered count told), numbered_got count told)
numbered_got count (tells.Over ending ∷ told) = omega (arith, sum_by-cons (λ x. cond (is_got x) 1 0) (seen.Over ending) (numbered count told), numbered_got count told)

not_refused : (count : ℕ) (told : List Told) (given : ℕ) → unless_refused (numbered count told) given ≡ given
not_refused count [] given = refl
not_refused count (tells.Passed item ∷ told) given = refl
not_refused count (tells.Answer rid body ∷ told) given = refl
not_refused count (tells.Gone rid ∷ told) given = refl
not_refused count (tells.Over ending ∷ told) given = refl

-- what the client hands out
all_got : (payloads : List (ℕ × List ℕ)) → count_by is_got (map got payloads) ≡ length payloads
all_got [] = refl
all_got ((zero, stanza) ∷ payloads) = omega (arith, sum_by-cons (λ x. cond (is_got x) 1 0) (seen.Got stanza) (map got payloads), all_got payloads)
all_got ((suc stream, stanza) ∷ payloads) =
    omega (arith, sum_by-cons (λ x. cond (is_got x) 1 0) (seen.GotOn (suc stream) stanza) (map got payloads), all_got payloads)

none_passed : (payloads : List (ℕ × List ℕ)) → count_by is_passed_stanza (map got payloads) ≡ 0
none_passed [] = refl
none_passed ((zero, stanza) ∷ payloads) =
    omega (arith, sum_by-cons (λ x. cond (is_passed_stanza x) 1 0) (seen.Got stanza) (map got payloads), none_passed payloads)
none_passed ((suc stream, stanza) ∷ payloads) =
    omega (arith, sum_by-cons (λ x. cond (is_passed_stanza x) 1 0) (seen.GotOn (suc stream) stanza) (map got payloads), none_passed payloads)

-- nothing is passed on or handed out
record Quiet (items : List SeenItem) : Type 0 where
  passed : count_by is_passed_stanza items ≡ 0
  got : count_by is_got items ≡ 0

end_quiet : (before end : Option ClientEnd) → Quiet (ended_seen before end)
end_quiet (Some b) end = record { passed = refl; got = refl }
end_quiet None None = record { passed = refl; got = refl }
end_quiet None (Some e) = record { passed = refl; got = refl }

queue_quiet : (word : Word) (queued : Queued) → Quiet (refusals word queued)
queue_quiet word queueings.Done = record { passed = refl; got = refl }
queue_quiet word queueings.Over = record { passed = refl; got = refl }
queue_quiet word queueings.Full = record { passed = refl; got = refl }
queue_quiet word queueings.NoStream = record { passed = refl; got = refl }
queue_quiet word queueings.TooLong = record { passed = refl; got = refl }

taken_quiet : (word : Word) (taken : Taken) → Quiet (taken_refusals word taken)
taken_quiet word takings.Done = record { passed = refl; got = refl }
taken_quiet word takings.Full = record { passed = refl; got = refl }
taken_quiet word takings.Over = record { passed = refl; got = refl }

given_unless : (word : Word) (taken : Taken) (count : ℕ) (told : List Told) → unless_refused (taken_refusals word taken ++ numbered count told) 1 ≡ taken_one taken
given_unless word takings.Done count told = not_refused count told 1
given_unless word takings.Full count told = refl
given_unless word takings.Over count told = refl

-- The client.

module _ (w : PlainWorld) (passed : IsPassedOn w.manager) where
  abbrev GrowsHere : ℕ → ℕ → Step → Type 0
  GrowsHere put given s = Grows w.client w.manager w.greeting put given s

  -- a step of the client
  by_client : (c : PlainClient) (items : List SeenItem) (put : ℕ) → count_by is_stanza c.accepted ≡ count_by is_stanza w.client.accepted + unless_refused items put
      → count_by is_passed_stanza items ≡ 0 → c.handed_out ≡ w.client.handed_out + count_by is_got items → GrowsHere put 0 (record { seen = items; after = record w { client = c } })
  by_client c items put put_is none got_is = record {
    put_is = put_is;
    inward_is = omega (arith, none);
    given_is = none_given w.manager w.greeting items;
    got_is = got_is;
    passed_is = passed;
  }

  -- nothing is done
  kept : (items : List SeenItem) (given : ℕ) → Quiet items → unless_refused items given ≡ 0 → GrowsHere 0 given (record { seen = items; after = w })
  kept items given q none = record {
    put_is = omega (arith, unless_none items);
    inward_is = omega (arith, q.passed);
    given_is = omega (arith, ap (unless_refused items) (same_given w.manager w.greeting given), none);
    got_is = omega (arith, q.got);
    passed_is = passed;
  }

  abbrev Queues : Word → ℕ → PlainClient × Queued → Type 0
  Queues word put p = GrowsHere put 0 (queues w word p)

  refused : (word : Word) (queued : Queued) (put : ℕ) → unless_refused (refusals word queued) put ≡ 0 → Queues word put (w.client, queued)
  refused word queued put none =
      let q = queue_quiet word queued in
      by_client w.client (refusals word queued) put (omega (arith, none)) q.passed (omega (arith, q.got))

  accepted : (word : Word) (item : Outgoing) (put : ℕ) → cond (is_stanza item) 1 0 ≡ put → Queues word put (accept w.client item)
  accepted word item put one =
      by_client (accept w.client item).0 [] put
      (omega (arith, sum_by-append (λ x. cond (is_stanza x) 1 0) w.client.accepted (item ∷ []), one)) refl (omega arith)

  put_for_grows : (word : Word) (on : Option ℕ) (stanza : List ℕ) → Queues word 1 (put_for w.client on stanza)
  put_for_grows word on stanza =
      split (Queues word 1) (is_full w.client) _ _ (λ _. refused word queueings.Full 1 refl) (λ _. accepted word (outgoing.Stanza on stanza) 1 refl)

  put_grows : (stanza : List ℕ) → Queues words.Put 1 (put w.client stanza)
  put_grows stanza = split (Queues words.Put 1) (is_over w.client) _ _ (λ _. refused words.Put queueings.Over 1 refl) (λ _. put_for_grows words.Put None stanza)

  put_on_grows : (stream : ℕ) (stanza : List ℕ) → Queues words.PutOn 1 (put_on w.client stream stanza)
  put_on_grows stream stanza =
      split (Queues words.PutOn 1) (is_over w.client) _ _ (λ _. refused words.PutOn queueings.Over 1 refl)
      (λ _. split (Queues words.PutOn 1) (has_stream w.client stream) _ _ (λ _. put_for_grows words.PutOn (Some stream) stanza)
      (λ _. refused words.PutOn queueings.NoStream 1 refl))

  add_grows : (to : List ℕ) → Queues words.Add 0 (add w.client to)
  add_grows to =
      split (Queues words.Add 0) (is_over w.client) _ _ (λ _. refused words.Add queueings.Over 0 refl)
      (λ _. split (Queues words.Add 0) (nat_lt (streams w.client).opened most_streams) _ _ (λ _. accepted words.Add (outgoing.Add to) 0 refl)
      (λ _. refused words.Add queueings.Full 0 refl))

  stop_on_grows : (stream : ℕ) → Queues words.StopOn 0 (close_stream w.client stream)
  stop_on_grows stream =
      split (Queues words.StopOn 0) (is_over w.client) _ _ (λ _. refused words.StopOn queueings.Over 0 refl)
      (λ _. split (Queues words.StopOn 0) (has_stream w.client stream) _ _ (λ _. accepted words.StopOn (outgoing.Close stream) 0 refl)
      (λ _. refused words.StopOn queueings.NoStream 0 refl))

  restart_grows : Queues words.Restart 0 (restart w.client)
  restart_grows = split (Queues words.Restart 0) (is_over w.client) _ _ (λ _. refused words.Restart queueings.Over 0 refl) (λ _. accepted words.Restart outgoing.Restart 0 refl)

  stop_grows : Queues words.Stop 0 (terminate w.client)
  stop_grows = split (Queues words.Stop 0) (is_over w.client) _ _ (λ _. refused words.Stop queueings.Over 0 refl) (λ _. accepted words.Stop outgoing.Terminate 0 refl)

  pause_grows : (seconds : ℕ) → Queues words.Pause 0 (pause w.client seconds)
  pause_grows seconds =
      split (Queues words.Pause 0) (is_over w.client) _ _ (λ _. refused words.Pause queueings.Over 0 refl)
      (λ _. split (Queues words.Pause 0) (allows_pause (agreed w.client) seconds) _ _ (λ _. accepted words.Pause (outgoing.Pause seconds) 0 refl) (λ _. refused words.Pause queueings.TooLong 0 refl))

  send_grows : GrowsHere 0 0 (sends w (next_request w.client w.moment))
  send_grows = next_by w.client w.moment (λ p. GrowsHere 0 0 (sends w p)) (kept _ 0 (record { passed = refl; got = refl }) refl) (kept _ 0 (record { passed = refl; got = refl }) refl)
      (record { put_is = omega arith; inward_is = omega arith; given_is = none_given w.manager w.greeting (sends w (with_request w.client (next_made w.client (agreed w.client)))).seen; got_is = omega arith; passed_is = passed })

  begins_long : {X : Type 0} (xs ys : List X) → Begins xs ys → length xs ≤ length ys
  begins_long xs ys b = omega (arith, ap length b.1, length-append xs b.0)

  return_grows : (below : Below) → w.client.handed_out ≤ length (deliverable w.client) → (rid : ℕ) (body : List ℕ) → GrowsHere 0 0 (returned w rid (answer w.client rid body w.moment))
  return_grows below within rid body =
      answer_by w.client rid body w.moment (λ p. Begins (deliverable w.client) (deliverable p.0) → GrowsHere 0 0 (returned w rid p))
      (λ begins. kept [] 0 (record { passed = refl; got = refl }) refl)
      (λ begins. kept (seen.Stale rid ∷ []) 0 (record { passed = refl; got = refl }) refl)
      (λ begins. kept (seen.Again (lowest w.client) rid ∷ []) 0 (record { passed = refl; got = refl }) refl)
      (λ why begins. kept (seen.Broken rid ∷ []) 0 (record { passed = refl; got = refl }) refl)
      (λ t same begins.
      let c : PlainClient = with_answer w.client rid t in
      let end = ended_seen (end_of w.client) (end_of c) in
      let q = end_quiet (end_of w.client) (end_of c) in
      let items = map got (left_of c) ++ end in
      let longer = begins_long (deliverable w.client) (deliverable c) begins in
      by_client (all_handed c) items 0 (omega (arith, unless_none items))
      (omega (arith, passed-append (map got (left_of c)) end, none_passed (left_of c), q.passed))
      (omega (arith, got-append (map got (left_of c)) end, all_got (left_of c), q.got, length-drop c.handed_out (deliverable c), within, longer)))
      (below.grows w.client (calls.Answer rid body w.moment ∷ []))

  returns_grow : (below : Below) → w.client.handed_out ≤ length (deliverable w.client) → (number : ℕ) → GrowsHere 0 0 (returns w number)
  returns_grow below within zero = kept (seen.NoCopy ∷ []) 0 (record { passed = refl; got = refl }) refl
  returns_grow below within (suc index) = by (slice_get w.written index)
    where
      by : (o : Option (ℕ × List ℕ)) → GrowsHere 0 0 (returns_to w o)
      by None = kept (seen.NoCopy ∷ []) 0 (record { passed = refl; got = refl }) refl
      by (Some (rid, body)) = return_grows below within rid body

-- The manager.

module _ (w : PlainWorld) (o : Option PlainManager) where
  -- a turn of the manager
  by_turn : (first : List SeenItem) (turn : Turn) (given after_given : ℕ) → Quiet first → TurnGrows o after_given turn
      → after_given ≡ given_sum o + unless_refused (first ++ numbered (length w.written) turn.told) (given_since o (Some turn.after) w.greeting given)
      → Grows w.client o w.greeting 0 given (turns w first turn)
  by_turn first turn given after_given q grows given_are =
      let told = numbered (length w.written) turn.told in
      record {
        put_is = omega (arith, unless_none (first ++ told));
        inward_is = omega (arith, grows.inward_is, passed-append first told, q.passed, numbered_passed (length w.written) turn.told);
        given_is = grows.given_is ∙ given_are;
        got_is = omega (arith, got-append first told, q.got, numbered_got (length w.written) turn.told);
        passed_is = grows.passed_is;
      }

module _ (below : Below) (w : PlainWorld) where
  quiet_none : Quiet []
  quiet_none = record { passed = refl; got = refl }

  same_sum : (m : PlainManager) (items : List SeenItem) → given_sum (Some m) ≡ given_sum (Some m) + unless_refused items 0
  same_sum m items = omega (arith, unless_none items)

  none_done : (items : List SeenItem) (given : ℕ) → Quiet items → unless_refused items given ≡ 0 → Grows w.client None w.greeting 0 given (record { seen = items; after = record w { manager = None } })
  none_done items given q none = record {
    put_is = omega (arith, unless_none items);
    inward_is = omega (arith, q.passed);
    given_is = omega (arith, none);
    got_is = omega (arith, q.got);
    passed_is = tt;
  }

  passes_to_grow : (o : Option PlainManager) → w.manager ≡ o → IsMadeEnd o → IsPassedOn o → Grows w.client o w.greeting 0 0 (passes_to w o)
  passes_to_grow None is made passed = subst (λ (m : Option PlainManager). Grows w.client None w.greeting 0 0 (record { seen = []; after = record w { manager = m } })) (sym is) (none_done [] 0 quiet_none refl)
  passes_to_grow (Some m) is made passed = by_turn w (Some m) [] (passes m w.moment) 0 _ quiet_none (passes_grows below m made passed w.moment) (same_sum m _)

  gives_to_grow : (stream : ℕ) (stanza : List ℕ) → IsAllowed (events.GiveOn stream stanza) → (o : Option PlainManager) → w.manager ≡ o → IsMadeEnd o → IsPassedOn o → Grows w.client o w.greeting 0 1 (gives_to w stream stanza o)
  gives_to_grow stream stanza allowed None is made passed =
      subst (λ (m : Option PlainManager). Grows w.client None w.greeting 0 1 (record { seen = seen.RefusedOver words.Give ∷ []; after = record w { manager = m } })) (sym is)
      (none_done (seen.RefusedOver words.Give ∷ []) 1 (record { passed = refl; got = refl }) refl)
  gives_to_grow stream stanza allowed (Some m) is made passed =
      let taken = (back (session m) stream stanza w.moment).1 in
      by_turn w (Some m) (taken_refusals words.Give taken) (gives m stream stanza w.moment) 1 _ (taken_quiet words.Give taken) (gives_grows below m made passed stream stanza w.moment allowed)
      (ap (λ (n : ℕ). given_sum (Some m) + n) (sym (given_unless words.Give taken (length w.written) (gives m stream stanza w.moment).told)))

  shuts_to_grow : (stream : ℕ) (closing : Closing) (o : Option PlainManager) → w.manager ≡ o → IsMadeEnd o → IsPassedOn o → Grows w.client o w.greeting 0 0 (shuts_to w stream closing o)
  shuts_to_grow stream closing None is made passed =
      subst (λ (m : Option PlainManager). Grows w.client None w.greeting 0 0 (record { seen = seen.RefusedOver words.Shut ∷ []; after = record w { manager = m } })) (sym is)
      (none_done (seen.RefusedOver words.Shut ∷ []) 0 (record { passed = refl; got = refl }) refl)
  shuts_to_grow stream closing (Some m) is made passed =
      let taken = (back_closed (session m) stream closing w.moment).1 in
      by_turn w (Some m) (taken_refusals words.Shut taken) (shuts m stream closing w.moment) 0 _ (taken_quiet words.Shut taken) (shuts_grows below m made passed stream closing w.moment) (same_sum m _)

  refuses_grow : (o : Option PlainManager) → w.manager ≡ o → IsPassedOn o → (rid : ℕ) (condition : Condition) → Grows w.client o w.greeting 0 0 (refuses w rid condition)
  refuses_grow o is passed rid condition =
      subst (λ (m : Option PlainManager). Grows w.client m w.greeting 0 0 (refuses w rid condition)) is
      (let items = numbered (length w.written) (refusal_to rid condition ∷ []) in
      let k = kept w (subst IsPassedOn (sym is) passed) items 0 (record { passed = refl; got = refl }) refl in
      record { put_is = k.put_is; inward_is = k.inward_is; given_is = k.given_is; got_is = k.got_is; passed_is = k.passed_is })

  admits_grow : IsTrue (serves w.host w.greeting) → (body : List ℕ) (request : Request) (creation : Creation) → request_in body ≡ Some request → request.kind ≡ kinds.Creation creation → w.manager ≡ None
      → (a : Admitted) → Grows w.client None w.greeting 0 0 (admits w body request creation a)
  admits_grow served body request creation read kind is (admitted.Host place) =
      let opens_at = opening w request body creation in
      let turn = opens opens_at in
      by_turn w None [] turn 0 (length w.greeting) quiet_none
      (opens_grows below opens_at (may_open w.host w.greeting request creation body body _ _ w.moment served read kind refl refl refl))
      (omega (arith, not_refused (length w.written) turn.told (length w.greeting)))
  admits_grow served body request creation read kind is admitted.Improper = refuses_grow None is tt request.rid ImproperAddressing
  admits_grow served body request creation read kind is admitted.Unknown = refuses_grow None is tt request.rid HostUnknown

  comes_grows : IsTrue (serves w.host w.greeting) → (body : List ℕ) (request : Request) → request_in body ≡ Some request → (kind : Kind) → request.kind ≡ kind
      → (o : Option PlainManager) → w.manager ≡ o → IsMadeEnd o → IsPassedOn o → Grows w.client o w.greeting 0 0 (comes w body request kind o)
  comes_grows served body request read (kinds.Creation creation) kind None is made passed = admits_grow served body request creation read kind is (admitted_of request.to (host_of w ∷ []))
  comes_grows served body request read (kinds.Creation creation) kind (Some m) is made passed =
      subst (λ (o : Option PlainManager). Grows w.client o w.greeting 0 0 (record { seen = seen.Dup request.rid ∷ []; after = w })) is
      (kept w (subst IsPassedOn (sym is) passed) (seen.Dup request.rid ∷ []) 0 (record { passed = refl; got = refl }) refl)
  comes_grows served body request read (kinds.Later sid) kind None is made passed =
      subst (λ (o : Option PlainManager). Grows w.client o w.greeting 0 0 (record { seen = []; after = w })) is (kept w (subst IsPassedOn (sym is) passed) [] 0 quiet_none refl)
  comes_grows served body request read (kinds.Later sid) kind (Some m) is made passed =
      by_turn w (Some m) [] (arrives m request body w.moment) 0 _ quiet_none (arrives_grows below m made passed request body w.moment (given_read body request read, (sid, kind))) (same_sum m _)

  module _ (served : IsTrue (serves w.host w.greeting)) (made : IsMadeEnd w.manager) (passed : IsPassedOn w.manager) (within : w.client.handed_out ≤ length (deliverable w.client)) where
    carried_grows : (rid : ℕ) (body : List ℕ) (o : Option Request) → request_in body ≡ o → Grows w.client w.manager w.greeting 0 0 (carried w rid body o)
    carried_grows rid body None gives = refuses_grow w.manager refl passed rid BadRequest
    carried_grows rid body (Some request) gives = comes_grows served body request gives request.kind refl w.manager refl made passed

    carries_to_grow : (rid : ℕ) (o : Option (List ℕ)) → Grows w.client w.manager w.greeting 0 0 (carries_to w rid o)
    carries_to_grow rid None = kept w passed (seen.NoCopy ∷ []) 0 (record { passed = refl; got = refl }) refl
    carries_to_grow rid (Some body) = carried_grows rid body (request_in body) refl

-- an event
pub step_grows : (below : Below) (w : PlainWorld) → IsTrue (serves w.host w.greeting) → IsMadeEnd w.manager → IsPassedOn w.manager → w.client.handed_out ≤ length (deliverable w.client)
    → (event : WorldEvent) → IsAllowed event → Grows w.client w.manager w.greeting (put_by event) (given_by event) (step w event)
step_grows below w served made passed within (events.At moment) allowed = passes_to_grow below (at w moment) w.manager refl made passed
step_grows below w served made passed within (events.Put stanza) allowed = put_grows w passed stanza
step_grows below w served made passed within (events.PutOn stream stanza) allowed = put_on_grows w passed stream stanza
step_grows below w served made passed within (events.Add to) allowed = add_grows w passed to
step_grows below w served made passed within (events.StopOn stream) allowed = stop_on_grows w passed stream
step_grows below w served made passed within events.Restart allowed = restart_grows w passed
step_grows below w served made passed within (events.Pause seconds) allowed = pause_grows w passed seconds
step_grows below w served made passed within events.Stop allowed = stop_grows w passed
step_grows below w served made passed within events.Send allowed = send_grows w passed
step_grows below w served made passed within (events.Carry rid) allowed = carries_to_grow below w served made passed within rid (at_id w.sent rid)
step_grows below w served made passed within (events.Give stanza) allowed = gives_to_grow below w unnamed stanza allowed w.manager refl made passed
step_grows below w served made passed within (events.GiveOn stream stanza) allowed = gives_to_grow below w stream stanza allowed w.manager refl made passed
step_grows below w served made passed within (events.Shut closing) allowed = shuts_to_grow below w unnamed closing w.manager refl made passed
step_grows below w served made passed within (events.ShutOn stream closing) allowed = shuts_to_grow below w stream closing w.manager refl made passed
step_grows below w served made passed within (events.Return number) allowed = returns_grow w passed below within number
