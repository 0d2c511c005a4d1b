-- A client that is asked to send nothing on one stream alone names none.
use Rattle.std.proofs.Common.{◌≡◌, ℕ, zero, suc, ◌==◌, ◌&&◌, Bool, true, false, cond, List, [], ◌∷◌, ◌++◌, drop, take, Option, Some, None, slice_get, refl, sym, ◌∙◌, ap, subst}
use Rattle.std.specs.Prelude.{All, IfSome, is_none, nat_lt}
use Rattle.std.specs.List.{find, list_all}
use Rattle.std.proofs.lemmas.Bool.{and_parts}
use Rattle.std.proofs.lemmas.List.Elements.{All-head, All-tail}
use Rattle.std.proofs.lemmas.List.Folds.{list_all-append}
use Rattle.bosh_types.specs.Limits.{most_streams}
use Rattle.bosh_types.specs.declared.ending.Closing.{Closing}
use Rattle.bosh_types.specs.declared.ending.Ending.{Ending}
use Rattle.bosh_types.specs.declared.ending.Ending.TheVariants as endings
use Rattle.session_attrs.specs.declared.admission.Admitted.{Admitted}
use Rattle.session_attrs.specs.declared.admission.Admitted.TheVariants as admitted
use Rattle.session_attrs.specs.declared.request.Creation.{Creation}
use Rattle.session_attrs.specs.declared.request.Kind.{Kind}
use Rattle.session_attrs.specs.declared.request.Kind.TheVariants as kinds
use Rattle.session_attrs.specs.declared.request.Request.{Request}
use Rattle.session_attrs.specs.Admission.{admitted_of}
use Rattle.session_core.specs.declared.replies.Ticked.{Ticked}
use Rattle.session_core.specs.State.{PlainSession}
use Rattle.session_journal.specs.Entries.{request_in}
use Rattle.session_laws.proofs.Tests.{split, true_false}
use Rattle.bosh_client.specs.declared.outgoing.Outgoing.{Outgoing}
use Rattle.bosh_client.specs.declared.outgoing.Outgoing.TheVariants as outgoing
use Rattle.bosh_client.specs.declared.replies.Queued.{Queued}
use Rattle.bosh_client.specs.declared.replies.Queued.TheVariants as queueings
use Rattle.bosh_client.specs.declared.setup.ClientSetup.{ClientSetup}
use Rattle.bosh_client.specs.Machine.{accept, add, allows_pause, answer, is_full, is_over, new_client, next_request, pause, put, put_for, restart, terminate}
use Rattle.bosh_client.specs.Outgoing.{stream_in, stream_of}
use Rattle.bosh_client.specs.PlainClient.{Made, PlainClient, id_of, items_made, queued, request_at, streams}
use Rattle.bosh_client.specs.Promises.{Carries}
use Rattle.bosh_client.specs.Requests.{agreed}
use Rattle.bosh_client.proofs.RunLemmas.{client_is}
use Rattle.world_laws.specs.declared.event.WorldEvent.{WorldEvent}
use Rattle.world_laws.specs.declared.event.WorldEvent.TheVariants as events
use Rattle.world_laws.specs.Complete.{EndsFaultless, EndsWell, IsFaultless, IsLeft, NamesClosed, NamesNone}
use Rattle.world_laws.specs.Manager.{PlainManager, session}
use Rattle.world_laws.specs.Sound.{IsSound}
use Rattle.world_laws.specs.Steps.{admits, after, at, carried, carries_to, comes, gives_to, host_of, passes_to, returned, returns, returns_to, sends, shuts_to, step}
use Rattle.world_laws.specs.World.{PlainWorld}
use Rattle.world_laws.proofs.Below.{Below}
use Rattle.world_laws.proofs.ClientLemmas.{answer_by, next_by}
use Rattle.world_laws.proofs.PlaceLemmas.{all_at}
use Rattle.world_laws.proofs.PrefixLemmas.{taken_by}
use Rattle.world_laws.proofs.StoodLemmas.{all_carry}
use Rattle.world_laws.proofs.UnknownLemmas.{taken_split}

-- all that was accepted is for all streams, or for the session
abbrev is_unnamed : Outgoing → Bool
is_unnamed item = is_none (stream_of item)

abbrev pub Unnamed : PlainClient → Type 0
Unnamed c = list_all is_unnamed c.accepted ≡ true

pub new_unnamed : (setup : ClientSetup) → Unnamed (new_client setup)
new_unnamed setup = refl

accepts : (c : PlainClient) (item : Outgoing) → is_unnamed item ≡ true → Unnamed c → Unnamed (accept c item).0
accepts c item is h =
    let one : list_all is_unnamed (item ∷ []) ≡ true = ap (λ (b : Bool). b && true) is in
    list_all-append is_unnamed c.accepted (item ∷ []) ∙ (λ i. h i && one i)

put_unnamed : (c : PlainClient) (stanza : List ℕ) → Unnamed c → Unnamed (put c stanza).0
put_unnamed c stanza h =
    let Q : PlainClient × Queued → Type 0 = λ p. Unnamed p.0 in
    split Q (is_over c) (c, queueings.Over) (put_for c None stanza) (λ _. h)
    (λ _. split Q (is_full c) (c, queueings.Full) (accept c (outgoing.Stanza None stanza)) (λ _. h) (λ _. accepts c (outgoing.Stanza None stanza) refl h))

add_unnamed : (c : PlainClient) (to : List ℕ) → Unnamed c → Unnamed (add c to).0
add_unnamed c to h =
    let Q : PlainClient × Queued → Type 0 = λ p. Unnamed p.0 in
    split Q (is_over c) (c, queueings.Over) _ (λ _. h)
    (λ _. split Q (nat_lt (streams c).opened most_streams) (accept c (outgoing.Add to)) (c, queueings.Full) (λ _. accepts c (outgoing.Add to) refl h) (λ _. h))

restart_unnamed : (c : PlainClient) → Unnamed c → Unnamed (restart c).0
restart_unnamed c h = split (λ (p : PlainClient × Queued). Unnamed p.0) (is_over c) (c, queueings.Over) (accept c outgoing.Restart) (λ _. h) (λ _. accepts c outgoing.Restart refl h)

terminate_unnamed : (c : PlainClient) → Unnamed c → Unnamed (terminate c).0
terminate_unnamed c h = split (λ (p : PlainClient × Queued). Unnamed p.0) (is_over c) (c, queueings.Over) (accept c outgoing.Terminate) (λ _. h) (λ _. accepts c outgoing.Terminate refl h)

pause_unnamed : (c : PlainClient) (seconds : ℕ) → Unnamed c → Unnamed (pause c seconds).0
pause_unnamed c seconds h =
    let Q : PlainClient × Queued → Type 0 = λ p. Unnamed p.0 in
    split Q (is_over c) (c, queueings.Over) _ (λ _. h)
    (λ _. split Q (allows_pause (agreed c) seconds) (accept c (outgoing.Pause seconds)) (c, queueings.TooLong) (λ _. accepts c (outgoing.Pause seconds) refl h) (λ _. h))

-- What happens at the manager changes nothing of the client.

passes_same : (w : PlainWorld) (o : Option PlainManager) → Unnamed w.client → Unnamed (passes_to w o).after.client
passes_same w None h = h
passes_same w (Some m) h = h

gives_same : (w : PlainWorld) (stream : ℕ) (stanza : List ℕ) (o : Option PlainManager) → Unnamed w.client → Unnamed (gives_to w stream stanza o).after.client
gives_same w stream stanza None h = h
gives_same w stream stanza (Some m) h = h

shuts_same : (w : PlainWorld) (stream : ℕ) (closing : Closing) (o : Option PlainManager) → Unnamed w.client → Unnamed (shuts_to w stream closing o).after.client
shuts_same w stream closing None h = h
shuts_same w stream closing (Some m) h = h

admits_same : (w : PlainWorld) (body : List ℕ) (request : Request) (creation : Creation) (a : Admitted) → Unnamed w.client → Unnamed (admits w body request creation a).after.client
admits_same w body request creation (admitted.Host place) h = h
admits_same w body request creation admitted.Improper h = h
admits_same w body request creation admitted.Unknown h = h

comes_same : (w : PlainWorld) (body : List ℕ) (request : Request) (kind : Kind) (o : Option PlainManager) → Unnamed w.client → Unnamed (comes w body request kind o).after.client
comes_same w body request (kinds.Creation creation) None h = admits_same w body request creation (admitted_of request.to (host_of w ∷ [])) h
comes_same w body request (kinds.Creation creation) (Some m) h = h
comes_same w body request (kinds.Later sid) None h = h
comes_same w body request (kinds.Later sid) (Some m) h = h

carried_same : (w : PlainWorld) (rid : ℕ) (body : List ℕ) (o : Option Request) → Unnamed w.client → Unnamed (carried w rid body o).after.client
carried_same w rid body None h = h
carried_same w rid body (Some request) h = comes_same w body request request.kind w.manager h

carries_same : (w : PlainWorld) (rid : ℕ) (o : Option (List ℕ)) → Unnamed w.client → Unnamed (carries_to w rid o).after.client
carries_same w rid None h = h
carries_same w rid (Some body) h = carried_same w rid body (request_in body) h

returned_same : (w : PlainWorld) (o : Option (ℕ × List ℕ)) → Unnamed w.client → Unnamed (returns_to w o).after.client
returned_same w None h = h
returned_same w (Some (rid, body)) h = answer_by w.client rid body w.moment (λ p. Unnamed (returned w rid p).after.client) h h h (λ why. h) (λ t taken. h)

returns_same : (w : PlainWorld) (number : ℕ) → Unnamed w.client → Unnamed (returns w number).after.client
returns_same w zero h = h
returns_same w (suc index) h = returned_same w (slice_get w.written index) h

-- So it is after each event that asks for nothing on one stream alone.

step_unnamed : (w : PlainWorld) (event : WorldEvent) → NamesNone event → Unnamed w.client → Unnamed (step w event).after.client
step_unnamed w (events.At moment) none h = passes_same (at w moment) w.manager h
step_unnamed w (events.Put stanza) none h = put_unnamed w.client stanza h
step_unnamed w (events.PutOn stream stanza) none h = absurd none
step_unnamed w (events.Add to) none h = add_unnamed w.client to h
step_unnamed w (events.StopOn stream) none h = absurd none
step_unnamed w events.Restart none h = restart_unnamed w.client h
step_unnamed w (events.Pause seconds) none h = pause_unnamed w.client seconds h
step_unnamed w events.Stop none h = terminate_unnamed w.client h
step_unnamed w events.Send none h = next_by w.client w.moment (λ p. Unnamed (sends w p).after.client) h h h
step_unnamed w (events.Carry rid) none h = carries_same w rid _ h
step_unnamed w (events.Give stanza) none h = gives_same w _ stanza w.manager h
step_unnamed w (events.GiveOn stream stanza) none h = gives_same w stream stanza w.manager h
step_unnamed w (events.Shut closing) none h = shuts_same w _ closing w.manager h
step_unnamed w (events.ShutOn stream closing) none h = shuts_same w stream closing w.manager h
step_unnamed w (events.Return number) none h = returns_same w number h

pub after_unnamed : (w : PlainWorld) (list : List WorldEvent) → All NamesNone list → Unnamed w.client → Unnamed (after w list).client
after_unnamed w [] none h = h
after_unnamed w (event ∷ list) none h = after_unnamed (step w event).after list (All-tail NamesNone event list none) (step_unnamed w event (All-head NamesNone event list none) h)

-- A request names no stream then.

found_in : (p : Made → Bool) (xs : List Made) (x : Made) → find p xs ≡ Some x → (k : ℕ) × (slice_get xs k ≡ Some x)
found_in p [] x is = absurd (cc)
found_in p (first ∷ xs) x is = by (p first) is (found_in p xs x)
  where
    by : (b : Bool) → cond b (Some first) (find p xs) ≡ Some x → (find p xs ≡ Some x → (k : ℕ) × (slice_get xs k ≡ Some x)) → (k : ℕ) × (slice_get (first ∷ xs) k ≡ Some x)
    by true is later = (zero, is)
    by false is later =
        let l = later is in
        (suc l.0, l.1)

no_stream : (stream : ℕ) → None ≡ Some stream → ⊥
no_stream stream is = cc

some_none : (stream : ℕ) → is_none (Some stream) ≡ true → ⊥
some_none stream is = true_false (sym is)

first_unnamed : (items others : List Outgoing) (stream : ℕ) → list_all is_unnamed (items ++ others) ≡ true → stream_in items ≡ Some stream → ⊥
first_unnamed [] others stream all names = no_stream stream names
first_unnamed (item ∷ items) others stream all names =
    some_none stream (sym (ap is_none names) ∙ (and_parts (is_unnamed item) (list_all is_unnamed (items ++ others)) all).0)

module _ (below : Below) (setup : ClientSetup) (w : PlainWorld) (h : IsSound setup w) (unnamed : Unnamed w.client) where
  names_none : (s : PlainSession) (rid : ℕ) → NamesClosed w.client s rid → ⊥
  names_none s rid is =
      let c : PlainClient = w.client in
      let place = found_in (λ (r : Made). id_of r == rid) c.requests is.request is.made in
      let carries = all_at Carries c.requests place.0 is.request (all_carry below setup c h.client) place.1 in
      let all : items_made c ++ queued c ≡ c.accepted = subst (λ (d : PlainClient). items_made d ++ queued d ≡ d.accepted) (sym h.client.is) (client_is setup h.client.calls (h.begins.first).0).all in
      let made : list_all is_unnamed (items_made c) ≡ true =
      (and_parts (list_all is_unnamed (items_made c)) (list_all is_unnamed (queued c)) (sym (list_all-append is_unnamed (items_made c) (queued c)) ∙ ap (list_all is_unnamed) all ∙ unnamed)).0 in
      let lower : List Outgoing = taken_by (lower_of place.0) in
      let rest : List Outgoing = taken_by (drop (suc place.0) c.requests) in
      let parts : list_all is_unnamed (lower ++ ((is.request).items ++ rest)) ≡ true = ap (list_all is_unnamed) (sym (taken_split c.requests place.0 is.request place.1)) ∙ made in
      first_unnamed (is.request).items rest is.stream (and_parts (list_all is_unnamed lower) (list_all is_unnamed ((is.request).items ++ rest)) (sym (list_all-append is_unnamed lower ((is.request).items ++ rest)) ∙ parts)).1
      (sym carries.stream ∙ is.names)
    where
      lower_of : ℕ → List Made
      lower_of k = take k w.client.requests

  faultless : (s : PlainSession) (e : Ending) → IsLeft w.client s e → IsFaultless e
  faultless s (endings.Terminated rid) is = tt
  faultless s (endings.Stale rid lowest) is = is
  faultless s (endings.Above rid last requests) is = is
  faultless s (endings.WrongKey rid) is = is
  faultless s (endings.UnknownStream rid) is = names_none s rid is
  faultless s (endings.PauseTooLong rid pause maxpause) is = is
  faultless s (endings.Overactive rid distance) is = is
  faultless s (endings.Silent since now) is = tt
  faultless s (endings.Closed closing rid) is = tt
  faultless s (endings.JournalFull counted cost) is = tt

  pub ends_faultless : EndsWell w.client w.manager → EndsFaultless w.manager
  ends_faultless ends = by w.manager ends
    where
      ending : (s : PlainSession) (o : Option Ending) → IfSome o (IsLeft w.client s) → IfSome o IsFaultless
      ending s None is = tt
      ending s (Some e) is = faultless s e is

      by : (o : Option PlainManager) → EndsWell w.client o → EndsFaultless o
      by None ends = tt
      by (Some m) ends = ending (session m) (session m).ending ends
