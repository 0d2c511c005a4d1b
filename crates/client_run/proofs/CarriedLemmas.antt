-- What a worker's links carried, move by move.
use Rattle.std.proofs.Common.{◌≡◌, ℕ, Bool, true, false, inl, inr, List, [], ◌∷◌, ◌++◌, Some, None, refl, sym, ◌∙◌, ap, subst, append_assoc, append-nil}
use Rattle.std.specs.Prelude.{All, Option, Ok, IfSome, IsSomeAnd, drop, flat_map, if◌then◌else◌, map}
use Rattle.std.specs.Io.KnownBytes.{Appends, Consumes, Keeps}
use Rattle.std.proofs.Math.Seq.{drop-append-le}
use Rattle.std.proofs.lemmas.Grind.{flat_map-append}
use Rattle.std.proofs.lemmas.List.Elements.{All-nil, All-push, All-weaker}
use Rattle.bosh_client.specs.declared.replies.Answered.{Answered}
use Rattle.bosh_client.specs.declared.replies.Answered.TheVariants as answerings
use Rattle.bosh_client.specs.declared.replies.Next.{Next}
use Rattle.bosh_client.specs.declared.replies.Next.TheVariants as nexts
use Rattle.bosh_client.specs.Machine.{next_request}
use Rattle.bosh_http.proofs.RespondingLemmas.{response_more}
use Rattle.bosh_http.specs.Response.{IsResponseMessage}
use Rattle.bosh_http.specs.Texts.{post_text}
use Rattle.bosh_ports.specs.Sink.{AppendsFront}
use Rattle.parked_gate.specs.Histories.{StartsWith}
use Rattle.parked_gate.specs.Passes.{Known}
use Rattle.server_ports.specs.Events.{Event, Began, Retired, Begins, Grows, IsUngiven, Retires, exchanges, ports_dialled}
use Rattle.server_ports.proofs.ExchangeLemmas.{retired_adds}
use Rattle.client_run.specs.declared.call.Answer.TheVariants as replied
use Rattle.client_run.specs.declared.call.Call.{Call}
use Rattle.client_run.specs.declared.call.Call.TheVariants as calls
use Rattle.client_run.specs.declared.call.Question.TheVariants as questions
use Rattle.client_run.specs.declared.call.Reply.TheVariants as replies
use Rattle.client_run.specs.declared.entry.Entry.{Entry}
use Rattle.client_run.specs.Adding.{by_call}
use Rattle.client_run.specs.Calls.{changes, reply_in}
use Rattle.client_run.specs.Carried.{CarriesTold, IsResponses, IsRun, Run, Trip, WasNext, answer_in, answers_in, taken_answers, texts_of}
use Rattle.client_run.specs.Working.{Asked, Called, Exchanges, Hand, Move, Moves, Setting, Side, TakesSome, Tries, Wire, answers, asks, copies, copy_in, dials, fails_to_dial, looks, loses, more, no_hand, none, refuses, request_after, request_in, retires, setting_of, wants_memory}
use Rattle.client_run.proofs.AddingLemmas.{Makes, called_makes, called_wants}
use Rattle.client_run.proofs.CopyLemmas.{copy_was_next, next_later}
use Rattle.client_run.proofs.EndLemmas.{next_name}
use Rattle.client_run.proofs.LineLemmas.{refuses_tries}
use Rattle.client_run.proofs.RiseLemmas.{calls_begin, starts_by, starts_later}

-- Responses that were read one after the other.

responses_more : (trips : List Trip) (bytes rest later : List ℕ) → IsResponses trips bytes rest → IsResponses trips (bytes ++ later) (rest ++ later)
responses_more [] bytes rest later is = ap (λ b. b ++ later) is
responses_more (trip ∷ trips) bytes rest later (count, message, others) =
    let longer = response_more bytes trip.answer later count 200 message in
    (count, longer.0, subst (λ b. IsResponses trips b (rest ++ later)) (sym (drop-append-le count bytes later longer.1)) (responses_more trips (drop count bytes) rest later others))

responses_then : (trips others : List Trip) (bytes mid rest : List ℕ) → IsResponses trips bytes mid → IsResponses others mid rest → IsResponses (trips ++ others) bytes rest
responses_then [] others bytes mid rest is later = subst (λ b. IsResponses others b rest) is later
responses_then (trip ∷ trips) others bytes mid rest (count, message, others_are) later = (count, message, responses_then trips others (drop count bytes) mid rest others_are later)

-- Requests that were next stay so.

hand_later : (old new : List Entry) (hand : Option (ℕ × List ℕ)) → StartsWith new old → IfSome hand (λ r. WasNext old r.0 r.1) → IfSome hand (λ r. WasNext new r.0 r.1)
hand_later old new None grows was = tt
hand_later old new (Some r) grows was = next_later old new r.0 r.1 grows was

trips_later : (old new : List Entry) (trips : List Trip) → StartsWith new old → All (λ t. WasNext old t.rid t.body) trips → All (λ t. WasNext new t.rid t.body) trips
trips_later old new trips grows were = All-weaker (λ t. WasNext old t.rid t.body) (λ t. WasNext new t.rid t.body) (λ t was. next_later old new t.rid t.body grows was) trips were

run_later : (old new : List Entry) → StartsWith new old → (run : Run) → IsRun old run → IsRun new run
run_later old new grows run is = record {
  front = is.front;
  given = is.given;
  cut = is.cut;
  rest = is.rest;
  taken = is.taken;
  made = trips_later old new run.trips grows is.made;
  last_made = hand_later old new run.last grows is.last_made;
}

-- The link that is out, which began with a stream.
record IsOpen (seen : List Entry) (wire : Wire) (stream : List ℕ) (trips : List Trip) : Type 0 where
  taken : List ℕ
  left : List ℕ
  left_is : wire.left ≡ Some left
  stream_is : stream ≡ taken ++ left
  given_is : wire.given ≡ Some (texts_of trips)
  responses : IsResponses trips taken wire.kept
  made : All (λ t. WasNext seen t.rid t.body) trips

-- the ports that were dialled
ports-append : (xs ys : List Event) → ports_dialled (xs ++ ys) ≡ ports_dialled xs ++ ports_dialled ys
ports-append [] ys = refl
ports-append (Began (Some port) stream ∷ xs) ys = ap (λ l. port ∷ l) (ports-append xs ys)
ports-append (Began None stream ∷ xs) ys = ports-append xs ys
ports-append (Retired rest gave ∷ xs) ys = ports-append xs ys

ports_begun : (port : ℕ) (events : List Event) (stream : List ℕ) → All (λ other. other ≡ port) (ports_dialled events) → All (λ other. other ≡ port) (ports_dialled (events ++ Began (Some port) stream ∷ []))
ports_begun port events stream all =
    subst (All (λ other. other ≡ port)) (sym (ports-append events (Began (Some port) stream ∷ []))) (All-push (λ other. other ≡ port) (ports_dialled events) port all refl)

ports_retired : (port : ℕ) (events : List Event) (rest gave : List ℕ) → All (λ other. other ≡ port) (ports_dialled events) → All (λ other. other ≡ port) (ports_dialled (events ++ Retired rest gave ∷ []))
ports_retired port events rest gave all =
    subst (All (λ other. other ≡ port)) (sym (ports-append events (Retired rest gave ∷ []) ∙ append-nil (ports_dialled events))) all

-- the events are those of links that were retired, and of the one that is out
abbrev AreThose : ℕ → List Entry → Option Wire → List Event → List Event → List Trip → Type 0
AreThose port seen None before events trips = (events ≡ before) × (trips ≡ [])
AreThose port seen (Some wire) before events trips = (stream : List ℕ) × (events ≡ before ++ Began (Some port) stream ∷ []) × IsOpen seen wire stream trips

-- what was carried so far, by a worker that began with such entries
record So (port : ℕ) (first : List Entry) (earlier : Option (List Event)) (known : Known Entry) (wire : Option Wire) (hand : Option (ℕ × List ℕ)) (told : List Event) : Type 0 where
  before : List Event
  events : List Event
  grows : Grows earlier (Some told) events
  ports : All (λ other. other ≡ port) (ports_dialled events)
  runs : List Run
  trips : List Trip
  exchanged : exchanges before ≡ map (λ run. run.exchange) runs
  carried : All (IsRun known.seen) runs
  those : AreThose port known.seen wire before events trips
  next : IfSome hand (λ r. WasNext known.seen r.0 r.1)
  added : List Entry
  mine : known.mine ≡ first ++ added
  answered : answers_in added ≡ flat_map (λ run. taken_answers run.trips) runs ++ taken_answers trips

open_later : (old new : List Entry) (wire : Wire) (stream : List ℕ) (trips : List Trip) → StartsWith new old → IsOpen old wire stream trips → IsOpen new wire stream trips
open_later old new wire stream trips grows is = record {
  taken = is.taken;
  left = is.left;
  left_is = is.left_is;
  stream_is = is.stream_is;
  given_is = is.given_is;
  responses = is.responses;
  made = trips_later old new trips grows is.made;
}

those_later : (port : ℕ) (old new : List Entry) (wire : Option Wire) (before events : List Event) (trips : List Trip) → StartsWith new old → AreThose port old wire before events trips → AreThose port new wire before events trips
those_later port old new None before events trips grows those = those
those_later port old new (Some wire) before events trips grows (stream, are, is) = (stream, are, open_later old new wire stream trips grows is)

-- Entries without an answer were added, or none.

without_answer : (call : Call) (changed : Bool) (old new : List Entry) → answer_in call ≡ [] → Makes call changed old new → (added : List Entry) × (new ≡ old ++ added) × (answers_in added ≡ [])
without_answer call true old new none_in made = (made.0 ∷ [], made.2, ap (λ x. by_call [] answer_in x ++ []) made.1 ∙ ap (λ l. l ++ []) none_in)
without_answer call false old new none_in same = ([], same ∙ sym (append-nil old), refl)

-- more was told
told_more : (earlier : Option (List Event)) (told events later : List Event) → Grows earlier (Some told) events → Grows earlier (Some (told ++ later)) (events ++ later)
told_more None told events later grows = absurd grows
told_more (Some old) told events later grows = ap (λ l. l ++ later) grows ∙ append_assoc old events later

exchanges_push : (runs : List Run) (run : Run) → map (λ run. run.exchange) (runs ++ run ∷ []) ≡ map (λ run. run.exchange) runs ++ run.exchange ∷ []
exchanges_push [] run = refl
exchanges_push (first ∷ runs) run = ap (λ l. first.exchange ∷ l) (exchanges_push runs run)

-- A link on which a request was tried, or none.

-- what is told of the bytes that were left on a link
left_told : (o : Option (List ℕ)) (left : List ℕ) (P : List ℕ → Type 0) → o ≡ Some left → IsSomeAnd o P → P left
left_told o left P is has = subst (λ o. IsSomeAnd o P) is has

-- bytes that were taken one after the other
took : (stream taken left : List ℕ) (old new : Option (List ℕ)) → old ≡ Some left → stream ≡ taken ++ left → TakesSome old new → (rest : List ℕ) → new ≡ Some rest → (later : List ℕ) × (stream ≡ (taken ++ later) ++ rest)
took stream taken left old new old_is is takes rest new_is =
    let later = takes.0 in
    let consumed : left ≡ later ++ rest = subst (λ n. Consumes (Some left) n later) new_is (subst (λ o. Consumes o new later) old_is takes.1) in
    (later, is ∙ ap (λ l. taken ++ l) consumed ∙ sym (append_assoc taken later rest))

-- a front of a request was given
gave_front : (texts text : List ℕ) (old asked new : Option (List ℕ)) → old ≡ Some texts → AppendsFront old asked text → Keeps asked new → (gave : List ℕ) → new ≡ Some gave
    → (front : List ℕ) × (others : List ℕ) × (text ≡ front ++ others) × (gave ≡ texts ++ front)
gave_front texts text old asked new old_is (front, others, parts, appends) keeps gave new_is =
    (front, others, parts, by asked (subst (λ o. Appends o asked front) old_is appends) (subst (Keeps asked) new_is keeps))
  where
    by : (asked : Option (List ℕ)) → Appends (Some texts) asked front → Keeps asked (Some gave) → gave ≡ texts ++ front
    by None appends keeps = absurd appends
    by (Some given) appends keeps = keeps ∙ appends

-- bytes that were taken whole
consumed : (left : List ℕ) (old mid new : Option (List ℕ)) (later : List ℕ) → old ≡ Some left → Keeps old mid → Consumes mid new later → (rest : List ℕ) × (new ≡ Some rest) × (left ≡ later ++ rest)
consumed left old mid new later is keeps consumes = by mid new (subst (λ o. Keeps o mid) is keeps) consumes
  where
    by : (mid new : Option (List ℕ)) → Keeps (Some left) mid → Consumes mid new later → (rest : List ℕ) × (new ≡ Some rest) × (left ≡ later ++ rest)
    by None new keeps consumes = absurd keeps
    by (Some same) None keeps consumes = absurd consumes
    by (Some same) (Some rest) keeps consumes = (rest, refl, sym keeps ∙ consumes)

-- bytes that were given whole
gave_whole : (texts text : List ℕ) (old asked new : Option (List ℕ)) → old ≡ Some texts → Appends old asked text → Keeps asked new → new ≡ Some (texts ++ text)
gave_whole texts text old asked new is appends keeps = by asked new (subst (λ o. Appends o asked text) is appends) keeps
  where
    by : (asked new : Option (List ℕ)) → Appends (Some texts) asked text → Keeps asked new → new ≡ Some (texts ++ text)
    by None new appends keeps = absurd appends
    by (Some given) None appends keeps = absurd keeps
    by (Some given) (Some same) appends keeps = ap (λ bytes. Some bytes) (keeps ∙ appends)

-- the answer was entered, where the client took it
with_answer : (rid now : ℕ) (answer : List ℕ) (changed : Bool) (old new : List Entry) → Makes (calls.Answer rid answer now) changed old new
    → (added : List Entry) × (new ≡ old ++ added) × (answers_in added ≡ (if changed then (rid, answer) ∷ [] else []))
with_answer rid now answer true old new made = (made.0 ∷ [], made.2, ap (λ x. by_call [] answer_in x ++ []) made.1)
with_answer rid now answer false old new same = ([], same ∙ sym (append-nil old), refl)

-- the request that is at hand after an answer
hand_next : (old new : List Entry) (rid : ℕ) (body : List ℕ) (answered : Answered) → StartsWith new old → WasNext old rid body → IfSome (request_after answered (Some (rid, body))) (λ r. WasNext new r.0 r.1)
hand_next old new rid body (answerings.Broken why) grows was = next_later old new rid body grows was
hand_next old new rid body answerings.Done grows was = tt
hand_next old new rid body answerings.Unmade grows was = tt
hand_next old new rid body answerings.Stale grows was = tt
hand_next old new rid body (answerings.Again first last) grows was = tt

-- the request that was asked for
asked_next : (old new : Known Entry) (now : ℕ) (next : Next) → Called (calls.Next now) (Ok (replies.Next next)) old new → IfSome (request_in next) (λ r. WasNext new.seen r.0 r.1)
asked_next old new now nexts.Nothing called = tt
asked_next old new now nexts.RidsSpent called = tt
asked_next old new now (nexts.Request rid body) called = record {
  log = called.before;
  begins = starts_by old.number called.before new.seen called.made called.seen;
  next = record {
    plain = called.says.plain;
    is = called.says.is;
    holds = (now, sym (next_name (next_request called.says.plain now) (nexts.Request rid body) called.says.reply_is));
  };
}

-- the copy that was asked for
copied_next : (old new : Known Entry) (rid : ℕ) (body : Option (List ℕ)) → Asked (questions.Copy rid) (Ok (replied.Copy body)) old new → IfSome (copy_in rid body) (λ r. WasNext new.seen r.0 r.1)
copied_next old new rid None asked = tt
copied_next old new rid (Some bytes) asked = copy_was_next new.seen rid bytes asked.says

-- what is told twice is the same
same_told : (a b : List ℕ) (o : Option (List ℕ)) → o ≡ Some a → o ≡ Some b → a ≡ b
same_told a b (Some bytes) one two = cc
same_told a b None one two = absurd (cc)

module _ (port : ℕ) (first : List Entry) (earlier : Option (List Event)) where
  -- nothing but what was seen is new, and entries that give no answer
  more_seen : (old new : Known Entry) (wire : Option Wire) (hand later : Option (ℕ × List ℕ)) (told : List Event) (added : List Entry) → StartsWith new.seen old.seen → new.mine ≡ old.mine ++ added → answers_in added ≡ []
      → IfSome later (λ r. WasNext new.seen r.0 r.1) → So port first earlier old wire hand told → So port first earlier new wire later told
  more_seen old new wire hand later told added grows mine none_in next so = record {
    before = so.before;
    events = so.events;
    grows = so.grows;
    ports = so.ports;
    runs = so.runs;
    trips = so.trips;
    exchanged = so.exchanged;
    carried = All-weaker (IsRun old.seen) (IsRun new.seen) (run_later old.seen new.seen grows) so.runs so.carried;
    those = those_later port old.seen new.seen wire so.before so.events so.trips grows so.those;
    next = next;
    added = so.added ++ added;
    mine = mine ∙ ap (λ front. front ++ added) so.mine ∙ append_assoc first so.added added;
    answered = flat_map-append (λ e. by_call [] answer_in e.entered) so.added added ∙ ap (λ l. answers_in so.added ++ l) none_in ∙ append-nil (answers_in so.added) ∙ so.answered;
  }

  same_hand : (old new : Known Entry) (wire : Option Wire) (hand : Option (ℕ × List ℕ)) (told : List Event) → StartsWith new.seen old.seen → new.mine ≡ old.mine → So port first earlier old wire hand told → So port first earlier new wire hand told
  same_hand old new wire hand told grows same so = more_seen old new wire hand hand told [] grows (same ∙ sym (append-nil old.mine)) refl (hand_later old.seen new.seen hand grows so.next) so

  -- A link begins.
  begun : (known : Known Entry) (hand : Option (ℕ × List ℕ)) (wire : Wire) (stream : List ℕ) (told : List Event) → wire.left ≡ Some stream → wire.given ≡ Some [] → wire.kept ≡ []
      → So port first earlier known None hand told → So port first earlier known (Some wire) hand (told ++ Began (Some port) stream ∷ [])
  begun known hand wire stream told left_is given_is kept so = record {
    before = so.before;
    events = so.before ++ Began (Some port) stream ∷ [];
    grows = subst (λ l. Grows earlier (Some (told ++ Began (Some port) stream ∷ [])) (l ++ Began (Some port) stream ∷ [])) so.those.0 (told_more earlier told so.events (Began (Some port) stream ∷ []) so.grows);
    ports = ports_begun port so.before stream (subst (λ events. All (λ other. other ≡ port) (ports_dialled events)) so.those.0 so.ports);
    runs = so.runs;
    trips = [];
    exchanged = so.exchanged;
    carried = so.carried;
    those = (stream, refl, record { taken = []; left = stream; left_is = left_is; stream_is = refl; given_is = given_is; responses = kept; made = All-nil (λ t. WasNext known.seen t.rid t.body) });
    next = so.next;
    added = so.added;
    mine = so.mine;
    answered = so.answered ∙ ap (λ trips. flat_map (λ run. taken_answers run.trips) so.runs ++ taken_answers trips) so.those.1;
  }

  -- a link was retired
  record IsRetired (seen : List Entry) (stream : List ℕ) (rest gave : List ℕ) (trips : List Trip) (last : Option (ℕ × List ℕ)) : Type 0 where
    taken : List ℕ
    stream_is : stream ≡ taken ++ rest
    run_is : IsRun seen (record { trips = trips; last = last; exchange = record { taken = taken; given = gave } })

  ended : (known : Known Entry) (hand : Option (ℕ × List ℕ)) (wire : Wire) (rest gave : List ℕ) (told : List Event) (last : Option (ℕ × List ℕ))
      → (so : So port first earlier known (Some wire) hand told) → IsRetired known.seen so.those.0 rest gave so.trips last → So port first earlier known None hand (told ++ Retired rest gave ∷ [])
  ended known hand wire rest gave told last so is =
      let run : Run = record { trips = so.trips; last = last; exchange = record { taken = is.taken; given = gave } } in
      let stream = so.those.0 in
      let all = (so.before ++ Began (Some port) (is.taken ++ rest) ∷ []) ++ Retired rest gave ∷ [] in
      record {
        before = all;
        events = all;
        grows = subst (λ l. Grows earlier (Some (told ++ Retired rest gave ∷ [])) (l ++ Retired rest gave ∷ [])) (so.those.1 ∙ ap (λ bytes. so.before ++ Began (Some port) bytes ∷ []) is.stream_is)
            (told_more earlier told so.events (Retired rest gave ∷ []) so.grows);
        ports = ports_retired port (so.before ++ Began (Some port) (is.taken ++ rest) ∷ []) rest gave
            (subst (λ events. All (λ other. other ≡ port) (ports_dialled events)) (so.those.1 ∙ ap (λ bytes. so.before ++ Began (Some port) bytes ∷ []) is.stream_is) so.ports);
        runs = so.runs ++ run ∷ [];
        trips = [];
        exchanged = retired_adds so.before (Some port) is.taken rest gave ∙ ap (λ l. l ++ run.exchange ∷ []) so.exchanged ∙ sym (exchanges_push so.runs run);
        carried = All-push (IsRun known.seen) so.runs run so.carried is.run_is;
        those = (refl, refl);
        next = so.next;
        added = so.added;
        mine = so.mine;
        answered = so.answered ∙ ap (λ l. flat_map (λ run. taken_answers run.trips) so.runs ++ l) (sym (append-nil (taken_answers so.trips)))
            ∙ sym (flat_map-append (λ run. taken_answers run.trips) so.runs (run ∷ [])) ∙ sym (append-nil _);
      }

  -- An answer was read and given to the client.
  module _ (known new : Known Entry) (rid now : ℕ) (body answer : List ℕ) (wire later : Wire) (a : Answered) (told : List Event)
      (exchange : Exchanges wire later body answer) (called : Called (calls.Answer rid answer now) (Ok (replies.Answered a)) known new)
      (so : So port first earlier known (Some wire) (Some (rid, body)) told) where
    abbrev changed : Bool
    changed = changes (reply_in (replies.Answered a))

    abbrev trip : Trip
    trip = record { rid = rid; body = body; answer = answer; is_taken = changed }

    goes_on : StartsWith new.seen known.seen
    goes_on = calls_begin known new called

    still : IsOpen known.seen wire so.those.0 so.trips
    still = so.those.2

    abbrev heard : List ℕ
    heard = exchange.hears.responds.0

    remains : (left : List ℕ) × (later.left ≡ Some left) × (still.left ≡ heard ++ left)
    remains = consumed still.left wire.left exchange.asked.left later.left heard still.left_is exchange.sends.left exchange.hears.responds.1

    gives : later.given ≡ Some (texts_of (so.trips ++ trip ∷ []))
    gives = gave_whole (texts_of so.trips) (post_text body) wire.given exchange.asked.given later.given still.given_is exchange.sends.given exchange.hears.given
        ∙ ap (λ bytes. Some bytes) (ap (λ text. texts_of so.trips ++ text) (sym (append-nil (post_text body))) ∙ sym (flat_map-append (λ t. post_text t.body) so.trips (trip ∷ [])))

    reads : IsResponses (so.trips ++ trip ∷ []) (still.taken ++ heard) later.kept
    reads = responses_then so.trips (trip ∷ []) (still.taken ++ heard) (wire.kept ++ heard) later.kept (responses_more so.trips still.taken wire.kept heard still.responses)
        (subst (λ kept. (count : ℕ) × IsResponseMessage (kept ++ heard) count 200 answer × (later.kept ≡ drop count (kept ++ heard))) exchange.sends.kept exchange.hears.responds.2)

    entered : (added : List Entry) × (new.mine ≡ known.mine ++ added) × (answers_in added ≡ (if changed then (rid, answer) ∷ [] else []))
    entered = with_answer rid now answer changed known.mine new.mine (called_makes (calls.Answer rid answer now) (replies.Answered a) known new called)

    answered : So port first earlier new (Some later) (request_after a (Some (rid, body))) told
    answered = record {
      before = so.before;
      events = so.events;
      grows = so.grows;
      ports = so.ports;
      runs = so.runs;
      trips = so.trips ++ trip ∷ [];
      exchanged = so.exchanged;
      carried = All-weaker (IsRun known.seen) (IsRun new.seen) (run_later known.seen new.seen goes_on) so.runs so.carried;
      those = (
        so.those.0,
        so.those.1,
        record {
          taken = still.taken ++ heard;
          left = remains.0;
          left_is = remains.1;
          stream_is = still.stream_is ∙ ap (λ l. still.taken ++ l) remains.2 ∙ sym (append_assoc still.taken heard remains.0);
          given_is = gives;
          responses = reads;
          made = All-push (λ t. WasNext new.seen t.rid t.body) so.trips trip (trips_later known.seen new.seen so.trips goes_on still.made) (next_later known.seen new.seen rid body goes_on so.next);
        },
      );
      next = hand_next known.seen new.seen rid body a goes_on so.next;
      added = so.added ++ entered.0;
      mine = entered.1 ∙ ap (λ front. front ++ entered.0) so.mine ∙ append_assoc first so.added entered.0;
      answered = flat_map-append (λ e. by_call [] answer_in e.entered) so.added entered.0 ∙ ap (λ l. l ++ answers_in entered.0) so.answered
          ∙ ap (λ l. (flat_map (λ run. taken_answers run.trips) so.runs ++ taken_answers so.trips) ++ l) (entered.2 ∙ sym (append-nil (if changed then (rid, answer) ∷ [] else [])))
          ∙ append_assoc (flat_map (λ run. taken_answers run.trips) so.runs) (taken_answers so.trips) (taken_answers (trip ∷ []))
          ∙ ap (λ l. flat_map (λ run. taken_answers run.trips) so.runs ++ l) (sym (flat_map-append (λ t. if t.is_taken then (t.rid, t.answer) ∷ [] else []) so.trips (trip ∷ [])));
    }

  -- What a link that is retired has carried.

  closed_idle : (known : Known Entry) (wire : Wire) (hand : Option (ℕ × List ℕ)) (told : List Event) (rest gave : List ℕ) → wire.left ≡ Some rest → wire.given ≡ Some gave
      → (so : So port first earlier known (Some wire) hand told) → IsRetired known.seen so.those.0 rest gave so.trips None
  closed_idle known wire hand told rest gave left_is given_is so =
      let still = so.those.2 in
      record {
        taken = still.taken;
        stream_is = still.stream_is ∙ ap (λ l. still.taken ++ l) (same_told still.left rest wire.left still.left_is left_is);
        run_is = record {
          front = [];
          given = same_told gave (texts_of so.trips) wire.given given_is still.given_is ∙ sym (append-nil (texts_of so.trips));
          cut = refl;
          rest = wire.kept;
          taken = still.responses;
          made = still.made;
          last_made = tt;
        };
      }

  closed_trying : (known : Known Entry) (wire later : Wire) (rid : ℕ) (body : List ℕ) (told : List Event) (rest gave : List ℕ) → Tries wire later body → later.left ≡ Some rest → later.given ≡ Some gave
      → (so : So port first earlier known (Some wire) (Some (rid, body)) told) → IsRetired known.seen so.those.0 rest gave so.trips (Some (rid, body))
  closed_trying known wire later rid body told rest gave tries left_is given_is so =
      let still = so.those.2 in
      let takes = took so.those.0 still.taken still.left wire.left later.left still.left_is still.stream_is tries.left rest left_is in
      let front = gave_front (texts_of so.trips) (post_text body) wire.given tries.asked later.given still.given_is tries.gives tries.given gave given_is in
      record {
        taken = still.taken ++ takes.0;
        stream_is = takes.1;
        run_is = record {
          front = front.0;
          given = front.3;
          cut = (front.1, front.2);
          rest = wire.kept ++ takes.0;
          taken = responses_more so.trips still.taken wire.kept takes.0 still.responses;
          made = still.made;
          last_made = so.next;
        };
      }

  -- Where the events are told.

  begun_told : (known : Known Entry) (hand : Option (ℕ × List ℕ)) (wire : Wire) (old new : Option (List Event)) → Begins old new (Some port) wire.left → IsUngiven new wire.given → wire.kept ≡ []
      → IfSome old (So port first earlier known None hand) → IfSome new (So port first earlier known (Some wire) hand)
  begun_told known hand wire old None begins ungiven kept so = tt
  begun_told known hand wire old (Some told) begins ungiven kept so = by wire.left refl begins
    where
      given_is : IsUngiven (Some told) wire.given → wire.given ≡ Some []
      given_is (inl is) = is
      given_is (inr (untold, given)) = absurd (cc)

      grown : (o : Option (List Event)) (stream : List ℕ) → wire.left ≡ Some stream → Grows o (Some told) (Began (Some port) stream ∷ []) → IfSome o (So port first earlier known None hand) → So port first earlier known (Some wire) hand told
      grown None stream is grows so = absurd grows
      grown (Some old) stream is grows so = subst (So port first earlier known (Some wire) hand) (sym grows) (begun known hand wire stream old is (given_is ungiven) kept so)

      by : (l : Option (List ℕ)) → wire.left ≡ l → IsSomeAnd l (λ stream. Grows old (Some told) (Began (Some port) stream ∷ [])) → So port first earlier known (Some wire) hand told
      by None is begins = absurd begins
      by (Some stream) is begins = grown old stream is begins so

  ended_told : (known : Known Entry) (hand last : Option (ℕ × List ℕ)) (wire later : Wire) (old new : Option (List Event)) → Retires old new later.left later.given
      → ((told : List Event) (rest gave : List ℕ) → later.left ≡ Some rest → later.given ≡ Some gave → (so : So port first earlier known (Some wire) hand told) → IsRetired known.seen so.those.0 rest gave so.trips last)
      → IfSome old (So port first earlier known (Some wire) hand) → IfSome new (So port first earlier known None hand)
  ended_told known hand last wire later old None ends closes so = tt
  ended_told known hand last wire later old (Some told) ends closes so = by later.left later.given refl refl ends
    where
      grown : (o : Option (List Event)) (rest gave : List ℕ) → later.left ≡ Some rest → later.given ≡ Some gave → Grows o (Some told) (Retired rest gave ∷ []) → IfSome o (So port first earlier known (Some wire) hand) → So port first earlier known None hand told
      grown None rest gave left_is given_is grows so = absurd grows
      grown (Some old) rest gave left_is given_is grows so = subst (So port first earlier known None hand) (sym grows) (ended known hand wire rest gave old last so (closes old rest gave left_is given_is so))

      by : (l g : Option (List ℕ)) → later.left ≡ l → later.given ≡ g → IsSomeAnd l (λ rest. IsSomeAnd g (λ gave. Grows old (Some told) (Retired rest gave ∷ []))) → So port first earlier known None hand told
      by None g left_is given_is ends = absurd ends
      by (Some rest) None left_is given_is ends = absurd ends
      by (Some rest) (Some gave) left_is given_is ends = grown old rest gave left_is given_is ends so

  if_told : (o : Option (List Event)) (P Q : List Event → Type 0) → ((told : List Event) → P told → Q told) → IfSome o P → IfSome o Q
  if_told None P Q f p = tt
  if_told (Some told) P Q f p = f told p

  carried_moved : (moment : Option ℕ) (s t : Side) → Move (setting_of moment port) s t → IfSome s.events (So port first earlier s.known s.wire s.hand.request) → IfSome t.events (So port first earlier t.known t.wire t.hand.request)
  carried_moved moment s t (dials events counts wire out begins ungiven kept counted) so =
      begun_told s.known s.hand.request wire s.events events begins ungiven kept (subst (λ w. IfSome s.events (So port first earlier s.known w s.hand.request)) out so)
  carried_moved moment s t (fails_to_dial counts out failed) so = so
  carried_moved moment s t (asks new next now hand at called) so =
      let added = without_answer (calls.Next now) (changes (reply_in (replies.Next next))) s.known.mine new.mine refl (called_makes (calls.Next now) (replies.Next next) s.known new called) in
      if_told s.events (So port first earlier s.known s.wire s.hand.request) (So port first earlier new s.wire (request_in next))
      (λ told so. more_seen s.known new s.wire s.hand.request (request_in next) told added.0 (calls_begin s.known new called) added.1 added.2 (asked_next s.known new now next called) so) so
  carried_moved moment s t (looks new question answer asked) so =
      if_told s.events (So port first earlier s.known s.wire s.hand.request) (So port first earlier new s.wire s.hand.request) (λ told so. same_hand s.known new s.wire s.hand.request told asked.begins asked.mine so) so
  carried_moved moment s t (copies new rid rids body hand asked) so =
      if_told s.events (So port first earlier s.known s.wire s.hand.request) (So port first earlier new s.wire (copy_in rid body))
      (λ told so. more_seen s.known new s.wire s.hand.request (copy_in rid body) told [] asked.begins (asked.mine ∙ sym (append-nil s.known.mine)) refl (copied_next s.known new rid body asked) so) so
  carried_moved moment s t (wants_memory new call error called) so =
      if_told s.events (So port first earlier s.known s.wire s.hand.request) (So port first earlier new s.wire s.hand.request)
      (λ told so. same_hand s.known new s.wire s.hand.request told (calls_begin s.known new called) (called_wants call error s.known new called) so) so
  carried_moved moment s t (answers new rid body answer old wire now a hand out exchanges at called) so =
      if_told s.events (So port first earlier s.known s.wire s.hand.request) (So port first earlier new (Some wire) (request_after a s.hand.request))
      (λ told so. subst (λ h. So port first earlier new (Some wire) (request_after a h) told) (sym hand)
      (answered s.known new rid now body answer old wire a told exchanges called (subst (λ h. So port first earlier s.known (Some old) h told) hand (subst (λ w. So port first earlier s.known w s.hand.request told) out so)))) so
  carried_moved moment s t (loses rid body old wire events counts row hand out tries retired counted) so =
      subst (λ h. IfSome events (So port first earlier s.known None h)) (sym hand)
      (ended_told s.known (Some (rid, body)) (Some (rid, body)) old wire s.events events retired (λ told rest gave left_is given_is so. closed_trying s.known old wire rid body told rest gave tries left_is given_is so)
      (subst (λ h. IfSome s.events (So port first earlier s.known (Some old) h)) hand (subst (λ w. IfSome s.events (So port first earlier s.known w s.hand.request)) out so)))
  carried_moved moment s t (refuses rid body old wire events status hand out was retired) so =
      subst (λ h. IfSome events (So port first earlier s.known None h)) (sym hand)
      (ended_told s.known (Some (rid, body)) (Some (rid, body)) old wire s.events events retired (λ told rest gave left_is given_is so. closed_trying s.known old wire rid body told rest gave (refuses_tries old wire body status was) left_is given_is so)
      (subst (λ h. IfSome s.events (So port first earlier s.known (Some old) h)) hand (subst (λ w. IfSome s.events (So port first earlier s.known w s.hand.request)) out so)))
  carried_moved moment s t (retires old events out retired) so =
      ended_told s.known s.hand.request None old old s.events events retired (λ told rest gave left_is given_is so. closed_idle s.known old s.hand.request told rest gave left_is given_is so)
      (subst (λ w. IfSome s.events (So port first earlier s.known w s.hand.request)) out so)

  carried_moves : (moment : Option ℕ) (s t : Side) → Moves (setting_of moment port) s t → IfSome s.events (So port first earlier s.known s.wire s.hand.request) → IfSome t.events (So port first earlier t.known t.wire t.hand.request)
  carried_moves moment s t none so = so
  carried_moves moment s t (more {t = mid} moves move) so = carried_moved moment mid t move (carried_moves moment s mid moves so)

-- at first nothing was carried
nothing_yet : (port : ℕ) (known : Known Entry) (events : Option (List Event)) → IfSome events (So port known.mine events known None None)
nothing_yet port known None = tt
nothing_yet port known (Some told) = record {
  before = [];
  events = [];
  grows = sym (append-nil told);
  ports = All-nil (λ other. other ≡ port);
  runs = [];
  trips = [];
  exchanged = refl;
  carried = All-nil (IsRun known.seen);
  those = (refl, refl);
  next = tt;
  added = [];
  mine = sym (append-nil known.mine);
  answered = refl;
}

-- What a worker's links carried, where none was out at first and none is in the end.
pub moves_carry : (setting : Setting) (s t : Side) → Moves setting s t → s.wire ≡ None → s.hand ≡ no_hand → t.wire ≡ None → CarriesTold setting.port s.known t.known s.events t.events
moves_carry setting s t moves out hand back =
    by t.events (subst (λ w. IfSome t.events (So setting.port s.known.mine s.events t.known w t.hand.request)) back
    (carried_moves setting.port s.known.mine s.events setting.moment s t moves (subst (λ w. IfSome s.events (So setting.port s.known.mine s.events s.known w s.hand.request)) (sym out) (subst (λ (h : Hand). IfSome s.events (So setting.port s.known.mine s.events s.known None h.request)) (sym hand) (nothing_yet setting.port s.known s.events)))))
  where
    by : (o : Option (List Event)) → IfSome o (So setting.port s.known.mine s.events t.known None t.hand.request) → CarriesTold setting.port s.known t.known s.events o
    by None so = record { events = []; grows = tt; carries = tt; dialled = All-nil (λ other. other ≡ setting.port) }
    by (Some told) so = record {
      events = so.before;
      grows = subst (Grows s.events (Some told)) so.those.0 so.grows;
      dialled = subst (λ events. All (λ other. other ≡ setting.port) (ports_dialled events)) so.those.0 so.ports;
      carries = record {
        runs = so.runs;
        exchanged = so.exchanged;
        carried = so.carried;
        added = so.added;
        mine = so.mine;
        answers = so.answered ∙ ap (λ trips. flat_map (λ run. taken_answers run.trips) so.runs ++ taken_answers trips) so.those.1 ∙ append-nil (flat_map (λ run. taken_answers run.trips) so.runs);
      };
    }
