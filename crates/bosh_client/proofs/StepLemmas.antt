-- A client after a step stands for the plain one after it.
use Rattle.std.proofs.Common.{◌≡◌, ℕ, ◌+◌, ◌-◌, ◌<◌, ◌≤◌, Bool, true, false, List, [], ◌∷◌, ◌++◌, map, length, drop, Some, None, refl, sym, ◌∙◌, ap, subst, arith, length-append, length-drop, append_assoc, append-nil}
use Rattle.std.specs.Prelude.{IfSome, Option, ◌==◌, slice_get, if◌then◌else◌}
use Rattle.std.specs.List.{All, flat_map}
use Rattle.std.proofs.lemmas.Bool.Decides.{nat_tests}
use Rattle.std.proofs.lemmas.Grind.{flat_map-append}
use Rattle.std.proofs.lemmas.List.{drop-append-le, drop-drop}
use Rattle.std.proofs.lemmas.List.Elements.{All-cons, All-head, All-nil, All-tail}
use Rattle.std.proofs.lemmas.Option.{slice_get_within}
use Rattle.bosh_types.specs.ById.{at_id}
use Rattle.stream_names.specs.PlainStreams.{PlainStreams, begun}
use Rattle.bosh_client.specs.declared.client.Client.{Client}
use Rattle.bosh_client.specs.declared.exchanges.Slot.{Slot}
use Rattle.bosh_client.specs.declared.exchanges.Slot.TheVariants.{Open}
use Rattle.bosh_client.specs.declared.outgoing.Outgoing.{Outgoing}
use Rattle.bosh_client.specs.KeyPlace.{KeyPlace}
use Rattle.bosh_client.specs.Machine.{hand_out_on, handed}
use Rattle.bosh_client.specs.Outgoing.{is_terminate, streams_with}
use Rattle.bosh_client.specs.Places.{Places, comes_next}
use Rattle.bosh_client.specs.PlainClient.{Made, Taken, PlainClient, bytes_of, deliverable, id_of, is_closing, items_made, next_id, payloads_for, queued, streams, taken}
use Rattle.bosh_client.specs.StandsFor.{Does, Holds, HoldsKeys, HoldsRequests, StandsFor, slot_by, slot_of}
use Rattle.bosh_client.proofs.FoundLemmas.{payload_is}
use Rattle.bosh_client.proofs.RequestLemmas.{from-push}
use Rattle.bosh_client.proofs.StreamLemmas.{closing_stays, streams-append}

pub does_same : {X : Type 0} {c : Client} {reply : X} {done other : PlainClient × X} → other ≡ done → Does c reply done → Does c reply other
does_same {X = X} {c = c} {reply = reply} is does = subst (λ (d : PlainClient × X). Does c reply d) (sym is) does

-- What is accepted is queued last.

pub accepted_holds : (c : Client) (plain : PlainClient) (item : Outgoing) (queue : List Outgoing) (opened : PlainStreams) (closing : Bool) → Holds c plain → queue ≡ c.queue ++ item ∷ []
    → opened ≡ streams_with c.streams item → closing ≡ is_closing (record plain { accepted = plain.accepted ++ item ∷ [] })
    → Holds (record c { queue = queue; streams = opened; closing = closing }) (record plain { accepted = plain.accepted ++ item ∷ [] })
accepted_holds c plain item queue opened closing h queues opens closes = record {
  setup_is = h.setup_is;
  queue_is = queues ∙ ap (λ (items : List Outgoing). items ++ item ∷ []) h.queue_is ∙ sym (drop-append-le (length (items_made plain)) plain.accepted (item ∷ []) h.accepted);
  streams_are = opens ∙ ap (λ (s : PlainStreams). streams_with s item) h.streams_are ∙ sym (streams-append begun plain.accepted item);
  closing_is = closes;
  agreed_is = h.agreed_is;
  last_taken_is = h.last_taken_is;
  end_is = h.end_is;
  in_range = h.in_range;
  accepted = omega (arith, h.accepted, length-append plain.accepted (item ∷ []));
  requests = record {
    spent = h.requests.spent;
    rest = h.requests.rest;
    requests_are = h.requests.requests_are;
    ids = h.requests.ids;
    first_is = h.requests.first_is;
    went_on = h.requests.went_on;
    slots_are = h.requests.slots_are;
    within = h.requests.within;
    inbox_is = h.requests.inbox_is;
    known = h.requests.known;
  };
  keys = h.keys;
}

-- such an item leaves the streams as they are, and doesn't end the client
pub queued_holds : (c : Client) (plain : PlainClient) (item : Outgoing) (queue : List Outgoing) → Holds c plain → queue ≡ c.queue ++ item ∷ []
    → is_terminate item ≡ false → ((s : PlainStreams) → streams_with s item ≡ s) → Holds (record c { queue = queue }) (record plain { accepted = plain.accepted ++ item ∷ [] })
queued_holds c plain item queue h queues stays same =
    accepted_holds c plain item queue c.streams c.closing h queues (sym (same c.streams)) (h.closing_is ∙ sym (closing_stays plain item stays (same (streams plain))))

-- A request more.

pub not_taken : (answers : List (ℕ × Taken)) (rid : ℕ) → All (λ answer. answer.0 < rid) answers → at_id answers rid ≡ None
not_taken [] rid known = refl
not_taken (answer ∷ answers) rid known =
    let lower : answer.0 < rid = All-head (λ (a : ℕ × Taken). a.0 < rid) answer answers known in
    let other : (answer.0 == rid) ≡ false = grind (arith, nat_tests) in
    rw other (not_taken answers rid (All-tail (λ (a : ℕ × Taken). a.0 < rid) answer answers known))

known_more : (answers : List (ℕ × Taken)) (n m : ℕ) → n ≤ m → All (λ answer. answer.0 < n) answers → All (λ answer. answer.0 < m) answers
known_more [] n m within known = All-nil (λ (a : ℕ × Taken). a.0 < m)
known_more (answer ∷ answers) n m within known =
    let lower : answer.0 < n = All-head (λ (a : ℕ × Taken). a.0 < n) answer answers known in
    All-cons (λ (a : ℕ × Taken). a.0 < m) answer answers (omega arith) (known_more answers n m within (All-tail (λ (a : ℕ × Taken). a.0 < n) answer answers known))

map-push : {X Y : Type 0} (f : X → Y) (xs : List X) (x : X) → map f (xs ++ x ∷ []) ≡ map f xs ++ f x ∷ []
map-push f [] x = refl
map-push f (y ∷ ys) x = ap (λ rest. f y ∷ rest) (map-push f ys x)

requested : (places : Places) (inbox : List (ℕ × List ℕ)) (plain : PlainClient) (request : Made) → HoldsRequests places inbox plain → id_of request ≡ next_id plain
    → HoldsRequests (record places { slots = places.slots ++ Open (bytes_of request) ∷ [] }) inbox (record plain { requests = plain.requests ++ request ∷ [] })
requested places inbox plain request h id =
    let none : taken plain (id_of request) ≡ None = ap (λ n. taken plain n) id ∙ not_taken plain.answers (next_id plain) h.known in
    record {
      spent = h.spent;
      rest = h.rest ++ request ∷ [];
      requests_are = ap (λ (xs : List Made). xs ++ request ∷ []) h.requests_are ∙ append_assoc h.spent h.rest (request ∷ []);
      ids = from-push plain.setup.first plain.requests request h.ids id;
      first_is = h.first_is;
      went_on = h.went_on;
      slots_are =
          ap (λ (xs : List Slot). xs ++ Open (bytes_of request) ∷ []) h.slots_are ∙ ap (λ (o : Option Taken). map (slot_of plain) h.rest ++ slot_by plain.setup request o ∷ []) (sym none)
          ∙ sym (map-push (slot_of plain) h.rest request);
      within = h.within;
      inbox_is = h.inbox_is;
      known = known_more plain.answers (next_id plain) (plain.setup.first + length (plain.requests ++ request ∷ [])) (omega (arith, length-append plain.requests (request ∷ []))) h.known;
    }

pub requested_holds : (c : Client) (plain : PlainClient) (request : Made) (places : Places) (queue : List Outgoing) (keys : Option KeyPlace) → Holds c plain → id_of request ≡ next_id plain
    → places ≡ record c.exchanges { slots = c.exchanges.slots ++ Open (bytes_of request) ∷ [] } → queue ≡ drop (length request.items) c.queue → length request.items ≤ length (queued plain)
    → HoldsKeys keys plain.setup (length plain.requests)
    → Holds (record c { exchanges = places; queue = queue; keys = keys }) (record plain { requests = plain.requests ++ request ∷ [] })
requested_holds c plain request places queue keys h id pushed queues within holds =
    let items : flat_map (λ (r : Made). r.items) (plain.requests ++ request ∷ []) ≡ items_made plain ++ request.items =
    flat_map-append (λ (r : Made). r.items) plain.requests (request ∷ []) ∙ ap (λ xs. items_made plain ++ xs) (append-nil request.items) in
    let count : length (flat_map (λ (r : Made). r.items) (plain.requests ++ request ∷ [])) ≡ length (items_made plain) + length request.items = ap length items ∙ length-append (items_made plain) request.items in
    record {
      setup_is = h.setup_is;
      queue_is =
          queues ∙ ap (λ xs. drop (length request.items) xs) h.queue_is ∙ drop-drop (length request.items) (length (items_made plain)) plain.accepted
          ∙ ap (λ n. drop n plain.accepted) (sym count);
      streams_are = h.streams_are;
      closing_is = h.closing_is;
      agreed_is = h.agreed_is;
      last_taken_is = h.last_taken_is;
      end_is = h.end_is;
      in_range = h.in_range;
      accepted = omega (arith, count, within, length-drop (length (items_made plain)) plain.accepted, h.accepted);
      requests = rw pushed (requested c.exchanges c.inbox plain request h.requests id);
      keys =
          let same : length (plain.requests ++ request ∷ []) - 1 ≡ length plain.requests = omega (arith, length-append plain.requests (request ∷ [])) in
          rw same holds;
    }

-- Which way a choice goes.

pub choose_no : {X : Type 0} (b : Bool) (x y : X) → b ≡ false → (if b then x else y) ≡ y
choose_no true x y is = absurd (cc)
choose_no false x y is = refl

pub choose_yes : {X : Type 0} (b : Bool) (x y : X) → b ≡ true → (if b then x else y) ≡ x
choose_yes true x y is = refl
choose_yes false x y is = absurd (cc)

-- A payload is handed out.

drop-next : {X : Type 0} (n : ℕ) (xs : List X) → drop 1 (drop n xs) ≡ drop (n + 1) xs
drop-next n xs = drop-drop 1 n xs

pub handed_holds : (places : Places) (inbox left : List (ℕ × List ℕ)) (payload : ℕ × List ℕ) (plain : PlainClient) → HoldsRequests places inbox plain → slice_get inbox 0 ≡ Some payload → left ≡ drop 1 inbox
    → HoldsRequests places left (record plain { handed_out = plain.handed_out + 1 })
handed_holds places inbox left payload plain h first is =
    let handed = flat_map (payloads_for plain) h.spent in
    let some : 0 < length inbox = slice_get_within inbox 0 payload first in
    record {
      spent = h.spent;
      rest = h.rest;
      requests_are = h.requests_are;
      ids = h.ids;
      first_is = h.first_is;
      went_on = h.went_on;
      slots_are = h.slots_are;
      within = omega (arith, h.within, some, ap length h.inbox_is, length-drop plain.handed_out handed);
      inbox_is = is ∙ ap (λ (xs : List (ℕ × List ℕ)). drop 1 xs) h.inbox_is ∙ drop-next plain.handed_out handed;
      known = h.known;
    }

drop-none : {X : Type 0} (xs : List X) → slice_get xs 0 ≡ None → xs ≡ drop 1 xs
drop-none [] none = refl
drop-none (x ∷ xs) none = absurd (cc)

pub with_exchanges : (c : Client) (places : Places) (inbox : List (ℕ × List ℕ)) (plain : PlainClient) → Holds c plain → HoldsRequests places inbox plain → Holds (record c { exchanges = places; inbox = inbox }) plain
with_exchanges c places inbox plain h requests = record {
  setup_is = h.setup_is;
  queue_is = h.queue_is;
  streams_are = h.streams_are;
  closing_is = h.closing_is;
  agreed_is = h.agreed_is;
  last_taken_is = h.last_taken_is;
  end_is = h.end_is;
  in_range = h.in_range;
  accepted = h.accepted;
  requests = requests;
  keys = h.keys;
}

handed_client : (c : Client) (places : Places) (inbox : List (ℕ × List ℕ)) (plain : PlainClient) (n : ℕ) → Holds c plain → HoldsRequests places inbox (record plain { handed_out = n }) → Holds (record c { exchanges = places; inbox = inbox }) (record plain { handed_out = n })
handed_client c places inbox plain n h requests = record {
  setup_is = h.setup_is;
  queue_is = h.queue_is;
  streams_are = h.streams_are;
  closing_is = h.closing_is;
  agreed_is = h.agreed_is;
  last_taken_is = h.last_taken_is;
  end_is = h.end_is;
  in_range = h.in_range;
  accepted = h.accepted;
  requests = requests;
  keys = h.keys;
}

-- the first that is left is handed out, if there is one
pub hands_out : (c : Client) (places : Places) (inbox left : List (ℕ × List ℕ)) (payload : Option (ℕ × List ℕ)) (plain : PlainClient) → Holds c plain → HoldsRequests places inbox plain
    → (inbox ≡ [] → comes_next places.slots ≡ false) → payload ≡ slice_get inbox 0 → left ≡ drop 1 inbox
    → Does (record c { exchanges = places; inbox = left }) payload (hand_out_on plain)
unfolding StandsFor
hands_out c places inbox left payload plain h requests stops is after =
    by payload (sym is) (is ∙ payload_is requests stops)
  where
    by : (o : Option (ℕ × List ℕ)) → slice_get inbox 0 ≡ o → o ≡ slice_get (deliverable plain) plain.handed_out → Does (record c { exchanges = places; inbox = left }) o (hand_out_on plain)
    by None here next =
        does_same (ap (λ o. handed plain o) (sym next))
        (record { replies = refl; after = with_exchanges c places left plain h (subst (λ (xs : List (ℕ × List ℕ)). HoldsRequests places xs plain) (drop-none inbox here ∙ sym after) requests) })
    by (Some payload) here next =
        does_same (ap (λ o. handed plain o) (sym next))
        (record { replies = refl; after = handed_client c places left plain (plain.handed_out + 1) h (handed_holds places inbox left payload plain requests here after) })

-- one payload less is left
pub fewer_left : (inbox left : List (ℕ × List ℕ)) (payload : Option (ℕ × List ℕ)) → payload ≡ slice_get inbox 0 → left ≡ drop 1 inbox → (more all : ℕ) → length inbox + more ≡ all
    → IfSome payload (λ p. length left + more < all)
fewer_left inbox left None is after more all same = tt
fewer_left inbox left (Some p) is after more all same = omega (arith, same, ap length after, length-drop 1 inbox, slice_get_within inbox 0 p (sym is))
