-- Each copy that came to a session of a client after its creation is a request that the client made.
use Rattle.std.proofs.Common.{◌≡◌, ℕ, zero, suc, ◌+◌, ◌<◌, ◌≤◌, ◌==◌, ◌&&◌, ◌||◌, Bool, true, false, List, [], ◌∷◌, ◌++◌, length, map, slice_get, inl, inr, refl, sym, ◌∙◌, ap, subst, arith}
use Rattle.std.specs.Prelude.{Option, None, Some, All, IfSome, is_some, not, ⊤}
use Rattle.std.specs.Option.{option_map}
use Rattle.std.proofs.lemmas.Bool.{cases_lt}
use Rattle.std.proofs.lemmas.List.{length-map}
use Rattle.std.proofs.lemmas.List.Elements.{All-append, All-cons, All-nil}
use Rattle.bosh_types.specs.ById.{at_id}
use Rattle.bosh_types.specs.Limits.{most_streams}
use Rattle.body_cutter.specs.declared.parts.Span.{Span}
use Rattle.body_cutter.specs.Pieces.{bytes_at}
use Rattle.body_writer.specs.declared.request.RequestParts.{RequestParts}
use Rattle.body_writer.specs.Request.{request_text}
use Rattle.stream_names.specs.Streams.{name_of}
use Rattle.rid_window.specs.PlainWindow.{reach}
use Rattle.session_attrs.specs.declared.request.Creation.{Creation}
use Rattle.session_attrs.specs.declared.request.Kind.TheVariants as kinds
use Rattle.session_attrs.specs.declared.request.Request.{Request}
use Rattle.session_core.specs.declared.copy.RequestCopy.{RequestCopy}
use Rattle.session_core.specs.Copy as copies
use Rattle.session_core.specs.Journal.{IsJournal, IsReadFrom, Journal, state_of}
use Rattle.session_core.specs.ReadBack.{asked_by, asked_for}
use Rattle.session_core.specs.Run.{IsReceived, arrivals_of, placings_of}
use Rattle.session_core.specs.Machine.{creation_of}
use Rattle.session_core.specs.Processed.{Processed, copies_of}
use Rattle.session_core.specs.State.{PlainSession, Stands, first_of, last_of, standing_at}
use Rattle.session_laws.proofs.Carried.{all_read, one_reading}
use Rattle.session_laws.proofs.Followed.{every_creation}
use Rattle.session_laws.proofs.Lists.{copy_at, get_some, get_within}
use Rattle.session_laws.proofs.Received.{received_after}
use Rattle.bosh_client.specs.declared.agreed.Agreed.{Agreed}
use Rattle.bosh_client.specs.declared.setup.ClientSetup.{ClientSetup}
use Rattle.bosh_client.specs.Keys.{key_at, newkey_at}
use Rattle.bosh_client.specs.PlainClient.{Made, PlainClient, Taken, id_of, lowest, next_id, request_at, taken}
use Rattle.bosh_client.specs.Promises.{Acknowledges, AllTaken, Carries, HasForm, IsKnown, IsOfSession}
use Rattle.bosh_client.specs.Requests.{agreed, with_keys}
use Rattle.bosh_client.specs.Runs as calls
use Rattle.bosh_client.specs.Machine.{new_client}
use Rattle.bosh_client.specs.Runs.{Call, after, step}
use Rattle.bosh_client.specs.StandsFor.{AreFrom}
use Rattle.bosh_client.proofs.FoundLemmas.{unmade_low}
use Rattle.bosh_client.proofs.RunLemmas.{IsClient, client_is, new_is, step_by, step_is}
use Rattle.world_laws.specs.Sound.{IsOpenedBy, IsRunClient, IsSent, IsSound}
use Rattle.world_laws.specs.World.{PlainWorld}
use Rattle.world_laws.proofs.Below.{Below}
use Rattle.world_laws.proofs.EventLemmas.{formed}
use Rattle.world_laws.proofs.LowestLemmas.{lowest_first, lowest_open}
use Rattle.world_laws.proofs.MadeLemmas.{AllBelow, AllKeep, IsShortCall, is_extra, is_poll, keep_after, new_keeps}
use Rattle.world_laws.proofs.NameLemmas.{opened_rid, setup_same}
use Rattle.world_laws.proofs.PlaceLemmas.{all_at, id_at}
use Rattle.world_laws.proofs.PrefixLemmas.{Copies, Fits}
use Rattle.world_laws.proofs.RequestLemmas.{asked_stanzas, reads_back, sent_is_of}
use Rattle.world_laws.proofs.StateLemmas.{every_sound}
use Rattle.world_laws.proofs.TurnLemmas.{all_follow}

-- What a client of a sound world keeps to.

short_call : Below → (call : Call) → calls.IsAllowed call → IsShortCall call
short_call below (calls.Put stanza) allowed = ((below.stanzas stanza).0 allowed).0
short_call below (calls.PutOn stream stanza) allowed = ((below.stanzas stanza).0 allowed).0
short_call below (calls.Add to) allowed = tt
short_call below (calls.CloseStream stream) allowed = tt
short_call below calls.Restart allowed = tt
short_call below (calls.Pause seconds) allowed = tt
short_call below calls.Terminate allowed = tt
short_call below (calls.NextRequest now) allowed = tt
short_call below (calls.Answer rid body now) allowed = tt
short_call below calls.HandOut allowed = tt

pub all_keep : Below → (setup : ClientSetup) → 1 ≤ setup.first → (c : PlainClient) → IsRunClient setup c → AllKeep c
all_keep below setup some c run =
    subst AllKeep (sym run.is)
    (keep_after setup _ run.calls (all_follow calls.IsAllowed IsShortCall run.calls (short_call below) run.allowed) (new_is setup some) (new_keeps setup))

pub all_from : Below → (setup : ClientSetup) → 1 ≤ setup.first → (c : PlainClient) → IsRunClient setup c → AreFrom c.setup.first c.requests
all_from below setup some c run = subst (λ (d : PlainClient). AreFrom d.setup.first d.requests) (sym run.is) (below.ids setup run.calls some)

pub all_acknowledge : (setup : ClientSetup) → 1 ≤ setup.first → (c : PlainClient) → IsRunClient setup c → All (Acknowledges c) c.requests
all_acknowledge setup some c run = subst (λ (d : PlainClient). All (Acknowledges d) d.requests) (sym run.is) (client_is setup run.calls some).acks

pub all_carry : Below → (setup : ClientSetup) (c : PlainClient) → IsRunClient setup c → All Carries c.requests
all_carry below setup c run = subst (λ (d : PlainClient). All Carries d.requests) (sym run.is) (below.carries setup run.calls)

-- A copy that came is the request of its id.

pub record IsCopyOf (c : PlainClient) (first rid : ℕ) (copy : RequestCopy) : Type 0 where
  pub place : ℕ
  pub request : Made
  pub here : slice_get c.requests place ≡ Some request
  pub rid_is : first + place ≡ rid
  pub children : List Span
  pub are : copies.stanzas_of copy ≡ request.parts.payloads
  pub asked : copy.request ≡ asked_by request.parts children

-- a later copy, by what the client keeps to
pub record IsLaterCopy (c : PlainClient) (a : Agreed) (first k : ℕ) (copy : RequestCopy) : Type 0 where
  pub near : copies.id_of copy < lowest c + reach a.requests (copies.is_extra copy)
  pub short : (seconds : ℕ) → copy.request.pause ≡ Some seconds → seconds ≤ a.maxpause
  pub alone : copies.is_poll copy ≡ true → AllBelow c (first + suc k)
  pub key : copy.request.key ≡ with_keys c.setup (Some (key_at c.setup.seed c.setup.keys k))
  pub newkey : copy.request.newkey ≡ with_keys c.setup (newkey_at c.setup.seed c.setup.keys k)
  pub ack : IfSome copy.request.ack (λ ack. ack < lowest c)

pub record IsLater (c : PlainClient) (first k : ℕ) (copy : RequestCopy) : Type 0 where
  pub terms : Agreed
  pub agrees : agreed c ≡ Some terms
  pub request : Made
  pub here : slice_get c.requests (suc k) ≡ Some request
  pub poll_is : copies.is_poll copy ≡ is_poll request.parts
  pub fits : Fits request.items copy
  pub stream_is : copy.request.stream ≡ option_map name_of request.parts.stream
  pub keeps : IsLaterCopy c terms first k copy

module _ (below : Below) (setup : ClientSetup) (w : PlainWorld) (h : IsSound setup w) where
  abbrev c : PlainClient
  c = w.client

  pub keeping : AllKeep c
  keeping = all_keep below setup (h.begins.first).0 c h.client

  pub ids : AreFrom c.setup.first c.requests
  ids = all_from below setup (h.begins.first).0 c h.client

  pub setup_is : c.setup ≡ setup
  setup_is = setup_same below setup h.begins.client h.begins.first c h.client

  acknowledging : All (Acknowledges c) c.requests
  acknowledging = all_acknowledge setup (h.begins.first).0 c h.client

  -- what is acknowledged is below the lowest id without an answer
  ack_low : (request : Made) (ack : ℕ) → id_of request < c.setup.first + length c.requests → (ack < id_of request) × AllTaken c ack → ack < lowest c
  ack_low request ack made is = elim (cases_lt ack (lowest c)) [
    | inl low ↦ low
    | inr high ↦
        let start = lowest_first c ids in
        let taken : is_some (taken c (lowest c)) ≡ true = is.1 (lowest c) start high in
        let made_too : lowest c < next_id c = omega (arith, is.0, made, high) in
        absurd (lowest_open c ids made_too taken)
  ]

  -- the request that a body of the network is of
  copy_from : (copy : RequestCopy) → at_id w.sent (copies.id_of copy) ≡ Some copy.body → IsReadFrom copy.body copy.request → IsCopyOf c c.setup.first (copies.id_of copy) copy
  copy_from copy sent read =
      let rid : ℕ = copies.id_of copy in
      let of = sent_is_of c.requests rid copy.body (ap (λ (l : List (ℕ × List ℕ)). at_id l rid) (sym h.sent_is) ∙ sent) in
      let form = all_at (λ (request : Made). HasForm setup request.parts) c.requests of.place of.request (formed below setup w h) of.here in
      let back = reads_back below setup of.request.parts h.begins.client form in
      let asked_so : copy.request ≡ asked_by of.request.parts back.children =
      one_reading copy.body copy.request (asked_by of.request.parts back.children) read
      (subst (λ (b : List ℕ). IsReadFrom b (asked_by of.request.parts back.children)) of.body_is back.read) in
      record {
        place = of.place;
        request = of.request;
        here = of.here;
        rid_is = sym (id_at c.setup.first c.requests of.place of.request ids of.here) ∙ of.id_is;
        children = back.children;
        are = ap (λ (b : List ℕ). map (bytes_at b) copy.request.stanzas) (sym of.body_is)
            ∙ ap (map (bytes_at (request_text of.request.parts))) (ap (λ (r : Request). r.stanzas) asked_so ∙ asked_stanzas of.request.parts back.children) ∙ back.are;
        asked = asked_so;
      }

  -- one after the creation
  later_of : (k : ℕ) (copy : RequestCopy) → IsCopyOf c c.setup.first (c.setup.first + suc k) copy → IsLater c c.setup.first k copy
  later_of k copy of =
      let place : of.place ≡ suc k = omega (arith, of.rid_is) in
      let here : slice_get c.requests (suc k) ≡ Some of.request = subst (λ (n : ℕ). slice_get c.requests n ≡ Some of.request) place of.here in
      let kept = keeping.each k of.request here in
      let keeps = kept.2 in
      let parts = of.request.parts in
      let asked : copy.request ≡ asked_for parts of.children None = of.asked ∙ ap (asked_for parts of.children) keeps.later in
      let id : id_of of.request ≡ c.setup.first + suc k = id_at c.setup.first c.requests (suc k) of.request ids here in
      let form = all_at (λ (request : Made). HasForm setup request.parts) c.requests of.place of.request (formed below setup w h) of.here in
      let known : IsOfSession parts = subst (IsKnown setup parts) keeps.later form.known in
      let pause : copy.request.pause ≡ parts.pause = ap (λ (r : Request). r.pause) asked in
      let extra : copies.is_extra copy ≡ is_extra parts = ap (λ (r : Request). is_some r.pause || r.terminate) asked in
      let count : length copy.request.stanzas ≡ length parts.payloads = sym (length-map copy.request.stanzas (bytes_at copy.body)) ∙ ap length of.are in
      let stream : copy.request.stream ≡ option_map name_of parts.stream = ap (λ (r : Request). r.stream) asked in
      let names : is_some copy.request.stream ≡ is_some parts.stream = ap is_some stream ∙ some_mapped parts.stream in
      let polls : copies.is_poll copy ≡ is_poll parts =
      ap (λ (n : ℕ). (((n == 0) && not (is_some copy.request.pause && not copy.request.terminate)) && not (copy.request.terminate || copy.request.restart)) && not (is_some copy.request.to && not (is_some copy.request.stream))) count
      ∙ ap (λ (b : Bool). (((length parts.payloads == 0) && not (is_some copy.request.pause && not copy.request.terminate)) && not (copy.request.terminate || copy.request.restart)) && not (is_some copy.request.to && not b)) names
      ∙ ap (λ (r : Request). (((length parts.payloads == 0) && not (is_some r.pause && not r.terminate)) && not (r.terminate || r.restart)) && not (is_some r.to && not (is_some parts.stream))) asked in
      let carries = all_at Carries c.requests of.place of.request (all_carry below setup c h.client) of.here in
      record {
        terms = kept.0;
        agrees = kept.1;
        request = of.request;
        here = here;
        poll_is = polls;
        stream_is = stream;
        fits = record {
          copies = record {
            stanzas_are = of.are ∙ carries.payloads;
            restart_is = ap (λ (r : Request). r.restart) asked ∙ carries.restart;
            stream_is = stream ∙ ap (option_map name_of) carries.stream;
            to_is = ap (λ (r : Request). r.to) asked ∙ carries.to;
            terminate_is = ap (λ (r : Request). r.terminate) asked ∙ carries.terminate;
            pause_is = pause ∙ carries.pause;
          };
          alone = carries.alone;
          small = subst (λ (o : Option ℕ). IfSome o (λ n. n < most_streams)) carries.stream known.stream;
        };
        keeps = record {
          near = omega (arith, keeps.near, ap (λ (r : Request). r.rid) asked, ap (reach (kept.0).requests) extra);
          short = λ seconds is. keeps.short seconds (sym pause ∙ is);
          alone = λ is. subst (AllBelow c) id (keeps.alone (sym polls ∙ is));
          key = ap (λ (r : Request). r.key) asked ∙ keeps.key;
          newkey = ap (λ (r : Request). r.newkey) asked ∙ keeps.newkey;
          ack = subst (λ (o : Option ℕ). IfSome o (λ ack. ack < lowest c)) (sym (ap (λ (r : Request). r.ack) asked)) (acked of.request (suc k) here keeps.later);
        };
      }
    where
      some_mapped : (o : Option ℕ) → is_some (option_map name_of o) ≡ is_some o
      some_mapped None = refl
      some_mapped (Some n) = refl

      acked : (request : Made) (place : ℕ) → slice_get c.requests place ≡ Some request → request.parts.creation ≡ None → IfSome request.parts.ack (λ ack. ack < lowest c)
      acked request place here later = by request.parts.creation later request.parts.ack (all_at (Acknowledges c) c.requests place request acknowledging here)
        where
          made_id : id_of request < c.setup.first + length c.requests
          made_id = omega (arith, id_at c.setup.first c.requests place request ids here, get_within c.requests place request here)

          of_ack : (ack : Option ℕ) → IfSome ack (λ n. (n < id_of request) × AllTaken c n) → IfSome ack (λ n. n < lowest c)
          of_ack None is = tt
          of_ack (Some ack) is = ack_low request ack made_id is

          by : (creation : Option (List ℕ × ℕ × ℕ)) → creation ≡ None → (ack : Option ℕ) → (elim creation as (λ _. Type 0) [ None ↦ IfSome ack (λ n. (n < id_of request) × AllTaken c n) | Some x ↦ ⊤ ])
              → IfSome ack (λ n. n < lowest c)
          by None none ack is = of_ack ack is
          by (Some x) none ack is = absurd (cc)

  -- what is in the network was made
  pub id_within : (rid : ℕ) (body : List ℕ) → at_id w.sent rid ≡ Some body → (c.setup.first ≤ rid) × (rid < next_id c)
  id_within rid body sent =
      let of = sent_is_of c.requests rid body (ap (λ (l : List (ℕ × List ℕ)). at_id l rid) (sym h.sent_is) ∙ sent) in
      let id = id_at c.setup.first c.requests of.place of.request ids of.here in
      (omega (arith, id, of.id_is), omega (arith, id, of.id_is, get_within c.requests of.place of.request of.here))

  -- a copy that arrives and is no creation is one after it
  pub later_arrives : (copy : RequestCopy) → at_id w.sent (copies.id_of copy) ≡ Some copy.body → IsReadFrom copy.body copy.request → ((sid : List ℕ) × (copy.request.kind ≡ kinds.Later sid))
      → (k : ℕ) × (copies.id_of copy ≡ c.setup.first + suc k) × IsLater c c.setup.first k copy
  later_arrives copy sent read later = by (copy_from copy sent read).place refl
    where
      other : (creation : Creation) → kinds.Creation creation ≡ kinds.Later later.0 → ⊥
      other creation is = cc

      by : (n : ℕ) → (copy_from copy sent read).place ≡ n → (k : ℕ) × (copies.id_of copy ≡ c.setup.first + suc k) × IsLater c c.setup.first k copy
      by zero first =
          let of = copy_from copy sent read in
          let request = of.request in
          let parts = keeping.first request (subst (λ (n : ℕ). slice_get c.requests n ≡ Some request) first of.here) in
          absurd (other _ (sym (ap (λ (r : Request). r.kind) (of.asked ∙ ap (λ (p : RequestParts). asked_by p of.children) parts)) ∙ later.1))
      by (suc k) place =
          let of = copy_from copy sent read in
          let id : copies.id_of copy ≡ c.setup.first + suc k = omega (arith, of.rid_is, place) in
          (k, id, later_of k copy (subst (λ (n : ℕ). IsCopyOf c c.setup.first n copy) id of))

  module _ (j : Journal) (made : IsJournal j) (opened : IsOpenedBy setup j.opening) (arrived : All (IsSent w.sent) (arrivals_of j)) where
    abbrev s : PlainSession
    s = state_of j

    pub first_is : first_of s ≡ c.setup.first
    first_is =
        ap (λ (copy : RequestCopy). copies.id_of copy) (every_creation j made) ∙ opened_rid below setup h.begins.client h.begins.first j.opening opened
        ∙ ap (λ (x : ClientSetup). x.first) (sym setup_is)

    pub copy_of : (rid : ℕ) (copy : RequestCopy) → IsReceived (placings_of j) rid copy → IsCopyOf c c.setup.first rid copy
    copy_of rid copy received =
        let came = (below.journals j made).arrived rid copy received in
        subst (λ (n : ℕ). IsCopyOf c c.setup.first n copy) received.0
        (copy_from copy (all_at (IsSent w.sent) (arrivals_of j) came.0 copy arrived came.1) (all_at (λ (other : RequestCopy). IsReadFrom other.body other.request) (arrivals_of j) came.0 copy (all_read j made) came.1))

    -- a copy that stands for an id was received with it
    standing_received : (rid : ℕ) (copy : RequestCopy) → standing_at s rid ≡ Some copy → IsReceived (placings_of j) rid copy
    standing_received rid copy stands = received_after (Stands (creation_of j.opening)) s.placings rid copy (((below.journals j made).stands rid copy).0 stands)

    pub later_stands : (k : ℕ) (copy : RequestCopy) → standing_at s (first_of s + 1 + k) ≡ Some copy → IsLater c c.setup.first k copy
    later_stands k copy stands =
        let came = standing_received (first_of s + 1 + k) copy stands in
        let rid : first_of s + 1 + k ≡ c.setup.first + suc k = omega (arith, first_is) in
        later_of k copy (subst (λ (n : ℕ). IsCopyOf c c.setup.first n copy) rid (copy_of (first_of s + 1 + k) copy came))

    pub later_processed : (k : ℕ) (copy : RequestCopy) → slice_get (copies_of s.processed) k ≡ Some copy → IsLater c c.setup.first k copy
    later_processed k copy is =
        let one = copy_at s.processed k copy is in
        later_stands k copy ((every_sound j made).stand k one.0 one.1 ∙ ap Some one.2)

    -- no more was processed than was made
    pub few_processed : last_of s < next_id c
    few_processed = by s.processed refl
      where
        by : (processed : List Processed) → s.processed ≡ processed → last_of s < next_id c
        by [] none =
            let run = (below.journals j made).run_each 0 s.creation refl in
            let of = copy_of (j.opening.request.rid + 0) s.creation run in
            omega (arith, first_is, ap length none, get_within c.requests of.place of.request of.here)
        by (one ∷ more) is =
            let k : ℕ = length more in
            let last = get_some s.processed k (omega (arith, ap length is)) in
            let came = standing_received (first_of s + 1 + k) last.0.copy ((every_sound j made).stand k last.0 last.1) in
            let of = copy_of (first_of s + 1 + k) last.0.copy came in
            omega (arith, first_is, ap length is, of.rid_is, get_within c.requests of.place of.request of.here)

-- Each answer that a client took is of its first id or a later one.

abbrev AreLater : PlainClient → Type 0
AreLater c = All (λ (answer : ℕ × Taken). c.setup.first ≤ answer.0) c.answers

first_step : (setup : ClientSetup) (c : PlainClient) (call : Call) → IsClient setup c → AreLater c → AreLater (step c call).0
first_step setup c call client h =
    step_by c (λ p. AreLater p.0) (λ reply quiet. h) (λ item. h) (λ now due left next. h)
    (λ rid t made none reads fine.
    let P : ℕ × Taken → Type 0 = λ answer. c.setup.first ≤ answer.0 in
    All-append P c.answers ((rid, t) ∷ []) h (All-cons P (rid, t) [] (low rid made) (All-nil P)))
    (λ payload next. h) call
  where
    low : (rid : ℕ) → is_some (request_at c rid) ≡ true → c.setup.first ≤ rid
    low rid made = elim (cases_lt rid c.setup.first) [
      | inl below ↦ absurd (
          let none : is_some (request_at c rid) ≡ false = unmade_low c rid client.ids below in
          cc)
      | inr from ↦ from
    ]

first_after : (setup : ClientSetup) (c : PlainClient) (list : List Call) → IsClient setup c → AreLater c → AreLater (after c list)
first_after setup c [] client h = h
first_after setup c (call ∷ list) client h = first_after setup (step c call).0 list (step_is setup c call client) (first_step setup c call client h)

pub answers_first : (setup : ClientSetup) → 1 ≤ setup.first → (c : PlainClient) → IsRunClient setup c → All (λ (answer : ℕ × Taken). c.setup.first ≤ answer.0) c.answers
answers_first setup some c run =
    subst AreLater (sym run.is) (first_after setup (new_client setup) run.calls (new_is setup some) (All-nil (λ (answer : ℕ × Taken). setup.first ≤ answer.0)))
