-- Each request that a client makes has the form for reading back.
use Rattle.std.proofs.Common.{◌≡◌, ◌≢◌, ℕ, ◌+◌, ◌-◌, ◌*◌, ◌<◌, ◌≤◌, ◌^◌, Bool, true, false, ◌&&◌, cond, min, List, [], ◌∷◌, ◌++◌, length, Some, None, refl, sym, ◌∙◌, ap, subst, arith, lit<, length-append, if◌then◌else◌}
use Rattle.std.specs.Prelude.{Option, Result, Ok, Err, IfSome, IsTrue, ⊤, ◌==◌, nat_le, nat_lt, not, is_some}
use Rattle.std.specs.Char.{is_ascii_digit}
use Rattle.std.specs.List.{All, find}
use Rattle.std.specs.Option.{option_map, unwrap_or}
use Rattle.std.specs.Str.{all_ascii_digits}
use Rattle.std.proofs.Math.Nat.{pow-le-pow_right}
use Rattle.std.proofs.lemmas.Bool.{and_parts, leb-true}
use Rattle.std.proofs.lemmas.Bool.Decides.{nat_tests}
use Rattle.std.proofs.lemmas.List.Elements.{All-append, All-cons, All-head, All-drop, All-nil, All-tail, All-take}
use Rattle.std.proofs.lemmas.List.Sums.{sum_by-cons}
use Rattle.bosh_types.specs.Limits.{longest_stanza, most_children}
use Rattle.bosh_types.specs.Rid.{IsRid, greatest_rid}
use Rattle.bosh_types.specs.ById.{at_id}
use Rattle.bosh_types.specs.Decimal.{number_after}
use Rattle.bosh_types.proofs.ById.{at_id-push_other}
use Rattle.body_cutter.specs.declared.parts.Cut.{Cut}
use Rattle.body_cutter.specs.declared.parts.CutRefusal.{CutRefusal}
use Rattle.body_cutter.specs.Built.{IsElementWithin}
use Rattle.body_cutter.specs.Chars.{is_allowed}
use Rattle.body_cutter.specs.Cutting as cutting
use Rattle.body_cutter.specs.Cutting.{body_cut_of}
use Rattle.body_cutter.specs.Utf8.{IsUtf8Of}
use Rattle.body_cutter.proofs.Cuts.{stanza_is}
use Rattle.body_writer.specs.declared.request.RequestParts.{RequestParts}
use Rattle.body_writer.specs.Attribute.{joined}
use Rattle.body_writer.specs.ReadBack.{ArePayloads, IsKey, IsRequest, IsWord, IsStream}
use Rattle.session_attrs.specs.Forms.{is_number, number_of}
use Rattle.session_attrs.specs.Rows.{Says, told}
use Rattle.session_attrs.proofs.NumberLemmas.{below_power}
use Rattle.session_attrs.proofs.ServingLemmas.{allowed_text}
use Rattle.bosh_client.specs.declared.agreed.Agreed.{Agreed}
use Rattle.bosh_client.specs.declared.outgoing.Outgoing.{Outgoing}
use Rattle.bosh_client.specs.declared.outgoing.Outgoing.TheVariants as outgoing
use Rattle.bosh_client.specs.declared.setup.ClientSetup.{ClientSetup}
use Rattle.bosh_client.specs.declared.told.Told.{Told}
use Rattle.bosh_client.specs.AnswerMeaning.{MeansAnswer}
use Rattle.bosh_client.specs.AnswerReading.{answer_in, answer_of, payloads_at}
use Rattle.bosh_client.specs.AnswerValues.{AnswerValues, values_of}
use Rattle.bosh_client.specs.Keys.{announcement, key_at, newkey_at, number_at, seed_of, sequence_at}
use Rattle.bosh_client.specs.Machine.{allows_pause, new_client, next_made, with_answer, with_request}
use Rattle.bosh_client.specs.Outgoing.{front_of, host_in, longest_front, pause_in, size_of, size_of_all, stanzas_in, stream_in}
use Rattle.bosh_client.specs.PlainClient.{Made, Taken, PlainClient, id_of, is_answered, lowest, next_id, queued, taken}
use Rattle.bosh_client.specs.Promises.{HasForm, IsName, IsNamed, IsOfSession}
use Rattle.bosh_client.specs.ReadBack.{greatest_number}
use Rattle.bosh_client.specs.Requests.{ack_for, agreed, agreed_by, creation_parts, later_parts, later_requests, with_keys}
use Rattle.bosh_client.specs.Runs.{Call, Put, PutOn, Add, CloseStream, Restart, Pause, Terminate, NextRequest, Answer, HandOut, IsAllowed, IsHost, after, client_after, step}
use Rattle.bosh_client.specs.Setup.{is_setup}
use Rattle.bosh_client.specs.StandsFor.{AreFrom}
use Rattle.bosh_client.proofs.Fronts.{fits_parts, front_take, longest_few, longest_fits}
use Rattle.bosh_client.proofs.KeyForms.{key_form, number_some}
use Rattle.bosh_client.proofs.RequestSizes.{request_fits}
use Rattle.bosh_client.proofs.RunLemmas.{IsClient, MayQueue, by_if, client_is, new_is, step_is, step_with}
use Rattle.bosh_client.proofs.OpenLemmas.{at_least, first_of_these}
use Rattle.bosh_client.proofs.ReadingLemmas.{told_is}
use Rattle.bosh_client.proofs.SetupLemmas.{keys_range, setup_parts}
use Rattle.bosh_client.proofs.StreamLemmas.{stream_small}

-- What is queued.

-- a stanza by itself, 1 second to those of 9 digits, a host, and one of eight streams
abbrev IsItem : Outgoing → Type 0
IsItem (outgoing.Stanza on bytes) = IsTrue (cutting.is_stanza bytes) × IfSome on IsStream
IsItem outgoing.Restart = ⊤
IsItem (outgoing.Pause seconds) = (1 ≤ seconds) × (seconds ≤ greatest_number)
IsItem (outgoing.Add to) = IsHost to
IsItem (outgoing.Close stream) = IsStream stream
IsItem outgoing.Terminate = ⊤

-- What one body takes.

-- stanzas of at most 1,000,000 bytes
front_size : (items : List Outgoing) → size_of_all (front_of items) ≤ longest_stanza
front_size [] = omega arith
front_size (outgoing.Stanza on bytes ∷ items) =
    let all = outgoing.Stanza on bytes ∷ items in
    (fits_parts (longest_front (min most_children (length all)) all) (longest_fits (min most_children (length all)) all)).1
front_size (outgoing.Restart ∷ items) = omega arith
front_size (outgoing.Pause seconds ∷ items) = omega arith
front_size (outgoing.Add to ∷ items) = omega arith
front_size (outgoing.Close stream ∷ items) = omega arith
front_size (outgoing.Terminate ∷ items) = omega arith

front_few : (items : List Outgoing) → length (front_of items) ≤ 1024
front_few [] = omega arith
front_few (outgoing.Stanza on bytes ∷ items) =
    let all = outgoing.Stanza on bytes ∷ items in
    omega (arith, longest_few (min most_children (length all)) all)
front_few (outgoing.Restart ∷ items) = omega arith
front_few (outgoing.Pause seconds ∷ items) = omega arith
front_few (outgoing.Add to ∷ items) = omega arith
front_few (outgoing.Close stream ∷ items) = omega arith
front_few (outgoing.Terminate ∷ items) = omega arith

front_items : (items : List Outgoing) → All IsItem items → All IsItem (front_of items)
front_items items all = subst (λ (front : List Outgoing). All IsItem front) (sym (front_take items)) (All-take IsItem (length (front_of items)) items all)

joined_long : (items : List Outgoing) → length (joined (stanzas_in items)) ≡ size_of_all items
joined_long [] = refl
joined_long (outgoing.Stanza on bytes ∷ items) =
    omega (arith, length-append bytes (joined (stanzas_in items)), joined_long items, sum_by-cons size_of (outgoing.Stanza on bytes) items)
joined_long (outgoing.Restart ∷ items) = omega (arith, joined_long items, sum_by-cons size_of outgoing.Restart items)
joined_long (outgoing.Pause seconds ∷ items) = omega (arith, joined_long items, sum_by-cons size_of (outgoing.Pause seconds) items)
joined_long (outgoing.Add to ∷ items) = omega (arith, joined_long items, sum_by-cons size_of (outgoing.Add to) items)
joined_long (outgoing.Close stream ∷ items) = omega (arith, joined_long items, sum_by-cons size_of (outgoing.Close stream) items)
joined_long (outgoing.Terminate ∷ items) = omega (arith, joined_long items, sum_by-cons size_of outgoing.Terminate items)

stanzas_few : (items : List Outgoing) → length (stanzas_in items) ≤ length items
stanzas_few [] = omega arith
stanzas_few (outgoing.Stanza on bytes ∷ items) = omega (arith, stanzas_few items)
stanzas_few (outgoing.Restart ∷ items) = omega (arith, stanzas_few items)
stanzas_few (outgoing.Pause seconds ∷ items) = omega (arith, stanzas_few items)
stanzas_few (outgoing.Add to ∷ items) = omega (arith, stanzas_few items)
stanzas_few (outgoing.Close stream ∷ items) = omega (arith, stanzas_few items)
stanzas_few (outgoing.Terminate ∷ items) = omega (arith, stanzas_few items)

element : (bytes : List ℕ) → IsTrue (cutting.is_stanza bytes) → IsElementWithin 32 64 bytes
element bytes is =
    let stanza = (stanza_is bytes).0 is in
    (stanza.1, stanza.2, stanza.3.attributes, stanza.3.depth)

elements : (items : List Outgoing) → All IsItem items → All (IsElementWithin 32 64) (stanzas_in items)
elements [] all = All-nil (IsElementWithin 32 64)
elements (outgoing.Stanza on bytes ∷ items) all =
    All-cons (IsElementWithin 32 64) bytes (stanzas_in items) (element bytes (All-head IsItem (outgoing.Stanza on bytes) items all).0) (elements items (All-tail IsItem (outgoing.Stanza on bytes) items all))
elements (outgoing.Restart ∷ items) all = elements items (All-tail IsItem outgoing.Restart items all)
elements (outgoing.Pause seconds ∷ items) all = elements items (All-tail IsItem (outgoing.Pause seconds) items all)
elements (outgoing.Add to ∷ items) all = elements items (All-tail IsItem (outgoing.Add to) items all)
elements (outgoing.Close stream ∷ items) all = elements items (All-tail IsItem (outgoing.Close stream) items all)
elements (outgoing.Terminate ∷ items) all = elements items (All-tail IsItem outgoing.Terminate items all)

abbrev IsPause : ℕ → Type 0
IsPause seconds = (1 ≤ seconds) × (seconds ≤ greatest_number)

pause_word : (items : List Outgoing) → All IsItem items → IfSome (pause_in items) IsPause
pause_word [] all = tt
pause_word (outgoing.Stanza on bytes ∷ items) all = pause_word items (All-tail IsItem (outgoing.Stanza on bytes) items all)
pause_word (outgoing.Restart ∷ items) all = pause_word items (All-tail IsItem outgoing.Restart items all)
pause_word (outgoing.Pause seconds ∷ items) all = All-head IsItem (outgoing.Pause seconds) items all
pause_word (outgoing.Add to ∷ items) all = pause_word items (All-tail IsItem (outgoing.Add to) items all)
pause_word (outgoing.Close stream ∷ items) all = pause_word items (All-tail IsItem (outgoing.Close stream) items all)
pause_word (outgoing.Terminate ∷ items) all = pause_word items (All-tail IsItem outgoing.Terminate items all)

host_word : (items : List Outgoing) → All IsItem items → IfSome (host_in items) IsHost
host_word [] all = tt
host_word (outgoing.Stanza on bytes ∷ items) all = host_word items (All-tail IsItem (outgoing.Stanza on bytes) items all)
host_word (outgoing.Restart ∷ items) all = host_word items (All-tail IsItem outgoing.Restart items all)
host_word (outgoing.Pause seconds ∷ items) all = host_word items (All-tail IsItem (outgoing.Pause seconds) items all)
host_word (outgoing.Add to ∷ items) all = All-head IsItem (outgoing.Add to) items all
host_word (outgoing.Close stream ∷ items) all = host_word items (All-tail IsItem (outgoing.Close stream) items all)
host_word (outgoing.Terminate ∷ items) all = host_word items (All-tail IsItem outgoing.Terminate items all)

stream_word : (items : List Outgoing) → All IsItem items → IfSome (stream_in items) IsStream
stream_word [] all = tt
stream_word (outgoing.Stanza on bytes ∷ items) all = (All-head IsItem (outgoing.Stanza on bytes) items all).1
stream_word (outgoing.Restart ∷ items) all = tt
stream_word (outgoing.Pause seconds ∷ items) all = tt
stream_word (outgoing.Add to ∷ items) all = tt
stream_word (outgoing.Close stream ∷ items) all = All-head IsItem (outgoing.Close stream) items all
stream_word (outgoing.Terminate ∷ items) all = tt

-- The parts of a request.

-- the digits of a key, where there is one
abbrev IsKeyText : List ℕ → Type 0
IsKeyText key = IsKey key × (length key ≡ 40)

keys_form : (setup : ClientSetup) (key : Option (List ℕ)) → ((setup.keys == 0) ≡ false → IfSome key IsKeyText) → IfSome (with_keys setup key) IsKeyText
keys_form setup key is = by (setup.keys == 0) is
  where
    by : (b : Bool) → (b ≡ false → IfSome key IsKeyText) → IfSome (if b then None else key) IsKeyText
    by true is = tt
    by false is = is refl

newkey_form : (seed : List ℕ) (keys later : ℕ) → 2 ≤ keys → IfSome (newkey_at seed keys later) IsKeyText
newkey_form seed keys later some =
    by_if (λ (o : Option (List ℕ)). IfSome o IsKeyText) (number_at keys later == 1) _ _
    (λ _. key_form (seed_of seed (sequence_at keys later + 1)) keys (omega (arith, some))) (λ _. tt)

key_digits : (key : Option (List ℕ)) → IfSome key IsKeyText → IfSome key IsKey × IfSome key (λ k. length k ≤ 40)
key_digits None is = (tt, tt)
key_digits (Some key) is = (is.0, omega (arith, is.1))

pause_fits : (pause : Option ℕ) → IfSome pause IsPause → IfSome pause IsWord
pause_fits None is = tt
pause_fits (Some seconds) is = omega (arith, is.1)

-- a request whose text is short has the form
record IsWhole (parts : RequestParts) : Type 0 where
  rid : IsRid parts.rid
  sid : IfSome parts.sid IsName
  stream : IfSome parts.stream IsStream
  to : IfSome parts.to IsHost
  creation : IfSome parts.creation (λ creation. IsUtf8Of is_allowed creation.0 × (length creation.0 ≤ 1023) × IsWord creation.1 × IsWord creation.2)
  ack : IfSome parts.ack IsWord
  key : IfSome parts.key IsKeyText
  newkey : IfSome parts.newkey IsKeyText
  pause : IfSome parts.pause IsPause
  payloads : ArePayloads parts.payloads
  few : length (joined parts.payloads) ≤ 1000000

form_request : (parts : RequestParts) → IsWhole parts → IsRequest parts
form_request parts h = record {
  rid = h.rid;
  sid = of_sid parts.sid h.sid;
  stream = h.stream;
  to = of_host parts.to h.to;
  creation = of_creation parts.creation h.creation;
  ack = h.ack;
  key = (key_digits parts.key h.key).0;
  newkey = (key_digits parts.newkey h.newkey).0;
  pause = pause_fits parts.pause h.pause;
  payloads = h.payloads;
  fits =
      request_fits parts (record {
        rid = omega (arith, h.rid.1);
        sid = short_sid parts.sid h.sid;
        stream = h.stream;
        to = short_host parts.to h.to;
        creation = short_creation parts.creation h.creation;
        ack = h.ack;
        key = (key_digits parts.key h.key).1;
        newkey = (key_digits parts.newkey h.newkey).1;
        pause = pause_fits parts.pause h.pause;
        payloads = h.few;
      });
}
  where
    of_sid : (sid : Option (List ℕ)) → IfSome sid IsName → IfSome sid (IsUtf8Of is_allowed)
    of_sid None is = tt
    of_sid (Some sid) is = is.0

    short_sid : (sid : Option (List ℕ)) → IfSome sid IsName → IfSome sid (λ sid. length sid ≤ 1024)
    short_sid None is = tt
    short_sid (Some sid) is = is.1

    of_host : (to : Option (List ℕ)) → IfSome to IsHost → IfSome to (IsUtf8Of is_allowed)
    of_host None is = tt
    of_host (Some to) is = (allowed_text to is.2).1

    short_host : (to : Option (List ℕ)) → IfSome to IsHost → IfSome to (λ to. length to ≤ 1023)
    short_host None is = tt
    short_host (Some to) is = is.1

    of_creation : (creation : Option (List ℕ × ℕ × ℕ)) → IfSome creation (λ creation. IsUtf8Of is_allowed creation.0 × (length creation.0 ≤ 1023) × IsWord creation.1 × IsWord creation.2)
        → IfSome creation (λ creation. IsUtf8Of is_allowed creation.0 × IsWord creation.1 × IsWord creation.2)
    of_creation None is = tt
    of_creation (Some creation) is = (is.0, is.2, is.3)

    short_creation : (creation : Option (List ℕ × ℕ × ℕ)) → IfSome creation (λ creation. IsUtf8Of is_allowed creation.0 × (length creation.0 ≤ 1023) × IsWord creation.1 × IsWord creation.2)
        → IfSome creation (λ creation. (length creation.0 ≤ 1023) × IsWord creation.1 × IsWord creation.2)
    short_creation None is = tt
    short_creation (Some creation) is = (is.1, is.2, is.3)

creation_form : (setup : ClientSetup) → is_setup setup ≡ true → IsRid setup.first → IsWhole (creation_parts setup)
creation_form setup is first =
    let parts = setup_parts setup is in
    record {
      rid = first;
      sid = tt;
      stream = tt;
      to = tt;
      creation = (parts.to, parts.long, omega (arith, parts.wait), omega (arith, parts.hold));
      ack = by_if (λ (o : Option ℕ). IfSome o IsWord) setup.ack (Some 1) None (λ _. omega arith) (λ _. tt);
      key = tt;
      newkey =
          keys_form setup (Some (announcement setup.seed setup.keys 0))
          (λ keyed.
          let range = keys_range setup is keyed in
          key_form (seed_of setup.seed 0) setup.keys (omega (arith, range.0)));
      pause = tt;
      payloads = (All-nil (IsElementWithin 32 64), omega arith);
      few = omega arith;
    }

-- the creation's answer was taken, so the lowest id without one is a later one
past_first : (c : PlainClient) (xs : List Made) → AreFrom c.setup.first xs → c.setup.first < c.setup.first + length xs → is_some (taken c c.setup.first) ≡ true
    → c.setup.first + 1 ≤ first_of_these (λ r. not (is_answered c r)) xs (c.setup.first + length xs)
past_first c [] are some has = absurd (omega (arith, some))
past_first c (x ∷ xs) are some has =
    let answered : not (is_answered c x) ≡ false = ap not (ap (λ n. is_some (taken c n)) are.0 ∙ has) in
    let rest : c.setup.first + 1 ≤ first_of_these (λ r. not (is_answered c r)) xs (c.setup.first + length (x ∷ xs)) =
    at_least (λ r. not (is_answered c r)) (c.setup.first + 1) (c.setup.first + length (x ∷ xs)) xs are.1 (omega arith) in
    subst (λ b. c.setup.first + 1 ≤ unwrap_or (option_map id_of (cond b (Some x) (find (λ r. not (is_answered c r)) xs))) (c.setup.first + length (x ∷ xs))) (sym answered) rest

known_below : (answers : List (ℕ × Taken)) (rid n : ℕ) → All (λ (a : ℕ × Taken). a.0 < n) answers → is_some (at_id answers rid) ≡ true → rid < n
known_below [] rid n known has = absurd (cc)
known_below (answer ∷ answers) rid n known has =
    by (answer.0 == rid) refl has (All-head (λ (a : ℕ × Taken). a.0 < n) answer answers known) (known_below answers rid n (All-tail (λ (a : ℕ × Taken). a.0 < n) answer answers known))
  where
    by : (b : Bool) → (answer.0 == rid) ≡ b → is_some (if b then Some answer.1 else at_id answers rid) ≡ true → answer.0 < n → (is_some (at_id answers rid) ≡ true → rid < n) → rid < n
    by true same has lower later = grind (arith, nat_tests, same)
    by false same has lower later = later has

agreed_answered : (c : PlainClient) (a : Agreed) → agreed c ≡ Some a → is_some (taken c c.setup.first) ≡ true
agreed_answered c a is = by (taken c c.setup.first) is
  where
    by : (o : Option Taken) → option_map (λ (answer : Taken). agreed_by c.setup answer.tells) o ≡ Some a → is_some o ≡ true
    by None is = absurd (cc)
    by (Some answer) is = refl

first_passed : (c : PlainClient) (a : Agreed) → AreFrom c.setup.first c.requests → All (λ (answer : ℕ × Taken). answer.0 < next_id c) c.answers → agreed c ≡ Some a → c.setup.first + 1 ≤ lowest c
first_passed c a ids known is =
    let has = agreed_answered c a is in
    past_first c c.requests ids (known_below c.answers c.setup.first (next_id c) known has) has

ack_form : (c : PlainClient) (a : Agreed) → 1 ≤ c.setup.first → c.setup.first + 1 ≤ lowest c → IfSome (ack_for c a) (λ ack. (1 ≤ ack) × (ack < next_id c))
ack_form c a some past = by (a.acks && nat_lt (lowest c) (next_id c)) refl
  where
    second : (x y : Bool) → (x && y) ≡ true → y ≡ true
    second true y is = is
    second false y is = absurd (cc)

    by : (b : Bool) → (a.acks && nat_lt (lowest c) (next_id c)) ≡ b → IfSome (if b then Some (lowest c - 1) else None) (λ ack. (1 ≤ ack) × (ack < next_id c))
    by false is = tt
    by true is =
        let test : nat_lt (lowest c) (next_id c) ≡ true = second a.acks _ is in
        let lower : lowest c < next_id c = grind (arith, nat_tests, test) in
        (omega (arith, some, past), omega (arith, some, past, lower))

ack_word : (ack : Option ℕ) (rid : ℕ) → rid ≤ greatest_rid → IfSome ack (λ ack. (1 ≤ ack) × (ack < rid)) → IfSome ack IsWord
ack_word None rid left is = tt
ack_word (Some ack) rid left is = omega (arith, left, is.1)

later_form : (c : PlainClient) (a : Agreed) (items : List Outgoing) → is_setup c.setup ≡ true → 1 ≤ c.setup.first → c.setup.first + 1 ≤ lowest c → next_id c ≤ greatest_rid → IsName a.sid → All IsItem items
    → IsWhole (later_parts c a (front_of items))
later_form c a items is some past left name all =
    let front = front_of items in
    let fit : All IsItem front = front_items items all in
    record {
      rid = (omega (arith, some), left);
      sid = name;
      stream = stream_word front fit;
      to = host_word front fit;
      creation = tt;
      ack = ack_word (ack_for c a) (next_id c) left (ack_form c a some past);
      key =
          keys_form c.setup (Some (key_at c.setup.seed c.setup.keys (later_requests c)))
          (λ keyed.
          let range = keys_range c.setup is keyed in
          key_form (seed_of c.setup.seed (sequence_at c.setup.keys (later_requests c))) (number_at c.setup.keys (later_requests c)) (number_some c.setup.keys (later_requests c) range.0));
      newkey =
          keys_form c.setup (newkey_at c.setup.seed c.setup.keys (later_requests c))
          (λ keyed. newkey_form c.setup.seed c.setup.keys (later_requests c) (keys_range c.setup is keyed).0);
      pause = pause_word front fit;
      payloads = (elements front fit, omega (arith, stanzas_few front, front_few items));
      few = omega (arith, joined_long front, front_size items);
    }

-- a later request is one for the session
later_known : (c : PlainClient) (a : Agreed) (items : List Outgoing) → 1 ≤ c.setup.first → c.setup.first + 1 ≤ lowest c → All IsItem items → IsOfSession (later_parts c a (front_of items))
later_known c a items some past all =
    let front = front_of items in
    let fit : All IsItem front = front_items items all in
    record { sid = refl; stream = stream_word front fit; to = host_word front fit; ack = ack_form c a some past; pause = pause_word front fit }

-- What is agreed allows pauses of 9 digits at most.

digit_few : (b : ℕ) → is_ascii_digit b ≡ true → b - 48 ≤ 9
digit_few b is =
    let tests = and_parts _ _ is in
    omega (arith, leb-true b 57 tests.1)

-- with so many digits before them these are 9 digits at most
digits_few : (text : List ℕ) (n i : ℕ) → all_ascii_digits text ≡ true → length text + i ≤ 9 → n < 10 ^ i → number_after n text < 10 ^ 9
digits_few [] n i all few low =
    let most : 10 ^ i ≤ 10 ^ 9 = pow-le-pow_right {n = 10} (lit< tt) {i = i} {j = 9} (omega (arith, few)) in
    omega (arith, low, most)
digits_few (b ∷ text) n i all few low =
    let parts = and_parts (is_ascii_digit b) (all_ascii_digits text) all in
    digits_few text (n * 10 + (b - 48)) (i + 1) parts.1 (omega (arith, few)) (below_power i n (b - 48) low (digit_few b parts.0))

number_few : (text : List ℕ) (n : ℕ) → number_of text ≡ Some n → n ≤ greatest_number
unfolding number_of
number_few text n is = by (is_number text) refl is
  where
    by : (b : Bool) → is_number text ≡ b → (if b then Some (number_after 0 text) else None) ≡ Some n → n ≤ greatest_number
    by false test none = absurd (cc)
    by true test some =
        let parts = and_parts (nat_le 1 (length text) && nat_le (length text) 9) (all_ascii_digits text) test in
        let sizes = and_parts (nat_le 1 (length text)) (nat_le (length text) 9) parts.0 in
        let same : number_after 0 text ≡ n = cc in
        omega (arith, same, digits_few text 0 0 parts.1 (omega (arith, leb-true (length text) 9 sizes.1)) (omega arith))

told_few : (v : AnswerValues) (payloads : List (List ℕ)) (t : Told) → MeansAnswer v payloads t → IfSome t.maxpause (λ n. n ≤ greatest_number)
told_few v payloads t means = by v.maxpause t.maxpause means.maxpause
  where
    of_number : (o : Option ℕ) (maxpause : Option ℕ) (text : List ℕ) → number_of text ≡ o → option_map Some o ≡ Some maxpause → IfSome maxpause (λ n. n ≤ greatest_number)
    of_number None maxpause text is said = absurd (cc)
    of_number (Some n) None text is said = tt
    of_number (Some n) (Some m) text is said =
        let same : n ≡ m = cc in
        omega (arith, number_few text n is, same)

    by : (value : Option (List ℕ)) (maxpause : Option ℕ) → Says (told number_of) None value maxpause → IfSome maxpause (λ n. n ≤ greatest_number)
    by None None says = tt
    by None (Some m) says = absurd (cc)
    by (Some text) maxpause says = of_number (number_of text) maxpause text refl says

answer_few : (body : List ℕ) (t : Told) → answer_of body ≡ Ok t → IfSome t.maxpause (λ n. n ≤ greatest_number)
unfolding answer_of
answer_few body t is = by (body_cut_of body) is
  where
    by : (r : Result Cut CutRefusal) → answer_in body r ≡ Ok t → IfSome t.maxpause (λ n. n ≤ greatest_number)
    by (Ok cut) is = told_few (values_of body cut.attrs) (payloads_at body cut.children) t (told_is (values_of body cut.attrs) (payloads_at body cut.children) t is)
    by (Err refusal) is = absurd (cc)

answers_few : (answers : List (ℕ × Taken)) (rid : ℕ) (t : Taken) → All (λ (a : ℕ × Taken). answer_of a.1.body ≡ Ok a.1.tells) answers → at_id answers rid ≡ Some t → IfSome t.tells.maxpause (λ n. n ≤ greatest_number)
answers_few [] rid t reads is = absurd (cc)
answers_few (answer ∷ answers) rid t reads is =
    let P : ℕ × Taken → Type 0 = λ a. answer_of a.1.body ≡ Ok a.1.tells in
    by (answer.0 == rid) is (All-head P answer answers reads) (answers_few answers rid t (All-tail P answer answers reads))
  where
    by : (b : Bool) → (if b then Some answer.1 else at_id answers rid) ≡ Some t → answer_of answer.1.body ≡ Ok answer.1.tells → (at_id answers rid ≡ Some t → IfSome t.tells.maxpause (λ n. n ≤ greatest_number)) → IfSome t.tells.maxpause (λ n. n ≤ greatest_number)
    by true is read later =
        let same : answer.1 ≡ t = cc in
        subst (λ (x : Taken). IfSome x.tells.maxpause (λ n. n ≤ greatest_number)) same (answer_few answer.1.body answer.1.tells read)
    by false is read later = later is

pause_allowed : (c : PlainClient) (seconds : ℕ) → All (λ (a : ℕ × Taken). answer_of a.1.body ≡ Ok a.1.tells) c.answers → allows_pause (agreed c) seconds ≡ true → IsPause seconds
pause_allowed c seconds reads = by (taken c c.setup.first) refl
  where
    few : (maxpause : Option ℕ) → IfSome maxpause (λ n. n ≤ greatest_number) → unwrap_or maxpause 0 ≤ greatest_number
    few None is = omega arith
    few (Some n) is = is

    by : (o : Option Taken) → taken c c.setup.first ≡ o → allows_pause (option_map (λ (answer : Taken). agreed_by c.setup answer.tells) o) seconds ≡ true → IsPause seconds
    by None is allows = absurd (cc)
    by (Some answer) is allows =
        let tests = and_parts (nat_lt 0 seconds) (nat_le seconds (unwrap_or answer.tells.maxpause 0)) allows in
        let most = few answer.tells.maxpause (answers_few c.answers c.setup.first answer reads is) in
        let within : seconds ≤ unwrap_or answer.tells.maxpause 0 = leb-true seconds (unwrap_or answer.tells.maxpause 0) tests.1 in
        (grind (arith, nat_tests, tests.0), omega (arith, most, within))

-- After any calls.

abbrev Forms : PlainClient → List Made → Type 0
Forms c requests = All (λ (request : Made). HasForm c.setup request.parts) requests

record IsFormed (c : PlainClient) : Type 0 where
  items : All IsItem c.accepted
  forms : IsNamed c → Forms c c.requests

with_made : (c : PlainClient) (request : Made) → IsFormed c → (IsNamed c → HasForm c.setup request.parts) → IsFormed (record c { requests = c.requests ++ request ∷ [] })
with_made c request h form =
    let P : Made → Type 0 = λ r. HasForm c.setup r.parts in
    record {
      items = h.items;
      forms = λ named. All-append P c.requests (request ∷ []) (h.forms named) (All-cons P request [] (form named) (All-nil P));
    }

made_form : (setup : ClientSetup) (c : PlainClient) → is_setup c.setup ≡ true → IsClient setup c → next_id c ≤ greatest_rid → IsFormed c → IsFormed (with_request c (next_made c (agreed c))).0
made_form setup c is client left h = with_made c (next_made c (agreed c)) h (by (agreed c) refl)
  where
    by : (o : Option Agreed) → agreed c ≡ o → IfSome o (λ a. IsName a.sid) → HasForm c.setup (next_made c o).parts
    by None agrees named = record { form = form_request (creation_parts c.setup) (creation_form c.setup is (client.first, omega (arith, left))); known = refl }
    by (Some a) agrees named =
        let past = first_passed c a client.ids client.known agrees in
        let items = All-drop IsItem _ c.accepted h.items in
        record {
          form = form_request (later_parts c a (front_of (queued c))) (later_form c a (queued c) is client.first past left named items);
          known = later_known c a (queued c) client.first past items;
        }

answered_form : (c : PlainClient) (rid : ℕ) (t : Taken) → taken c rid ≡ None → IsFormed c → IsFormed (with_answer c rid t)
answered_form c rid t none h = record { items = h.items; forms = by (taken c c.setup.first) refl h.forms }
  where
    by : (o : Option Taken) → taken c c.setup.first ≡ o → (IfSome (option_map (λ (answer : Taken). agreed_by c.setup answer.tells) o) (λ a. IsName a.sid) → Forms c c.requests)
        → IsNamed (with_answer c rid t) → Forms c c.requests
    by None is forms named = forms tt
    by (Some answer) is forms named =
        let other : c.setup.first ≢ rid = λ same.
        let one : is_some (taken c c.setup.first) ≡ true = ap is_some is in
        let two : is_some (taken c c.setup.first) ≡ false = ap (λ n. is_some (taken c n)) same ∙ ap is_some none in
        cc in
        let still : taken (with_answer c rid t) c.setup.first ≡ Some answer = at_id-push_other c.answers rid c.setup.first t other ∙ is in
        forms (subst (λ (o : Option Taken). IfSome (option_map (λ (a : Taken). agreed_by c.setup a.tells) o) (λ a. IsName a.sid)) still named)

queues : (setup : ClientSetup) (c : PlainClient) (call : Call) → IsClient setup c → IsAllowed call → MayQueue c IsItem call
queues setup c (Put stanza) client allowed = (allowed, tt)
queues setup c (PutOn stream stanza) client allowed = λ has. (allowed, stream_small c stream has)
queues setup c (Add to) client allowed = λ room. allowed
queues setup c (CloseStream stream) client allowed = λ has. stream_small c stream has
queues setup c Restart client allowed = tt
queues setup c (Pause seconds) client allowed = pause_allowed c seconds client.reads
queues setup c Terminate client allowed = tt
queues setup c (NextRequest now) client allowed = tt
queues setup c (Answer rid body now) client allowed = tt
queues setup c HandOut client allowed = tt

formed_step : (setup : ClientSetup) (c : PlainClient) (call : Call) → is_setup setup ≡ true → IsAllowed call → IsClient setup c → IsFormed c → IsFormed (step c call).0
formed_step setup c call is allowed client h =
    let valid : is_setup c.setup ≡ true = ap is_setup client.begins ∙ is in
    step_with c IsItem (λ p. IsFormed p.0) (λ reply quiet. h)
    (λ item such. record { items = All-append IsItem c.accepted (item ∷ []) h.items (All-cons IsItem item [] such (All-nil IsItem)); forms = h.forms })
    (λ now due left next. made_form setup c valid client left h) (λ rid t made none reads fine. answered_form c rid t none h)
    (λ payload next. record { items = h.items; forms = h.forms }) call (queues setup c call client allowed)

formed_after : (setup : ClientSetup) (c : PlainClient) (calls : List Call) → is_setup setup ≡ true → All IsAllowed calls → IsClient setup c → IsFormed c → IsFormed (after c calls)
formed_after setup c [] is all client h = h
formed_after setup c (call ∷ calls) is all client h =
    formed_after setup (step c call).0 calls is (All-tail IsAllowed call calls all) (step_is setup c call client)
    (formed_step setup c call is (All-head IsAllowed call calls all) client h)

pub requests_formed : (setup : ClientSetup) (calls : List Call) → is_setup setup ≡ true → 1 ≤ setup.first → All IsAllowed calls → IsNamed (client_after setup calls)
    → All (λ (request : Made). HasForm setup request.parts) (client_after setup calls).requests
requests_formed setup calls is some all named =
    let c = client_after setup calls in
    let new : IsFormed (new_client setup) = record { items = All-nil IsItem; forms = λ named. All-nil (λ (request : Made). HasForm setup request.parts) } in
    let formed : Forms c c.requests = (formed_after setup (new_client setup) calls is all (new_is setup some) new).forms named in
    subst (λ (s : ClientSetup). All (λ (request : Made). HasForm s request.parts) c.requests) (client_is setup calls some).begins formed
