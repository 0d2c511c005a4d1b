-- A copy that a client gives is a request that was the next one at some time, and an error asks for ids up to its own.
use Rattle.std.proofs.Common.{◌≡◌, ℕ, ◌+◌, ◌≤◌, Bool, true, false, List, [], ◌∷◌, ◌++◌, Some, None, refl, sym, ◌∙◌, ap, subst, arith, append_assoc, append-nil}
use Rattle.std.specs.Prelude.{Option, Result, Ok, Err, ◌==◌, cond, is_none, is_some, length, if◌then◌else◌}
use Rattle.std.specs.List.{All, find}
use Rattle.std.specs.Option.{option_map}
use Rattle.std.proofs.lemmas.Bool.Decides.{nat_tests}
use Rattle.std.proofs.lemmas.List.Elements.{All-head, All-nil, All-push, All-tail, All-weaker}
use Rattle.bosh_client.specs.declared.agreed.Agreed.{Agreed}
use Rattle.bosh_client.specs.declared.replies.Answered.{Answered}
use Rattle.bosh_client.specs.declared.replies.Why.{Why}
use Rattle.bosh_client.specs.declared.setup.ClientSetup.{ClientSetup}
use Rattle.bosh_client.specs.declared.told.Told.{Told}
use Rattle.bosh_client.specs.AnswerReading.{answer_of}
use Rattle.bosh_client.specs.Machine.{answer, copy, is_due, is_due_by, lacks_sid, misnames, new_client, next_made, next_request, take_answer}
use Rattle.bosh_client.specs.PlainClient.{Made, PlainClient, bytes_of, id_of, next_id, request_at, taken}
use Rattle.bosh_client.specs.Requests.{agreed}
use Rattle.bosh_client.specs.Runs as plain
use Rattle.bosh_client.specs.Runs.{called, step}
use Rattle.bosh_client.specs.StandsFor.{AreFrom}
use Rattle.bosh_client.proofs.RequestLemmas.{from-push}
use Rattle.bosh_client.proofs.RunLemmas.{by_if, lowest_at_most, not_false, step_by}
use Rattle.parked_gate.specs.Histories.{StartsWith}
use Rattle.parked_gate.specs.Passes.{Known}
use Rattle.client_run.specs.declared.call.Call.{Call}
use Rattle.client_run.specs.declared.call.Call.TheVariants as calls
use Rattle.client_run.specs.declared.call.Reply.TheVariants as replies
use Rattle.client_run.specs.declared.entry.Entered.{Entered}
use Rattle.client_run.specs.declared.entry.Entered.TheVariants.{Setup, Called as IsCalled}
use Rattle.client_run.specs.declared.entry.Entry.{Entry}
use Rattle.client_run.specs.Calls.{call_in}
use Rattle.client_run.specs.Carried.{WasNext}
use Rattle.client_run.specs.History.{After, client_begun, client_by, client_from, client_in}
use Rattle.client_run.specs.Working.{Called, NamesUpTo}
use Rattle.client_run.proofs.HistoryLemmas.{entered_after}
use Rattle.client_run.proofs.RiseLemmas.{starts_later}

-- Each request of a client was the next one at some time.

pub next_later : (old new : List Entry) (rid : ℕ) (body : List ℕ) → StartsWith new old → WasNext old rid body → WasNext new rid body
next_later old new rid body grows was = record { log = was.log; begins = starts_later was.log old new was.begins grows; next = was.next }

abbrev WasMade : List Entry → Made → Type 0
WasMade log request = WasNext log (id_of request) (bytes_of request)

record AreMade (log : List Entry) (c : PlainClient) : Type 0 where
  ids : AreFrom c.setup.first c.requests
  made : All (WasMade log) c.requests

next_id_is : (c : PlainClient) (now : ℕ) → is_due c now ≡ true → id_of (next_made c (agreed c)) ≡ next_id c
next_id_is c now due = by (agreed c) due
  where
    by : (o : Option Agreed) → is_due_by c o now ≡ true → id_of (next_made c o) ≡ next_id c
    by None due =
        let none : length c.requests ≡ 0 = grind (arith, nat_tests, due) in
        omega (arith, none)
    by (Some a) due = refl

made_step : (log : List Entry) (c : PlainClient) (e : Entry) (call : plain.Call) → client_in log ≡ Some c → AreMade log c → AreMade (log ++ e ∷ []) (step c call).0
made_step log c e call told h =
    step_by c (λ done. AreMade (log ++ e ∷ []) done.0) (λ reply quiet. record { ids = h.ids; made = later }) (λ item. record { ids = h.ids; made = later })
    (λ now due left next. record {
      ids = from-push c.setup.first c.requests (next_made c (agreed c)) h.ids (next_id_is c now due);
      made = All-push (WasMade (log ++ e ∷ [])) c.requests (next_made c (agreed c)) later
          (record { log = log; begins = (e ∷ [], refl); next = record { plain = c; is = told; holds = (now, ap (λ done. done.1) next) } });
    })
    (λ rid t made none reads fine. record { ids = h.ids; made = later }) (λ payload next. record { ids = h.ids; made = later }) call
  where
    later : All (WasMade (log ++ e ∷ [])) c.requests
    later = All-weaker (WasMade log) (WasMade (log ++ e ∷ [])) (λ r was. next_later log (log ++ e ∷ []) (id_of r) (bytes_of r) (e ∷ [], refl) was) c.requests h.made

made_by : (front es : List Entry) (c d : PlainClient) (e : Entry) (x : Entered) → e.entered ≡ x → client_in front ≡ Some c → AreMade front c
    → ((later : List Entry) (n : PlainClient) → client_in later ≡ Some n → AreMade later n → client_from n es ≡ Some d → AreMade (later ++ es) d)
    → client_by (λ n. client_from n es) c x ≡ Some d → AreMade (front ++ e ∷ es) d
made_by front es c d e (Setup setup) is told h next from = absurd (cc)
made_by front es c d e (IsCalled call) is told h next from =
    subst (λ l. AreMade l d) (append_assoc front (e ∷ []) es)
    (next (front ++ e ∷ []) (step c (call_in call)).0 (entered_after front c e call is told) (made_step front c e (call_in call) told h) from)

some_same : {X : Type 0} (x y : X) → Some x ≡ Some y → x ≡ y
some_same x y is = cc

made_from : (es front : List Entry) (c d : PlainClient) → client_in front ≡ Some c → AreMade front c → client_from c es ≡ Some d → AreMade (front ++ es) d
made_from [] front c d told h from = subst (λ l. AreMade l d) (sym (append-nil front)) (subst (AreMade front) (some_same c d from) h)
made_from (e ∷ es) front c d told h from = made_by front es c d e e.entered refl told h (λ later n. made_from es later n d) from

made_begun : (e : Entry) (es : List Entry) (d : PlainClient) (x : Entered) → e.entered ≡ x → client_begun x es ≡ Some d → AreMade (e ∷ es) d
unfolding client_in
made_begun e es d (Setup setup) is from =
    made_from es (e ∷ []) (new_client setup) d (ap (λ x. client_begun x []) is) (record { ids = tt; made = All-nil (WasMade (e ∷ [])) }) from
made_begun e es d (IsCalled call) is from = absurd (cc)

made_in : (log : List Entry) (c : PlainClient) → client_in log ≡ Some c → AreMade log c
unfolding client_in
made_in [] c is = absurd (cc)
made_in (e ∷ es) c is = made_begun e es c e.entered refl is

-- A copy is one of them.

found_made : (P : Made → Type 0) (rid : ℕ) (xs : List Made) (r : Made) → All P xs → find (λ request. id_of request == rid) xs ≡ Some r → (id_of r ≡ rid) × P r
found_made P rid [] r all is = absurd (cc)
found_made P rid (x ∷ xs) r all is = by (id_of x == rid) refl is (λ found. found_made P rid xs r (All-tail P x xs all) found)
  where
    by : (b : Bool) → (id_of x == rid) ≡ b → cond b (Some x) (find (λ request. id_of request == rid) xs) ≡ Some r
        → (find (λ request. id_of request == rid) xs ≡ Some r → (id_of r ≡ rid) × P r) → (id_of r ≡ rid) × P r
    by true test is later =
        let same : x ≡ r = cc in
        let id : id_of x ≡ rid = grind (arith, nat_tests, test) in
        subst (λ (m : Made). (id_of m ≡ rid) × P m) same (id, All-head P x xs all)
    by false test is later = later is

copy_found : (log : List Entry) (c : PlainClient) (rid : ℕ) (body : List ℕ) → AreMade log c → Some body ≡ copy c rid → WasNext log rid body
copy_found log c rid body h is = by (is_some (taken c rid)) (request_at c rid) refl is
  where
    by : (b : Bool) (o : Option Made) → request_at c rid ≡ o → Some body ≡ (if b then None else option_map bytes_of o) → WasNext log rid body
    by true o at is = absurd (cc)
    by false None at is = absurd (cc)
    by false (Some r) at is =
        let same : bytes_of r ≡ body = cc in
        let found = found_made (WasMade log) rid c.requests r h.made at in
        subst (λ (bytes : List ℕ). WasNext log rid bytes) same (subst (λ n. WasNext log n (bytes_of r)) found.0 found.1)

pub copy_was_next : (log : List Entry) (rid : ℕ) (body : List ℕ) → After log (λ c. Some body ≡ copy c rid) → WasNext log rid body
copy_was_next log rid body gave = copy_found log gave.plain rid body (made_in log gave.plain gave.is) gave.holds

-- What an error asks for.

taken_names : (c : PlainClient) (rid : ℕ) (body : List ℕ) (now : ℕ) (told : Result Told Why) → AreFrom c.setup.first c.requests → is_some (request_at c rid) ≡ true → is_some (taken c rid) ≡ false
    → NamesUpTo rid (take_answer c rid body now told).1
taken_names c rid body now (Err why) ids made none = tt
taken_names c rid body now (Ok tells) ids made none =
    by_if (λ (p : PlainClient × Answered). NamesUpTo rid p.1) (misnames c rid tells) _ _ (λ _. tt)
    (λ _. by_if (λ (p : PlainClient × Answered). NamesUpTo rid p.1) tells.error _ _ (λ _. (lowest_at_most c rid ids made none, refl))
    (λ _. by_if (λ (p : PlainClient × Answered). NamesUpTo rid p.1) (lacks_sid c rid tells) _ _ (λ _. tt) (λ _. tt)))

answer_names : (c : PlainClient) (rid : ℕ) (body : List ℕ) (now : ℕ) → AreFrom c.setup.first c.requests → NamesUpTo rid (answer c rid body now).1
answer_names c rid body now ids =
    by_if (λ (p : PlainClient × Answered). NamesUpTo rid p.1) (is_none (request_at c rid)) _ _ (λ _. tt)
    (λ made. by_if (λ (p : PlainClient × Answered). NamesUpTo rid p.1) (is_some (taken c rid)) _ _ (λ _. tt)
    (λ none. taken_names c rid body now (answer_of body) ids (not_false (is_some (request_at c rid)) made) none))

answer_name : (done : PlainClient × Answered) (a : Answered) → plain.ToAnswer a ≡ (called plain.ToAnswer done).1 → done.1 ≡ a
answer_name (c, x) a is = sym (ap (λ reply. elim reply [ plain.ToAnswer n ↦ n | plain.ToQueue q ↦ a | plain.ToNext n ↦ a | plain.ToHandOut p ↦ a ]) is)

pub again_names : (rid now : ℕ) (body : List ℕ) (a : Answered) (old new : Known Entry) → Called (calls.Answer rid body now) (Ok (replies.Answered a)) old new → NamesUpTo rid a
again_names rid now body a old new c =
    let replied = c.says in
    subst (NamesUpTo rid) (answer_name (answer replied.plain rid body now) a replied.reply_is)
    (answer_names replied.plain rid body now (made_in c.before replied.plain replied.is).ids)
