-- How far the next id is from the lowest without an answer.
use Rattle.std.proofs.Common.{◌≡◌, ◌≢◌, ℕ, ◌+◌, ◌-◌, ◌≤◌, Bool, true, false, cond, List, [], ◌∷◌, ◌++◌, length, Some, None, refl, sym, ◌∙◌, ap, subst, arith, length-append}
use Rattle.std.specs.Prelude.{Option, ◌==◌, not, is_some}
use Rattle.std.specs.List.{find}
use Rattle.std.specs.Option.{option_map, unwrap_or}
use Rattle.std.proofs.lemmas.Bool.{and_parts}
use Rattle.std.proofs.lemmas.Bool.Decides.{nat_tests}
use Rattle.bosh_types.proofs.ById.{at_id-push_other}
use Rattle.bosh_client.specs.declared.agreed.Agreed.{Agreed}
use Rattle.bosh_client.specs.declared.outgoing.Outgoing.{Outgoing}
use Rattle.bosh_client.specs.declared.outgoing.Outgoing.TheVariants as outgoing
use Rattle.bosh_client.specs.declared.setup.ClientSetup.{ClientSetup}
use Rattle.bosh_client.specs.Machine.{has_rested, is_due, is_due_by, is_due_of, new_client, next_made, with_answer, with_request}
use Rattle.bosh_client.specs.PlainClient.{Made, Taken, PlainClient, id_of, is_answered, lowest, next_id, queued, taken}
use Rattle.bosh_client.specs.Promises.{HasFewOpen, IsNear}
use Rattle.bosh_client.specs.Requests.{agreed, agreed_by}
use Rattle.bosh_client.specs.Runs.{Call, after, step}
use Rattle.bosh_client.specs.StandsFor.{AreFrom}
use Rattle.bosh_client.proofs.RequestLemmas.{none_left}
use Rattle.bosh_client.proofs.RunLemmas.{IsClient, new_is, step_by, step_is, still_taken}

-- the id of the first of these, or this one
abbrev pub first_of_these : (Made → Bool) → List Made → ℕ → ℕ
first_of_these p xs next = unwrap_or (option_map id_of (find p xs)) next

pub at_least : (p : Made → Bool) (rid next : ℕ) (xs : List Made) → AreFrom rid xs → next ≡ rid + length xs → rid ≤ first_of_these p xs next
at_least p rid next [] are is = omega (arith, is)
at_least p rid next (x ∷ xs) are is = by (p x) (at_least p (rid + 1) next xs are.1 (omega (arith, is)))
  where
    by : (b : Bool) → rid + 1 ≤ first_of_these p xs next → rid ≤ unwrap_or (option_map id_of (cond b (Some x) (find p xs))) next
    by true rest = omega (arith, are.0)
    by false rest = omega (arith, rest)

-- where fewer of them are looked for, the first is no lower
no_lower : (p q : Made → Bool) (rid next : ℕ) (xs : List Made) → ((x : Made) → p x ≡ false → q x ≡ false) → AreFrom rid xs → next ≡ rid + length xs
    → first_of_these p xs next ≤ first_of_these q xs next
no_lower p q rid next [] fewer are is = omega arith
no_lower p q rid next (x ∷ xs) fewer are is = by (p x) (q x) (fewer x) (no_lower p q (rid + 1) next xs fewer are.1 (omega (arith, is)))
  where
    by : (b d : Bool) → (b ≡ false → d ≡ false) → first_of_these p xs next ≤ first_of_these q xs next
        → unwrap_or (option_map id_of (cond b (Some x) (find p xs))) next ≤ unwrap_or (option_map id_of (cond d (Some x) (find q xs))) next
    by true true also rest = omega arith
    by true false also rest = omega (arith, are.0, at_least q (rid + 1) next xs are.1 (omega (arith, is)))
    by false true also rest =
        let no : true ≡ false = also refl in
        absurd (cc)
    by false false also rest = rest

-- nor where there is one more
no_lower_more : (p : Made → Bool) (next : ℕ) (xs : List Made) (x : Made) → id_of x ≡ next → first_of_these p xs next ≤ first_of_these p (xs ++ x ∷ []) (next + 1)
no_lower_more p next [] x id = by (p x)
  where
    by : (b : Bool) → next ≤ unwrap_or (option_map id_of (cond b (Some x) None)) (next + 1)
    by true = omega (arith, id)
    by false = omega arith
no_lower_more p next (y ∷ ys) x id = by (p y) (no_lower_more p next ys x id)
  where
    by : (b : Bool) → first_of_these p ys next ≤ first_of_these p (ys ++ x ∷ []) (next + 1)
        → unwrap_or (option_map id_of (cond b (Some y) (find p ys))) next ≤ unwrap_or (option_map id_of (cond b (Some y) (find p (ys ++ x ∷ [])))) (next + 1)
    by true rest = omega arith
    by false rest = rest

next_more : (c : PlainClient) (request : Made) → next_id (record c { requests = c.requests ++ request ∷ [] }) ≡ next_id c + 1
next_more c request = omega (arith, length-append c.requests (request ∷ []))

requests_lowest : (c : PlainClient) (request : Made) → id_of request ≡ next_id c → lowest c ≤ lowest (record c { requests = c.requests ++ request ∷ [] })
requests_lowest c request id =
    let p : Made → Bool = λ r. not (is_answered c r) in
    subst (λ n. lowest c ≤ first_of_these p (c.requests ++ request ∷ []) n) (sym (next_more c request)) (no_lower_more p (next_id c) c.requests request id)

answers_lowest : (c : PlainClient) (rid : ℕ) (t : Taken) → AreFrom c.setup.first c.requests → taken c rid ≡ None → lowest c ≤ lowest (with_answer c rid t)
answers_lowest c rid t ids none =
    no_lower (λ r. not (is_answered c r)) (λ r. not (is_answered (with_answer c rid t) r)) c.setup.first (next_id c) c.requests fewer ids refl
  where
    fewer : (x : Made) → not (is_answered c x) ≡ false → not (is_answered (with_answer c rid t) x) ≡ false
    fewer x is = by (is_answered c x) (still_taken c rid (id_of x) t none) is
      where
        by : (b : Bool) → (b ≡ true → is_answered (with_answer c rid t) x ≡ true) → not b ≡ false → not (is_answered (with_answer c rid t) x) ≡ false
        by true still is = ap not (still refl)
        by false still is = absurd (cc)

-- a request is made where few are open, and leaves few open

room_of : (c : PlainClient) (a : Agreed) (items : List Outgoing) (now : ℕ) → is_due_of c a items now ≡ true → next_id c ≤ lowest c + a.requests
room_of c a [] now due =
    let none : (next_id c - lowest c == 0) ≡ true = (and_parts (next_id c - lowest c == 0) (has_rested c a now) due).0 in
    grind (arith, nat_tests, none)
room_of c a (outgoing.Stanza on bytes ∷ more) now due = grind (arith, nat_tests, due)
room_of c a (outgoing.Restart ∷ more) now due = grind (arith, nat_tests, due)
room_of c a (outgoing.Pause seconds ∷ more) now due = grind (arith, nat_tests, due)
room_of c a (outgoing.Add to ∷ more) now due = grind (arith, nat_tests, due)
room_of c a (outgoing.Close stream ∷ more) now due = grind (arith, nat_tests, due)
room_of c a (outgoing.Terminate ∷ more) now due = grind (arith, nat_tests, due)

first_lowest : (c : PlainClient) → c.requests ≡ [] → lowest c ≡ next_id c
first_lowest c none = ap (λ (xs : List Made). first_of_these (λ r. not (is_answered c r)) xs (next_id c)) none

requests_few : (c : PlainClient) (now : ℕ) → is_due c now ≡ true → HasFewOpen (with_request c (next_made c (agreed c))).0
requests_few c now due = by (agreed c) due
  where
    by : (o : Option Agreed) → is_due_by c o now ≡ true → IsNear (record c { requests = c.requests ++ next_made c o ∷ [] }) o
    by None due =
        let none : c.requests ≡ [] = none_left c.requests due in
        let id : c.setup.first ≡ next_id c = omega (arith, ap length none) in
        omega (arith, next_more c (next_made c None), requests_lowest c (next_made c None) id, first_lowest c none)
    by (Some a) due = omega (arith, next_more c (next_made c (Some a)), requests_lowest c (next_made c (Some a)) refl, room_of c a (queued c) now due)

answers_few : (c : PlainClient) (rid : ℕ) (t : Taken) → AreFrom c.setup.first c.requests → taken c rid ≡ None → HasFewOpen c → HasFewOpen (with_answer c rid t)
answers_few c rid t ids none few = by (taken c c.setup.first) refl few
  where
    above : lowest c ≤ lowest (with_answer c rid t)
    above = answers_lowest c rid t ids none

    any : (o : Option Agreed) → next_id c ≤ lowest c + 1 → IsNear (with_answer c rid t) o
    any None near = omega (arith, above, near)
    any (Some a) near = omega (arith, above, near)

    by : (o : Option Taken) → taken c c.setup.first ≡ o → IsNear c (option_map (λ (answer : Taken). agreed_by c.setup answer.tells) o) → HasFewOpen (with_answer c rid t)
    by None is near = any (agreed (with_answer c rid t)) near
    by (Some answer) is near =
        let other : c.setup.first ≢ rid = λ same.
        let one : is_some (taken c c.setup.first) ≡ true = ap is_some is in
        let two : is_some (taken c c.setup.first) ≡ false = ap (λ n. is_some (taken c n)) same ∙ ap is_some none in
        cc in
        let still : taken (with_answer c rid t) c.setup.first ≡ Some answer = at_id-push_other c.answers rid c.setup.first t other ∙ is in
        subst (λ (o : Option Taken). IsNear (with_answer c rid t) (option_map (λ (a : Taken). agreed_by c.setup a.tells) o)) (sym still) (omega (arith, above, near))

few_step : (setup : ClientSetup) (c : PlainClient) (call : Call) → IsClient setup c → HasFewOpen c → HasFewOpen (step c call).0
few_step setup c call h few =
    step_by c (λ p. HasFewOpen p.0) (λ reply quiet. few) (λ item. few) (λ now due left next. requests_few c now due)
    (λ rid t made none reads fine. answers_few c rid t h.ids none few) (λ payload next. few) call

few_after : (setup : ClientSetup) (c : PlainClient) (calls : List Call) → IsClient setup c → HasFewOpen c → HasFewOpen (after c calls)
few_after setup c [] h few = few
few_after setup c (call ∷ calls) h few = few_after setup (step c call).0 calls (step_is setup c call h) (few_step setup c call h few)

pub few_open : (setup : ClientSetup) (calls : List Call) → 1 ≤ setup.first → HasFewOpen (after (new_client setup) calls)
few_open setup calls some = few_after setup (new_client setup) calls (new_is setup some) (omega arith)
