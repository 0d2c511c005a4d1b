-- A client that took an answer stands for the plain one that took it.
use Rattle.std.proofs.Common.{◌≡◌, ◌≢◌, ℕ, zero, suc, ◌+◌, ◌-◌, ◌<◌, ◌≤◌, inl, inr, Bool, true, false, List, [], ◌∷◌, ◌++◌, map, length, drop, set, Some, None, refl, sym, ◌∙◌, ap, subst, arith}
use Rattle.std.specs.Prelude.{Option, ◌==◌, nat_lt, not, is_some, if◌then◌else◌}
use Rattle.std.specs.List.{All, flat_map}
use Rattle.std.specs.Option.{option_map, option_or}
use Rattle.std.proofs.lemmas.Bool.Decides.{nat_tests}
use Rattle.std.proofs.lemmas.List.Elements.{All-append, All-cons, All-head, All-nil, All-tail}
use Rattle.std.proofs.lemmas.List.{length-map}
use Rattle.bosh_types.proofs.ById.{at_id-push_other, at_id-push_same}
use Rattle.bosh_client.specs.declared.agreed.Agreed.{Agreed}
use Rattle.bosh_client.specs.declared.client.Client.{Client}
use Rattle.bosh_client.specs.declared.exchanges.Slot.{Slot}
use Rattle.bosh_client.specs.declared.exchanges.Slot.TheVariants.{Answered}
use Rattle.bosh_client.specs.declared.replies.ClientEnd.{ClientEnd}
use Rattle.bosh_client.specs.Machine.{with_answer}
use Rattle.bosh_client.specs.Places.{Places, filled}
use Rattle.bosh_client.specs.PlainClient.{Made, Taken, PlainClient, first_end, goes_on, id_of, last_moment, lies_on, next_id, on_stream, payloads_for, request_at, taken}
use Rattle.bosh_client.specs.Requests.{agreed, agreed_by, agreement}
use Rattle.bosh_client.specs.StandsFor.{AreFrom, Holds, HoldsRequests, slot_by, slot_of}
use Rattle.bosh_client.proofs.FoundLemmas.{Found, IsKept, found, next_is}
use Rattle.bosh_client.proofs.RequestLemmas.{from-drop, went_on_slot}

module _ (plain : PlainClient) (rid : ℕ) (answer : Taken) (none : taken plain rid ≡ None) where
  abbrev after : PlainClient
  after = with_answer plain rid answer

  taken_other : (id : ℕ) → id ≢ rid → taken after id ≡ taken plain id
  taken_other id other = at_id-push_other plain.answers rid id answer other

  taken_same : taken after rid ≡ Some answer
  taken_same = at_id-push_same plain.answers rid answer none

  -- an id that has an answer is another one
  is_other : (id : ℕ) → is_some (taken plain id) ≡ true → id ≢ rid
  is_other id has = λ same.
      let absent : is_some (taken plain id) ≡ false = ap (λ n. is_some (taken plain n)) same ∙ ap is_some none in
      cc

  keeps : (x : Made) → goes_on plain x ≡ true → taken after (id_of x) ≡ taken plain (id_of x)
  keeps x on = taken_other (id_of x) (is_other (id_of x) (went_on_slot plain x on).3)

  keeps_on : (xs : List Made) → All (λ request. goes_on plain request ≡ true) xs → All (λ request. goes_on after request ≡ true) xs
  keeps_on [] on = All-nil (λ request. goes_on after request ≡ true)
  keeps_on (x ∷ xs) on =
      let here : goes_on plain x ≡ true = All-head (λ request. goes_on plain request ≡ true) x xs on in
      let same = ap (λ (o : Option Taken). elim o as (λ _. Bool) [ None ↦ false | Some a ↦ not (is_some a.tells.end) ]) (keeps x here) in
      All-cons (λ request. goes_on after request ≡ true) x xs (same ∙ here) (keeps_on xs (All-tail (λ request. goes_on plain request ≡ true) x xs on))

  keeps_payloads : (xs : List Made) → All (λ request. goes_on plain request ≡ true) xs → flat_map (payloads_for plain) xs ≡ flat_map (payloads_for after) xs
  keeps_payloads [] on = refl
  keeps_payloads (x ∷ xs) on =
      let here : goes_on plain x ≡ true = All-head (λ request. goes_on plain request ≡ true) x xs on in
      let same = ap (λ (o : Option Taken). elim o as (λ _. List (ℕ × List ℕ)) [ None ↦ [] | Some a ↦ on_stream (lies_on plain.setup (id_of x) a.tells) a.tells.payloads ]) (sym (keeps x here)) in
      ap (λ (ps : List (ℕ × List ℕ)). ps ++ flat_map (payloads_for plain) xs) same
      ∙ ap (λ (ps : List (ℕ × List ℕ)). payloads_for after x ++ ps) (keeps_payloads xs (All-tail (λ request. goes_on plain request ≡ true) x xs on))

  abbrev slot_for : ℕ → Slot
  slot_for id = Answered (on_stream (lies_on plain.setup id answer.tells) answer.tells.payloads) (is_some answer.tells.end)

  abbrev slot : Slot
  slot = slot_for rid

  -- later ids are others
  slots_after : (id : ℕ) (xs : List Made) → AreFrom id xs → rid < id → map (slot_of plain) xs ≡ map (slot_of after) xs
  slots_after id [] are later = refl
  slots_after id (x ∷ xs) are later =
      let other : id_of x ≢ rid = λ same. absurd (omega (arith, are.0)) in
      ap (λ (o : Option Taken). slot_by plain.setup x o ∷ map (slot_of plain) xs) (sym (taken_other (id_of x) other))
      ∙ ap (λ (slots : List Slot). slot_of after x ∷ slots) (slots_after (id + 1) xs are.1 (omega arith))

  slots_set : (id k : ℕ) (xs : List Made) → AreFrom id xs → k < length xs → id + k ≡ rid → set (map (slot_of plain) xs) k slot ≡ map (slot_of after) xs
  slots_set id k [] are within is = absurd (omega arith)
  slots_set id zero (x ∷ xs) are within is =
      let here : id_of x ≡ rid = omega (arith, are.0) in
      let own : taken after (id_of x) ≡ Some answer = ap (λ n. taken after n) here ∙ taken_same in
      ap (λ id. slot_for id ∷ map (slot_of plain) xs) (sym here) ∙ ap (λ (o : Option Taken). slot_by plain.setup x o ∷ map (slot_of plain) xs) (sym own) ∙ ap (λ (slots : List Slot). slot_of after x ∷ slots) (slots_after (id + 1) xs are.1 (omega arith))
  slots_set id (suc k) (x ∷ xs) are within is =
      let other : id_of x ≢ rid = λ same. absurd (omega (arith, are.0)) in
      ap (λ (o : Option Taken). slot_by plain.setup x o ∷ set (map (slot_of plain) xs) k slot) (sym (taken_other (id_of x) other))
      ∙ ap (λ (slots : List Slot). slot_of after x ∷ slots) (slots_set (id + 1) k xs are.1 (omega arith) (omega arith))

  known_push : (answers : List (ℕ × Taken)) (n : ℕ) → All (λ (a : ℕ × Taken). a.0 < n) answers → rid < n → All (λ (a : ℕ × Taken). a.0 < n) (answers ++ (rid, answer) ∷ [])
  known_push answers n known lower =
      All-append (λ (a : ℕ × Taken). a.0 < n) answers ((rid, answer) ∷ []) known (All-cons (λ (a : ℕ × Taken). a.0 < n) (rid, answer) [] lower (All-nil (λ (a : ℕ × Taken). a.0 < n)))

  filled_kept : (places : Places) (inbox : List (ℕ × List ℕ)) → HoldsRequests places inbox plain → IsKept places plain rid → HoldsRequests (filled places rid slot) inbox after
  filled_kept places inbox h kept =
      let test : nat_lt rid places.first ≡ false = grind (arith, nat_tests, kept.after) in
      let ids = from-drop plain.setup.first h.spent h.rest (subst (λ (xs : List Made). AreFrom plain.setup.first xs) h.requests_are h.ids) in
      let base : plain.setup.first + length h.spent + (rid - places.first) ≡ rid = omega (arith, h.first_is, kept.after) in
      let count : rid - places.first < length h.rest = omega (arith, kept.within, ap length h.slots_are, length-map h.rest (slot_of plain)) in
      rw test (record {
        spent = h.spent;
        rest = h.rest;
        requests_are = h.requests_are;
        ids = h.ids;
        first_is = h.first_is;
        went_on = keeps_on h.spent h.went_on;
        slots_are = ap (λ (slots : List Slot). set slots (rid - places.first) slot) h.slots_are ∙ slots_set (plain.setup.first + length h.spent) (rid - places.first) h.rest ids count base;
        within = subst (λ (ps : List (ℕ × List ℕ)). plain.handed_out ≤ length ps) (keeps_payloads h.spent h.went_on) h.within;
        inbox_is = h.inbox_is ∙ ap (λ (ps : List (ℕ × List ℕ)). drop plain.handed_out ps) (keeps_payloads h.spent h.went_on);
        known = known_push plain.answers (next_id plain) h.known (omega (arith, kept.after, kept.within, next_is h));
      })

  pub filled_holds : (places : Places) (inbox : List (ℕ × List ℕ)) → HoldsRequests places inbox plain → is_some (request_at plain rid) ≡ true → HoldsRequests (filled places rid slot) inbox after
  filled_holds places inbox h made = by (found places inbox plain rid h)
    where
      by : Found places plain rid → HoldsRequests (filled places rid slot) inbox after
      by (inl (missing, at)) =
          let no : is_some (request_at plain rid) ≡ false = ap is_some missing in
          absurd (cc)
      by (inr (inl spent)) =
          let no : is_some (taken plain rid) ≡ false = ap is_some none in
          absurd (cc)
      by (inr (inr kept)) = filled_kept places inbox h kept

  -- What else changes.

  agreed_after : option_or (agreement plain.setup rid answer.tells) (agreed plain) ≡ agreed after
  agreed_after = by (rid == plain.setup.first) refl
    where
      by : (b : Bool) → (rid == plain.setup.first) ≡ b → option_or (if b then Some (agreed_by plain.setup answer.tells) else None) (agreed plain) ≡ agreed after
      by true is =
          let same : plain.setup.first ≡ rid = grind (arith, nat_tests) in
          sym (ap (option_map (λ (a : Taken). agreed_by plain.setup a.tells)) (ap (λ n. taken after n) same ∙ taken_same))
      by false is =
          let other : plain.setup.first ≢ rid = λ same. absurd (grind (arith, nat_tests)) in
          sym (ap (option_map (λ (a : Taken). agreed_by plain.setup a.tells)) (taken_other plain.setup.first other))

  or_assoc : (a b c : Option ClientEnd) → option_or a (option_or b c) ≡ option_or (option_or a b) c
  or_assoc None b c = refl
  or_assoc (Some end) b c = refl

  or_none : (a : Option ClientEnd) → option_or a None ≡ a
  or_none None = refl
  or_none (Some end) = refl

  end_after : (answers : List (ℕ × Taken)) → option_or (first_end answers) answer.tells.end ≡ first_end (answers ++ (rid, answer) ∷ [])
  end_after [] = sym (or_none answer.tells.end)
  end_after (a ∷ answers) = sym (or_assoc a.1.tells.end (first_end answers) answer.tells.end) ∙ ap (option_or a.1.tells.end) (end_after answers)

  moment_after : (moment : ℕ) (answers : List (ℕ × Taken)) → answer.moment ≡ last_moment moment (answers ++ (rid, answer) ∷ [])
  moment_after moment [] = refl
  moment_after moment (a ∷ answers) = moment_after a.1.moment answers

  pub answered_holds : (c : Client) (places : Places) (inbox : List (ℕ × List ℕ)) (agreement_is : Option Agreed) (end : Option ClientEnd) → Holds c plain → HoldsRequests places inbox after
      → agreement_is ≡ option_or (agreement plain.setup rid answer.tells) c.agreed → end ≡ option_or c.end answer.tells.end
      → Holds (record c { exchanges = places; inbox = inbox; agreed = agreement_is; last_taken = answer.moment; end = end }) after
  answered_holds c places inbox agreement_is end h requests agrees ends = record {
    setup_is = h.setup_is;
    queue_is = h.queue_is;
    streams_are = h.streams_are;
    closing_is = h.closing_is;
    agreed_is = agrees ∙ ap (option_or (agreement plain.setup rid answer.tells)) h.agreed_is ∙ agreed_after;
    last_taken_is = moment_after 0 plain.answers;
    end_is = ends ∙ ap (λ (e : Option ClientEnd). option_or e answer.tells.end) h.end_is ∙ end_after plain.answers;
    in_range = h.in_range;
    accepted = h.accepted;
    requests = requests;
    keys = h.keys;
  }
