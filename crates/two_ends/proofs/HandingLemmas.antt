-- What a client has left is handed out, one payload after the other.
use Rattle.std.proofs.Common.{◌≡◌, ℕ, zero, suc, ◌+◌, ◌≤◌, add-one, List, [], ◌∷◌, ◌++◌, Option, Some, None, length, drop, map, slice_get, refl, sym, subst, ◌∙◌, ap, arith, append_assoc, append-nil, length-append}
use Rattle.std.specs.List.{flat_map, take_while}
use Rattle.bosh_client.specs.declared.client.Client.{Client}
use Rattle.bosh_client.specs.Machine.{hand_out_on, handed}
use Rattle.bosh_client.specs.PlainClient.{PlainClient, deliverable, goes_on, payloads_for}
use Rattle.bosh_client.specs.StandsFor.{Does, StandsFor}
use Rattle.bosh_client.proofs.FoundLemmas.{deliverable_is}
use Rattle.world_laws.specs.declared.seen.SeenItem.{SeenItem}
use Rattle.world_laws.specs.Steps.{all_handed, got, left_of}
use Rattle.session_calls.proofs.TakingLemmas.{got_first, got_none}

-- what was handed out is some of what could be
pub handed_within : (client : Client) (c : PlainClient) → StandsFor client c → c.handed_out ≤ length (deliverable c)
unfolding StandsFor
handed_within client c is =
    let h = is.requests in
    omega (arith, h.within, ap length (deliverable_is h), length-append (flat_map (payloads_for c) h.spent) (flat_map (payloads_for c) (take_while (goes_on c) h.rest)))

past_all : {X : Type 0} (xs : List X) (k : ℕ) → slice_get xs k ≡ None → length xs ≤ k
past_all [] k is = omega arith
past_all (x ∷ xs) zero is = absurd (cc)
past_all (x ∷ xs) (suc k) is = omega (arith, past_all xs k is)

-- what was seen by now, and what is left to hand out, is all
pub record HandsOn (client : Client) (lines before : List SeenItem) (c : PlainClient) : Type 0 where
  pub now : PlainClient
  pub stands : StandsFor client now
  pub seen_is : before ++ map got (left_of c) ≡ lines ++ map got (left_of now)
  pub all_is : all_handed c ≡ all_handed now

pub hands_from : (client : Client) (lines : List SeenItem) (c : PlainClient) → StandsFor client c → HandsOn client lines lines c
hands_from client lines c is = record { now = c; stands = is; seen_is = refl; all_is = refl }

same_payload : (one other : ℕ × List ℕ) → Some one ≡ Some other → one ≡ other
same_payload one other is = cc

module _ (c : PlainClient) where
  next_is : (payload : ℕ × List ℕ) (o : Option (ℕ × List ℕ)) → Some payload ≡ (handed c o).1 → o ≡ Some payload
  next_is payload None is = absurd (cc)
  next_is payload (Some other) is = sym is

  none_is : (o : Option (ℕ × List ℕ)) → None ≡ (handed c o).1 → o ≡ None
  none_is None is = refl
  none_is (Some payload) is = absurd (cc)

pub hands_more : (client later : Client) (lines before : List SeenItem) (c : PlainClient) (payload : ℕ × List ℕ) → HandsOn client lines before c
    → ((d : PlainClient) → StandsFor client d → Does later (Some payload) (hand_out_on d)) → HandsOn later (lines ++ got payload ∷ []) before c
hands_more client later lines before c payload on does =
    let d : PlainClient = on.now in
    let done = does d on.stands in
    let is : slice_get (deliverable d) d.handed_out ≡ Some payload = next_is d payload (slice_get (deliverable d) d.handed_out) done.replies in
    let e : PlainClient = record d { handed_out = d.handed_out + 1 } in
    let left : left_of d ≡ payload ∷ left_of e =
    got_first (deliverable d) d.handed_out payload is ∙ ap (λ (n : ℕ). payload ∷ drop n (deliverable d)) (sym (add-one d.handed_out)) in
    record {
      now = e;
      stands = subst (λ (f : PlainClient). StandsFor later f) (ap (λ (o : Option (ℕ × List ℕ)). (handed d o).0) is) done.after;
      seen_is = on.seen_is ∙ ap (λ (l : List (ℕ × List ℕ)). lines ++ map got l) left ∙ sym (append_assoc lines (got payload ∷ []) (map got (left_of e)));
      all_is = on.all_is;
    }

pub hands_end : (client later : Client) (lines before : List SeenItem) (c : PlainClient) → HandsOn client lines before c
    → ((d : PlainClient) → StandsFor client d → Does later None (hand_out_on d)) → (lines ≡ before ++ map got (left_of c)) × StandsFor later (all_handed c)
hands_end client later lines before c on does =
    let d : PlainClient = on.now in
    let done = does d on.stands in
    let is : slice_get (deliverable d) d.handed_out ≡ None = none_is d (slice_get (deliverable d) d.handed_out) done.replies in
    let all : d.handed_out ≡ length (deliverable d) = omega (arith, past_all (deliverable d) d.handed_out is, handed_within client d on.stands) in
    let here : (hand_out_on d).0 ≡ d = ap (λ (o : Option (ℕ × List ℕ)). (handed d o).0) is in
    let whole : (hand_out_on d).0 ≡ all_handed c = here ∙ ap (λ (n : ℕ). record d { handed_out = n }) all ∙ sym on.all_is in (
      sym (on.seen_is ∙ ap (λ (l : List (ℕ × List ℕ)). lines ++ map got l) (got_none (deliverable d) d.handed_out is) ∙ append-nil lines),
      subst (λ (f : PlainClient). StandsFor later f) whole done.after,
    )
