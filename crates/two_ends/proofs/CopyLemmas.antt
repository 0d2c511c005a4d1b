-- A copy of a request comes to a manager.
use Rattle.std.proofs.Common.{◌≡◌, ℕ, ◌+◌, ◌-◌, ◌<◌, ◌≤◌, true, false, List, [], ◌∷◌, Option, Some, None, length, map, slice_get, refl, sym, ◌∙◌, ap, subst, arith, cond, ◌==◌, inl, inr}
use Rattle.std.specs.Prelude.{is_some}
use Rattle.std.specs.Option.{option_map}
use Rattle.std.proofs.lemmas.Bool.{cases_lt}
use Rattle.std.proofs.lemmas.Bool.Decides.{nat_tests}
use Rattle.std.proofs.lemmas.List.{length-map}
use Rattle.std.proofs.lemmas.Option.{slice_get-map, slice_get_past}
use Rattle.bosh_types.specs.ById.{at_id}
use Rattle.session_attrs.specs.declared.request.Creation.{Creation}
use Rattle.session_attrs.specs.declared.request.Kind.{Kind}
use Rattle.session_attrs.specs.declared.request.Kind.TheVariants as kinds
use Rattle.session_attrs.specs.declared.request.Request.{Request}
use Rattle.session_attrs.specs.Admission.{admitted_of}
use Rattle.session_journal.specs.Entries.{request_in}
use Rattle.bosh_client.specs.declared.client.Client.{Client}
use Rattle.bosh_client.specs.PlainClient.{Made, PlainClient, bytes_of, id_of}
use Rattle.bosh_client.specs.StandsFor.{AreFrom, StandsFor}
use Rattle.world_laws.specs.declared.seen.SeenItem.{SeenItem}
use Rattle.world_laws.specs.declared.seen.SeenItem.TheVariants as seen
use Rattle.world_laws.specs.declared.told.Told.{Told}
use Rattle.world_laws.specs.Manager.{PlainManager, Turn, arrives}
use Rattle.world_laws.specs.Sound.{sent_of}
use Rattle.world_laws.specs.Steps.{admits, carried, carries, carries_to, comes, host_of, turns}
use Rattle.world_laws.specs.World.{PlainWorld}
use Rattle.world_laws.proofs.PlaceLemmas.{AreNumbered, at_place, id_at, past_place}
use Rattle.two_ends.specs.declared.manager.Manager.{Manager}
use Rattle.two_ends.specs.declared.world.World.{World}
use Rattle.two_ends.specs.Copies.{creation_in}
use Rattle.two_ends.specs.Stands.{IsManager, IsTurn}
use Rattle.two_ends.specs.Worlds.{IsEnd, IsPlain, IsPlainStep, IsRest}
use Rattle.two_ends.proofs.EndLemmas.{has_manager, no_manager}

-- Where a copy stands.

pub client_ids : (client : Client) (c : PlainClient) → StandsFor client c → AreFrom c.setup.first c.requests
unfolding StandsFor
client_ids client c is = (is.requests).ids

module _ (c : PlainClient) (ids : AreFrom c.setup.first c.requests) where
  numbered : AreNumbered sent_of c.setup.first c.requests
  numbered k request is = id_at c.setup.first c.requests k request ids is

  at_its_place : (place : ℕ) → at_id (map sent_of c.requests) (c.setup.first + place) ≡ slice_get (map bytes_of c.requests) place
  at_its_place place = by (slice_get c.requests place) refl
    where
      by : (o : Option Made) → slice_get c.requests place ≡ o → at_id (map sent_of c.requests) (c.setup.first + place) ≡ slice_get (map bytes_of c.requests) place
      by None is = past_place sent_of c.setup.first c.requests numbered place is ∙ sym (slice_get-map bytes_of c.requests place ∙ ap (option_map bytes_of) is)
      by (Some request) is =
          at_place sent_of c.setup.first c.requests numbered place request is ∙ sym (slice_get-map bytes_of c.requests place ∙ ap (option_map bytes_of) is)

none_before : (first rid : ℕ) (requests : List Made) → AreFrom first requests → rid < first → at_id (map sent_of requests) rid ≡ None
none_before first rid [] ids before = refl
none_before first rid (request ∷ requests) ids before =
    elsewhere (id_of request) rid (bytes_of request) (at_id (map sent_of requests) rid) (omega (arith, ids.0, before)) ∙ none_before (first + 1) rid requests ids.1 (omega (arith, before))
  where
    elsewhere : (id rid : ℕ) (x : List ℕ) (rest : Option (List ℕ)) → rid < id → cond (id == rid) (Some x) rest ≡ rest
    elsewhere id rid x rest lower = grind (arith, nat_tests)

none_elsewhere : (c : PlainClient) (ids : AreFrom c.setup.first c.requests) (rid : ℕ) → (c.setup.first ≤ rid → c.setup.first + length c.requests ≤ rid) → at_id (map sent_of c.requests) rid ≡ None
none_elsewhere c ids rid past = elim (cases_lt rid c.setup.first) [
  | inl before ↦ none_before c.setup.first rid c.requests ids before
  | inr within ↦
      let place : ℕ = rid - c.setup.first in
      let same : c.setup.first + place ≡ rid = omega (arith, within) in
      ap (at_id (map sent_of c.requests)) (sym same)
      ∙ past_place sent_of c.setup.first c.requests (numbered c ids) place (slice_get_past c.requests place (omega (arith, past within, within)))
]

pub sent_at : (world : World) (w : PlainWorld) → IsRest world w → (rid place : ℕ) → rid ≡ world.first + place → at_id w.sent rid ≡ slice_get world.sent.items place
sent_at world w is rid place there =
    ap (λ (l : List (ℕ × List ℕ)). at_id l rid) is.network_is
    ∙ ap (at_id (map sent_of w.client.requests)) (there ∙ ap (λ (n : ℕ). n + place) is.first_is)
    ∙ at_its_place w.client (client_ids world.client w.client is.client) place
    ∙ ap (λ (l : List (List ℕ)). slice_get l place) (sym is.sent_are)

pub none_sent : (world : World) (w : PlainWorld) → IsRest world w → (rid : ℕ) → (world.first ≤ rid → world.first + length world.sent.items ≤ rid) → at_id w.sent rid ≡ None
none_sent world w is rid past =
    let count : length world.sent.items ≡ length w.client.requests = ap length is.sent_are ∙ length-map w.client.requests bytes_of in
    ap (λ (l : List (ℕ × List ℕ)). at_id l rid) is.network_is
    ∙ none_elsewhere w.client (client_ids world.client w.client is.client) rid
    (λ within. subst (λ (n : ℕ). n ≤ rid) (ap (λ (n : ℕ). n + length world.sent.items) is.first_is ∙ ap (λ (n : ℕ). w.client.setup.first + n) count) (past (subst (λ (n : ℕ). n ≤ rid) (sym is.first_is) within)))

-- What a copy does.

-- nothing but this is seen, and the world is as before
pub kept_step : (world : World) (w : PlainWorld) → IsPlain world w → (items news : List SeenItem) → news ≡ items → IsPlainStep news world (record { seen = items; after = w })
kept_step world w is items news it = record { seen_is = it; world_is = is }

pub carry_some : (world : World) (w : PlainWorld) → IsPlain world w → (rid place : ℕ) (body : List ℕ) → rid ≡ world.first + place → slice_get world.sent.items place ≡ Some body
    → (news : List SeenItem) (next : World) → IsPlainStep news next (carried w rid body (request_in body)) → IsPlainStep news next (carries w rid)
carry_some world w is rid place body there found news next step =
    subst (λ o. IsPlainStep news next (carries_to w rid o)) (sym (sent_at world w is.rest rid place there ∙ found)) step

pub carry_none : (world : World) (w : PlainWorld) → IsPlain world w → (rid : ℕ) → (world.first ≤ rid → world.first + length world.sent.items ≤ rid)
    → (news : List SeenItem) → news ≡ seen.NoCopy ∷ [] → IsPlainStep news world (carries w rid)
carry_none world w is rid past news it =
    subst (λ o. IsPlainStep news world (carries_to w rid o)) (sym (none_sent world w is.rest rid past)) (kept_step world w is (seen.NoCopy ∷ []) news it)

pub creation_is : (kind : Kind) (creation : Creation) → creation_in kind ≡ Some creation → kind ≡ kinds.Creation creation
creation_is (kinds.Creation other) creation is = cc
creation_is (kinds.Later sid) creation is = absurd (cc)

pub later_is : (kind : Kind) → creation_in kind ≡ None → (sid : List ℕ) × (kind ≡ kinds.Later sid)
later_is (kinds.Creation other) is = absurd (cc)
later_is (kinds.Later sid) is = (sid, refl)

pub dup_step : (world : World) (w : PlainWorld) → IsPlain world w → (body : List ℕ) (request : Request) (creation : Creation) → is_some world.manager ≡ true
    → (news : List SeenItem) → news ≡ seen.Dup request.rid ∷ [] → IsPlainStep news world (comes w body request (kinds.Creation creation) w.manager)
dup_step world w is body request creation some news it = by world.manager w.manager some is.end
  where
    by : (end : Option Manager) (o : Option PlainManager) → is_some end ≡ true → IsEnd end o → IsPlainStep news world (comes w body request (kinds.Creation creation) o)
    by None o some is_end = absurd (cc)
    by (Some manager) None some is_end = absurd is_end
    by (Some manager) (Some m) some is_end = kept_step world w is (seen.Dup request.rid ∷ []) news it

pub first_step : (world : World) (w : PlainWorld) → IsPlain world w → (body : List ℕ) (request : Request) (creation : Creation) → is_some world.manager ≡ false
    → (news : List SeenItem) (next : World) → IsPlainStep news next (admits w body request creation (admitted_of request.to (host_of w ∷ []))) → IsPlainStep news next (comes w body request (kinds.Creation creation) w.manager)
first_step world w is body request creation none news next step = by world.manager w.manager none is.end
  where
    by : (end : Option Manager) (o : Option PlainManager) → is_some end ≡ false → IsEnd end o → IsPlainStep news next (comes w body request (kinds.Creation creation) o)
    by None None none is_end = step
    by None (Some m) none is_end = absurd is_end
    by (Some manager) o none is_end = absurd (cc)

-- the host is the one that the world serves
pub admitted_as : (world : World) (w : PlainWorld) → IsPlain world w → (to : Option (List ℕ)) → admitted_of to (record { name = world.site.host; greeting = world.site.greeting } ∷ []) ≡ admitted_of to (host_of w ∷ [])
admitted_as world w is to =
    ap (λ (name : List ℕ). admitted_of to (record { name = name; greeting = world.site.greeting } ∷ [])) is.rest.host_is
    ∙ ap (λ (greeting : List (List ℕ)). admitted_of to (record { name = w.host; greeting = greeting } ∷ [])) is.rest.greeting_is

-- before the creation came a copy is lost
pub lost_step : (world : World) (w : PlainWorld) → IsPlain world w → (body sid : List ℕ) (request : Request) → request.kind ≡ kinds.Later sid → world.manager ≡ None
    → (news : List SeenItem) → news ≡ [] → IsPlainStep news world (comes w body request request.kind w.manager)
lost_step world w is body sid request kind has news it =
    subst (λ k. IsPlainStep news world (comes w body request k w.manager)) (sym kind)
    (subst (λ o. IsPlainStep news world (comes w body request (kinds.Later sid) o)) (sym (no_manager world.manager w.manager has is.end)) (record { seen_is = it; world_is = is }))

pub arrive_step : (world : World) (w : PlainWorld) → IsPlain world w → (manager : Manager) (body sid : List ℕ) (request : Request) → request.kind ≡ kinds.Later sid → world.manager ≡ Some manager
    → (told : List Told) (after : Manager) → ((m : PlainManager) → IsManager manager m → IsTurn told after (arrives m request body world.moment))
    → (first : List SeenItem) → first ≡ [] → (news : List SeenItem) (next : World) → ((turn : Turn) → IsTurn told after turn → IsPlainStep news next (turns w first turn))
    → IsPlainStep news next (comes w body request request.kind w.manager)
arrive_step world w is manager body sid request kind has told after call first none news next step =
    let there = has_manager world.manager manager w.manager has is.end in
    let m = there.plain in
    subst (λ k. IsPlainStep news next (comes w body request k w.manager)) (sym kind)
    (subst (λ o. IsPlainStep news next (comes w body request (kinds.Later sid) o)) (sym there.is)
    (subst (λ items. IsPlainStep news next (turns w items (arrives m request body w.moment))) none
    (step (arrives m request body w.moment) (subst (λ (n : ℕ). IsTurn told after (arrives m request body n)) is.rest.moment_is (call m there.stands)))))
