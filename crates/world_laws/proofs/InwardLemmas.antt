-- On each stream, what goes inward is a beginning of what the client made for it: the copies of the longest unbroken run are of its first
-- requests.
use Rattle.std.proofs.Common.{◌≡◌, ℕ, zero, suc, ◌+◌, ◌<◌, ◌≤◌, true, false, List, [], ◌∷◌, ◌++◌, length, slice_get, refl, sym, ◌∙◌, ap, subst, arith, append_assoc, inl, inr}
use Rattle.std.specs.Prelude.{None, Some, Option, All}
use Rattle.std.specs.List.{list_all, list_any}
use Rattle.bosh_types.specs.declared.inward.Inward.{Inward}
use Rattle.body_writer.specs.declared.request.RequestParts.{RequestParts}
use Rattle.session_attrs.specs.declared.request.Request.{Request}
use Rattle.session_core.specs.declared.copy.RequestCopy.{RequestCopy}
use Rattle.session_core.specs.Copy as copies
use Rattle.session_core.specs.Processed.{as_creation, copies_of, items_of}
use Rattle.session_core.specs.ReadBack.{asked_by}
use Rattle.session_core.specs.Run.{run_of}
use Rattle.session_core.specs.State.{PlainSession, inward}
use Rattle.session_laws.proofs.Lists.{copies_length, get_some, get_within}
use Rattle.session_laws.proofs.Tests.{some_is, true_false}
use Rattle.stream_names.specs.PlainStreams.{begun}
use Rattle.bosh_client.specs.declared.outgoing.Outgoing.{Outgoing}
use Rattle.bosh_client.specs.declared.outgoing.Outgoing.TheVariants as outgoing
use Rattle.bosh_client.specs.declared.setup.ClientSetup.{ClientSetup}
use Rattle.bosh_client.specs.Outgoing.{host_in, is_restart, is_stanza, pause_in, stanzas_in, terminates}
use Rattle.bosh_client.specs.PlainClient.{Made, PlainClient, id_of}
use Rattle.bosh_client.specs.Promises.{Begins, Carries, HasForm}
use Rattle.bosh_client.specs.Requests.{creation_parts}
use Rattle.bosh_client.specs.StandsFor.{AreFrom}
use Rattle.world_laws.specs.Manager.{PlainManager, session}
use Rattle.world_laws.specs.Promises.{content_on, inward_at, sent_while, was_made, went_inward}
use Rattle.world_laws.specs.Sound.{IsSound, IsSoundManager}
use Rattle.world_laws.specs.World.{PlainWorld}
use Rattle.world_laws.proofs.Below.{Below}
use Rattle.world_laws.proofs.EventLemmas.{manager_of}
use Rattle.world_laws.proofs.NameLemmas.{opened_rid, setup_same}
use Rattle.world_laws.proofs.PlaceLemmas.{all_at}
use Rattle.world_laws.proofs.PrefixLemmas.{AreCopies, copies_begin_made, taken_by}
use Rattle.world_laws.proofs.SentLemmas.{bare_creation, carried_while, sent_on}
use Rattle.world_laws.proofs.StoodLemmas.{all_carry, copy_of, few_processed, keeping, later_processed}

-- A creation takes nothing of the queue.

none_of_stanzas : (items : List Outgoing) → list_all is_stanza items ≡ true → [] ≡ stanzas_in items → items ≡ []
none_of_stanzas [] all none = refl
none_of_stanzas (outgoing.Stanza on bytes ∷ items) all none = absurd (some none)
  where
    some : [] ≡ bytes ∷ stanzas_in items → ⊥
    some is = cc
none_of_stanzas (outgoing.Restart ∷ items) all none = absurd (true_false (sym all))
none_of_stanzas (outgoing.Pause seconds ∷ items) all none = absurd (true_false (sym all))
none_of_stanzas (outgoing.Add to ∷ items) all none = absurd (true_false (sym all))
none_of_stanzas (outgoing.Close stream ∷ items) all none = absurd (true_false (sym all))
none_of_stanzas (outgoing.Terminate ∷ items) all none = absurd (true_false (sym all))

takes_none : (setup : ClientSetup) (request : Made) → request.parts ≡ creation_parts setup → Carries request → request.items ≡ []
takes_none setup request parts carries = elim carries.alone [
  | inl all ↦ none_of_stanzas request.items all.0 (sym (ap (λ (p : RequestParts). p.payloads) parts) ∙ carries.payloads)
  | inr one ↦ absurd (by one.0
      (sym (ap (λ (p : RequestParts). p.payloads) parts) ∙ carries.payloads ∙ ap stanzas_in one.1)
      (sym (ap (λ (p : RequestParts). p.restart) parts) ∙ carries.restart ∙ ap (list_any is_restart) one.1)
      (sym (ap (λ (p : RequestParts). p.pause) parts) ∙ carries.pause ∙ ap pause_in one.1)
      (sym (ap (λ (p : RequestParts). p.to) parts) ∙ carries.to ∙ ap host_in one.1)
      (sym (ap (λ (p : RequestParts). p.terminate) parts) ∙ carries.terminate ∙ ap (list_any terminates) one.1))
]
  where
    some_payload : (bytes : List ℕ) → [] ≡ bytes ∷ [] → ⊥
    some_payload bytes is = cc

    some_pause : (seconds : ℕ) → None ≡ Some seconds → ⊥
    some_pause seconds is = cc

    some_host : (to : List ℕ) → None ≡ Some to → ⊥
    some_host to is = cc

    by : (item : Outgoing) → [] ≡ stanzas_in (item ∷ []) → false ≡ list_any is_restart (item ∷ []) → None ≡ pause_in (item ∷ []) → None ≡ host_in (item ∷ []) → false ≡ list_any terminates (item ∷ []) → ⊥
    by (outgoing.Stanza on bytes) stanzas restart pause to ends = some_payload bytes stanzas
    by outgoing.Restart stanzas restart pause to ends = true_false (sym restart)
    by (outgoing.Pause seconds) stanzas restart pause to ends = some_pause seconds pause
    by (outgoing.Add host) stanzas restart pause to ends = some_host host to
    by (outgoing.Close stream) stanzas restart pause to ends = true_false (sym ends)
    by outgoing.Terminate stanzas restart pause to ends = true_false (sym ends)

module _ (below : Below) (setup : ClientSetup) (w : PlainWorld) (h : IsSound setup w) (m : PlainManager) (is : w.manager ≡ Some m) where
  abbrev requests : List Made
  requests = w.client.requests

  pub sound : IsSoundManager setup w.sent w.written w.client.answers w.moment m
  sound = manager_of below setup w h (Some m) is

  pub rid_is : m.journal.opening.request.rid ≡ setup.first
  rid_is = opened_rid below setup h.begins.client h.begins.first m.journal.opening sound.opened

  pub from : AreFrom setup.first requests
  from =
      subst (λ (s : ClientSetup). AreFrom s.first requests) (setup_same below setup h.begins.client h.begins.first w.client h.client)
      (subst (λ (c : PlainClient). AreFrom c.setup.first c.requests) (sym h.client.is) (below.ids setup h.client.calls (h.begins.first).0))

  -- the request of each id of the run
  pub record Stands (k : ℕ) : Type 0 where
    pub request : Made
    pub here : slice_get requests k ≡ Some request

  pub stands : (k : ℕ) → k < length (run_of m.journal) → Stands k
  stands k within =
      let copy = get_some (run_of m.journal) k within in
      let run = (below.journals m.journal sound.made).run_each k copy.0 copy.1 in
      let of = copy_of below setup w h m.journal sound.made sound.opened sound.arrived (m.journal.opening.request.rid + k) copy.0 run in
      let place : of.place ≡ k = omega (arith, of.rid_is, rid_is, ap (λ (s : ClientSetup). s.first) (setup_same below setup h.begins.client h.begins.first w.client h.client)) in
      record { request = of.request; here = subst (λ (n : ℕ). slice_get requests n ≡ Some of.request) place of.here }

  -- the client's creation and its later requests
  pub record Requests : Type 0 where
    pub first : Made
    pub later : List Made
    pub are : requests ≡ first ∷ later

  pub parted : Requests
  parted = by requests refl
    where
      some : 1 ≤ length requests
      some =
          let run = (below.journals m.journal sound.made).run_each 0 (session m).creation refl in
          let of = copy_of below setup w h m.journal sound.made sound.opened sound.arrived (m.journal.opening.request.rid + 0) (session m).creation run in
          omega (arith, get_within requests of.place of.request of.here)

      by : (l : List Made) → requests ≡ l → Requests
      by [] none = absurd (omega (arith, some, ap length none))
      by (first ∷ later) is = record { first = first; later = later; are = is }

  pub first_takes : (parted.first).items ≡ []
  first_takes =
      let here : slice_get requests 0 ≡ Some parted.first = ap (λ (l : List Made). slice_get l 0) parted.are in
      takes_none w.client.setup parted.first ((keeping below setup w h).first parted.first here) (all_at Carries requests 0 parted.first (all_carry below setup w.client h.client) here)

  -- each copy that was processed is of the request with its place
  pub are_copies : AreCopies (copies_of (session m).processed) parted.later
  are_copies k copy at =
      let l = later_processed below setup w h m.journal sound.made sound.opened sound.arrived k copy at in
      (l.request, sym (ap (λ (r : List Made). slice_get r (suc k)) parted.are) ∙ l.here, l.fits)

  -- the creation carries nothing
  creation_bare : (stream : ℕ) → content_on stream (items_of (as_creation (session m).creation)) ≡ []
  creation_bare stream =
      let run = (below.journals m.journal sound.made).run_each 0 (session m).creation refl in
      let of = copy_of below setup w h m.journal sound.made sound.opened sound.arrived (m.journal.opening.request.rid + 0) (session m).creation run in
      let place : of.place ≡ 0 = omega (arith, of.rid_is, rid_is, ap (λ (s : ClientSetup). s.first) (setup_same below setup h.begins.client h.begins.first w.client h.client)) in
      let first : slice_get requests 0 ≡ Some of.request = subst (λ (n : ℕ). slice_get requests n ≡ Some of.request) place of.here in
      let parts : (of.request).parts ≡ creation_parts w.client.setup = (keeping below setup w h).first of.request first in
      bare_creation (session m).creation stream (of.are ∙ ap (λ (p : RequestParts). p.payloads) parts)
      (ap (λ (r : Request). r.restart) of.asked ∙ ap (λ (p : RequestParts). (asked_by p of.children).restart) parts)

  made_is : (stream : ℕ) → was_made w stream ≡ sent_while begun stream (taken_by parted.later)
  made_is stream =
      ap (λ (l : List Made). sent_while begun stream (taken_by l)) parted.are ∙ ap (λ (l : List Outgoing). sent_while begun stream (l ++ taken_by parted.later)) first_takes

  pub run_begins : (stream : ℕ) → Begins (content_on stream (inward (session m))) (was_made w stream)
  run_begins stream =
      let sent = sent_on m.journal sound.made stream in
      let carried : List Inward = carried_while begun stream (copies_of (session m).processed) in
      let xs : List Inward = content_on stream (inward (session m)) in
      let made = copies_begin_made (copies_of (session m).processed) parted.later begun stream are_copies in (
        sent.0 ++ made.0,
        made_is stream ∙ made.1 ∙ ap (λ (l : List Inward). (l ++ carried) ++ made.0) (sym (creation_bare stream)) ∙ ap (λ (l : List Inward). l ++ made.0) sent.1 ∙ append_assoc xs sent.0 made.0,
      )

pub inward_begins : Below → (setup : ClientSetup) (w : PlainWorld) → IsSound setup w → (stream : ℕ) → Begins (content_on stream (went_inward w)) (was_made w stream)
inward_begins below setup w h stream = by w.manager refl
  where
    by : (o : Option PlainManager) → w.manager ≡ o → Begins (content_on stream (inward_at o)) (was_made w stream)
    by None is = (was_made w stream, refl)
    by (Some m) is = run_begins below setup w h m is stream
