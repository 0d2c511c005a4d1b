-- A client names a stream that its session knows, unless an answer took the closing of that stream.
use Rattle.std.proofs.Common.{◌≡◌, ℕ, zero, suc, ◌+◌, ◌<◌, ◌==◌, ◌&&◌, Bool, true, false, not, inl, inr, List, [], ◌∷◌, ◌++◌, Option, Some, None, slice_get, length, take, drop, refl, sym, ◌∙◌, ap, subst, arith, append_assoc}
use Rattle.std.specs.Prelude.{All, IfSome, nat_lt}
use Rattle.std.specs.List.{find, list_any}
use Rattle.std.specs.Option.{option_map}
use Rattle.std.proofs.lemmas.Bool.Decides.{nat_tests}
use Rattle.bosh_types.specs.Limits.{most_streams}
use Rattle.stream_names.specs.PlainStreams.{PlainStreams, begun}
use Rattle.stream_names.specs.Streams.{is_among, name_of}
use Rattle.session_core.specs.declared.copy.RequestCopy.{RequestCopy}
use Rattle.session_core.specs.Facts.{NamesOpen}
use Rattle.session_core.specs.Journal.{IsJournal, Journal, state_of}
use Rattle.session_core.specs.Outward.{takes_closing}
use Rattle.session_core.specs.Processed.{closes, copies_of, ends}
use Rattle.session_core.specs.Run.{arrivals_of}
use Rattle.session_core.specs.State.{Answered, PlainSession, opened_in, running}
use Rattle.session_laws.specs.Streams.{IsClosedBy}
use Rattle.session_laws.proofs.Lists.{copies_length}
use Rattle.session_laws.proofs.OpenedLemmas.{any_some}
use Rattle.session_laws.proofs.OpenStreams.{is_open}
use Rattle.session_laws.proofs.Tests.{is_or_not, true_false}
use Rattle.bosh_client.specs.declared.outgoing.Outgoing.{Outgoing}
use Rattle.bosh_client.specs.declared.setup.ClientSetup.{ClientSetup}
use Rattle.bosh_client.specs.Outgoing.{stream_in, stream_of, streams_after}
use Rattle.bosh_client.specs.PlainClient.{Made, PlainClient, id_of, items_made, next_id, queued, request_at}
use Rattle.bosh_client.specs.Promises.{Carries}
use Rattle.bosh_client.specs.StandsFor.{AreFrom}
use Rattle.bosh_client.proofs.RunLemmas.{client_is}
use Rattle.world_laws.specs.Complete.{NamesClosed}
use Rattle.world_laws.specs.Manager.{PlainManager}
use Rattle.world_laws.specs.Sound.{IsOpenedBy, IsRunClient, IsSent, IsSound}
use Rattle.world_laws.specs.World.{PlainWorld}
use Rattle.world_laws.proofs.Below.{Below}
use Rattle.world_laws.proofs.InwardLemmas.{first_takes, parted}
use Rattle.world_laws.proofs.OpenForLemmas.{AreForOpen, open_front, open_rest}
use Rattle.world_laws.proofs.PlaceLemmas.{all_at}
use Rattle.world_laws.proofs.PrefixLemmas.{AreCopies, copies_turn_as_made, taken_by}
use Rattle.world_laws.proofs.SentLemmas.{left_by, left_open}
use Rattle.world_laws.proofs.StoodLemmas.{IsLater, all_carry, ids, keeping, later_processed}

less_true : (n m : ℕ) → n < m → nat_lt n m ≡ true
less_true n m less = grind (arith, nat_tests, less)

-- the request of an id by its place
found_at : (rid k : ℕ) (xs : List Made) → AreFrom rid xs → find (λ request. id_of request == rid + k) xs ≡ slice_get xs k
found_at rid k [] are = refl
found_at rid zero (x ∷ xs) are =
    let same : (id_of x == rid + 0) ≡ true = grind (arith, nat_tests, are.0) in
    rw same refl
found_at rid (suc k) (x ∷ xs) are =
    let other : (id_of x == rid + suc k) ≡ false = grind (arith, nat_tests, are.0) in
    let same : rid + suc k ≡ rid + 1 + k = omega arith in
    rw other (ap (λ (n : ℕ). find (λ request. id_of request == n) xs) same ∙ found_at (rid + 1) k xs are.1)

-- what was taken up to a request, and then by it
pub taken_split : (requests : List Made) (k : ℕ) (request : Made) → slice_get requests k ≡ Some request → taken_by requests ≡ taken_by (take k requests) ++ (request.items ++ taken_by (drop (suc k) requests))
taken_split [] k request at = absurd (cc)
taken_split (first ∷ requests) zero request at = ap (λ (r : Made). r.items ++ taken_by requests) (some_made at)
  where
    some_made : {r s : Made} → Some r ≡ Some s → r ≡ s
    some_made is = cc
taken_split (first ∷ requests) (suc k) request at =
    ap (λ (l : List Outgoing). first.items ++ l) (taken_split requests k request at)
    ∙ sym (append_assoc first.items (taken_by (take k requests)) (request.items ++ taken_by (drop (suc k) requests)))

-- what is for one stream alone is for one that is open
for_open : (items others : List Outgoing) (streams : PlainStreams) (n : ℕ) → AreForOpen streams (items ++ others) → stream_in items ≡ Some n → is_among streams.running n ≡ true
for_open [] others streams n are names = absurd (cc)
for_open (item ∷ items) others streams n are names = subst (λ (o : Option ℕ). IfSome o (λ m. is_among streams.running m ≡ true)) names are.0

module _ (below : Below) (setup : ClientSetup) (w : PlainWorld) (h : IsSound setup w) (m : PlainManager) (is : w.manager ≡ Some m)
    (j : Journal) (made : IsJournal j) (opened : IsOpenedBy setup j.opening) (arrived : All (IsSent w.sent) (arrivals_of j)) where
  abbrev c : PlainClient
  c = w.client

  abbrev s : PlainSession
  s = state_of j

  abbrev later : List Made
  later = (parted below setup w h m is).later

  are_copies : AreCopies (copies_of s.processed) later
  are_copies k copy at =
      let l = later_processed below setup w h j made opened arrived k copy at in
      (l.request, sym (ap (λ (r : List Made). slice_get r (suc k)) (parted below setup w h m is).are) ∙ l.here, l.fits)

  -- all that was accepted, in order, is for streams that are open then
  made_open : AreForOpen begun (taken_by later)
  made_open =
      let all : items_made c ++ queued c ≡ c.accepted = subst (λ (d : PlainClient). items_made d ++ queued d ≡ d.accepted) (sym h.client.is) (client_is setup h.client.calls (h.begins.first).0).all in
      let items : items_made c ≡ taken_by later =
      ap taken_by (parted below setup w h m is).are ∙ ap (λ (l : List Outgoing). l ++ taken_by later) (first_takes below setup w h m is) in
      subst (AreForOpen begun) items (open_front begun (items_made c) (queued c) (subst (AreForOpen begun) (sym all) (keeping below setup w h).open_for))

  -- a stream that the next request names is open by the copies that were processed
  named_left : (n : ℕ) (request : Made) → slice_get c.requests (suc (length s.processed)) ≡ Some request → stream_in request.items ≡ Some n → is_among (left_by s.processed).running n ≡ true
  named_left n request here names =
      let k : ℕ = length s.processed in
      let place : slice_get later k ≡ Some request = sym (ap (λ (r : List Made). slice_get r (suc k)) (parted below setup w h m is).are) ∙ here in
      let parts : AreForOpen begun (taken_by (take k later) ++ (request.items ++ taken_by (drop (suc k) later))) = subst (AreForOpen begun) (taken_split later k request place) made_open in
      let count : taken_by (take (length (copies_of s.processed)) later) ≡ taken_by (take k later) = ap (λ (i : ℕ). taken_by (take i later)) (copies_length s.processed) in
      let same : left_by s.processed ≡ streams_after begun (taken_by (take k later)) = copies_turn_as_made (copies_of s.processed) later begun are_copies ∙ ap (streams_after begun) count in
      ap (λ (x : PlainStreams). is_among x.running n) same
      ∙ for_open request.items (taken_by (drop (suc k) later)) (streams_after begun (taken_by (take k later))) n (open_rest begun (taken_by (take k later)) (request.items ++ taken_by (drop (suc k) later)) parts) names

  pub names_closed : (rid : ℕ) (copy : RequestCopy) → rid ≡ c.setup.first + suc (length s.processed) → list_any ends s.processed ≡ false
      → IsLater c c.setup.first (length s.processed) copy → (NamesOpen s copy → ⊥) → NamesClosed c s rid
  names_closed rid copy next none l shut = by (l.request).parts.stream refl
    where
      carries : Carries l.request
      carries = all_at Carries c.requests (suc (length s.processed)) l.request (all_carry below setup c h.client) l.here

      no_name : (name : List ℕ) → None ≡ Some name → ⊥
      no_name name is = cc

      some_name : {a b : List ℕ} → Some a ≡ Some b → a ≡ b
      some_name is = cc

      by : (o : Option ℕ) → (l.request).parts.stream ≡ o → NamesClosed c s rid
      by None unnamed = absurd (shut (λ name says. absurd (no_name name (sym (l.stream_is ∙ ap (option_map name_of) unnamed) ∙ says))))
      by (Some n) named =
          let items : stream_in (l.request).items ≡ Some n = sym carries.stream ∙ named in
          let small : n < most_streams = subst (λ (o : Option ℕ). IfSome o (λ m. m < most_streams)) items (l.fits).small in
          let left = left_open j made n none (named_left n l.request l.here items) in
          let runs_not : is_among (running s) n ≡ false = closed_to (is_among (running s) n) refl in
          record {
            request = l.request;
            stream = n;
            made = ap (λ (i : ℕ). request_at c i) next ∙ found_at c.setup.first (suc (length s.processed)) c.requests (ids below setup w h) ∙ l.here;
            names = named;
            closed = any_some (λ answer. takes_closing n answer.front) s.answered (taken_so n small left.0 left.1 runs_not);
          }
        where
          closed_to : (b : Bool) → is_among (running s) n ≡ b → is_among (running s) n ≡ false
          closed_to true runs = absurd (shut (λ name says. (n, runs, some_name (sym (l.stream_is ∙ ap (option_map name_of) named) ∙ says))))
          closed_to false fails = fails

          taken_so : (n : ℕ) → n < most_streams → n < opened_in s.processed → list_any (closes n) s.processed ≡ false → is_among (running s) n ≡ false
              → list_any (λ answer. takes_closing n answer.front) s.answered ≡ true
          taken_so n small less unshut fails = elim (is_or_not (list_any (λ answer. takes_closing n answer.front) s.answered)) [
            | inl any ↦ any
            | inr untaken ↦
                let below_it : nat_lt n (opened_in s.processed) ≡ true = less_true n (opened_in s.processed) less in
                absurd (true_false (sym (is_open s.processed s.answered n small (λ i. below_it i && (not (unshut i) && not (untaken i)))) ∙ fails))
          ]
