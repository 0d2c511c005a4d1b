-- What comes to a manager leaves it sound, and what it then answers are answers to their ids.
use Rattle.std.proofs.Common.{◌≡◌, ℕ, suc, ◌+◌, ◌≤◌, Bool, true, false, List, [], ◌∷◌, ◌++◌, Option, Some, None, length, map, inl, inr, refl, sym, ◌∙◌, ap, subst, arith, append-nil}
use Rattle.std.specs.Prelude.{All, is_some}
use Rattle.std.proofs.lemmas.List.Elements.{All-append, All-cons, All-head, All-nil, All-tail}
use Rattle.bosh_types.specs.declared.condition.Condition.TheVariants.{ItemNotFound, UndefinedCondition}
use Rattle.bosh_types.specs.declared.ending.Closing.{Closing}
use Rattle.bosh_types.specs.declared.ending.Ending.{Ending}
use Rattle.bosh_types.specs.declared.inward.Inward.{Inward}
use Rattle.session_attrs.specs.declared.request.Request.{Request}
use Rattle.session_core.specs.declared.replies.Arrived.{Arrived}
use Rattle.session_core.specs.declared.replies.Arrived.TheVariants as arrivals
use Rattle.session_core.specs.declared.replies.Collected.{Collected}
use Rattle.session_core.specs.declared.replies.Collected.TheVariants as collections
use Rattle.session_core.specs.declared.replies.Ticked.{Ticked}
use Rattle.session_core.specs.declared.replies.Ticked.TheVariants as ticks
use Rattle.session_core.specs.Journal.{Call, Arrive, Back, BackClosed, Collect, Tick, IsAllowed, IsJournal, Journal, ToArrive, ToCollect, state_of, step}
use Rattle.session_core.specs.Machine.{arrive, bytes_for, collect, tick}
use Rattle.session_core.specs.Placed.{struck_tickets}
use Rattle.session_core.specs.State.{Issued, PlainSession, is_over}
use Rattle.session_laws.specs.Replies.{IsToldTo}
use Rattle.session_laws.specs.Tickets.{after_arrival}
use Rattle.session_laws.proofs.Tests.{if_true, is_or_not, some_is}
use Rattle.bosh_client.specs.declared.setup.ClientSetup.{ClientSetup}
use Rattle.bosh_client.specs.PlainClient.{Taken}
use Rattle.world_laws.specs.declared.told.Parked.{Parked}
use Rattle.world_laws.specs.declared.told.Told.{Told}
use Rattle.world_laws.specs.declared.told.Told.TheVariants as tells
use Rattle.session_calls.specs.After.{after_call, all_taken, untaken}
use Rattle.world_laws.specs.Manager.{PlainManager, Turn, all_collected, arrived, arrives, collected_told, ending_told, gives, not_found, passes, session, settled, shuts, still, still_parked, ticked, told_of, turned, with_journal, with_parked}
use Rattle.world_laws.specs.Sound.{IsAnswerTo, IsOpenedBy, IsParkedAt, IsSoundManager, IsTicketOf, IsWrittenTo, body_taken}
use Rattle.world_laws.specs.Steps.{answers_in}
use Rattle.world_laws.proofs.Below.{Below}
use Rattle.world_laws.proofs.CallLemmas.{Brings, arrival_enters}
use Rattle.world_laws.proofs.GrownLemmas.{Grown, all_passed_grows, call_grows, collected_grows, grown_then, state_after}
use Rattle.world_laws.proofs.TicketLemmas.{length_struck, newly_parked}

-- what holds of one value holds of another, for all of a list
pub all_follow : {X : Type 0} (P Q : X → Type 0) (xs : List X) → ((x : X) → P x → Q x) → All P xs → All Q xs
all_follow P Q [] follows all = All-nil Q
all_follow P Q (x ∷ xs) follows all = All-cons Q x xs (follows x (All-head P x xs all)) (all_follow P Q xs follows (All-tail P x xs all))

-- What is told.

pub answers-append : (one other : List Told) → answers_in (one ++ other) ≡ answers_in one ++ answers_in other
answers-append [] other = refl
answers-append (tells.Passed item ∷ one) other = answers-append one other
answers-append (tells.Answer rid body ∷ one) other = ap (λ l. (rid, body) ∷ l) (answers-append one other)
answers-append (tells.Gone rid ∷ one) other = answers-append one other
answers-append (tells.Over ending ∷ one) other = answers-append one other

none_passed : (items : List Inward) → answers_in (map tells.Passed items) ≡ []
none_passed [] = refl
none_passed (item ∷ items) = none_passed items

none_ended : (was_over : Bool) (ending : Option Ending) → answers_in (ending_told was_over ending) ≡ []
none_ended true ending = refl
none_ended false None = refl
none_ended false (Some ending) = refl

turned_answers : (was_over : Bool) (m : PlainManager) (answer : List Told)
    → answers_in (turned was_over m answer).told ≡ answers_in answer ++ answers_in (collected_told (all_taken m.journal) m.parked)
turned_answers was_over m answer =
    let collected = collected_told (all_taken m.journal) m.parked in
    let ended = ending_told was_over (session (settled m)).ending in
    answers-append (map tells.Passed (untaken m.journal)) (answer ++ (collected ++ ended))
    ∙ ap (λ l. l ++ answers_in (answer ++ (collected ++ ended))) (none_passed (untaken m.journal))
    ∙ answers-append answer (collected ++ ended)
    ∙ ap (λ l. answers_in answer ++ l) (answers-append collected ended ∙ ap (λ l. answers_in collected ++ l) (none_ended was_over (session (settled m)).ending) ∙ append-nil (answers_in collected))

-- an ending stays
pub still_over : (sent : List (ℕ × List ℕ)) (moment : ℕ) (j k : Journal) → Grown sent moment j k → is_over (state_of j) ≡ true → is_over (state_of k) ≡ true
still_over sent moment j k g over = by (state_of j).ending refl over
  where
    by : (o : Option Ending) → (state_of j).ending ≡ o → is_some o ≡ true → is_over (state_of k) ≡ true
    by None is over = absurd (cc)
    by (Some ending) is over = ap is_some (g.ending ending is)

-- what is an answer to its id stays one
pub still_answers : (sent : List (ℕ × List ℕ)) (moment : ℕ) (j k : Journal) → Grown sent moment j k → (answer : ℕ × List ℕ) → IsAnswerTo (state_of j) answer → IsAnswerTo (state_of k) answer
still_answers sent moment j k g answer is = elim is [
  | inl given ↦ inl (g.bytes answer.0 answer.1 given)
  | inr word ↦ inr (word.0, word.1, still_over sent moment j k g word.2, word.3)
]

pub still_written : (sent : List (ℕ × List ℕ)) (moment : ℕ) (j k : Journal) → Grown sent moment j k → (answer : ℕ × List ℕ) → IsWrittenTo (state_of j) answer → IsWrittenTo (state_of k) answer
still_written sent moment j k g answer is = elim is [
  | inl answers ↦ inl (still_answers sent moment j k g answer answers)
  | inr error ↦ inr error
]

module _ (below : Below) (sent : List (ℕ × List ℕ)) (moment : ℕ) where
  fate_answers : (j : Journal) → IsJournal j → (p : Parked) → IsParkedAt (state_of j) p → (told : Collected) → (collect (state_of j) p.ticket).1 ≡ told
      → All (IsWrittenTo (state_of j)) (answers_in (told_of p told))
  fate_answers j made p parked (collections.Answer body) is =
      let tells = ((below.journals j made).collects p.ticket (collections.Answer body)).0 (ap ToCollect is) in
      let same : tells.0 ≡ parked.0 = some_is tells.0 parked.0 (sym tells.1 ∙ parked.1) in
      let rid : tells.0.rid ≡ p.rid = ap (λ (t : Issued). t.rid) same ∙ parked.2 in
      let written : IsWrittenTo (state_of j) (p.rid, body) = elim tells.2 [
        | inl given ↦ inl (inl (ap (λ (n : ℕ). bytes_for (state_of j) n) (sym rid) ∙ given.1))
        | inr error ↦ inr error.1
      ] in
      All-cons (IsWrittenTo (state_of j)) (p.rid, body) [] written (All-nil (IsWrittenTo (state_of j)))
  fate_answers j made p parked collections.NotYet is = All-nil (IsWrittenTo (state_of j))
  fate_answers j made p parked collections.Superseded is = All-nil (IsWrittenTo (state_of j))
  fate_answers j made p parked collections.UnknownTicket is = All-nil (IsWrittenTo (state_of j))

  still_waits : (s : PlainSession) (p : Parked) → IsParkedAt s p → (told : Collected) → All (IsParkedAt s) (still p told)
  still_waits s p parked (collections.Answer body) = All-nil (IsParkedAt s)
  still_waits s p parked collections.NotYet = All-cons (IsParkedAt s) p [] parked (All-nil (IsParkedAt s))
  still_waits s p parked collections.Superseded = All-nil (IsParkedAt s)
  still_waits s p parked collections.UnknownTicket = All-nil (IsParkedAt s)

  still_parks : (j k : Journal) → Grown sent moment j k → (parked : List Parked) → All (IsParkedAt (state_of j)) parked → All (IsParkedAt (state_of k)) parked
  still_parks j k g parked all = all_follow (IsParkedAt (state_of j)) (IsParkedAt (state_of k)) parked (λ p is. g.tickets p.ticket p.rid is) all

  collected_answers : (j : Journal) (parked : List Parked) → IsJournal j → All (IsParkedAt (state_of j)) parked
      → All (IsWrittenTo (state_of (all_collected j parked))) (answers_in (collected_told j parked))
  collected_answers j [] made all = All-nil (IsWrittenTo (state_of j))
  collected_answers j (p ∷ parked) made all =
      let j2 = after_call j (Collect p.ticket) in
      let k = all_collected j2 parked in
      let one = call_grows below sent moment j (Collect p.ticket) tt tt made in
      let later = grown_then sent moment j j2 k one (collected_grows below sent moment j2 parked one.made) in
      let told = (collect (state_of j) p.ticket).1 in
      let here = all_follow (IsWrittenTo (state_of j)) (IsWrittenTo (state_of k)) (answers_in (told_of p told)) (still_written sent moment j k later)
      (fate_answers j made p (All-head (IsParkedAt (state_of j)) p parked all) told refl) in
      let others = collected_answers j2 parked one.made (still_parks j j2 one parked (All-tail (IsParkedAt (state_of j)) p parked all)) in
      subst (λ answers. All (IsWrittenTo (state_of k)) answers) (sym (answers-append (told_of p told) (collected_told j2 parked)))
      (All-append (IsWrittenTo (state_of k)) (answers_in (told_of p told)) (answers_in (collected_told j2 parked)) here others)

  collected_parked : (j : Journal) (parked : List Parked) → IsJournal j → All (IsParkedAt (state_of j)) parked
      → All (IsParkedAt (state_of (all_collected j parked))) (still_parked j parked)
  collected_parked j [] made all = All-nil (IsParkedAt (state_of j))
  collected_parked j (p ∷ parked) made all =
      let j2 = after_call j (Collect p.ticket) in
      let k = all_collected j2 parked in
      let one = call_grows below sent moment j (Collect p.ticket) tt tt made in
      let later = grown_then sent moment j j2 k one (collected_grows below sent moment j2 parked one.made) in
      let told = (collect (state_of j) p.ticket).1 in
      let here = still_parks j k later (still p told) (still_waits (state_of j) p (All-head (IsParkedAt (state_of j)) p parked all) told) in
      let others = collected_parked j2 parked one.made (still_parks j j2 one parked (All-tail (IsParkedAt (state_of j)) p parked all)) in
      All-append (IsParkedAt (state_of k)) (still p told) (still_parked j2 parked) here others

-- a manager after what came to it, with what it answered
abbrev pub IsSoundTurn : ClientSetup → List (ℕ × List ℕ) → List (ℕ × List ℕ) → List (ℕ × Taken) → ℕ → Turn → Type 0
IsSoundTurn setup sent written answers moment turn = IsSoundManager setup sent (written ++ answers_in turn.told) answers moment turn.after

module _ (below : Below) (setup : ClientSetup) (sent written : List (ℕ × List ℕ)) (answers : List (ℕ × Taken)) (moment : ℕ) where
  -- a longer journal
  grown_sound : (m : PlainManager) (k : Journal) → Grown sent moment m.journal k → IsSoundManager setup sent written answers moment m → IsSoundManager setup sent written answers moment (with_journal m k)
  grown_sound m k g h = record {
    made = g.made;
    opened = subst (IsOpenedBy setup) (sym g.opening_is) h.opened;
    arrived = g.arrivals h.arrived;
    parked_at = still_parks below sent moment m.journal k g m.parked h.parked_at;
    written_are = all_follow (IsWrittenTo (session m)) (IsWrittenTo (state_of k)) written (still_written sent moment m.journal k g) h.written_are;
    taken_are = all_follow (λ answer. IsAnswerTo (session m) (body_taken answer)) (λ answer. IsAnswerTo (state_of k) (body_taken answer)) answers
        (λ answer. still_answers sent moment m.journal k g (body_taken answer)) h.taken_are;
    early = g.early h.early;
  }

  pub called_sound : (m : PlainManager) (call : Call) → IsAllowed call → Brings sent moment call → IsSoundManager setup sent written answers moment m
      → IsSoundManager setup sent written answers moment (with_journal m (after_call m.journal call))
  called_sound m call allowed brings h = grown_sound m (after_call m.journal call) (call_grows below sent moment m.journal call allowed brings h.made) h

  -- what follows a call: items are passed on, and the tickets are collected
  pub turned_sound : (was_over : Bool) (m : PlainManager) (answer : List Told) → All (IsWrittenTo (session m)) (answers_in answer)
      → IsSoundManager setup sent written answers moment m → IsSoundTurn setup sent written answers moment (turned was_over m answer)
  turned_sound was_over m answer answered h =
      let j = all_taken m.journal in
      let k = all_collected j m.parked in
      let passed = all_passed_grows below sent moment m.journal h.made in
      let g = grown_then sent moment m.journal j k passed (collected_grows below sent moment j m.parked passed.made) in
      let waiting = still_parks below sent moment m.journal j passed m.parked h.parked_at in
      let later = grown_sound m k g h in
      record {
        made = g.made;
        opened = later.opened;
        arrived = later.arrived;
        parked_at = collected_parked below sent moment j m.parked passed.made waiting;
        written_are =
            All-append (IsWrittenTo (state_of k)) written (answers_in (turned was_over m answer).told) later.written_are
            (subst (λ told. All (IsWrittenTo (state_of k)) told) (sym (turned_answers was_over m answer))
            (All-append (IsWrittenTo (state_of k)) (answers_in answer) (answers_in (collected_told j m.parked))
            (all_follow (IsWrittenTo (session m)) (IsWrittenTo (state_of k)) (answers_in answer) (still_written sent moment m.journal k g) answered)
            (collected_answers below sent moment j m.parked passed.made waiting)));
        taken_are = later.taken_are;
        early = later.early;
      }

  -- The server gives, the stream is closed, time passes.

  pub gives_sound : (m : PlainManager) (stream : ℕ) (stanza : List ℕ) (now : ℕ) → now ≤ moment → IsAllowed (Back stream stanza now) → IsSoundManager setup sent written answers moment m
      → IsSoundTurn setup sent written answers moment (gives m stream stanza now)
  gives_sound m stream stanza now by allowed h =
      let call = Back stream stanza now in
      let after = with_journal m (after_call m.journal call) in
      turned_sound (is_over (session m)) after [] (All-nil (IsWrittenTo (session after))) (called_sound m call allowed by h)

  pub shuts_sound : (m : PlainManager) (stream : ℕ) (closing : Closing) (now : ℕ) → now ≤ moment → IsSoundManager setup sent written answers moment m
      → IsSoundTurn setup sent written answers moment (shuts m stream closing now)
  shuts_sound m stream closing now by h =
      let call = BackClosed stream closing now in
      let after = with_journal m (after_call m.journal call) in
      turned_sound (is_over (session m)) after [] (All-nil (IsWrittenTo (session after))) (called_sound m call tt by h)

  ticked_sound : (m after : PlainManager) (reply : Ticked) → IsSoundManager setup sent written answers moment m → IsSoundManager setup sent written answers moment after
      → IsSoundTurn setup sent written answers moment (ticked m after reply)
  ticked_sound m after ticks.Quiet h later = subst (λ l. IsSoundManager setup sent l answers moment m) (sym (append-nil written)) h
  ticked_sound m after ticks.Changed h later = turned_sound (is_over (session m)) after [] (All-nil (IsWrittenTo (session after))) later

  pub passes_sound : (m : PlainManager) (now : ℕ) → now ≤ moment → IsSoundManager setup sent written answers moment m → IsSoundTurn setup sent written answers moment (passes m now)
  passes_sound m now by h =
      ticked_sound m (with_journal m (after_call m.journal (Tick now))) (tick (session m) now).1 h (called_sound m (Tick now) tt by h)

  -- A copy arrives.

  module _ (m : PlainManager) (request : Request) (body : List ℕ) (now : ℕ) (allowed : IsAllowed (Arrive request body now))
      (h : IsSoundManager setup sent written answers moment m) where
    abbrev call : Call
    call = Arrive request body now

    abbrev after : PlainManager
    after = with_journal m (after_call m.journal call)

    over_says_so : is_over (session m) ≡ true → (reply : Arrived) → (arrive (session m) request body now).1 ≡ reply → arrivals.Over ≡ reply
    over_says_so over reply is =
        let told : ToArrive (arrive (session m) request body now).1 ≡ ToArrive arrivals.Over = ((below.journals m.journal h.made).over request body now allowed).1 over in
        cc

    over_after : is_over (session m) ≡ true → is_over (session after) ≡ true
    over_after over =
        subst (λ (s : PlainSession). is_over s ≡ true) (sym (state_after below m.journal call h.made))
        (subst (λ (r : PlainSession × Arrived). is_over r.0 ≡ true) (sym (if_true (is_over (session m)) (session m, arrivals.Over) _ over)) over)

    told_answers : (rid : ℕ) (bytes : List ℕ) (s : PlainSession) → IsToldTo s rid bytes → IsAnswerTo s (rid, bytes)
    told_answers rid bytes s is = elim is [
      | inl given ↦ inl given
      | inr refused ↦ elim refused.1 [
        | inl found ↦ inr (Some ItemNotFound, found, refused.0, inl refl)
        | inr limit ↦ inr (Some UndefinedCondition, limit, refused.0, inr refl)
      ]
    ]

    answered : (bytes : List ℕ) → (arrive (session m) request body now).1 ≡ arrivals.Answer bytes → IsAnswerTo (session after) (request.rid, bytes)
    answered bytes is = elim (is_or_not (is_over (session m))) [
      | inl over ↦ absurd (cc (over_says_so over (arrivals.Answer bytes) is))
      | inr on ↦ subst (λ s. IsAnswerTo s (request.rid, bytes)) (sym (state_after below m.journal call h.made))
          (told_answers request.rid bytes (step (session m) call).0 ((below.journals m.journal h.made).told request body now bytes allowed on (ap ToArrive is)))
    ]

    waits : (ticket : ℕ) → (arrive (session m) request body now).1 ≡ arrivals.Parked ticket → IsTicketOf (session after).tickets ticket request.rid
    waits ticket is = elim (is_or_not (is_over (session m))) [
      | inl over ↦ absurd (cc (over_says_so over (arrivals.Parked ticket) is))
      | inr on ↦
          let laws = below.journals m.journal h.made in
          let number : ticket ≡ length (session m).tickets + 1 = ((laws.parked request body now ticket allowed on).0 (ap ToArrive is)).0 in
          let next : ticket ≡ suc (length (session m).tickets) = omega (arith, number) in
          let entry = arrival_enters (session m) request body now on in
          let placed = laws.placed call entry.0 allowed entry.1 in
          let before : List Issued = struck_tickets placed.struck (session m).tickets in
          let count : suc (length (session m).tickets) ≡ suc (length before) = ap suc (sym (length_struck placed.struck (session m).tickets)) in
          let tickets : (session after).tickets ≡ after_arrival before request.rid (arrivals.Parked (suc (length before))) =
          ap (λ (s : PlainSession). s.tickets) (state_after below m.journal call h.made) ∙ laws.tickets call entry.0 placed entry.1
          ∙ ap (after_arrival before request.rid) (is ∙ ap arrivals.Parked (next ∙ count)) in
          subst (λ n. IsTicketOf (session after).tickets n request.rid) (sym (next ∙ count))
          (subst (λ issued. IsTicketOf issued (suc (length before)) request.rid) (sym tickets) (newly_parked before request.rid))
    ]

    parked_sound : (ticket : ℕ) → IsTicketOf (session after).tickets ticket request.rid → IsSoundManager setup sent written answers moment after
        → IsSoundManager setup sent written answers moment (with_parked after ticket request.rid)
    parked_sound ticket is later =
        let p : Parked = record { ticket = ticket; rid = request.rid } in
        record {
          made = later.made;
          opened = later.opened;
          arrived = later.arrived;
          parked_at = All-append (IsParkedAt (session after)) m.parked (p ∷ []) later.parked_at (All-cons (IsParkedAt (session after)) p [] is (All-nil (IsParkedAt (session after))));
          written_are = later.written_are;
          taken_are = later.taken_are;
          early = later.early;
        }

    one_answer : (s : PlainSession) (rid : ℕ) (bytes : List ℕ) → IsAnswerTo s (rid, bytes) → All (IsWrittenTo s) ((rid, bytes) ∷ [])
    one_answer s rid bytes is = All-cons (IsWrittenTo s) (rid, bytes) [] (inl is) (All-nil (IsWrittenTo s))

    arrived_sound : (reply : Arrived) → (arrive (session m) request body now).1 ≡ reply → IsSoundManager setup sent written answers moment after
        → IsSoundTurn setup sent written answers moment (arrived (is_over (session m)) after request.rid reply)
    arrived_sound (arrivals.Answer bytes) is later =
        turned_sound (is_over (session m)) after (tells.Answer request.rid bytes ∷ []) (one_answer (session after) request.rid bytes (answered bytes is)) later
    arrived_sound (arrivals.Parked ticket) is later =
        let parked = with_parked after ticket request.rid in
        turned_sound (is_over (session m)) parked [] (All-nil (IsWrittenTo (session parked))) (parked_sound ticket (waits ticket is) later)
    arrived_sound arrivals.Over is later =
        turned_sound (is_over (session m)) after (not_found request.rid ∷ [])
        (one_answer (session after) request.rid _ (inr (Some ItemNotFound, refl, over_after (((below.journals m.journal h.made).over request body now allowed).0 (ap ToArrive is)), inl refl))) later

    pub arrives_sound : Brings sent moment call → IsSoundTurn setup sent written answers moment (arrives m request body now)
    arrives_sound brings = arrived_sound (arrive (session m) request body now).1 refl (called_sound m call allowed brings h)
