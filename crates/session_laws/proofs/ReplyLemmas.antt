-- What calls are told, both ways.
use Rattle.std.proofs.Common.{◌≡◌, ◌↔◌, ℕ, zero, suc, ◌+◌, ◌-◌, ◌<◌, ◌≤◌, ◌==◌, ◌||◌, Bool, true, false, not, List, [], ◌∷◌, Option, Some, None, nat_le, is_some, length, map, slice_get, refl, sym, ◌∙◌, ap, arith, subst, cond, if◌then◌else◌, inl, inr}
use Rattle.std.specs.Option.{option_map, option_or}
use Rattle.std.proofs.lemmas.List.{length-map}
use Rattle.std.proofs.lemmas.Bool.{leb-true, leb-false}
use Rattle.std.proofs.lemmas.Bool.Decides.{nat_tests}
use Rattle.bosh_types.specs.ById.{at_id}
use Rattle.bosh_types.specs.Rid.{greatest_rid}
use Rattle.bosh_types.specs.declared.ending.Closing.{Closing}
use Rattle.bosh_types.specs.declared.ending.Ending.{Ending}
use Rattle.bosh_types.specs.declared.ending.Ending.TheVariants as endings
use Rattle.bosh_types.specs.declared.kept.KeptAnswer.{KeptAnswer}
use Rattle.session_attrs.specs.declared.request.Request.{Request}
use Rattle.session_core.specs.declared.copy.RequestCopy.{RequestCopy}
use Rattle.session_core.specs.declared.replies.Arrived.{Arrived}
use Rattle.session_core.specs.declared.replies.Arrived.TheVariants as arrivals
use Rattle.session_core.specs.declared.replies.Taken.{Taken}
use Rattle.session_core.specs.declared.replies.Taken.TheVariants as takings
use Rattle.session_core.specs.declared.replies.Ticked.{Ticked}
use Rattle.session_core.specs.declared.replies.Ticked.TheVariants.{Changed, Quiet}
use Rattle.session_core.specs.Answers.{settled}
use Rattle.session_core.specs.Copy.{id_of, with_id}
use Rattle.session_core.specs.Endings.{last_word, ended}
use Rattle.session_core.specs.Kept.{kept_answer, answer_at, lowest_kept}
use Rattle.session_core.specs.Machine.{advanced, placed, bytes_for, wait_at, copy_now, arrived_in_time, arrive, with_cost, body_cost, stanza_cost, plain_cost, is_full, reopened, replace, takes_items, has_room, back, tick, full_with, back_closed}
use Rattle.session_core.specs.State.{PlainSession, Answered, answers, first_of, last_of, answered_of, standing, standing_at, is_over}
use Rattle.session_core.specs.Time.{time_applied, is_due}
use Rattle.session_core.specs.Window.{is_open}
use Rattle.session_laws.specs.Replies.{IsOpenId, IsToldTo, MayTake}
use Rattle.session_laws.proofs.Tests.{if_true, if_false, is_or_not, which, neither, none_some, some_is, true_false}
use Rattle.session_laws.proofs.Lists.{standing_now}
use Rattle.session_core.proofs.StruckLemmas.{standing_placed}
use Rattle.session_laws.proofs.Frames.{settled_leaves, advanced_leaves}
use Rattle.session_laws.proofs.TimeStruck.{strikes_of, struck_length, time_tickets}
use Rattle.session_laws.proofs.SoundLemmas.{IsSound, sound_steady}
use Rattle.session_laws.proofs.Steadily.{steady-settled, steady-advanced, steady-placed, is_none}
use Rattle.session_laws.proofs.Bytes.{IsFirstAnswer, first_answer_steady, answer_within, kept_is}
use Rattle.session_laws.proofs.Steps.{arrival-by, arrive-in_time}
use Rattle.session_laws.proofs.EndsBack.{over_or_on}

-- Ids that were answered have an answer.

head_test : (rid first : ℕ) → rid ≡ first + 0 → (rid == first + zero) ≡ true
head_test rid first is = grind (arith, nat_tests)

later_test : (rid first k : ℕ) → rid ≡ first + 0 → (rid == first + suc k) ≡ false
later_test rid first k is = grind (arith, nat_tests)

ids_at : (given : List Answered) (first : ℕ) → ((k : ℕ) (answer : Answered) → slice_get given k ≡ Some answer → answer.rid ≡ first + k) → (k : ℕ) → k < length given
    → (a : KeptAnswer) × (at_id (map kept_answer given) (first + k) ≡ Some a)
ids_at [] first ids k within = absurd (omega arith)
ids_at (answer ∷ given) first ids zero within =
    ((kept_answer answer).1, ap (λ b. cond b (Some (kept_answer answer).1) (at_id (map kept_answer given) (first + zero))) (head_test answer.rid first (ids 0 answer refl)))
ids_at (answer ∷ given) first ids (suc k) within =
    let place : (n : ℕ) → first + suc n ≡ first + 1 + n = λ n. omega arith in
    let r = ids_at given (first + 1) (λ j other at. ids (suc j) other at ∙ place j) k (omega arith) in
    (r.0, ap (λ b. cond b (Some (kept_answer answer).1) (at_id (map kept_answer given) (first + suc k))) (later_test answer.rid first k (ids 0 answer refl)) ∙ ap (at_id (map kept_answer given)) (place k) ∙ r.1)

-- the ids of the answers
pub answer_ids : (s : PlainSession) → IsSound s → IsFirstAnswer s → (k : ℕ) (answer : Answered) → slice_get (answers s) k ≡ Some answer → answer.rid ≡ first_of s + k
answer_ids s sound first zero answer at =
    let same : s.created ≡ answer = some_is s.created answer at in
    omega (arith, ap (λ (a : Answered). a.rid) same)
answer_ids s sound first (suc k) answer at = omega (arith, sound.ids k answer at)

pub answered_has : (s : PlainSession) (rid : ℕ) → IsSound s → IsFirstAnswer s → first_of s ≤ rid → rid ≤ answered_of s → (a : KeptAnswer) × (answer_at s rid ≡ Some a)
answered_has s rid sound first from to =
    let place : first_of s + (rid - first_of s) ≡ rid = omega arith in
    let r = ids_at (answers s) (first_of s) (answer_ids s sound first) (rid - first_of s) (omega arith) in
    (r.0, ap (answer_at s) (sym place) ∙ r.1)

-- What an id was given.

bytes_by : (answer : Option KeptAnswer) (ending : Option Ending) (answered rid : ℕ) → option_or (option_map (λ (a : KeptAnswer). a.bytes) answer) (option_map (λ (e : Ending). last_word answered e rid) ending) ≡ None → (answer ≡ None) × (ending ≡ None)
bytes_by None None answered rid is = (refl, refl)
bytes_by None (Some ending) answered rid is = absurd (cc)
bytes_by (Some answer) ending answered rid is = absurd (cc)

-- where an id was given nothing, the session goes on and has no answer for it
nothing_given : (s : PlainSession) (rid : ℕ) → bytes_for s rid ≡ None → (answer_at s rid ≡ None) × (is_over s ≡ false)
nothing_given s rid is =
    let b = bytes_by (answer_at s rid) s.ending (answered_of s) rid is in
    (b.0, ap is_some b.1)

-- an open id was given nothing
open_given : (s : PlainSession) (rid : ℕ) → IsSound s → IsFirstAnswer s → IsOpenId s rid → bytes_for s rid ≡ None
open_given s rid sound first open_id =
    let none : answer_at s rid ≡ None = elim (which (answer_at s rid)) [
      | inl nothing ↦ nothing
      | inr some ↦ absurd (omega (arith, (answer_within s rid some.0 sound first some.1).1, open_id.1))
    ] in
    ap (λ o. option_or (option_map (λ (a : KeptAnswer). a.bytes) o) (option_map (λ (e : Ending). last_word (answered_of s) e rid) s.ending)) none
    ∙ ap (λ o. option_or None (option_map (λ (e : Ending). last_word (answered_of s) e rid) o)) (is_none s.ending open_id.0)

-- an answer's bytes are what its id was given
answered_given : (s : PlainSession) (rid : ℕ) (a : KeptAnswer) → answer_at s rid ≡ Some a → bytes_for s rid ≡ Some a.bytes
answered_given s rid a is = ap (λ o. option_or (option_map (λ (a : KeptAnswer). a.bytes) o) (option_map (λ (e : Ending). last_word (answered_of s) e rid) s.ending)) is

-- the last words of an id that wasn't answered
pub last_words : (s : PlainSession) (rid : ℕ) (ending : Ending) → IsSound s → IsFirstAnswer s → s.ending ≡ Some ending → answered_of s < rid → bytes_for s rid ≡ Some (last_word (answered_of s) ending rid)
last_words s rid ending sound first is beyond =
    let none : answer_at s rid ≡ None = elim (which (answer_at s rid)) [
      | inl nothing ↦ nothing
      | inr some ↦ absurd (omega (arith, (answer_within s rid some.0 sound first some.1).1))
    ] in
    ap (λ o. option_or (option_map (λ (a : KeptAnswer). a.bytes) o) (option_map (λ (e : Ending). last_word (answered_of s) e rid) s.ending)) none
    ∙ ap (λ o. option_or None (option_map (λ (e : Ending). last_word (answered_of s) e rid) o)) is

-- An arriving copy.

or_true : (a b : Bool) → b ≡ true → a || b ≡ true
or_true true b is = refl
or_true false b is = is

-- what it is told
pub record Told (tickets : ℕ) (rid : ℕ) (r : PlainSession × Arrived) : Type 0 where
  pub parked : (number : ℕ) → r.1 ≡ arrivals.Parked number → (number ≡ suc tickets) × IsOpenId r.0 rid
  pub open_id : IsOpenId r.0 rid → r.1 ≡ arrivals.Parked (suc tickets)
  pub answer : (bytes : List ℕ) → r.1 ≡ arrivals.Answer bytes → IsToldTo r.0 rid bytes
  pub not_over : r.1 ≡ arrivals.Over → ⊥

answer_parked : (bytes : List ℕ) (number : ℕ) → arrivals.Answer bytes ≡ arrivals.Parked number → ⊥
answer_parked bytes number is = cc

answer_over : (bytes : List ℕ) → arrivals.Answer bytes ≡ arrivals.Over → ⊥
answer_over bytes is = cc

parked_over : (number : ℕ) → arrivals.Parked number ≡ arrivals.Over → ⊥
parked_over number is = cc

answer_is : (bytes told : List ℕ) → arrivals.Answer bytes ≡ arrivals.Answer told → bytes ≡ told
answer_is bytes told is = cc

number_is : (number told : ℕ) → arrivals.Parked number ≡ arrivals.Parked told → number ≡ told
number_is number told is = cc

-- a copy that is answered, whose id isn't open then
told_answer : (tickets rid : ℕ) (s : PlainSession) (bytes : List ℕ) → (IsOpenId s rid → ⊥) → IsToldTo s rid bytes → Told tickets rid (s, arrivals.Answer bytes)
told_answer tickets rid s bytes never told = record {
  parked = λ number is. absurd (answer_parked bytes number is);
  open_id = λ open_now. absurd (never open_now);
  answer = λ other is. subst (IsToldTo s rid) (answer_is bytes other is) told;
  not_over = λ is. answer_over bytes is;
}

told_parked : (tickets rid number : ℕ) (s : PlainSession) → number ≡ suc tickets → IsOpenId s rid → Told tickets rid (s, arrivals.Parked number)
told_parked tickets rid number s is open_now = record {
  parked = λ other same. (sym (number_is number other same) ∙ is, open_now);
  open_id = λ again. ap arrivals.Parked is;
  answer = λ bytes same. absurd (answer_parked bytes number (sym same));
  not_over = λ same. parked_over number same;
}

told_replied : (tickets rid : ℕ) (s : PlainSession) → IsSound s → IsFirstAnswer s → length s.tickets ≡ tickets → first_of s < rid → is_open s rid ≡ true → (o : Option (List ℕ)) → bytes_for s rid ≡ o
    → Told tickets rid (elim o as (λ x. PlainSession × Arrived) [ Some bytes ↦ (s, arrivals.Answer bytes) | None ↦ wait_at s rid ])
told_replied tickets rid s sound first count above open_now (Some bytes) is = told_answer tickets rid s bytes (λ open_id. none_some (bytes_for s rid) bytes (open_given s rid sound first open_id) is) (inl is)
told_replied tickets rid s sound first count above open_now None is =
    let n = nothing_given s rid is in
    let later : answered_of s < rid = elim (is_or_not (nat_le rid (answered_of s))) [
      | inl within ↦
          let a = answered_has s rid sound first (omega arith) (leb-true rid (answered_of s) within) in
          absurd (none_some (answer_at s rid) a.0 n.0 a.1)
      | inr beyond ↦ leb-false rid (answered_of s) beyond
    ] in
    told_parked tickets rid (suc (length s.tickets)) (wait_at s rid).0 (ap suc count) (n.1, later, open_now)

arrived_told : (t : PlainSession) (request : Request) (body : List ℕ) → request.rid ≤ greatest_rid → IsSound t → IsFirstAnswer t → Told (length t.tickets) request.rid (arrived_in_time t request body)
arrived_told t request body small sound first =
    let copy : RequestCopy = copy_now t request body in
    arrival-by t request body (Told (length t.tickets) request.rid) (record {
      over = λ over. told_answer (length t.tickets) request.rid t _ (λ open_id. over_or_on t over open_id.0) (inr (over, inl refl));
      again = λ answer on within is. told_answer (length t.tickets) request.rid t answer.bytes (λ open_id. absurd (omega (arith, leb-true request.rid (answered_of t) within, open_id.1)))
          (inl (answered_given t request.rid answer (kept_is t request.rid answer is)));
      stale = λ on within is. told_answer (length t.tickets) request.rid (ended (endings.Stale request.rid (lowest_kept t)) t) _ (λ open_id. true_false open_id.0) (inr (refl, inl refl));
      repeats = λ on later open_now. told_parked (length t.tickets) request.rid (suc (length (map (replace request.rid) t.tickets))) (reopened t request.rid).0 (ap suc (length-map t.tickets (replace request.rid))) (on, leb-false request.rid (answered_of t) later, open_now);
      above = λ on later new beyond. told_answer (length t.tickets) request.rid (ended (endings.Above request.rid (last_of t) t.terms.requests) t) _ (λ open_id. true_false open_id.0) (inr (refl, inl refl));
      fresh = λ on later new within.
          let p : PlainSession = placed t copy in
          let u : PlainSession = settled (advanced p) in
          let apart = neither (nat_le (id_of copy) (last_of t)) (is_some (standing_at t (id_of copy))) new in
          let p_sound : IsSound p = steady-placed IsSound sound_steady t copy new small sound in
          let stands : standing_at u request.rid ≡ Some copy =
          ap (λ (v : PlainSession). standing_at v request.rid) (settled_leaves (advanced p)) ∙ ap (λ (v : PlainSession). standing_at v request.rid) (advanced_leaves p) ∙ ap (λ (copies : List RequestCopy). at_id (map with_id copies) request.rid) (standing_placed t copy) ∙ standing_now (standing t) copy (is_none (standing_at t (id_of copy)) apart.1) in
          let creation : u.creation ≡ t.creation = ap (λ (v : PlainSession). v.creation) (settled_leaves (advanced p)) ∙ ap (λ (v : PlainSession). v.creation) (advanced_leaves p) in
          told_replied (length t.tickets) request.rid u (steady-settled IsSound sound_steady (advanced p) (steady-advanced IsSound sound_steady p p_sound))
          (steady-settled IsFirstAnswer first_answer_steady (advanced p) (steady-advanced IsFirstAnswer first_answer_steady p first))
          (ap (λ (v : PlainSession). length v.tickets) (settled_leaves (advanced p)) ∙ ap (λ (v : PlainSession). length v.tickets) (advanced_leaves p))
          (omega (arith, ap id_of creation, leb-false (id_of copy) (last_of t) apart.0)) (or_true (nat_le request.rid (last_of u)) (is_some (standing_at u request.rid)) (ap is_some stands)) (bytes_for u request.rid) refl;
    })

-- what an arriving copy is told of a session that goes on
pub arrive_told : (s : PlainSession) (request : Request) (body : List ℕ) (now : ℕ) → request.rid ≤ greatest_rid → is_over s ≡ false → IsSound (time_applied s now) → IsFirstAnswer (time_applied s now) → Told (length s.tickets) request.rid (arrive s request body now)
arrive_told s request body now small on sound first = elim (is_or_not (is_full s (body_cost request body))) [
  | inl full ↦
      subst (Told (length s.tickets) request.rid) (sym (if_false (is_over s) _ _ on ∙ if_true (is_full s (body_cost request body)) _ _ full))
      (told_answer (length s.tickets) request.rid (full_with (body_cost request body) s) _ (λ open_id. true_false open_id.0) (inr (refl, inr refl)))
  | inr room ↦
      let t : PlainSession = with_cost (body_cost request body) (time_applied s now) in
      subst (Told (length s.tickets) request.rid) (sym (arrive-in_time s request body now on room))
      (subst (λ n. Told n request.rid (arrived_in_time t request body)) (ap length (time_tickets s now) ∙ struck_length (strikes_of s now) s.tickets) (arrived_told t request body small sound first))
]

pub arrive_over : (s : PlainSession) (request : Request) (body : List ℕ) (now : ℕ) → is_over s ≡ true → (arrive s request body now).1 ≡ arrivals.Over
arrive_over s request body now over = ap (λ (r : PlainSession × Arrived). r.1) (if_true (is_over s) _ _ over)

-- A stanza of the server, and time.

abbrev Taking : Bool → Bool → Bool → Bool → PlainSession → PlainSession → PlainSession → PlainSession → PlainSession × Taken
Taking over full takes room s f t g =
    if over then (s, takings.Over) else if full then (f, takings.Over) else if not takes then (t, takings.Over) else if room then (g, takings.Done) else (t, takings.Full)

over_full : takings.Over ≡ takings.Full → ⊥
over_full is = cc

done_full : takings.Done ≡ takings.Full → ⊥
done_full is = cc

full_by : (over full takes room : Bool) (s f t g : PlainSession) → ((Taking over full takes room s f t g).1 ≡ takings.Full) ↔ (((over ≡ false) × (full ≡ false) × (takes ≡ true)) × (room ≡ false))
full_by true full takes room s f t g = (λ is. absurd (over_full is), λ may. absurd (true_false (may.0).0))
full_by false true takes room s f t g = (λ is. absurd (over_full is), λ may. absurd (true_false (may.0).1))
full_by false false false room s f t g = (λ is. absurd (over_full is), λ may. absurd (true_false (sym (may.0).2)))
full_by false false true true s f t g = (λ is. absurd (done_full is), λ may. absurd (true_false may.1))
full_by false false true false s f t g = (λ is. ((refl, refl, refl), refl), λ may. refl)

over_done : takings.Over ≡ takings.Done → ⊥
over_done is = cc

done_by : (over full takes room : Bool) (s f t g : PlainSession) → ((Taking over full takes room s f t g).1 ≡ takings.Done) ↔ (((over ≡ false) × (full ≡ false) × (takes ≡ true)) × (room ≡ true))
done_by true full takes room s f t g = (λ is. absurd (over_done is), λ may. absurd (true_false (may.0).0))
done_by false true takes room s f t g = (λ is. absurd (over_done is), λ may. absurd (true_false (may.0).1))
done_by false false false room s f t g = (λ is. absurd (over_done is), λ may. absurd (true_false (sym (may.0).2)))
done_by false false true true s f t g = (λ is. ((refl, refl, refl), refl), λ may. refl)
done_by false false true false s f t g = (λ is. absurd (done_full (sym is)), λ may. absurd (true_false (sym may.1)))

-- there is no room for a stanza
pub back_full : (s : PlainSession) (stream : ℕ) (stanza : List ℕ) (now : ℕ) → ((back s stream stanza now).1 ≡ takings.Full) ↔ (MayTake s stream stanza now × (has_room (time_applied s now) stanza ≡ false))
back_full s stream stanza now = full_by (is_over s) (is_full s (stanza_cost stanza)) (takes_items (time_applied s now) stream) (has_room (time_applied s now) stanza) _ _ _ _

-- a stanza is taken
pub back_done : (s : PlainSession) (stream : ℕ) (stanza : List ℕ) (now : ℕ) → ((back s stream stanza now).1 ≡ takings.Done) ↔ (MayTake s stream stanza now × (has_room (time_applied s now) stanza ≡ true))
back_done s stream stanza now = done_by (is_over s) (is_full s (stanza_cost stanza)) (takes_items (time_applied s now) stream) (has_room (time_applied s now) stanza) _ _ _ _

abbrev Ticking : Bool → Bool → PlainSession → PlainSession → PlainSession → PlainSession × Ticked
Ticking due full s f g = if not due then (s, Quiet) else if full then (f, Changed) else (g, Changed)

quiet_by : (due full : Bool) (s f g : PlainSession) → ((Ticking due full s f g).1 ≡ Quiet) ↔ (due ≡ false)
quiet_by true true s f g = (λ is. absurd (changed_quiet is), λ due. absurd (true_false due))
  where
    changed_quiet : Changed ≡ Quiet → ⊥
    changed_quiet is = cc
quiet_by true false s f g = (λ is. absurd (changed_quiet is), λ due. absurd (true_false due))
  where
    changed_quiet : Changed ≡ Quiet → ⊥
    changed_quiet is = cc
quiet_by false full s f g = (λ is. refl, λ due. refl)

-- nothing is due
pub tick_quiet : (s : PlainSession) (now : ℕ) → ((tick s now).1 ≡ Quiet) ↔ (is_due s now ≡ false)
tick_quiet s now = quiet_by (is_due s now) (is_full s plain_cost) _ _ _

abbrev Closes : Bool → Bool → Bool → PlainSession → PlainSession → PlainSession → PlainSession → PlainSession × Taken
Closes over full takes s f t g = if over then (s, takings.Over) else if full then (f, takings.Over) else if takes then (g, takings.Done) else (t, takings.Over)

closed_by : (over full takes : Bool) (s f t g : PlainSession) → ((Closes over full takes s f t g).1 ≡ takings.Done) ↔ ((over ≡ false) × (full ≡ false) × (takes ≡ true))
closed_by true full takes s f t g = (λ is. absurd (over_done is), λ may. absurd (true_false may.0))
closed_by false true takes s f t g = (λ is. absurd (over_done is), λ may. absurd (true_false may.1))
closed_by false false false s f t g = (λ is. absurd (over_done is), λ may. absurd (true_false (sym may.2)))
closed_by false false true s f t g = (λ is. (refl, refl, refl), λ may. refl)

-- a closing is taken
pub closed_done : (s : PlainSession) (stream : ℕ) (closing : Closing) (now : ℕ) → ((back_closed s stream closing now).1 ≡ takings.Done) ↔ ((is_over s ≡ false) × (is_full s plain_cost ≡ false) × (takes_items (time_applied s now) stream ≡ true))
closed_done s stream closing now = closed_by (is_over s) (is_full s plain_cost) (takes_items (time_applied s now) stream) _ _ _ _
