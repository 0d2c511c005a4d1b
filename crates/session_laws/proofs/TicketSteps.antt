-- What each call makes of the tickets.
use Rattle.std.proofs.Common.{◌≡◌, ◌≢◌, ℕ, zero, suc, ◌<◌, ◌==◌, Bool, true, false, not, if◌then◌else◌, List, [], ◌∷◌, ◌++◌, Option, Some, None, nat_le, is_some, map, slice_get, slice_set, refl, sym, ◌∙◌, ap, arith, subst, inl, inr}
use Rattle.std.proofs.lemmas.Bool.{leb-false, eqb-true}
use Rattle.std.proofs.lemmas.Bool.Decides.{nat_tests}
use Rattle.bosh_types.specs.declared.ending.Closing.{Closing}
use Rattle.bosh_types.specs.ById.{at_id}
use Rattle.bosh_types.specs.declared.inward.Inward.{Inward}
use Rattle.bosh_types.specs.declared.condition.Condition.TheVariants.{UndefinedCondition}
use Rattle.body_writer.specs.Answer.{answer_text}
use Rattle.session_core.specs.Endings.{terminal}
use Rattle.session_attrs.specs.declared.request.Request.{Request}
use Rattle.session_core.specs.declared.copy.RequestCopy.{RequestCopy}
use Rattle.session_core.specs.declared.outward.Outward.{Outward}
use Rattle.session_core.specs.declared.outward.Outward.TheVariants.{Stanza, Close}
use Rattle.session_core.specs.declared.replies.Arrived.{Arrived}
use Rattle.session_core.specs.declared.replies.Arrived.TheVariants as arrivals
use Rattle.session_core.specs.declared.replies.Taken.{Taken}
use Rattle.session_core.specs.declared.replies.Ticked.{Ticked}
use Rattle.session_core.specs.Answers.{settled}
use Rattle.session_core.specs.Copy.{id_of, with_id}
use Rattle.session_core.specs.Journal.{Call, Arrive, Collect, Back, BackClosed, Tick, TakeInward, Entered, Made, Limit, Limited, Journal, IsAllowed, IsJournal, step, entered_by, after_entry, state_of, MayEnter}
use Rattle.session_core.specs.Gap.{strike_ticket, struck, struck_state}
use Rattle.session_core.specs.Placed.{AreRising, AreStruckAt, ArePlaced, struck_tickets}
use Rattle.session_core.proofs.StruckLemmas.{standing_other as struck_other, standing_placed}
use Rattle.session_core.specs.Machine.{opened, advanced, placed, bytes_for, wait_at, copy_now, arrived_in_time, arrive, full_with, with_cost, body_cost, stanza_cost, plain_cost, is_full, takes_items, has_room, with_item, replace, replaced, collected_from, collected_by, collected_bytes, passed_on}
use Rattle.session_core.specs.State.{PlainSession, Issued, Placing, TicketState, Waits, Replaced, Struck, UsedUp, last_of, answered_of, standing, standing_after, standing_at, inward, is_over}
use Rattle.session_core.specs.Time.{at_moment, time_applied, is_due}
use Rattle.session_laws.specs.Tickets.{after_arrival, after_collect, spent, tickets_after}
use Rattle.session_laws.proofs.Clear.{every_clear}
use Rattle.session_laws.proofs.Followed.{open_stands}
use Rattle.session_laws.proofs.Moves.{Striking, struck-by}
use Rattle.session_laws.proofs.PlacedLemmas.{IsPlain, entry_places, every_plain, settled_struck}
use Rattle.session_laws.proofs.Calls.{unentered}
use Rattle.session_laws.proofs.TimeStruck.{silenced_leaves, strikes_of, time_tickets}
use Rattle.session_laws.proofs.Frames.{settled_leaves, advanced_leaves}
use Rattle.session_laws.proofs.Lists.{get_push, get_some, get_within, standing_now, standing_still}
use Rattle.session_laws.proofs.SoundLemmas.{IsSound, sound_steady, opened_sound}
use Rattle.session_laws.proofs.Steadily.{steady-time, steady-entry, is_none}
use Rattle.session_laws.proofs.Steps.{arrival-by, entry-by, along, arrive-in_time, back-in_time, closed-in_time, tick-in_time, limited-by, due-by, may_enter}
use Rattle.session_laws.proofs.Tests.{split, if_true, if_false, neither, which, none_some, some_is}

-- a copy stands for the id of each ticket that waits
abbrev pub IsKnown : PlainSession → Type 0
IsKnown s = (index : ℕ) (ticket : Issued) → slice_get s.tickets index ≡ Some ticket → ticket.state ≡ Waits → standing_at s ticket.rid ≡ None → ⊥

known_same : (s u : PlainSession) → u.tickets ≡ s.tickets → u.placings ≡ s.placings → IsKnown s → IsKnown u
known_same s u tickets placings known index ticket at waits none =
    known index ticket (ap (λ l. slice_get l index) (sym tickets) ∙ at) waits
    (ap (λ (l : List Placing). at_id (map with_id (standing_after [] l)) ticket.rid) (sym placings) ∙ none)

-- a change that leaves what waits as it is
mapped_waits : (f : Issued → Issued) → ((ticket : Issued) → (f ticket).state ≡ Waits → f ticket ≡ ticket) → (tickets : List Issued) (index : ℕ) (ticket : Issued) → slice_get (map f tickets) index ≡ Some ticket
    → ticket.state ≡ Waits → (slice_get tickets index ≡ Some ticket) × (f ticket ≡ ticket)
mapped_waits f leaves [] index ticket at waits = absurd (none_some None ticket refl at)
mapped_waits f leaves (first ∷ tickets) zero ticket at waits =
    let is : f first ≡ ticket = some_is (f first) ticket at in
    let same : f first ≡ first = leaves first (ap (λ (t : Issued). t.state) is ∙ waits) in
    let here : first ≡ ticket = sym same ∙ is in
    (ap Some here, ap f (sym here) ∙ is)
mapped_waits f leaves (first ∷ tickets) (suc index) ticket at waits = mapped_waits f leaves tickets index ticket at waits

replaced_never : (state : TicketState) → replaced state ≡ Waits → ⊥
replaced_never Waits is = cc
replaced_never Replaced is = cc
replaced_never Struck is = cc
replaced_never UsedUp is = cc

struck_never : (state : TicketState) → struck_state state ≡ Waits → ⊥
struck_never Waits is = cc
struck_never Replaced is = cc
struck_never Struck is = cc
struck_never UsedUp is = cc

replace_leaves : (rid : ℕ) (ticket : Issued) → (replace rid ticket).state ≡ Waits → replace rid ticket ≡ ticket
replace_leaves rid ticket = split (λ (t : Issued). t.state ≡ Waits → t ≡ ticket) (ticket.rid == rid) _ ticket (λ here waits. absurd (replaced_never ticket.state waits)) (λ other waits. refl)

strike_leaves : (rid : ℕ) (ticket : Issued) → (strike_ticket rid ticket).state ≡ Waits → strike_ticket rid ticket ≡ ticket
strike_leaves rid ticket = split (λ (t : Issued). t.state ≡ Waits → t ≡ ticket) (ticket.rid == rid) _ ticket (λ here waits. absurd (struck_never ticket.state waits)) (λ other waits. refl)

-- what waits on after a strike is for another id
strike_other : (rid : ℕ) (ticket : Issued) → (strike_ticket rid ticket).state ≡ Waits → ticket.rid ≢ rid
strike_other rid ticket = split (λ (t : Issued). t.state ≡ Waits → ticket.rid ≢ rid) (ticket.rid == rid) _ ticket (λ here waits. absurd (struck_never ticket.state waits))
    (λ other waits same. differs ticket.rid rid other same)
  where
    differs : (a b : ℕ) → (a == b) ≡ false → a ≡ b → ⊥
    differs a b is same = grind (arith, nat_tests, is, same)

replaced_same : (state : TicketState) → (state ≡ Waits → ⊥) → replaced state ≡ state
replaced_same Waits never = absurd (never refl)
replaced_same Replaced never = refl
replaced_same Struck never = refl
replaced_same UsedUp never = refl

-- where no ticket that waits has the id, none is superseded
replace_none : (rid : ℕ) (tickets : List Issued) → ((index : ℕ) (ticket : Issued) → slice_get tickets index ≡ Some ticket → ticket.state ≡ Waits → ticket.rid ≡ rid → ⊥) → map (replace rid) tickets ≡ tickets
replace_none rid [] none = refl
replace_none rid (first ∷ tickets) none =
    ap (λ t. t ∷ map (replace rid) tickets) (split (λ (t : Issued). t ≡ first) (first.rid == rid) _ first
    (λ here. ap (λ st. record first { state = st }) (replaced_same first.state (λ waits. none 0 first refl waits (eqb-true first.rid rid here)))) (λ other. refl))
    ∙ ap (λ l. first ∷ l) (replace_none rid tickets (λ index ticket at. none (suc index) ticket at))

-- one more ticket, for whose id a copy stands
known_push : (s : PlainSession) (tickets : List Issued) (new : Issued) → ((index : ℕ) (ticket : Issued) → slice_get tickets index ≡ Some ticket → ticket.state ≡ Waits → standing_at s ticket.rid ≡ None → ⊥)
    → (standing_at s new.rid ≡ None → ⊥) → (index : ℕ) (ticket : Issued) → slice_get (tickets ++ new ∷ []) index ≡ Some ticket → ticket.state ≡ Waits → standing_at s ticket.rid ≡ None → ⊥
known_push s tickets new known stands index ticket at waits none = elim (get_push tickets new index ticket at) [
  | inl there ↦ known index ticket there waits none
  | inr last ↦ stands (ap (λ (t : Issued). standing_at s t.rid) last.1 ∙ none)
]

-- what an arrival makes of the tickets
abbrev Handed : List Issued → ℕ → PlainSession × Arrived → Type 0
Handed tickets rid r = IsKnown r.0 × (r.0.tickets ≡ after_arrival tickets rid r.1)

replied_handed : (s : PlainSession) (tickets : List Issued) (rid : ℕ) → IsKnown s → s.tickets ≡ tickets → map (replace rid) tickets ≡ tickets → (standing_at s rid ≡ None → ⊥) → (o : Option (List ℕ))
    → Handed tickets rid (elim o as (λ x. PlainSession × Arrived) [ Some bytes ↦ (s, arrivals.Answer bytes) | None ↦ wait_at s rid ])
replied_handed s tickets rid known same none stands (Some bytes) = (known, same)
replied_handed s tickets rid known same none stands None =
    (known_push s s.tickets (record { rid = rid; state = Waits }) known stands, ap (λ l. l ++ record { rid = rid; state = Waits } ∷ []) (same ∙ sym none))

some_here : {X : Type 0} (o : Option X) (x : X) → o ≡ Some x → o ≡ None → ⊥
some_here o x some none = none_some o x none some

arrived_handed : (t : PlainSession) (request : Request) (body : List ℕ) → IsSound t → IsKnown t → Handed t.tickets request.rid (arrived_in_time t request body)
arrived_handed t request body sound known =
    let copy : RequestCopy = copy_now t request body in
    arrival-by t request body (Handed t.tickets request.rid) (record {
      over = λ over. (known, refl);
      again = λ answer on within is. (known, refl);
      stale = λ on within is. (known, refl);
      repeats = λ on later open_now. (
        known_push t (map (replace request.rid) t.tickets) (record { rid = request.rid; state = Waits })
            (λ index ticket at waits none. known index ticket (mapped_waits (replace request.rid) (replace_leaves request.rid) t.tickets index ticket at waits).0 waits none)
            (λ none. open_stands t request.rid sound open_now (omega (arith, leb-false request.rid (answered_of t) later)) none),
        refl,
      );
      above = λ on later new beyond. (known, refl);
      fresh = λ on later new within.
          let p : PlainSession = placed t copy in
          let u : PlainSession = settled (advanced p) in
          let apart = neither (nat_le (id_of copy) (last_of t)) (is_some (standing_at t (id_of copy))) new in
          let none : standing_at t request.rid ≡ None = is_none (standing_at t (id_of copy)) apart.1 in
          let tickets : u.tickets ≡ t.tickets = ap (λ (v : PlainSession). v.tickets) (settled_leaves (advanced p)) ∙ ap (λ (v : PlainSession). v.tickets) (advanced_leaves p) in
          let placings : u.placings ≡ p.placings = ap (λ (v : PlainSession). v.placings) (settled_leaves (advanced p)) ∙ ap (λ (v : PlainSession). v.placings) (advanced_leaves p) in
          let stands : (rid : ℕ) → standing_at p rid ≡ at_id (map with_id (standing t ++ copy ∷ [])) rid = λ rid. ap (λ (copies : List RequestCopy). at_id (map with_id copies) rid) (standing_placed t copy) in
          let p_known : IsKnown p = λ index ticket at waits nothing. elim (which (standing_at t ticket.rid)) [
            | inl nothing_there ↦ known index ticket at waits nothing_there
            | inr some ↦ some_here (standing_at p ticket.rid) some.0 (stands ticket.rid ∙ standing_still (standing t) copy ticket.rid some.0 some.1) nothing
          ] in
          replied_handed u t.tickets request.rid (known_same p u tickets placings p_known) tickets
          (replace_none request.rid t.tickets (λ index ticket at waits same. known index ticket at waits (ap (standing_at t) same ∙ none)))
          (λ nothing. some_here (standing_at p request.rid) copy (stands request.rid ∙ standing_now (standing t) copy none)
          (ap (λ (l : List Placing). at_id (map with_id (standing_after [] l)) request.rid) (sym placings) ∙ nothing)) (bytes_for u request.rid);
    })

known_striking : Striking IsKnown
known_striking s rid on holds is known index ticket at waits none =
    let old = mapped_waits (strike_ticket rid) (strike_leaves rid) s.tickets index ticket at waits in
    let other : ticket.rid ≢ rid = strike_other rid ticket (ap (λ (t : Issued). t.state) old.1 ∙ waits) in
    known index ticket old.0 waits (sym (struck_other s rid ticket.rid other) ∙ none)

timed_known : (s : PlainSession) (now : ℕ) → IsKnown s → IsKnown (time_applied s now)
timed_known s now known =
    let u : PlainSession = settled (at_moment s now) in
    let settled_known : IsKnown u =
    known_same s u (ap (λ (v : PlainSession). v.tickets) (settled_leaves (at_moment s now))) (ap (λ (v : PlainSession). v.placings) (settled_leaves (at_moment s now))) known in
    known_same (struck u) (time_applied s now) (ap (λ (v : PlainSession). v.tickets) (silenced_leaves (struck u))) (ap (λ (v : PlainSession). v.placings) (silenced_leaves (struck u)))
    (struck-by IsKnown known_striking u settled_known)

item_known : (s : PlainSession) (item : Outward) → IsKnown s → IsKnown (with_item s item).0
item_known s item known =
    let g : PlainSession = record s { given = s.given ++ item ∷ [] } in
    known_same g (settled g) (ap (λ (v : PlainSession). v.tickets) (settled_leaves g)) (ap (λ (v : PlainSession). v.placings) (settled_leaves g)) known

-- a ticket that was used up waits no longer
set_known : (s : PlainSession) (tickets : List Issued) (index : ℕ) (spent : Issued) → (spent.state ≡ Waits → ⊥)
    → ((k : ℕ) (t : Issued) → slice_get tickets k ≡ Some t → t.state ≡ Waits → standing_at s t.rid ≡ None → ⊥)
    → (k : ℕ) (t : Issued) → slice_get (slice_set tickets index spent) k ≡ Some t → t.state ≡ Waits → standing_at s t.rid ≡ None → ⊥
set_known s [] index spent never known k t there waits none = absurd (none_some None t refl there)
set_known s (first ∷ tickets) zero spent never known zero t there waits none = never (ap (λ (x : Issued). x.state) (some_is spent t there) ∙ waits)
set_known s (first ∷ tickets) zero spent never known (suc k) t there waits none = known (suc k) t there waits none
set_known s (first ∷ tickets) (suc index) spent never known zero t there waits none = known 0 t there waits none
set_known s (first ∷ tickets) (suc index) spent never known (suc k) t there waits none =
    set_known s tickets index spent never (λ j x here. known (suc j) x here) k t there waits none

used_never : UsedUp ≡ Waits → ⊥
used_never is = cc

entry_known : (s : PlainSession) (entered : Entered) → MayEnter s entered → IsSound s → IsKnown s → IsKnown (after_entry s entered)
entry_known s entered may sound known = entry-by s (λ e u. IsKnown u) (record {
  arrives = λ request body now allowed on room. (arrived_handed (with_cost (body_cost request body) (time_applied s now)) request body (steady-time IsSound sound_steady s now sound) (timed_known s now known)).0;
  backs = λ stream stanza now allowed on room.
      let t : PlainSession = with_cost (stanza_cost stanza) (time_applied s now) in
      let q = timed_known s now known in
      split (λ (r : PlainSession × Taken). IsKnown r.0) (not (takes_items t stream)) _ _ (λ none. q)
      (λ takes. split (λ (r : PlainSession × Taken). IsKnown r.0) (has_room t stanza) _ _ (λ room. item_known t (Stanza stream stanza) q) (λ none. q));
  closes = λ stream closing now on room.
      let t : PlainSession = with_cost plain_cost (time_applied s now) in
      let q = timed_known s now known in
      split (λ (r : PlainSession × Taken). IsKnown r.0) (takes_items t stream) _ _ (λ takes. item_known t (Close stream closing) q) (λ none. q);
  ticks = λ now on due room. timed_known s now known;
  collects = λ index ticket at. set_known s s.tickets index (record ticket { state = UsedUp }) used_never known;
  takes = λ item there. known;
  limits = λ kind cost now on full. known;
}) entered may

pub every_known : (journal : Journal) → IsJournal journal → IsKnown (state_of journal)
every_known journal made = (along (opened journal.opening) (λ past s. IsSound s × IsKnown s)
    (λ past s entry may same p. (steady-entry IsSound sound_steady s entry.entered may p.0, entry_known s entry.entered may p.0 p.1))
    journal.entries made.1 (opened_sound journal.opening, λ index ticket at. absurd (cc))).1

-- Two rising lists of the same ids are one.

abbrev IsAmong : List ℕ → ℕ → Type 0
IsAmong rids rid = (k : ℕ) × (slice_get rids k ≡ Some rid)

get_before : (rids : List ℕ) (k rid : ℕ) → slice_get rids (suc k) ≡ Some rid → (before : ℕ) × (slice_get rids k ≡ Some before)
get_before rids k rid at = get_some rids k (omega (arith, get_within rids (suc k) rid at))

rising_rest : (first : ℕ) (rids : List ℕ) → AreRising (first ∷ rids) → AreRising rids
rising_rest first rids rising k low high at next = rising (suc k) low high at next

first_least : (first : ℕ) (rids : List ℕ) → AreRising (first ∷ rids) → (k rid : ℕ) → slice_get rids k ≡ Some rid → first < rid
first_least first rids rising zero rid at = rising 0 first rid refl at
first_least first rids rising (suc k) rid at =
    let before = get_before rids k rid at in
    omega (arith, first_least first rids rising k before.0 before.1, rising (suc k) before.0 rid before.1 at)

same_rest : (first : ℕ) (rids others : List ℕ) → AreRising (first ∷ rids) → ((rid : ℕ) → IsAmong (first ∷ rids) rid → IsAmong (first ∷ others) rid) → (rid : ℕ) → IsAmong rids rid → IsAmong others rid
same_rest first rids others rising all rid among = by (all rid (suc among.0, among.1))
  where
    by : IsAmong (first ∷ others) rid → IsAmong others rid
    by (zero, at) = absurd (omega (arith, first_least first rids rising among.0 rid among.1, some_is first rid at))
    by (suc k, at) = (k, at)

same_first : (x y : ℕ) (xs ys : List ℕ) → AreRising (x ∷ xs) → AreRising (y ∷ ys) → IsAmong (y ∷ ys) x → IsAmong (x ∷ xs) y → x ≡ y
same_first x y xs ys rising also (zero, at) among = sym (some_is y x at)
same_first x y xs ys rising also (suc k, at) (zero, here) = some_is x y here
same_first x y xs ys rising also (suc k, at) (suc j, here) = absurd (omega (arith, first_least y ys also k x at, first_least x xs rising j y here))

rising_one : (xs ys : List ℕ) → AreRising xs → AreRising ys → ((rid : ℕ) → IsAmong xs rid → IsAmong ys rid) → ((rid : ℕ) → IsAmong ys rid → IsAmong xs rid) → xs ≡ ys
rising_one [] [] rising also forth back = refl
rising_one [] (y ∷ ys) rising also forth back = absurd (none_some None y refl (back y (0, refl)).1)
rising_one (x ∷ xs) [] rising also forth back = absurd (none_some None x refl (forth x (0, refl)).1)
rising_one (x ∷ xs) (y ∷ ys) rising also forth back =
    let same : x ≡ y = same_first x y xs ys rising also (forth x (0, refl)) (back y (0, refl)) in
    let rising_y : AreRising (y ∷ xs) = subst (λ z. AreRising (z ∷ xs)) same rising in
    ap (λ z. z ∷ xs) same
    ∙ ap (λ l. y ∷ l)
    (rising_one xs ys (rising_rest x xs rising) (rising_rest y ys also)
    (same_rest y xs ys rising_y (λ rid among. forth rid (subst (λ z. IsAmong (z ∷ xs) rid) (sym same) among)))
    (same_rest y ys xs also (λ rid among. subst (λ z. IsAmong (z ∷ xs) rid) same (back rid among))))

same_struck : (s : PlainSession) (xs ys : List ℕ) → AreStruckAt s xs → AreStruckAt s ys → xs ≡ ys
same_struck s xs ys one other =
    rising_one xs ys one.rising other.rising (λ rid among. (other.each rid).1 ((one.each rid).0 among)) (λ rid among. (one.each rid).1 ((other.each rid).0 among))

-- Each call.

item_tickets : (t : PlainSession) (item : Outward) → (with_item t item).0.tickets ≡ t.tickets
item_tickets t item = ap (λ (v : PlainSession). v.tickets) (settled_leaves (record t { given = t.given ++ item ∷ [] }))

-- nothing was struck
unstruck : (struck : List ℕ) (tickets : List Issued) → struck ≡ [] → tickets ≡ struck_tickets struck tickets
unstruck struck tickets none = sym (ap (λ l. struck_tickets l tickets) none)

bytes_tickets : (s : PlainSession) (index : ℕ) (ticket : Issued) → slice_get s.tickets index ≡ Some ticket → (o : Option (List ℕ)) → (collected_bytes s index ticket o).0.tickets ≡ after_collect s.tickets (suc index) (collected_bytes s index ticket o).1
bytes_tickets s index ticket at None = refl
bytes_tickets s index ticket at (Some bytes) = ap (spent s.tickets index) (sym at)

state_tickets : (s : PlainSession) (index : ℕ) (ticket : Issued) → slice_get s.tickets index ≡ Some ticket → (state : TicketState) → (collected_by s index ticket state).0.tickets ≡ after_collect s.tickets (suc index) (collected_by s index ticket state).1
state_tickets s index ticket at Waits = bytes_tickets s index ticket at (bytes_for s ticket.rid)
state_tickets s index ticket at Replaced = ap (spent s.tickets index) (sym at)
state_tickets s index ticket at Struck = ap (spent s.tickets index) (sym at)
state_tickets s index ticket at UsedUp = refl

ticket_tickets : (s : PlainSession) (index : ℕ) (o : Option Issued) → slice_get s.tickets index ≡ o → (collected_from s index o).0.tickets ≡ after_collect s.tickets (suc index) (collected_from s index o).1
ticket_tickets s index None at = refl
ticket_tickets s index (Some ticket) at = state_tickets s index ticket at ticket.state

taken_tickets : (s : PlainSession) (o : Option Inward) → (passed_on s o).0.tickets ≡ s.tickets
taken_tickets s None = refl
taken_tickets s (Some item) = refl

module _ (s : PlainSession) (plain : IsPlain s) (known : IsKnown s) where
  -- what the law says of an entry of this call
  abbrev Gives : Call → Entered → Type 0
  Gives call e = (placed : ArePlaced s e (after_entry s e)) → (step s call).0.tickets ≡ tickets_after s placed.struck call

  -- what time struck
  timed : (now : ℕ) (struck : List ℕ) → AreStruckAt (settled (at_moment s now)) struck → (time_applied s now).tickets ≡ struck_tickets struck s.tickets
  timed now struck are = time_tickets s now ∙ ap (λ l. struck_tickets l s.tickets) (same_struck (settled (at_moment s now)) (strikes_of s now) struck (settled_struck s now plain) are)

  arrive_made : (request : Request) (body : List ℕ) (now : ℕ) → is_over s ≡ false → is_full s (body_cost request body) ≡ false → Gives (Arrive request body now) (Made (Arrive request body now))
  arrive_made request body now on room placed =
      let t : PlainSession = with_cost (body_cost request body) (time_applied s now) in
      subst (λ (r : PlainSession × Arrived). r.0.tickets ≡ after_arrival (struck_tickets placed.struck s.tickets) request.rid r.1) (sym (arrive-in_time s request body now on room))
      (subst (λ l. (arrived_in_time t request body).0.tickets ≡ after_arrival l request.rid (arrived_in_time t request body).1) (timed now placed.struck placed.are_struck)
      (arrived_handed t request body (steady-time IsSound sound_steady s now plain.0) (timed_known s now known)).1)

  arrive_full : (request : Request) (body : List ℕ) (now cost : ℕ) (kind : Limited) → is_over s ≡ false → is_full s (body_cost request body) ≡ true → Gives (Arrive request body now) (Limit kind cost now)
  arrive_full request body now cost kind on full placed =
      let told : arrive s request body now ≡ (full_with (body_cost request body) s, arrivals.Answer (answer_text (terminal (Some UndefinedCondition)))) =
      if_false (is_over s) _ _ on ∙ if_true (is_full s (body_cost request body)) _ _ full in
      subst (λ (r : PlainSession × Arrived). r.0.tickets ≡ after_arrival (struck_tickets placed.struck s.tickets) request.rid r.1) (sym told) (unstruck placed.struck s.tickets placed.are_struck)

  back_made : (stream : ℕ) (stanza : List ℕ) (now : ℕ) → is_over s ≡ false → is_full s (stanza_cost stanza) ≡ false → Gives (Back stream stanza now) (Made (Back stream stanza now))
  back_made stream stanza now on room placed =
      let t : PlainSession = with_cost (stanza_cost stanza) (time_applied s now) in
      let stays : t.tickets ≡ struck_tickets placed.struck s.tickets = timed now placed.struck placed.are_struck in
      subst (λ (r : PlainSession × Taken). r.0.tickets ≡ struck_tickets placed.struck s.tickets) (sym (back-in_time s stream stanza now on room))
      (split (λ (r : PlainSession × Taken). r.0.tickets ≡ struck_tickets placed.struck s.tickets) (not (takes_items t stream)) _ _ (λ none. stays)
      (λ takes. split (λ (r : PlainSession × Taken). r.0.tickets ≡ struck_tickets placed.struck s.tickets) (has_room t stanza) _ _ (λ free. item_tickets t (Stanza stream stanza) ∙ stays) (λ none. stays)))

  back_full : (stream : ℕ) (stanza : List ℕ) (now cost : ℕ) (kind : Limited) → is_over s ≡ false → is_full s (stanza_cost stanza) ≡ true → Gives (Back stream stanza now) (Limit kind cost now)
  back_full stream stanza now cost kind on full placed =
      ap (λ (r : PlainSession × Taken). r.0.tickets) (if_false (is_over s) _ _ on ∙ if_true (is_full s (stanza_cost stanza)) _ _ full) ∙ unstruck placed.struck s.tickets placed.are_struck

  closed_made : (stream : ℕ) (closing : Closing) (now : ℕ) → is_over s ≡ false → is_full s plain_cost ≡ false → Gives (BackClosed stream closing now) (Made (BackClosed stream closing now))
  closed_made stream closing now on room placed =
      let t : PlainSession = with_cost plain_cost (time_applied s now) in
      let stays : t.tickets ≡ struck_tickets placed.struck s.tickets = timed now placed.struck placed.are_struck in
      subst (λ (r : PlainSession × Taken). r.0.tickets ≡ struck_tickets placed.struck s.tickets) (sym (closed-in_time s stream closing now on room))
      (split (λ (r : PlainSession × Taken). r.0.tickets ≡ struck_tickets placed.struck s.tickets) (takes_items t stream) _ _ (λ takes. item_tickets t (Close stream closing) ∙ stays) (λ none. stays))

  closed_full : (stream : ℕ) (closing : Closing) (now cost : ℕ) (kind : Limited) → is_over s ≡ false → is_full s plain_cost ≡ true → Gives (BackClosed stream closing now) (Limit kind cost now)
  closed_full stream closing now cost kind on full placed =
      ap (λ (r : PlainSession × Taken). r.0.tickets) (if_false (is_over s) _ _ on ∙ if_true (is_full s plain_cost) _ _ full) ∙ unstruck placed.struck s.tickets placed.are_struck

  tick_made : (now : ℕ) → is_due s now ≡ true → is_full s plain_cost ≡ false → Gives (Tick now) (Made (Tick now))
  tick_made now due room placed = ap (λ (u : PlainSession). u.tickets) (tick-in_time s now due room) ∙ timed now placed.struck placed.are_struck

  tick_full : (now cost : ℕ) (kind : Limited) → is_due s now ≡ true → is_full s plain_cost ≡ true → Gives (Tick now) (Limit kind cost now)
  tick_full now cost kind due full placed =
      let turned : not (is_due s now) ≡ false = ap not due in
      ap (λ (r : PlainSession × Ticked). r.0.tickets) (if_false (not (is_due s now)) _ _ turned ∙ if_true (is_full s plain_cost) _ _ full) ∙ unstruck placed.struck s.tickets placed.are_struck

  call_tickets : (call : Call) (entered : Entered) → entered_by s call ≡ Some entered → Gives call entered
  call_tickets (Arrive request body now) entered is =
      limited-by (Gives (Arrive request body now)) (is_over s) (is_full s (body_cost request body)) _ _ entered (arrive_made request body now) (arrive_full request body now _ _) is
  call_tickets (Collect zero) entered is = λ placed. refl
  call_tickets (Collect (suc index)) entered is = λ placed. ticket_tickets s index (slice_get s.tickets index) refl
  call_tickets (Back stream stanza now) entered is =
      limited-by (Gives (Back stream stanza now)) (is_over s) (is_full s (stanza_cost stanza)) _ _ entered (back_made stream stanza now) (back_full stream stanza now _ _) is
  call_tickets (BackClosed stream closing now) entered is =
      limited-by (Gives (BackClosed stream closing now)) (is_over s) (is_full s plain_cost) _ _ entered (closed_made stream closing now) (closed_full stream closing now _ _) is
  call_tickets (Tick now) entered is = due-by (Gives (Tick now)) (is_due s now) (is_full s plain_cost) _ _ entered (tick_made now) (tick_full now _ _) is
  call_tickets TakeInward entered is = λ placed. taken_tickets s (slice_get (inward s) s.passed)

-- a call that enters nothing leaves the tickets as they are
over_if : {X : Type 0} (b : Bool) (x : X) → (if b then None else Some x) ≡ None → b ≡ true
over_if true x is = refl
over_if false x is = absurd (cc)

left_alone : (s : PlainSession) (call : Call) → entered_by s call ≡ None → (step s call).0.tickets ≡ tickets_after s [] call
left_alone s (Arrive request body now) is =
    let told : arrive s request body now ≡ (s, arrivals.Over) = if_true (is_over s) _ _ (over_if (is_over s) _ is) in
    subst (λ (r : PlainSession × Arrived). r.0.tickets ≡ after_arrival s.tickets request.rid r.1) (sym told) refl
left_alone s (Collect zero) is = refl
left_alone s (Collect (suc index)) is = ticket_tickets s index (slice_get s.tickets index) refl
left_alone s (Back stream stanza now) is = ap (λ (u : PlainSession). u.tickets) (unentered s (Back stream stanza now) is)
left_alone s (BackClosed stream closing now) is = ap (λ (u : PlainSession). u.tickets) (unentered s (BackClosed stream closing now) is)
left_alone s (Tick now) is = ap (λ (u : PlainSession). u.tickets) (unentered s (Tick now) is)
left_alone s TakeInward is = ap (λ (u : PlainSession). u.tickets) (unentered s TakeInward is)

-- the tickets after any call, by what was struck with it
pub every_after : (journal : Journal) → IsJournal journal → (call : Call) → IsAllowed call
    → (struck : List ℕ) × ((step (state_of journal) call).0.tickets ≡ tickets_after (state_of journal) struck call)
every_after journal made call allowed = by (entered_by (state_of journal) call) refl
  where
    by : (o : Option Entered) → entered_by (state_of journal) call ≡ o → (struck : List ℕ) × ((step (state_of journal) call).0.tickets ≡ tickets_after (state_of journal) struck call)
    by None is = ([], left_alone (state_of journal) call is)
    by (Some entered) is =
        let places = entry_places (state_of journal) entered (may_enter (state_of journal) call allowed entered is) (every_plain journal made) in
        (places.placed.struck, call_tickets (state_of journal) (every_plain journal made) (every_known journal made) call entered is places.placed)

pub every_ticket : (journal : Journal) → IsJournal journal → (call : Call) (entered : Entered) (placed : ArePlaced (state_of journal) entered (after_entry (state_of journal) entered))
    → entered_by (state_of journal) call ≡ Some entered → (step (state_of journal) call).0.tickets ≡ tickets_after (state_of journal) placed.struck call
every_ticket journal made call entered placed is = call_tickets (state_of journal) (every_plain journal made) (every_known journal made) call entered is placed
