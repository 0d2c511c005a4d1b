-- A ticket that has the error of a struck copy is of an id of which a copy was struck.
use Rattle.std.proofs.Common.{◌≡◌, ℕ, zero, suc, ◌+◌, ◌==◌, Bool, true, false, List, [], ◌∷◌, ◌++◌, map, length, Option, Some, None, refl, sym, subst, ◌∙◌, ap, append_assoc, add-one, if◌then◌else◌}
use Rattle.std.specs.Prelude.{⊤, slice_get, slice_set}
use Rattle.std.proofs.lemmas.Bool.{eqb-true}
use Rattle.std.proofs.lemmas.List.{append-nil}
use Rattle.session_attrs.specs.declared.request.Request.{Request}
use Rattle.session_core.specs.declared.copy.RequestCopy.{RequestCopy}
use Rattle.session_core.specs.declared.replies.Arrived.{Arrived}
use Rattle.session_core.specs.declared.replies.Arrived.TheVariants as arrivals
use Rattle.session_core.specs.declared.replies.Collected.{Collected}
use Rattle.session_core.specs.declared.replies.Collected.TheVariants as collections
use Rattle.session_core.specs.Gap.{strike_ticket, struck_state}
use Rattle.session_core.specs.Journal.{Call, Arrive, Back, BackClosed, Collect, Tick, TakeInward, Entered, Entry, Journal, IsJournal, IsAllowed, ToArrive, after_entry, entered_by, state_of, step}
use Rattle.session_core.specs.Machine.{arrive, collect, opened, replace, replaced}
use Rattle.session_core.specs.Placed.{ArePlaced, struck_tickets}
use Rattle.session_core.specs.Points.{tested_at}
use Rattle.session_core.specs.State.{PlainSession, Issued, Placing, Stands, Strikes, TicketState, Waits, Replaced, Struck, UsedUp, is_over}
use Rattle.session_core.specs.TicketsOut.{issued_at}
use Rattle.session_laws.specs.Growing.{Begins}
use Rattle.session_laws.specs.Tickets.{after_arrival, after_collect, spent, spent_at, tickets_after}
use Rattle.session_laws.proofs.Grows.{after_append}
use Rattle.session_laws.proofs.LawsOf.{every_parked}
use Rattle.session_laws.proofs.Lists.{get_append, get_last}
use Rattle.session_laws.proofs.PlacedLemmas.{entry_places, every_plain}
use Rattle.session_laws.proofs.Steps.{may_enter}
use Rattle.session_laws.proofs.Tests.{some_is}
use Rattle.session_laws.proofs.TicketSteps.{every_ticket}
use Rattle.session_calls.specs.After.{after_call, with_entered}
use Rattle.script_text.specs.Answered.{WasStruck}
use Rattle.script_text.proofs.JournalSteps.{after_is}
use Rattle.script_text.proofs.TicketIds.{called_reply}

-- an id of which a copy was struck, by what came to the places of ids
abbrev WasIn : List Placing → ℕ → Type 0
WasIn placings rid = (moment : ℕ) × (place : ℕ) × (slice_get placings place ≡ Some (Strikes rid moment))

was_more : (placings more : List Placing) (rid : ℕ) → WasIn placings rid → WasIn (placings ++ more) rid
was_more placings more rid (moment, place, is) = (moment, place, get_append placings more place (Strikes rid moment) is)

pub still_struck : (s t : PlainSession) → Begins s.placings t.placings → (rid : ℕ) → WasStruck s rid → WasStruck t rid
still_struck s t begins rid was = subst (λ (l : List Placing). WasIn l rid) (sym begins.1) (was_more s.placings begins.0 rid was)

-- a ticket, and the one at a place, where there is one
abbrev ToldOf : List Placing → Issued → Type 0
ToldOf placings t = t.state ≡ Struck → WasIn placings t.rid

abbrev ToldAt : List Placing → List Issued → ℕ → Type 0
ToldAt placings tickets index = (t : Issued) → slice_get tickets index ≡ Some t → ToldOf placings t

-- the ticket with this number
abbrev pub TicketTold : PlainSession → ℕ → Type 0
TicketTold s zero = ⊤
TicketTold s (suc index) = ToldAt s.placings s.tickets index

-- what has the error of a struck copy is of an id of which one was struck
pub told_struck : (s : PlainSession) (number : ℕ) (t : Issued) → issued_at s.tickets number ≡ Some t → TicketTold s number → t.state ≡ Struck → WasStruck s t.rid
told_struck s zero t is told struck = absurd (cc)
told_struck s (suc index) t is told struck = told t is struck

told_more : (placings more : List Placing) (tickets : List Issued) (index : ℕ) → ToldAt placings tickets index → ToldAt (placings ++ more) tickets index
told_more placings more tickets index told = λ t is struck. was_more placings more t.rid (told t is struck)

-- tickets of which each changes so
told_each : (f : Issued → Issued) (before after : List Placing) → ((u : Issued) → ToldOf before u → ToldOf after (f u)) → (tickets : List Issued) (index : ℕ)
    → ToldAt before tickets index → ToldAt after (map f tickets) index
told_each f before after each [] index told = λ t is. absurd (cc)
told_each f before after each (u ∷ tickets) zero told = λ t is. subst (ToldOf after) (some_is (f u) t is) (each u (told u refl))
told_each f before after each (u ∷ tickets) (suc index) told = told_each f before after each tickets index told

strike_told : (placings : List Placing) (rid moment : ℕ) (u : Issued) → ToldOf placings u → ToldOf (placings ++ Strikes rid moment ∷ []) (strike_ticket rid u)
strike_told placings rid moment u told = by (u.rid == rid) refl
  where
    by : (b : Bool) → (u.rid == rid) ≡ b → ToldOf (placings ++ Strikes rid moment ∷ []) (if b then record u { state = struck_state u.state } else u)
    by true is = λ struck.
        subst (WasIn (placings ++ Strikes rid moment ∷ [])) (sym (eqb-true u.rid rid is)) (moment, length placings, get_last placings (Strikes rid moment))
    by false is = λ struck. was_more placings (Strikes rid moment ∷ []) u.rid (told struck)

abbrev strikes : ℕ → List ℕ → List Placing
strikes moment rids = map (λ rid. Strikes rid moment) rids

strikes_told : (moment : ℕ) (rids : List ℕ) (placings : List Placing) (tickets : List Issued) (index : ℕ) → ToldAt placings tickets index
    → ToldAt (placings ++ strikes moment rids) (struck_tickets rids tickets) index
strikes_told moment [] placings tickets index told = subst (λ (l : List Placing). ToldAt l tickets index) (sym (append-nil placings)) told
strikes_told moment (rid ∷ rids) placings tickets index told =
    subst (λ (l : List Placing). ToldAt l (struck_tickets rids (map (strike_ticket rid) tickets)) index) (append_assoc placings (Strikes rid moment ∷ []) (strikes moment rids))
    (strikes_told moment rids (placings ++ Strikes rid moment ∷ []) (map (strike_ticket rid) tickets) index
    (told_each (strike_ticket rid) placings (placings ++ Strikes rid moment ∷ []) (strike_told placings rid moment) tickets index told))

unreplaced : (state : TicketState) → replaced state ≡ Struck → state ≡ Struck
unreplaced Waits is = absurd (cc)
unreplaced Replaced is = absurd (cc)
unreplaced Struck is = refl
unreplaced UsedUp is = absurd (cc)

module _ (placings : List Placing) where
  replace_told : (rid : ℕ) (u : Issued) → ToldOf placings u → ToldOf placings (replace rid u)
  replace_told rid u told = by (u.rid == rid)
    where
      by : (b : Bool) → ToldOf placings (if b then record u { state = replaced u.state } else u)
      by true = λ struck. told (unreplaced u.state struck)
      by false = told

  last_told : (tickets : List Issued) (rid index : ℕ) → ToldAt placings tickets index → ToldAt placings (tickets ++ record { rid = rid; state = Waits } ∷ []) index
  last_told [] rid zero told = λ t is struck. absurd (waits (ap (λ (u : Issued). u.state) (some_is (record { rid = rid; state = Waits }) t is) ∙ struck))
    where
      waits : Waits ≡ Struck → ⊥
      waits is = cc
  last_told [] rid (suc index) told = λ t is. absurd (cc)
  last_told (u ∷ tickets) rid zero told = told
  last_told (u ∷ tickets) rid (suc index) told = last_told tickets rid index told

  used_told : (tickets : List Issued) (at : ℕ) (rid index : ℕ) → ToldAt placings tickets index → ToldAt placings (slice_set tickets at (record { rid = rid; state = UsedUp })) index
  used_told [] at rid index told = told
  used_told (u ∷ tickets) zero rid zero told = λ t is struck. absurd (used (ap (λ (u : Issued). u.state) (some_is (record { rid = rid; state = UsedUp }) t is) ∙ struck))
    where
      used : UsedUp ≡ Struck → ⊥
      used is = cc
  used_told (u ∷ tickets) zero rid (suc index) told = told
  used_told (u ∷ tickets) (suc at) rid zero told = told
  used_told (u ∷ tickets) (suc at) rid (suc index) told = used_told tickets at rid index told

  spent_told : (tickets : List Issued) (at : ℕ) (o : Option Issued) (index : ℕ) → ToldAt placings tickets index → ToldAt placings (spent tickets at o) index
  spent_told tickets at None index told = told
  spent_told tickets at (Some ticket) index told = used_told tickets at ticket.rid index told

  spent_at_told : (tickets : List Issued) (number index : ℕ) → ToldAt placings tickets index → ToldAt placings (spent_at tickets number) index
  spent_at_told tickets zero index told = told
  spent_at_told tickets (suc at) index told = spent_told tickets at (slice_get tickets at) index told

  arrival_told : (tickets : List Issued) (rid : ℕ) (reply : Arrived) (index : ℕ) → ToldAt placings tickets index → ToldAt placings (after_arrival tickets rid reply) index
  arrival_told tickets rid (arrivals.Parked number) index told = last_told (map (replace rid) tickets) rid index (told_each (replace rid) placings placings (replace_told rid) tickets index told)
  arrival_told tickets rid (arrivals.Answer bytes) index told = told
  arrival_told tickets rid arrivals.Over index told = told

  collect_told : (tickets : List Issued) (number : ℕ) (reply : Collected) (index : ℕ) → ToldAt placings tickets index → ToldAt placings (after_collect tickets number reply) index
  collect_told tickets number (collections.Answer bytes) index told = spent_at_told tickets number index told
  collect_told tickets number collections.NotYet index told = told
  collect_told tickets number collections.Superseded index told = spent_at_told tickets number index told
  collect_told tickets number collections.UnknownTicket index told = told

-- whatever the call
call_told : (s : PlainSession) (struck : List ℕ) (moment : ℕ) (more : List Placing) (call : Call) (index : ℕ) → ToldAt s.placings s.tickets index
    → ToldAt (s.placings ++ strikes moment struck ++ more) (tickets_after s struck call) index
call_told s struck moment more call index told = by call
  where
    after : List Placing
    after = s.placings ++ strikes moment struck ++ more

    timed : ToldAt after (struck_tickets struck s.tickets) index
    timed = told_more (s.placings ++ strikes moment struck) more (struck_tickets struck s.tickets) index (strikes_told moment struck s.placings s.tickets index told)

    grown : ToldAt after s.tickets index
    grown = told_more (s.placings ++ strikes moment struck) more s.tickets index (told_more s.placings (strikes moment struck) s.tickets index told)

    by : (call : Call) → ToldAt after (tickets_after s struck call) index
    by (Arrive request body now) = arrival_told after (struck_tickets struck s.tickets) request.rid (arrive s request body now).1 index timed
    by (Collect number) = collect_told after s.tickets number (collect s number).1 index grown
    by (Back stream stanza now) = timed
    by (BackClosed stream closing now) = timed
    by (Tick now) = timed
    by TakeInward = grown

past_end : (tickets : List Issued) (t : Issued) → slice_get tickets (length tickets) ≡ Some t → ⊥
past_end [] t is = cc
past_end (u ∷ tickets) t is = past_end tickets t is

module _ (journal : Journal) (made : IsJournal journal) (call : Call) (allowed : IsAllowed call) where
  pub after_told : (number : ℕ) → TicketTold (state_of journal) number → TicketTold (state_of (after_call journal call)) number
  after_told number told = by (entered_by (state_of journal) call) refl number told
    where
      by : (o : Option Entered) → entered_by (state_of journal) call ≡ o → (number : ℕ) → TicketTold (state_of journal) number → TicketTold (state_of (with_entered journal o)) number
      by None is number told = told
      by (Some entered) is zero told = tt
      by (Some entered) is (suc index) told =
          let s : PlainSession = state_of journal in
          let t : PlainSession = state_of (with_entered journal (Some entered)) in
          let placed : ArePlaced s entered (after_entry s entered) = (entry_places s entered (may_enter s call allowed entered is) (every_plain journal made)).placed in
          let tickets : t.tickets ≡ tickets_after s placed.struck call =
          ap (λ (o : Option Entered). (state_of (with_entered journal o)).tickets) (sym is) ∙ ap (λ (u : PlainSession). u.tickets) (after_is journal call) ∙ every_ticket journal made call entered placed is in
          let placings : t.placings ≡ s.placings ++ strikes (tested_at s entered).now placed.struck ++ map Stands placed.stood =
          ap (λ (u : PlainSession). u.placings) (after_append (opened journal.opening) journal.entries (record { caller = 0; entered = entered } ∷ [])) ∙ placed.placings_are in
          subst (λ (l : List Issued). ToldAt t.placings l index) (sym tickets)
          (subst (λ (l : List Placing). ToldAt l (tickets_after s placed.struck call) index) (sym placings)
          (call_told s placed.struck (tested_at s entered).now (map Stands placed.stood) call index told))

-- and of the ticket of a request that waits
pub parked_told : (journal : Journal) → IsJournal journal → (request : Request) (body : List ℕ) (now : ℕ) → IsAllowed (Arrive request body now) → is_over (state_of journal) ≡ false
    → (ticket : ℕ) → (arrive (state_of journal) request body now).1 ≡ arrivals.Parked ticket → TicketTold (state_of (after_call journal (Arrive request body now))) ticket
parked_told journal made request body now allowed on ticket is =
    let told = (every_parked journal made request body now ticket allowed on).0 (called_reply (arrive (state_of journal) request body now) ∙ ap ToArrive is) in
    let next : ticket ≡ suc (length (state_of journal).tickets) = told.0 ∙ add-one (length (state_of journal).tickets) in
    after_told journal made (Arrive request body now) allowed ticket
    (subst (TicketTold (state_of journal)) (sym next) (λ t at. absurd (past_end (state_of journal).tickets t at)))
