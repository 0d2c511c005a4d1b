-- A ticket is of one id, whatever calls come.
use Rattle.std.proofs.Common.{◌≡◌, ℕ, zero, suc, ◌==◌, List, [], ◌∷◌, ◌++◌, Option, Some, None, length, map, slice_get, slice_set, refl, sym, ◌∙◌, ap}
use Rattle.std.proofs.lemmas.List.{length-map}
use Rattle.session_core.specs.declared.replies.Arrived.{Arrived}
use Rattle.session_core.specs.declared.replies.Arrived.TheVariants as arrivals
use Rattle.session_core.specs.declared.replies.Collected.{Collected}
use Rattle.session_core.specs.declared.replies.Collected.TheVariants as collections
use Rattle.session_core.specs.Journal.{Call, Arrive, Collect, Back, BackClosed, Tick, TakeInward}
use Rattle.session_core.specs.Machine.{arrive, collect, replace}
use Rattle.session_core.specs.Gap.{strike_ticket}
use Rattle.session_core.specs.Placed.{struck_tickets}
use Rattle.session_core.specs.State.{PlainSession, Issued, Waits, UsedUp}
use Rattle.session_laws.specs.Tickets.{after_arrival, after_collect, spent, spent_at, tickets_after}
use Rattle.session_laws.proofs.Lists.{get_append, get_last}
use Rattle.session_laws.proofs.Tests.{split}
use Rattle.world_laws.specs.Sound.{IsTicketOf}

-- the ticket at a place is of this id
abbrev StandsAt : List Issued → ℕ → ℕ → Type 0
StandsAt tickets index rid = (ticket : Issued) × (slice_get tickets index ≡ Some ticket) × (ticket.rid ≡ rid)

numbered : (tickets later : List Issued) → ((index rid : ℕ) → StandsAt tickets index rid → StandsAt later index rid)
    → (number rid : ℕ) → IsTicketOf tickets number rid → IsTicketOf later number rid
numbered tickets later stands zero rid is = absurd (cc (is.1))
numbered tickets later stands (suc index) rid is = stands index rid is

some_same : {X : Type 0} (x y : X) → Some x ≡ Some y → x ≡ y
some_same x y is = cc

replaced_rid : (rid : ℕ) (ticket : Issued) → (replace rid ticket).rid ≡ ticket.rid
replaced_rid rid ticket = split (λ (t : Issued). t.rid ≡ ticket.rid) (ticket.rid == rid) _ ticket (λ here. refl) (λ other. refl)

replaced_stands : (of : ℕ) (tickets : List Issued) (index rid : ℕ) → StandsAt tickets index rid → StandsAt (map (replace of) tickets) index rid
replaced_stands of [] index rid is = absurd (cc (is.1))
replaced_stands of (first ∷ tickets) zero rid is =
    (replace of first, refl, replaced_rid of first ∙ ap (λ (t : Issued). t.rid) (some_same first is.0 is.1) ∙ is.2)
replaced_stands of (first ∷ tickets) (suc index) rid is = replaced_stands of tickets index rid is

parked_stands : (of : ℕ) (tickets : List Issued) (new : Issued) (index rid : ℕ) → StandsAt tickets index rid → StandsAt (map (replace of) tickets ++ new ∷ []) index rid
parked_stands of tickets new index rid is =
    let old = replaced_stands of tickets index rid is in
    (old.0, get_append (map (replace of) tickets) (new ∷ []) index old.0 old.1, old.2)

used_stands : (tickets : List Issued) (at : ℕ) (ticket : Issued) → slice_get tickets at ≡ Some ticket → (index rid : ℕ) → StandsAt tickets index rid
    → StandsAt (slice_set tickets at (record ticket { state = UsedUp })) index rid
used_stands [] at ticket there index rid is = absurd (cc (is.1))
used_stands (first ∷ tickets) zero ticket there zero rid is =
    (record ticket { state = UsedUp }, refl, ap (λ (t : Issued). t.rid) (some_same ticket is.0 (sym there ∙ is.1)) ∙ is.2)
used_stands (first ∷ tickets) zero ticket there (suc index) rid is = is
used_stands (first ∷ tickets) (suc at) ticket there zero rid is = is
used_stands (first ∷ tickets) (suc at) ticket there (suc index) rid is = used_stands tickets at ticket there index rid is

spent_stands : (tickets : List Issued) (at : ℕ) (o : Option Issued) → slice_get tickets at ≡ o → (index rid : ℕ) → StandsAt tickets index rid → StandsAt (spent tickets at o) index rid
spent_stands tickets at None there index rid is = is
spent_stands tickets at (Some ticket) there index rid is = used_stands tickets at ticket there index rid is

spent_of : (tickets : List Issued) (used number rid : ℕ) → IsTicketOf tickets number rid → IsTicketOf (spent_at tickets used) number rid
spent_of tickets zero number rid is = is
spent_of tickets (suc at) number rid is =
    numbered tickets (spent tickets at (slice_get tickets at)) (spent_stands tickets at (slice_get tickets at) refl) number rid is

arrival_of : (tickets : List Issued) (of : ℕ) (reply : Arrived) (number rid : ℕ) → IsTicketOf tickets number rid → IsTicketOf (after_arrival tickets of reply) number rid
arrival_of tickets of (arrivals.Answer bytes) number rid is = is
arrival_of tickets of (arrivals.Parked ticket) number rid is =
    numbered tickets (map (replace of) tickets ++ record { rid = of; state = Waits } ∷ []) (parked_stands of tickets (record { rid = of; state = Waits })) number rid is
arrival_of tickets of arrivals.Over number rid is = is

collect_of : (tickets : List Issued) (used : ℕ) (told : Collected) (number rid : ℕ) → IsTicketOf tickets number rid → IsTicketOf (after_collect tickets used told) number rid
collect_of tickets used (collections.Answer bytes) number rid is = spent_of tickets used number rid is
collect_of tickets used collections.NotYet number rid is = is
collect_of tickets used collections.Superseded number rid is = spent_of tickets used number rid is
collect_of tickets used collections.UnknownTicket number rid is = is

-- a ticket of an id that is struck stays of that id
strike_rid : (rid : ℕ) (ticket : Issued) → (strike_ticket rid ticket).rid ≡ ticket.rid
strike_rid rid ticket = split (λ (t : Issued). t.rid ≡ ticket.rid) (ticket.rid == rid) _ ticket (λ here. refl) (λ other. refl)

strike_stands : (of : ℕ) (tickets : List Issued) (index rid : ℕ) → StandsAt tickets index rid → StandsAt (map (strike_ticket of) tickets) index rid
strike_stands of [] index rid is = absurd (cc (is.1))
strike_stands of (first ∷ tickets) zero rid is =
    (strike_ticket of first, refl, strike_rid of first ∙ ap (λ (t : Issued). t.rid) (some_same first is.0 is.1) ∙ is.2)
strike_stands of (first ∷ tickets) (suc index) rid is = strike_stands of tickets index rid is

struck_of : (struck : List ℕ) (tickets : List Issued) (number rid : ℕ) → IsTicketOf tickets number rid → IsTicketOf (struck_tickets struck tickets) number rid
struck_of [] tickets number rid is = is
struck_of (of ∷ struck) tickets number rid is =
    struck_of struck (map (strike_ticket of) tickets) number rid (numbered tickets (map (strike_ticket of) tickets) (strike_stands of tickets) number rid is)

pub ticket_stays : (s : PlainSession) (struck : List ℕ) (call : Call) (number rid : ℕ) → IsTicketOf s.tickets number rid → IsTicketOf (tickets_after s struck call) number rid
ticket_stays s struck (Arrive request body now) number rid is =
    arrival_of (struck_tickets struck s.tickets) request.rid (arrive s request body now).1 number rid (struck_of struck s.tickets number rid is)
ticket_stays s struck (Collect ticket) number rid is = collect_of s.tickets ticket (collect s ticket).1 number rid is
ticket_stays s struck (Back stream stanza now) number rid is = struck_of struck s.tickets number rid is
ticket_stays s struck (BackClosed stream closing now) number rid is = struck_of struck s.tickets number rid is
ticket_stays s struck (Tick now) number rid is = struck_of struck s.tickets number rid is
ticket_stays s struck TakeInward number rid is = is

pub length_struck : (struck : List ℕ) (tickets : List Issued) → length (struck_tickets struck tickets) ≡ length tickets
length_struck [] tickets = refl
length_struck (of ∷ struck) tickets = length_struck struck (map (strike_ticket of) tickets) ∙ length-map tickets (strike_ticket of)

length_replaced : (of : ℕ) (tickets : List Issued) → length (map (replace of) tickets) ≡ length tickets
length_replaced of [] = refl
length_replaced of (first ∷ tickets) = ap suc (length_replaced of tickets)

-- a copy that waits has the next ticket
pub newly_parked : (tickets : List Issued) (rid : ℕ) → IsTicketOf (after_arrival tickets rid (arrivals.Parked (suc (length tickets)))) (suc (length tickets)) rid
newly_parked tickets rid =
    let new : Issued = record { rid = rid; state = Waits } in
    (new, ap (slice_get (map (replace rid) tickets ++ new ∷ [])) (sym (length_replaced rid tickets)) ∙ get_last (map (replace rid) tickets) new, refl)
