-- How many tickets are out after a call.
use Rattle.std.proofs.Common.{◌≡◌, ◌≤◌, ℕ, zero, suc, ◌+◌, ◌==◌, true, List, [], ◌∷◌, ◌++◌, Option, Some, map, slice_get, slice_set, refl, sym, ◌∙◌, ap, ap₂, arith, inl, inr}
use Rattle.session_core.specs.declared.replies.Arrived.{Arrived}
use Rattle.session_core.specs.declared.replies.Arrived.TheVariants as arrivals
use Rattle.session_core.specs.declared.replies.Collected.{Collected}
use Rattle.session_core.specs.declared.replies.Collected.TheVariants as collections
use Rattle.session_core.specs.Gap.{strike_ticket, struck_state}
use Rattle.session_core.specs.Machine.{replace, replaced, collect}
use Rattle.session_core.specs.Placed.{struck_tickets}
use Rattle.session_core.specs.State.{PlainSession, Issued, TicketState, Waits, Replaced, Struck, UsedUp}
use Rattle.session_core.specs.Tickets.{uses_up}
use Rattle.session_core.specs.TicketsOut.{issued_at}
use Rattle.session_journal.specs.Stored.{outs, tickets_out}
use Rattle.session_journal.specs.Storing.{handed_out}
use Rattle.session_laws.specs.Tickets.{Tells, after_arrival, after_collect, spent, spent_at}
use Rattle.session_laws.proofs.TicketLemmas.{collect_tells}
use Rattle.session_laws.proofs.Tests.{split}

replaced_out : (state : TicketState) → outs (replaced state) ≡ outs state
replaced_out Waits = refl
replaced_out Replaced = refl
replaced_out Struck = refl
replaced_out UsedUp = refl

replace_out : (rid : ℕ) (ticket : Issued) → outs (replace rid ticket).state ≡ outs ticket.state
replace_out rid ticket = split (λ (t : Issued). outs t.state ≡ outs ticket.state) (ticket.rid == rid) _ ticket (λ here. replaced_out ticket.state) (λ other. refl)

map_out : (rid : ℕ) (tickets : List Issued) → tickets_out (map (replace rid) tickets) ≡ tickets_out tickets
map_out rid [] = refl
map_out rid (t ∷ tickets) = ap₂ (λ a b. a + b) (replace_out rid t) (map_out rid tickets)

-- a ticket whose copy is struck is out, with its error
struck_out : (state : TicketState) → outs (struck_state state) ≡ outs state
struck_out Waits = refl
struck_out Replaced = refl
struck_out Struck = refl
struck_out UsedUp = refl

strike_out : (rid : ℕ) (ticket : Issued) → outs (strike_ticket rid ticket).state ≡ outs ticket.state
strike_out rid ticket = split (λ (t : Issued). outs t.state ≡ outs ticket.state) (ticket.rid == rid) _ ticket (λ here. struck_out ticket.state) (λ other. refl)

one_strike_out : (rid : ℕ) (tickets : List Issued) → tickets_out (map (strike_ticket rid) tickets) ≡ tickets_out tickets
one_strike_out rid [] = refl
one_strike_out rid (t ∷ tickets) = ap₂ (λ a b. a + b) (strike_out rid t) (one_strike_out rid tickets)

pub strikes_out : (rids : List ℕ) (tickets : List Issued) → tickets_out (struck_tickets rids tickets) ≡ tickets_out tickets
strikes_out [] tickets = refl
strikes_out (rid ∷ rids) tickets = strikes_out rids (map (strike_ticket rid) tickets) ∙ one_strike_out rid tickets

append_out : (tickets more : List Issued) → tickets_out (tickets ++ more) ≡ tickets_out tickets + tickets_out more
append_out [] more = omega arith
append_out (t ∷ tickets) more = omega (arith, append_out tickets more)

-- an arrival hands out a ticket where its copy waits
pub arrival_out : (tickets : List Issued) (rid : ℕ) (told : Arrived) → tickets_out (after_arrival tickets rid told) ≡ tickets_out tickets + handed_out told
arrival_out tickets rid (arrivals.Answer bytes) = omega arith
arrival_out tickets rid arrivals.Over = omega arith
arrival_out tickets rid (arrivals.Parked number) =
    append_out (map (replace rid) tickets) (record { rid = rid; state = Waits } ∷ []) ∙ ap (λ n. n + 1) (map_out rid tickets)

set_out : (tickets : List Issued) (index : ℕ) (ticket : Issued) → slice_get tickets index ≡ Some ticket → outs ticket.state ≡ 1
    → tickets_out tickets ≡ tickets_out (slice_set tickets index (record ticket { state = UsedUp })) + 1
set_out [] index ticket at out = absurd (cc)
set_out (t ∷ tickets) zero ticket at out =
    let here : outs t.state ≡ 1 = ap (λ (x : Issued). outs x.state) (same t ticket at) ∙ out in
    omega (arith, here)
  where
    same : (x y : Issued) → ◌≡◌ {A = Option Issued} (Some x) (Some y) → x ≡ y
    same x y is = cc
set_out (t ∷ tickets) (suc index) ticket at out = omega (arith, set_out tickets index ticket at out)

-- the ticket with this number, where it is out, is used up
spent_out : (tickets : List Issued) (number : ℕ) (ticket : Issued) → issued_at tickets number ≡ Some ticket → outs ticket.state ≡ 1
    → tickets_out tickets ≡ tickets_out (spent_at tickets number) + 1
spent_out tickets zero ticket at out = absurd (cc)
spent_out tickets (suc index) ticket at out =
    set_out tickets index ticket at out ∙ ap (λ o. tickets_out (spent tickets index o) + 1) (sym at)

collected_out : (s : PlainSession) (number : ℕ) (told : Collected) → Tells s number told → uses_up told ≡ true
    → tickets_out s.tickets ≡ tickets_out (after_collect s.tickets number told) + 1
collected_out s number (collections.Answer bytes) tells uses = spent_out s.tickets number tells.0 tells.1 (elim tells.2 [
  | inl waits ↦ ap outs waits.0
  | inr struck ↦ ap outs struck.0
])
collected_out s number collections.NotYet tells uses = absurd (cc)
collected_out s number collections.Superseded tells uses = spent_out s.tickets number tells.0 tells.1 (ap outs tells.2)
collected_out s number collections.UnknownTicket tells uses = absurd (cc)

-- what uses a ticket up leaves one less
pub collect_out : (s : PlainSession) (number : ℕ) → uses_up (collect s number).1 ≡ true
    → tickets_out s.tickets ≡ tickets_out (after_collect s.tickets number (collect s number).1) + 1
collect_out s number uses = collected_out s number (collect s number).1 (collect_tells s number) uses

pub handed_few : (told : Arrived) → handed_out told ≤ 1
handed_few (arrivals.Answer bytes) = omega arith
handed_few (arrivals.Parked number) = omega arith
handed_few arrivals.Over = omega arith
