-- What is told of a ticket, and what calls make of them.
use Rattle.std.specs.Prelude.{◌≡◌, ℕ, zero, suc, List, [], ◌∷◌, ◌++◌, map, slice_get, slice_set, Option, Some, None, ◌⊎◌}
use Rattle.session_core.specs.declared.replies.Arrived.{Arrived}
use Rattle.session_core.specs.declared.replies.Arrived.TheVariants as arrivals
use Rattle.session_core.specs.declared.replies.Collected.{Collected}
use Rattle.session_core.specs.declared.replies.Collected.TheVariants as collections
use Rattle.session_core.specs.Journal.{Call, Arrive, Collect, Back, BackClosed, Tick, TakeInward}
use Rattle.session_core.specs.Machine.{bytes_for, replace, arrive, collect}
use Rattle.session_core.specs.Endings.{error_text}
use Rattle.session_core.specs.Placed.{struck_tickets}
use Rattle.session_core.specs.State.{PlainSession, Issued, Waits, Replaced, Struck, UsedUp}
use Rattle.session_core.specs.TicketsOut.{issued_at}

-- a waiting request gets what its id was given, and waits while that is nothing; one whose copy was struck gets the error, whatever
-- its id is given later; one whose place was taken is told so; a ticket that was never handed out, or was used up, is unknown
abbrev pub Tells : PlainSession → ℕ → Collected → Type 0
Tells s number (collections.Answer bytes) =
    (ticket : Issued) × (issued_at s.tickets number ≡ Some ticket)
    × (((ticket.state ≡ Waits) × (bytes_for s ticket.rid ≡ Some bytes)) ⊎ ((ticket.state ≡ Struck) × (bytes ≡ error_text)))
Tells s number collections.NotYet =
    (ticket : Issued) × (issued_at s.tickets number ≡ Some ticket) × (ticket.state ≡ Waits) × (bytes_for s ticket.rid ≡ None)
Tells s number collections.Superseded = (ticket : Issued) × (issued_at s.tickets number ≡ Some ticket) × (ticket.state ≡ Replaced)
Tells s number collections.UnknownTicket =
    (issued_at s.tickets number ≡ None) ⊎ ((ticket : Issued) × (issued_at s.tickets number ≡ Some ticket) × (ticket.state ≡ UsedUp))

-- the ticket with this number was used up
abbrev pub spent : List Issued → ℕ → Option Issued → List Issued
spent tickets index None = tickets
spent tickets index (Some ticket) = slice_set tickets index (record ticket { state = UsedUp })

abbrev pub spent_at : List Issued → ℕ → List Issued
spent_at tickets zero = tickets
spent_at tickets (suc index) = spent tickets index (slice_get tickets index)

-- a copy that waits has the next ticket, and those of its id that waited before are superseded
abbrev pub after_arrival : List Issued → ℕ → Arrived → List Issued
after_arrival tickets rid (arrivals.Parked number) = map (replace rid) tickets ++ record { rid = rid; state = Waits } ∷ []
after_arrival tickets rid (arrivals.Answer bytes) = tickets
after_arrival tickets rid arrivals.Over = tickets

-- a ticket is used up by an answer, and by being told that it was superseded
abbrev pub after_collect : List Issued → ℕ → Collected → List Issued
after_collect tickets number (collections.Answer bytes) = spent_at tickets number
after_collect tickets number collections.NotYet = tickets
after_collect tickets number collections.Superseded = spent_at tickets number
after_collect tickets number collections.UnknownTicket = tickets

-- the tickets after a call that enters something, by what it is told, where copies of these ids were struck before
abbrev pub tickets_after : PlainSession → List ℕ → Call → List Issued
tickets_after s struck (Arrive request body now) = after_arrival (struck_tickets struck s.tickets) request.rid (arrive s request body now).1
tickets_after s struck (Collect number) = after_collect s.tickets number (collect s number).1
tickets_after s struck (Back stream stanza now) = struck_tickets struck s.tickets
tickets_after s struck (BackClosed stream closing now) = struck_tickets struck s.tickets
tickets_after s struck (Tick now) = struck_tickets struck s.tickets
tickets_after s struck TakeInward = s.tickets
