-- Which tickets are out, of all that were handed out.
use Rattle.std.specs.Prelude.{◌≡◌, ℕ, zero, suc, true, false, List, Option, Some, None, length, slice_get}
use Rattle.session_core.specs.declared.tickets.OpenTicket.{OpenTicket}
use Rattle.session_core.specs.State.{Issued, TicketState, Waits, Replaced, Struck, UsedUp}
use Rattle.session_core.specs.Endings.{error_text}
use Rattle.session_core.specs.Tickets.{Book, ticket_at}

-- the ticket with this number: 1 is the first that was handed out, and none is 0
abbrev pub issued_at : List Issued → ℕ → Option Issued
issued_at issued zero = None
issued_at issued (suc index) = slice_get issued index

-- a ticket is out until it is used up, with what its request was given; one whose copy was struck, with the error
abbrev pub out_in : (ℕ → Option (List ℕ)) → ℕ → ℕ → TicketState → Option OpenTicket
out_in words number rid Waits = Some (record { number = number; rid = rid; replaced = false; struck = false; answer = words rid })
out_in words number rid Replaced = Some (record { number = number; rid = rid; replaced = true; struck = false; answer = words rid })
out_in words number rid Struck = Some (record { number = number; rid = rid; replaced = false; struck = true; answer = Some error_text })
out_in words number rid UsedUp = None

abbrev pub out_of : (ℕ → Option (List ℕ)) → ℕ → Option Issued → Option OpenTicket
out_of words number None = None
out_of words number (Some ticket) = out_in words number ticket.rid ticket.state

-- these are the tickets of a session that handed out all those, and gave each request its words
pub record AreOut (book : Book) (issued : List Issued) (words : ℕ → Option (List ℕ)) : Type 0 where
  pub handed_out_is : book.handed_out ≡ length issued
  pub each : (number : ℕ) → ticket_at book.out number ≡ out_of words number (issued_at issued number)
