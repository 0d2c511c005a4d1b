-- The tickets of a session that are out, with what is known of their requests.
use Rattle.std.specs.Prelude.{ℕ, ◌+◌, ◌-◌, ◌==◌, ◌&&◌, Bool, true, false, not, List, [], ◌∷◌, ◌++◌, filter, Option, Some, None, is_some, if◌then◌else◌}
use Rattle.std.specs.List.{find}
use Rattle.session_core.specs.declared.replies.Collected.{Collected}
use Rattle.session_core.specs.declared.replies.Collected.TheVariants as collections
use Rattle.session_core.specs.declared.tickets.OpenTicket.{OpenTicket}

-- how many were handed out, and those that aren't used up, in that order
pub record Book : Type 0 where
  pub handed_out : ℕ
  pub out : List OpenTicket

-- the next ticket is handed out
abbrev pub given : Book → ℕ → Book
given book rid = record {
  handed_out = book.handed_out + 1;
  out = book.out ++ record { number = book.handed_out + 1; rid = rid; replaced = false; struck = false; answer = None } ∷ [];
}

-- it waits for a copy of this id that wasn't struck
abbrev pub is_for : ℕ → OpenTicket → Bool
is_for rid ticket = (ticket.rid == rid) && not ticket.struck

-- a later copy of the request took its place
abbrev pub replace : ℕ → OpenTicket → OpenTicket
replace rid ticket = if is_for rid ticket then record ticket { replaced = true } else ticket

-- its request was answered
abbrev pub give_answer : ℕ → List ℕ → OpenTicket → OpenTicket
give_answer rid bytes ticket = if is_for rid ticket then record ticket { answer = Some bytes } else ticket

-- the copy that it waits for is struck, and it has the error
abbrev pub strike : ℕ → List ℕ → OpenTicket → OpenTicket
strike rid error ticket =
    if is_for rid ticket && not ticket.replaced then record ticket { struck = true; answer = Some error } else ticket

-- where its request wasn't answered, it has its last word
abbrev pub give_word : ℕ → List ℕ → List ℕ → OpenTicket → OpenTicket
give_word breaker word other ticket =
    if is_some ticket.answer then ticket
    else record ticket { answer = Some (if ticket.rid == breaker then word else other) }

-- the ticket with this number, where it is out
abbrev pub ticket_at : List OpenTicket → ℕ → Option OpenTicket
ticket_at tickets number = find (λ ticket. ticket.number == number) tickets

abbrev pub answer_of : Option OpenTicket → Option (List ℕ)
answer_of None = None
answer_of (Some ticket) = ticket.answer

-- what is told of a ticket's answer, and of a ticket
abbrev pub told_answer : Option (List ℕ) → Collected
told_answer None = collections.NotYet
told_answer (Some bytes) = collections.Answer bytes

abbrev pub told_of : Option OpenTicket → Collected
told_of None = collections.UnknownTicket
told_of (Some ticket) = if ticket.replaced then collections.Superseded else told_answer ticket.answer

-- an answer, and that a ticket was superseded, use it up
abbrev pub uses_up : Collected → Bool
uses_up (collections.Answer bytes) = true
uses_up collections.NotYet = false
uses_up collections.Superseded = true
uses_up collections.UnknownTicket = false

-- the tickets but this one
abbrev pub without : ℕ → List OpenTicket → List OpenTicket
without number tickets = filter (λ ticket. not (ticket.number == number)) tickets

abbrev pub collected : Book → ℕ → Book
collected book number =
    if uses_up (told_of (ticket_at book.out number)) then record book { out = without number book.out } else book

-- the ticket that was handed out last is taken back, where its request has its answer
abbrev pub taken_back : Book → Book
taken_back book =
    if is_some (answer_of (ticket_at book.out book.handed_out))
    then record { handed_out = book.handed_out - 1; out = without book.handed_out book.out }
    else book
