-- The ids that tickets are for stay.
use Rattle.std.proofs.Common.{◌≡◌, ℕ, zero, suc, ◌+◌, ◌==◌, false, List, [], ◌∷◌, ◌++◌, map, length, Option, Some, None, refl, sym, subst, ◌∙◌, ap, arith}
use Rattle.std.specs.Prelude.{slice_get}
use Rattle.std.specs.Option.{option_map}
use Rattle.std.proofs.lemmas.List.{append-nil, map-append, length-map}
use Rattle.std.proofs.lemmas.Option.{slice_get-map}
use Rattle.session_attrs.specs.declared.request.Request.{Request}
use Rattle.session_core.specs.declared.replies.Arrived.{Arrived}
use Rattle.session_core.specs.declared.replies.Arrived.TheVariants as arrivals
use Rattle.session_core.specs.declared.replies.Collected.{Collected}
use Rattle.session_core.specs.declared.replies.Collected.TheVariants as collections
use Rattle.session_core.specs.Gap.{strike_ticket}
use Rattle.session_core.specs.Journal.{Call, Arrive, Back, BackClosed, Collect, Tick, TakeInward, Journal, IsJournal, IsAllowed, ToArrive, called, state_of}
use Rattle.session_core.specs.Machine.{arrive, collect, replace}
use Rattle.session_core.specs.Placed.{struck_tickets}
use Rattle.session_core.specs.State.{PlainSession, Issued, Waits, is_over}
use Rattle.session_core.specs.TicketsOut.{issued_at}
use Rattle.session_laws.specs.Tickets.{spent, spent_at, after_arrival, after_collect, tickets_after}
use Rattle.session_laws.proofs.LawsOf.{every_parked}
use Rattle.session_laws.proofs.Tests.{split, some_is}
use Rattle.session_laws.proofs.TicketSteps.{every_after}
use Rattle.session_calls.specs.After.{after_call}
use Rattle.script_text.proofs.JournalSteps.{after_is}

-- the ids of these tickets, in their order
abbrev pub ids : List Issued → List ℕ
ids tickets = map (λ (t : Issued). t.rid) tickets

-- the id that the ticket with this number is for
abbrev pub id_at : List Issued → ℕ → Option ℕ
id_at tickets zero = None
id_at tickets (suc index) = slice_get (ids tickets) index

abbrev pub KeepsIds : List Issued → List Issued → Type 0
KeepsIds tickets later = (number rid : ℕ) → id_at tickets number ≡ Some rid → id_at later number ≡ Some rid

replaced_id : (rid : ℕ) (t : Issued) → (replace rid t).rid ≡ t.rid
replaced_id rid t = split (λ (x : Issued). x.rid ≡ t.rid) (t.rid == rid) _ t (λ here. refl) (λ other. refl)

replaced_ids : (rid : ℕ) (tickets : List Issued) → ids (map (replace rid) tickets) ≡ ids tickets
replaced_ids rid [] = refl
replaced_ids rid (t ∷ tickets) = ap (λ r. r ∷ ids (map (replace rid) tickets)) (replaced_id rid t) ∙ ap (λ l. t.rid ∷ l) (replaced_ids rid tickets)

get_front : (xs ys : List ℕ) (k x : ℕ) → slice_get xs k ≡ Some x → slice_get (xs ++ ys) k ≡ Some x
get_front [] ys k x is = absurd (cc)
get_front (y ∷ xs) ys zero x is = is
get_front (y ∷ xs) ys (suc k) x is = get_front xs ys k x is

get_last : (xs : List ℕ) (x : ℕ) → slice_get (xs ++ x ∷ []) (length xs) ≡ Some x
get_last [] x = refl
get_last (y ∷ xs) x = get_last xs x

keeps_more : (tickets later : List Issued) (more : List ℕ) → ids later ≡ ids tickets ++ more → KeepsIds tickets later
keeps_more tickets later more are zero rid is = absurd (cc)
keeps_more tickets later more are (suc k) rid is = ap (λ l. slice_get l k) are ∙ get_front (ids tickets) more k rid is

keeps_same : (tickets later : List Issued) → ids later ≡ ids tickets → KeepsIds tickets later
keeps_same tickets later same = keeps_more tickets later [] (same ∙ sym (append-nil (ids tickets)))

spent_ids : (tickets : List Issued) (index : ℕ) (o : Option Issued) → slice_get tickets index ≡ o → ids (spent tickets index o) ≡ ids tickets
spent_ids tickets index None is = refl
spent_ids [] index (Some t) is = absurd (cc)
spent_ids (first ∷ tickets) zero (Some t) is = ap (λ (x : Issued). x.rid ∷ ids tickets) (sym (some_is first t is))
spent_ids (first ∷ tickets) (suc index) (Some t) is = ap (λ l. first.rid ∷ l) (spent_ids tickets index (Some t) is)

spent_at_ids : (tickets : List Issued) (number : ℕ) → ids (spent_at tickets number) ≡ ids tickets
spent_at_ids tickets zero = refl
spent_at_ids tickets (suc index) = spent_ids tickets index (slice_get tickets index) refl

-- an arrival that waits adds its id
parked_ids : (tickets : List Issued) (rid number : ℕ) → ids (after_arrival tickets rid (arrivals.Parked number)) ≡ ids tickets ++ rid ∷ []
parked_ids tickets rid number =
    map-append (λ (t : Issued). t.rid) (map (replace rid) tickets) (record { rid = rid; state = Waits } ∷ [])
    ∙ ap (λ l. l ++ rid ∷ []) (replaced_ids rid tickets)

arrival_keeps : (tickets : List Issued) (rid : ℕ) (reply : Arrived) → KeepsIds tickets (after_arrival tickets rid reply)
arrival_keeps tickets rid (arrivals.Parked number) = keeps_more tickets _ (rid ∷ []) (parked_ids tickets rid number)
arrival_keeps tickets rid (arrivals.Answer bytes) = keeps_same tickets tickets refl
arrival_keeps tickets rid arrivals.Over = keeps_same tickets tickets refl

collect_keeps : (tickets : List Issued) (number : ℕ) (reply : Collected) → KeepsIds tickets (after_collect tickets number reply)
collect_keeps tickets number (collections.Answer bytes) = keeps_same tickets _ (spent_at_ids tickets number)
collect_keeps tickets number collections.NotYet = keeps_same tickets tickets refl
collect_keeps tickets number collections.Superseded = keeps_same tickets _ (spent_at_ids tickets number)
collect_keeps tickets number collections.UnknownTicket = keeps_same tickets tickets refl

-- an id that is struck is the id of its tickets as before
struck_id : (rid : ℕ) (t : Issued) → (strike_ticket rid t).rid ≡ t.rid
struck_id rid t = split (λ (x : Issued). x.rid ≡ t.rid) (t.rid == rid) _ t (λ here. refl) (λ other. refl)

strike_ids : (rid : ℕ) (tickets : List Issued) → ids (map (strike_ticket rid) tickets) ≡ ids tickets
strike_ids rid [] = refl
strike_ids rid (t ∷ tickets) = ap (λ r. r ∷ ids (map (strike_ticket rid) tickets)) (struck_id rid t) ∙ ap (λ l. t.rid ∷ l) (strike_ids rid tickets)

struck_ids : (struck : List ℕ) (tickets : List Issued) → ids (struck_tickets struck tickets) ≡ ids tickets
struck_ids [] tickets = refl
struck_ids (rid ∷ struck) tickets = struck_ids struck (map (strike_ticket rid) tickets) ∙ strike_ids rid tickets

pub length_struck : (struck : List ℕ) (tickets : List Issued) → length (struck_tickets struck tickets) ≡ length tickets
length_struck [] tickets = refl
length_struck (rid ∷ struck) tickets = length_struck struck (map (strike_ticket rid) tickets) ∙ length-map tickets (strike_ticket rid)

struck_keeps : (struck : List ℕ) (tickets : List Issued) → KeepsIds tickets (struck_tickets struck tickets)
struck_keeps struck tickets = keeps_same tickets (struck_tickets struck tickets) (struck_ids struck tickets)

call_keeps : (s : PlainSession) (struck : List ℕ) (call : Call) → KeepsIds s.tickets (tickets_after s struck call)
call_keeps s struck (Arrive request body now) = λ number rid is.
    arrival_keeps (struck_tickets struck s.tickets) request.rid (arrive s request body now).1 number rid (struck_keeps struck s.tickets number rid is)
call_keeps s struck (Collect number) = collect_keeps s.tickets number (collect s number).1
call_keeps s struck (Back stream stanza now) = struck_keeps struck s.tickets
call_keeps s struck (BackClosed stream closing now) = struck_keeps struck s.tickets
call_keeps s struck (Tick now) = struck_keeps struck s.tickets
call_keeps s struck TakeInward = keeps_same s.tickets s.tickets refl

module _ (journal : Journal) (made : IsJournal journal) (call : Call) (allowed : IsAllowed call) where
  -- what was struck with the call
  abbrev struck_with : List ℕ
  struck_with = (every_after journal made call allowed).0

  tickets_are : (state_of (after_call journal call)).tickets ≡ tickets_after (state_of journal) struck_with call
  tickets_are = ap (λ (s : PlainSession). s.tickets) (after_is journal call) ∙ (every_after journal made call allowed).1

  -- whatever the call
  pub after_keeps_ids : KeepsIds (state_of journal).tickets (state_of (after_call journal call)).tickets
  after_keeps_ids = subst (KeepsIds (state_of journal).tickets) (sym tickets_are) (call_keeps (state_of journal) struck_with call)

-- a ticket that is told of
pub issued_id : (tickets : List Issued) (number : ℕ) (t : Issued) → issued_at tickets number ≡ Some t → id_at tickets number ≡ Some t.rid
issued_id tickets zero t is = absurd (cc)
issued_id tickets (suc index) t is = slice_get-map (λ (x : Issued). x.rid) tickets index ∙ ap (option_map (λ (x : Issued). x.rid)) is

next_id : (tickets : List Issued) (rid ticket : ℕ) → ticket ≡ length tickets + 1 → id_at (after_arrival tickets rid (arrivals.Parked ticket)) ticket ≡ Some rid
next_id tickets rid ticket is =
    let place : ticket ≡ suc (length (ids tickets)) = is ∙ omega arith ∙ ap suc (sym (length-map tickets (λ (t : Issued). t.rid))) in
    subst (λ n. id_at (after_arrival tickets rid (arrivals.Parked ticket)) n ≡ Some rid) (sym place)
    (ap (λ l. slice_get l (length (ids tickets))) (parked_ids tickets rid ticket) ∙ get_last (ids tickets) rid)

pub called_reply : (p : PlainSession × Arrived) → (called ToArrive p).1 ≡ ToArrive p.1
called_reply (t, r) = refl

module _ (journal : Journal) (made : IsJournal journal) (request : Request) (body : List ℕ) (now : ℕ) (allowed : IsAllowed (Arrive request body now))
    (on : is_over (state_of journal) ≡ false) where
  -- the ticket of a request that waits is for its id
  pub parked_id : (ticket : ℕ) → (arrive (state_of journal) request body now).1 ≡ arrivals.Parked ticket
      → id_at (state_of (after_call journal (Arrive request body now))).tickets ticket ≡ Some request.rid
  parked_id ticket is =
      let told = (every_parked journal made request body now ticket allowed on).0 (called_reply (arrive (state_of journal) request body now) ∙ ap ToArrive is) in
      let struck : List ℕ = struck_with journal made (Arrive request body now) allowed in
      let before : List Issued = struck_tickets struck (state_of journal).tickets in
      ap (λ l. id_at l ticket) (tickets_are journal made (Arrive request body now) allowed ∙ ap (after_arrival before request.rid) is)
      ∙ next_id before request.rid ticket (told.0 ∙ ap (λ n. n + 1) (sym (length_struck struck (state_of journal).tickets)))
