-- A session that hands something out stands for the plain one that did.
use Rattle.std.proofs.Common.{◌≡◌, ℕ, zero, suc, List, [], ◌∷◌, length, drop, Option, Some, None, refl, sym, ◌∙◌, ap, subst, arith, ne_eqb}
use Rattle.std.specs.Prelude.{◌==◌, is_some, not, slice_get}
use Rattle.std.proofs.lemmas.Option.{slice_get_within}
use Rattle.bosh_types.specs.declared.inward.Inward.{Inward}
use Rattle.session_core.specs.declared.outward.Outward.{Outward}
use Rattle.session_core.specs.declared.replies.Waiting.{Waiting}
use Rattle.session_core.specs.declared.session.Session.{Session}
use Rattle.session_core.specs.Machine.{collect, collected_by, collected_bytes, collected_from, bytes_for, passed_on, take_inward}
use Rattle.session_core.specs.Outward.{size_of_all}
use Rattle.session_core.specs.StandsFor.{Holds}
use Rattle.session_core.specs.State.{PlainSession, Issued, TicketState, Waits, Replaced, Struck, UsedUp, inward, waiting_counts}
use Rattle.session_core.specs.Tickets.{Book, collected, ticket_at, told_of}
use Rattle.session_core.specs.TicketsOut.{AreOut}
use Rattle.session_core.proofs.AnsweredLemmas.{drop_drop}
use Rattle.session_core.proofs.AreOut.{collected_out}

-- The tickets alone change where one is collected.

abbrev HasTickets : PlainSession → PlainSession → Type 0
HasTickets plain after = after ≡ record plain { tickets = after.tickets }

by_bytes : (plain : PlainSession) (index : ℕ) (ticket : Issued) (o : Option (List ℕ)) → HasTickets plain (collected_bytes plain index ticket o).0
by_bytes plain index ticket None = refl
by_bytes plain index ticket (Some bytes) = refl

by_state : (plain : PlainSession) (index : ℕ) (ticket : Issued) (state : TicketState) → HasTickets plain (collected_by plain index ticket state).0
by_state plain index ticket Waits = by_bytes plain index ticket (bytes_for plain ticket.rid)
by_state plain index ticket Replaced = refl
by_state plain index ticket Struck = refl
by_state plain index ticket UsedUp = refl

by_ticket : (plain : PlainSession) (index : ℕ) (o : Option Issued) → HasTickets plain (collected_from plain index o).0
by_ticket plain index None = refl
by_ticket plain index (Some ticket) = by_state plain index ticket ticket.state

by_number : (plain : PlainSession) (number : ℕ) → HasTickets plain (collect plain number).0
by_number plain zero = refl
by_number plain (suc index) = by_ticket plain index (slice_get plain.tickets index)

with_tickets : {s : Session} {plain : PlainSession} (book : Book) (tickets : List Issued) → Holds s plain → AreOut book tickets (bytes_for plain)
    → Holds (record s { tickets = book }) (record plain { tickets = tickets })
with_tickets book tickets h out = record {
  alike = h.alike;
  run = h.run;
  latest = h.latest;
  kept = h.kept;
  inward = h.inward;
  items = h.items;
  streams = h.streams;
  tickets = out;
  window = h.window;
}

pub collected_holds : {s : Session} {plain : PlainSession} {book : Book} (number : ℕ) → Holds s plain → book ≡ collected s.tickets number
    → Holds (record s { tickets = book }) (collect plain number).0
collected_holds {s = s} {plain = plain} {book = book} number h is =
    let only : HasTickets plain (collect plain number).0 = by_number plain number in
    let out : AreOut (collected s.tickets number) (collect plain number).0.tickets (bytes_for (collect plain number).0) =
    (collected_out plain s.tickets number h.tickets).1 in
    let same : AreOut (collected s.tickets number) (collect plain number).0.tickets (bytes_for plain) =
    subst (λ (p : PlainSession). AreOut (collected s.tickets number) (collect plain number).0.tickets (bytes_for p)) only out in
    rw is
    (subst (λ (p : PlainSession). Holds (record s { tickets = collected s.tickets number }) p) (sym only)
    (with_tickets (collected s.tickets number) (collect plain number).0.tickets h same))

pub collected_reply : {s : Session} {plain : PlainSession} (number : ℕ) → Holds s plain → told_of (ticket_at s.tickets.out number) ≡ (collect plain number).1
collected_reply {s = s} {plain = plain} number h = (collected_out plain s.tickets number h.tickets).0

-- The first item of those that weren't passed on.

module _ {X : Type 0} where
  get_drop : (n : ℕ) (xs : List X) → slice_get (drop n xs) 0 ≡ slice_get xs n
  get_drop zero xs = refl
  get_drop (suc n) [] = refl
  get_drop (suc n) (x ∷ xs) = get_drop n xs

  get_none : (n : ℕ) (xs : List X) → slice_get xs n ≡ None → drop n xs ≡ []
  get_none zero [] is = refl
  get_none zero (x ∷ xs) is = absurd (cc)
  get_none (suc n) [] is = refl
  get_none (suc n) (x ∷ xs) is = get_none n xs is

  get_first : (xs : List X) → not (length xs == 0) ≡ is_some (slice_get xs 0)
  get_first [] = refl
  get_first (x ∷ xs) = ap not (ne_eqb (suc (length xs)) 0 (λ e. absurd (omega (arith, e))))

pub first_inward : {s : Session} {plain : PlainSession} → Holds s plain → slice_get s.inward 0 ≡ slice_get (inward plain) plain.passed
first_inward {plain = plain} h = ap (λ (items : List Inward). slice_get items 0) h.inward.queue_is ∙ get_drop plain.passed (inward plain)

pub passed_is : (plain : PlainSession) (o : Option Inward) → o ≡ (passed_on plain o).1
passed_is plain None = refl
passed_is plain (Some item) = refl

pub some_inward : {s : Session} {plain : PlainSession} → Holds s plain → not (length s.inward == 0) ≡ is_some (take_inward plain).1
some_inward {s = s} {plain = plain} h = get_first s.inward ∙ ap is_some (first_inward h ∙ passed_is plain (slice_get (inward plain) plain.passed))

-- the inward items alone change where one is taken
taken_holds : {s : Session} {plain : PlainSession} (o : Option Inward) → Holds s plain → slice_get (inward plain) plain.passed ≡ o
    → Holds (record s { inward = drop 1 s.inward }) (passed_on plain o).0
taken_holds {plain = plain} None h is = record {
  alike = h.alike;
  run = h.run;
  latest = h.latest;
  kept = h.kept;
  inward =
      let none : drop plain.passed (inward plain) ≡ [] = get_none plain.passed (inward plain) is in
      record { queue_is = ap (drop 1) (h.inward.queue_is ∙ none) ∙ sym none; within = h.inward.within };
  items = h.items;
  streams = h.streams;
  tickets = h.tickets;
  window = h.window;
}
taken_holds {plain = plain} (Some item) h is = record {
  alike = h.alike;
  run = h.run;
  latest = h.latest;
  kept = h.kept;
  inward = record {
    queue_is = ap (drop 1) h.inward.queue_is ∙ drop_drop plain.passed 1 (inward plain);
    within = omega (arith, slice_get_within (inward plain) plain.passed item is);
  };
  items = h.items;
  streams = h.streams;
  tickets = h.tickets;
  window = h.window;
}

pub inward_taken : {s : Session} {plain : PlainSession} {queue : List Inward} → Holds s plain → queue ≡ drop 1 s.inward
    → Holds (record s { inward = queue }) (take_inward plain).0
inward_taken {plain = plain} h is = rw is (taken_holds (slice_get (inward plain) plain.passed) h refl)

-- What is told.

pub counts_are : {s : Session} {plain : PlainSession} → Holds s plain → record { items = length s.outbox.items; bytes = size_of_all s.outbox.items } ≡ waiting_counts plain
counts_are h = ap {B = Waiting} (λ (items : List Outward). record { items = length items; bytes = size_of_all items }) h.items.outbox_is
