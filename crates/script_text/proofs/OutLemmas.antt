-- The tickets of requests that wait: each was handed out and not used up, and they rise.
use Rattle.std.proofs.Common.{◌≡◌, ◌≢◌, ℕ, zero, suc, ◌+◌, ◌<◌, ◌≤◌, ◌==◌, Bool, true, false, List, [], ◌∷◌, ◌++◌, All, map, length, Option, Some, None, refl, sym, subst, ◌∙◌, ap, arith, if◌then◌else◌}
use Rattle.std.specs.Prelude.{⊤, slice_get, slice_set}
use Rattle.std.proofs.lemmas.List.{length-map}
use Rattle.std.proofs.lemmas.List.Elements.{All-nil, All-cons, All-head, All-tail, All-append, All-map, All-weaker}
use Rattle.session_attrs.specs.declared.request.Request.{Request}
use Rattle.session_core.specs.declared.replies.Arrived.{Arrived}
use Rattle.session_core.specs.declared.replies.Arrived.TheVariants as arrivals
use Rattle.session_core.specs.declared.replies.Collected.{Collected}
use Rattle.session_core.specs.declared.replies.Collected.TheVariants as collections
use Rattle.session_core.specs.Gap.{strike_ticket, struck_state}
use Rattle.session_core.specs.Journal.{Call, Arrive, Back, BackClosed, Collect, Tick, TakeInward, Journal, IsJournal, IsAllowed, ToArrive, ToCollect, collected_entry, state_of}
use Rattle.session_core.specs.Machine.{arrive, bytes_for, collect, collected_by, collected_bytes, collected_from, replace, replaced}
use Rattle.session_core.specs.Placed.{struck_tickets}
use Rattle.session_core.specs.State.{PlainSession, Issued, TicketState, Waits, Replaced, Struck, UsedUp, is_over}
use Rattle.session_core.specs.TicketsOut.{issued_at}
use Rattle.session_laws.specs.Tickets.{after_arrival, tickets_after}
use Rattle.session_laws.proofs.LawsOf.{every_parked}
use Rattle.session_laws.proofs.Lists.{get_append, get_last}
use Rattle.session_laws.proofs.Tests.{some_is, split}
use Rattle.session_laws.proofs.TicketSteps.{every_after}
use Rattle.session_calls.specs.After.{after_call, with_entered}
use Rattle.script_text.specs.declared.live.Parked.{Parked}
use Rattle.script_text.specs.Fates.{is_replaced, lost_place}
use Rattle.script_text.specs.Live.{all_collected, fate, is_not_yet, still_parked}
use Rattle.script_text.proofs.JournalSteps.{Comes, after_is, called_state}
use Rattle.script_text.proofs.SessionsLemmas.{all_both}
use Rattle.script_text.proofs.TicketIds.{called_reply, length_struck}

-- the ticket with this number was handed out, and not used up
abbrev pub is_used : TicketState → Bool
is_used Waits = false
is_used Replaced = false
is_used Struck = false
is_used UsedUp = true

abbrev IsOutIn : List Issued → ℕ → Type 0
IsOutIn tickets number = (t : Issued) × (issued_at tickets number ≡ Some t) × (is_used t.state ≡ false)

abbrev pub IsOut : PlainSession → Parked → Type 0
IsOut s parked = IsOutIn s.tickets parked.ticket

-- the tickets rise, from this number on
abbrev pub Rise : ℕ → List Parked → Type 0
Rise low [] = ⊤
Rise low (parked ∷ others) = (low < parked.ticket) × Rise parked.ticket others

pub rise_lower : (low high : ℕ) (parked : List Parked) → low ≤ high → Rise high parked → Rise low parked
rise_lower low high [] under rises = tt
rise_lower low high (first ∷ parked) under rises =
    let more : high < first.ticket = rises.0 in
    (omega (arith, under, more), rises.1)

-- each is above the first
rise_above : (low : ℕ) (parked : List Parked) → Rise low parked → All (λ p. low < p.ticket) parked
rise_above low [] rises = All-nil (λ (p : Parked). low < p.ticket)
rise_above low (first ∷ parked) rises =
    let more : low < first.ticket = rises.0 in
    All-cons (λ (p : Parked). low < p.ticket) first parked more (rise_above low parked (rise_lower low first.ticket parked (omega (arith, more)) rises.1))

pub rise_push : (low : ℕ) (parked : List Parked) (new : Parked) → Rise low parked → low < new.ticket → All (λ p. p.ticket < new.ticket) parked → Rise low (parked ++ new ∷ [])
rise_push low [] new rises above all = (above, tt)
rise_push low (first ∷ parked) new rises above all =
    (rises.0, rise_push first.ticket parked new rises.1 (All-head (λ (p : Parked). p.ticket < new.ticket) first parked all) (All-tail (λ (p : Parked). p.ticket < new.ticket) first parked all))

-- Tickets through calls from outside.

out_each : (f : Issued → Issued) → ((u : Issued) → is_used u.state ≡ false → is_used (f u).state ≡ false) → (tickets : List Issued) (number : ℕ) → IsOutIn tickets number → IsOutIn (map f tickets) number
out_each f keeps tickets zero (t, at, out) = absurd (cc)
out_each f keeps [] (suc index) (t, at, out) = absurd (cc)
out_each f keeps (u ∷ tickets) (suc zero) (t, at, out) =
    let same : u ≡ t = some_is u t at in
    (f u, refl, keeps u (subst (λ (x : Issued). is_used x.state ≡ false) (sym same) out))
out_each f keeps (u ∷ tickets) (suc (suc index)) (t, at, out) = out_each f keeps tickets (suc index) (t, at, out)

struck_out : (rid : ℕ) (u : Issued) → is_used u.state ≡ false → is_used (strike_ticket rid u).state ≡ false
struck_out rid u out = split (λ (x : Issued). is_used x.state ≡ false) (u.rid == rid) _ u (λ here. by u.state out) (λ other. out)
  where
    by : (state : TicketState) → is_used state ≡ false → is_used (struck_state state) ≡ false
    by Waits out = refl
    by Replaced out = refl
    by Struck out = refl
    by UsedUp out = absurd (cc)

replaced_out : (rid : ℕ) (u : Issued) → is_used u.state ≡ false → is_used (replace rid u).state ≡ false
replaced_out rid u out = split (λ (x : Issued). is_used x.state ≡ false) (u.rid == rid) _ u (λ here. by u.state out) (λ other. out)
  where
    by : (state : TicketState) → is_used state ≡ false → is_used (replaced state) ≡ false
    by Waits out = refl
    by Replaced out = refl
    by Struck out = refl
    by UsedUp out = absurd (cc)

all_struck_out : (rids : List ℕ) (tickets : List Issued) (number : ℕ) → IsOutIn tickets number → IsOutIn (struck_tickets rids tickets) number
all_struck_out [] tickets number out = out
all_struck_out (rid ∷ rids) tickets number out = all_struck_out rids (map (strike_ticket rid) tickets) number (out_each (strike_ticket rid) (struck_out rid) tickets number out)

more_out : (tickets more : List Issued) (number : ℕ) → IsOutIn tickets number → IsOutIn (tickets ++ more) number
more_out tickets more zero (t, at, out) = absurd (cc)
more_out tickets more (suc index) (t, at, out) = (t, get_append tickets more index t at, out)

arrival_out : (tickets : List Issued) (rid number : ℕ) (reply : Arrived) → IsOutIn tickets number → IsOutIn (after_arrival tickets rid reply) number
arrival_out tickets rid number (arrivals.Parked next) out = more_out (map (replace rid) tickets) _ number (out_each (replace rid) (replaced_out rid) tickets number out)
arrival_out tickets rid number (arrivals.Answer bytes) out = out
arrival_out tickets rid number arrivals.Over out = out

call_out : (s : PlainSession) (struck : List ℕ) (call : Call) → Comes call → (number : ℕ) → IsOutIn s.tickets number → IsOutIn (tickets_after s struck call) number
call_out s struck (Arrive request body now) comes number out = arrival_out (struck_tickets struck s.tickets) request.rid number (arrive s request body now).1 (all_struck_out struck s.tickets number out)
call_out s struck (Collect ticket) comes number out = absurd comes
call_out s struck (Back stream stanza now) comes number out = all_struck_out struck s.tickets number out
call_out s struck (BackClosed stream closing now) comes number out = all_struck_out struck s.tickets number out
call_out s struck (Tick now) comes number out = all_struck_out struck s.tickets number out
call_out s struck TakeInward comes number out = absurd comes

module _ (journal : Journal) (made : IsJournal journal) (call : Call) (allowed : IsAllowed call) (comes : Comes call) where
  abbrev struck_then : List ℕ
  struck_then = (every_after journal made call allowed).0

  tickets_then : (state_of (after_call journal call)).tickets ≡ tickets_after (state_of journal) struck_then call
  tickets_then = ap (λ (s : PlainSession). s.tickets) (after_is journal call) ∙ (every_after journal made call allowed).1

  -- what was out is out after it
  pub still_out : (parked : Parked) → IsOut (state_of journal) parked → IsOut (state_of (after_call journal call)) parked
  still_out parked out = subst (λ l. IsOutIn l parked.ticket) (sym tickets_then) (call_out (state_of journal) struck_then call comes parked.ticket out)

-- those that are out are no more than were handed out
out_within : (tickets : List Issued) (number : ℕ) → IsOutIn tickets number → number < length tickets + 1
out_within tickets zero out = absurd (cc)
out_within [] (suc index) out = absurd (cc)
out_within (u ∷ tickets) (suc zero) out = omega arith
out_within (u ∷ tickets) (suc (suc index)) out =
    let less = out_within tickets (suc index) out in
    omega (arith, less)

-- A request that waits has the next ticket.

module _ (journal : Journal) (made : IsJournal journal) (request : Request) (body : List ℕ) (now : ℕ) (allowed : IsAllowed (Arrive request body now)) (on : is_over (state_of journal) ≡ false)
    (new : Parked) (is : (arrive (state_of journal) request body now).1 ≡ arrivals.Parked new.ticket) where
  abbrev then_state : PlainSession
  then_state = state_of (after_call journal (Arrive request body now))

  abbrev before_it : List Issued
  before_it = map (replace request.rid) (struck_tickets (struck_then journal made (Arrive request body now) allowed tt) (state_of journal).tickets)

  next_number : new.ticket ≡ suc (length (state_of journal).tickets)
  next_number =
      let told = (every_parked journal made request body now new.ticket allowed on).0 (called_reply (arrive (state_of journal) request body now) ∙ ap ToArrive is) in
      omega (arith, told.0)

  tickets_with : then_state.tickets ≡ before_it ++ record { rid = request.rid; state = Waits } ∷ []
  tickets_with = tickets_then journal made (Arrive request body now) allowed tt
      ∙ ap (after_arrival (struck_tickets (struck_then journal made (Arrive request body now) allowed tt) (state_of journal).tickets) request.rid) is

  new_place : suc (length before_it) ≡ new.ticket
  new_place =
      let same : length before_it ≡ length (state_of journal).tickets
      = length-map (struck_tickets (struck_then journal made (Arrive request body now) allowed tt) (state_of journal).tickets) (replace request.rid)
      ∙ length_struck (struck_then journal made (Arrive request body now) allowed tt) (state_of journal).tickets in
      ap suc same ∙ sym next_number

  new_at : issued_at then_state.tickets new.ticket ≡ Some (record { rid = request.rid; state = Waits })
  new_at =
      ap (λ l. issued_at l new.ticket) tickets_with
      ∙ subst (λ n. issued_at (before_it ++ record { rid = request.rid; state = Waits } ∷ []) n ≡ Some (record { rid = request.rid; state = Waits })) new_place
      (get_last before_it (record { rid = request.rid; state = Waits }))

  pub new_out : IsOut then_state new
  new_out = (record { rid = request.rid; state = Waits }, new_at, refl)

  -- nobody took its place yet
  pub new_keeps : lost_place then_state new ≡ false
  new_keeps = ap (λ (o : Option Issued). elim o [ None ↦ false | Some ticket ↦ is_replaced ticket.state ]) new_at

  pub new_above : (parked : Parked) → IsOut (state_of journal) parked → parked.ticket < new.ticket
  new_above parked out =
      let less = out_within (state_of journal).tickets parked.ticket out in
      omega (arith, less, next_number)

  pub new_first : 0 < new.ticket
  new_first = omega (arith, next_number)

-- Collecting.

set_other : (tickets : List Issued) (index k : ℕ) (x : Issued) → (k ≡ index → ⊥) → slice_get (slice_set tickets index x) k ≡ slice_get tickets k
set_other [] index k x other = refl
set_other (u ∷ tickets) zero zero x other = absurd (other refl)
set_other (u ∷ tickets) zero (suc k) x other = refl
set_other (u ∷ tickets) (suc index) zero x other = refl
set_other (u ∷ tickets) (suc index) (suc k) x other = set_other tickets index k x (λ same. other (ap suc same))

-- collecting a ticket leaves the others as they are
collect_leaves : (s : PlainSession) (index k : ℕ) → (k ≡ index → ⊥) → slice_get (collect s (suc index)).0.tickets k ≡ slice_get s.tickets k
collect_leaves s index k other = by_ticket (slice_get s.tickets index)
  where
    by_bytes : (ticket : Issued) (o : Option (List ℕ)) → slice_get (collected_bytes s index ticket o).0.tickets k ≡ slice_get s.tickets k
    by_bytes ticket None = refl
    by_bytes ticket (Some bytes) = set_other s.tickets index k _ other

    by_state : (ticket : Issued) (state : TicketState) → slice_get (collected_by s index ticket state).0.tickets k ≡ slice_get s.tickets k
    by_state ticket Waits = by_bytes ticket (bytes_for s ticket.rid)
    by_state ticket Replaced = set_other s.tickets index k _ other
    by_state ticket Struck = set_other s.tickets index k _ other
    by_state ticket UsedUp = refl

    by_ticket : (o : Option Issued) → slice_get (collected_from s index o).0.tickets k ≡ slice_get s.tickets k
    by_ticket None = refl
    by_ticket (Some ticket) = by_state ticket ticket.state

pub others_left : (s : PlainSession) (first number : ℕ) → (number ≡ first → ⊥) → issued_at (collect s first).0.tickets number ≡ issued_at s.tickets number
others_left s zero number other = refl
others_left s (suc index) zero other = refl
others_left s (suc index) (suc k) other = collect_leaves s index k (λ same. other (ap suc same))

module _ (journal : Journal) (first : Parked) where
  abbrev pub next : Journal
  next = after_call journal (Collect first.ticket)

  pub state_next : state_of next ≡ (collect (state_of journal) first.ticket).0
  state_next = after_is journal (Collect first.ticket) ∙ called_state ToCollect (collect (state_of journal) first.ticket)

  issued_next : (parked : Parked) → (parked.ticket ≡ first.ticket → ⊥) → issued_at (state_of next).tickets parked.ticket ≡ issued_at (state_of journal).tickets parked.ticket
  issued_next parked other = ap (λ (s : PlainSession). issued_at s.tickets parked.ticket) state_next ∙ others_left (state_of journal) first.ticket parked.ticket other

  above : (parked : Parked) → first.ticket < parked.ticket → parked.ticket ≡ first.ticket → ⊥
  above parked less same = absurd (omega (arith, less, same))

  pub out_other : (parked : Parked) → (parked.ticket ≡ first.ticket → ⊥) → IsOut (state_of journal) parked → IsOut (state_of next) parked
  out_other parked other (t, at, out) = (t, issued_next parked other ∙ at, out)

  out_next : (parked : Parked) → first.ticket < parked.ticket → IsOut (state_of journal) parked → IsOut (state_of next) parked
  out_next parked less out = out_other parked (above parked less) out

  pub place_next : (parked : Parked) → first.ticket < parked.ticket → lost_place (state_of next) parked ≡ lost_place (state_of journal) parked
  place_next parked less = ap (λ (o : Option Issued). elim o [ None ↦ false | Some ticket ↦ is_replaced ticket.state ]) (issued_next parked (above parked less))

  -- of those that rise above it
  pub all_out_next : (parked : List Parked) → Rise first.ticket parked → All (IsOut (state_of journal)) parked → All (IsOut (state_of next)) parked
  all_out_next parked rises out = all_both (λ (p : Parked). first.ticket < p.ticket) (IsOut (state_of journal)) (IsOut (state_of next)) out_next parked (rise_above first.ticket parked rises) out

  pub all_places_next : (parked : List Parked) → Rise first.ticket parked → All (λ p. lost_place (state_of next) p ≡ lost_place (state_of journal) p) parked
  all_places_next parked rises = All-weaker (λ (p : Parked). first.ticket < p.ticket) (λ p. lost_place (state_of next) p ≡ lost_place (state_of journal) p) place_next parked (rise_above first.ticket parked rises)

-- a request that none of these is
out_past : (parked : List Parked) (low : ℕ) (journal : Journal) → Rise low parked → (p : Parked) → p.ticket ≤ low → IsOut (state_of journal) p → IsOut (state_of (all_collected journal parked)) p
out_past [] low journal rises p under out = out
out_past (first ∷ parked) low journal rises p under out =
    let less : low < first.ticket = rises.0 in
    out_past parked first.ticket (next journal first) rises.1 p (omega (arith, under, less)) (out_other journal first p (λ same. absurd (omega (arith, under, less, same))) out)

-- where there is nothing yet for a ticket the journal stays
not_yet_is : (reply : Collected) → is_not_yet reply ≡ true → reply ≡ collections.NotYet
not_yet_is (collections.Answer body) is = absurd (cc)
not_yet_is collections.NotYet is = refl
not_yet_is collections.Superseded is = absurd (cc)
not_yet_is collections.UnknownTicket is = absurd (cc)

journal_stays : (journal : Journal) (first : Parked) → is_not_yet (fate journal first) ≡ true → next journal first ≡ journal
journal_stays journal first is =
    ap (λ reply. with_entered journal (collected_entry (state_of journal) (Collect first.ticket) reply)) (not_yet_is (fate journal first) is)

-- what waits on is out, and rises
pub still_all_out : (parked : List Parked) (low : ℕ) (journal : Journal) → Rise low parked → All (IsOut (state_of journal)) parked
    → All (IsOut (state_of (all_collected journal parked))) (still_parked journal parked)
still_all_out [] low journal rises out = All-nil (IsOut (state_of journal))
still_all_out (first ∷ parked) low journal rises out =
    by (is_not_yet (fate journal first)) refl (still_all_out parked first.ticket (next journal first) rises.1 (all_out_next journal first parked rises.1 (All-tail (IsOut (state_of journal)) first parked out)))
  where
    end : Journal
    end = all_collected (next journal first) parked

    by : (b : Bool) → is_not_yet (fate journal first) ≡ b → All (IsOut (state_of end)) (still_parked (next journal first) parked)
        → All (IsOut (state_of end)) ((if b then first ∷ [] else []) ++ still_parked (next journal first) parked)
    by true is rest =
        let here = All-head (IsOut (state_of journal)) first parked out in
        All-cons (IsOut (state_of end)) first (still_parked (next journal first) parked)
        (out_past parked first.ticket (next journal first) rises.1 first (omega arith) (subst (λ j. IsOut (state_of j) first) (sym (journal_stays journal first is)) here)) rest
    by false is rest = rest

pub still_rises : (parked : List Parked) (low : ℕ) (journal : Journal) → Rise low parked → Rise low (still_parked journal parked)
still_rises [] low journal rises = tt
still_rises (first ∷ parked) low journal rises = by (is_not_yet (fate journal first)) (still_rises parked first.ticket (next journal first) rises.1)
  where
    by : (b : Bool) → Rise first.ticket (still_parked (next journal first) parked) → Rise low ((if b then first ∷ [] else []) ++ still_parked (next journal first) parked)
    by true rest = (rises.0, rest)
    by false rest =
        let less : low < first.ticket = rises.0 in
        rise_lower low first.ticket (still_parked (next journal first) parked) (omega (arith, less)) rest

-- A session's requests that wait.

pub record WaitWell (journal : Journal) (parked : List Parked) : Type 0 where
  pub rise : Rise 0 parked
  pub out : All (IsOut (state_of journal)) parked
