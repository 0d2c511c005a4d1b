-- What a call leaves of a journal and of what goes inward.
use Rattle.std.proofs.Common.{◌≡◌, ℕ, zero, suc, ◌+◌, ◌<◌, ◌≤◌, Bool, true, false, List, [], ◌∷◌, ◌++◌, Option, Some, None, length, refl, sym, subst, ◌∙◌, ap, arith, length-drop, if◌then◌else◌}
use Rattle.std.specs.Prelude.{⊤, sum_by, slice_get}
use Rattle.session_core.specs.Journal.{Call, Arrive, Back, BackClosed, Collect, Tick, TakeInward, Entered, Entry, Journal, Reply, ToCollect, ToTakeInward, IsJournal, IsAllowed, state_of, entered_by, step, called}
use Rattle.session_core.specs.Machine.{collect, collected_from, collected_by, collected_bytes, bytes_for, passed_on, take_inward, is_full, body_cost, stanza_cost, plain_cost}
use Rattle.session_core.specs.Passed.{passes}
use Rattle.session_core.specs.State.{PlainSession, Issued, TicketState, Waits, Replaced, Struck, UsedUp, inward, is_over}
use Rattle.session_core.specs.Time.{is_due}
use Rattle.session_laws.specs.Growing.{Begins}
use Rattle.session_laws.proofs.Calls.{as_entered, unentered}
use Rattle.session_laws.proofs.Counts.{every_counts, sum_by_push}
use Rattle.session_laws.proofs.Grows.{every_grows, begins_same}
use Rattle.session_laws.proofs.Lists.{get_some}
use Rattle.session_laws.proofs.OneMore.{one_more, state_one_more}
use Rattle.script_text.specs.declared.live.Parked.{Parked}
use Rattle.session_calls.specs.After.{after_call, all_taken, untaken, with_entered, with_taken}
use Rattle.script_text.specs.Live.{all_collected}

abbrev by_one : Entered → Entry
by_one entered = record { caller = 0; entered = entered }

module _ (journal : Journal) (call : Call) where
  after_by : (o : Option Entered) → entered_by (state_of journal) call ≡ o → state_of (with_entered journal o) ≡ (step (state_of journal) call).0
  after_by None is = sym (unentered (state_of journal) call is)
  after_by (Some e) is = state_one_more journal (by_one e) ∙ sym (as_entered (state_of journal) call e is)

  -- the state after a call is that of the machine
  pub after_is : state_of (after_call journal call) ≡ (step (state_of journal) call).0
  after_is = after_by (entered_by (state_of journal) call) refl

  made_by : IsJournal journal → IsAllowed call → (o : Option Entered) → entered_by (state_of journal) call ≡ o → IsJournal (with_entered journal o)
  made_by made allowed None is = made
  made_by made allowed (Some e) is = one_more journal call (by_one e) made allowed is

  pub after_made : IsJournal journal → IsAllowed call → IsJournal (after_call journal call)
  after_made made allowed = made_by made allowed (entered_by (state_of journal) call) refl

  grows_by : (o : Option Entered) → IsJournal (with_entered journal o) → Begins (inward (state_of journal)) (inward (state_of (with_entered journal o)))
  grows_by None made = begins_same (inward (state_of journal))
  grows_by (Some e) made = (every_grows journal (by_one e ∷ []) made).inward_items

  -- what goes inward later begins with what goes inward now
  pub after_grows : IsJournal journal → IsAllowed call → Begins (inward (state_of journal)) (inward (state_of (after_call journal call)))
  after_grows made allowed = grows_by (entered_by (state_of journal) call) (after_made made allowed)

limited_none : (over full : Bool) (made limit e : Entered) → passes made ≡ 0 → passes limit ≡ 0
    → (if over then None else Some (if full then limit else made)) ≡ Some e → passes e ≡ 0
limited_none true full made limit e m l is = absurd (cc)
limited_none false true made limit e m l is =
    let same : limit ≡ e = cc in
    subst (λ x. passes x ≡ 0) same l
limited_none false false made limit e m l is =
    let same : made ≡ e = cc in
    subst (λ x. passes x ≡ 0) same m

due_none : (due full : Bool) (made limit e : Entered) → passes made ≡ 0 → passes limit ≡ 0
    → (if due then Some (if full then limit else made) else None) ≡ Some e → passes e ≡ 0
due_none false full made limit e m l is = absurd (cc)
due_none true true made limit e m l is =
    let same : limit ≡ e = cc in
    subst (λ x. passes x ≡ 0) same l
due_none true false made limit e m l is =
    let same : made ≡ e = cc in
    subst (λ x. passes x ≡ 0) same m

-- a call that comes from outside
abbrev pub Comes : Call → Type 0
Comes (Arrive request body now) = ⊤
Comes (Collect ticket) = ⊥
Comes (Back stream stanza now) = ⊤
Comes (BackClosed stream closing now) = ⊤
Comes (Tick now) = ⊤
Comes TakeInward = ⊥

takes_none : (s : PlainSession) (call : Call) → Comes call → (e : Entered) → entered_by s call ≡ Some e → passes e ≡ 0
takes_none s (Arrive request body now) it e is = limited_none (is_over s) (is_full s (body_cost request body)) _ _ e refl refl is
takes_none s (Collect ticket) it e is = absurd it
takes_none s (Back stream stanza now) it e is = limited_none (is_over s) (is_full s (stanza_cost stanza)) _ _ e refl refl is
takes_none s (BackClosed stream closing now) it e is = limited_none (is_over s) (is_full s plain_cost) _ _ e refl refl is
takes_none s (Tick now) it e is = due_none (is_due s now) (is_full s plain_cost) _ _ e refl refl is
takes_none s TakeInward it e is = absurd it

module _ (journal : Journal) (call : Call) (made : IsJournal journal) (allowed : IsAllowed call) (it : Comes call) where
  passed_by : (o : Option Entered) → entered_by (state_of journal) call ≡ o → IsJournal (with_entered journal o)
      → (state_of (with_entered journal o)).passed ≡ (state_of journal).passed
  passed_by None is later = refl
  passed_by (Some e) is later =
      let before : (state_of journal).passed ≡ sum_by (λ (entry : Entry). passes entry.entered) journal.entries = (every_counts journal made).1 in
      let after : (state_of (with_entered journal (Some e))).passed ≡ sum_by (λ (entry : Entry). passes entry.entered) (journal.entries ++ by_one e ∷ [])
      = (every_counts (with_entered journal (Some e)) later).1 in
      let more = sum_by_push (λ (entry : Entry). passes entry.entered) journal.entries (by_one e) in
      let none : passes e ≡ 0 = takes_none (state_of journal) call it e is in
      omega (arith, before, after, more, none)

  -- it takes nothing inward
  pub after_passed : (state_of (after_call journal call)).passed ≡ (state_of journal).passed
  after_passed = passed_by (entered_by (state_of journal) call) refl (after_made journal call made allowed)

pub called_state : {X : Type 0} (reply : X → Reply) (p : PlainSession × X) → (called reply p).0 ≡ p.0
called_state reply (s, x) = refl

-- Taking.

abbrev passed_at : PlainSession → ℕ → PlainSession
passed_at s count = record s { passed = count }

take_one : (journal : Journal) → (state_of journal).passed < length (inward (state_of journal))
    → state_of (after_call journal TakeInward) ≡ passed_at (state_of journal) ((state_of journal).passed + 1)
take_one journal within =
    let item = get_some (inward (state_of journal)) (state_of journal).passed within in
    after_is journal TakeInward ∙ called_state ToTakeInward (take_inward (state_of journal)) ∙ ap (λ o. (passed_on (state_of journal) o).0) item.1

take_many : (count : ℕ) (journal : Journal) → IsJournal journal → (state_of journal).passed + count ≤ length (inward (state_of journal))
    → IsJournal (with_taken count journal) × (state_of (with_taken count journal) ≡ passed_at (state_of journal) ((state_of journal).passed + count))
take_many zero journal made within =
    let same : (state_of journal).passed ≡ (state_of journal).passed + 0 = omega arith in
    (made, ap (passed_at (state_of journal)) same)
take_many (suc count) journal made within =
    let one = take_one journal (omega (arith, within)) in
    let passed : (state_of (after_call journal TakeInward)).passed ≡ (state_of journal).passed + 1 = ap (λ (t : PlainSession). t.passed) one in
    let items : length (inward (state_of (after_call journal TakeInward))) ≡ length (inward (state_of journal)) = ap (λ (t : PlainSession). length (inward t)) one in
    let rest = take_many count (after_call journal TakeInward) (after_made journal TakeInward made tt) (omega (arith, within, passed, items)) in
    let sum : (state_of (after_call journal TakeInward)).passed + count ≡ (state_of journal).passed + suc count = omega (arith, passed) in
    (rest.0, rest.1 ∙ ap (passed_at (state_of (after_call journal TakeInward))) sum ∙ ap (λ (t : PlainSession). passed_at t ((state_of journal).passed + suc count)) one)

-- then all that may go inward was taken, and nothing else changed
pub all_are_taken : (journal : Journal) → IsJournal journal → (state_of journal).passed ≤ length (inward (state_of journal))
    → IsJournal (all_taken journal) × (state_of (all_taken journal) ≡ passed_at (state_of journal) (length (inward (state_of journal))))
all_are_taken journal made within =
    let count = length-drop (state_of journal).passed (inward (state_of journal)) in
    let sum : (state_of journal).passed + length (untaken journal) ≡ length (inward (state_of journal)) = omega (arith, count, within) in
    let many = take_many (length (untaken journal)) journal made (omega (arith, sum)) in
    (many.0, many.1 ∙ ap (passed_at (state_of journal)) sum)

-- Collecting.

abbrev ticketed : PlainSession → List Issued → PlainSession
ticketed s tickets = record s { tickets = tickets }

-- the state but for its tickets
abbrev pub SameButTickets : PlainSession → PlainSession → Type 0
SameButTickets s t = (tickets : List Issued) × (t ≡ record s { tickets = tickets })

bytes_same : (s : PlainSession) (index : ℕ) (ticket : Issued) (o : Option (List ℕ)) → SameButTickets s (collected_bytes s index ticket o).0
bytes_same s index ticket None = (s.tickets, refl)
bytes_same s index ticket (Some bytes) = (_, refl)

ticket_same : (s : PlainSession) (index : ℕ) (ticket : Issued) (state : TicketState) → SameButTickets s (collected_by s index ticket state).0
ticket_same s index ticket Waits = bytes_same s index ticket (bytes_for s ticket.rid)
ticket_same s index ticket Replaced = (_, refl)
ticket_same s index ticket Struck = (_, refl)
ticket_same s index ticket UsedUp = (s.tickets, refl)

from_same : (s : PlainSession) (index : ℕ) (o : Option Issued) → SameButTickets s (collected_from s index o).0
from_same s index None = (s.tickets, refl)
from_same s index (Some ticket) = ticket_same s index ticket ticket.state

pub collect_same : (s : PlainSession) (ticket : ℕ) → SameButTickets s (collect s ticket).0
collect_same s zero = (s.tickets, refl)
collect_same s (suc index) = from_same s index (slice_get s.tickets index)

-- collecting changes tickets alone
pub all_are_collected : (parked : List Parked) (journal : Journal) → IsJournal journal
    → IsJournal (all_collected journal parked) × SameButTickets (state_of journal) (state_of (all_collected journal parked))
all_are_collected [] journal made = (made, ((state_of journal).tickets, refl))
all_are_collected (first ∷ parked) journal made =
    let one = collect_same (state_of journal) first.ticket in
    let is : state_of (after_call journal (Collect first.ticket)) ≡ ticketed (state_of journal) one.0 = after_is journal (Collect first.ticket) ∙ called_state ToCollect (collect (state_of journal) first.ticket) ∙ one.1 in
    let rest = all_are_collected parked (after_call journal (Collect first.ticket)) (after_made journal (Collect first.ticket) made tt) in
    (rest.0, ((rest.1).0, (rest.1).1 ∙ ap (λ (t : PlainSession). ticketed t (rest.1).0) is))
