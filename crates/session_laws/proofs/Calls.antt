-- What a call does is what its entry does, and without an entry it does nothing.
use Rattle.std.proofs.Common.{◌≡◌, ℕ, zero, suc, Bool, true, false, not, List, Option, Some, None, refl, sym, if◌then◌else◌, is_some, slice_get, subst}
use Rattle.session_core.specs.declared.replies.Arrived.{Arrived}
use Rattle.session_core.specs.declared.replies.Taken.{Taken}
use Rattle.session_core.specs.declared.replies.Ticked.{Ticked}
use Rattle.bosh_types.specs.declared.inward.Inward.{Inward}
use Rattle.session_core.specs.Journal.{Call, Arrive, Collect, Back, BackClosed, Tick, TakeInward, Entered, Made, step, collected_entry, entered_by, after_entry}
use Rattle.session_core.specs.Machine.{body_cost, stanza_cost, plain_cost, is_full, collected_from, collected_by, collected_bytes, bytes_for, passed_on}
use Rattle.session_core.specs.State.{PlainSession, Issued, TicketState, Waits, Replaced, Struck, UsedUp, inward, is_over}
use Rattle.session_core.specs.Time.{is_due}

abbrev pub Leaves : PlainSession → PlainSession → Option Entered → Type 0
Leaves s after None = after ≡ s
Leaves s after (Some entered) = after ≡ after_entry s entered

limited : (s v w : PlainSession) (over full : Bool) (made limit : Entered) → after_entry s limit ≡ v → after_entry s made ≡ (if over then s else if full then v else w)
    → Leaves s (if over then s else if full then v else w) (if over then None else Some (if full then limit else made))
limited s v w true full made limit limits makes = refl
limited s v w false true made limit limits makes = sym limits
limited s v w false false made limit limits makes = sym makes

moved : {X : Type 0} (f : PlainSession × X → PlainSession) (over full : Bool) (x y z : PlainSession × X) → f (if over then x else if full then y else z) ≡ (if over then f x else if full then f y else f z)
moved f true full x y z = refl
moved f false true x y z = refl
moved f false false x y z = refl

bytes_leave : (s : PlainSession) (index : ℕ) (ticket : Issued) (o : Option (List ℕ)) → after_entry s (Made (Collect (suc index))) ≡ (collected_bytes s index ticket o).0
    → Leaves s (collected_bytes s index ticket o).0 (collected_entry s (Collect (suc index)) (collected_bytes s index ticket o).1)
bytes_leave s index ticket None makes = refl
bytes_leave s index ticket (Some bytes) makes = sym makes

ticket_leaves : (s : PlainSession) (index : ℕ) (ticket : Issued) (state : TicketState) → after_entry s (Made (Collect (suc index))) ≡ (collected_by s index ticket state).0
    → Leaves s (collected_by s index ticket state).0 (collected_entry s (Collect (suc index)) (collected_by s index ticket state).1)
ticket_leaves s index ticket Waits makes = bytes_leave s index ticket (bytes_for s ticket.rid) makes
ticket_leaves s index ticket Replaced makes = sym makes
ticket_leaves s index ticket Struck makes = sym makes
ticket_leaves s index ticket UsedUp makes = refl

collect_leaves : (s : PlainSession) (index : ℕ) (o : Option Issued) → after_entry s (Made (Collect (suc index))) ≡ (collected_from s index o).0
    → Leaves s (collected_from s index o).0 (collected_entry s (Collect (suc index)) (collected_from s index o).1)
collect_leaves s index None makes = refl
collect_leaves s index (Some ticket) makes = ticket_leaves s index ticket ticket.state makes

taken_leaves : (s : PlainSession) (o : Option Inward) → after_entry s (Made TakeInward) ≡ (passed_on s o).0 → Leaves s (passed_on s o).0 (if is_some (passed_on s o).1 then Some (Made TakeInward) else None)
taken_leaves s None makes = refl
taken_leaves s (Some item) makes = sym makes

tick_leaves : (s v w : PlainSession) (due full : Bool) (made limit : Entered) → after_entry s limit ≡ v → after_entry s made ≡ (if not due then s else if full then v else w)
    → Leaves s (if not due then s else if full then v else w) (if due then Some (if full then limit else made) else None)
tick_leaves s v w false full made limit limits makes = refl
tick_leaves s v w true true made limit limits makes = sym limits
tick_leaves s v w true false made limit limits makes = sym makes

pub call_leaves : (s : PlainSession) (call : Call) → Leaves s (step s call).0 (entered_by s call)
call_leaves s (Arrive request body now) =
    let m = moved (λ (r : PlainSession × Arrived). r.0) (is_over s) (is_full s (body_cost request body)) _ _ _ in
    subst (λ u. Leaves s u (entered_by s (Arrive request body now))) (sym m) (limited s _ _ (is_over s) (is_full s (body_cost request body)) _ _ refl m)
call_leaves s (Collect zero) = refl
call_leaves s (Collect (suc index)) = collect_leaves s index (slice_get s.tickets index) refl
call_leaves s (Back stream stanza now) =
    let m = moved (λ (r : PlainSession × Taken). r.0) (is_over s) (is_full s (stanza_cost stanza)) _ _ _ in
    subst (λ u. Leaves s u (entered_by s (Back stream stanza now))) (sym m) (limited s _ _ (is_over s) (is_full s (stanza_cost stanza)) _ _ refl m)
call_leaves s (BackClosed stream closing now) =
    let m = moved (λ (r : PlainSession × Taken). r.0) (is_over s) (is_full s plain_cost) _ _ _ in
    subst (λ u. Leaves s u (entered_by s (BackClosed stream closing now))) (sym m) (limited s _ _ (is_over s) (is_full s plain_cost) _ _ refl m)
call_leaves s (Tick now) =
    let m = moved (λ (r : PlainSession × Ticked). r.0) (not (is_due s now)) (is_full s plain_cost) _ _ _ in
    subst (λ u. Leaves s u (entered_by s (Tick now))) (sym m) (tick_leaves s _ _ (is_due s now) (is_full s plain_cost) _ _ refl m)
call_leaves s TakeInward = taken_leaves s (slice_get (inward s) s.passed) refl

-- the same, by whether there is an entry
pub unentered : (s : PlainSession) (call : Call) → entered_by s call ≡ None → (step s call).0 ≡ s
unentered s call is = subst (Leaves s (step s call).0) is (call_leaves s call)

pub as_entered : (s : PlainSession) (call : Call) (entered : Entered) → entered_by s call ≡ Some entered → (step s call).0 ≡ after_entry s entered
as_entered s call entered is = subst (Leaves s (step s call).0) is (call_leaves s call)

-- what is taken inward is the next item
pub takes_next : (s : PlainSession) (o : Option Inward) → (passed_on s o).1 ≡ o
takes_next s None = refl
takes_next s (Some item) = refl
