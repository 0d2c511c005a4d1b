-- The laws of a journal, together.
use Rattle.std.proofs.Common.{◌≡◌, ◌↔◌, ◌+◌, suc, arith, length, slice_get, ℕ, true, false, ◌∙◌, sym, ap, List, [], Some, subst, is_some, refl, inl, inr}
use Rattle.bosh_types.specs.declared.ending.Closing.{Closing}
use Rattle.bosh_types.specs.declared.ending.Ending.{Ending}
use Rattle.session_attrs.specs.declared.request.Request.{Request}
use Rattle.session_core.specs.declared.copy.RequestCopy.{RequestCopy}
use Rattle.session_core.specs.declared.replies.Arrived.{Arrived}
use Rattle.session_core.specs.declared.replies.Arrived.TheVariants as arrivals
use Rattle.session_core.specs.declared.replies.Collected.{Collected}
use Rattle.session_core.specs.declared.replies.Taken.{Taken}
use Rattle.session_core.specs.declared.replies.Taken.TheVariants as takings
use Rattle.session_core.specs.declared.replies.Ticked.{Ticked}
use Rattle.session_core.specs.declared.replies.Ticked.TheVariants.{Quiet}
use Rattle.session_core.specs.Copy.{id_of}
use Rattle.session_core.specs.Facts.{Fact}
use Rattle.session_core.specs.Journal.{Arrive, Collect, Tick, Entered, Entry, Journal, IsJournal, IsAllowed, MayEnter, ToArrive, ToCollect, ToBack, ToTick, after_entry, state_of, step, reply_of}
use Rattle.session_core.specs.Machine.{opened, first_answer, arrive, back, back_closed, is_full, plain_cost, takes_items, tick, has_room, collect, bytes_for}
use Rattle.session_core.specs.Placed.{AreStruckBy}
use Rattle.session_core.specs.Points.{tested_at}
use Rattle.session_core.specs.State.{PlainSession, Answered, answers, is_over}
use Rattle.session_core.specs.Time.{time_applied, is_due}
use Rattle.session_laws.specs.Growing.{with_later}
use Rattle.session_laws.specs.Replies.{IsOpenId, IsToldTo, MayTake}
use Rattle.session_laws.proofs.EndsBack.{every_ends}
use Rattle.session_laws.proofs.EndsForth.{ending_fact, fact_ending}
use Rattle.session_laws.proofs.Followed.{every_creation}
use Rattle.session_laws.proofs.Read.{read-rid}
use Rattle.session_laws.proofs.ReplyLemmas.{Told, arrive_told, arrive_over, back_full, back_done, tick_quiet, closed_done, answer_ids}
use Rattle.session_laws.specs.Tickets.{Tells}
use Rattle.session_laws.proofs.Bytes.{IsFirstAnswer, first_answer_steady, bytes_stay}
use Rattle.session_laws.proofs.Grows.{told_stays, steady-all, after_append, made_later, limit_stays, gap_waits_stay}
use Rattle.session_laws.proofs.PlacedLemmas.{every_plain}
use Rattle.session_laws.proofs.Waited.{quiet_struck}
use Rattle.session_laws.proofs.Clear.{every_clear}
use Rattle.session_laws.proofs.SoundLemmas.{IsSound, sound_steady}
use Rattle.session_laws.proofs.Steadily.{steady-time}
use Rattle.session_laws.proofs.Tests.{which, is_or_not}
use Rattle.session_laws.proofs.TicketLemmas.{collect_tells, tells_reply}

to_collect : (r told : Collected) → ToCollect r ≡ ToCollect told → r ≡ told
to_collect r told is = cc

pub collects_both : (journal : Journal) (number : ℕ) (told : Collected) → (reply_of journal (Collect number) ≡ ToCollect told) ↔ Tells (state_of journal) number told
collects_both journal number told = (
  λ is. subst (Tells (state_of journal) number) (to_collect (collect (state_of journal) number).1 told is) (collect_tells (state_of journal) number),
  λ t. ap ToCollect (tells_reply (state_of journal) number told t),
)

-- whatever may be entered ends a session that goes on exactly where its fact holds
pub ends_both : (journal : Journal) → IsJournal journal → (entered : Entered) → MayEnter (state_of journal) entered → is_over (state_of journal) ≡ false → (ending : Ending)
    → ((after_entry (state_of journal) entered).ending ≡ Some ending) ↔ Fact (tested_at (state_of journal) entered) entered (after_entry (state_of journal) entered) ending
ends_both journal made entered may on ending = (
  λ ends_so. ending_fact (state_of journal) entered may on (every_ends journal made) ending ends_so,
  λ fact. fact_ending (state_of journal) entered may (every_ends journal made) ending fact,
)

-- a session that goes on went on before
pub living_before : (s t : PlainSession) → ((ending : _) → s.ending ≡ Some ending → t.ending ≡ Some ending) → is_over t ≡ false → is_over s ≡ false
living_before s t stays on = elim (which s.ending) [
  | inl none ↦ ap is_some none
  | inr is ↦ (
      let over : is_over t ≡ true = ap is_some (stays is.0 is.1) in
      let no' : true ≡ false = sym over ∙ on in
      absurd (cc))
]

pub every_first_answer : (journal : Journal) → IsJournal journal → IsFirstAnswer (state_of journal)
every_first_answer journal made = steady-all IsFirstAnswer first_answer_steady (opened journal.opening) journal.entries made.1 refl

pub every_same_bytes : (journal : Journal) (later : List Entry) → IsJournal (with_later journal later) → (rid : ℕ) (bytes : List ℕ) → bytes_for (state_of journal) rid ≡ Some bytes
    → bytes_for (state_of (with_later journal later)) rid ≡ Some bytes
every_same_bytes journal later made rid bytes is =
    ap (λ (u : PlainSession). bytes_for u rid) (after_append (opened journal.opening) journal.entries later)
    ∙ bytes_stay (state_of journal) later (made_later (opened journal.opening) journal.entries later made.1) rid bytes is

sound_in_time : (journal : Journal) → IsJournal journal → (now : ℕ) → IsSound (time_applied (state_of journal) now)
sound_in_time journal made now = steady-time IsSound sound_steady (state_of journal) now (every_clear journal made).0

first_in_time : (journal : Journal) → IsJournal journal → (now : ℕ) → IsFirstAnswer (time_applied (state_of journal) now)
first_in_time journal made now = steady-time IsFirstAnswer first_answer_steady (state_of journal) now (every_first_answer journal made)

every_told : (journal : Journal) → IsJournal journal → (request : Request) (body : List ℕ) (now : ℕ) → IsAllowed (Arrive request body now) → is_over (state_of journal) ≡ false
    → Told (length (state_of journal).tickets) request.rid (arrive (state_of journal) request body now)
every_told journal made request body now allowed on =
    arrive_told (state_of journal) request body now (read-rid body request allowed.0).1 on (sound_in_time journal made now) (first_in_time journal made now)

to_arrive : (r told : Arrived) → ToArrive r ≡ ToArrive told → r ≡ told
to_arrive r told is = cc

to_back : (r told : Taken) → ToBack r ≡ ToBack told → r ≡ told
to_back r told is = cc

to_tick : (r told : Ticked) → ToTick r ≡ ToTick told → r ≡ told
to_tick r told is = cc

pub every_parked : (journal : Journal) → IsJournal journal → (request : Request) (body : List ℕ) (now number : ℕ) → IsAllowed (Arrive request body now) → is_over (state_of journal) ≡ false
    → (reply_of journal (Arrive request body now) ≡ ToArrive (arrivals.Parked number)) ↔ ((number ≡ length (state_of journal).tickets + 1) × IsOpenId (step (state_of journal) (Arrive request body now)).0 request.rid)
every_parked journal made request body now number allowed on =
    let t = every_told journal made request body now allowed on in (
      λ is.
          let p = t.parked number (to_arrive (arrive (state_of journal) request body now).1 (arrivals.Parked number) is) in
          (omega (arith, p.0), p.1),
      λ open_now.
          let place : suc (length (state_of journal).tickets) ≡ number = omega (arith, open_now.0) in
          ap ToArrive (t.open_id open_now.1 ∙ ap arrivals.Parked place),
    )

pub every_answer_told : (journal : Journal) → IsJournal journal → (request : Request) (body : List ℕ) (now : ℕ) (bytes : List ℕ) → IsAllowed (Arrive request body now) → is_over (state_of journal) ≡ false
    → reply_of journal (Arrive request body now) ≡ ToArrive (arrivals.Answer bytes) → IsToldTo (step (state_of journal) (Arrive request body now)).0 request.rid bytes
every_answer_told journal made request body now bytes allowed on is =
    (every_told journal made request body now allowed on).answer bytes (to_arrive (arrive (state_of journal) request body now).1 (arrivals.Answer bytes) is)

pub every_over : (journal : Journal) → IsJournal journal → (request : Request) (body : List ℕ) (now : ℕ) → IsAllowed (Arrive request body now)
    → (reply_of journal (Arrive request body now) ≡ ToArrive arrivals.Over) ↔ (is_over (state_of journal) ≡ true)
every_over journal made request body now allowed = (
  λ is. elim (is_or_not (is_over (state_of journal))) [
    | inl over ↦ over
    | inr on ↦ absurd ((every_told journal made request body now allowed on).not_over (to_arrive (arrive (state_of journal) request body now).1 arrivals.Over is))
  ],
  λ over. ap ToArrive (arrive_over (state_of journal) request body now over),
)

pub every_full : (s : PlainSession) (stream : ℕ) (stanza : List ℕ) (now : ℕ) → (ToBack (back s stream stanza now).1 ≡ ToBack takings.Full) ↔ (MayTake s stream stanza now × (has_room (time_applied s now) stanza ≡ false))
every_full s stream stanza now = (
  λ is. (back_full s stream stanza now).0 (to_back (back s stream stanza now).1 takings.Full is),
  λ may. ap ToBack ((back_full s stream stanza now).1 may),
)

pub every_done : (s : PlainSession) (stream : ℕ) (stanza : List ℕ) (now : ℕ) → (ToBack (back s stream stanza now).1 ≡ ToBack takings.Done) ↔ (MayTake s stream stanza now × (has_room (time_applied s now) stanza ≡ true))
every_done s stream stanza now = (
  λ is. (back_done s stream stanza now).0 (to_back (back s stream stanza now).1 takings.Done is),
  λ may. ap ToBack ((back_done s stream stanza now).1 may),
)

pub every_quiet : (s : PlainSession) (now : ℕ) → (ToTick (tick s now).1 ≡ ToTick Quiet) ↔ (is_due s now ≡ false)
every_quiet s now = (λ is. (tick_quiet s now).0 (to_tick (tick s now).1 Quiet is), λ none. ap ToTick ((tick_quiet s now).1 none))

pub every_created : (journal : Journal) → IsJournal journal → (state_of journal).created ≡ first_answer journal.opening
every_created journal made = (steady-all _ (told_stays (opened journal.opening)) (opened journal.opening) journal.entries made.1 (refl, refl, refl, refl)).2

pub every_limit : (journal : Journal) → IsJournal journal → (state_of journal).limit ≡ journal.opening.limit
every_limit journal made = steady-all _ (limit_stays (opened journal.opening)) (opened journal.opening) journal.entries made.1 refl

pub every_gap_waits : (journal : Journal) → IsJournal journal → (state_of journal).gap_waits ≡ journal.opening.gap_waits
every_gap_waits journal made = steady-all _ (gap_waits_stay (opened journal.opening)) (opened journal.opening) journal.entries made.1 refl

-- a tick that changes nothing strikes nothing at its moment
pub every_struck_in_time : (journal : Journal) → IsJournal journal → (now : ℕ) → reply_of journal (Tick now) ≡ ToTick Quiet → is_over (state_of journal) ≡ false → AreStruckBy (state_of journal) now []
every_struck_in_time journal made now is on = quiet_struck (state_of journal) now (every_plain journal made) on ((every_quiet (state_of journal) now).0 is)

pub every_answer_id : (journal : Journal) → IsJournal journal → (k : ℕ) (answer : Answered) → slice_get (answers (state_of journal)) k ≡ Some answer → answer.rid ≡ journal.opening.request.rid + k
every_answer_id journal made k answer is =
    answer_ids (state_of journal) (every_clear journal made).0 (every_first_answer journal made) k answer is ∙ ap (λ (c : RequestCopy). id_of c + k) (every_creation journal made)

pub every_closed : (s : PlainSession) (stream : ℕ) (closing : Closing) (now : ℕ) → (ToBack (back_closed s stream closing now).1 ≡ ToBack takings.Done) ↔ ((is_over s ≡ false) × (is_full s plain_cost ≡ false) × (takes_items (time_applied s now) stream ≡ true))
every_closed s stream closing now = (
  λ is. (closed_done s stream closing now).0 (to_back (back_closed s stream closing now).1 takings.Done is),
  λ may. ap ToBack ((closed_done s stream closing now).1 may),
)
