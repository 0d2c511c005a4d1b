-- Entries that are made again: when these entries with one more are a journal.
use Rattle.std.proofs.Common.{◌≡◌, ℕ, ◌&&◌, Bool, true, false, not, List, [], ◌∷◌, ◌++◌, Option, Some, None, IsTrue, is_some, if◌then◌else◌, refl, sym, ◌∙◌, ap, subst}
use Rattle.std.specs.Option.{option_map}
use Rattle.parked_gate.specs.Histories.{Appends}
use Rattle.session_attrs.specs.declared.request.Kind.TheVariants as kinds
use Rattle.session_attrs.specs.declared.request.Request.{Request}
use Rattle.session_core.specs.declared.replies.Collected.{Collected}
use Rattle.session_core.specs.declared.replies.Collected.TheVariants as collections
use Rattle.session_core.specs.declared.session.Session.{Session}
use Rattle.session_core.specs.Journal as plain
use Rattle.session_core.specs.Journal.{Journal, IsJournal, IsAllowed, MayEnter, state_of, reply_of, step, entered_by, collected_entry}
use Rattle.session_core.specs.Machine.{collect, full_with, is_full, plain_cost, take_inward}
use Rattle.session_core.specs.StandsFor.{StandsFor}
use Rattle.session_core.specs.State.{PlainSession, is_over}
use Rattle.session_core.specs.Tickets.{uses_up}
use Rattle.session_core.specs.Time.{is_due}
use Rattle.session_journal.specs.declared.call.Call.{Call}
use Rattle.session_journal.specs.declared.call.Call.TheVariants as calls
use Rattle.session_journal.specs.declared.entry.Entered.{Entered}
use Rattle.session_journal.specs.declared.entry.Entered.TheVariants as stored
use Rattle.session_journal.specs.declared.entry.Entry.{Entry}
use Rattle.session_journal.specs.declared.entry.Limited.{Limited}
use Rattle.session_journal.specs.declared.entry.Limited.TheVariants as limits
use Rattle.session_journal.specs.declared.redoing.Again.TheVariants as again
use Rattle.session_journal.specs.declared.redoing.Redone.TheVariants.{Done, Foreign}
use Rattle.session_journal.specs.Calls.{call_in}
use Rattle.session_journal.specs.Entries.{request_in, limited_in, entered_in}
use Rattle.session_journal.specs.Redoing.{AsksFor, Redoes, stored_call, is_itself, fits, ticks, is_timely, may_limit}
use Rattle.session_journal.specs.Stored.{After, Enters, IsJournalOf, IsLegal, Steps, tickets_out}
use Rattle.session_journal.specs.Storing.{Stands}
use Rattle.session_journal.proofs.Decisions.{collect_entered}
use Rattle.session_journal.proofs.JournalLemmas.{journal_append, one_entry, one_journal, read_gives}
use Rattle.session_journal.proofs.SeenLemmas.{journal_later, map_there, one_there}
use Rattle.session_laws.specs.Growing.{with_later}
use Rattle.session_laws.proofs.OneMore.{last_may, one_entry_more, state_one_more}
use Rattle.session_laws.proofs.Tests.{both_true, none_some, not_true, some_is, true_false}

-- a tick is entered as itself exactly where something is due and its entry fits

tick_by : (now : ℕ) (due full : Bool) → (due && not full) ≡ is_itself (if due then Some (if full then plain.Limit plain.Time plain_cost now else plain.Made (plain.Tick now)) else None)
tick_by now true true = refl
tick_by now true false = refl
tick_by now false true = refl
tick_by now false false = refl

pub tick_enters : (s : PlainSession) (now : ℕ) → ticks s now ≡ is_itself (entered_by s (plain.Tick now))
tick_enters s now = tick_by now (is_due s now) (is_full s plain_cost)

-- what is stored is determined by what it tells

stored_limit : plain.Limited → Limited
stored_limit plain.Arrival = limits.Arrival
stored_limit plain.ServerStanza = limits.ServerStanza
stored_limit plain.ServerClosing = limits.ServerClosing
stored_limit plain.Time = limits.Time

limit_back : (kind : Limited) → stored_limit (limited_in kind) ≡ kind
unfolding stored_limit
limit_back limits.Arrival = refl
limit_back limits.ServerStanza = refl
limit_back limits.ServerClosing = refl
limit_back limits.Time = refl

stored_from : plain.Entered → Entered
stored_from (plain.Made (plain.Arrive request body now)) = stored.Arrive body now
stored_from (plain.Made (plain.Collect ticket)) = stored.Collect ticket
stored_from (plain.Made (plain.Back stream stanza now)) = stored.Back stream stanza now
stored_from (plain.Made (plain.BackClosed stream closing now)) = stored.BackClosed stream closing now
stored_from (plain.Made (plain.Tick now)) = stored.Tick now
stored_from (plain.Made plain.TakeInward) = stored.TakeInward
stored_from (plain.Limit kind cost now) = stored.Limit (stored_limit kind) cost now

told_back : (e : Entered) (x : plain.Entered) → entered_in e ≡ Some x → e ≡ stored_from x
unfolding stored_from
told_back (stored.Open sid host greeting body now limit gap_waits) x is = absurd (cc)
told_back (stored.Arrive body now) x is =
    sym (ap stored_from (map_there (λ request. plain.Made (plain.Arrive request body now)) (request_in body) x is).2)
told_back (stored.Collect ticket) x is = ap stored_from (some_is (plain.Made (plain.Collect ticket)) x is)
told_back (stored.Back stream stanza now) x is = ap stored_from (some_is (plain.Made (plain.Back stream stanza now)) x is)
told_back (stored.BackClosed stream closing now) x is = ap stored_from (some_is (plain.Made (plain.BackClosed stream closing now)) x is)
told_back (stored.Tick now) x is = ap stored_from (some_is (plain.Made (plain.Tick now)) x is)
told_back stored.TakeInward x is = ap stored_from (some_is (plain.Made plain.TakeInward) x is)
told_back (stored.Limit kind cost now) x is =
    ap (λ k. stored.Limit k cost now) (sym (limit_back kind)) ∙ ap stored_from (some_is (plain.Limit (limited_in kind) cost now) x is)

same_stored : (a b : Entered) (x : plain.Entered) → entered_in a ≡ Some x → entered_in b ≡ Some x → a ≡ b
same_stored a b x one other = told_back a x one ∙ sym (told_back b x other)

-- these entries with one more are a journal exactly where what it tells may be entered after them
module _ (log : List Entry) (journal : Journal) (is : IsJournalOf log journal) (e : Entry) where
  pub longer_is : (x : plain.Entered) → entered_in e.call ≡ Some x → MayEnter (state_of journal) x
      → IsJournalOf (log ++ e ∷ []) (with_later journal (record { caller = e.caller; entered = x } ∷ []))
  longer_is x told may =
      let entry : plain.Entry = record { caller = e.caller; entered = x } in
      let there = ap (option_map (λ (entered : plain.Entered). let r : plain.Entry = record { caller = e.caller; entered = entered } in r)) told in
      record {
        told = journal_append log (e ∷ []) journal (entry ∷ []) is.told (one_entry e entry there);
        made = one_entry_more journal entry is.made may;
      }

  pub may_legal : (x : plain.Entered) → entered_in e.call ≡ Some x → MayEnter (state_of journal) x → IsLegal (log ++ e ∷ [])
  may_legal x told may = (with_later journal (record { caller = e.caller; entered = x } ∷ []), longer_is x told may)

  pub legal_may : IsLegal (log ++ e ∷ []) → (x : plain.Entered) × (entered_in e.call ≡ Some x) × MayEnter (state_of journal) x
  legal_may legal =
      let later = journal_later log (e ∷ []) journal legal.0 is.told (legal.1).told in
      let one = one_there e later.0 later.1 in
      let x : plain.Entry = record { caller = e.caller; entered = one.0 } in
      let same : legal.0 ≡ with_later journal (x ∷ []) = later.2 ∙ ap (with_later journal) one.2 in
      (one.0, one.1, last_may journal x (subst IsJournal same (legal.1).made))

  -- of what it tells, where that is known
  pub legal_told : (x : plain.Entered) → entered_in e.call ≡ Some x → IsLegal (log ++ e ∷ []) → MayEnter (state_of journal) x
  legal_told x told legal =
      let may = legal_may legal in
      subst (MayEnter (state_of journal)) (some_is may.0 x (sym may.1 ∙ told)) may.2

-- nor are they where what it tells may never be entered
pub foreign_never : (log : List Entry) (e : Entry) → IsLegal log → AsksFor e.call again.Nothing → IsLegal (log ++ e ∷ []) → ⊥
foreign_never log e legal never longer =
    let may = legal_may log legal.0 legal.1 e longer in
    never (state_of legal.0) may.0 may.1 may.2

-- a call that is entered as made is entered as itself

limited_made : (over full : Bool) (call other : plain.Call) (kind : plain.Limited) (cost now : ℕ)
    → (if over then None else Some (if full then plain.Limit kind cost now else plain.Made call)) ≡ Some (plain.Made other) → call ≡ other
limited_made true full call other kind cost now is = absurd (cc)
limited_made false true call other kind cost now is = absurd (cc)
limited_made false false call other kind cost now is = cc

due_made : (due full : Bool) (call other : plain.Call) (kind : plain.Limited) (cost now : ℕ)
    → (if due then Some (if full then plain.Limit kind cost now else plain.Made call) else None) ≡ Some (plain.Made other) → call ≡ other
due_made false full call other kind cost now is = absurd (cc)
due_made true true call other kind cost now is = absurd (cc)
due_made true false call other kind cost now is = cc

collected_made : (s : PlainSession) (call other : plain.Call) (told : Collected) → collected_entry s call told ≡ Some (plain.Made other) → call ≡ other
collected_made s call other (collections.Answer bytes) is = cc
collected_made s call other collections.NotYet is = absurd (cc)
collected_made s call other collections.Superseded is = cc
collected_made s call other collections.UnknownTicket is = absurd (cc)

found_made : (found : Bool) (call other : plain.Call) → (if found then Some (plain.Made call) else None) ≡ Some (plain.Made other) → call ≡ other
found_made true call other is = cc
found_made false call other is = absurd (cc)

made_call : (s : PlainSession) (call other : plain.Call) → entered_by s call ≡ Some (plain.Made other) → call ≡ other
made_call s (plain.Arrive request body now) other is = limited_made _ _ (plain.Arrive request body now) other _ _ _ is
made_call s (plain.Collect ticket) other is = collected_made s (plain.Collect ticket) other (collect s ticket).1 is
made_call s (plain.Back stream stanza now) other is = limited_made _ _ (plain.Back stream stanza now) other _ _ _ is
made_call s (plain.BackClosed stream closing now) other is = limited_made _ _ (plain.BackClosed stream closing now) other _ _ _ is
made_call s (plain.Tick now) other is = due_made _ _ (plain.Tick now) other _ _ _ is
made_call s plain.TakeInward other is = found_made (is_some (take_inward s).1) plain.TakeInward other is

itself_by : (s : PlainSession) (call : plain.Call) (o : Option plain.Entered) → entered_by s call ≡ o → is_itself o ≡ true → entered_by s call ≡ Some (plain.Made call)
itself_by s call None is itself = absurd (cc)
itself_by s call (Some (plain.Made other)) is itself = is ∙ ap (λ c. Some (plain.Made c)) (sym (made_call s call other is))
itself_by s call (Some (plain.Limit kind cost now)) is itself = absurd (cc)

entered_itself : (s : PlainSession) (call : plain.Call) → is_itself (entered_by s call) ≡ true → entered_by s call ≡ Some (plain.Made call)
entered_itself s call itself = itself_by s call (entered_by s call) refl itself

-- a call that may be made tells itself
told_call : (call : Call) → IsAllowed (call_in call) → entered_in (stored_call call) ≡ Some (plain.Made (call_in call))
told_call (calls.Arrive request body now) allowed = ap (option_map (λ r. plain.Made (plain.Arrive r body now))) (read_gives body request allowed.0)
told_call (calls.Back stream stanza now) allowed = refl
told_call (calls.BackClosed stream closing now) allowed = refl
told_call (calls.Tick now) allowed = refl
told_call calls.TakeInward allowed = refl

-- a call that is entered as itself adds what is stored of it
added : (log later : List Entry) (s : PlainSession) (e : Entry) (call : plain.Call) → entered_in e.call ≡ Some (plain.Made call) → entered_by s call ≡ Some (plain.Made call)
    → (made : Option Entry) → Appends (λ e. e.caller) e.caller log made later → Enters made (entered_by s call) → later ≡ log ++ e ∷ []
added log later s e call told itself None adds enters = absurd (none_some (entered_by s call) (plain.Made call) enters itself)
added log later s e call told itself (Some f) adds enters =
    let same_told : enters.0 ≡ plain.Made call = some_is enters.0 (plain.Made call) (sym enters.1 ∙ itself) in
    let same_call : f.call ≡ e.call = same_stored f.call e.call (plain.Made call) (enters.2 ∙ ap Some same_told) told in
    let same_caller : f.caller ≡ e.caller = adds.1 in
    let same : f ≡ e = (λ i. record { caller = same_caller i; call = same_call i }) in
    adds.0 ∙ ap (λ x. log ++ x ∷ []) same

-- and a call that isn't entered adds nothing
unadded : (log later : List Entry) (caller : ℕ) (made : Option Entry) → Appends (λ e. e.caller) caller log made later → Enters made None → later ≡ log
unadded log later caller None adds enters = adds
unadded log later caller (Some f) adds enters = absurd (none_some None enters.0 refl enters.1)

module _ (log : List Entry) (e : Entry) (call : plain.Call) (allowed : IsAllowed call) (told : entered_in e.call ≡ Some (plain.Made call)) where
  done_by : (later : List Entry) (reply : plain.Reply) → (steps : Steps log e.caller call reply later)
      → entered_by (state_of (steps.replies).journal) call ≡ Some (plain.Made call) → Redoes log e Done later
  done_by later reply steps itself =
      let r = steps.replies in (
        added log later (state_of r.journal) e call told itself steps.made steps.appends r.enters,
        may_legal log r.journal r.is e (plain.Made call) told (allowed, itself),
      )

  pub foreign_by : (journal : Journal) → IsJournalOf log journal → (entered_by (state_of journal) call ≡ Some (plain.Made call) → ⊥) → IsLegal (log ++ e ∷ []) → ⊥
  foreign_by journal is other legal = other (legal_told log journal is e (plain.Made call) told legal).1

-- of a call by a test of it
module _ (log : List Entry) (caller : ℕ) (call : Call) (allowed : IsAllowed (call_in call)) where
  abbrev entry : Entry
  entry = record { caller = caller; call = stored_call call }

  pub redone_call : (later : List Entry) (reply : plain.Reply) (itself : Bool) → itself ≡ true → After log (λ s. itself ≡ is_itself (entered_by s (call_in call)))
      → Steps log caller (call_in call) reply later → Redoes log (record { caller = caller; call = stored_call call }) Done later
  redone_call later reply itself yes' after steps =
      let r = steps.replies in
      let same : after.journal ≡ r.journal = one_journal log after.journal r.journal (after.is).told (r.is).told in
      done_by log entry (call_in call) allowed (told_call call allowed) later reply steps
      (entered_itself (state_of r.journal) (call_in call) (ap (λ j. is_itself (entered_by (state_of j) (call_in call))) (sym same) ∙ sym after.holds ∙ yes'))

  pub foreign_call : (itself : Bool) → itself ≡ false → After log (λ s. itself ≡ is_itself (entered_by s (call_in call)))
      → IsLegal (log ++ record { caller = caller; call = stored_call call } ∷ []) → ⊥
  foreign_call itself not' after legal =
      foreign_by log entry (call_in call) allowed (told_call call allowed) after.journal after.is
      (λ is. true_false (sym (after.holds ∙ ap is_itself is) ∙ not')) legal

-- of a poll by what it is told
uncollected : (s : PlainSession) (call : plain.Call) (told : Collected) → uses_up told ≡ false → collected_entry s call told ≡ None
uncollected s call (collections.Answer bytes) uses = absurd (cc)
uncollected s call collections.NotYet uses = refl
uncollected s call collections.Superseded uses = absurd (cc)
uncollected s call collections.UnknownTicket uses = refl

to_collect : (r told : Collected) → plain.ToCollect r ≡ plain.ToCollect told → r ≡ told
to_collect r told is = cc

module _ (log : List Entry) (caller ticket : ℕ) (later : List Entry) (reply : Collected) (steps : Steps log caller (plain.Collect ticket) (plain.ToCollect reply) later) where
  polled : reply ≡ (collect (state_of (steps.replies).journal) ticket).1
  polled = to_collect reply _ (steps.replies).reply_is

  pub redone_poll : uses_up reply ≡ true → Redoes log (record { caller = caller; call = stored.Collect ticket }) Done later
  redone_poll uses =
      done_by log (record { caller = caller; call = stored.Collect ticket }) (plain.Collect ticket) tt refl later (plain.ToCollect reply) steps
      (collect_entered (state_of (steps.replies).journal) ticket (ap uses_up (sym polled) ∙ uses))

  pub foreign_poll : uses_up reply ≡ false → Redoes log (record { caller = caller; call = stored.Collect ticket }) Foreign later
  foreign_poll uses =
      let r = steps.replies in
      let none : entered_by (state_of r.journal) (plain.Collect ticket) ≡ None = uncollected (state_of r.journal) (plain.Collect ticket) _ (ap uses_up (sym polled) ∙ uses) in (
        unadded log later caller steps.made steps.appends (subst (Enters steps.made) none r.enters),
        foreign_by log (record { caller = caller; call = stored.Collect ticket }) (plain.Collect ticket) tt refl r.journal r.is
            (none_some (entered_by (state_of r.journal) (plain.Collect ticket)) (plain.Made (plain.Collect ticket)) none),
      )

-- of a limit

all_three : (a b c : Bool) → a ≡ true → b ≡ true → c ≡ true → a && (b && c) ≡ true
all_three a b c one two three = cc

timely_is : (s : PlainSession) (kind : Limited) (now : ℕ) → is_timely s kind now ≡ true → plain.IsTimely s (limited_in kind) now
timely_is s limits.Arrival now is = tt
timely_is s limits.ServerStanza now is = tt
timely_is s limits.ServerClosing now is = tt
timely_is s limits.Time now is = is

is_timely_if : (s : PlainSession) (kind : Limited) (now : ℕ) → plain.IsTimely s (limited_in kind) now → is_timely s kind now ≡ true
is_timely_if s limits.Arrival now is = refl
is_timely_if s limits.ServerStanza now is = refl
is_timely_if s limits.ServerClosing now is = refl
is_timely_if s limits.Time now is = is

pub limit_may : (s : PlainSession) (kind : Limited) (cost now : ℕ) → may_limit s kind cost now ≡ true → MayEnter s (plain.Limit (limited_in kind) cost now)
limit_may s kind cost now may =
    let first = both_true (not (is_over s)) (is_full s cost && is_timely s kind now) may in
    let second = both_true (is_full s cost) (is_timely s kind now) first.1 in
    (not_true (is_over s) first.0, second.0, timely_is s kind now second.1)

may_if : (s : PlainSession) (kind : Limited) (cost now : ℕ) → MayEnter s (plain.Limit (limited_in kind) cost now) → may_limit s kind cost now ≡ true
may_if s kind cost now may = all_three (not (is_over s)) (is_full s cost) (is_timely s kind now) (ap not may.0) may.1 (is_timely_if s kind now may.2)

module _ (log : List Entry) (caller : ℕ) (kind : Limited) (cost now : ℕ) (may : Bool) (after : After log (λ s. may ≡ may_limit s kind cost now)) where
  abbrev at_limit : Entry
  at_limit = record { caller = caller; call = stored.Limit kind cost now }

  pub legal_limit : may ≡ true → IsLegal (log ++ record { caller = caller; call = stored.Limit kind cost now } ∷ [])
  legal_limit yes' = may_legal log after.journal after.is at_limit (plain.Limit (limited_in kind) cost now) refl (limit_may (state_of after.journal) kind cost now (sym after.holds ∙ yes'))

  pub foreign_limit : may ≡ false → IsLegal (log ++ record { caller = caller; call = stored.Limit kind cost now } ∷ []) → ⊥
  foreign_limit not' legal =
      true_false (sym (after.holds ∙ may_if (state_of after.journal) kind cost now (legal_told log after.journal after.is at_limit (plain.Limit (limited_in kind) cost now) refl legal)) ∙ not')

-- what holds after these entries holds of the state that the session stands for
pub after_here : {session : Session} {log : List Entry} {out : ℕ} (old : Stands session log out) (P : PlainSession → Type 0) → After log P → P (state_of old.journal)
after_here {log = log} old P after = subst (λ j. P (state_of j)) (one_journal log after.journal old.journal (after.is).told (old.is).told) after.holds

-- a session that met the limit stands for the replay
pub limit_stands : {session : Session} {log : List Entry} {out : ℕ} (old : Stands session log out) (after : Session) (caller : ℕ) (kind : Limited) (cost now : ℕ)
    → may_limit (state_of old.journal) kind cost now ≡ true → StandsFor after (full_with cost (state_of old.journal))
    → Stands after (log ++ record { caller = caller; call = stored.Limit kind cost now } ∷ []) out
limit_stands {log = log} old after caller kind cost now may stands =
    let e : Entry = record { caller = caller; call = stored.Limit kind cost now } in
    let x : plain.Entry = record { caller = caller; entered = plain.Limit (limited_in kind) cost now } in
    let longer : Journal = with_later old.journal (x ∷ []) in
    let moved : full_with cost (state_of old.journal) ≡ state_of longer = sym (state_one_more old.journal x) in
    record {
      journal = longer;
      is = longer_is log old.journal old.is e (plain.Limit (limited_in kind) cost now) refl (limit_may (state_of old.journal) kind cost now may);
      stands = subst (StandsFor after) moved stands;
      out_is = old.out_is ∙ ap (λ (t : PlainSession). tickets_out t.tickets) moved;
    }
