-- What was seen of a session keeps the laws of its journal.
use Rattle.std.proofs.Common.{◌≡◌, ◌↔◌, ℕ, false, List, [], ◌∷◌, ◌++◌, Option, Some, None, slice_get, refl, sym, ◌∙◌, ap, ap₂, subst}
use Rattle.std.specs.Option.{option_map}
use Rattle.bosh_types.specs.declared.ending.Ending.{Ending}
use Rattle.bosh_types.specs.declared.kept.KeptAnswer.{KeptAnswer}
use Rattle.session_attrs.specs.declared.request.Request.{Request}
use Rattle.session_core.specs.declared.replies.Arrived.TheVariants as arrivals
use Rattle.session_core.specs.Facts.{Fact}
use Rattle.session_core.specs.Journal as plain
use Rattle.session_core.specs.Journal.{Journal, IsJournal, MayEnter, Arrive, TakeInward, ToArrive, ToTakeInward, state_of, reply_of, after_entry}
use Rattle.session_core.specs.Kept.{kept_of}
use Rattle.session_core.specs.Machine.{body_cost, bytes_for, is_full}
use Rattle.session_core.specs.Points.{tested_at}
use Rattle.session_core.specs.State.{PlainSession, inward, is_over}
use Rattle.session_core.specs.Time.{time_applied}
use Rattle.session_journal.specs.declared.entry.Entry.{Entry}
use Rattle.session_journal.specs.Entries.{opening_in, entered_in, entry_in, entries_in, journal_in}
use Rattle.session_journal.specs.SeenLaws.{SeenLaws}
use Rattle.session_journal.specs.Stored.{IsJournalOf, Replies}
use Rattle.session_journal.proofs.JournalLemmas.{all_there, consed, journal_append, one_journal, opened_with}
use Rattle.session_laws.specs.Growing.{Grows, with_later}
use Rattle.session_laws.specs.Laws.{KeptLaws}
use Rattle.session_laws.proofs.OneMore.{last_may, state_one_more}

-- entries that come later tell something
later_there : (es later : List Entry) (all : List plain.Entry) → entries_in (es ++ later) ≡ Some all → (ys : List plain.Entry) × (entries_in later ≡ Some ys)
later_there [] later all is = (all, is)
later_there (e ∷ es) later all is =
    let both = all_there consed (entry_in e) (entries_in (es ++ later)) all is in
    later_there es later both.1 both.3

pub journal_later : (log later : List Entry) (journal longer : Journal) → journal_in log ≡ Some journal → journal_in (log ++ later) ≡ Some longer
    → (ys : List plain.Entry) × (entries_in later ≡ Some ys) × (longer ≡ with_later journal ys)
journal_later [] later journal longer is all = absurd (cc)
journal_later (o ∷ es) later journal longer is all =
    let both = all_there opened_with (opening_in o.call) (entries_in (es ++ later)) longer all in
    let there = later_there es later both.1 both.3 in
    (there.0, there.1, one_journal ((o ∷ es) ++ later) longer (with_later journal there.0) all (journal_append (o ∷ es) later journal there.0 is there.1))

pub map_there : {X Y : Type 0} (f : X → Y) (o : Option X) (y : Y) → option_map f o ≡ Some y → (x : X) × (o ≡ Some x) × (y ≡ f x)
map_there f None y is = absurd (cc)
map_there f (Some x) y is = (x, refl, cc)

-- what one entry tells
pub one_there : (e : Entry) (ys : List plain.Entry) → entries_in (e ∷ []) ≡ Some ys
    → (entered : plain.Entered) × (entered_in e.call ≡ Some entered) × (ys ≡ record { caller = e.caller; entered = entered } ∷ [])
one_there e ys is =
    let both = all_there consed (entry_in e) (Some []) ys is in
    let entry = map_there (entry_of e) (entered_in e.call) both.0 both.2 in
    (entry.0, entry.1, both.4 ∙ ap₂ consed entry.2 (sym (nothing both.1 both.3)))
  where
    entry_of : Entry → plain.Entered → plain.Entry
    entry_of e entered = record { caller = e.caller; entered = entered }

    nothing : (l : List plain.Entry) → ◌≡◌ {A = Option (List plain.Entry)} (Some []) (Some l) → [] ≡ l
    nothing l is = cc

module _ (log : List Entry) (journal : Journal) (here : IsJournalOf log journal) (laws : KeptLaws journal) where
  seen_again : (request : Request) (body : List ℕ) (now : ℕ) (answer : KeptAnswer) (reply : plain.Reply) (made : Option Entry)
      → is_over (time_applied (state_of journal) now) ≡ false → is_full (state_of journal) (body_cost request body) ≡ false
      → kept_of (time_applied (state_of journal) now) request.rid ≡ Some answer
      → Replies log (Arrive request body now) reply made → reply ≡ ToArrive (arrivals.Answer answer.bytes)
  seen_again request body now answer reply made on room kept replies =
      replies.reply_is ∙ ap (λ j. reply_of j (Arrive request body now)) (one_journal log replies.journal journal (replies.is).told here.told)
      ∙ laws.repeats request body now answer on room kept

  seen_next : (reply : plain.Reply) (made : Option Entry) → Replies log TakeInward reply made
      → reply ≡ ToTakeInward (slice_get (inward (state_of journal)) (state_of journal).passed)
  seen_next reply made replies =
      replies.reply_is ∙ ap (λ j. reply_of j TakeInward) (one_journal log replies.journal journal (replies.is).told here.told) ∙ laws.takes

  seen_grows : (later : List Entry) (longer : Journal) → IsJournalOf (log ++ later) longer → Grows (state_of journal) (state_of longer)
  seen_grows later longer more_seen =
      let more = journal_later log later journal longer here.told more_seen.told in
      subst (λ j. Grows (state_of journal) (state_of j)) (sym more.2) (laws.grows more.0 (subst IsJournal more.2 more_seen.made))

  seen_bytes : (later : List Entry) (longer : Journal) → IsJournalOf (log ++ later) longer → (rid : ℕ) (bytes : List ℕ)
      → bytes_for (state_of journal) rid ≡ Some bytes → bytes_for (state_of longer) rid ≡ Some bytes
  seen_bytes later longer more_seen rid bytes is =
      let more = journal_later log later journal longer here.told more_seen.told in
      subst (λ j. bytes_for (state_of j) rid ≡ Some bytes) (sym more.2) (laws.same_bytes more.0 (subst IsJournal more.2 more_seen.made) rid bytes is)

  -- whatever may be entered, a call or a limit
  ends_by : (ending : Ending) → is_over (state_of journal) ≡ false → (entered : plain.Entered) → MayEnter (state_of journal) entered
      → ((after_entry (state_of journal) entered).ending ≡ Some ending) ↔ Fact (tested_at (state_of journal) entered) entered (after_entry (state_of journal) entered) ending
  ends_by ending on (plain.Made call) may = laws.ends call (plain.Made call) ending may.0 may.1 on
  ends_by ending on (plain.Limit kind cost now) may = laws.ends_at_limit kind cost now ending may

  seen_ends : (e : Entry) (longer : Journal) (ending : Ending) → IsJournalOf (log ++ e ∷ []) longer → is_over (state_of journal) ≡ false
      → (entered : plain.Entered) × (entered_in e.call ≡ Some entered)
      × (((state_of longer).ending ≡ Some ending) ↔ Fact (tested_at (state_of journal) entered) entered (state_of longer) ending)
  seen_ends e longer ending more_seen on =
      let s : PlainSession = state_of journal in
      let later = journal_later log (e ∷ []) journal longer here.told more_seen.told in
      let one = one_there e later.0 later.1 in
      let x : plain.Entry = record { caller = e.caller; entered = one.0 } in
      let same : longer ≡ with_later journal (x ∷ []) = later.2 ∙ ap (with_later journal) one.2 in
      let made : IsJournal (with_later journal (x ∷ [])) = subst IsJournal same more_seen.made in
      let may : MayEnter s one.0 = last_may journal x made in
      let after : after_entry s one.0 ≡ state_of longer = sym (state_one_more journal x) ∙ ap state_of (sym same) in
      (one.0, one.1, subst (λ u. (u.ending ≡ Some ending) ↔ Fact (tested_at s one.0) one.0 u ending) after (ends_by ending on one.0 may))

  pub seen_keeps : SeenLaws log journal
  seen_keeps = record {
    longest_run = laws.run;
    taken = laws.passed;
    next_taken = seen_next;
    kept_again = seen_again;
    ends_by_rule = seen_ends;
    grows = seen_grows;
    same_bytes = seen_bytes;
    laws = laws;
  }
