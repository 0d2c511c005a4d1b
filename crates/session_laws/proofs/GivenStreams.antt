-- What the server gave lies on streams that were opened.
use Rattle.std.proofs.Common.{◌≡◌, ◌<◌, ◌≤◌, ℕ, true, false, not, ◌&&◌, All, List, [], ◌∷◌, ◌++◌, Some, length, map, slice_get, refl, sym, ◌∙◌, ap, arith, subst}
use Rattle.std.specs.List.{list_any}
use Rattle.std.proofs.lemmas.Bool.{ltb-true}
use Rattle.std.proofs.lemmas.List.Elements.{All-nil, All-cons, All-append}
use Rattle.std.proofs.lemmas.List.Sums.{sum_by-append}
use Rattle.std.proofs.lemmas.Option.{get_or_from_slice_get}
use Rattle.std.specs.Prelude.{is_some, if◌then◌else◌}
use Rattle.bosh_types.specs.Limits.{most_streams}
use Rattle.bosh_types.specs.declared.ending.Closing.{Closing}
use Rattle.stream_names.specs.Streams.{is_among}
use Rattle.session_core.specs.declared.outward.Outward.{Outward}
use Rattle.session_core.specs.declared.outward.Outward.TheVariants.{Stanza, Close}
use Rattle.session_core.specs.declared.replies.Taken.{Taken}
use Rattle.session_core.specs.declared.replies.Taken.TheVariants as takings
use Rattle.session_core.specs.Copy.{unnamed}
use Rattle.session_core.specs.Journal.{Entered, Journal, IsJournal, after_entry, state_of, MayEnter}
use Rattle.session_core.specs.Machine.{opened, back, back_closed, takes_items}
use Rattle.session_core.specs.Outward.{is_close_of, stream_in}
use Rattle.session_core.specs.Passed.{given_by, if_done}
use Rattle.session_core.specs.Processed.{Processed}
use Rattle.session_core.specs.State.{PlainSession, is_over, opened_in, running}
use Rattle.session_core.specs.Time.{time_applied}
use Rattle.session_laws.specs.Growing.{Begins}
use Rattle.session_laws.proofs.Frames.{time_leaves}
use Rattle.session_laws.proofs.GivenIn.{one as given_one, entry_gives}
use Rattle.session_laws.proofs.Grows.{begins_same, processed_grows}
use Rattle.session_laws.proofs.Lists.{get_within}
use Rattle.session_laws.proofs.OpenStreams.{open_is, open_parts}
use Rattle.session_laws.proofs.ReplyLemmas.{back_done, closed_done}
use Rattle.session_laws.proofs.Steadily.{steady-entry}
use Rattle.session_laws.proofs.Steps.{entry-by, along}
use Rattle.session_laws.proofs.Tests.{both_true}

-- it lies on one of so many streams that were opened
pub record IsOn (count : ℕ) (item : Outward) : Type 0 where
  pub below : stream_in item < count
  pub few : stream_in item < most_streams

-- a stream that takes items is open
takes_on : (s : PlainSession) (now stream : ℕ) → takes_items (time_applied s now) stream ≡ true → (stream < opened_in s.processed) × (stream < most_streams)
takes_on s now stream takes =
    let t : PlainSession = time_applied s now in
    let a = both_true (not (is_over t) && is_among (running t) stream) (not (list_any (is_close_of stream) t.given)) takes in
    let b = both_true (not (is_over t)) (is_among (running t) stream) a.0 in
    let open_now = open_is t.processed t.answered stream b.1 in
    let less = ltb-true stream (opened_in t.processed) (open_parts t.processed t.answered stream open_now.1).0 in
    let same : opened_in t.processed ≡ opened_in s.processed = ap (λ (u : PlainSession). opened_in u.processed) (time_leaves s now) in
    (omega (arith, less, same), open_now.0)

done_on : (count : ℕ) (item : Outward) (r : Taken) → (r ≡ takings.Done → (stream_in item < count) × (stream_in item < most_streams)) → All (IsOn count) (given_one (if_done item r))
done_on count item takings.Done on =
    let is = on refl in
    All-cons (IsOn count) item [] (record { below = is.0; few = is.1 }) (All-nil (IsOn count))
done_on count item takings.Full on = All-nil (IsOn count)
done_on count item takings.Over on = All-nil (IsOn count)

entry_on : (s : PlainSession) (entered : Entered) → MayEnter s entered → All (IsOn (opened_in s.processed)) (given_one (given_by s entered))
entry_on s entered may = entry-by s (λ e u. All (IsOn (opened_in s.processed)) (given_one (given_by s e))) (record {
  arrives = λ request body now allowed on room. All-nil (IsOn (opened_in s.processed));
  backs = λ stream stanza now allowed on room.
      done_on (opened_in s.processed) (Stanza stream stanza) (back s stream stanza now).1 (λ done. takes_on s now stream ((back_done s stream stanza now).0 done).0.2);
  closes = λ stream closing now on room.
      done_on (opened_in s.processed) (Close stream closing) (back_closed s stream closing now).1 (λ done. takes_on s now stream ((closed_done s stream closing now).0 done).2);
  ticks = λ now on due room. All-nil (IsOn (opened_in s.processed));
  collects = λ index ticket is. All-nil (IsOn (opened_in s.processed));
  takes = λ item is. All-nil (IsOn (opened_in s.processed));
  limits = λ kind cost now on full. All-nil (IsOn (opened_in s.processed));
}) entered may

-- more are opened, and none fewer
pub opened_grows : (xs ys : List Processed) → Begins xs ys → opened_in xs ≤ opened_in ys
opened_grows xs ys b =
    let sum = sum_by-append (λ (one : Processed). if is_some one.opened then 1 else 0) xs b.0 in
    omega (arith, sum, ap opened_in b.1)

wider : (few more : ℕ) (items : List Outward) → few ≤ more → All (IsOn few) items → All (IsOn more) items
wider few more items within all k d at =
    let is = all k d at in
    record { below = omega (arith, is.below, within); few = is.few }

greeting_on : (greeting : List (List ℕ)) → All (IsOn 1) (map (Stanza unnamed) greeting)
greeting_on [] = All-nil (IsOn 1)
greeting_on (stanza ∷ greeting) =
    All-cons (IsOn 1) (Stanza unnamed stanza) (map (Stanza unnamed) greeting) (record { below = omega arith; few = omega arith }) (greeting_on greeting)

pub every_given_on : (journal : Journal) → IsJournal journal → All (IsOn (opened_in (state_of journal).processed)) (state_of journal).given
every_given_on journal made = along (opened journal.opening) (λ past s. All (IsOn (opened_in s.processed)) s.given)
    (λ past s entry may same all.
    let t : PlainSession = after_entry s entry.entered in
    let grows : Begins s.processed t.processed = steady-entry _ (processed_grows s) s entry.entered may (begins_same s.processed) in
    let more : opened_in s.processed ≤ opened_in t.processed = opened_grows s.processed t.processed grows in
    wider (opened_in s.processed) (opened_in t.processed) t.given more
    (subst (All (IsOn (opened_in s.processed))) (sym (entry_gives s entry.entered may))
    (All-append (IsOn (opened_in s.processed)) s.given (given_one (given_by s entry.entered)) all (entry_on s entry.entered may))))
    journal.entries made.1 (greeting_on journal.opening.greeting)

pub every_item_on : (journal : Journal) → IsJournal journal → (k : ℕ) (item : Outward) → slice_get (state_of journal).given k ≡ Some item
    → (stream_in item < opened_in (state_of journal).processed) × (stream_in item < most_streams)
every_item_on journal made k item at =
    let n : ℕ = opened_in (state_of journal).processed in
    let is : IsOn n item = subst (IsOn n) (get_or_from_slice_get (state_of journal).given k item item at) (every_given_on journal made k item (get_within (state_of journal).given k item at)) in
    (is.below, is.few)
