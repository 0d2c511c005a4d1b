-- Each copy of the run broke no rule when it was tested, and the run of a session that has ended stops for a reason.
use Rattle.std.proofs.Common.{◌≡◌, ℕ, ◌+◌, ◌≤◌, true, false, not, List, [], ◌∷◌, ◌++◌, map, Option, Some, None, length, slice_get, refl, sym, ◌∙◌, ap, arith, subst, inl, inr}
use Rattle.std.proofs.lemmas.List.{append-nil}
use Rattle.bosh_types.specs.Rid.{greatest_rid}
use Rattle.bosh_types.specs.declared.ending.Ending.{Ending}
use Rattle.bosh_types.specs.declared.ending.Ending.TheVariants as endings
use Rattle.session_attrs.specs.declared.request.Request.{Request}
use Rattle.session_core.specs.declared.copy.RequestCopy.{RequestCopy}
use Rattle.session_core.specs.declared.outward.Outward.{Outward}
use Rattle.session_core.specs.declared.outward.Outward.TheVariants.{Stanza, Close}
use Rattle.session_core.specs.declared.replies.Arrived.{Arrived}
use Rattle.session_core.specs.declared.replies.Arrived.TheVariants as arrivals
use Rattle.session_core.specs.declared.replies.Taken.{Taken}
use Rattle.session_core.specs.Answers.{settled}
use Rattle.session_core.specs.Copy.{id_of}
use Rattle.session_core.specs.Endings.{ended as ended_by}
use Rattle.session_core.specs.Kept.{lowest_kept}
use Rattle.session_core.specs.Journal.{Arrive, Made, Entered, Entry, Journal, IsJournal, IsMade, none, after_entry, after_entries, state_of, MayEnter}
use Rattle.session_core.specs.Machine.{opened, creation_of, advanced, placed, bytes_for, wait_at, copy_now, arrived_in_time, with_cost, body_cost, stanza_cost, plain_cost, takes_items, has_room, with_item, full_with, use_up}
use Rattle.session_core.specs.declared.opening.Opening.{Opening}
use Rattle.session_core.specs.Processed.{Processed, copies_of}
use Rattle.session_core.specs.Run.{IsRun, Lacks, placings_of, placings_with}
use Rattle.session_laws.specs.RunEnded.{BreaksNoRule, GoesNoFurther, IsRunOfEnded}
use Rattle.session_core.specs.State.{PlainSession, Placing, Stands, Strikes, last_of, is_over}
use Rattle.session_core.specs.Time.{time_applied}
use Rattle.session_core.specs.Window.{is_open}
use Rattle.session_laws.proofs.Tests.{split, is_or_not, true_false}
use Rattle.session_laws.proofs.Frames.{settled_leaves, time_leaves, advanced_leaves}
use Rattle.session_laws.proofs.Moves.{advanced-by}
use Rattle.session_laws.proofs.Steps.{arrival-by, entry-by, along, after-push}
use Rattle.session_laws.proofs.Steadily.{steady-advanced, steady-entry, steady-placed, steady-time}
use Rattle.session_laws.proofs.Clear.{advanced_clear}
use Rattle.session_laws.proofs.Read.{read-rid}
use Rattle.session_laws.proofs.Received.{lacks_strikes}
use Rattle.session_laws.proofs.Followed.{IsFollowed, followed_steady, opened_followed, every_creation, every_run}
use Rattle.session_laws.proofs.EndsBack.{Ends, Underway, placed_underway, time_ends, entry_ends, opened_ends, over_or_on}
use Rattle.session_laws.proofs.Grows.{told_stays}
use Rattle.session_laws.proofs.JournalLemmas.{journal_with}
use Rattle.session_laws.proofs.OneMore.{made_push}
use Rattle.session_laws.proofs.TimeStruck.{strikes_of, time_placings}
use Rattle.session_laws.proofs.AckLemmas.{Acknowledges, acks_more}
use Rattle.session_laws.proofs.Bytes.{IsFirstAnswer, first_answer_steady}
use Rattle.session_laws.proofs.RunRules.{HasKey, key_steady, keeps_more, placings_in, stops_more, next_not, at_end, Walk, walking}

-- Along a journal.
record Ruled (o : Opening) (past : List Entry) (s : PlainSession) : Type 0 where
  made : IsMade (opened o) past
  follows : IsFollowed s
  ends : Ends s
  key : HasKey o.request.newkey s
  creation : s.creation ≡ creation_of o
  first : IsFirstAnswer s
  keeps : BreaksNoRule (journal_with o past) s.processed
  acks : Acknowledges (journal_with o past) s.reporting.on s.acknowledged s.processed
  stops : is_over s ≡ true → GoesNoFurther (journal_with o past) s.processed

-- it processed and acknowledged as much, and no copy came to stand
record SameAs (s u : PlainSession) : Type 0 where
  processed : u.processed ≡ s.processed
  acks : (u.reporting.on ≡ s.reporting.on) × (u.acknowledged ≡ s.acknowledged)
  struck : List ℕ
  moment : ℕ
  placings : u.placings ≡ s.placings ++ map (λ rid. Strikes rid moment) struck

module _ (o : Opening) (past : List Entry) (entry : Entry) (s : PlainSession) (same : s ≡ after_entries (opened o) past) (r : Ruled o past s) (made : IsMade (opened o) (past ++ entry ∷ [])) where
  abbrev Result : PlainSession → Type 0
  Result u =
      BreaksNoRule (journal_with o (past ++ entry ∷ [])) u.processed × (is_over u ≡ true → GoesNoFurther (journal_with o (past ++ entry ∷ [])) u.processed)
      × Acknowledges (journal_with o (past ++ entry ∷ [])) u.reporting.on u.acknowledged u.processed

  acks_same : (u : PlainSession) → SameAs s u → Acknowledges (journal_with o (past ++ entry ∷ [])) u.reporting.on u.acknowledged u.processed
  acks_same u far =
      subst (λ l. Acknowledges (journal_with o (past ++ entry ∷ [])) u.reporting.on u.acknowledged l) (sym far.processed)
      (subst (λ on. Acknowledges (journal_with o (past ++ entry ∷ [])) on u.acknowledged s.processed) (sym (far.acks).0)
      (subst (λ n. Acknowledges (journal_with o (past ++ entry ∷ [])) s.reporting.on n s.processed) (sym (far.acks).1)
      (acks_more o past entry s.reporting.on s.acknowledged s.processed made r.keeps r.acks)))

  -- it is the session after the entry, as far as its ending and what came to the places of ids
  abbrev Ended : PlainSession → Type 0
  Ended u = (is_over u ≡ true → is_over (after_entries (opened o) (past ++ entry ∷ [])) ≡ true) × (placings_in o u ≡ placings_with o (past ++ entry ∷ []))

  keeps_same : (u : PlainSession) → u.processed ≡ s.processed → BreaksNoRule (journal_with o (past ++ entry ∷ [])) u.processed
  keeps_same u is = subst (BreaksNoRule (journal_with o (past ++ entry ∷ []))) (sym is) (keeps_more o past entry s.processed r.keeps)

  s_placings : placings_in o s ≡ placings_with o past
  s_placings = ap (placings_in o) same

  s_none : is_over s ≡ false → Lacks (placings_in o s) (o.request.rid + 1 + length s.processed)
  s_none on = next_not o s r.creation r.follows ((r.ends).1) on

  not_past : (u : PlainSession) → u.processed ≡ s.processed → is_over s ≡ false → Lacks (placings_with o past) (o.request.rid + 1 + length u.processed)
  not_past u is on =
      subst (λ (copies : List Processed). Lacks (placings_with o past) (o.request.rid + 1 + length copies)) (sym is)
      (subst (λ l. Lacks l (o.request.rid + 1 + length s.processed)) s_placings (s_none on))

  -- strikes bring no copy
  not_now : (u : PlainSession) → SameAs s u → is_over s ≡ false → Lacks (placings_in o u) (o.request.rid + 1 + length u.processed)
  not_now u far on =
      subst (λ (copies : List Processed). Lacks (placings_in o u) (o.request.rid + 1 + length copies)) (sym far.processed)
      (subst (λ l. Lacks (Stands (creation_of o) ∷ l) (o.request.rid + 1 + length s.processed)) (sym far.placings)
      (lacks_strikes far.struck far.moment (placings_in o s) (o.request.rid + 1 + length s.processed) (s_none on)))

  -- nothing was processed, and no copy came to stand
  unprocessed : (e : Entered) (u : PlainSession) → entry.entered ≡ e → SameAs s u → is_over s ≡ false → Ended u → Result u
  unprocessed e u is far on ended = (
    keeps_same u far.processed,
    (λ over. at_end o past entry s same e is on (ended.0 over) u.processed (length u.processed, omega arith, not_past u far.processed on)
        (λ goes. subst (λ l. Lacks l (o.request.rid + 1 + length u.processed)) ended.1 (not_now u far on))),
    acks_same u far,
  )

  module _ (request : Request) (body : List ℕ) (now : ℕ) (is : entry.entered ≡ Made (Arrive request body now)) (on : is_over s ≡ false) (small : request.rid ≤ greatest_rid) where
    abbrev t : PlainSession
    t = with_cost (body_cost request body) (time_applied s now)

    abbrev copy : RequestCopy
    copy = copy_now t request body

    t_processed : t.processed ≡ s.processed
    t_processed = ap (λ (v : PlainSession). v.processed) (time_leaves s now)

    t_far : SameAs s t
    t_far = record {
      processed = t_processed;
      acks = (ap (λ (v : PlainSession). v.reporting.on) (time_leaves s now), ap (λ (v : PlainSession). v.acknowledged) (time_leaves s now));
      struck = strikes_of s now;
      moment = (time_applied s now).now;
      placings = time_placings s now;
    }

    t_creation : t.creation ≡ creation_of o
    t_creation = ap (λ (v : PlainSession). v.creation) (time_leaves s now) ∙ r.creation

    t_ends : Ends t
    t_ends = time_ends s now on r.ends

    t_key : HasKey o.request.newkey t
    t_key = steady-time (HasKey o.request.newkey) (key_steady o.request.newkey) s now r.key

    t_follows : IsFollowed t
    t_follows = steady-time IsFollowed followed_steady s now r.follows

    -- it ended with this arrival, which found no place
    ended_at : (ending : Ending) → Ended (ended_by ending t) → Result (ended_by ending t)
    ended_at ending ended = unprocessed (Made (Arrive request body now)) (ended_by ending t) is (record { processed = t_processed; acks = t_far.acks; struck = t_far.struck; moment = t_far.moment; placings = t_far.placings }) on ended

    module _ (goes : is_over t ≡ false) (new : is_open t (id_of copy) ≡ false) where
      abbrev p : PlainSession
      p = placed t copy

      p_underway : Underway p
      p_underway = placed_underway t copy goes new small t_ends

      p_follows : IsFollowed p
      p_follows = steady-placed IsFollowed followed_steady t copy new small t_follows

      t_none : Lacks (placings_with o past) (o.request.rid + 1 + length t.processed)
      t_none = not_past t t_processed on

      start : Underway p × Walk o past entry s same request body now is p p
      start = (
        p_underway,
        (
          record {
            creation_is = refl;
            terms_are = refl;
            created_is = refl;
            answered_are = refl;
            placings_are = refl;
            key_is = t_key;
            longer = omega arith;
            keeps = keeps_same t t_processed;
          },
          λ over. absurd (over_or_on t over goes),
          acks_same t t_far,
        ),
      )

      t_first : IsFirstAnswer t
      t_first = steady-time IsFirstAnswer first_answer_steady s now r.first

      walked : placings_in o p ≡ placings_with o (past ++ entry ∷ []) → Underway (advanced p) × Walk o past entry s same request body now is p (advanced p)
      walked reached =
          advanced-by (λ u. Underway u × Walk o past entry s same request body now is p u)
          (walking o past entry s same request body now is p t_creation refl p_follows reached made t_none t_first goes) p start

      -- the new copy and those that follow were processed, and what was held was answered
      advanced_result : Ended (settled (advanced p)) → Result (settled (advanced p))
      advanced_result ended =
          let a : PlainSession = advanced p in
          let u : PlainSession = settled a in
          let processed : u.processed ≡ a.processed = ap (λ (v : PlainSession). v.processed) (settled_leaves a) in
          let u_placings : u.placings ≡ a.placings = ap (λ (v : PlainSession). v.placings) (settled_leaves a) in
          let a_placings : a.placings ≡ p.placings = ap (λ (v : PlainSession). v.placings) (advanced_leaves p) in
          let reached : placings_in o p ≡ placings_with o (past ++ entry ∷ []) = ap (λ l. Stands (creation_of o) ∷ l) (sym (u_placings ∙ a_placings)) ∙ ended.1 in
          let walked_on = walked reached in
          let w = (walked_on.1).0 in (
            subst (BreaksNoRule (journal_with o (past ++ entry ∷ []))) (sym processed) w.keeps,
            (λ over. subst (GoesNoFurther (journal_with o (past ++ entry ∷ []))) (sym processed)
                (elim (is_or_not (is_over a)) [
                  | inl a_over ↦ (walked_on.1).1 a_over
                  | inr a_on ↦ (
                      let follows : IsFollowed a = steady-advanced IsFollowed followed_steady p p_follows in
                      let none : Lacks (placings_with o (past ++ entry ∷ [])) (o.request.rid + 1 + length a.processed) =
                      subst (λ l. Lacks l (o.request.rid + 1 + length a.processed)) (ap (λ l. Stands (creation_of o) ∷ l) a_placings ∙ reached)
                      (next_not o a (w.creation_is ∙ t_creation) follows (advanced_clear p p_underway.0) a_on) in
                      at_end o past entry s same (Made (Arrive request body now)) is on (ended.0 over) a.processed (length t.processed, w.longer, t_none) (λ goes_on. none))
                ])),
            subst (λ l. Acknowledges (journal_with o (past ++ entry ∷ [])) u.reporting.on u.acknowledged l) (sym processed)
                (subst (λ on. Acknowledges (journal_with o (past ++ entry ∷ [])) on u.acknowledged a.processed) (sym (ap (λ (v : PlainSession). v.reporting.on) (settled_leaves a)))
                (subst (λ n. Acknowledges (journal_with o (past ++ entry ∷ [])) a.reporting.on n a.processed) (sym (ap (λ (v : PlainSession). v.acknowledged) (settled_leaves a))) (walked_on.1).2)),
          )

    replied_result : (u : PlainSession) → (Ended u → Result u) → (b : Option (List ℕ)) → Ended (elim b as (λ x. PlainSession × Arrived) [ Some bytes ↦ (u, arrivals.Answer bytes) | None ↦ wait_at u (id_of copy) ]).0
        → Result (elim b as (λ x. PlainSession × Arrived) [ Some bytes ↦ (u, arrivals.Answer bytes) | None ↦ wait_at u (id_of copy) ]).0
    replied_result u f (Some bytes) ended = f ended
    replied_result u f None ended = f ended

    arrived_result : Ended (arrived_in_time t request body).0 → Result (arrived_in_time t request body).0
    arrived_result = arrival-by t request body (λ x. Ended x.0 → Result x.0) (record {
      over = λ over ended. unprocessed (Made (Arrive request body now)) t is t_far on ended;
      again = λ answer goes within at ended. (keeps_same t t_processed, (λ over. absurd (over_or_on t over goes)), acks_same t t_far);
      stale = λ goes within at ended. ended_at (endings.Stale (id_of copy) (lowest_kept t)) ended;
      repeats = λ goes later open_now ended. (keeps_same t t_processed, (λ over. absurd (over_or_on t over goes)), acks_same t t_far);
      above = λ goes later new beyond ended. ended_at (endings.Above (id_of copy) (last_of t) t.terms.requests) ended;
      fresh = λ goes later new within ended.
          replied_result (settled (advanced (placed t copy))) (advanced_result goes new) (bytes_for (settled (advanced (placed t copy))) (id_of copy)) ended;
    })

none_struck : (placings : List Placing) → placings ≡ placings ++ map (λ rid. Strikes rid 0) []
none_struck placings = sym (append-nil placings)

item_far : (s t : PlainSession) (item : Outward) → SameAs s t → SameAs s (with_item t item).0
item_far s t item far =
    let e = settled_leaves (record t { given = t.given ++ item ∷ [] }) in
    record {
      processed = ap (λ (v : PlainSession). v.processed) e ∙ far.processed;
      acks = (ap (λ (v : PlainSession). v.reporting.on) e ∙ (far.acks).0, ap (λ (v : PlainSession). v.acknowledged) e ∙ (far.acks).1);
      struck = far.struck;
      moment = far.moment;
      placings = ap (λ (v : PlainSession). v.placings) e ∙ far.placings;
    }

time_far : (s : PlainSession) (now cost : ℕ) → SameAs s (with_cost cost (time_applied s now))
time_far s now cost = record {
  processed = ap (λ (v : PlainSession). v.processed) (time_leaves s now);
  acks = (ap (λ (v : PlainSession). v.reporting.on) (time_leaves s now), ap (λ (v : PlainSession). v.acknowledged) (time_leaves s now));
  struck = strikes_of s now;
  moment = (time_applied s now).now;
  placings = time_placings s now;
}

ruled_result : (o : Opening) (past : List Entry) (s : PlainSession) (entry : Entry) (same : s ≡ after_entries (opened o) past) (r : Ruled o past s) (made : IsMade (opened o) (past ++ entry ∷ [])) → MayEnter s entry.entered
    → Result o past entry s same r made (after_entry s entry.entered)
ruled_result o past s entry same r made may = entry-by s (λ e u. entry.entered ≡ e → Ended o past entry s same r made u → Result o past entry s same r made u) (record {
  arrives = λ request body now allowed on room at ended. arrived_result o past entry s same r made request body now at on (read-rid body request allowed.0).1 ended;
  backs = λ stream stanza now allowed on room at.
      let t : PlainSession = with_cost (stanza_cost stanza) (time_applied s now) in
      let far : SameAs s t = time_far s now (stanza_cost stanza) in
      let stays = unprocessed o past entry s same r made _ t at far on in
      split (λ (x : PlainSession × Taken). Ended o past entry s same r made x.0 → Result o past entry s same r made x.0) (not (takes_items t stream)) _ _ (λ none. stays)
      (λ takes. split (λ (x : PlainSession × Taken). Ended o past entry s same r made x.0 → Result o past entry s same r made x.0) (has_room t stanza) _ _
      (λ room. unprocessed o past entry s same r made _ (with_item t (Stanza stream stanza)).0 at (item_far s t (Stanza stream stanza) far) on) (λ none. stays));
  closes = λ stream closing now on room at.
      let t : PlainSession = with_cost plain_cost (time_applied s now) in
      let far : SameAs s t = time_far s now plain_cost in
      split (λ (x : PlainSession × Taken). Ended o past entry s same r made x.0 → Result o past entry s same r made x.0) (takes_items t stream) _ _
      (λ takes. unprocessed o past entry s same r made _ (with_item t (Close stream closing)).0 at (item_far s t (Close stream closing) far) on)
      (λ none. unprocessed o past entry s same r made _ t at far on);
  ticks = λ now on due room at. unprocessed o past entry s same r made _ (with_cost plain_cost (time_applied s now)) at (time_far s now plain_cost) on;
  collects = λ index ticket held_out at ended.
      let u : PlainSession = use_up s index ticket in
      stays_ruled o past entry s same r made u refl (refl, refl) ended;
  takes = λ item there at ended. stays_ruled o past entry s same r made (record s { passed = s.passed + 1 }) refl (refl, refl) ended;
  limits = λ kind cost now on full at. unprocessed o past entry s same r made _ (full_with cost s) at (record { processed = refl; acks = (refl, refl); struck = []; moment = 0; placings = none_struck s.placings }) on;
}) entry.entered may refl (
  (λ over. ap is_over (after-push (opened o) past entry ∙ ap (λ u. after_entry u entry.entered) (sym same)) ∙ over),
  ap (placings_in o) (sym (after-push (opened o) past entry ∙ ap (λ u. after_entry u entry.entered) (sym same))),
)
  where
    stays_ruled : (o : Opening) (past : List Entry) (entry : Entry) (s : PlainSession) (same : s ≡ after_entries (opened o) past) (r : Ruled o past s) (made : IsMade (opened o) (past ++ entry ∷ [])) (u : PlainSession)
        → u ≡ record s { tickets = u.tickets; passed = u.passed } → (u.reporting.on ≡ s.reporting.on) × (u.acknowledged ≡ s.acknowledged) → Ended o past entry s same r made u → Result o past entry s same r made u
    stays_ruled o past entry s same r made u is acks ended =
        let processed : u.processed ≡ s.processed = ap (λ (v : PlainSession). v.processed) is in
        let placings : u.placings ≡ s.placings = ap (λ (v : PlainSession). v.placings) is in
        let still : placings_with o past ≡ placings_with o (past ++ entry ∷ []) = sym (s_placings o past entry s same r made) ∙ ap (λ l. Stands (creation_of o) ∷ l) (sym placings) ∙ ended.1 in (
          keeps_same o past entry s same r made u processed,
          (λ over. subst (GoesNoFurther (journal_with o (past ++ entry ∷ []))) (sym processed) (stops_more o past entry s.processed still (r.stops (sym (ap is_over is) ∙ over)))),
          acks_same o past entry s same r made u (record { processed = processed; acks = acks; struck = []; moment = 0; placings = placings ∙ none_struck s.placings }),
        )

ruled_more : (o : Opening) (past : List Entry) (s : PlainSession) (entry : Entry) → MayEnter s entry.entered → s ≡ after_entries (opened o) past → Ruled o past s → Ruled o (past ++ entry ∷ []) (after_entry s entry.entered)
ruled_more o past s entry may same r =
    let u : PlainSession = after_entry s entry.entered in
    let told = steady-entry _ (told_stays s) s entry.entered may (refl, refl, refl, refl) in
    let made : IsMade (opened o) (past ++ entry ∷ []) = made_push entry r.made (subst (λ (v : PlainSession). MayEnter v entry.entered) same may) in
    let result = ruled_result o past s entry same r made may in
    record {
      made = made;
      follows = steady-entry IsFollowed followed_steady s entry.entered may r.follows;
      ends = entry_ends s entry.entered may r.ends;
      key = steady-entry (HasKey o.request.newkey) (key_steady o.request.newkey) s entry.entered may r.key;
      creation = told.0 ∙ r.creation;
      first = steady-entry IsFirstAnswer first_answer_steady s entry.entered may r.first;
      keeps = result.0;
      stops = result.1;
      acks = result.2;
    }

opened_ruled : (o : Opening) → Ruled o [] (opened o)
opened_ruled o = record {
  made = none;
  follows = opened_followed o;
  ends = opened_ends o;
  key = refl;
  creation = refl;
  keeps = record { tried = λ k one at. absurd (no_one k one at); opens = λ k one at. absurd (no_one k one at); terminate = λ k one at. absurd (no_one k one at) };
  first = refl;
  acks = record { forth = λ on rid some within. absurd (omega arith); back = λ on rid a. absurd (no_one a.0 a.1 a.6); off = λ on. refl };
  stops = λ over. absurd (true_false (sym over));
}
  where
    no_one : (k : ℕ) (one : Processed) → slice_get [] k ≡ Some one → ⊥
    no_one k one is = cc

pub every_ruled : (journal : Journal) → IsJournal journal → BreaksNoRule journal (state_of journal).processed × (is_over (state_of journal) ≡ true → GoesNoFurther journal (state_of journal).processed)
    × Acknowledges journal (state_of journal).reporting.on (state_of journal).acknowledged (state_of journal).processed
every_ruled journal made =
    let r = along (opened journal.opening) (Ruled journal.opening) (λ past s entry may same r. ruled_more journal.opening past s entry may same r) journal.entries made.1 (opened_ruled journal.opening) in
    (r.keeps, r.stops, r.acks)

-- the run of a session that has ended
pub every_at_end : (journal : Journal) → IsJournal journal → is_over (state_of journal) ≡ true → IsRunOfEnded journal (state_of journal).processed
every_at_end journal made over =
    let r = every_ruled journal made in
    record {
      each = subst (λ (c : RequestCopy). IsRun journal.opening.request.rid (placings_of journal) (c ∷ copies_of (state_of journal).processed)) (every_creation journal made) (every_run journal made);
      rules = r.0;
      stops = r.1 over;
    }
