-- A session that goes on ends exactly where the fact of its ending holds.
use Rattle.std.proofs.Common.{◌≡◌, ℕ, ◌+◌, ◌*◌, ◌<◌, ◌≤◌, ◌==◌, ◌&&◌, ◌||◌, Bool, true, false, not, List, [], ◌∷◌, ◌++◌, Option, Some, None, nat_le, is_some, length, refl, sym, ◌∙◌, ap, ap₂, arith, subst, inl, inr}
use Rattle.std.specs.List.{list_any}
use Rattle.std.proofs.lemmas.Bool.{ltb-true, leb-true, leb-false, eqb-true}
use Rattle.std.proofs.lemmas.List.{nil_from_length}
use Rattle.bosh_types.specs.Rid.{greatest_rid}
use Rattle.bosh_types.specs.declared.ending.Ending.{Ending}
use Rattle.bosh_types.specs.declared.ending.Ending.TheVariants.{Terminated, Stale, Above, WrongKey, UnknownStream, PauseTooLong, Overactive, Silent, Closed, JournalFull}
use Rattle.pause_rules.specs.Due.{is_silent_due}
use Rattle.rid_window.specs.PlainWindow.{reach}
use Rattle.session_attrs.specs.declared.request.Request.{Request}
use Rattle.session_core.specs.declared.copy.RequestCopy.{RequestCopy}
use Rattle.session_core.specs.declared.outward.Front.TheVariants.{OfClosing}
use Rattle.session_core.specs.declared.outward.Outward.{Outward}
use Rattle.session_core.specs.declared.outward.Outward.TheVariants.{Stanza, Close}
use Rattle.session_core.specs.declared.replies.Arrived.{Arrived}
use Rattle.session_core.specs.declared.replies.Arrived.TheVariants as arrivals
use Rattle.session_core.specs.declared.replies.Taken.{Taken}
use Rattle.session_core.specs.Answers.{with_answer, settled}
use Rattle.session_core.specs.Copy.{id_of, is_extra}
use Rattle.session_core.specs.Endings.{ended}
use Rattle.session_core.specs.Facts.{Fact, NamesOpen}
use Rattle.session_core.specs.Journal.{Arrive, Back, BackClosed, Tick, Limit, Made, Entered, after_entry, MayEnter}
use Rattle.session_core.specs.Gap.{strike, struck}
use Rattle.session_core.specs.Kept.{kept_of, lowest_kept}
use Rattle.session_core.specs.Machine.{advanced, as_processed, placed, bytes_for, wait_at, copy_now, reopened, arrived_in_time, with_cost, body_cost, stanza_cost, plain_cost, takes_items, has_room, with_item, full_with, with_copy}
use Rattle.session_core.specs.Points.{tested_at}
use Rattle.session_core.specs.Processed.{ends as ends_it}
use Rattle.session_core.specs.Rules.{broken_rule, asked_of, names_none}
use Rattle.session_core.specs.State.{PlainSession, Answered, Issued, last_of, answered_of, held, beyond, running, standing, standing_at, is_over}
use Rattle.session_core.specs.Time.{time_applied, at_moment, owes_nothing_beyond, quiet_of}
use Rattle.session_core.specs.Window.{is_open, is_above}
use Rattle.session_laws.proofs.Tests.{split, both_true, either, neither, is_or_not, none_some, some_is, true_false}
use Rattle.session_laws.proofs.Steadily.{is_none}
use Rattle.session_laws.proofs.Lists.{at_id-has}
use Rattle.session_laws.proofs.Moves.{Answering, Processing, settled-by, struck-by, advanced-by, silenced_as}
use Rattle.session_laws.proofs.OpenStreams.{names_open, names_shut}
use Rattle.session_laws.proofs.Read.{read-rid}
use Rattle.session_laws.proofs.RuleLemmas.{rule-by, key_broken, stream_broken, pause_broken, active_broken}
use Rattle.session_laws.proofs.EndsBack.{Ends, NoTerminate, Underway, underway_processing, placed_underway, time_ends, entry_ends, answer_last, over_or_on, no_ending}
use Rattle.session_laws.proofs.Steps.{arrival-by, entry-by}

-- if it has ended, the fact of that ending holds
abbrev HasFact : PlainSession → Entered → PlainSession → Type 0
HasFact tested entered s = (ending : Ending) → s.ending ≡ Some ending → Fact tested entered s ending

goes_fact : (tested : PlainSession) (entered : Entered) (s : PlainSession) → is_over s ≡ false → HasFact tested entered s
goes_fact tested entered s on ending is = absurd (no_ending s ending on is)

one_fact : (tested : PlainSession) (entered : Entered) (s : PlainSession) (here : Ending) → s.ending ≡ Some here → Fact tested entered s here → HasFact tested entered s
one_fact tested entered s here is fact ending also = subst (Fact tested entered s) (some_is here ending (sym is ∙ also)) fact

-- facts don't ask for tickets, counts or the server's items
fact_aside : (tested : PlainSession) (entered : Entered) (s : PlainSession) (given : List Outward) (tickets : List Issued) (passed counted : ℕ) (ending : Ending) → Fact tested entered s ending
    → Fact tested entered (record s { given = given; tickets = tickets; passed = passed; counted = counted }) ending
fact_aside tested entered s given tickets passed counted (Terminated rid) f = f
fact_aside tested entered s given tickets passed counted (Stale rid lowest) f = f
fact_aside tested entered s given tickets passed counted (Above rid last requests) f = f
fact_aside tested entered s given tickets passed counted (WrongKey rid) f = f
fact_aside tested entered s given tickets passed counted (UnknownStream rid) f = f
fact_aside tested entered s given tickets passed counted (PauseTooLong rid pause maxpause) f = f
fact_aside tested entered s given tickets passed counted (Overactive rid distance) f = f
fact_aside tested entered s given tickets passed counted (Silent since now) f = f
fact_aside tested entered s given tickets passed counted (Closed closing rid) f = f
fact_aside tested entered s given tickets passed counted (JournalFull bytes cost) f = f

has_aside : (tested : PlainSession) (entered : Entered) (s : PlainSession) (given : List Outward) (tickets : List Issued) (passed counted : ℕ) → HasFact tested entered s
    → HasFact tested entered (record s { given = given; tickets = tickets; passed = passed; counted = counted })
has_aside tested entered s given tickets passed counted f ending is = fact_aside tested entered s given tickets passed counted ending (f ending is)

-- in a session that doesn't poll and owes nothing none stands beyond the gap, and the other way round
none_beyond : (s : PlainSession) → owes_nothing_beyond s ≡ true → s.terms.polled ≡ false → beyond s ≡ []
none_beyond s nothing holds = nil_from_length (beyond s) (eqb-true (length (beyond s)) 0 (sym (ap (λ (b : Bool). b || (length (beyond s) == 0)) holds) ∙ nothing))

owes_nothing : (s : PlainSession) → (s.terms.polled ≡ false → beyond s ≡ []) → owes_nothing_beyond s ≡ true
owes_nothing s none = by s.terms.polled refl
  where
    by : (b : Bool) → s.terms.polled ≡ b → (b || (length (beyond s) == 0)) ≡ true
    by true polls = refl
    by false holds = ap (λ (copies : List RequestCopy). length copies == 0) (none holds)

module _ (tested : PlainSession) (entered : Entered) where
  fact_answering : Answering (λ s. NoTerminate s × HasFact tested entered s)
  fact_answering = record {
    gives = λ s oldest later front is on reason due other f. (f.0, goes_fact tested entered (with_answer s oldest front) on);
    closes = λ s oldest later stream closing is on reason due last f.
        let u : PlainSession = with_answer s oldest (OfClosing stream closing) in
        let a = answer_last s oldest (OfClosing stream closing) in
        let none : running u ≡ [] = nil_from_length (running u) (eqb-true (length (running u)) 0 last) in (
          λ goes. absurd (true_false goes),
          one_fact tested entered (ended (Closed closing (id_of oldest.copy)) u) (Closed closing (id_of oldest.copy)) refl
              (f.0 on, none, (ap (λ (x : Answered). x.rid) a, (stream, ap (λ (x : Answered). x.front) a))),
        );
  }

  -- the copy that follows broke a rule
  broken_fact : (s : PlainSession) (copy : RequestCopy) → NoTerminate s → is_over s ≡ false → standing_at s (last_of s + 1) ≡ Some copy → (ending : Ending) → broken_rule (asked_of s) copy ≡ Some ending
      → Fact tested entered (ended ending s) ending
  broken_fact s copy none on stands ending broken =
      let id : id_of copy ≡ last_of s + 1 = at_id-has (standing s) (last_of s + 1) copy stands in
      let here : standing_at s (id_of copy) ≡ Some copy = ap (standing_at s) id ∙ stands in
      rule-by (asked_of s) copy (λ o. (e : Ending) → o ≡ Some e → Fact tested entered (ended e s) e) (record {
        wrong_key = λ wrong e is. subst (λ x. Fact tested entered (ended x s) x) (some_is (WrongKey (id_of copy)) e is) (none on, id, copy, here, λ fit. true_false (sym fit ∙ wrong));
        no_stream = λ key stream e is. subst (λ x. Fact tested entered (ended x s) x) (some_is (UnknownStream (id_of copy)) e is) (none on, id, copy, here, (key, names_shut s copy stream));
        too_long = λ key stream seconds asked longer e is. subst (λ x. Fact tested entered (ended x s) x) (some_is (PauseTooLong (id_of copy) seconds s.terms.maxpause) e is)
            ((none on, id, copy, here, (key, names_open s copy stream, asked, longer)), refl);
        too_active = λ key stream short active e is. subst (λ x. Fact tested entered (ended x s) x) (some_is (Overactive (id_of copy) _) e is)
            (none on, id, copy, here, (key, names_open s copy stream, short, active, refl));
        allowed = λ key stream short calm e is. absurd (none_is e is);
      }) ending broken
    where
      none_is : (e : Ending) → None ≡ Some e → ⊥
      none_is e is = cc

  fact_processing : Processing (λ s. Underway s × HasFact tested entered s)
  fact_processing = record {
    processes = λ s copy on stands broken further p. (underway_processing.processes s copy on stands broken further p.0, goes_fact tested entered (with_copy s copy) on);
    terminates = λ s copy on stands broken last p. (
      underway_processing.terminates s copy on stands broken last p.0,
      one_fact tested entered (ended (Terminated (id_of copy)) (with_copy s copy)) (Terminated (id_of copy)) refl (s.processed, as_processed s copy, refl, refl, last),
    );
    breaks = λ s copy ending on stands broken p. (
      underway_processing.breaks s copy ending on stands broken p.0,
      one_fact tested entered (ended ending s) ending refl (broken_fact s copy (p.0).1 on stands ending broken),
    );
  }

  settled_fact : (s : PlainSession) → NoTerminate s → HasFact tested entered s → HasFact tested entered (settled s)
  settled_fact s none f = (settled-by (λ t. NoTerminate t × HasFact tested entered t) fact_answering s (none, f)).1

  time_fact : (s : PlainSession) (now : ℕ) → is_over s ≡ false → NoTerminate s → HasFact tested entered (time_applied s now)
  time_fact s now on no_end =
      let v : PlainSession = struck (settled (at_moment s now)) in
      silenced_as (HasFact tested entered) v
      (λ goes silent.
      let due = both_true ((length (held v) == 0) && owes_nothing_beyond v) (is_silent_due v.period (quiet_of v) v.now) silent in
      let both = both_true (length (held v) == 0) (owes_nothing_beyond v) due.0 in
      one_fact tested entered (ended (Silent (quiet_of v) v.now) v) (Silent (quiet_of v) v.now) refl
      (nil_from_length (held v) (eqb-true (length (held v)) 0 both.0), none_beyond v both.1, refl, refl, ltb-true (quiet_of v + v.period * 1000) v.now due.1))
      (λ none. struck-by (HasFact tested entered) (λ t rid goes holds is f. goes_fact tested entered (strike t rid) goes) (settled (at_moment s now)) (settled_fact (at_moment s now) no_end (goes_fact tested entered (at_moment s now) on)))

  replied_fact : (s : PlainSession) (rid : ℕ) → HasFact tested entered s → (o : Option (List ℕ)) → HasFact tested entered (elim o as (λ x. PlainSession × Arrived) [ Some bytes ↦ (s, arrivals.Answer bytes) | None ↦ wait_at s rid ]).0
  replied_fact s rid f (Some bytes) = f
  replied_fact s rid f None = has_aside tested entered s s.given (wait_at s rid).0.tickets s.passed s.counted f

  item_fact : (s : PlainSession) (item : Outward) → NoTerminate s → HasFact tested entered s → HasFact tested entered (with_item s item).0
  item_fact s item none f = settled_fact (record s { given = s.given ++ item ∷ [] }) none (has_aside tested entered s (s.given ++ item ∷ []) s.tickets s.passed s.counted f)

arrived_fact : (s : PlainSession) (request : Request) (body : List ℕ) (now : ℕ) → is_over s ≡ false → request.rid ≤ greatest_rid → Ends s
    → HasFact (time_applied s now) (Made (Arrive request body now)) (arrived_in_time (with_cost (body_cost request body) (time_applied s now)) request body).0
arrived_fact s request body now on small ends =
    let tested : PlainSession = time_applied s now in
    let entered : Entered = Made (Arrive request body now) in
    let t : PlainSession = with_cost (body_cost request body) tested in
    let copy : RequestCopy = copy_now t request body in
    let f : HasFact tested entered t = has_aside tested entered tested tested.given tested.tickets tested.passed (tested.counted + body_cost request body) (time_fact tested entered s now on ends.2) in
    arrival-by t request body (λ r. HasFact tested entered r.0) (record {
      over = λ over. f;
      again = λ answer goes within is. f;
      stale = λ goes within kept. one_fact tested entered (ended (Stale (id_of copy) (lowest_kept t)) t) (Stale (id_of copy) (lowest_kept t)) refl
          ((goes, refl, (leb-true (id_of copy) (answered_of t) within, kept)), refl);
      repeats = λ goes later open_now. goes_fact tested entered (reopened t (id_of copy)).0 goes;
      above = λ goes later new beyond. one_fact tested entered (ended (Above (id_of copy) (last_of t) t.terms.requests) t) (Above (id_of copy) (last_of t) t.terms.requests) refl
          ((goes, refl, (beyond, is_none (standing_at t (id_of copy)) (neither (nat_le (id_of copy) (last_of t)) (is_some (standing_at t (id_of copy))) new).1)), refl, refl);
      fresh = λ goes later new within.
          let p : PlainSession = placed t copy in
          let u : PlainSession = settled (advanced p) in
          let a = advanced-by (λ x. Underway x × HasFact tested entered x) (fact_processing tested entered) p (placed_underway t copy goes new small (time_ends s now on ends), goes_fact tested entered p goes) in
          replied_fact tested entered u (id_of copy) (settled_fact tested entered (advanced p) (a.0).1 a.1) (bytes_for u (id_of copy));
    })

-- forth: an ending has its fact
pub ending_fact : (s : PlainSession) (entered : Entered) → MayEnter s entered → is_over s ≡ false → Ends s → HasFact (tested_at s entered) entered (after_entry s entered)
ending_fact s entered may goes ends = entry-by s (λ e u. HasFact (tested_at s e) e u) (record {
  arrives = λ request body now allowed on room. arrived_fact s request body now on (read-rid body request allowed.0).1 ends;
  backs = λ stream stanza now allowed on room.
      let tested : PlainSession = time_applied s now in
      let entered : Entered = Made (Back stream stanza now) in
      let t : PlainSession = with_cost (stanza_cost stanza) tested in
      let f : HasFact tested entered t = has_aside tested entered tested tested.given tested.tickets tested.passed (tested.counted + stanza_cost stanza) (time_fact tested entered s now on ends.2) in
      split (λ (r : PlainSession × Taken). HasFact tested entered r.0) (not (takes_items t stream)) _ _ (λ none. f)
      (λ takes. split (λ (r : PlainSession × Taken). HasFact tested entered r.0) (has_room t stanza) _ _ (λ room. item_fact tested entered t (Stanza stream stanza) (time_ends s now on ends).2 f) (λ none. f));
  closes = λ stream closing now on room.
      let tested : PlainSession = time_applied s now in
      let entered : Entered = Made (BackClosed stream closing now) in
      let t : PlainSession = with_cost plain_cost tested in
      let f : HasFact tested entered t = has_aside tested entered tested tested.given tested.tickets tested.passed (tested.counted + plain_cost) (time_fact tested entered s now on ends.2) in
      split (λ (r : PlainSession × Taken). HasFact tested entered r.0) (takes_items t stream) _ _ (λ takes. item_fact tested entered t (Close stream closing) (time_ends s now on ends).2 f) (λ none. f);
  ticks = λ now on due room.
      let tested : PlainSession = time_applied s now in
      has_aside tested (Made (Tick now)) tested tested.given tested.tickets tested.passed (tested.counted + plain_cost) (time_fact tested (Made (Tick now)) s now on ends.2);
  collects = λ index ticket is ending ends_so. absurd (no_ending s ending goes ends_so);
  takes = λ item is ending ends_so. absurd (no_ending s ending goes ends_so);
  limits = λ kind cost now on full. one_fact s (Limit kind cost now) (full_with cost s) (JournalFull s.counted cost) refl (refl, refl, ltb-true s.limit (s.counted + cost) full);
}) entered may

-- Back: a fact has its ending.

-- the copy that follows broke a rule, and no terminate was processed: so it has ended
breaker_ends : (s : PlainSession) → Ends s → (rid : ℕ) (copy : RequestCopy) → list_any ends_it s.processed ≡ false → rid ≡ last_of s + 1 → standing_at s rid ≡ Some copy
    → s.ending ≡ broken_rule (asked_of s) copy
breaker_ends s ends rid copy none next stands =
    let here : standing_at s (last_of s + 1) ≡ Some copy = ap (standing_at s) (sym next) ∙ stands in
    elim (is_or_not (is_over s)) [
      | inl over ↦ ends.5 over copy here none
      | inr on ↦ absurd (none_some (standing_at s (last_of s + 1)) copy (ends.1 on) here)
    ]

not_fits : (b : Bool) → (b ≡ true → ⊥) → b ≡ false
not_fits true never = absurd (never refl)
not_fits false never = refl

-- no open stream has the name, or one has
shut_names : (s : PlainSession) (copy : RequestCopy) → (NamesOpen s copy → ⊥) → names_none (running s) copy.request.stream ≡ true
shut_names s copy never = elim (is_or_not (names_none (running s) copy.request.stream)) [
  | inl shut ↦ shut
  | inr opens ↦ absurd (never (names_open s copy opens))
]

open_names : (s : PlainSession) (copy : RequestCopy) → NamesOpen s copy → names_none (running s) copy.request.stream ≡ false
open_names s copy opens = elim (is_or_not (names_none (running s) copy.request.stream)) [
  | inl shut ↦ absurd (names_shut s copy shut opens)
  | inr named_so ↦ named_so
]

-- what the state shows
state_back : (tested : PlainSession) (entered : Entered) (s : PlainSession) → Ends s
    → ((rid lowest : ℕ) → Fact tested entered s (Stale rid lowest) → s.ending ≡ Some (Stale rid lowest))
    → ((rid last requests : ℕ) → Fact tested entered s (Above rid last requests) → s.ending ≡ Some (Above rid last requests))
    → ((counted cost : ℕ) → Fact tested entered s (JournalFull counted cost) → s.ending ≡ Some (JournalFull counted cost))
    → (ending : Ending) → Fact tested entered s ending → s.ending ≡ Some ending
state_back tested entered s ends stale above full (Terminated rid) f = ends.3 f.0 f.1 f.2 f.4 ∙ ap (λ r. Some (Terminated r)) f.3
state_back tested entered s ends stale above full (Stale rid lowest) f = stale rid lowest f
state_back tested entered s ends stale above full (Above rid last requests) f = above rid last requests f
state_back tested entered s ends stale above full (WrongKey rid) f =
    breaker_ends s ends rid f.2 f.0 f.1 f.3 ∙ key_broken (asked_of s) f.2 (not_fits _ f.4) ∙ ap (λ r. Some (WrongKey r)) (at_id-has (standing s) rid f.2 f.3)
state_back tested entered s ends stale above full (UnknownStream rid) f =
    breaker_ends s ends rid f.2 f.0 f.1 f.3 ∙ stream_broken (asked_of s) f.2 (f.4).0 (shut_names s f.2 (f.4).1) ∙ ap (λ r. Some (UnknownStream r)) (at_id-has (standing s) rid f.2 f.3)
state_back tested entered s ends stale above full (PauseTooLong rid pause maxpause) f =
    let n = f.0 in
    breaker_ends s ends rid n.2 n.0 n.1 n.3 ∙ pause_broken (asked_of s) n.2 pause (n.4).0 (open_names s n.2 (n.4).1) (n.4).2 (subst (λ m. m < pause) f.1 (n.4).3)
    ∙ ap₂ (λ r m. Some (PauseTooLong r pause m)) (at_id-has (standing s) rid n.2 n.3) (sym f.1)
state_back tested entered s ends stale above full (Overactive rid distance) f =
    breaker_ends s ends rid f.2 f.0 f.1 f.3 ∙ active_broken (asked_of s) f.2 (f.4).0 (open_names s f.2 (f.4).1) (f.4).2 (f.4).3
    ∙ ap₂ (λ r d. Some (Overactive r d)) (at_id-has (standing s) rid f.2 f.3) (sym (f.4).4)
state_back tested entered s ends stale above full (Silent since now) f =
    let longer : quiet_of s + s.period * 1000 < s.now = omega (arith, f.2, f.3, f.4) in
    ends.6 (ap length f.0) (owes_nothing s f.1) longer ∙ ap₂ (λ q n. Some (Silent q n)) (sym f.2) (sym f.3)
state_back tested entered s ends stale above full (Closed closing rid) f = ends.4.told f.0 f.1 rid closing f.2
state_back tested entered s ends stale above full (JournalFull counted cost) f = full counted cost f

-- what came from outside
abbrev Outside : PlainSession → Entered → PlainSession → Type 0
Outside tested entered s =
    ((rid lowest : ℕ) → Fact tested entered s (Stale rid lowest) → s.ending ≡ Some (Stale rid lowest))
    × ((rid last requests : ℕ) → Fact tested entered s (Above rid last requests) → s.ending ≡ Some (Above rid last requests))
    × ((counted cost : ℕ) → Fact tested entered s (JournalFull counted cost) → s.ending ≡ Some (JournalFull counted cost))

arrived_outside : (tested : PlainSession) (cost : ℕ) (request : Request) (body : List ℕ) (now : ℕ) → Ends tested → Outside tested (Made (Arrive request body now)) (arrived_in_time (with_cost cost tested) request body).0
arrived_outside tested cost request body now ends =
    let t : PlainSession = with_cost cost tested in
    let copy : RequestCopy = copy_now t request body in
    let e : Entered = Made (Arrive request body now) in
    let answered_not_above : nat_le (id_of copy) (answered_of t) ≡ true → is_above t copy ≡ true → ⊥ =
    λ within beyond. above_not t copy (omega (arith, leb-true (id_of copy) (answered_of t) within, (ends.0).few)) beyond in
    arrival-by t request body (λ r. Outside tested e r.0) (record {
      over = λ over. (λ rid lowest f. absurd (over_or_on t over (f.0).0), λ rid last requests f. absurd (over_or_on t over (f.0).0), λ counted cost f. absurd f.0);
      again = λ answer on within is. (
        λ rid lowest f. absurd (none_some (kept_of t (id_of copy)) answer (ap (kept_of t) (f.0).1 ∙ ((f.0).2).1) is),
        λ rid last requests f. absurd (answered_not_above within ((f.0).2).0),
        λ counted cost f. absurd f.0,
      );
      stale = λ on within is. (
        λ rid lowest f. ap₂ (λ r l. Some (Stale r l)) (f.0).1 (sym f.1),
        λ rid last requests f. absurd (answered_not_above within ((f.0).2).0),
        λ counted cost f. absurd f.0,
      );
      repeats = λ on later open_now. (
        λ rid lowest f. absurd (omega (arith, leb-false (id_of copy) (answered_of t) later, (f.0).1, ((f.0).2).0)),
        λ rid last requests f. absurd (open_not_above t copy rid open_now (f.0).1 ((f.0).2).0 ((f.0).2).1),
        λ counted cost f. absurd f.0,
      );
      above = λ on later new beyond. (
        λ rid lowest f. absurd (omega (arith, leb-false (id_of copy) (answered_of t) later, (f.0).1, ((f.0).2).0)),
        λ rid last requests f. ap₂ (λ r l. Some (Above r l t.terms.requests)) (f.0).1 (sym f.1) ∙ ap (λ n. Some (Above rid last n)) (sym f.2),
        λ counted cost f. absurd f.0,
      );
      fresh = λ on later new within. (
        λ rid lowest f. absurd (omega (arith, leb-false (id_of copy) (answered_of t) later, (f.0).1, ((f.0).2).0)),
        λ rid last requests f. absurd (true_false (sym ((f.0).2).0 ∙ within)),
        λ counted cost f. absurd f.0,
      );
    })
  where
    above_not : (t : PlainSession) (copy : RequestCopy) → id_of copy ≤ last_of t → is_above t copy ≡ true → ⊥
    above_not t copy within beyond = absurd (omega (arith, ltb-true (last_of t + reach t.terms.requests (is_extra copy)) (id_of copy) beyond))

    open_not_above : (t : PlainSession) (copy : RequestCopy) (rid : ℕ) → is_open t (id_of copy) ≡ true → id_of copy ≡ rid → is_above t copy ≡ true → standing_at t rid ≡ None → ⊥
    open_not_above t copy rid open_now same beyond none = elim (either (nat_le (id_of copy) (last_of t)) (is_some (standing_at t (id_of copy))) open_now) [
      | inl within ↦ above_not t copy (leb-true (id_of copy) (last_of t) within) beyond
      | inr stands ↦ true_false (sym stands ∙ ap is_some (ap (standing_at t) same ∙ none))
    ]

entry_outside : (s : PlainSession) (entered : Entered) → MayEnter s entered → Ends s → Outside (tested_at s entered) entered (after_entry s entered)
entry_outside s entered may ends = entry-by s (λ e u. Outside (tested_at s e) e u) (record {
  arrives = λ request body now allowed on room. arrived_outside (time_applied s now) (body_cost request body) request body now (time_ends s now on ends);
  backs = λ stream stanza now allowed on room. (λ rid lowest f. absurd f.0, λ rid last requests f. absurd f.0, λ counted cost f. absurd f.0);
  closes = λ stream closing now on room. (λ rid lowest f. absurd f.0, λ rid last requests f. absurd f.0, λ counted cost f. absurd f.0);
  ticks = λ now on due room. (λ rid lowest f. absurd f.0, λ rid last requests f. absurd f.0, λ counted cost f. absurd f.0);
  collects = λ index ticket is. (λ rid lowest f. absurd f.0, λ rid last requests f. absurd f.0, λ counted cost f. absurd f.0);
  takes = λ item is. (λ rid lowest f. absurd f.0, λ rid last requests f. absurd f.0, λ counted cost f. absurd f.0);
  limits = λ kind cost now on full. (λ rid lowest f. absurd f.0, λ rid last requests f. absurd f.0, λ counted limit f. ap₂ (λ n c. Some (JournalFull n c)) (sym f.1) f.0);
}) entered may

-- back: a fact has its ending
pub fact_ending : (s : PlainSession) (entered : Entered) → MayEnter s entered → Ends s → (ending : Ending) → Fact (tested_at s entered) entered (after_entry s entered) ending
    → (after_entry s entered).ending ≡ Some ending
fact_ending s entered may ends ending f =
    let o = entry_outside s entered may ends in
    state_back (tested_at s entered) entered (after_entry s entered) (entry_ends s entered may ends) o.0 o.1 o.2 ending f
