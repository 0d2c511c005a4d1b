-- What the server gave is what its entries say.
use Rattle.std.proofs.Common.{◌≡◌, ℕ, not, List, [], ◌∷◌, ◌++◌, Option, Some, None, refl, sym, ◌∙◌, ap, append_assoc, subst}
use Rattle.std.specs.List.{filter_map}
use Rattle.std.proofs.lemmas.List.{append-nil}
use Rattle.std.proofs.lemmas.List.Elements.{filter_map-append}
use Rattle.session_attrs.specs.declared.request.Request.{Request}
use Rattle.session_core.specs.declared.outward.Outward.{Outward}
use Rattle.session_core.specs.declared.outward.Outward.TheVariants.{Stanza, Close}
use Rattle.session_core.specs.declared.replies.Arrived.{Arrived}
use Rattle.session_core.specs.declared.replies.Arrived.TheVariants as arrivals
use Rattle.session_core.specs.declared.replies.Taken.{Taken}
use Rattle.session_core.specs.Answers.{settled}
use Rattle.session_core.specs.Journal.{Entered, Entry, Journal, IsJournal, after_entry, after_entries, state_of, MayEnter}
use Rattle.session_core.specs.Machine.{opened, advanced, placed, bytes_for, wait_at, copy_now, arrived_in_time, with_cost, body_cost, stanza_cost, plain_cost, takes_items, has_room, back_in_time, closed_in_time}
use Rattle.session_core.specs.Passed.{given_by, if_done, given_in}
use Rattle.session_core.specs.Points.{Point, points_from}
use Rattle.session_core.specs.State.{PlainSession}
use Rattle.session_core.specs.Time.{time_applied}
use Rattle.session_laws.proofs.Tests.{split}
use Rattle.session_laws.proofs.Frames.{settled_leaves, time_leaves, advanced_leaves}
use Rattle.session_laws.proofs.Steps.{arrival-by, entry-by, along, back-in_time, closed-in_time}

pub points-push : (s : PlainSession) (past : List Entry) (entry : Entry) → points_from s (past ++ entry ∷ []) ≡ points_from s past ++ record { before = after_entries s past; entered = entry.entered } ∷ []
points-push s [] entry = refl
points-push s (first ∷ past) entry = ap (λ points. record { before = s; entered = first.entered } ∷ points) (points-push (after_entry s first.entered) past entry)

-- the item that was given, if one was taken
abbrev pub one : Option Outward → List Outward
one o = filter_map (λ (x : Option Outward). x) (o ∷ [])

given_left : (s : PlainSession) (given : List Outward) → s.given ≡ given → (settled s).given ≡ given
given_left s given is = ap (λ (u : PlainSession). u.given) (settled_leaves s) ∙ is

replied_given : (s : PlainSession) (rid : ℕ) (given : List Outward) → s.given ≡ given → (o : Option (List ℕ)) → (elim o as (λ x. PlainSession × Arrived) [ Some bytes ↦ (s, arrivals.Answer bytes) | None ↦ wait_at s rid ]).0.given ≡ given
replied_given s rid given is None = is
replied_given s rid given is (Some bytes) = is

arrived_given : (t : PlainSession) (request : Request) (body : List ℕ) → (arrived_in_time t request body).0.given ≡ t.given
arrived_given t request body = arrival-by t request body (λ r. r.0.given ≡ t.given) (record {
  over = λ over. refl;
  again = λ answer on within is. refl;
  stale = λ on within is. refl;
  repeats = λ on later open_now. refl;
  above = λ on later new beyond. refl;
  fresh = λ on later new within.
      let u : PlainSession = advanced (placed t (copy_now t request body)) in
      replied_given (settled u) request.rid t.given (given_left u t.given (ap (λ (u : PlainSession). u.given) (advanced_leaves (placed t (copy_now t request body))))) (bytes_for (settled u) request.rid);
})

timed_given : (s : PlainSession) (now : ℕ) → (time_applied s now).given ≡ s.given
timed_given s now = ap (λ (u : PlainSession). u.given) (time_leaves s now)

none_given : (given more : List Outward) → given ≡ more → given ≡ more ++ []
none_given given more is = is ∙ sym (append-nil more)

abbrev pub Gives : PlainSession → Option Outward → List Outward → Type 0
Gives s o given = given ≡ s.given ++ one o

item_given : (s t : PlainSession) (item : Outward) → t.given ≡ s.given → Gives s (Some item) (settled (record t { given = t.given ++ item ∷ [] })).given
item_given s t item is = given_left (record t { given = t.given ++ item ∷ [] }) _ (ap (λ given. given ++ item ∷ []) is)

pub entry_gives : (s : PlainSession) (entered : Entered) → MayEnter s entered → Gives s (given_by s entered) (after_entry s entered).given
entry_gives s entered may = entry-by s (λ e u. Gives s (given_by s e) u.given) (record {
  arrives = λ request body now allowed on room. none_given _ s.given (arrived_given (with_cost (body_cost request body) (time_applied s now)) request body ∙ timed_given s now);
  backs = λ stream stanza now allowed on room.
      let t : PlainSession = with_cost (stanza_cost stanza) (time_applied s now) in
      subst (λ (r : PlainSession × Taken). Gives s (if_done (Stanza stream stanza) r.1) (back_in_time t stream stanza).0.given) (sym (back-in_time s stream stanza now on room))
      (split (λ (r : PlainSession × Taken). Gives s (if_done (Stanza stream stanza) r.1) r.0.given) (not (takes_items t stream)) _ _ (λ none. none_given _ s.given (timed_given s now))
      (λ takes. split (λ (r : PlainSession × Taken). Gives s (if_done (Stanza stream stanza) r.1) r.0.given) (has_room t stanza) _ _ (λ room. item_given s t (Stanza stream stanza) (timed_given s now)) (λ none. none_given _ s.given (timed_given s now))));
  closes = λ stream closing now on room.
      let t : PlainSession = with_cost plain_cost (time_applied s now) in
      subst (λ (r : PlainSession × Taken). Gives s (if_done (Close stream closing) r.1) (closed_in_time t stream closing).0.given) (sym (closed-in_time s stream closing now on room))
      (split (λ (r : PlainSession × Taken). Gives s (if_done (Close stream closing) r.1) r.0.given) (takes_items t stream) _ _ (λ takes. item_given s t (Close stream closing) (timed_given s now)) (λ none. none_given _ s.given (timed_given s now)));
  ticks = λ now on due room. none_given _ s.given (timed_given s now);
  collects = λ index ticket is. none_given _ s.given refl;
  takes = λ item is. none_given _ s.given refl;
  limits = λ kind cost now on full. none_given _ s.given refl;
}) entered may

one_point : (s : PlainSession) (entered : Entered) (o : Option Outward) → given_by s entered ≡ o → filter_map (λ (point : Point). given_by point.before point.entered) (record { before = s; entered = entered } ∷ []) ≡ one o
one_point s entered o is = ap (λ x. one x) is

pub every_given : (journal : Journal) → IsJournal journal → (state_of journal).given ≡ given_in journal
every_given journal made = along (opened journal.opening)
    (λ past s. s.given ≡ (opened journal.opening).given ++ filter_map (λ (point : Point). given_by point.before point.entered) (points_from (opened journal.opening) past))
    (λ past s entry may same p.
    let start : PlainSession = opened journal.opening in
    let by_point = λ (point : Point). given_by point.before point.entered in
    let here : Point = record { before = s; entered = entry.entered } in
    let there : Point = record { before = after_entries start past; entered = entry.entered } in
    entry_gives s entry.entered may
    ∙ ap (λ given. given ++ filter_map by_point (here ∷ [])) p
    ∙ append_assoc start.given (filter_map by_point (points_from start past)) (filter_map by_point (here ∷ []))
    ∙ ap (λ (u : PlainSession). start.given ++ (filter_map by_point (points_from start past) ++ filter_map by_point (record { before = u; entered = entry.entered } ∷ []))) same
    ∙ ap (λ given. start.given ++ given) (sym (filter_map-append by_point (points_from start past) (there ∷ [])) ∙ ap (filter_map by_point) (sym (points-push start past entry))))
    journal.entries made.1 (sym (append-nil (opened journal.opening).given))
