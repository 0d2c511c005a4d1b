-- What was received with all ids up to one goes on being so.
use Rattle.std.proofs.Common.{◌≡◌, ℕ, suc, ◌+◌, ◌<◌, ◌≤◌, true, false, List, [], ◌∷◌, ◌++◌, Some, length, slice_get, refl, sym, ◌∙◌, ap, arith, subst, append_assoc, length-append, inl, inr}
use Rattle.std.proofs.lemmas.Bool.{cases_lt}
use Rattle.session_core.specs.declared.copy.RequestCopy.{RequestCopy}
use Rattle.session_core.specs.declared.opening.Opening.{Opening}
use Rattle.session_core.specs.Copy.{id_of}
use Rattle.session_core.specs.Journal.{Entry, IsMade, none, more, after_entry, after_entries}
use Rattle.session_core.specs.Machine.{opened, creation_of}
use Rattle.session_core.specs.Run.{IsReceived, Lacks, placings_with}
use Rattle.session_core.specs.State.{PlainSession, Stands, first_of, last_of, standing_at, is_over}
use Rattle.session_laws.proofs.Clear.{IsClear, made_clear}
use Rattle.session_laws.proofs.Ended.{ended_stays}
use Rattle.session_laws.proofs.Followed.{IsFollowed, followed_steady, opened_followed}
use Rattle.session_laws.proofs.Grows.{after_append, grows_all, made_first, made_later, made_rest, steady-all, told_stays}
use Rattle.session_laws.proofs.Lists.{get_some}
use Rattle.session_laws.proofs.Received.{received_after, received_later}
use Rattle.session_laws.proofs.SoundLemmas.{IsSound}
use Rattle.session_laws.proofs.Tests.{is_or_not, none_some}

-- the first entries are made too
pub made_front : (s : PlainSession) (past later : List Entry) → IsMade s (past ++ later) → IsMade s past
made_front s [] later made = none
made_front s (entry ∷ past) later made =
    more (made_first made) (made_front (after_entry s entry.entered) past later (made_rest made))

-- after the ending nothing comes to the places of ids
pub over_placings : (s : PlainSession) (entries : List Entry) → IsMade s entries → is_over s ≡ true → (after_entries s entries).placings ≡ s.placings
over_placings s [] made over = refl
over_placings s (entry ∷ entries) made over =
    let stays = ended_stays s entry.entered (made_first made) over in
    over_placings (after_entry s entry.entered) entries (made_rest made) (ap is_over stays ∙ over) ∙ ap (λ (u : PlainSession). u.placings) stays

module _ (o : Opening) (past : List Entry) (made : IsMade (opened o) past) where
  abbrev at : PlainSession
  at = after_entries (opened o) past

  at_creation : at.creation ≡ creation_of o
  at_creation = (steady-all _ (told_stays (opened o)) (opened o) past made (refl, refl, refl, refl)).0

  at_followed : IsFollowed at
  at_followed = steady-all IsFollowed followed_steady (opened o) past made (opened_followed o)

  -- a copy that was received with a later id stands
  received_stands : (rid : ℕ) (copy : RequestCopy) → o.request.rid < rid → IsReceived (placings_with o past) rid copy → standing_at at rid ≡ Some copy
  received_stands rid copy later r = at_followed.back rid copy (received_later (creation_of o) at.placings rid copy (λ same. absurd (omega (arith, later, same))) r)

  -- what was processed was received
  processed_received : (k : ℕ) → k < length at.processed → (copy : RequestCopy) × IsReceived (placings_with o past) (o.request.rid + 1 + k) copy
  processed_received k within =
      let c = get_some at.processed k within in
      let place : first_of at + 1 + k ≡ o.request.rid + 1 + k = ap (λ (copy : RequestCopy). id_of copy + 1 + k) at_creation in (
        c.0.copy,
        received_after (Stands (creation_of o)) at.placings (o.request.rid + 1 + k) c.0.copy
            (subst (λ rid. IsReceived at.placings rid c.0.copy) place (at_followed.each (first_of at + 1 + k) c.0.copy ((made_clear o past made).0.stand k c.0 c.1))),
      )

  -- while the session goes on, ids that were all received were processed
  all_processed : (count : ℕ) → is_over at ≡ false → ((k : ℕ) → k ≤ count → (copy : RequestCopy) × IsReceived (placings_with o past) (o.request.rid + 1 + k) copy) → count < length at.processed
  all_processed count on together = elim (cases_lt count (length at.processed)) [
    | inl further ↦ further
    | inr all ↦
        let c = together (length at.processed) (omega (arith, all)) in
        let place : o.request.rid + 1 + length at.processed ≡ last_of at + 1 = omega (arith, ap id_of at_creation) in
        let stands : standing_at at (last_of at + 1) ≡ Some c.0 =
        ap (standing_at at) (sym place) ∙ received_stands (o.request.rid + 1 + length at.processed) c.0 (omega arith) c.1 in
        absurd (none_some (standing_at at (last_of at + 1)) c.0 ((made_clear o past made).1 on) stands)
  ]

-- ids that were all received with an entry lack no copy later
pub stays : (o : Opening) (b : List Entry) (e : Entry) (m b' : List Entry) (count : ℕ) → b' ≡ b ++ e ∷ m → IsMade (opened o) b'
    → ((k : ℕ) → k ≤ count → (copy : RequestCopy) × IsReceived (placings_with o (b ++ e ∷ [])) (o.request.rid + 1 + k) copy)
    → (k : ℕ) → k ≤ count → Lacks (placings_with o b') (o.request.rid + 1 + k) → ⊥
stays o b e m b' count is made' together k within lacks =
    let past : List Entry = b ++ e ∷ [] in
    let all : b' ≡ past ++ m = is ∙ sym (append_assoc b (e ∷ []) m) in
    let made_all : IsMade (opened o) (past ++ m) = subst (IsMade (opened o)) all made' in
    let made : IsMade (opened o) past = made_front (opened o) past m made_all in
    let s : PlainSession = after_entries (opened o) past in
    let later : IsMade s m = made_later (opened o) past m made_all in
    let after_is : after_entries (opened o) b' ≡ after_entries s m = ap (after_entries (opened o)) all ∙ after_append (opened o) past m in
    elim (is_or_not (is_over s)) [
      | inl over ↦
          let same : placings_with o past ≡ placings_with o b' =
          ap (λ l. Stands (creation_of o) ∷ l) (sym (over_placings s m later over)) ∙ ap (λ (u : PlainSession). Stands (creation_of o) ∷ u.placings) (sym after_is) in
          let c = together k within in
          lacks c.0 (subst (λ l. IsReceived l (o.request.rid + 1 + k) c.0) same c.1)
      | inr on ↦
          let grown = (grows_all s m later).processed in
          let count_is : length (after_entries (opened o) b').processed ≡ length s.processed + length grown.0 =
          ap (λ (u : PlainSession). length u.processed) after_is ∙ ap length grown.1 ∙ length-append s.processed grown.0 in
          let c = processed_received o b' made' k (omega (arith, within, all_processed o past made count on together, count_is)) in
          lacks c.0 c.1
    ]
