-- What stands for an id is what was received with it, and whatever was received arrived.
use Rattle.std.proofs.Common.{◌≡◌, ◌≢◌, ℕ, zero, suc, ◌+◌, ◌-◌, ◌<◌, ◌≤◌, Bool, true, false, List, [], ◌∷◌, ◌++◌, map, length, max, Option, Some, None, All, nat_le, is_some, refl, sym, ◌∙◌, ap, arith, subst, inl, inr}
use Rattle.std.proofs.lemmas.Bool.{cases_eq, leb-true}
use Rattle.std.proofs.lemmas.List.Elements.{All-nil, All-push}
use Rattle.bosh_types.specs.ById.{at_id}
use Rattle.session_core.specs.declared.copy.RequestCopy.{RequestCopy}
use Rattle.session_core.specs.Copy.{id_of, with_id}
use Rattle.session_core.specs.Journal.{Journal, IsJournal, state_of}
use Rattle.session_core.specs.Machine.{opened, creation_of}
use Rattle.session_core.specs.declared.opening.Opening.{Opening}
use Rattle.session_core.specs.Processed.{copies_of}
use Rattle.session_core.specs.Run.{IsLongestRun, IsReceived, IsRun, Lacks, id_in, placings_of, run_of}
use Rattle.session_core.specs.State.{PlainSession, Placing, Stands, Strikes, run, first_of, last_of, standing, standing_at, is_over, without}
use Rattle.session_core.specs.Window.{is_open}
use Rattle.session_core.proofs.StruckLemmas.{standing_more, standing_none, standing_other, strike_later}
use Rattle.session_laws.proofs.Clear.{every_clear}
use Rattle.session_laws.proofs.Grows.{steady-all, told_stays}
use Rattle.session_laws.proofs.Lists.{copies_length, copy_at, standing_now, standing_other as push_other, get_some}
use Rattle.session_laws.proofs.Moves.{Steady}
use Rattle.session_laws.proofs.Received.{received_after, received_first, received_last, received_later, received_more, received_push, received_strike}
use Rattle.session_laws.proofs.SoundLemmas.{IsSound}
use Rattle.session_laws.proofs.Tests.{either, none_some, some_is}

-- of these placings just what was received stands
pub record Follows (placings : List Placing) (copies : List RequestCopy) : Type 0 where
  pub each : (rid : ℕ) (copy : RequestCopy) → at_id (map with_id copies) rid ≡ Some copy → IsReceived placings rid copy
  pub back : (rid : ℕ) (copy : RequestCopy) → IsReceived placings rid copy → at_id (map with_id copies) rid ≡ Some copy

abbrev pub IsFollowed : PlainSession → Type 0
IsFollowed s = Follows s.placings (standing s)

same_copy : (one other : RequestCopy) → Stands one ≡ Stands other → one ≡ other
same_copy one other same = cc

-- one more copy stands
stood_follows : (placings : List Placing) (copies : List RequestCopy) (copy : RequestCopy) → Follows placings copies → at_id (map with_id copies) (id_of copy) ≡ None
    → Follows (placings ++ Stands copy ∷ []) (copies ++ copy ∷ [])
stood_follows placings copies copy f none = record {
  each = λ rid found at. elim (cases_eq rid (id_of copy)) [
    | inl same ↦
        let here : Some copy ≡ Some found = sym (standing_now copies copy none) ∙ ap (at_id (map with_id (copies ++ copy ∷ []))) (sym same) ∙ at in
        let is : copy ≡ found = some_is copy found here in
        subst (λ (c : RequestCopy). IsReceived (placings ++ Stands copy ∷ []) rid c) is
        (subst (λ n. IsReceived (placings ++ Stands copy ∷ []) n copy) (sym same) (received_last placings copy))
    | inr other ↦ received_more placings (Stands copy) rid found (λ same. other (sym same)) (f.each rid found (sym (push_other copies copy rid other) ∙ at))
  ];
  back = λ rid found r. elim (received_push placings (Stands copy) rid found r) [
    | inl last ↦
        let is : found ≡ copy = same_copy found copy last in
        let id : rid ≡ id_of copy = sym r.0 ∙ ap id_of is in
        ap (at_id (map with_id (copies ++ copy ∷ []))) id ∙ standing_now copies copy none ∙ ap Some (sym is)
    | inr earlier ↦ push_other copies copy rid (λ same. earlier.1 (sym same)) ∙ f.back rid found earlier.0
  ];
}

-- the copy of an id is struck
struck_follows : (s : PlainSession) (rid : ℕ) → IsFollowed s → Follows (s.placings ++ Strikes rid s.now ∷ []) (standing (record s { placings = s.placings ++ Strikes rid s.now ∷ [] }))
struck_follows s rid f = record {
  each = λ other found at. elim (cases_eq other rid) [
    | inl same ↦ absurd (none_some (standing_at s' rid) found (standing_none s rid) (ap (standing_at s') (sym same) ∙ at))
    | inr apart ↦ received_more s.placings (Strikes rid s.now) other found (λ same. apart (sym same)) (f.each other found (sym (standing_other s rid other apart) ∙ at))
  ];
  back = λ other found r.
      let earlier = received_strike s.placings rid s.now other found r in
      standing_other s rid other (λ same. earlier.1 (sym same)) ∙ f.back other found earlier.0;
}
  where
    s' : PlainSession
    s' = record s { placings = s.placings ++ Strikes rid s.now ∷ [] }

pub followed_steady : Steady IsFollowed
followed_steady = record {
  ends = λ t ending on p. p;
  aside = λ t tickets now last_arrival passed counted p. p;
  answers = λ t oldest later front is on reason taken p. p;
  processes = λ t copy on stands broken p. p;
  stands = λ t copy above none small p.
      subst (Follows (t.placings ++ Stands copy ∷ [])) (sym (standing_more [] t.placings (Stands copy ∷ []))) (stood_follows t.placings (standing t) copy p none);
  strikes = λ t rid on is p. struck_follows t rid p;
  gives = λ t item p. p;
}

pub opened_followed : (o : Opening) → IsFollowed (opened o)
opened_followed o = record {
  each = λ rid copy at. absurd (none_some None copy refl at);
  back = λ rid copy r. absurd (no_split r.1 r.2 (Stands copy) r.3);
}
  where
    no_split : (before after : List Placing) (x : Placing) → [] ≡ before ++ x ∷ after → ⊥
    no_split [] after x same = cc
    no_split (y ∷ before) after x same = cc

-- whatever came to a place came to that of a later id than the creation's
abbrev pub IsLater : PlainSession → Type 0
IsLater s = All (λ p. first_of s < id_in p) s.placings

pub later_steady : Steady IsLater
later_steady = record {
  ends = λ t ending on p. p;
  aside = λ t tickets now last_arrival passed counted p. p;
  answers = λ t oldest later front is on reason taken p. p;
  processes = λ t copy on stands broken p. p;
  stands = λ t copy above none small p. All-push (λ p. first_of t < id_in p) t.placings (Stands copy) p (omega (arith, above));
  strikes = λ t rid on is p. All-push (λ p. first_of t < id_in p) t.placings (Strikes rid t.now) p (omega (arith, strike_later t rid is));
  gives = λ t item p. p;
}

-- What holds of each state of a journal.

pub every_followed : (journal : Journal) → IsJournal journal → IsFollowed (state_of journal)
every_followed journal made = steady-all IsFollowed followed_steady (opened journal.opening) journal.entries made.1 (opened_followed journal.opening)

pub every_later : (journal : Journal) → IsJournal journal → IsLater (state_of journal)
every_later journal made = steady-all IsLater later_steady (opened journal.opening) journal.entries made.1 (All-nil (λ p. first_of (opened journal.opening) < id_in p))

-- an id at which nothing stands lacks a copy
pub lacks_none : (s : PlainSession) (rid : ℕ) → IsFollowed s → standing_at s rid ≡ None → Lacks s.placings rid
lacks_none s rid f none copy r = none_some (standing_at s rid) copy none (f.back rid copy r)

-- an id that was processed stands
pub processed_stands : (s : PlainSession) (rid : ℕ) → IsSound s → first_of s < rid → rid ≤ last_of s → standing_at s rid ≡ None → ⊥
processed_stands s rid sound later within none =
    let place : first_of s + 1 + (rid - (first_of s + 1)) ≡ rid = omega arith in
    let c = get_some s.processed (rid - (first_of s + 1)) (omega arith) in
    let stands : standing_at s rid ≡ Some c.0.copy = ap (standing_at s) (sym place) ∙ sound.stand (rid - (first_of s + 1)) c.0 c.1 in
    none_some (standing_at s rid) c.0.copy none stands

some_none : {X : Type 0} (o : Option X) → is_some o ≡ true → o ≡ None → ⊥
some_none None is none = cc
some_none (Some x) is none = cc

pub open_stands : (s : PlainSession) (rid : ℕ) → IsSound s → is_open s rid ≡ true → first_of s < rid → standing_at s rid ≡ None → ⊥
open_stands s rid sound open_now later none = elim (either (nat_le rid (last_of s)) (is_some (standing_at s rid)) open_now) [
  | inl within ↦ processed_stands s rid sound later (leb-true rid (last_of s) within) none
  | inr stands ↦ some_none (standing_at s rid) stands none
]

-- the creation is what the opening brought
pub every_creation : (journal : Journal) → IsJournal journal → (state_of journal).creation ≡ creation_of journal.opening
every_creation journal made = (steady-all _ (told_stays (opened journal.opening)) (opened journal.opening) journal.entries made.1 (refl, refl, refl, refl)).0

run_each : (o : Opening) (s : PlainSession) → s.creation ≡ creation_of o → IsSound s → IsFollowed s → IsLater s → IsRun o.request.rid (Stands (creation_of o) ∷ s.placings) (run s)
run_each o s same sound follows later zero copy is =
    let here : creation_of o ≡ copy = sym same ∙ some_is s.creation copy is in
    let rid : o.request.rid ≡ o.request.rid + 0 = omega arith in
    let all : All (λ p. id_of (creation_of o) < id_in p) s.placings = subst (λ (c : RequestCopy). All (λ p. id_of c < id_in p) s.placings) same later in
    subst (λ (c : RequestCopy). IsReceived (Stands (creation_of o) ∷ s.placings) (o.request.rid + 0) c) here
    (subst (λ n. IsReceived (Stands (creation_of o) ∷ s.placings) n (creation_of o)) rid (received_first (creation_of o) s.placings all))
run_each o s same sound follows later (suc k) copy is =
    let place : first_of s + 1 + k ≡ o.request.rid + suc k = omega (arith, ap id_of same) in
    let one = copy_at s.processed k copy is in
    received_after (Stands (creation_of o)) s.placings (o.request.rid + suc k) copy
    (subst (λ rid. IsReceived s.placings rid copy) place
    (follows.each (first_of s + 1 + k) copy (sound.stand k one.0 one.1 ∙ ap Some one.2)))

-- the run: each is the one that was received with its id
pub every_run : (journal : Journal) → IsJournal journal → IsRun journal.opening.request.rid (placings_of journal) (run_of journal)
every_run journal made =
    run_each journal.opening (state_of journal) (every_creation journal made) (every_clear journal made).0 (every_followed journal made) (every_later journal made)

-- an id after the creation's lacks a copy where nothing stands at it
pub lacks_later : (o : Opening) (s : PlainSession) (rid : ℕ) → o.request.rid < rid → Lacks s.placings rid → Lacks (Stands (creation_of o) ∷ s.placings) rid
lacks_later o s rid later none copy r = none copy (received_later (creation_of o) s.placings rid copy (λ same. absurd (omega (arith, later, same))) r)

-- while the session goes on, it is the longest
pub every_longest : (journal : Journal) → IsJournal journal → is_over (state_of journal) ≡ false → IsLongestRun journal.opening.request.rid (placings_of journal) (run_of journal)
every_longest journal made on =
    let s : PlainSession = state_of journal in
    let same : first_of s ≡ journal.opening.request.rid = ap id_of (every_creation journal made) in
    let place : last_of s + 1 ≡ journal.opening.request.rid + suc (length (copies_of s.processed)) = omega (arith, same, copies_length s.processed) in
    record {
      each = every_run journal made;
      ends = subst (Lacks (placings_of journal)) place
          (lacks_later journal.opening s (last_of s + 1) (omega (arith, same)) (lacks_none s (last_of s + 1) (every_followed journal made) ((every_clear journal made).1 on)));
    }

-- a copy stands for an id exactly where it was received
pub every_stands : (journal : Journal) → IsJournal journal → (rid : ℕ) (copy : RequestCopy)
    → (standing_at (state_of journal) rid ≡ Some copy → IsReceived (state_of journal).placings rid copy) × (IsReceived (state_of journal).placings rid copy → standing_at (state_of journal) rid ≡ Some copy)
every_stands journal made rid copy = ((every_followed journal made).each rid copy, (every_followed journal made).back rid copy)
