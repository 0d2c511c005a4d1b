-- There is one run of a session that has ended.
use Rattle.std.proofs.Common.{◌≡◌, ℕ, zero, suc, ◌+◌, ◌<◌, ◌≤◌, true, false, List, [], ◌∷◌, ◌++◌, Some, None, is_some, length, take, slice_get, refl, sym, ◌∙◌, ap, ap₂, arith, subst, append_assoc, inl, inr}
use Rattle.std.proofs.lemmas.Bool.{cases_lt}
use Rattle.std.proofs.lemmas.List.{length_push}
use Rattle.bosh_types.specs.declared.ending.Ending.{Ending}
use Rattle.session_core.specs.Journal.{Arrive, Collect, Back, BackClosed, Tick, TakeInward, Made, Limit, Entered, Entry, Journal, IsJournal, IsMade, after_entries}
use Rattle.session_core.specs.Machine.{opened}
use Rattle.session_core.specs.Points.{tested_at}
use Rattle.session_core.specs.Processed.{Processed, copies_of, ends}
use Rattle.session_core.specs.Rules.{asked_with, broken_rule}
use Rattle.session_core.specs.Run.{IsReceived, placings_with, placings_of, key_after, state_testing}
use Rattle.session_core.specs.State.{PlainSession, is_over, running_in}
use Rattle.session_core.specs.Time.{time_applied}
use Rattle.session_laws.specs.RunEnded.{IsTried, GoesNoFurther, AtTerminate, AtBreaker, AtEnd, IsRunOfEnded, opens_after}
use Rattle.session_laws.proofs.AckLemmas.{two_places, complete_one}
use Rattle.session_laws.proofs.EndsBack.{over_or_on}
use Rattle.session_laws.proofs.Grows.{grows_all, ending_stays, made_later, after_append}
use Rattle.session_laws.proofs.Lists.{get_copies, get_some, get_last}
use Rattle.session_laws.proofs.Persist.{made_front, stays}
use Rattle.session_laws.proofs.Received.{one_received}
use Rattle.session_laws.proofs.Steadily.{steady-time}
use Rattle.session_laws.proofs.Tests.{which, none_some, some_is, true_false}

-- what has ended stays ended
over_later : (s t : PlainSession) → ((ending : Ending) → s.ending ≡ Some ending → t.ending ≡ Some ending) → is_over s ≡ true → is_over t ≡ true
over_later s t stays over = elim (which s.ending) [
  | inl nothing ↦ absurd (true_false (sym over ∙ ap is_some nothing))
  | inr ending ↦ ap is_some (stays ending.0 ending.1)
]

time_over : (s : PlainSession) (now : ℕ) → is_over s ≡ true → is_over (time_applied s now) ≡ true
time_over s now over = over_later s (time_applied s now) (steady-time _ (ending_stays s) s now (λ ending is. is)) over

tested_over : (s : PlainSession) (entered : Entered) → is_over s ≡ true → is_over (tested_at s entered) ≡ true
tested_over s (Made (Arrive request body now)) over = time_over s now over
tested_over s (Made (Collect ticket)) over = over
tested_over s (Made (Back stream stanza now)) over = time_over s now over
tested_over s (Made (BackClosed stream closing now)) over = time_over s now over
tested_over s (Made (Tick now)) over = time_over s now over
tested_over s (Made TakeInward) over = over
tested_over s (Limit kind cost now) over = over

-- after an ending no copy is tested by a session that goes on
ended_before : (start : PlainSession) (before : List Entry) (entry : Entry) (m : List Entry) (e : Entry) (a : List Entry) → IsMade start ((before ++ entry ∷ []) ++ (m ++ e ∷ a)) → is_over (after_entries start (before ++ entry ∷ [])) ≡ true
    → is_over (after_entries start ((before ++ entry ∷ []) ++ m)) ≡ true
ended_before start before entry m e a made over =
    let s : PlainSession = after_entries start (before ++ entry ∷ []) in
    let later : IsMade s m = made_front s m (e ∷ a) (made_later start (before ++ entry ∷ []) (m ++ e ∷ a) made) in
    ap is_over (after_append start (before ++ entry ∷ []) m) ∙ over_later s (after_entries s m) (grows_all s m later).ending over

-- lists that agree wherever they agree before
module _ {X : Type 0} where
  pub take_more : (xs : List X) (k : ℕ) (x : X) → slice_get xs k ≡ Some x → take (suc k) xs ≡ take k xs ++ x ∷ []
  take_more [] k x is = absurd (none_some None x refl is)
  take_more (y ∷ xs) zero x is = ap (λ z. z ∷ []) (some_is y x is)
  take_more (y ∷ xs) (suc k) x is = ap (λ l. y ∷ l) (take_more xs k x is)

  take_all : (xs : List X) → take (length xs) xs ≡ xs
  take_all [] = refl
  take_all (x ∷ xs) = ap (λ l. x ∷ l) (take_all xs)

  same_front : (xs ys : List X) → ((k : ℕ) (x y : X) → take k xs ≡ take k ys → slice_get xs k ≡ Some x → slice_get ys k ≡ Some y → x ≡ y)
      → (k : ℕ) → k ≤ length xs → k ≤ length ys → take k xs ≡ take k ys
  same_front xs ys step zero within also = refl
  same_front xs ys step (suc k) within also =
      let front : take k xs ≡ take k ys = same_front xs ys step k (omega (arith, within)) (omega (arith, also)) in
      let x = get_some xs k (omega (arith, within)) in
      let y = get_some ys k (omega (arith, also)) in
      take_more xs k x.0 x.1 ∙ ap₂ (λ l z. l ++ z ∷ []) front (step k x.0 y.0 front x.1 y.1) ∙ sym (take_more ys k y.0 y.1)

module _ (journal : Journal) (made : IsJournal journal) (run other : List Processed) (r : IsRunOfEnded journal run) (q : IsRunOfEnded journal other) where
  same_copies : (k : ℕ) (x y : Processed) → slice_get run k ≡ Some x → slice_get other k ≡ Some y → x.copy ≡ y.copy
  same_copies k x y at also =
      one_received (placings_of journal) (journal.opening.request.rid + suc k) x.copy y.copy (r.each (suc k) x.copy (get_copies run k x at)) (q.each (suc k) y.copy (get_copies other k y also))

  -- each was tested with the same entry, so that the same streams were open
  same_at : (k : ℕ) (x y : Processed) → take k run ≡ take k other → slice_get run k ≡ Some x → slice_get other k ≡ Some y → x ≡ y
  same_at k x y front at also =
      let copy : x.copy ≡ y.copy = same_copies k x y at also in
      let t = r.rules.tried k x at in
      let v : IsTried journal (take k run) y.copy None y.running = subst (λ (l : List Processed). IsTried journal l y.copy None y.running) (sym front) (q.rules.tried k y also) in
      let one = complete_one journal.opening journal.entries (length (take k run)) t.0 t.1 t.2 v.0 v.1 v.2 made.1 t.3 v.3 t.4 v.4 in
      let running : x.running ≡ y.running = sym t.7 ∙ ap₂ (λ b e. running_in (take k run) (state_testing journal.opening b e).answered) one.0 one.1 ∙ v.7 in
      let opened : x.opened ≡ y.opened = r.rules.opens k x at ∙ ap₂ opens_after front copy ∙ sym (q.rules.opens k y also) in
      (λ i. record { copy = copy i; running = running i; opened = opened i })

  same_until : (k : ℕ) → k ≤ length run → k ≤ length other → take k run ≡ take k other
  same_until k within also = same_front run other same_at k within also

  -- the first of the other are these
  begins_so : length run ≤ length other → take (length run) other ≡ run
  begins_so within = sym (same_until (length run) (omega arith) within) ∙ take_all run

  -- the other goes no further
  stops_there : length run < length other → GoesNoFurther journal run → ⊥
  stops_there longer (AtTerminate before one split last) =
      let here : slice_get run (length before) ≡ Some one = ap (λ l. slice_get l (length before)) split ∙ get_last before one in
      let count : length run ≡ length before + 1 = omega (arith, ap length split, length_push before one) in
      let c = get_some other (length before) (omega (arith, longer, count)) in
      let same : one ≡ c.0 = same_at (length before) one c.0 (same_until (length before) (omega (arith, count)) (omega (arith, longer, count))) here c.1 in
      absurd (omega (arith, q.rules.terminate (length before) c.0 c.1 (ap ends (sym same) ∙ last), longer, count))
  stops_there longer (AtBreaker copy ending running first tried) =
      let c = get_some other (length run) longer in
      let place : journal.opening.request.rid + suc (length run) ≡ journal.opening.request.rid + 1 + length run = omega arith in
      let same : c.0.copy ≡ copy = one_received (placings_of journal) (journal.opening.request.rid + 1 + length run) c.0.copy copy
      (subst (λ rid. IsReceived (placings_of journal) rid c.0.copy) place (q.each (suc (length run)) c.0.copy (get_copies other (length run) c.0 c.1))) first in
      let t : IsTried journal run c.0.copy None c.0.running = subst (λ (l : List Processed). IsTried journal l c.0.copy None c.0.running) (begins_so (omega (arith, longer))) (q.rules.tried (length run) c.0 c.1) in
      let one = complete_one journal.opening journal.entries (length run) t.0 t.1 t.2 tried.0 tried.1 tried.2 made.1 t.3 tried.3 t.4 tried.4 in
      let asked = ap₂ (λ b e. asked_with (state_testing journal.opening b e) (key_after journal.opening.request.newkey (copies_of run)) run) one.0 one.1 in
      none_some _ ending (ap₂ broken_rule (sym asked) (sym same) ∙ t.6) tried.6
  stops_there longer (AtEnd before entry after split ends nothing nothing_now) =
      let c = get_some other (length run) longer in
      let t : IsTried journal run c.0.copy None c.0.running = subst (λ (l : List Processed). IsTried journal l c.0.copy None c.0.running) (begins_so (omega (arith, longer))) (q.rules.tried (length run) c.0 c.1) in
      elim (two_places t.0 before t.1 entry t.2 after (sym t.3 ∙ split)) [
        | inl same ↦
            let goes : is_over (state_testing journal.opening before entry) ≡ false = ap is_over (ap₂ (state_testing journal.opening) (sym same.0) (sym same.1)) ∙ t.5 in
            let here = (t.4).together (length run) (omega arith) in
            nothing_now goes here.0 (subst (λ l. IsReceived (placings_with journal.opening l) (journal.opening.request.rid + 1 + length run) here.0) (ap₂ (λ b e. b ++ e ∷ []) same.0 same.1) here.1)
        | inr apart ↦ elim apart [
          | inl later ↦
              stays journal.opening t.0 t.1 later.0 before (length run) later.1 (made_front (opened journal.opening) before (entry ∷ after) (subst (IsMade (opened journal.opening)) split made.1)) (t.4).together nothing.0 nothing.1
              nothing.2
          | inr earlier ↦
              let start : PlainSession = opened journal.opening in
              let b_is : t.0 ≡ (before ++ entry ∷ []) ++ earlier.0 = earlier.1 ∙ sym (append_assoc before (entry ∷ []) earlier.0) in
              let all : journal.entries ≡ (before ++ entry ∷ []) ++ (earlier.0 ++ t.1 ∷ t.2) = t.3 ∙ ap (λ b. b ++ t.1 ∷ t.2) b_is ∙ append_assoc (before ++ entry ∷ []) earlier.0 (t.1 ∷ t.2) in
              let over : is_over (after_entries start t.0) ≡ true = ap (λ b. is_over (after_entries start b)) b_is ∙ ended_before start before entry earlier.0 t.1 t.2 (subst (IsMade start) all made.1) ends.ends in
              over_or_on (state_testing journal.opening t.0 t.1) (tested_over (after_entries start t.0) (t.1).entered over) t.5
        ]
      ]

  pub no_shorter : length run < length other → ⊥
  no_shorter longer = stops_there longer r.stops

-- there is one
pub ended_run-one : (journal : Journal) → IsJournal journal → (run other : List Processed) → IsRunOfEnded journal run → IsRunOfEnded journal other → run ≡ other
ended_run-one journal made run other r q =
    let count : length run ≡ length other = elim (cases_lt (length run) (length other)) [
      | inl shorter ↦ absurd (no_shorter journal made run other r q shorter)
      | inr within ↦ elim (cases_lt (length other) (length run)) [
        | inl longer ↦ absurd (no_shorter journal made other run q r longer)
        | inr other_within ↦ omega arith
      ]
    ] in
    sym (begins_so journal made run other r q (omega (arith, count))) ∙ ap (λ n. take n other) count ∙ take_all other
