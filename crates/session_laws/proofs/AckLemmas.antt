-- How far the client acknowledged, by the copies that were processed.
use Rattle.std.proofs.Common.{◌≡◌, ℕ, suc, ◌+◌, ◌<◌, ◌≤◌, Bool, true, false, List, [], ◌∷◌, ◌++◌, Option, Some, None, length, take, map, slice_get, refl, sym, ◌∙◌, ap, ap₂, arith, append_assoc, subst, ◌⊎◌, inl, inr}
use Rattle.std.proofs.lemmas.Bool.{cases_lt}
use Rattle.std.proofs.lemmas.List.{length-take-le}
use Rattle.ack_report.specs.Report.{keep_on}
use Rattle.reply_keep.specs.PlainKeep.{PlainKeep, last_id, last_after}
use Rattle.session_core.specs.Journal.{Entry, IsMade, Journal}
use Rattle.session_core.specs.Kept.{kept_answer}
use Rattle.session_core.specs.Machine.{opened}
use Rattle.session_core.specs.declared.opening.Opening.{Opening}
use Rattle.session_core.specs.Processed.{Processed}
use Rattle.session_core.specs.Run.{Completes, state_testing}
use Rattle.session_laws.proofs.Tests.{true_false}
use Rattle.session_laws.specs.RunEnded.{BreaksNoRule}
use Rattle.session_core.specs.State.{PlainSession, Answered, answers, answered_of}
use Rattle.session_laws.specs.Acknowledging.{AckedIn}
use Rattle.session_laws.proofs.JournalLemmas.{journal_with}
use Rattle.session_laws.proofs.Lists.{get_push, get_push_still, get_within, get_last}
use Rattle.session_laws.proofs.Persist.{made_front, stays}
use Rattle.session_laws.proofs.SoundLemmas.{IsSound}
use Rattle.session_laws.proofs.Bytes.{IsFirstAnswer}

-- One entry completes a run of ids.

head_is : {X : Type 0} (e x : X) (a l b : List X) → e ∷ a ≡ x ∷ l → x ∷ b ≡ e ∷ b
head_is e x a l b is = cc

-- of two places in a list, one is the other or comes after it
pub two_places : {X : Type 0} (b b' : List X) (e e' : X) (a a' : List X) → b ++ e ∷ a ≡ b' ++ e' ∷ a' → ((b ≡ b') × (e ≡ e')) ⊎ (((m : List X) × (b' ≡ b ++ e ∷ m)) ⊎ ((m : List X) × (b ≡ b' ++ e' ∷ m)))
two_places [] [] e e' a a' is = inl (refl, cc)
two_places [] (x ∷ b') e e' a a' is = inr (inl (b', head_is e x a (b' ++ e' ∷ a') b' is))
two_places (x ∷ b) [] e e' a a' is = inr (inr (b, cc))
two_places (x ∷ b) (y ∷ b') e e' a a' is =
    let same : x ≡ y = cc in
    let rest : b ++ e ∷ a ≡ b' ++ e' ∷ a' = cc in
    elim (two_places b b' e e' a a' rest) [
      | inl here ↦ inl (ap₂ (λ z l. z ∷ l) same here.0, here.1)
      | inr apart ↦ elim apart [
        | inl later ↦ inr (inl (later.0, ap₂ (λ z l. z ∷ l) (sym same) later.1))
        | inr earlier ↦ inr (inr (earlier.0, ap₂ (λ z l. z ∷ l) same earlier.1))
      ]
    ]

pub complete_one : (o : Opening) (entries : List Entry) (count : ℕ) (b : List Entry) (e : Entry) (a : List Entry) (b' : List Entry) (e' : Entry) (a' : List Entry) → IsMade (opened o) entries → entries ≡ b ++ e ∷ a → entries ≡ b' ++ e' ∷ a'
    → Completes o b e count → Completes o b' e' count → (b ≡ b') × (e ≡ e')
complete_one o entries count b e a b' e' a' made is is' completes completes' = elim (two_places b b' e e' a a' (sym is ∙ is')) [
  | inl same ↦ same
  | inr apart ↦ elim apart [
    | inl later ↦ absurd (stays o b e later.0 b' count later.1 (made_front (opened o) b' (e' ∷ a') (subst (IsMade (opened o)) is' made)) completes.together (completes'.not_yet).0 (completes'.not_yet).1 (completes'.not_yet).2)
    | inr earlier ↦ absurd (stays o b' e' earlier.0 b count earlier.1 (made_front (opened o) b (e ∷ a) (subst (IsMade (opened o)) is made)) completes'.together (completes.not_yet).0 (completes.not_yet).1 (completes.not_yet).2)
  ]
]

-- what is acknowledged, by these copies
pub record Acknowledges (journal : Journal) (on : Bool) (acknowledged : ℕ) (processed : List Processed) : Type 0 where
  pub forth : on ≡ true → (rid : ℕ) → 1 ≤ rid → rid ≤ acknowledged → AckedIn journal processed rid
  pub back : on ≡ true → (rid : ℕ) → AckedIn journal processed rid → rid ≤ acknowledged
  pub off : on ≡ false → acknowledged ≡ 0

-- one more entry changes nothing of what was processed before it
pub acks_more : (o : Opening) (past : List Entry) (entry : Entry) (on : Bool) (acknowledged : ℕ) (processed : List Processed) → IsMade (opened o) (past ++ entry ∷ []) → BreaksNoRule (journal_with o past) processed → Acknowledges (journal_with o past) on acknowledged processed
    → Acknowledges (journal_with o (past ++ entry ∷ [])) on acknowledged processed
acks_more o past entry on acknowledged processed made keeps acks = record {
  forth = λ is rid some within.
      let a = acks.forth is rid some within in
      (a.0, a.1, a.2, a.3, a.4, a.5 ++ entry ∷ [], a.6, a.7, a.8, ap (λ es. es ++ entry ∷ []) a.9 ∙ append_assoc a.3 (a.4 ∷ a.5) (entry ∷ []), a.10, a.11);
  back = λ is rid a.
      let j = keeps.tried a.0 a.1 a.6 in
      let count : length (take a.0 processed) ≡ a.0 = length-take-le a.0 processed (omega (arith, get_within processed a.0 a.1 a.6)) in
      let at : Completes o j.0 j.1 a.0 = subst (Completes o j.0 j.1) count j.4 in
      let same = complete_one o (past ++ entry ∷ []) a.0 a.3 a.4 a.5 j.0 j.1 (j.2 ++ entry ∷ []) made a.9 (ap (λ es. es ++ entry ∷ []) j.3 ∙ append_assoc j.0 (j.1 ∷ j.2) (entry ∷ [])) a.10 at in
      let within : rid ≤ answered_of (state_testing o j.0 j.1) = subst (λ (s : PlainSession). rid ≤ answered_of s) (ap₂ (state_testing o) same.0 same.1) a.11 in
      acks.back is rid (a.0, a.1, a.2, j.0, j.1, j.2, a.6, a.7, a.8, j.3, at, within);
  off = acks.off;
}

acked_push : (journal : Journal) (processed : List Processed) (c : Processed) (rid : ℕ) → AckedIn journal processed rid → AckedIn journal (processed ++ c ∷ []) rid
acked_push journal processed c rid a =
    (a.0, a.1, a.2, a.3, a.4, a.5, get_push_still processed c a.0 a.1 a.6, a.7, a.8, a.9, a.10, a.11)

-- by an earlier copy, or by the new one
acked_pop : (journal : Journal) (processed : List Processed) (c : Processed) (rid : ℕ) → AckedIn journal (processed ++ c ∷ []) rid
    → AckedIn journal processed rid
    ⊎ ((ack : ℕ) × (before : List Entry) × (entry : Entry) × (after : List Entry) × (c.copy.request.ack ≡ Some ack) × (rid ≤ ack) × (journal.entries ≡ before ++ entry ∷ after) × Completes journal.opening before entry (length processed)
    × (rid ≤ answered_of (state_testing journal.opening before entry)))
acked_pop journal processed c rid a = elim (get_push processed c a.0 a.1 a.6) [
  | inl there ↦ inl (a.0, a.1, a.2, a.3, a.4, a.5, there, a.7, a.8, a.9, a.10, a.11)
  | inr last ↦
      inr (a.2, a.3, a.4, a.5, ap (λ (x : Processed). x.copy.request.ack) last.1 ∙ a.7, a.8, a.9, subst (Completes journal.opening a.3 a.4) last.0 a.10, a.11)
]

some_none : (o : Option ℕ) (n : ℕ) → o ≡ Some n → o ≡ None → ⊥
some_none o n some none = cc

some_same : (o : Option ℕ) (n m : ℕ) → o ≡ Some n → o ≡ Some m → n ≡ m
some_same o n m one other = cc

-- one more copy is processed with this entry
pub acks_push : (o : Opening) (past : List Entry) (entry : Entry) (processed : List Processed) (c : Processed) → IsMade (opened o) (past ++ entry ∷ []) → Completes o past entry (length processed) → (on : Bool) (plain : PlainKeep) → last_id plain.put ≡ answered_of (state_testing o past entry)
    → Acknowledges (journal_with o (past ++ entry ∷ [])) on plain.acknowledged processed → (ack : Option ℕ) → c.copy.request.ack ≡ ack
    → Acknowledges (journal_with o (past ++ entry ∷ [])) on (keep_on on plain ack).acknowledged (processed ++ c ∷ [])
acks_push o past entry processed c made completes false plain last acks ack is = record {
  forth = λ on. absurd (true_false (sym on));
  back = λ on. absurd (true_false (sym on));
  off = acks.off;
}
acks_push o past entry processed c made completes true plain last acks None is = record {
  forth = λ on rid some within. acked_push (journal_with o (past ++ entry ∷ [])) processed c rid (acks.forth on rid some within);
  back = λ on rid a. elim (acked_pop (journal_with o (past ++ entry ∷ [])) processed c rid a) [
    | inl earlier ↦ acks.back on rid earlier
    | inr new ↦ absurd (some_none c.copy.request.ack new.0 new.4 is)
  ];
  off = λ on. absurd (true_false on);
}
acks_push o past entry processed c made completes true plain last acks (Some ack) is = record {
  forth = λ on rid some within. elim (cases_lt plain.acknowledged rid) [
    | inr old ↦ acked_push (journal_with o (past ++ entry ∷ [])) processed c rid (acks.forth on rid some old)
    | inl new ↦ (length processed, c, ack, past, entry, [], get_last processed c, is, omega arith, refl, completes, omega (arith, last))
  ];
  back = λ on rid a. elim (acked_pop (journal_with o (past ++ entry ∷ [])) processed c rid a) [
    | inl earlier ↦ (
        let old : rid ≤ plain.acknowledged = acks.back on rid earlier in
        omega arith)
    | inr new ↦
        let same = complete_one o (past ++ entry ∷ []) (length processed) new.1 new.2 new.3 past entry [] made new.6 refl new.7 completes in
        let within : rid ≤ answered_of (state_testing o past entry) = subst (λ (s : PlainSession). rid ≤ answered_of s) (ap₂ (state_testing o) same.0 same.1) new.8 in
        let ack_is : new.0 ≡ ack = some_same c.copy.request.ack new.0 ack new.4 is in
        let reached : rid ≤ ack = omega (arith, new.5, ack_is) in
        omega (arith, last)
  ];
  off = λ on. absurd (true_false on);
}

-- The id that was answered last.

last_after-ids : (given : List Answered) (n : ℕ) → ((k : ℕ) (answer : Answered) → slice_get given k ≡ Some answer → answer.rid ≡ n + 1 + k) → last_after n (map kept_answer given) ≡ n + length given
last_after-ids [] n ids = omega arith
last_after-ids (answer ∷ given) n ids =
    let here : answer.rid ≡ n + 1 = omega (arith, ids 0 answer refl) in
    last_after-ids given answer.rid (λ k other at. omega (arith, ids (suc k) other at, here)) ∙ omega (arith, here)

pub last_answered : (s : PlainSession) → IsSound s → IsFirstAnswer s → last_id (map kept_answer (answers s)) ≡ answered_of s
last_answered s sound first = last_after-ids s.answered s.created.rid (λ k answer at. omega (arith, sound.ids k answer at, first)) ∙ omega (arith, first)
