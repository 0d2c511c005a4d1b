-- A copy that finds no place in its session: the session ended with it, and the condition that it is told says why.
use Rattle.std.proofs.Common.{◌≡◌, ℕ, zero, suc, ◌+◌, ◌==◌, ◌&&◌, Bool, true, false, not, List, [], ◌∷◌, ◌++◌, Option, Some, None, length, drop, is_some, refl, sym, subst, ◌∙◌, ap, arith, inl, inr, if◌then◌else◌}
use Rattle.std.specs.Prelude.{◌⊎◌}
use Rattle.std.specs.List.{list_any}
use Rattle.std.proofs.lemmas.Bool.{eqb-true}
use Rattle.std.proofs.lemmas.List.{nil_from_length}
use Rattle.std.proofs.lemmas.List.Sums.{sum_by-append}
use Rattle.bosh_types.specs.declared.condition.Condition.{Condition}
use Rattle.bosh_types.specs.declared.condition.Condition.TheVariants.{ItemNotFound, UndefinedCondition}
use Rattle.bosh_types.specs.declared.ending.Closing.{Closing}
use Rattle.bosh_types.specs.declared.ending.Ending.{Ending}
use Rattle.bosh_types.specs.declared.ending.Ending.TheVariants.{Stale, Above, Silent, JournalFull}
use Rattle.body_writer.specs.Answer.{answer_text}
use Rattle.session_attrs.specs.declared.request.Request.{Request}
use Rattle.session_core.specs.declared.outward.Front.{Front}
use Rattle.session_core.specs.declared.outward.Front.TheVariants.{OfStanzas, OfClosing}
use Rattle.session_core.specs.declared.outward.Outward.{Outward}
use Rattle.session_core.specs.declared.replies.Arrived.{Arrived}
use Rattle.session_core.specs.declared.replies.Arrived.TheVariants as arrivals
use Rattle.session_core.specs.Answers.{answer_parts, has_reason, has_reason_for, gives_reason, reasons, front_of, front_for, with_answer, settled_in, settled}
use Rattle.session_core.specs.Copy.{id_of, is_prompt}
use Rattle.session_core.specs.Gap.{struck}
use Rattle.session_core.specs.Journal.{Arrive, Journal, IsJournal, IsAllowed, ToArrive, state_of}
use Rattle.session_core.specs.Machine.{advanced, arrive, arrived_in_time, body_cost, bytes_for, copy_now, is_full, placed, refused, replied, reopened, wait_at, with_cost}
use Rattle.session_core.specs.Outward.{items_in}
use Rattle.session_core.specs.Processed.{Processed}
use Rattle.session_core.specs.State.{PlainSession, Answered, answers, held, is_over, taken_by_answers, waiting}
use Rattle.session_core.specs.Time.{at_moment, is_silent, quiet_of, silenced, time_applied}
use Rattle.session_laws.specs.Replies.{IsToldTo}
use Rattle.session_laws.proofs.LawsOf.{every_answer_told}
use Rattle.session_laws.proofs.Moves.{Answering, Striking, settled-by, silenced_as, struck-by}
use Rattle.session_laws.proofs.Reasons.{every_settled}
use Rattle.session_laws.proofs.Steps.{ArrivalBy, arrival-by}
use Rattle.session_laws.proofs.Tests.{split, neither, not_true, true_false}
use Rattle.script_text.specs.Refusing.{FindsNoPlace, refusal_text}
use Rattle.script_text.proofs.JournalSteps.{called_state}
use Rattle.script_text.proofs.TicketIds.{called_reply}

-- Time alone closes no session: what was given waits only where no request is held.

drop_none : {X : Type 0} (n : ℕ) (xs : List X) → xs ≡ [] → drop n xs ≡ []
drop_none zero xs none = none
drop_none (suc n) [] none = refl
drop_none (suc n) (x ∷ xs) none = absurd (cc)

drop_more : {X : Type 0} (n k : ℕ) (xs : List X) → drop n xs ≡ [] → drop (n + k) xs ≡ []
drop_more zero k xs none =
    let same : k ≡ zero + k = omega arith in
    subst (λ m. drop m xs ≡ []) same (drop_none k xs none)
drop_more (suc n) k [] none = drop_none (suc n + k) [] refl
drop_more (suc n) k (x ∷ xs) none =
    let same : suc (n + k) ≡ suc n + k = omega arith in
    subst (λ m. drop m (x ∷ xs) ≡ []) same (drop_more n k xs none)

-- one more answer takes no less
waiting_less : (s : PlainSession) (one : Processed) (front : Front) → waiting s ≡ [] → waiting (with_answer s one front) ≡ []
waiting_less s one front none =
    let answer : Answered = record { rid = id_of one.copy; bytes = answer_text (answer_parts s one front); moment = s.now; front = front } in
    let sum : taken_by_answers (answers (with_answer s one front)) ≡ taken_by_answers (answers s) + taken_by_answers (answer ∷ [])
    = sum_by-append (λ (a : Answered). length (items_in a.front)) (answers s) (answer ∷ []) in
    ap (λ n. drop n s.given) sum ∙ drop_more (taken_by_answers (answers s)) (taken_by_answers (answer ∷ [])) s.given none

takes_nothing : (s : PlainSession) (oldest : Processed) → waiting s ≡ [] → front_for s oldest ≡ OfStanzas []
takes_nothing s oldest none = by (is_prompt oldest.copy)
  where
    by : (b : Bool) → (if b then OfStanzas [] else front_of (waiting s)) ≡ OfStanzas []
    by true = refl
    by false = ap front_of none

no_closing : (front : Front) (stream : ℕ) (closing : Closing) → front ≡ OfStanzas [] → front ≡ OfClosing stream closing → ⊥
no_closing front stream closing one other = cc

-- the session goes on, and nothing that was given waits
abbrev Idles : PlainSession → Type 0
Idles s = (is_over s ≡ false) × (waiting s ≡ [])

idle_answering : Answering Idles
idle_answering = record {
  gives = λ s oldest later front is on reason due other idle. (on, waiting_less s oldest front idle.1);
  closes = λ s oldest later stream closing is on reason due last idle.
      absurd (no_closing (front_for s oldest) stream closing (takes_nothing s oldest idle.1) due);
}

-- where the oldest held request has no reason, nothing waits
none_waits : (s : PlainSession) (oldest : Processed) (later : List Processed) → held s ≡ oldest ∷ later → is_over s ≡ false → has_reason s ≡ false → waiting s ≡ []
none_waits s oldest later is on none =
    let tests : (not (is_over s) && list_any (gives_reason s oldest) reasons) ≡ false = ap (has_reason_for s) (sym is) ∙ none in
    let any : list_any (gives_reason s oldest) reasons ≡ false = ap (λ b. not b && list_any (gives_reason s oldest) reasons) (sym on) ∙ tests in
    let items = neither (not (length (waiting s) == 0) && not (is_prompt oldest.copy)) _ any in
    let hold = neither _ _ items.1 in
    let waits = neither _ _ hold.1 in
    let prompts : list_any prompt (held s) ≡ false = (neither _ _ waits.1).0 in
    let not_prompt : is_prompt oldest.copy ≡ false = (neither (is_prompt oldest.copy) (list_any prompt later) (ap (list_any prompt) (sym is) ∙ prompts)).0 in
    let empty : (length (waiting s) == 0) ≡ true = both (length (waiting s) == 0) (is_prompt oldest.copy) items.0 not_prompt in
    nil_from_length (waiting s) (eqb-true (length (waiting s)) 0 empty)
  where
    prompt : Processed → Bool
    prompt one = is_prompt one.copy

    both : (a b : Bool) → not a && not b ≡ false → b ≡ false → a ≡ true
    both true b is not = refl
    both false true is not = absurd (cc)
    both false false is not = absurd (cc)

settled_on : (s : PlainSession) (now : ℕ) → has_reason s ≡ false → is_over s ≡ false → is_over (settled (at_moment s now)) ≡ false
settled_on s now none on = by (held s) refl
  where
    by : (copies : List Processed) → held s ≡ copies → is_over (settled (at_moment s now)) ≡ false
    by [] is = ap (λ n. is_over (settled_some n)) (ap length is) ∙ on
      where
        settled_some : ℕ → PlainSession
        settled_some n = settled_in n (at_moment s now)
    by (oldest ∷ later) is = (settled-by Idles idle_answering (at_moment s now) (on, none_waits s oldest later is on none)).0

-- a session that ends by time was silent
pub time_silent : (s : PlainSession) (now : ℕ) → has_reason s ≡ false → is_over s ≡ false → is_over (time_applied s now) ≡ true
    → (since at : ℕ) × ((time_applied s now).ending ≡ Some (Silent since at))
time_silent s now none on over =
    let t : PlainSession = struck (settled (at_moment s now)) in
    let goes : is_over t ≡ false = struck-by (λ u. is_over u ≡ false) (λ u rid still polled due is. is) (settled (at_moment s now)) (settled_on s now none on) in
    silenced_as (λ u. is_over u ≡ true → (since at : ℕ) × (u.ending ≡ Some (Silent since at))) t
    (λ still silent is. (quiet_of t, t.now, refl))
    (λ not_silent is. absurd (true_false (sym is ∙ goes))) over

-- What an arriving copy is told: what its id was given, or why it found no place.

abbrev pub FoundNone : PlainSession → ℕ → List ℕ → Type 0
FoundNone after rid bytes =
    (ending : Ending) × (condition : Condition) × (after.ending ≡ Some ending) × FindsNoPlace rid ending condition × (bytes ≡ refusal_text condition)

abbrev ToldHow : ℕ → PlainSession × Arrived → Type 0
ToldHow rid r = (bytes : List ℕ) → r.1 ≡ arrivals.Answer bytes → IsToldTo r.0 rid bytes → (bytes_for r.0 rid ≡ Some bytes) ⊎ FoundNone r.0 rid bytes

bytes_same : (one bytes : List ℕ) → arrivals.Answer one ≡ arrivals.Answer bytes → bytes ≡ one
bytes_same one bytes is = cc

never_waits : (number : ℕ) (bytes : List ℕ) → arrivals.Parked number ≡ arrivals.Answer bytes → ⊥
never_waits number bytes is = cc

going_told : (t : PlainSession) (rid : ℕ) (answer : Arrived) → is_over t ≡ false → ToldHow rid (t, answer)
going_told t rid answer on bytes is told = elim told [
  | inl given ↦ inl given
  | inr refused ↦ absurd (true_false (sym refused.0 ∙ on))
]

replied_how : (u : PlainSession) (rid : ℕ) (o : Option (List ℕ)) → bytes_for u rid ≡ o
    → ToldHow rid (elim o [ Some bytes ↦ (u, arrivals.Answer bytes) | None ↦ wait_at u rid ])
replied_how u rid None is bytes same told = absurd (never_waits _ bytes same)
replied_how u rid (Some given) is bytes same told = inl (is ∙ ap Some (sym (bytes_same given bytes same)))

module _ (s : PlainSession) (request : Request) (body : List ℕ) (now : ℕ) (none : has_reason s ≡ false) (on : is_over s ≡ false) where
  abbrev timed : PlainSession
  timed = with_cost (body_cost request body) (time_applied s now)

  in_time_how : ToldHow request.rid (arrived_in_time timed request body)
  in_time_how = arrival-by timed request body (ToldHow request.rid) (record {
    over = λ over bytes is told.
        let silent = time_silent s now none on over in
        inr (Silent silent.0 silent.1, ItemNotFound, silent.2, refl, bytes_same _ bytes is);
    again = λ answer goes within kept. going_told timed request.rid (arrivals.Answer answer.bytes) goes;
    stale = λ goes within kept bytes is told. inr (_, ItemNotFound, refl, (refl, refl), bytes_same _ bytes is);
    repeats = λ goes later open_now bytes is told. absurd (never_waits _ bytes is);
    above = λ goes later new beyond bytes is told. inr (_, ItemNotFound, refl, (refl, refl), bytes_same _ bytes is);
    fresh = λ goes later new within.
        let u : PlainSession = settled (advanced (placed timed (copy_now timed request body))) in
        replied_how u request.rid (bytes_for u request.rid) refl;
  })

  arrive_how : ToldHow request.rid (arrive s request body now)
  arrive_how = split (ToldHow request.rid) (is_over s) _ _
      (λ over. absurd (true_false (sym over ∙ on)))
      (λ goes. split (ToldHow request.rid) (is_full s (body_cost request body)) _ _
      (λ full bytes is told. inr (_, UndefinedCondition, refl, refl, bytes_same _ bytes is))
      (λ room. in_time_how))

-- of a session that goes on
pub every_how : (journal : Journal) → IsJournal journal → (request : Request) (body : List ℕ) (now : ℕ) → IsAllowed (Arrive request body now) → is_over (state_of journal) ≡ false
    → (bytes : List ℕ) → (arrive (state_of journal) request body now).1 ≡ arrivals.Answer bytes
    → (bytes_for (arrive (state_of journal) request body now).0 request.rid ≡ Some bytes) ⊎ FoundNone (arrive (state_of journal) request body now).0 request.rid bytes
every_how journal made request body now allowed on bytes is =
    let r : PlainSession × Arrived = arrive (state_of journal) request body now in
    arrive_how (state_of journal) request body now (every_settled journal made) on bytes is
    (subst (λ u. IsToldTo u request.rid bytes) (called_state ToArrive r)
    (every_answer_told journal made request body now bytes allowed on (called_reply r ∙ ap ToArrive is)))
