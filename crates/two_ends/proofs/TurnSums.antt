-- What comes to a manager, counted.
use Rattle.std.proofs.Common.{◌≡◌, ℕ, ◌+◌, false, List, [], ◌∷◌, ◌++◌, Option, Some, None, length, take, cond, refl, sym, ◌∙◌, ap, subst, arith}
use Rattle.std.specs.List.{count_by}
use Rattle.std.proofs.lemmas.List.Sums.{sum_by-append}
use Rattle.bosh_types.specs.declared.ending.Closing.{Closing}
use Rattle.bosh_types.specs.declared.inward.Inward.{Inward}
use Rattle.body_writer.specs.Answer.{answer_text}
use Rattle.session_attrs.specs.declared.request.Request.{Request}
use Rattle.session_core.specs.declared.replies.Arrived.{Arrived}
use Rattle.session_core.specs.declared.replies.Arrived.TheVariants as arrivals
use Rattle.session_core.specs.declared.replies.Ticked.{Ticked}
use Rattle.session_core.specs.declared.replies.Ticked.TheVariants as ticks
use Rattle.session_core.specs.Journal.{Arrive, Back, BackClosed, Call, IsAllowed, IsJournal, IsOpening, Journal, Tick, ToBack, none as nothing_entered, state_of}
use Rattle.session_core.specs.Machine.{arrive, back, created_parts, tick}
use Rattle.session_core.specs.declared.opening.Opening.{Opening}
use Rattle.session_core.specs.State.{PlainSession, inward, is_over}
use Rattle.world_laws.specs.declared.told.Told.{Told}
use Rattle.world_laws.specs.declared.told.Told.TheVariants as tells
use Rattle.session_calls.specs.After.{after_call}
use Rattle.world_laws.specs.Manager.{PlainManager, Turn, arrived, arrives, gives, not_found, opens, passes, session, settled, shuts, ticked, turned, with_journal, with_parked}
use Rattle.world_laws.specs.Sums.{given_sum, inward_sum, is_inward_stanza}
use Rattle.world_laws.proofs.Below.{Below}
use Rattle.world_laws.proofs.GrownLemmas.{state_after}
use Rattle.world_laws.proofs.SeenLemmas.{AllPassed, IsPassedTurn, arrives_passed, gives_passed, passed_told, shuts_passed, time_passed, turned_passed}
use Rattle.two_ends.proofs.GivenLemmas.{back_gives, call_is_made, closing_gives_none, given_is, given_same, greeting_given, settled_given, settled_made, stanzas, taken_one}
use Rattle.session_calls.proofs.TakingLemmas.{called_state}

-- the sums of a manager after what came to it, of which this was told
pub record TurnGrows (before : Option PlainManager) (given : ℕ) (turn : Turn) : Type 0 where
  pub inward_is : inward_sum (Some turn.after) ≡ inward_sum before + count_by is_inward_stanza (passed_told turn.told)
  pub given_is : given_sum (Some turn.after) ≡ given
  pub passed_is : (session turn.after).passed ≡ length (inward (session turn.after))

pub inward-append : (one other : List Inward) → count_by is_inward_stanza (one ++ other) ≡ count_by is_inward_stanza one + count_by is_inward_stanza other
inward-append one other = sum_by-append (λ x. cond (is_inward_stanza x) 1 0) one other

take_all : (xs : List Inward) → take (length xs) xs ≡ xs
take_all [] = refl
take_all (x ∷ xs) = ap (λ (l : List Inward). x ∷ l) (take_all xs)

module _ (below : Below) where
  -- where all was passed on
  passed_all : (m : PlainManager) → IsJournal m.journal → (session m).passed ≡ length (inward (session m)) → inward_sum (Some m) ≡ count_by is_inward_stanza (inward (session m))
  passed_all m made all =
      ap (λ (l : List Inward). count_by is_inward_stanza l)
      (sym (below.journals m.journal made).passed ∙ ap (λ (n : ℕ). take n (inward (session m))) all ∙ take_all (inward (session m)))

  grows_from : (before : Option PlainManager) (items : List Inward) (given : ℕ) (turn : Turn) → inward_sum before ≡ count_by is_inward_stanza items → IsJournal turn.after.journal → IsPassedTurn items turn
      → given_sum (Some turn.after) ≡ given → TurnGrows before given turn
  grows_from before items given turn so_far made passed given_are = record {
    inward_is =
        passed_all turn.after made passed.all ∙ ap (λ (l : List Inward). count_by is_inward_stanza l) (sym passed.are)
        ∙ inward-append items (passed_told turn.told) ∙ ap (λ (n : ℕ). n + count_by is_inward_stanza (passed_told turn.told)) (sym so_far);
    given_is = given_are;
    passed_is = passed.all;
  }

  module _ (m : PlainManager) (made : IsJournal m.journal) (all : (session m).passed ≡ length (inward (session m))) where
    so_far : AllPassed (session m) (inward (session m))
    so_far = record { are = refl; all = all }

    after_given : (call : Call) → IsAllowed call → stanzas (session (with_journal m (after_call m.journal call))).given ≡ given_sum (Some m)
        → given_sum (Some (settled (with_journal m (after_call m.journal call)))) ≡ given_sum (Some m)
    after_given call allowed same = settled_given (with_journal m (after_call m.journal call)) (call_is_made m.journal call allowed made) ∙ same

    pub gives_grows : (stream : ℕ) (stanza : List ℕ) (now : ℕ) → IsAllowed (Back stream stanza now) → TurnGrows (Some m) (given_sum (Some m) + taken_one (back (session m) stream stanza now).1) (gives m stream stanza now)
    gives_grows stream stanza now allowed =
        let call = Back stream stanza now in
        let later = with_journal m (after_call m.journal call) in
        let later_made = call_is_made m.journal call allowed made in
        let given : stanzas (session later).given ≡ stanzas (session m).given + taken_one (back (session m) stream stanza now).1 =
        ap (λ (s : PlainSession). stanzas s.given) (state_after below m.journal call made ∙ called_state ToBack (back (session m) stream stanza now)) ∙ back_gives (session m) stream stanza now allowed in
        grows_from (Some m) (inward (session m)) _ (gives m stream stanza now) (passed_all m made all) (settled_made later later_made) (gives_passed below m (inward (session m)) made so_far stream stanza now allowed)
        (settled_given later later_made ∙ given ∙ ap (λ (n : ℕ). n + taken_one (back (session m) stream stanza now).1) (sym (given_is m made)))

    pub shuts_grows : (stream : ℕ) (closing : Closing) (now : ℕ) → TurnGrows (Some m) (given_sum (Some m)) (shuts m stream closing now)
    shuts_grows stream closing now =
        let call = BackClosed stream closing now in
        grows_from (Some m) (inward (session m)) _ (shuts m stream closing now) (passed_all m made all) (settled_made (with_journal m (after_call m.journal call)) (call_is_made m.journal call tt made))
        (shuts_passed below m (inward (session m)) made so_far stream closing now)
        (after_given call tt (given_same m.journal call tt (closing_gives_none (session m) stream closing now) ∙ sym (given_is m made)))

    pub passes_grows : (now : ℕ) → TurnGrows (Some m) (given_sum (Some m)) (passes m now)
    passes_grows now = by (tick (session m) now).1 (time_passed below m (inward (session m)) made so_far now)
      where
        call : Call
        call = Tick now

        by : (reply : Ticked) → IsPassedTurn (inward (session m)) (ticked m (with_journal m (after_call m.journal call)) reply)
            → TurnGrows (Some m) (given_sum (Some m)) (ticked m (with_journal m (after_call m.journal call)) reply)
        by ticks.Quiet passed = grows_from (Some m) (inward (session m)) _ (ticked m (with_journal m (after_call m.journal call)) ticks.Quiet) (passed_all m made all) made passed refl
        by ticks.Changed passed =
            grows_from (Some m) (inward (session m)) _ (ticked m (with_journal m (after_call m.journal call)) ticks.Changed) (passed_all m made all)
            (settled_made (with_journal m (after_call m.journal call)) (call_is_made m.journal call tt made)) passed
            (after_given call tt (given_same m.journal call tt refl ∙ sym (given_is m made)))

    pub arrives_grows : (request : Request) (body : List ℕ) (now : ℕ) → IsAllowed (Arrive request body now) → TurnGrows (Some m) (given_sum (Some m)) (arrives m request body now)
    arrives_grows request body now allowed = by (arrive (session m) request body now).1 (arrives_passed below m (inward (session m)) made so_far request body now allowed)
      where
        call : Call
        call = Arrive request body now

        later : PlainManager
        later = with_journal m (after_call m.journal call)

        given : stanzas (session later).given ≡ given_sum (Some m)
        given = given_same m.journal call allowed refl ∙ sym (given_is m made)

        later_made : IsJournal later.journal
        later_made = call_is_made m.journal call allowed made

        turned_grows : (v : PlainManager) (answer : List Told) → v.journal ≡ later.journal → IsPassedTurn (inward (session m)) (turned (is_over (session m)) v answer)
            → TurnGrows (Some m) (given_sum (Some m)) (turned (is_over (session m)) v answer)
        turned_grows v answer same passed =
            let v_made : IsJournal v.journal = subst IsJournal (sym same) later_made in
            grows_from (Some m) (inward (session m)) _ (turned (is_over (session m)) v answer) (passed_all m made all) (settled_made v v_made) passed
            (settled_given v v_made ∙ ap (λ (j : Journal). stanzas (state_of j).given) same ∙ given)

        by : (reply : Arrived) → IsPassedTurn (inward (session m)) (arrived (is_over (session m)) later request.rid reply)
            → TurnGrows (Some m) (given_sum (Some m)) (arrived (is_over (session m)) later request.rid reply)
        by (arrivals.Answer bytes) passed = turned_grows later (tells.Answer request.rid bytes ∷ []) refl passed
        by (arrivals.Parked ticket) passed = turned_grows (with_parked later ticket request.rid) [] refl passed
        by arrivals.Over passed = turned_grows later (not_found request.rid ∷ []) refl passed

  -- the creation comes, and with it the greeting
  pub opens_grows : (o : Opening) → IsOpening o → TurnGrows None (length o.greeting) (opens o)
  opens_grows o is =
      let journal : Journal = record { opening = o; entries = [] } in
      let m : PlainManager = record { journal = journal; parked = [] } in
      let made : IsJournal journal = (is, nothing_entered) in
      grows_from None [] _ (opens o) refl (settled_made m made)
      (turned_passed below false m (tells.Answer o.request.rid (answer_text (created_parts o)) ∷ []) [] refl made (record { are = refl; within = omega arith }))
      (settled_given m made ∙ greeting_given o.greeting)
