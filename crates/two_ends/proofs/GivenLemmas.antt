-- What the server gave, call by call.
use Rattle.std.proofs.Common.{◌≡◌, ℕ, zero, suc, ◌+◌, List, [], ◌∷◌, ◌++◌, Option, Some, None, length, map, cond, false, refl, sym, ◌∙◌, ap, subst, arith}
use Rattle.std.specs.List.{count_by}
use Rattle.std.proofs.lemmas.List.Sums.{sum_by-append, sum_by-cons}
use Rattle.session_core.specs.declared.outward.Outward.{Outward}
use Rattle.session_core.specs.declared.outward.Outward.TheVariants.{Close, Stanza}
use Rattle.session_core.specs.declared.replies.Taken.{Taken}
use Rattle.session_core.specs.declared.replies.Taken.TheVariants as takings
use Rattle.session_core.specs.Copy.{unnamed}
use Rattle.session_core.specs.Journal.{Back, BackClosed, Call, Collect, Entered, IsAllowed, IsJournal, Journal, Made, TakeInward, ToBack, after_entry, entered_by, state_of}
use Rattle.session_core.specs.Machine.{back, back_closed, is_full, stanza_cost}
use Rattle.session_core.specs.Passed.{given_by, if_done}
use Rattle.session_core.specs.State.{PlainSession, is_over}
use Rattle.session_laws.proofs.GivenIn.{entry_gives, every_given, one}
use Rattle.session_laws.proofs.OneMore.{one_more, state_one_more}
use Rattle.session_laws.proofs.Steps.{back-in_time, may_enter}
use Rattle.session_laws.proofs.Tests.{if_false, split}
use Rattle.world_laws.specs.declared.told.Parked.{Parked}
use Rattle.session_calls.specs.After.{after_call, all_taken, untaken, with_entered, with_taken}
use Rattle.world_laws.specs.Manager.{PlainManager, all_collected, session, settled}
use Rattle.world_laws.specs.Sums.{given_sum, is_given_stanza}
use Rattle.world_laws.proofs.CallLemmas.{entered_is, told_by}
use Rattle.session_calls.proofs.TakingLemmas.{called_state}

abbrev pub stanzas : List Outward → ℕ
stanzas items = count_by is_given_stanza items

stanzas-append : (one other : List Outward) → stanzas (one ++ other) ≡ stanzas one + stanzas other
stanzas-append one other = sum_by-append (λ x. cond (is_given_stanza x) 1 0) one other

-- one where it was taken
abbrev pub taken_one : Taken → ℕ
taken_one takings.Done = 1
taken_one takings.Full = 0
taken_one takings.Over = 0

-- A stanza is given.

abbrev GivesAs : PlainSession → PlainSession × Taken → Type 0
GivesAs s r = stanzas r.0.given ≡ stanzas s.given + taken_one r.1

one_if_done : (stream : ℕ) (stanza : List ℕ) (r : Taken) → stanzas (one (if_done (Stanza stream stanza) r)) ≡ taken_one r
one_if_done stream stanza takings.Done = refl
one_if_done stream stanza takings.Full = refl
one_if_done stream stanza takings.Over = refl

module _ (s : PlainSession) (stream : ℕ) (stanza : List ℕ) (now : ℕ) (allowed : IsAllowed (Back stream stanza now)) where
  entered_gives : is_over s ≡ false → is_full s (stanza_cost stanza) ≡ false → GivesAs s (back s stream stanza now)
  entered_gives on room =
      let call = Back stream stanza now in
      let enters : entered_by s call ≡ Some (Made call) = if_false (is_over s) None _ on ∙ ap Some (if_false (is_full s (stanza_cost stanza)) _ (Made call) room) in
      let given : (after_entry s (Made call)).given ≡ s.given ++ one (given_by s (Made call)) = entry_gives s (Made call) (allowed, enters) in
      ap (λ (u : PlainSession). stanzas u.given) (sym (called_state ToBack (back s stream stanza now)))
      ∙ ap stanzas given ∙ stanzas-append s.given (one (given_by s (Made call)))
      ∙ ap (λ (n : ℕ). stanzas s.given + n) (one_if_done stream stanza (back s stream stanza now).1)

  pub back_gives : GivesAs s (back s stream stanza now)
  back_gives =
      split (GivesAs s) (is_over s) _ _ (λ over. omega arith)
      (λ on. split (GivesAs s) (is_full s (stanza_cost stanza)) _ _ (λ full. omega arith)
      (λ room. subst (GivesAs s) (back-in_time s stream stanza now on room) (entered_gives on room)))

-- A call that gives no stanza.

pub call_is_made : (j : Journal) (call : Call) → IsAllowed call → IsJournal j → IsJournal (after_call j call)
call_is_made j call allowed made = by (entered_by (state_of j) call) refl
  where
    by : (e : Option Entered) → entered_by (state_of j) call ≡ e → IsJournal (with_entered j e)
    by None is = made
    by (Some entered) is = one_more j call (told_by entered) made allowed is

pub given_same : (j : Journal) (call : Call) → IsAllowed call → stanzas (one (given_by (state_of j) (Made call))) ≡ 0 → stanzas (state_of (after_call j call)).given ≡ stanzas (state_of j).given
given_same j call allowed none = by (entered_by (state_of j) call) refl
  where
    by : (e : Option Entered) → entered_by (state_of j) call ≡ e → stanzas (state_of (with_entered j e)).given ≡ stanzas (state_of j).given
    by None is = refl
    by (Some entered) is =
        let s = state_of j in
        let state = ap (λ (t : PlainSession). stanzas t.given) (state_one_more j (told_by entered)) in
        let given = ap stanzas (entry_gives s entered (may_enter s call allowed entered is)) in
        let nothing : stanzas (one (given_by s entered)) ≡ 0 = entered_is s (λ e. stanzas (one (given_by s e)) ≡ 0) (λ kind cost now. refl) call none entered is in
        omega (arith, state, given, stanzas-append s.given (one (given_by s entered)), nothing)

pub closing_gives_none : (s : PlainSession) (stream : ℕ) (closing : _) (now : ℕ) → stanzas (one (given_by s (Made (BackClosed stream closing now)))) ≡ 0
closing_gives_none s stream closing now = by (back_closed s stream closing now).1
  where
    by : (r : Taken) → stanzas (one (if_done (Close stream closing) r)) ≡ 0
    by takings.Done = refl
    by takings.Full = refl
    by takings.Over = refl

-- Items are passed on, and tickets are collected.

record Keeps (j k : Journal) : Type 0 where
  made : IsJournal k
  given : stanzas (state_of k).given ≡ stanzas (state_of j).given

keeps_passed : (count : ℕ) (j : Journal) → IsJournal j → Keeps j (with_taken count j)
keeps_passed zero j made = record { made = made; given = refl }
keeps_passed (suc count) j made =
    let later = keeps_passed count (after_call j TakeInward) (call_is_made j TakeInward tt made) in
    record { made = later.made; given = later.given ∙ given_same j TakeInward tt refl }

keeps_collected : (j : Journal) (parked : List Parked) → IsJournal j → Keeps j (all_collected j parked)
keeps_collected j [] made = record { made = made; given = refl }
keeps_collected j (p ∷ parked) made =
    let later = keeps_collected (after_call j (Collect p.ticket)) parked (call_is_made j (Collect p.ticket) tt made) in
    record { made = later.made; given = later.given ∙ given_same j (Collect p.ticket) tt refl }

keeps_settled : (m : PlainManager) → IsJournal m.journal → Keeps m.journal (settled m).journal
keeps_settled m made =
    let passed = keeps_passed (length (untaken m.journal)) m.journal made in
    let collected = keeps_collected (all_taken m.journal) m.parked passed.made in
    record { made = collected.made; given = collected.given ∙ passed.given }

pub settled_made : (m : PlainManager) → IsJournal m.journal → IsJournal (settled m).journal
settled_made m made = (keeps_settled m made).made

-- how many were given, by the state
pub given_is : (m : PlainManager) → IsJournal m.journal → given_sum (Some m) ≡ stanzas (session m).given
given_is m made = ap stanzas (sym (every_given m.journal made))

pub settled_given : (m : PlainManager) → IsJournal m.journal → given_sum (Some (settled m)) ≡ stanzas (session m).given
settled_given m made = given_is (settled m) (settled_made m made) ∙ (keeps_settled m made).given

pub greeting_given : (greeting : List (List ℕ)) → stanzas (map (Stanza unnamed) greeting) ≡ length greeting
greeting_given [] = refl
greeting_given (stanza ∷ greeting) =
    omega (arith, sum_by-cons (λ x. cond (is_given_stanza x) 1 0) (Stanza unnamed stanza) (map (Stanza unnamed) greeting), greeting_given greeting)
