-- Whatever a server gave is a stanza by itself, or a closing.
use Rattle.std.proofs.Common.{◌≡◌, ℕ, zero, suc, true, List, [], ◌∷◌, ◌++◌, slice_get, refl, sym, subst}
use Rattle.std.specs.Prelude.{None, Some, Option, All, IsTrue, ⊤, map}
use Rattle.std.specs.List.{list_all}
use Rattle.std.proofs.lemmas.Bool.{and_parts}
use Rattle.std.proofs.lemmas.List.Elements.{All-append, All-cons, All-head, All-nil, All-tail}
use Rattle.body_cutter.specs.Cutting.{is_stanza}
use Rattle.session_core.specs.declared.outward.Outward.{Outward}
use Rattle.session_core.specs.declared.outward.Outward.TheVariants.{Close, Stanza}
use Rattle.session_core.specs.declared.replies.Taken.{Taken}
use Rattle.session_core.specs.declared.replies.Taken.TheVariants as takings
use Rattle.session_core.specs.Copy.{unnamed}
use Rattle.session_core.specs.Journal.{Arrive, Back, BackClosed, Call, Collect, Entered, IsAllowed, IsJournal, Journal, Limit, Made, MayEnter, TakeInward, Tick, after_entry}
use Rattle.session_core.specs.Machine.{back, back_closed, opened}
use Rattle.session_core.specs.Outward.{items_in}
use Rattle.session_core.specs.Passed.{given_by, given_in, if_done, items_taken}
use Rattle.session_core.specs.State.{Answered, PlainSession}
use Rattle.session_laws.proofs.GivenIn.{entry_gives, every_given, one}
use Rattle.session_laws.proofs.Steps.{along}
use Rattle.session_laws.proofs.Tests.{some_is}

abbrev pub IsProper : Outward → Type 0
IsProper (Stanza stream bytes) = IsTrue (is_stanza bytes)
IsProper (Close stream closing) = ⊤

done : (item given : Outward) (reply : Taken) → IsProper item → if_done item reply ≡ Some given → IsProper given
done item given takings.Done proper is = subst IsProper (some_is item given is) proper
done item given takings.Full proper is = absurd (cc)
done item given takings.Over proper is = absurd (cc)

call_proper : (s : PlainSession) (call : Call) → IsAllowed call → (item : Outward) → given_by s (Made call) ≡ Some item → IsProper item
call_proper s (Arrive request body now) allowed item is = absurd (cc)
call_proper s (Collect ticket) allowed item is = absurd (cc)
call_proper s (Back stream stanza now) allowed item is = done (Stanza stream stanza) item (back s stream stanza now).1 allowed is
call_proper s (BackClosed stream closing now) allowed item is = done (Close stream closing) item (back_closed s stream closing now).1 tt is
call_proper s (Tick now) allowed item is = absurd (cc)
call_proper s TakeInward allowed item is = absurd (cc)

entered_proper : (s : PlainSession) (entered : Entered) → MayEnter s entered → (item : Outward) → given_by s entered ≡ Some item → IsProper item
entered_proper s (Made call) may item is = call_proper s call may.0 item is
entered_proper s (Limit kind cost now) may item is = absurd (cc)

entry_proper : (s : PlainSession) (entered : Entered) → MayEnter s entered → All IsProper s.given → All IsProper (after_entry s entered).given
entry_proper s entered may all =
    subst (λ (l : List Outward). All IsProper l) (sym (entry_gives s entered may)) (All-append IsProper s.given (one (given_by s entered)) all (by (given_by s entered) refl))
  where
    by : (o : Option Outward) → given_by s entered ≡ o → All IsProper (one o)
    by None none = All-nil IsProper
    by (Some item) gives = All-cons IsProper item [] (entered_proper s entered may item gives) (All-nil IsProper)

greeting_proper : (greeting : List (List ℕ)) → list_all is_stanza greeting ≡ true → All IsProper (map (Stanza unnamed) greeting)
greeting_proper [] all = All-nil IsProper
greeting_proper (bytes ∷ greeting) all =
    let parts = and_parts (is_stanza bytes) (list_all is_stanza greeting) all in
    All-cons IsProper (Stanza unnamed bytes) (map (Stanza unnamed) greeting) parts.0 (greeting_proper greeting parts.1)

pub every_proper : (journal : Journal) → IsJournal journal → All IsProper (given_in journal)
every_proper journal made =
    subst (λ (l : List Outward). All IsProper l) (every_given journal made)
    (along (opened journal.opening) (λ past s. All IsProper s.given) (λ past s entry may at all. entry_proper s entry.entered may all) journal.entries made.1
    (greeting_proper (journal.opening).greeting ((made.0).greeting).0))

-- What one answer took.

all_front : {X : Type 0} (P : X → Type 0) (xs ys : List X) → All P (xs ++ ys) → All P xs
all_front P [] ys all = All-nil P
all_front P (x ∷ xs) ys all = All-cons P x xs (All-head P x (xs ++ ys) all) (all_front P xs ys (All-tail P x (xs ++ ys) all))

all_rest : {X : Type 0} (P : X → Type 0) (xs ys : List X) → All P (xs ++ ys) → All P ys
all_rest P [] ys all = all
all_rest P (x ∷ xs) ys all = all_rest P xs ys (All-tail P x (xs ++ ys) all)

taken_proper : (answers : List Answered) (k : ℕ) (answer : Answered) → All IsProper (items_taken answers) → slice_get answers k ≡ Some answer → All IsProper (items_in answer.front)
taken_proper [] k answer all is = absurd (cc)
taken_proper (first ∷ answers) zero answer all is =
    subst (λ (a : Answered). All IsProper (items_in a.front)) (some_is first answer is) (all_front IsProper (items_in first.front) (items_taken answers) all)
taken_proper (first ∷ answers) (suc k) answer all is = taken_proper answers k answer (all_rest IsProper (items_in first.front) (items_taken answers) all) is

-- these are proper, where what the answers took begins what was given
pub fronts_proper : (answers : List Answered) (rest given : List Outward) → items_taken answers ++ rest ≡ given → All IsProper given → (k : ℕ) (answer : Answered) → slice_get answers k ≡ Some answer
    → All IsProper (items_in answer.front)
fronts_proper answers rest given begins all k answer is =
    taken_proper answers k answer (all_front IsProper (items_taken answers) rest (subst (λ (l : List Outward). All IsProper l) (sym begins) all)) is
