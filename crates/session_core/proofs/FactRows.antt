-- The fact of each ending holds in a session that ends so.
use Rattle.std.proofs.Common.{◌≡◌, ℕ, refl, ap, arith}
use Rattle.stream_names.specs.Streams.{is_among, name_of}
use Rattle.std.specs.Prelude.{true, false, is_some, IsTrue, List, [], ◌∷◌, Some, codes}
use Rattle.bosh_types.specs.declared.ending.Closing.TheVariants as closings
use Rattle.bosh_types.specs.declared.ending.Ending.{Ending}
use Rattle.bosh_types.specs.declared.ending.Ending.TheVariants as endings
use Rattle.session_core.specs.Facts.{Fact}
use Rattle.session_core.specs.Journal.{Call, BackClosed, Tick, Entered, Made, Limit, Arrival, step, after_entry}
use Rattle.session_core.specs.Machine.{opened}
use Rattle.session_core.specs.Points.{tested_at}
use Rattle.session_core.specs.State.{PlainSession}
use Rattle.session_core.proofs.RowTools.{usual, opening, opening_with, empty, carrying, plain, bodies_compute, keys_compute}

-- the state after calls
abbrev after : PlainSession → List Call → PlainSession
after s [] = s
after s (call ∷ calls) = after (step s call).0 calls

names_x : (stream : ℕ) × IsTrue (is_among (0 ∷ []) stream) × (name_of stream ≡ codes "x") → ⊥
names_x (stream, is, same) = absurd (cc)

-- what the last of the entries shows of this ending
abbrev ShownBy : PlainSession → Entered → Ending → Type 0
ShownBy s entered ending = Fact (tested_at s entered) entered (after_entry s entered) ending

terminated : ShownBy (opened opening) (Made (plain (record (empty 1001) { terminate = true }) 0)) (endings.Terminated 1001)
unfolding bodies_compute
terminated = ([], _, refl, refl, refl)

stale : ShownBy (after (opened opening) (carrying (empty 1001) (codes "<a/>") 0 ∷ carrying (empty 1002) (codes "<b/>") 0 ∷ carrying (empty 1003) (codes "<c/>") 0 ∷ carrying (empty 1004) (codes "<d/>") 0 ∷ carrying (empty 1005) (codes "<e/>") 0 ∷ [])) (Made (plain (empty 1001) 0)) (endings.Stale 1001 1002)
unfolding bodies_compute
stale = ((refl, refl, (omega arith, refl)), refl)

above : ShownBy (opened opening) (Made (plain (empty 1003) 0)) (endings.Above 1003 1000 2)
unfolding bodies_compute
above = ((refl, refl, (refl, refl)), refl, refl)

wrong_key : ShownBy (opened (opening_with usual (Some (codes "x")) 1000)) (Made (plain (record (empty 1001) { key = Some (codes "y") }) 0)) (endings.WrongKey 1001)
unfolding bodies_compute keys_compute
wrong_key = (refl, refl, _, refl, λ fits. absurd (cc))

unknown_stream : ShownBy (opened opening) (Made (plain (record (empty 1001) { stream = Some (codes "x") }) 0)) (endings.UnknownStream 1001)
unfolding bodies_compute
unknown_stream = (refl, refl, _, refl, (refl, λ names. names_x (names (codes "x") refl)))

pause_too_long : ShownBy (opened opening) (Made (plain (record (empty 1001) { pause = Some 121 }) 0)) (endings.PauseTooLong 1001 121 120)
unfolding bodies_compute
pause_too_long = ((refl, refl, _, refl, (refl, (λ name is. absurd (cc)), (refl, refl), omega arith)), refl)

overactive : ShownBy (after (opened opening) (carrying (empty 1001) (codes "<a/>") 1000 ∷ [])) (Made (plain (empty 1002) 5999)) (endings.Overactive 1002 4999)
unfolding bodies_compute
overactive = (refl, refl, _, refl, (refl, (λ name is. absurd (cc)), (λ seconds asks. absurd (cc)), refl, refl))

silent : ShownBy (opened opening) (Made (Tick 30001)) (endings.Silent 0 30001)
unfolding bodies_compute
silent = (refl, (λ holds. refl), refl, refl, omega arith)

closed : ShownBy (after (opened opening) (carrying (empty 1001) (codes "<a/>") 0 ∷ [])) (Made (BackClosed 0 closings.Plain 0)) (endings.Closed closings.Plain 1001)
unfolding bodies_compute
closed = (refl, refl, (refl, (0, refl)))

journal_full : ShownBy (record (opened opening) { counted = 16777100 }) (Limit Arrival 136 0) (endings.JournalFull 16777100 136)
unfolding bodies_compute
journal_full = (refl, refl, omega arith)

-- Where one ending's fact holds, no other's does.

-- a copy beyond the window comes when time has ended the session
silent_and_not_above : ShownBy (opened opening) (Made (plain (empty 1009) 30001)) (endings.Silent 0 30001)
unfolding bodies_compute
silent_and_not_above = (refl, (λ holds. refl), refl, refl, omega arith)

not_above_after_silence : ShownBy (opened opening) (Made (plain (empty 1009) 30001)) (endings.Above 1009 1000 2) → ⊥
unfolding bodies_compute
not_above_after_silence shown = let over : true ≡ false = shown.0.0 in cc

-- so does one whose answer is no longer kept
not_stale_after_silence : ShownBy (opened opening) (Made (plain (empty 999) 30001)) (endings.Stale 999 1000) → ⊥
unfolding bodies_compute
not_stale_after_silence shown = let over : true ≡ false = shown.0.0 in cc

-- a copy stands behind a terminate, and would break a rule
not_unknown_after_terminate :
    ShownBy (after (opened opening) (plain (record (empty 1002) { stream = Some (codes "x") }) 0 ∷ [])) (Made (plain (record (empty 1001) { terminate = true }) 0)) (endings.UnknownStream 1002)
    → ⊥
unfolding bodies_compute
not_unknown_after_terminate shown = let goes_on : true ≡ false = shown.0 in cc

-- a copy of an open id is beyond the window of one that is no pause
not_above_where_open :
    ShownBy (after (opened opening) (plain (record (empty 1003) { pause = Some 5 }) 0 ∷ [])) (Made (plain (empty 1003) 0)) (endings.Above 1003 1000 2)
    → ⊥
unfolding bodies_compute
not_above_where_open shown = let none : true ≡ false = ap is_some shown.0.2.1 in cc
