-- A session that is asked what there is to do for it, and left alone where that is nothing.
use Rattle.std.proofs.Common.{◌≡◌, ℕ, List, map, Option, Some, None, Err, sym, subst}
use Rattle.std.specs.Prelude.{slice_get}
use Rattle.std.specs.declared.alloc.AllocError.{AllocError}
use Rattle.parked_gate.specs.Passes.{Known, Looks}
use Rattle.session_journal.specs.declared.asking.State.{State}
use Rattle.session_journal.specs.Seen.{IsStateAfter}
use Rattle.session_table.specs.declared.entry.Entry.{Entry}
use Rattle.session_table.specs.Purses.{Sessions, Turned}
use Rattle.session_pump.specs.Dues.{Dues, IsFirstDue}
use Rattle.session_pump.specs.Leaving.{IsAtRest, RestsAt}
use Rattle.session_pump.specs.Hosts.{HostFacts}
use Rattle.session_pump.specs.Pumping.{Lines, Pumping, line_of}
use Rattle.session_pump.specs.Sides.{IsOpenAmong}
use Rattle.session_pump.specs.declared.line.Side.{Side}
use Rattle.session_pump.specs.Turns.{Notes, noted_not}
use Rattle.session_pump.specs.declared.line.Line.{Line}
use Rattle.session_pump.specs.declared.line.Stage.TheVariants as stages
use Rattle.session_pump.proofs.ListLemmas.{got_map}
use Rattle.session_pump.proofs.TurnLemmas.{looked_as, pumping}

-- its line is at rest
pub rests_so : {dues : Dues} (number : ℕ) (d : Known Entry) (s : Sessions) (l : Lines) (h : List HostFacts) (line : Line)
    → line_of l number ≡ Some line → line.kept ≡ None → ((place : ℕ) (side : Side) → slice_get line.sides.items place ≡ Some side → RestsAt h side)
    → IsAtRest number (pumping dues d s l h)
rests_so number d s l h line is taken streams = record { line = line; is = is; taken = taken; streams = streams }

-- the wire of a stream is open at its host
pub open_so : {X : Type 0} (facts : X → HostFacts) (stands : List X) (side : Side) (at : ℕ) (stand : X) → side.host ≡ Some at → slice_get stands at ≡ Some stand
    → side.stage ≡ stages.Opened (facts stand).ends.failures → IsOpenAmong (map facts stands) side
open_so facts stands side at stand to there opened = record { at = at; host = facts stand; to = to; there = got_map facts stands at stand there; opened = opened }

-- there was no memory to note it
pub noted_not_so : (number : ℕ) (due : Option ℕ) (a : Pumping) (dues : Dues) (error : AllocError) → dues ≡ a.dues → Notes number due a (record a { dues = dues }) (Err error)
noted_not_so number due a dues error same = subst (λ (x : Dues). Notes number due a (record a { dues = x }) (Err error)) (sym same) (noted_not error)

-- what a session answers tells when it is due
pub due_so : (number : ℕ) (a b : Sessions) (state : State) → Turned number a b (Looks (λ log. IsStateAfter log state)) → Turned number a b (Looks (λ log. IsFirstDue log state.due))
due_so number a b state turned =
    looked_as (λ log. IsStateAfter log state) (λ log. IsFirstDue log state.due) number a b
    (λ log says. record { journal = says.journal; is = says.is; holds = says.holds.due }) turned
