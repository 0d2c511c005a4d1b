-- What a caller adds to its own entries of a client's history.
use Rattle.std.specs.Prelude.{◌≡◌, ◌⊎◌, ℕ, Bool, true, false, List, [], ◌∷◌, ◌++◌, Option, IfSome}
use Rattle.std.specs.List.{flat_map, list_all, list_any}
use Rattle.body_cutter.specs.Cutting.{is_stanza}
use Rattle.line_reader.specs.Lines.{lines_of}
use Rattle.parked_gate.specs.Passes.{Known}
use Rattle.client_run.specs.declared.call.Call.{Call}
use Rattle.client_run.specs.declared.call.Call.TheVariants as calls
use Rattle.client_run.specs.declared.entry.Entered.{Entered}
use Rattle.client_run.specs.declared.entry.Entered.TheVariants.{Setup, Called}
use Rattle.client_run.specs.declared.entry.Entry.{Entry}

-- what an entry's call is, and something else for a setup
abbrev pub by_call : {X : Type 0} → X → (Call → X) → Entered → X
by_call other f (Setup setup) = other
by_call other f (Called call) = f call

abbrev pub is_entry : (Call → Bool) → Entry → Bool
is_entry p e = by_call false p e.entered

abbrev pub is_hand_out : Call → Bool
is_hand_out (calls.Put stanza) = false
is_hand_out calls.Restart = false
is_hand_out (calls.Pause seconds) = false
is_hand_out calls.Terminate = false
is_hand_out (calls.Next now) = false
is_hand_out (calls.Answer rid body now) = false
is_hand_out calls.HandOut = true

abbrev pub is_terminate : Call → Bool
is_terminate (calls.Put stanza) = false
is_terminate calls.Restart = false
is_terminate (calls.Pause seconds) = false
is_terminate calls.Terminate = true
is_terminate (calls.Next now) = false
is_terminate (calls.Answer rid body now) = false
is_terminate calls.HandOut = false

-- the calls of a worker
abbrev pub is_of_worker : Call → Bool
is_of_worker (calls.Put stanza) = false
is_of_worker calls.Restart = false
is_of_worker (calls.Pause seconds) = false
is_of_worker calls.Terminate = false
is_of_worker (calls.Next now) = true
is_of_worker (calls.Answer rid body now) = true
is_of_worker calls.HandOut = false

-- those of talking
abbrev pub is_of_talk : Call → Bool
is_of_talk (calls.Put stanza) = true
is_of_talk calls.Restart = false
is_of_talk (calls.Pause seconds) = false
is_of_talk calls.Terminate = true
is_of_talk (calls.Next now) = false
is_of_talk (calls.Answer rid body now) = false
is_of_talk calls.HandOut = true

abbrev pub stanza_of : Call → List (List ℕ)
stanza_of (calls.Put stanza) = stanza ∷ []
stanza_of calls.Restart = []
stanza_of (calls.Pause seconds) = []
stanza_of calls.Terminate = []
stanza_of (calls.Next now) = []
stanza_of (calls.Answer rid body now) = []
stanza_of calls.HandOut = []

-- the stanzas that entries put, in order
abbrev pub stanzas_in : List Entry → List (List ℕ)
stanzas_in es = flat_map (λ e. by_call [] stanza_of e.entered) es

-- a caller has these entries more of its own
pub record Adds (old new : Known Entry) (P : List Entry → Type 0) : Type 0 where
  pub added : List Entry
  pub mine : new.mine ≡ old.mine ++ added
  pub holds : P added

-- all of them are such calls
abbrev pub AddsOnly : (Call → Bool) → Known Entry → Known Entry → Type 0
AddsOnly p old new = Adds old new (λ added. list_all (is_entry p) added ≡ true)

-- The entries of talking over an input, where that is told: calls with which stanzas are put or handed out, and a terminate. What
-- is put is stanzas, and they are the first lines of the input, in order. A terminate is among the entries only where all lines were put
pub record IsTalk (input : Option (List ℕ)) (added : List Entry) : Type 0 where
  pub only : list_all (is_entry is_of_talk) added ≡ true
  pub stanzas : list_all is_stanza (stanzas_in added) ≡ true
  pub lines : IfSome input (λ bytes. (rest : List (List ℕ)) × (lines_of bytes ≡ stanzas_in added ++ rest))
  pub closes : (list_any (is_entry is_terminate) added ≡ false) ⊎ IfSome input (λ bytes. lines_of bytes ≡ stanzas_in added)
