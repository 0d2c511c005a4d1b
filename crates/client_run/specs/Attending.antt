-- Lines that are put to a client while what it hands out is written as it comes.
use Rattle.std.specs.Prelude.{◌≡◌, ◌⊎◌, ℕ, ◌<◌, Bool, true, false, List, [], ◌∷◌, ◌++◌, Option, Some, None, IfSome, Result, Ok, Err}
use Rattle.std.specs.List.{list_all, list_any}
use Rattle.std.specs.declared.alloc.AllocError.{AllocError}
use Rattle.bosh_client.specs.declared.replies.Queued.{Queued}
use Rattle.bosh_types.specs.Limits.{most_lines}
use Rattle.line_reader.specs.Lines.{lines_of}
use Rattle.parked_gate.specs.Passes.{Known}
use Rattle.client_run.specs.declared.attending.Attended.{Attended}
use Rattle.client_run.specs.declared.attending.Attended.TheVariants as attended
use Rattle.client_run.specs.declared.attending.Held.{Held}
use Rattle.client_run.specs.declared.attending.Held.TheVariants as held
use Rattle.client_run.specs.declared.call.Call.TheVariants as calls
use Rattle.client_run.specs.declared.entry.Entry.{Entry}
use Rattle.client_run.specs.declared.talking.Input.TheVariants as inputs
use Rattle.client_run.specs.Adding.{Adds, IsTalk, is_entry, is_of_talk, is_terminate, stanzas_in}
use Rattle.client_run.specs.Input.{IsFirstBad, PutsAll, TakesNoMore, WasFull}
use Rattle.client_run.specs.Queueing.{QueuesBy}
use Rattle.client_run.specs.Talking.{Takes}

-- entries of talking without a terminate, and the stanzas that they put
pub record IsSpoken (stanzas : List (List ℕ)) (es : List Entry) : Type 0 where
  pub only : list_all (is_entry is_of_talk) es ≡ true
  pub open_yet : list_any (is_entry is_terminate) es ≡ false
  pub put : stanzas_in es ≡ stanzas

-- a caller's entries grew by such ones
abbrev pub Speaking : Known Entry → Known Entry → List (List ℕ) → Type 0
Speaking old new stanzas = Adds old new (IsSpoken stanzas)

-- a stanza was put; or the client takes no more; or its queue was full
unfoldable pub HoldsBy : List ℕ → Known Entry → Known Entry → Result Held AllocError → Type 0
HoldsBy stanza old new (Ok held.Done) = Speaking old new (stanza ∷ [])
HoldsBy stanza old new (Ok held.Over) = Speaking old new [] × TakesNoMore new
HoldsBy stanza old new (Ok held.WriteFault) = Unit {0}
HoldsBy stanza old new (Ok held.Stuck) = Speaking old new [] × WasFull old.seen new.seen
HoldsBy stanza old new (Err error) = Unit {0}

-- all that was handed out is written, unless the sink failed
abbrev pub is_held_whole : Result Held AllocError → Bool
is_held_whole (Ok held.Done) = true
is_held_whole (Ok held.Over) = true
is_held_whole (Ok held.WriteFault) = false
is_held_whole (Ok held.Stuck) = true
is_held_whole (Err error) = true

abbrev pub is_attend_whole : Result Attended AllocError → Bool
is_attend_whole (Ok attended.Done) = true
is_attend_whole (Ok (attended.Bad n)) = true
is_attend_whole (Ok attended.ReadFault) = true
is_attend_whole (Ok attended.WriteFault) = false
is_attend_whole (Ok attended.Stuck) = true
is_attend_whole (Err error) = true

abbrev pub is_turn_whole : Result (Option Attended) AllocError → Bool
is_turn_whole (Ok None) = true
is_turn_whole (Ok (Some attended)) = is_attend_whole (Ok attended)
is_turn_whole (Err error) = true

-- how what came of a line ends it
abbrev pub ended_by : Held → Option Attended
ended_by held.Done = None
ended_by held.Over = Some attended.Done
ended_by held.WriteFault = Some attended.WriteFault
ended_by held.Stuck = Some attended.Stuck

-- the next line is a stanza that was put; or it is none, or one too many; or there was none, and a terminate was queued if one could be;
-- or the client takes no more; or its queue was full
unfoldable pub TurnedBy : ℕ → Known Entry → Known Entry → Option (List ℕ) → Option (List ℕ) → Result (Option Attended) AllocError → Type 0
TurnedBy line old new left later (Ok None) = (stanza : List ℕ) × Takes left later (inputs.Stanza stanza) × Speaking old new (stanza ∷ []) × (most_lines < line → ⊥)
TurnedBy line old new left later (Ok (Some attended.Done)) =
    ((mid : Known Entry) × (queued : Queued) × Takes left later inputs.End × Speaking old mid [] × QueuesBy calls.Terminate mid new (Ok queued))
    ⊎ ((stanza : List ℕ) × Takes left later (inputs.Stanza stanza) × Speaking old new [] × TakesNoMore new)
TurnedBy line old new left later (Ok (Some (attended.Bad n))) =
    (n ≡ line) × (Takes left later inputs.Other ⊎ ((stanza : List ℕ) × Takes left later (inputs.Stanza stanza) × (most_lines < line)))
TurnedBy line old new left later (Ok (Some attended.ReadFault)) = Unit {0}
TurnedBy line old new left later (Ok (Some attended.WriteFault)) = Unit {0}
TurnedBy line old new left later (Ok (Some attended.Stuck)) = (stanza : List ℕ) × Takes left later (inputs.Stanza stanza) × Speaking old new [] × WasFull old.seen new.seen
TurnedBy line old new left later (Err error) = Unit {0}

-- Attending ended so: what was put is the first lines of the input, in order, and where it is done all of them, or the client takes no
-- more, or its queue was full; a line that is called bad is the first one
unfoldable pub AttendsBy : Option (List ℕ) → Known Entry → Known Entry → Result Attended AllocError → Type 0
AttendsBy input old new (Ok attended.Done) = Adds old new (IsTalk input) × (PutsAll input old new ⊎ TakesNoMore new)
AttendsBy input old new (Ok (attended.Bad n)) = IfSome input (λ bytes. IsFirstBad (lines_of bytes) n)
AttendsBy input old new (Ok attended.ReadFault) = Unit {0}
AttendsBy input old new (Ok attended.WriteFault) = Unit {0}
AttendsBy input old new (Ok attended.Stuck) = Adds old new (IsTalk input) × WasFull old.seen new.seen
AttendsBy input old new (Err error) = Unit {0}
