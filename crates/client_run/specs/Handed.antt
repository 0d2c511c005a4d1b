-- What was handed out to a caller, and that it was written.
use Rattle.std.specs.Prelude.{◌≡◌, ◌⊎◌, ℕ, Bool, true, false, List, [], ◌∷◌, ◌++◌, flat_map, Option, Some, Result, Ok, Err}
use Rattle.std.specs.List.{list_any}
use Rattle.std.specs.Io.KnownBytes.{Appends}
use Rattle.std.specs.declared.alloc.AllocError.{AllocError}
use Rattle.bosh_ports.specs.Faults.{HasRisen}
use Rattle.bosh_ports.specs.Sink.{AppendsFront}
use Rattle.parked_gate.specs.Histories.{StartsWith}
use Rattle.parked_gate.specs.Passes.{Known}
use Rattle.client_run.specs.declared.entry.Entry.{Entry}
use Rattle.client_run.specs.declared.running.ClientRan.{ClientRan}
use Rattle.client_run.specs.declared.running.ClientRan.TheVariants as ran
use Rattle.client_run.specs.declared.draining.Written.{Written}
use Rattle.client_run.specs.declared.draining.Written.TheVariants as written
use Rattle.client_run.specs.declared.talking.Talked.{Talked}
use Rattle.client_run.specs.declared.talking.Talked.TheVariants as talked
use Rattle.client_run.specs.Adding.{Adds, is_entry, is_hand_out}
use Rattle.client_run.specs.Handing.{HandsOut, Out, line_of}

-- the caller has seen more, and nothing was handed out to it
pub record GoesOn (old new : Known Entry) : Type 0 where
  pub begins : StartsWith new.seen old.seen
  pub adds : Adds old new (λ added. list_any (is_entry is_hand_out) added ≡ false)

-- these stanzas and no others were handed out to the caller, one after the other
pub data Hands : Known Entry → Known Entry → List (List ℕ) → Type 0 where
  none : {s : Known Entry} → Hands s s []
  goes_on : {s t : Known Entry} {stanzas : List (List ℕ)} (new : Known Entry) → Hands s t stanzas → GoesOn t new → Hands s new stanzas
  hands_out : {s t : Known Entry} {stanzas : List (List ℕ)} (new : Known Entry) (stanza : List ℕ) → Hands s t stanzas → HandsOut t new (Ok (Some stanza)) → Hands s new (stanzas ++ stanza ∷ [])

-- a line for each
abbrev pub as_lines : List (List ℕ) → List ℕ
as_lines stanzas = flat_map line_of stanzas

-- a sink was given all of these bytes; or, where it need not be whole, a front of them, since it failed
abbrev pub GivesUpTo : Bool → Option (List ℕ) → Option (List ℕ) → ℕ → ℕ → List ℕ → Type 0
GivesUpTo true old new faults later bytes = Appends old new bytes
GivesUpTo false old new faults later bytes = Appends old new bytes ⊎ (AppendsFront old new bytes × HasRisen faults later)

-- what was handed out to the caller was written, each stanza as a line, and nothing else; by such counts of the sink's faults
pub record Handed (whole : Bool) (s t : Out) (faults later : ℕ) : Type 0 where
  pub stanzas : List (List ℕ)
  pub hands : Hands s.known t.known stanzas
  pub gives : GivesUpTo whole s.given t.given faults later (as_lines stanzas)

-- all is written of a client that ran to its end
abbrev pub is_whole : Result ClientRan AllocError → Bool
is_whole (Ok ran.SpawnFault) = false
is_whole (Ok ran.NetFault) = false
is_whole (Ok (ran.Refused status)) = false
is_whole (Ok (ran.Bad n)) = false
is_whole (Ok ran.ReadFault) = false
is_whole (Ok ran.WriteFault) = false
is_whole (Ok ran.Stuck) = true
is_whole (Ok (ran.Ended condition)) = true
is_whole (Ok ran.Done) = true
is_whole (Err error) = false

-- and of talking that the sink didn't end, and of writing
abbrev pub is_talk_whole : Result Talked AllocError → Bool
is_talk_whole (Ok talked.Done) = true
is_talk_whole (Ok (talked.Bad n)) = true
is_talk_whole (Ok talked.ReadFault) = true
is_talk_whole (Ok talked.WriteFault) = false
is_talk_whole (Err error) = true

abbrev pub is_write_whole : Result Written AllocError → Bool
is_write_whole (Ok written.Done) = true
is_write_whole (Ok written.WriteFault) = false
is_write_whole (Err error) = true
