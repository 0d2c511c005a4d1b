-- What the back ends of a host gave on the wire of a stream, and what became of it.
use Rattle.std.specs.Prelude.{◌≡◌, ◌≢◌, ◌==◌, ◌&&◌, ◌/◌, ◌%◌, ℕ, Bool, false, List, [], ◌∷◌, ◌++◌, map, filter, Option, Some, None, IfSome, if◌then◌else◌, option_map, option_to_list}
use Rattle.std.specs.List.{filter_map}
use Rattle.bosh_types.specs.Limits.{most_streams}
use Rattle.xmpp_backend.specs.Told.{Told, wires_of}
use Rattle.xmpp_backend.specs.declared.backend.Given.{Given}
use Rattle.xmpp_backend.specs.declared.backend.Given.TheVariants as given
use Rattle.session_pump.specs.Ends.{End, Ends}
use Rattle.session_pump.specs.declared.line.Owing.{Owing}
use Rattle.session_pump.specs.declared.line.Stage.{Stage}
use Rattle.session_pump.specs.declared.line.Stage.TheVariants as stages
use Rattle.pump_laws.specs.InTurn.{Every, in_turn}

abbrev pub stanza_in : Given → Option (List ℕ)
stanza_in (given.Stanza text) = Some text
stanza_in (given.Closed closing) = None

-- the stanza that was given on this wire
abbrev pub stanza_for : ℕ → ℕ × Given → Option (List ℕ)
stanza_for wire entry = if entry.0 == wire then stanza_in entry.1 else None

-- what a back end tells of a wire: how often it was opened there, and the stanzas that polls gave on it, in order
pub record ToldFor : Type 0 where
  pub opened : List ℕ
  pub stanzas : List (List ℕ)

abbrev pub told_by : ℕ → Told → ToldFor
told_by wire told = record {
  opened = filter (λ other. other == wire) (wires_of told.opened);
  stanzas = filter_map (stanza_for wire) told.given;
}

abbrev pub told_for : ℕ → End → Option ToldFor
told_for wire end = option_map (told_by wire) end.told

-- and what each of a host's tells
abbrev pub told_in_turn : ℕ → Ends → List (Option ToldFor)
told_in_turn wire ends = map (told_for wire) (in_turn ends)

-- it wasn't opened there, and no stanza was given
abbrev pub IsIdle : Option ToldFor → Type 0
IsIdle told = told ≡ Some (record { opened = []; stanzas = [] })

-- the stanza that is kept
abbrev pub stanzas_owed : Option Owing → List (List ℕ)
stanzas_owed None = []
stanzas_owed (Some owing) = option_to_list (stanza_in owing.given)

-- it is for the session and the stream of this wire
abbrev pub is_of : ℕ → Owing → Bool
is_of wire owing = (owing.number == wire / most_streams) && (owing.stream == wire % most_streams)

-- the stanza that is kept for them
abbrev pub stanzas_kept : ℕ → Option Owing → List (List ℕ)
stanzas_kept wire None = []
stanzas_kept wire (Some owing) = if is_of wire owing then option_to_list (stanza_in owing.given) else []

-- nothing is kept for them
abbrev pub KeepsNone : ℕ → Option Owing → Type 0
KeepsNone wire kept = IfSome kept (λ owing. is_of wire owing ≡ false)

-- one back end gave what is said, and each other nothing
pub record OneGave (Says : List (List ℕ) → Type 0) (told : List (Option ToldFor)) : Type 0 where
  pub earlier : List (Option ToldFor)
  pub one : Option ToldFor
  pub later : List (Option ToldFor)
  pub are : told ≡ earlier ++ one ∷ later
  pub idle_earlier : Every IsIdle earlier
  pub idle_later : Every IsIdle later
  pub says : IfSome one (λ told. Says told.stanzas)

-- What the back ends of a stream's host gave on its wire, by the stanzas that were given to the session on that stream, what its side owes, and what the
-- host keeps: nothing before its wire was opened; and then one of them gave the stanzas that were given to the session on it, the one that its side owes,
-- and the one that the host keeps for it, in this order
pub data GaveOf (wire : ℕ) (all : List (List ℕ)) (stage : Stage) (owed kept : Option Owing) (told : List (Option ToldFor)) : Type 0 where
  gave_nothing : stage ≡ stages.Unopened → Every IsIdle told → all ≡ [] → owed ≡ None → KeepsNone wire kept → GaveOf wire all stage owed kept told
  gave_these : stage ≢ stages.Unopened → OneGave (λ stanzas. stanzas ≡ all ++ (stanzas_owed owed ++ stanzas_kept wire kept)) told
      → GaveOf wire all stage owed kept told
