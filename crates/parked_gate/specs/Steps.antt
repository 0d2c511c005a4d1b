-- The steps of a seat: its view after each, and what each tells.
use Rattle.std.specs.Prelude.{◌≡◌, ◌≢◌, ◌==◌, ℕ, List, [], ◌∷◌, ◌++◌, length, Option, Some, None, MatchBool}
use Rattle.atomic_table.specs.Table.{Me, Step, rest}
use Rattle.parked_gate.specs.declared.view.View.{View}
use Rattle.parked_gate.specs.declared.view.Met.{Met}
use Rattle.parked_gate.specs.Histories.{StartsWith, calls_of, longer, Appends}

module _ {E : Type 0} where
  -- a seat that has no turn and has not drawn or met anything
  abbrev pub IsAtRest : View E → Type 0
  IsAtRest v = (v.gift ≡ None) × (v.turn ≡ None) × (v.held ≡ None) × (v.met ≡ None)

  abbrev pub queued : View E → ℕ → View E
  queued v turn = record v { turn = Some turn }

  abbrev pub holding : View E → List E → View E
  holding v log = record v { held = Some log }

  abbrev pub learned : View E → List E → View E
  learned v log = record v { seen = log; learnt = v.learnt ++ length log ∷ [] }

  -- the history has one entry more, and it is its own
  abbrev pub entered : View E → List E → List E → View E
  entered v log mine = record v { held = Some log; seen = log; mine = mine }

  abbrev pub rested : View E → View E
  rested v = record v { turn = None; held = None }

  abbrev pub endowed : View E → ℕ → View E
  endowed v number = record v { gift = Some number }

  -- what stays with a seat that is split, and what the new one has
  abbrev pub parted : View E → View E
  parted v = record v { gift = None }

  abbrev pub newcomer : View E → View E
  newcomer v = record { number = v.gift; gift = None; turn = None; held = None; seen = v.seen; mine = []; learnt = []; met = None }

  abbrev pub met_of : View E → Met E
  met_of v = record { number = v.number; seen = v.seen }

  -- what a seat has that takes in another, and what is left of that one
  abbrev pub meeting : View E → View E → View E
  meeting v w = record v { met = Some (met_of w) }

  abbrev pub nobody : View E
  nobody = record { number = None; gift = None; turn = None; held = None; seen = []; mine = []; learnt = []; met = None }

  abbrev pub compared : View E → Met E → View E
  compared v m = record v { seen = longer v.seen m.seen; met = None }

-- a view, and the slots that its seat has taken
abbrev pub SeatOf : Type 0 → Type 0 → Type 0
SeatOf O E = Me (Option O) (View E)

module _ {O E : Type 0} where
  -- draw: where the word was as expected, the turn is its own
  abbrev pub Draws : Step (Option O) → SeatOf O E → ℕ → SeatOf O E → Type 0
  Draws step me found after = MatchBool (found == step.first) (after ≡ (queued me.0 found, me.1)) (after ≡ me)

  -- watch: where its turn is served, it takes the object, and knows the object's history
  abbrev pub Watches : (O → List E) → Step (Option O) → SeatOf O E → ℕ → SeatOf O E → Type 0
  Watches history step me found after = (t : ℕ) → me.0.turn ≡ Some t
      → MatchBool (found == t) ((x : O) × (after ≡ (holding me.0 (history x), (0, Some x) ∷ me.1))) (after ≡ me)

  -- learn: it has seen the whole history, which goes on from what it had seen, with no entry of its own that it didn't know
  abbrev pub Learns : (E → ℕ) → Step (Option O) → SeatOf O E → ℕ → SeatOf O E → Type 0
  Learns caller_of step me found after = (log : List E) → me.0.held ≡ Some log
      → (after ≡ (learned me.0 log, me.1)) × (found ≡ length log) × StartsWith log me.0.seen
      × ((n : ℕ) → me.0.number ≡ Some n → calls_of caller_of n log ≡ me.0.mine)

  -- enter: the history is now the object's, and it has seen it
  abbrev pub Enters : (O → List E) → (E → ℕ) → Step (Option O) → SeatOf O E → ℕ → SeatOf O E → Type 0
  Enters history caller_of step me found after = (n : ℕ) (x : O) → me.0.number ≡ Some n → me.1 ≡ (0, Some x) ∷ []
      → after ≡ (entered me.0 (history x) (calls_of caller_of n (history x)), me.1)

  -- pass on: it has neither a turn nor the object
  abbrev pub PassesOn : Step (Option O) → SeatOf O E → ℕ → SeatOf O E → Type 0
  PassesOn step me found after = after ≡ (rested me.0, rest me.1)

  -- number: where the word was as expected, that number is its own to give, is not its own number, and made no entry
  abbrev pub Numbers : (E → ℕ) → Step (Option O) → SeatOf O E → ℕ → SeatOf O E → Type 0
  Numbers caller_of step me found after = MatchBool (found == step.first)
      ((after ≡ (endowed me.0 found, me.1)) × (me.0.number ≢ Some found) × (calls_of caller_of found me.0.seen ≡ []))
      (after ≡ me)

  -- compare: it keeps the longer of what it and the joined one had seen, which the other begins, and loses no entry of its own
  abbrev pub Compares : (E → ℕ) → Step (Option O) → SeatOf O E → ℕ → SeatOf O E → Type 0
  Compares caller_of step me found after = (m : Met E) → me.0.met ≡ Some m
      → (after ≡ (compared me.0 m, me.1))
      × StartsWith (longer me.0.seen m.seen) me.0.seen × StartsWith (longer me.0.seen m.seen) m.seen
      × ((n : ℕ) → m.number ≡ Some n → me.0.number ≢ Some n)
      × ((n : ℕ) → me.0.number ≡ Some n → calls_of caller_of n me.0.seen ≡ me.0.mine → calls_of caller_of n (longer me.0.seen m.seen) ≡ me.0.mine)

  -- The seat has its turn and has learnt the history, which is this log, and the object x has been called since: it has made
  -- one entry of this number, or none
  pub record HasRun (history : O → List E) (caller_of : E → ℕ) (me : SeatOf O E) (log : List E) (made : Option E) (x : O) (n : ℕ) : Type 0 where
    pub object : me.1 ≡ (0, Some x) ∷ []
    pub held : me.0.held ≡ Some log
    pub number : me.0.number ≡ Some n
    pub seen : me.0.seen ≡ log
    pub mine : calls_of caller_of n log ≡ me.0.mine
    pub appends : Appends caller_of n log made (history x)
