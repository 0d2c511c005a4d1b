-- The rule of the gate: how its words, its slot and the views of all seats stand to the one history.
-- The words are the length of the history, the next turn to draw, the turn that is served, and the next number for a pass.
use Rattle.std.specs.Prelude.{◌≡◌, ◌≢◌, ℕ, ◌+◌, ◌^◌, ◌<◌, ◌≤◌, List, [], ◌∷◌, length, All, Option, Some, None}
use mathlib.Core.Option.{some, none}
use mathlib.Core.Option.{Option as Place}
use lib.ListN.{get_elem?}
use Rattle.atomic_table.specs.Table.{State}
use Rattle.parked_gate.specs.declared.view.View.{View}
use Rattle.parked_gate.specs.declared.view.Met.{Met}
use Rattle.parked_gate.specs.Histories.{StartsWith, calls_of}

-- the view of the first pass, which has seen the object's whole history
abbrev pub first_view : {E : Type 0} → List E → View E
first_view log = record { number = Some 0; gift = None; turn = None; held = None; seen = log; mine = log; learnt = []; met = None }

abbrev pub turns_of : Option ℕ → ℕ
turns_of None = 0
turns_of (Some turn) = 1

-- how many views have a turn
abbrev pub waiting : {E : Type 0} → List (View E) → ℕ
waiting [] = 0
waiting (v ∷ vs) = turns_of v.turn + waiting vs

-- the object is at home with the whole history, or out with the seat that holds it
abbrev pub IsAt : {O E : Type 0} → (O → List E) → List E → List (Place (Option O)) → List (View E) → Option ℕ → Type 0
IsAt {O} history log homes views None = (x : O) × (homes ≡ some (Some x) ∷ []) × (history x ≡ log)
IsAt {O} {E} history log homes views (Some seat) = (homes ≡ none ∷ []) × ((v : View E) × (get_elem? views seat ≡ some v) × (v.held ≡ Some log))

-- how one seat's view stands to the history and the words
pub record Fits {E : Type 0} (caller_of : E → ℕ) (log : List E) (drawn serving numbers : ℕ) (turns owners : ℕ → ℕ) (out : Option ℕ) (seat : ℕ) (v : View E) : Type 0 where
  -- its turn is still to come or is served, and nobody else's
  pub turn : (t : ℕ) → v.turn ≡ Some t → (serving ≤ t) × (t < drawn) × (turns t ≡ seat)
  -- where it holds the object its turn is served, and it knows the whole history
  pub held : (l : List E) → v.held ≡ Some l → (out ≡ Some seat) × (l ≡ log) × (v.turn ≡ Some serving)
  -- its number was drawn and is nobody else's, and its own entries are all that the history has of that number
  pub number : (n : ℕ) → v.number ≡ Some n → (n < numbers) × (owners n ≡ seat) × (calls_of caller_of n log ≡ v.mine)
  -- a number that it drew for another pass was not used yet
  pub gift : (n : ℕ) → v.gift ≡ Some n → (n < numbers) × (owners n ≡ seat) × (calls_of caller_of n log ≡ []) × (v.number ≢ Some n)
  pub seen : StartsWith log v.seen
  -- a pass that was joined to it had seen a beginning too, and had another number
  pub met : (m : Met E) → v.met ≡ Some m → StartsWith log m.seen × ((n : ℕ) → m.number ≡ Some n → v.number ≢ Some n)

-- There is one history: the words count it, the turns and the numbers, the object has it, and each view fits it
pub record Kept {O E : Type 0} (history : O → List E) (caller_of : E → ℕ) (s : State (Option O) (View E)) : Type 0 where
  pub log : List E
  pub drawn : ℕ
  pub serving : ℕ
  pub numbers : ℕ
  -- whose each turn and each number is
  pub turns : ℕ → ℕ
  pub owners : ℕ → ℕ
  pub out : Option ℕ
  pub words : s.words ≡ length log ∷ drawn ∷ serving ∷ numbers ∷ []
  pub queue : serving + waiting s.views ≡ drawn
  pub room : drawn < 2 ^ 64
  pub place : IsAt history log s.homes s.views out
  pub callers : All (λ e. caller_of e < numbers) log
  pub fits : (seat : ℕ) (v : View E) → get_elem? s.views seat ≡ some v → Fits caller_of log drawn serving numbers turns owners out seat v
