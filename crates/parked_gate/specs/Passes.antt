-- What a pass knows, and what a call through a gate adds to it.
use Rattle.std.specs.Prelude.{◌≡◌, ℕ, List, ◌∷◌, ◌++◌, [], length, Option}
use Rattle.std.specs.Option.{option_to_list}
use Rattle.std.specs.Coded.{Coded}
use Rattle.atomic_table.specs.Seated.{TableId, table_id_coded}
use Rattle.parked_gate.specs.declared.object.Object.{Ghosts}
use Rattle.parked_gate.specs.declared.pass.Pass.{Pass}
use Rattle.parked_gate.specs.declared.gate.Gate.{Gate}
use Rattle.parked_gate.specs.Histories.{StartsWith, Appends}

-- a pass's number, the history that it has seen, its own entries there, and how long the history was each time it learnt it
pub record Known (E : Type 0) : Type 0 where
  pub number : ℕ
  pub seen : List E
  pub mine : List E
  pub learnt : List ℕ

-- which gate it is: a value that a ghost field may keep, with gate_id_coded as its proof that it may
abbrev pub GateId : Type 0
GateId = TableId

abbrev pub gate_id_coded : Coded GateId
gate_id_coded = table_id_coded

abbrev pub gate_of : {O C R A F Q W E : Type 0} → Gate O C R A F Q W E → GateId
gate_of gate = gate.table.shared.table_id

module _ {O C R A F Q W E : Type 0} {g : Ghosts O C R A F Q W E} where
  abbrev pub known : Pass O C R A F Q W E g → Known E
  known pass = record { number = pass.number; seen = pass.seat.me.0.seen; mine = pass.seat.me.0.mine; learnt = pass.seat.me.0.learnt }

  -- the gate that made a pass
  abbrev pub home_of : Pass O C R A F Q W E g → GateId
  home_of pass = pass.seat.table_id

  -- the pass was made by this gate
  abbrev pub IsPassOf : Gate O C R A F Q W E → Pass O C R A F Q W E g → Type 0
  IsPassOf gate pass = home_of pass ≡ gate_of gate

  -- what a pass has seen is a history that the object had
  abbrev pub IsLegalPass : Pass O C R A F Q W E g → Type 0
  IsLegalPass pass = ∥ g.is_legal (known pass).seen ∥₁

module _ {E : Type 0} where
  -- The pass took its turn. `before` is the history that it found, which goes on from what it had seen, and `made` the entry
  -- that was added there, if one was. It has seen the history after that, and has no entries of its own but the old ones and that one
  pub record Calls (caller_of : E → ℕ) (Says : List E → Option E → Type 0) (old new : Known E) : Type 0 where
    pub before : List E
    pub made : Option E
    pub begins : StartsWith before old.seen
    pub says : Says before made
    pub seen : Appends caller_of old.number before made new.seen
    pub mine : new.mine ≡ old.mine ++ option_to_list made
    pub earlier : List ℕ
    pub learnt : new.learnt ≡ (old.learnt ++ earlier) ++ length before ∷ []

  -- the pass looked at the whole history, which goes on from what it had seen, and added nothing
  pub record Looks (Says : List E → Type 0) (old new : Known E) : Type 0 where
    pub begins : StartsWith new.seen old.seen
    pub says : Says new.seen
    pub mine : new.mine ≡ old.mine
    pub earlier : List ℕ
    pub learnt : new.learnt ≡ (old.learnt ++ earlier) ++ length new.seen ∷ []

  -- the pass has seen more, and has looked more often, and nothing else
  pub record Grows (old new : Known E) : Type 0 where
    pub number : new.number ≡ old.number
    pub begins : StartsWith new.seen old.seen
    pub mine : new.mine ≡ old.mine
    pub earlier : List ℕ
    pub learnt : new.learnt ≡ old.learnt ++ earlier
