-- How a wait at the gate ended.
use Rattle.parked_gate.specs.declared.waits.Waited.{Waited}
use Rattle.parked_gate.specs.declared.waits.Waited.TheVariants.{Found, Silent}

module _ {F : Type 0} where
  -- the fact, of what was found
  abbrev pub IfFound : Waited F → (F → Type 0) → Type 0
  IfFound (Found found) P = P found
  IfFound Silent P = Unit {0}

  -- the fact, where nothing was found
  abbrev pub OnSilent : Waited F → Type 0 → Type 0
  OnSilent (Found found) P = Unit {0}
  OnSilent Silent P = P
