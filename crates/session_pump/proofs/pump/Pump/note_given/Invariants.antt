use Rattle.std.specs.Prelude.{◌≡◌, ℕ, take}
use Rattle.std.specs.List.{Contains}
use Rattle.pause_rules.specs.NextDue.{moment_of}
use Rattle.session_pump.specs.Dues.{AskDues, IsNoted, IsOver}
use Rattle.session_pump.proofs.pump.Pump.note_given.Given as goal

abbrev pub invariant-loop-number : goal.invariant-loop-number
invariant-loop-number g l = record {
  directory : l.self.purse.directory ≡ l.fn.self.purse.directory;
  lines : l.self.lines ≡ l.fn.self.lines;
  hosts : l.self.hosts ≡ l.fn.self.hosts;
  noted : (number : ℕ) → Contains (take l.number-index l.numbers) number → IsNoted number l.self.purse.sessions l.self.dues;
  others : (number : ℕ) → (Contains l.numbers number → ⊥) → moment_of l.self.dues number ≡ moment_of l.fn.self.dues number;
  asked : AskDues l.fn.self.purse.sessions (take l.number-index l.numbers) l.self.purse.sessions;
  over : (number : ℕ) → Contains (take l.number-index l.numbers) number → IsOver number l.self.purse.sessions l.self.dues → Contains l.over.items number;
  kept : (number : ℕ) → Contains l.fn.over.items number → Contains l.over.items number;
}
