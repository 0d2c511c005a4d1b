use Rattle.session_table.specs.Entering.{AreOf}
use Rattle.session_table.proofs.directory.Directory.resumed.Given as goal

abbrev pub invariant-loop-session : goal.invariant-loop-session
invariant-loop-session l = AreOf 0 l.directory
