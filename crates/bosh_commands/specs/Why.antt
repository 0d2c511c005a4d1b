-- What is told to a person whose client didn't end well.
use Rattle.std.specs.Prelude.{ℕ, List, [], ◌++◌, codes, nat_lt, if◌then◌else◌}
use Rattle.std.specs.Fmt.{decimal}
use Rattle.bosh_types.specs.Condition.{name_of}
use Rattle.bosh_types.specs.Limits.{most_lines}
use Rattle.bosh_types.specs.declared.condition.Condition.{Condition}
use Rattle.client_run.specs.declared.running.ClientRan.{ClientRan}
use Rattle.client_run.specs.declared.running.ClientRan.TheVariants as ran

-- three responses in a row had another status than 200, the last this one
abbrev pub refused_line : ℕ → List ℕ
refused_line status = (codes "refused " ++ decimal status) ++ codes "\n"

-- a line of the input is bad
abbrev pub bad_end : ℕ → List ℕ
bad_end n = if nat_lt most_lines n then codes " is one too many\n" else codes " is no stanza\n"

abbrev pub bad_why : ℕ → List ℕ
bad_why n = (codes "robelava client: line " ++ decimal n) ++ bad_end n

-- the session was ended with a condition
abbrev pub ended_why : Condition → List ℕ
ended_why condition = (codes "robelava client: the session was ended: " ++ name_of condition) ++ codes "\n"

-- the line for how a client ran; none where it ended well
abbrev pub why_line : ClientRan → List ℕ
why_line ran.SpawnFault = codes "robelava client: no thread could be started\n"
why_line ran.NetFault = codes "robelava client: nobody listens at the port, or the connection failed\n"
why_line (ran.Refused status) = refused_line status
why_line (ran.Bad n) = bad_why n
why_line ran.ReadFault = codes "robelava client: the input failed\n"
why_line ran.WriteFault = codes "robelava client: the output failed\n"
why_line ran.Stuck = codes "stuck\n"
why_line (ran.Ended condition) = ended_why condition
why_line ran.Done = []
