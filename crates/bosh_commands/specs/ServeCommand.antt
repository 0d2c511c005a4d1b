-- What a server tells, and what its status says.
use Rattle.std.specs.Prelude.{ℕ, List, ◌++◌, Option, codes}
use Rattle.std.specs.Fmt.{decimal}
use Rattle.std.specs.Io.KnownBytes.{Appends}
use Rattle.server_ports.specs.Counts.{Counts}
use Rattle.bosh_server.specs.Runs.{Accepts, IsEnough}

-- the line that tells how many links were served
abbrev pub served_line : ℕ → List ℕ
served_line links = (codes "served " ++ decimal links) ++ codes "\n"

-- So many links were accepted, which is what was written after the word that connections are taken. The network stopped, or as
-- many came as were planned
pub record Served (planned : ℕ) (old new : Counts) (given given' : Option (List ℕ)) : Type 0 where
  pub links : ℕ
  pub accepts : Accepts old new links
  pub enough : IsEnough planned old new links
  pub written : Appends given given' (codes "serving\n" ++ served_line links)
