-- What a wait for a connection gave, by cases.
use Rattle.std.specs.Prelude.{⊤}
use Rattle.front_net.specs.declared.front_link.FrontLink.{FrontLink}
use Rattle.front_net.specs.declared.front_listener.Attempt.{Attempt}
use Rattle.front_net.specs.declared.front_listener.Attempt.TheVariants.{Link, Gone, Short, Failed}

-- where a link came, this holds of it
abbrev pub MatchAttempt : Attempt → (FrontLink → Type 0) → Type 0
MatchAttempt (Link link) on_link = on_link link
MatchAttempt Gone on_link = ⊤
MatchAttempt Short on_link = ⊤
MatchAttempt Failed on_link = ⊤
