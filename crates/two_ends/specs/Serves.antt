-- Where the session of a world can be opened.
use Rattle.std.specs.Prelude.{ℕ, ◌&&◌, Bool, List}
use Rattle.session_attrs.specs.Serving.{is_host_name, may_greet}

-- the host can stand in an answer, and its greeting fits one
abbrev pub serves : List ℕ → List (List ℕ) → Bool
serves host greeting = is_host_name host && may_greet greeting
